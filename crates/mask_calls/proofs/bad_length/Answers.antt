-- `mask_calls::bad_length` meets its contract. Assumes nothing.
use mathlib.Core.Path.{sym, ◌∙◌}
use borrow.Author.Tests.{lt-ltb, le-ltb, le-leb, lt-leb}
use Rattle.base.specs.Choose.{if_true, if_false}
use Rattle.recv_key_steps.specs.Kept.{state_of}
use Rattle.mask_calls.specs.Laws.{bad_setting, bad_low, bad_order, bad_key}
use Rattle.mask_calls.proofs.bad_length.Goals as goal

pub returns-then-epoch-lt2 : goal.returns-then-epoch-lt2
returns-then-epoch-lt2 c = λ iv. let a = c.args in bad_low (state_of a.w.now) a.epoch iv (sym c.words_sound.ensures ∙ c.if-words_sound.true) (lt-ltb _ _ c.if-epoch-lt2.true) ∙ sym (if_true _ _ (sym c.is_flat.ensures ∙ c.if-is_flat.true))

pub returns-then-epoch-low : goal.returns-then-epoch-low
returns-then-epoch-low c = λ iv. let a = c.args in bad_order (state_of a.w.now) a.epoch iv (sym c.words_sound.ensures ∙ c.if-words_sound.true) (le-ltb _ _ c.if-epoch-lt2.false) (le-leb _ _ (rw c.low.ensures at c.if-epoch-low.true)) ∙ sym (if_true _ _ (sym c.is_flat.ensures ∙ c.if-is_flat.true))

pub returns-then-words_sound : goal.returns-then-words_sound
returns-then-words_sound c = λ iv. let a = c.args in bad_key (state_of a.w.now) a.epoch iv (sym c.words_sound.ensures ∙ c.if-words_sound.true) (le-ltb _ _ c.if-epoch-lt2.false) (lt-leb _ _ (rw c.low.ensures at c.if-epoch-low.false)) ∙ sym (if_true _ _ (sym c.is_flat.ensures ∙ c.if-is_flat.true))

pub returns-then-is_flat : goal.returns-then-is_flat
returns-then-is_flat c = λ iv. let a = c.args in bad_setting (state_of a.w.now) a.epoch iv (sym c.words_sound.ensures ∙ c.if-words_sound.false) ∙ sym (if_true _ _ (sym c.is_flat.ensures ∙ c.if-is_flat.true))

pub returns : goal.returns
returns c = λ iv. sym (if_false _ _ (sym c.is_flat.ensures ∙ c.if-is_flat.false))
