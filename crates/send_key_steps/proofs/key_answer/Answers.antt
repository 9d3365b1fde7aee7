-- `send_key_steps::key_answer` meets its contract: 12, 13, 23 in this order. Assumes nothing.
use borrow.Author.Tests.{lt-ltb, le-ltb, le-leb, lt-leb, eq-eqb, ne_eqb}
use mathlib.Core.Path.{sym, ◌∙◌}
use Rattle.base.specs.Choose.{if_true, if_false}
use Rattle.send_keys.specs.Keys.{key_answer}
use Rattle.send_key_steps.proofs.key_answer.Goals as goal

pub returns-then-not-is_sound : goal.returns-then-not-is_sound
unfolding key_answer
returns-then-not-is_sound c = sym (if_false _ _ (sym c.is_sound.ensures ∙ c.if-not-is_sound.true))

pub returns-then-epoch-lt2 : goal.returns-then-epoch-lt2
unfolding key_answer
returns-then-epoch-lt2 c = sym (if_true _ _ (sym c.is_sound.ensures ∙ c.if-not-is_sound.false) ∙ if_true _ _ (lt-ltb _ _ c.if-epoch-lt2.true))

pub returns-then-epoch-low : goal.returns-then-epoch-low
unfolding key_answer
returns-then-epoch-low c = sym (if_true _ _ (sym c.is_sound.ensures ∙ c.if-not-is_sound.false) ∙ if_false _ _ (le-ltb _ _ c.if-epoch-lt2.false) ∙ if_true _ _ (rw c.low.ensures at (le-leb _ _ c.if-epoch-low.true)))

pub returns-then-epoch-application : goal.returns-then-epoch-application
unfolding key_answer
returns-then-epoch-application c = sym (if_true _ _ (sym c.is_sound.ensures ∙ c.if-not-is_sound.false) ∙ if_false _ _ (le-ltb _ _ c.if-epoch-lt2.false) ∙ if_false _ _ (rw c.low.ensures at (lt-leb _ _ c.if-epoch-low.false)) ∙ if_true _ _ (rw c.low-application.ensures at (le-leb _ _ c.if-epoch-application.true)))

pub returns-then-application-eq0 : goal.returns-then-application-eq0
unfolding key_answer
returns-then-application-eq0 c = sym (if_true _ _ (sym c.is_sound.ensures ∙ c.if-not-is_sound.false) ∙ if_false _ _ (le-ltb _ _ c.if-epoch-lt2.false) ∙ if_false _ _ (rw c.low.ensures at (lt-leb _ _ c.if-epoch-low.false)) ∙ if_false _ _ (rw c.low-application.ensures at (lt-leb _ _ c.if-epoch-application.false)) ∙ if_true _ _ (rw c.low-application.ensures at (eq-eqb _ _ c.if-application-eq0.true)))

pub returns-then-w : goal.returns-then-w
unfolding key_answer
returns-then-w c = sym (if_true _ _ (sym c.is_sound.ensures ∙ c.if-not-is_sound.false) ∙ if_false _ _ (le-ltb _ _ c.if-epoch-lt2.false) ∙ if_false _ _ (rw c.low.ensures at (lt-leb _ _ c.if-epoch-low.false)) ∙ if_false _ _ (rw c.low-application.ensures at (lt-leb _ _ c.if-epoch-application.false)) ∙ if_false _ _ (rw c.low-application.ensures at (ne_eqb _ _ c.if-application-eq0.false)) ∙ if_true _ _ (lt-ltb _ _ c.if-w.true))

pub returns : goal.returns
unfolding key_answer
returns c = sym (if_true _ _ (sym c.is_sound.ensures ∙ c.if-not-is_sound.false) ∙ if_false _ _ (le-ltb _ _ c.if-epoch-lt2.false) ∙ if_false _ _ (rw c.low.ensures at (lt-leb _ _ c.if-epoch-low.false)) ∙ if_false _ _ (rw c.low-application.ensures at (lt-leb _ _ c.if-epoch-application.false)) ∙ if_false _ _ (rw c.low-application.ensures at (ne_eqb _ _ c.if-application-eq0.false)) ∙ if_false _ _ (le-ltb _ _ c.if-w.false))
