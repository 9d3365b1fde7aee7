-- `recv_key_steps::key` meets its contract: 12, 13, 23, then the epoch keyed. Assumes nothing.
use mathlib.Core.Path.{refl, sym, ◌∙◌}
use Rattle.base.specs.Choose.{if_true, if_false}
use borrow.Author.Tests.{lt-leb, le-leb, lt-ltb, le-ltb}
use Rattle.datagram.specs.Sound.{ready}
use Rattle.recv_keys.specs.Laws.{not_full}
use Rattle.receiving.specs.Receiving.{key_of}
use Rattle.recv_key_steps.specs.Kept.{as_kept, as_made}
use Rattle.recv_key_steps.proofs.key.Goals as goal

pub is_sound-requires : goal.is_sound-requires
is_sound-requires c = c.datagram_of-b.ensures

pub returns-then-epoch-lt2 : goal.returns-then-epoch-lt2
unfolding key_of
returns-then-epoch-lt2 c = as_kept _ _ _ (if_true _ _ (sym (rw c.datagram_of-b.ensures at c.is_sound.ensures) ∙ c.if-is_sound.true) ∙ if_true _ _ (lt-ltb _ _ c.if-epoch-lt2.true))

pub returns-then-epoch-low : goal.returns-then-epoch-low
unfolding key_of
returns-then-epoch-low c = as_kept _ _ _ (if_true _ _ (sym (rw c.datagram_of-b.ensures at c.is_sound.ensures) ∙ c.if-is_sound.true) ∙ if_false _ _ (le-ltb _ _ c.if-epoch-lt2.false) ∙ if_true _ _ (rw c.low.ensures at (le-leb _ _ c.if-epoch-low.true)))

pub is_full-requires : goal.is_full-requires
is_full-requires c = (ready _ _ (sym c.is_sound.ensures ∙ c.if-is_sound.true)).keys.count

pub returns-then-is_full : goal.returns-then-is_full
unfolding key_of
returns-then-is_full c = as_kept _ _ _ (if_true _ _ (sym (rw c.datagram_of-b.ensures at c.is_sound.ensures) ∙ c.if-is_sound.true) ∙ if_false _ _ (le-ltb _ _ c.if-epoch-lt2.false) ∙ if_false _ _ (rw c.low.ensures at (lt-leb _ _ c.if-epoch-low.false)) ∙ if_true _ _ (sym c.is_full.ensures ∙ c.if-is_full.true))

pub install-requires : goal.install-requires
install-requires c = (not_full _ _ (sym c.is_full.ensures ∙ c.if-is_full.false), refl)

pub returns-then-is_sound : goal.returns-then-is_sound
unfolding key_of
returns-then-is_sound c = as_made _ _ _ _ _ _ (if_true _ _ (sym (rw c.datagram_of-b.ensures at c.is_sound.ensures) ∙ c.if-is_sound.true) ∙ if_false _ _ (le-ltb _ _ c.if-epoch-lt2.false) ∙ if_false _ _ (rw c.low.ensures at (lt-leb _ _ c.if-epoch-low.false)) ∙ if_false _ _ (sym c.is_full.ensures ∙ c.if-is_full.false)) c.install.ensures.0 c.install.ensures.1.0 c.install.ensures.1.1

pub returns : goal.returns
unfolding key_of
returns c = as_kept _ _ _ (if_false _ _ (sym (rw c.datagram_of-b.ensures at c.is_sound.ensures) ∙ c.if-is_sound.false))
