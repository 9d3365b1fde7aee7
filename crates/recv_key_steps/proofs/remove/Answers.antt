-- `recv_key_steps::remove` meets its contract. Assumes nothing.
use Rattle.recv_keys.specs.Keys.{Found}
use mathlib.Core.Path.{sym, ap, ◌∙◌}
use Rattle.base.specs.Choose.{if_true, if_false}
use native.Mathlib.Omega.{arith}
use Rattle.datagram.specs.Sound.{ready}
use Rattle.recv_keys.specs.Laws.{found-keyed}
use Rattle.receiving.specs.Receiving.{remove_of, removed_by}
use Rattle.recv_key_steps.specs.Kept.{as_kept, kept_by}
use Rattle.recv_key_steps.specs.Kept.{state_of}
use Rattle.recv_key_steps.proofs.remove.Goals as goal

pub is_sound-requires : goal.is_sound-requires
is_sound-requires c = c.datagram_of-b.ensures

pub find_epoch-f-requires : goal.find_epoch-f-requires
find_epoch-f-requires c = (ready _ _ (sym c.is_sound.ensures ∙ c.if-is_sound.true)).keys.count

pub leave-requires : goal.leave-requires
leave-requires c = (sym c.is_sound.ensures ∙ c.if-is_sound.true, omega (arith, found-keyed _ _ _ _ (sym c.find_epoch-f.ensures ∙ c.in-Some.is)), c.requires)

pub returns-in-None : goal.returns-in-None
unfolding remove_of removed_by
returns-in-None c = as_kept _ _ _ (if_true _ _ (sym (rw c.datagram_of-b.ensures at c.is_sound.ensures) ∙ c.if-is_sound.true) ∙ ap (λ (x : Found). removed_by x (state_of c.args.w.now) c.args.epoch) (sym c.find_epoch-f.ensures ∙ c.in-None.is))

pub returns-in-Some : goal.returns-in-Some
unfolding remove_of removed_by
returns-in-Some c = kept_by _ _ _ _ _ (if_true _ _ (sym (rw c.datagram_of-b.ensures at c.is_sound.ensures) ∙ c.if-is_sound.true) ∙ ap (λ (x : Found). removed_by x (state_of c.args.w.now) c.args.epoch) (sym c.find_epoch-f.ensures ∙ c.in-Some.is)) (rw c.datagram_of-b.ensures at c.leave.ensures)

pub returns : goal.returns
unfolding remove_of
returns c = as_kept _ _ _ (if_false _ _ (sym (rw c.datagram_of-b.ensures at c.is_sound.ensures) ∙ c.if-is_sound.false))
