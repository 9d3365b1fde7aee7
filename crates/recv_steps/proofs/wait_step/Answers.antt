-- `recv_steps::wait_step` meets its contract: 12, 15, then the question that waits. Assumes nothing.
use mathlib.Core.Path.{◌∙◌, sym}
use native.Mathlib.Omega.{arith}
use Rattle.datagram.specs.Sound.{held-mask, ready}
use Rattle.records.proofs.Leads.{read-asks, read-other, read-out}
use Rattle.records.specs.Records.{asking}
use Rattle.recv_steps.proofs.wait_step.Goals as goal

pub is_sound-requires : goal.is_sound-requires
is_sound-requires c = c.requires.0

pub overflow_add-at : goal.overflow_add-at
overflow_add-at c = let t = sym c.is_sound.ensures ∙ c.if-is_sound.true in let r = ready _ _ t in let h = held-mask _ _ t _ c.in-Mask.is in omega (arith, h.head, r.at, r.size)

pub ask_again-requires : goal.ask_again-requires
ask_again-requires c = (ready _ _ (sym c.is_sound.ensures ∙ c.if-is_sound.true)).keys.count

pub returns-in-Nothing : goal.returns-in-Nothing
returns-in-Nothing c = absurd (c.requires.1 (record { sound = sym c.is_sound.ensures ∙ c.if-is_sound.true; size = c.if-d-size.true; idle = c.in-Nothing.is }))

pub returns-in-Mask : goal.returns-in-Mask
unfolding asking
returns-in-Mask c = c.tell-in-Mask.ensures ∙ sym (read-asks _ _ _ _ (sym c.is_sound.ensures ∙ c.if-is_sound.true) c.if-d-size.true c.in-Mask.is)

pub returns-in-Opening : goal.returns-in-Opening
unfolding asking
returns-in-Opening c = c.ask_again.ensures ∙ sym (read-asks _ _ _ _ (sym c.is_sound.ensures ∙ c.if-is_sound.true) c.if-d-size.true c.in-Opening.is)

pub returns-then-is_sound : goal.returns-then-is_sound
unfolding asking
returns-then-is_sound c = c.tell-then-is_sound.ensures ∙ sym (read-other _ _ _ (sym c.is_sound.ensures ∙ c.if-is_sound.true) c.if-d-size.false)

pub returns : goal.returns
unfolding asking
returns c = c.tell-2.ensures ∙ sym (read-out _ _ _ (sym c.is_sound.ensures ∙ c.if-is_sound.false))
