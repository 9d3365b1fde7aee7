-- `recv_steps::cancel` meets its contract, by cases on the question. Assumes nothing.
use mathlib.Core.Path.{sym, ap, ◌∙◌}
use native.Mathlib.Omega.{arith}
use Rattle.datagram.specs.Sound.{held-mask, held_open, ready}
use Rattle.opening_reply.specs.Opening.{cancelled}
use Rattle.datagram.specs.declared.Question.{Question}
use Rattle.recv_steps.proofs.cancel.Goals as goal

pub cancel_ask-requires : goal.cancel_ask-requires
cancel_ask-requires c = let r = ready _ _ c.requires in let h = held-mask _ _ c.requires _ c.in-Mask.is in omega (arith, h.head, h.fits, r.at, r.size)

pub cancel_ask-requires-in-Opening : goal.cancel_ask-requires-in-Opening
cancel_ask-requires-in-Opening c = let r = ready _ _ c.requires in let h = held_open _ _ c.requires _ _ c.in-Opening.is in omega (arith, h.1.head, h.1.fits, r.at, r.size)

pub returns-in-Nothing : goal.returns-in-Nothing
unfolding cancelled
returns-in-Nothing c = rw c.in-Nothing.is

pub returns-in-Mask : goal.returns-in-Mask
unfolding cancelled
returns-in-Mask c = c.cancel_ask.ensures ∙ sym (ap (λ (x : Question). cancelled x c.args.b c.args.epoch) c.in-Mask.is)

pub returns-in-Opening : goal.returns-in-Opening
unfolding cancelled
returns-in-Opening c = c.cancel_ask-in-Opening.ensures ∙ sym (ap (λ (x : Question). cancelled x c.args.b c.args.epoch) c.in-Opening.is)
