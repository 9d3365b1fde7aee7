-- `ack_steps::mark_all` meets its contract. Assumes nothing.
use Rattle.process_ack.specs.Ack.{marks_after}
use Rattle.ack_steps.specs.Steps.{Flights}
use Rattle.ack_steps.proofs.mark_all.Given as goal

abbrev pub invariant-loop-i : goal.invariant-loop-i
invariant-loop-i l = Flights (λ x. marks_after l.p.content.now l.p.count x l.i) l.numbers l.initial.f l.f
