-- `ack_steps::mark_all` meets its contract. Assumes nothing.
use mathlib.Core.Path.{refl}
use Rattle.process_ack.specs.Ack.{marks_after}
use Rattle.ack_steps.specs.Steps.{marks-more}
use Rattle.ack_steps.proofs.mark_all.Goals as goal

pub loop-i-init : goal.loop-i-init
unfolding marks_after
loop-i-init c = (refl, λ f. f)

pub loop-i-preserved : goal.loop-i-preserved
loop-i-preserved c = marks-more c.args.p.content.now c.args.p.count c.loop-i.i c.args.numbers.now c.args.f.now c.loop-i.f _ c.loop-i.invariant c.mark.ensures
