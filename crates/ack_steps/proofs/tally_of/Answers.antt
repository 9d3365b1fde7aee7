-- `ack_steps::tally_of` meets its contract. Assumes nothing.
use mathlib.Core.Path.{refl, ap, ◌∙◌}
use native.Mathlib.Omega.{arith}
use Rattle.process_ack.specs.Ack.{tally_with, tally_after}
use Rattle.ack_steps.specs.Steps.{tally-more}
use Rattle.ack_steps.proofs.tally_of.Goals as goal

pub loop-i-init : goal.loop-i-init
unfolding tally_after
loop-i-init c n = refl

pub loop-i-preserved : goal.loop-i-preserved
loop-i-preserved c n = c.tallied-t.ensures ∙ ap (tally_with _) c.entry_of.ensures ∙ tally-more c.loop-i.i c.args.f.now n (omega (arith, c.loop-i-test.true, c.requires)) (c.loop-i.invariant n)
