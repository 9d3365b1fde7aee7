-- `ack_steps::empty` meets its contract. Assumes nothing.
use native.Mathlib.Omega.{arith}
use mathlib.Core.Path.{ap, ◌∙◌}
use Rattle.process_ack.specs.Ack.{tally_after}
use Rattle.ack_steps.specs.Steps.{one-unmarked, all-marked, none-there}
use Rattle.ack_steps.proofs.empty.Goals as goal

pub returns-then-left : goal.returns-then-left
returns-then-left c n = one-unmarked c.args.f.now n c.tally_of-t.result (c.tally_of-t.ensures n ∙ ap (tally_after _) c.requires.0) c.if-t.true c.if-left.true

pub returns-then-t : goal.returns-then-t
returns-then-t c n = all-marked c.args.f.now n c.tally_of-t.result (c.tally_of-t.ensures n ∙ ap (tally_after _) c.requires.0) (omega arith) c.if-t.true c.if-left.false

pub returns : goal.returns
returns c n = none-there c.args.f.now n c.tally_of-t.result (c.tally_of-t.ensures n ∙ ap (tally_after _) c.requires.0) c.if-t.false
