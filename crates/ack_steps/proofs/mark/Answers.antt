-- `ack_steps::mark` meets its contract. Assumes nothing.
use Rattle.ack_steps.specs.Steps.{marks-one}
use Rattle.ack_steps.proofs.mark.Goals as goal

pub returns : goal.returns
returns c = marks-one c.args.p.content.now c.args.p.count c.args.i c.args.numbers.now c.args.f.now _ c.requires (rw c.entry_of-e.ensures at c.acknowledges-m.ensures) c.put_mark.ensures
