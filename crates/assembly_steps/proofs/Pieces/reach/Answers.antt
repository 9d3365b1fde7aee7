-- `assembly_steps::Pieces::reach` meets its contract. Assumes nothing.
use Rattle.assembly_steps.proofs.Held.{reach_some}
use Rattle.assembly_steps.proofs.Pieces.reach.Goals as goal

pub returns : goal.returns
returns c = reach_some c.args.self.words.now c.args.self.count c.args.i c.in_ok-k.k c.in_ok-k.ensures
