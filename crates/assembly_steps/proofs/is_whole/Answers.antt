-- `assembly_steps::is_whole` meets its contract. Assumes nothing.
use Rattle.assembly.specs.Spans.{is_whole}
use Rattle.assembly_steps.proofs.is_whole.Goals as goal

pub returns : goal.returns
unfolding is_whole
returns c = rw (c.new.ensures.0, c.new.ensures.1) at c.covers_all.ensures
