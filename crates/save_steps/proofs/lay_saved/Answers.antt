-- `save_steps::lay_saved` meets its contract. Assumes nothing.
use Rattle.save_steps.proofs.lay_saved.Goals as goal

pub returns : goal.returns
returns c = (c.lay.ensures.0, c.lay.ensures.1, rw c.next_of-number.ensures at c.put_saved.ensures)
