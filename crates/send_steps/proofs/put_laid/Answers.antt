-- `send_steps::put_laid` meets its contract. Assumes nothing.
use Rattle.send_steps.specs.Steps.{all_laid}
use Rattle.send_steps.proofs.put_laid.Goals as goal

pub returns : goal.returns
returns c = all_laid _ _ _ _ c.requires c.use_number.ensures c.wait_for.ensures (rw c.record_len-len.ensures at c.put_end.ensures)
