-- `recv_calls::mask` meets its contract. Assumes nothing.
use Rattle.recv_calls.proofs.mask.Goals as goal

pub returns : goal.returns
returns c = rw c.lay.ensures c.reply_mask.ensures
