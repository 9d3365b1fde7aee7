-- `send_steps::spot_of` meets its contract. Assumes nothing.
use native.Mathlib.Omega.{arith}
use Rattle.queue.specs.Laid.{len_small}
use Rattle.send_steps.proofs.spot_of.Goals as goal

pub place_of-requires : goal.place_of-requires
place_of-requires c = (c.tail_of-t.ensures.1, let h = len_small c.args.epoch c.args.n in let e = c.record_len-len.ensures in omega arith)

pub returns : goal.returns
returns c = rw (c.record_len-len.ensures, c.tail_of-t.ensures.0) at c.place_of.ensures
