-- `recv_calls::type_step` meets its contract. Assumes nothing.
use Rattle.opening_reply.specs.Opening.{typed}
use Rattle.recv_calls.proofs.type_step.Goals as goal

pub returns-in-None : goal.returns-in-None
unfolding typed
returns-in-None c = rw c.in-None.is (c.told.ensures, c.skip.ensures.keys, c.skip.ensures.datagram, c.skip.ensures.flat c.requires.0)

pub returns-in-Some : goal.returns-in-Some
unfolding typed
returns-in-Some c = rw c.in-Some.is c.count.ensures
