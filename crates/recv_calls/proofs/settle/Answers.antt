-- `recv_calls::settle` meets its contract. Assumes nothing.
use Rattle.recv_words.specs.Laws.{put-keys, put-datagram, put-flat}
use Rattle.recv_calls.proofs.settle.Goals as goal

pub returns : goal.returns
returns c = let p = c.put_datagram.ensures in let z = c.told-w in (c.flat_reading.ensures, put-keys p z, put-datagram p z, put-flat p z c.requires)
