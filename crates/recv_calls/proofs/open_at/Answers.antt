-- `recv_calls::open_at` meets its contract. Assumes nothing.
use Rattle.opening_reply.specs.Opening.{opened_at}
use Rattle.recv_calls.specs.Replies.{open_fits, opening_yes, opening_no}
use Rattle.recv_calls.proofs.open_at.Goals as goal

pub returns-then-opened-eq1 : goal.returns-then-opened-eq1
returns-then-opened-eq1 c = rw (opening_yes _ c.args.length c.if-opened-eq1.true) c.open_yes.ensures

pub skip-requires : goal.skip-requires
skip-requires c = open_fits c.requires.0

pub returns : goal.returns
unfolding opened_at
returns c = rw (opening_no _ c.args.length c.if-opened-eq1.false) (c.told.ensures, c.skip.ensures.keys, c.skip.ensures.datagram, c.skip.ensures.flat c.requires.0.flat)
