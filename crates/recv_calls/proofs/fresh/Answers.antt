-- `recv_calls::fresh` meets its contract. Assumes nothing.
use Rattle.base.specs.Choose.{if_true, if_false}
use borrow.Author.Tests.{lt-ltb, le-ltb}
use Rattle.receiving.specs.Receiving.{fresh_of}
use Rattle.recv_calls.specs.Laws.{starts_as}
use Rattle.recv_calls.proofs.fresh.Goals as goal

pub returns-then-min_protected-gt-MOST_LEAST : goal.returns-then-min_protected-gt-MOST_LEAST
unfolding fresh_of
returns-then-min_protected-gt-MOST_LEAST c = starts_as _ _ _ _ c.put_fresh.ensures (if_true _ _ (lt-ltb _ _ c.if-min_protected-gt-MOST_LEAST.true))

pub returns : goal.returns
unfolding fresh_of
returns c = starts_as _ _ _ _ c.put_fresh.ensures (if_false _ _ (le-ltb _ _ c.if-min_protected-gt-MOST_LEAST.false))
