-- `recv_keys::app_one` meets its contract. Assumes nothing.
use borrow.Author.Tests.{le-leb, lt-leb}
use mathlib.Core.Path.{sym}
use native.Mathlib.Omega.{arith}
use Rattle.base.specs.Choose.{if_false, if_true}
use Rattle.recv_keys.specs.Keys.{app_one}
use Rattle.recv_keys.proofs.app_one.Goals as goal

pub returns-then-epoch-ge3 : goal.returns-then-epoch-ge3
unfolding app_one
returns-then-epoch-ge3 c = (sym (if_true _ _ (le-leb _ _ c.if-epoch-ge3.true)), omega arith)

pub returns-else-epoch-ge3 : goal.returns-else-epoch-ge3
unfolding app_one
returns-else-epoch-ge3 c = (sym (if_false _ _ (lt-leb _ _ c.if-epoch-ge3.false)), omega arith)
