-- `classify_calls::is_inside` meets its contract. Assumes nothing.
use mathlib.Core.Path.{sym}
use borrow.Author.Tests.{le-leb, lt-leb}
use Rattle.classify.specs.Classify.{is_inside}
use Rattle.base.specs.Choose.{both_true, both_false}
use Rattle.classify_calls.proofs.is_inside.Goals as goal

pub returns-then-n-start : goal.returns-then-n-start
unfolding is_inside
returns-then-n-start c = sym (both_false _ (lt-leb _ _ c.if-n-start.true))

pub returns : goal.returns
unfolding is_inside
returns c = sym (both_true (le-leb _ _ c.if-n-start.false))
