-- `classify_calls::is_after` meets its contract. Assumes nothing.
use mathlib.Core.Path.{sym}
use borrow.Author.Tests.{eq-eqb, ne_eqb}
use Rattle.classify.specs.Classify.{is_after}
use Rattle.base.specs.Choose.{if_true, if_false}
use Rattle.classify_calls.proofs.is_after.Goals as goal

pub returns-then-e-f : goal.returns-then-e-f
unfolding is_after
returns-then-e-f c = sym (if_true _ _ (eq-eqb _ _ c.if-e-f.true))

pub returns : goal.returns
unfolding is_after
returns c = sym (if_false _ _ (ne_eqb _ _ c.if-e-f.false))
