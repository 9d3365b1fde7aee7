-- `classify_calls::is_beyond` meets its contract. Assumes nothing.
use mathlib.Core.Path.{sym, ◌∙◌}
use borrow.Author.Tests.{eq-eqb, ne_eqb}
use Rattle.classify.specs.Classify.{is_beyond}
use Rattle.base.specs.Choose.{both_true, both_false}
use Rattle.classify_calls.proofs.is_beyond.Goals as goal

pub returns-then-x-eq1 : goal.returns-then-x-eq1
unfolding is_beyond
returns-then-x-eq1 c = c.is_after.ensures ∙ sym (both_true (eq-eqb _ _ c.if-x-eq1.true))

pub returns : goal.returns
unfolding is_beyond
returns c = sym (both_false _ (ne_eqb _ _ c.if-x-eq1.false))
