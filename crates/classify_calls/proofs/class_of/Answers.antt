-- `classify_calls::class_of` meets its contract. Assumes nothing.
use mathlib.Core.Path.{sym, ◌∙◌}
use borrow.Author.Tests.{eq-eqb, ne_eqb}
use Rattle.classify.specs.Classify.{class_of}
use Rattle.base.specs.Choose.{if_true, if_false}
use Rattle.classify_calls.proofs.class_of.Goals as goal

pub returns-then-is_beyond : goal.returns-then-is_beyond
unfolding class_of
returns-then-is_beyond c = sym (if_true _ _ (sym c.is_beyond.ensures ∙ c.if-is_beyond.true))

pub returns-then-is_unprotected : goal.returns-then-is_unprotected
unfolding class_of
returns-then-is_unprotected c = sym (if_false _ _ (sym c.is_beyond.ensures ∙ c.if-is_beyond.false) ∙ if_true _ _ (sym c.is_unprotected.ensures ∙ c.if-is_unprotected.true))

pub returns-then-x-eq-UNOPENED : goal.returns-then-x-eq-UNOPENED
unfolding class_of
returns-then-x-eq-UNOPENED c = sym (if_false _ _ (sym c.is_beyond.ensures ∙ c.if-is_beyond.false) ∙ if_false _ _ (sym c.is_unprotected.ensures ∙ c.if-is_unprotected.false) ∙ if_true _ _ (eq-eqb _ _ c.if-x-eq-UNOPENED.true))

pub returns : goal.returns
unfolding class_of
returns c = c.type_class.ensures ∙ sym (if_false _ _ (sym c.is_beyond.ensures ∙ c.if-is_beyond.false) ∙ if_false _ _ (sym c.is_unprotected.ensures ∙ c.if-is_unprotected.false) ∙ if_false _ _ (ne_eqb _ _ c.if-x-eq-UNOPENED.false))
