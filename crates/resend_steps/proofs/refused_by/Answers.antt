-- `resend_steps::refused_by` meets its contract. Assumes nothing.
use borrow.Author.Tests.{not-true, not-false}
use Rattle.base.specs.Choose.{if_true, if_false}
use mathlib.Core.Path.{sym, ◌∙◌}
use Rattle.resend_steps.proofs.refused_by.Goals as goal

pub returns-then-not-p : goal.returns-then-not-p
returns-then-not-p c = sym (if_false _ _ (not-true _ c.if-not-p.true))

pub returns-then-not-p-2 : goal.returns-then-not-p-2
returns-then-not-p-2 c = sym (if_true _ _ (not-false _ c.if-not-p.false) ∙ if_false _ _ (not-true _ c.if-not-p-2.true))

pub returns-then-not-p-3 : goal.returns-then-not-p-3
returns-then-not-p-3 c = sym (if_true _ _ (not-false _ c.if-not-p.false) ∙ if_true _ _ (not-false _ c.if-not-p-2.false) ∙ if_false _ _ (not-true _ c.if-not-p-3.true))

pub returns-then-not-p-4 : goal.returns-then-not-p-4
returns-then-not-p-4 c = sym (if_true _ _ (not-false _ c.if-not-p.false) ∙ if_true _ _ (not-false _ c.if-not-p-2.false) ∙ if_true _ _ (not-false _ c.if-not-p-3.false) ∙ if_false _ _ (not-true _ c.if-not-p-4.true))

pub returns : goal.returns
returns c = sym (if_true _ _ (not-false _ c.if-not-p.false) ∙ if_true _ _ (not-false _ c.if-not-p-2.false) ∙ if_true _ _ (not-false _ c.if-not-p-3.false) ∙ if_true _ _ (not-false _ c.if-not-p-4.false))
