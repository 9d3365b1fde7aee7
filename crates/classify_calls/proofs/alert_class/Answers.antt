-- `classify_calls::alert_class` meets its contract. Assumes nothing.
use mathlib.Core.Path.{sym, ◌∙◌}
use borrow.Author.Tests.{lt-ltb, le-ltb, eq-eqb, ne_eqb}
use Rattle.classify.specs.Classify.{alert_as}
use Rattle.base.specs.Choose.{if_true, if_false}
use Rattle.classify_calls.proofs.alert_class.Goals as goal

pub returns-then-c-lt2 : goal.returns-then-c-lt2
unfolding alert_as
returns-then-c-lt2 c = sym (if_true _ _ (lt-ltb _ _ c.if-c-lt2.true))

pub returns-then-closed : goal.returns-then-closed
unfolding alert_as
returns-then-closed c = sym (if_false _ _ (le-ltb _ _ c.if-c-lt2.false) ∙ if_true _ _ (eq-eqb _ _ c.if-description-eq-CLOSE_NOTIFY.true) ∙ if_true _ _ c.if-closed.true)

pub returns-then-description-eq-CLOSE_NOTIFY : goal.returns-then-description-eq-CLOSE_NOTIFY
unfolding alert_as
returns-then-description-eq-CLOSE_NOTIFY c = sym (if_false _ _ (le-ltb _ _ c.if-c-lt2.false) ∙ if_true _ _ (eq-eqb _ _ c.if-description-eq-CLOSE_NOTIFY.true) ∙ if_false _ _ c.if-closed.false)

pub returns-then-cancels : goal.returns-then-cancels
unfolding alert_as
returns-then-cancels c = sym (if_false _ _ (le-ltb _ _ c.if-c-lt2.false) ∙ if_false _ _ (ne_eqb _ _ c.if-description-eq-CLOSE_NOTIFY.false) ∙ if_true _ _ (eq-eqb _ _ c.if-cancels.true))

pub returns : goal.returns
unfolding alert_as
returns c = sym (if_false _ _ (le-ltb _ _ c.if-c-lt2.false) ∙ if_false _ _ (ne_eqb _ _ c.if-description-eq-CLOSE_NOTIFY.false) ∙ if_false _ _ (ne_eqb _ _ c.if-cancels.false))
