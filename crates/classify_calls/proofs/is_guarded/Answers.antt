-- `classify_calls::is_guarded` meets its contract. Assumes nothing.
use mathlib.Core.Path.{sym, ◌∙◌}
use borrow.Author.Tests.{eq-eqb, ne_eqb}
use Rattle.classify.specs.Classify.{is_guarded}
use Rattle.base.specs.Choose.{either_true, either-false}
use Rattle.classify_calls.proofs.is_guarded.Goals as goal

pub returns-then-t-eq-ALERT : goal.returns-then-t-eq-ALERT
unfolding is_guarded
returns-then-t-eq-ALERT c = sym (either_true _ (eq-eqb _ _ c.if-t-eq-ALERT.true))

pub returns-then-t-eq-HANDSHAKE : goal.returns-then-t-eq-HANDSHAKE
unfolding is_guarded
returns-then-t-eq-HANDSHAKE c = sym (either-false (ne_eqb _ _ c.if-t-eq-ALERT.false) ∙ either_true _ (eq-eqb _ _ c.if-t-eq-HANDSHAKE.true))

pub returns : goal.returns
unfolding is_guarded
returns c = sym (either-false (ne_eqb _ _ c.if-t-eq-ALERT.false) ∙ either-false (ne_eqb _ _ c.if-t-eq-HANDSHAKE.false))
