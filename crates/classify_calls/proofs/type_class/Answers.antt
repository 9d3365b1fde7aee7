-- `classify_calls::type_class` meets its contract. Assumes nothing.
use mathlib.Core.Path.{sym, ◌∙◌}
use borrow.Author.Tests.{eq-eqb, ne_eqb}
use Rattle.classify.specs.Classify.{by_type}
use Rattle.base.specs.Choose.{if_true, if_false}
use Rattle.classify_calls.proofs.type_class.Goals as goal

pub returns-then-plain : goal.returns-then-plain
unfolding by_type
returns-then-plain c = sym (if_true _ _ (eq-eqb _ _ c.if-t-eq-ACK.true) ∙ if_true _ _ c.if-plain.true)

pub returns-then-t-eq-ACK : goal.returns-then-t-eq-ACK
unfolding by_type
returns-then-t-eq-ACK c = sym (if_true _ _ (eq-eqb _ _ c.if-t-eq-ACK.true) ∙ if_false _ _ c.if-plain.false)

pub returns-then-t-eq-ALERT : goal.returns-then-t-eq-ALERT
unfolding by_type
returns-then-t-eq-ALERT c = c.alert_class.ensures ∙ sym (if_false _ _ (ne_eqb _ _ c.if-t-eq-ACK.false) ∙ if_true _ _ (eq-eqb _ _ c.if-t-eq-ALERT.true))

pub returns-then-t-eq-HANDSHAKE : goal.returns-then-t-eq-HANDSHAKE
unfolding by_type
returns-then-t-eq-HANDSHAKE c = sym (if_false _ _ (ne_eqb _ _ c.if-t-eq-ACK.false) ∙ if_false _ _ (ne_eqb _ _ c.if-t-eq-ALERT.false) ∙ if_true _ _ (eq-eqb _ _ c.if-t-eq-HANDSHAKE.true))

pub returns-then-t-eq-APPLICATION_DATA : goal.returns-then-t-eq-APPLICATION_DATA
unfolding by_type
returns-then-t-eq-APPLICATION_DATA c = sym (if_false _ _ (ne_eqb _ _ c.if-t-eq-ACK.false) ∙ if_false _ _ (ne_eqb _ _ c.if-t-eq-ALERT.false) ∙ if_false _ _ (ne_eqb _ _ c.if-t-eq-HANDSHAKE.false) ∙ if_true _ _ (eq-eqb _ _ c.if-t-eq-APPLICATION_DATA.true))

pub returns-then-t-eq-CHANGE_CIPHER_SPEC : goal.returns-then-t-eq-CHANGE_CIPHER_SPEC
unfolding by_type
returns-then-t-eq-CHANGE_CIPHER_SPEC c = sym (if_false _ _ (ne_eqb _ _ c.if-t-eq-ACK.false) ∙ if_false _ _ (ne_eqb _ _ c.if-t-eq-ALERT.false) ∙ if_false _ _ (ne_eqb _ _ c.if-t-eq-HANDSHAKE.false) ∙ if_false _ _ (ne_eqb _ _ c.if-t-eq-APPLICATION_DATA.false) ∙ if_true _ _ (eq-eqb _ _ c.if-t-eq-CHANGE_CIPHER_SPEC.true))

pub returns : goal.returns
unfolding by_type
returns c = sym (if_false _ _ (ne_eqb _ _ c.if-t-eq-ACK.false) ∙ if_false _ _ (ne_eqb _ _ c.if-t-eq-ALERT.false) ∙ if_false _ _ (ne_eqb _ _ c.if-t-eq-HANDSHAKE.false) ∙ if_false _ _ (ne_eqb _ _ c.if-t-eq-APPLICATION_DATA.false) ∙ if_false _ _ (ne_eqb _ _ c.if-t-eq-CHANGE_CIPHER_SPEC.false))
