-- `classify_calls::is_unprotected` meets its contract. Assumes nothing.
use mathlib.Core.Path.{sym, ◌∙◌}
use Rattle.base.specs.Choose.{both_true, both_false}
use Rattle.classify_calls.proofs.is_unprotected.Goals as goal

pub returns-then-encrypted : goal.returns-then-encrypted
returns-then-encrypted c = c.is_guarded.ensures ∙ sym (both_true c.if-plain.true ∙ both_true c.if-encrypted.true)

pub returns-then-plain : goal.returns-then-plain
returns-then-plain c = sym (both_true c.if-plain.true ∙ both_false _ c.if-encrypted.false)

pub returns : goal.returns
returns c = sym (both_false _ c.if-plain.false)
