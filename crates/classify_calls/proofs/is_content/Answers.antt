-- `classify_calls::is_content` meets its contract. Assumes nothing.
use mathlib.Core.Path.{sym}
use borrow.Author.Tests.{le-leb, lt-leb}
use Rattle.base.specs.Choose.{both_true, both_false}
use Rattle.classify_calls.proofs.is_content.Goals as goal

pub returns-then-kind-lt-PLAINTEXT : goal.returns-then-kind-lt-PLAINTEXT
returns-then-kind-lt-PLAINTEXT c = sym (both_false _ (lt-leb _ _ c.if-kind-lt-PLAINTEXT.true))

pub returns : goal.returns
returns c = sym (both_true (le-leb _ _ c.if-kind-lt-PLAINTEXT.false))
