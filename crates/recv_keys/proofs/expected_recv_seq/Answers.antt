-- `recv_keys::expected_recv_seq` meets its contract. Assumes nothing.
use borrow.Author.Tests.{eq-eqb, ne_eqb}
use mathlib.Core.Path.{sym}
use Rattle.base.specs.Choose.{if_false, if_true}
use Rattle.window.specs.Used.{expected}
use Rattle.recv_keys.proofs.expected_recv_seq.Goals as goal

pub returns-then-used : goal.returns-then-used
unfolding expected
returns-then-used c = sym (if_true _ _ (eq-eqb _ _ c.if-used.true))

pub returns : goal.returns
unfolding expected
returns c = sym (if_false _ _ (ne_eqb _ _ c.if-used.false))
