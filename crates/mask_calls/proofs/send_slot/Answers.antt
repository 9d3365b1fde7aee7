-- `mask_calls::send_slot` meets its contract. Assumes nothing.
use mathlib.Core.Path.{sym}
use native.Mathlib.Omega.{arith}
use borrow.Author.Tests.{eq-eqb, ne_eqb}
use Rattle.base.specs.Choose.{if_true, if_false}
use Rattle.mask_calls.proofs.send_slot.Goals as goal

pub returns-then-handshake : goal.returns-then-handshake
returns-then-handshake c = (sym (if_true _ _ (eq-eqb _ _ c.if-handshake.true)), omega arith)

pub returns : goal.returns
returns c = (sym (if_false _ _ (ne_eqb _ _ c.if-handshake.false)), omega arith)
