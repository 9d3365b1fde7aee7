-- `resend::renew` meets its contract: there is a cell for the old number. Assumes nothing.
use Rattle.std.proofs.Common.{sym, ◌∙◌, arith}
use Rattle.resend.proofs.Resend.{can-few}
use Rattle.resend.proofs.renew.Goals as goal

pub overflow_add-at : goal.overflow_add-at
overflow_add-at c = let l = can-few _ (sym c.can_remember.ensures ∙ c.if-can_remember.true) in omega (arith, l, c.requires)

pub offset_bounds-numbers-at : goal.offset_bounds-numbers-at
offset_bounds-numbers-at c = let l = can-few _ (sym c.can_remember.ensures ∙ c.if-can_remember.true) in omega (arith, l, c.requires)

pub bounds-numbers-at : goal.bounds-numbers-at
bounds-numbers-at c = let l = can-few _ (sym c.can_remember.ensures ∙ c.if-can_remember.true) in omega (arith, l, c.requires)

pub overflow_add-result : goal.overflow_add-result
overflow_add-result c = let l = can-few _ (sym c.can_remember.ensures ∙ c.if-can_remember.true) in omega (arith, l, c.requires)
