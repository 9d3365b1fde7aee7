-- `recv_calls::count` meets its contract. Assumes nothing.
use native.Mathlib.Omega.{arith}
use Rattle.recv_calls.specs.Replies.{counts-over, counts}
use Rattle.recv_calls.proofs.count.Goals as goal

pub returns-then-n-ge16 : goal.returns-then-n-ge16
returns-then-n-ge16 c = counts-over _ _ _ _ _ c.requires.0 c.if-n-ge16.true c.told.ensures c.move_to.ensures

pub overflow_add-start : goal.overflow_add-start
overflow_add-start c = rw c.ask_of-a.ensures (omega (arith, c.requires.1))

pub overflow_add-start-2 : goal.overflow_add-start-2
overflow_add-start-2 c = rw c.ask_of-a.ensures (omega (arith, c.requires.1))

pub returns : goal.returns
returns c = counts _ _ _ _ _ c.requires.0 c.if-n-ge16.false (rw c.ask_of-a.ensures at c.shown.ensures) (rw c.ask_of-a.ensures at c.move_to-2.ensures)
