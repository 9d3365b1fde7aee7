-- `seal_steps::is_last` meets its contract. Assumes nothing.
use native.Mathlib.Omega.{arith}
use Rattle.seal_steps.specs.Last.{behind-lt}
use Rattle.seal_steps.proofs.is_last.Goals as goal

pub overflow_add-from : goal.overflow_add-from
overflow_add-from c = rw c.requires.1 (omega (arith, behind-lt c.requires.0))
