-- `recv_words::count_apps` meets its contract. Invariant: the count is that of the entries passed. Assumes nothing.
use native.Mathlib.Omega.{arith}
use Rattle.recv_keys.specs.Laws.{apps-more, apps-none}
use Rattle.recv_words.proofs.count_apps.Goals as goal

pub loop-i-init : goal.loop-i-init
loop-i-init c = (omega arith, apps-none _)

pub loop-i-preserved : goal.loop-i-preserved
loop-i-preserved c = (omega (arith, c.app_one-n.ensures.1), rw (rw c.epoch_at.ensures at c.app_one-n.ensures.0) (apps-more _ _ _ c.loop-i.invariant.1))
