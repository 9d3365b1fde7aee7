-- `recv_words::uninstall` meets its contract. Invariant: the entries passed are those of `left`. Assumes nothing.
use native.Mathlib.Omega.{arith}
use Rattle.recv_words.specs.Entries.{shifts-none, shifts-more, uninstalls, count-all}
use Rattle.recv_words.proofs.uninstall.Goals as goal

pub loop-j-init : goal.loop-j-init
loop-j-init c = shifts-none _ _

pub loop-j-preserved : goal.loop-j-preserved
loop-j-preserved c = shifts-more _ _ _ _ _ c.loop-j.invariant c.shift.ensures

pub overflow_sub-w : goal.overflow_sub-w
overflow_sub-w c = omega (arith, count-all _ _ _ _ (omega arith) c.loop-j.invariant cc, c.requires)

pub returns : goal.returns
returns c = uninstalls _ _ _ _ (omega arith) c.loop-j.invariant cc
