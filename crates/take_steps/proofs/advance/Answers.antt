-- `take_steps::advance` meets its contract. Assumes nothing.
use native.Mathlib.Omega.{arith}
use Prim.Native.Nat.{◌-◌}
use lib.ListN.{get_or}
use Rattle.send_words.specs.Words.{count_at}
use Rattle.take_steps.specs.Front.{fronts}
use Rattle.take_steps.proofs.advance.Goals as goal

pub returns : goal.returns
returns c = let w = c.args.w.now in rw c.next_slot-next.ensures (fronts w _ (get_or w count_at 0 - 1) (omega arith))
