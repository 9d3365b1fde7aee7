-- `incoming::without_zero_words` meets its contract. Invariant: as many are left of those as of the first n. Assumes nothing.
use mathlib.Core.Path.{◌≡◌}
use Prim.Native.Nat.{◌≤◌}
use lib.ListN.{length}
use Rattle.incoming.specs.Padding.{left_of}
use Rattle.incoming.proofs.without_zero_words.Given as goal

abbrev pub invariant-loop-left : goal.invariant-loop-left
invariant-loop-left l = (l.left ≤ length l.d) × (left_of l.d l.left ≡ left_of l.d l.n)

abbrev pub decreases-loop-left : goal.decreases-loop-left
decreases-loop-left l = l.left
