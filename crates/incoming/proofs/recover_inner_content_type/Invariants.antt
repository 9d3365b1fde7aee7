-- `incoming::recover_inner_content_type` meets its contract. Invariant: what is cut off are zeros. Assumes nothing.
use mathlib.Core.Path.{◌≡◌}
use Prim.Native.Nat.{◌≤◌}
use lib.ListN.{length, take}
use Rattle.incoming.specs.Inner.{inner_of}
use Rattle.incoming.proofs.recover_inner_content_type.Given as goal

abbrev pub invariant-loop-n : goal.invariant-loop-n
invariant-loop-n l = (l.n ≤ length l.decrypted) × (inner_of (take l.n l.decrypted) ≡ inner_of l.decrypted)

abbrev pub decreases-loop-n : goal.decreases-loop-n
decreases-loop-n l = l.n
