-- `assembly_steps::Pieces::shares` meets its contract. Invariant: the bytes passed are shared or bare. Assumes nothing.
use mathlib.Core.Bool.{true}
use mathlib.Core.Path.{◌≡◌}
use Prim.Native.Nat.{◌-◌, ◌≤◌}
use lib.ListN.{length}
use Rattle.assembly.specs.Spans.{all_shared}
use Rattle.assembly_steps.proofs.Pieces.shares.Given as goal

abbrev pub invariant-loop-i : goal.invariant-loop-i
invariant-loop-i l = (l.i ≤ length l.b) × (all_shared l.self.words.now l.self.count l.o l.b l.d l.i ≡ true)

abbrev pub decreases-loop-i : goal.decreases-loop-i
decreases-loop-i l = length l.b - l.i
