-- `assembly_steps::Pieces::covers_all` meets its contract. Invariant: every byte passed is covered. Assumes nothing.
use Prim.Native.Nat.{ℕ, ◌-◌, ◌<◌, ◌≤◌}
use mathlib.Core.Bool.{true}
use mathlib.Core.Path.{◌≡◌}
use Rattle.assembly.specs.Spans.{covered}
use Rattle.assembly_steps.proofs.Pieces.covers_all.Given as goal

abbrev pub invariant-loop-i : goal.invariant-loop-i
invariant-loop-i l = (l.i ≤ l.t) × ((x : ℕ) → x < l.i → covered l.self.words.now l.self.count x ≡ true)

abbrev pub decreases-loop-i : goal.decreases-loop-i
decreases-loop-i l = l.t - l.i
