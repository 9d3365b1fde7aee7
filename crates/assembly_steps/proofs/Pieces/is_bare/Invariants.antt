-- `assembly_steps::Pieces::is_bare` meets its contract. Invariant: the pieces passed have none of the bytes. Assumes nothing.
use mathlib.Core.Path.{◌≡◌}
use Prim.Native.Nat.{ℕ, ◌≤◌, ◌<◌}
use Rattle.assembly.specs.Spans.{covered}
use Rattle.assembly_steps.proofs.Pieces.is_bare.Given as goal

abbrev pub invariant-loop-k : goal.invariant-loop-k
invariant-loop-k l = (i : ℕ) → l.o ≤ i → i < l.e → covered l.self.words.now l.k i ≡ covered l.self.words.now l.self.count i
