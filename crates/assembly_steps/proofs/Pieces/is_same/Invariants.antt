-- `assembly_steps::Pieces::is_same` meets its contract. Invariant: the answer for the pieces that are left is the answer for all. Assumes nothing.
use mathlib.Core.Path.{◌≡◌}
use Rattle.assembly.specs.Spans.{is_same}
use Rattle.assembly_steps.proofs.Pieces.is_same.Given as goal

abbrev pub invariant-loop-k : goal.invariant-loop-k
invariant-loop-k l = is_same l.self.words.now l.k l.o l.l ≡ is_same l.self.words.now l.self.count l.o l.l
