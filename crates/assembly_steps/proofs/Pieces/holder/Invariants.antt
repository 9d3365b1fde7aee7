-- `assembly_steps::Pieces::holder` meets its contract. Invariant: whether byte i is covered is settled by the pieces that are left. Assumes nothing.
use mathlib.Core.Path.{◌≡◌}
use Rattle.assembly.specs.Spans.{covered}
use Rattle.assembly_steps.proofs.Pieces.holder.Given as goal

abbrev pub invariant-loop-k : goal.invariant-loop-k
invariant-loop-k l = covered l.self.words.now l.k l.i ≡ covered l.self.words.now l.self.count l.i
