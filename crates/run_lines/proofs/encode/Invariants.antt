-- `run_lines::encode` meets its contract: what is passed is written. Assumes nothing.
use Rattle.std.specs.Prelude.{[], ◌∷◌, ◌++◌, drop}
use Rattle.run_lines.specs.Lines.{Wrote, hex_of}
use Rattle.run_lines.proofs.encode.Given as goal

abbrev pub invariant-loop-b : goal.invariant-loop-b
invariant-loop-b l = Wrote l.initial.out l.initial.n (hex_of l.d ++ (10 ∷ [])) l.out l.n (hex_of (drop l.b-index l.d) ++ (10 ∷ []))
