-- `run_lines::decode` meets its contract: what is passed is written. Assumes nothing.
use Rattle.std.proofs.Common.{length}
use Rattle.run_lines.specs.Lines.{Wrote, bytes_of}
use Rattle.run_lines.proofs.decode.Given as goal

abbrev pub invariant-loop-rest : goal.invariant-loop-rest
invariant-loop-rest l = Wrote l.initial.out 0 (bytes_of l.digits) l.out l.n (bytes_of l.rest)

abbrev pub decreases-loop-rest : goal.decreases-loop-rest
decreases-loop-rest l = length l.rest
