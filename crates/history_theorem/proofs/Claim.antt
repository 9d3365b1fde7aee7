-- Demand 3 at a receiving end: what is asked of the host, and what then holds, against the records that the far end sealed.
-- Quotations are the demand's, or from 01's paragraph e.
use Rattle.std.specs.Prelude.{ℕ, ◌+◌, ◌≤◌}
use mathlib.Core.List.{List}
use Rattle.std.proofs.Common.{arith}
use Rattle.window.specs.Used.{above}
use Rattle.history_theorem.specs.Claim.{reach_of}

-- ---- what then holds

-- so it is never less than before 02, 1, and with none used it is every number under 65,536
pub reach-grows : (used : List ℕ) → above used + 32768 ≤ reach_of used
reach-grows used = omega arith

pub reach-first : (used : List ℕ) → 65536 ≤ reach_of used
reach-first used = omega arith
