-- When two pieces are the same and when they share their bytes (02, 7), as facts in place of the account's tests. Assumes nothing.
use Rattle.std.specs.Prelude.{◌≡◌, ℕ}
use Rattle.std.proofs.Math.Bool.{true}
use Rattle.assembly_theorem.specs.Account.{Fragment, has, byte_in}

-- ---- shared bytes

abbrev pub Shares : Fragment → Fragment → Type 0
Shares f g = (i : ℕ) → has f i ≡ true → has g i ≡ true → byte_in f i ≡ byte_in g i
