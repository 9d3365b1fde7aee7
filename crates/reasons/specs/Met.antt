-- The first four different epochs of the formed records are kept: which record's epoch is refused, said without the list that is kept.
-- Assumes nothing.
use Rattle.std.specs.Prelude.{Bool, false, ◌≡◌, eqb, leb}
use Rattle.std.proofs.Math.Bool.{true}
use mathlib.Core.List.{List, [], ◌∷◌, ◌++◌, Memᴰ as Mem}
use Prim.Native.Nat.{ℕ, zero, suc, ◌<◌, ◌≤◌}
use Rattle.std.proofs.Math.ListN.{length}
use Rattle.base.specs.Choose.{choose, either}

-- how many epochs are kept
abbrev pub most_kept : ℕ
most_kept = 4

-- whether a list has a number
unfoldable pub has : ℕ → List ℕ → Bool
has n [] = false
has n (k ∷ ks) = either (eqb k n) (has n ks)

-- the epochs kept once a record of epoch e comes: e too, if it is new and there is room
unfoldable pub meet : ℕ → List ℕ → List ℕ
meet e ms = choose (either (has e ms) (leb most_kept (length ms))) ms (ms ++ (e ∷ []))

-- the epochs kept before record i, in the order in which they came: by the formed records alone
unfoldable pub met : (ℕ → Bool) → (ℕ → ℕ) → ℕ → List ℕ
met formed epoch zero = []
met formed epoch (suc i) = choose (formed i) (meet (epoch i) (met formed epoch i)) (met formed epoch i)

-- no number stands twice in a list
abbrev pub Distinct : List ℕ → Type 0
Distinct [] = Unit {0}
Distinct (x ∷ xs) = (Mem x xs → ⊥) × Distinct xs

-- a formed record k of epoch x, up to which no formed record has epoch e
pub record CameFirst (formed : ℕ → Bool) (epoch : ℕ → ℕ) (e x k : ℕ) : Type 0 where
  pub is-formed : formed k ≡ true
  pub its-epoch : epoch k ≡ x
  pub none_of_e : (m : ℕ) → m ≤ k → formed m ≡ true → epoch m ≡ e → ⊥

-- before record i four different epochs came, each before the first formed record of epoch e
pub record FourBefore (formed : ℕ → Bool) (epoch : ℕ → ℕ) (e i : ℕ) : Type 0 where
  pub epochs : List ℕ
  pub four : length epochs ≡ most_kept
  pub different : Distinct epochs
  pub each : (x : ℕ) → Mem x epochs → (k : ℕ) × (k < i) × CameFirst formed epoch e x k
