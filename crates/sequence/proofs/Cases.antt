-- What number rebuilding answers. Assumes nothing.
use Rattle.std.specs.Prelude.{◌≡◌, ℕ, ◌+◌, ◌-◌, ◌/◌, ◌^◌, ◌<◌, ◌≤◌}
use Rattle.base.specs.Choose.{by_less}
use Rattle.sequence.specs.Sequence.{own, below, above, nearest}

-- the cases of `nearest`
pub cases : (P : ℕ → Type 0) (b p e : ℕ)
    → (e + b / 2 < own b p e → own b p e < b → P (own b p e))
    → (e + b / 2 < own b p e → b ≤ own b p e → P (own b p e - b))
    → (own b p e ≤ e + b / 2 → own b p e + b / 2 < e → own b p e + b < 2 ^ 64 → P (own b p e + b))
    → (own b p e ≤ e + b / 2 → own b p e + b / 2 < e → 2 ^ 64 ≤ own b p e + b → P (own b p e))
    → (own b p e ≤ e + b / 2 → e ≤ own b p e + b / 2 → P (own b p e))
    → P (nearest b p e)
unfolding nearest below above
cases P b p e z f g k h =
    by_less P _ _ (λ s. by_less P _ _ (z s) (f s)) (λ s. by_less P _ _ (λ t. by_less P _ _ (g s t) (k s t)) (h s))

-- an answer that is right in each case is the answer
pub is-nearest : {r : ℕ} (b p e : ℕ)
    → (e + b / 2 < own b p e → own b p e < b → r ≡ own b p e)
    → (e + b / 2 < own b p e → b ≤ own b p e → r ≡ own b p e - b)
    → (own b p e ≤ e + b / 2 → own b p e + b / 2 < e → own b p e + b < 2 ^ 64 → r ≡ own b p e + b)
    → (own b p e ≤ e + b / 2 → own b p e + b / 2 < e → 2 ^ 64 ≤ own b p e + b → r ≡ own b p e)
    → (own b p e ≤ e + b / 2 → e ≤ own b p e + b / 2 → r ≡ own b p e)
    → r ≡ nearest b p e
is-nearest {r} b p e = cases (λ (x : ℕ). r ≡ x) b p e
