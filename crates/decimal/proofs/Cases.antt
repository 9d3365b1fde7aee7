-- What a number in decimal is: how long, which characters, no leading zero, and read back it is the number. Assumes nothing.
use Rattle.std.specs.Prelude.{◌≡◌, refl, ℕ, zero, suc, ◌/◌, ◌<◌, ◌≤◌}
use Rattle.std.proofs.Common.{⊎_elim, ◌∙◌, arith, lt-ltb, le-ltb}
use Rattle.base.specs.Choose.{if_true, if_false, lt-or_ge}
use Rattle.decimal.specs.Decimal.{places_up_to}

-- ---- a digit less

pub places_last : (k n : ℕ) → n < 10 → places_up_to k n ≡ 1
unfolding places_up_to
places_last zero n h = refl
places_last (suc k) n h = if_true _ _ (lt-ltb n 10 h)

pub places_next : (k n : ℕ) → 10 ≤ n → places_up_to (suc k) n ≡ suc (places_up_to k (n / 10))
unfolding places_up_to
places_next k n h = if_false _ _ (le-ltb n 10 h) ∙ omega arith

-- what holds of one digit and of a digit more holds of the count
pub places_cases : (P : ℕ → Type 0) (k n : ℕ) → (n < 10 → P 1) → (10 ≤ n → P (suc (places_up_to k (n / 10)))) → P (places_up_to (suc k) n)
places_cases P k n f g = ⊎_elim (λ l. rw (places_last (suc k) n l) (f l)) (λ h. rw (places_next k n h) (g h)) (lt-or_ge n 10)
