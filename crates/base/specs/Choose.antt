-- A choice by a test, two tests at once, and their laws. `choose` is shut, so that a law on it finds the test and both sides by itself.
-- Assumes nothing.
use Rattle.std.specs.Prelude.{Bool, true, false, ◌⊎◌, ◌≡◌, refl, ℕ, ◌<◌, ◌≤◌, ltb, eqb}
use Rattle.std.proofs.lemmas.Bool.{false≢true, eqb-false}
use Rattle.std.proofs.Common.{inl, inr, ltb-true, ltb-false, eqb-true}

unfoldable pub choose {ℓ} : {A : Type ℓ} → Bool → A → A → A
choose true x y = x
choose false x y = y

unfoldable pub both : Bool → Bool → Bool
both true b = b
both false b = false

unfoldable pub either : Bool → Bool → Bool
either true b = true
either false b = b

pub if_true {ℓ} : {A : Type ℓ} {t : Bool} (x y : A) → t ≡ true → choose t x y ≡ x
unfolding choose
if_true x y e = rw e

pub if_false {ℓ} : {A : Type ℓ} {t : Bool} (x y : A) → t ≡ false → choose t x y ≡ y
unfolding choose
if_false x y e = rw e

-- a choice has a property that each side has under its test
pub by_test {ℓ} : {A : Type ℓ} (P : A → Type 0) {t : Bool} {x y : A} → (t ≡ true → P x) → (t ≡ false → P y) → P (choose t x y)
unfolding choose
by_test P {t = true} f g = f refl
by_test P {t = false} f g = g refl

-- the same for the test alone
pub test_cases {ℓ} : {A : Type ℓ} (t : Bool) → (t ≡ true → A) → (t ≡ false → A) → A
test_cases true f g = f refl
test_cases false f g = g refl

-- a choice by an order of numbers
pub by_less {ℓ} : {A : Type ℓ} (P : A → Type 0) (a b : ℕ) {x y : A} → (a < b → P x) → (b ≤ a → P y) → P (choose (ltb a b) x y)
by_less P a b f g = by_test P (λ e. f (ltb-true a b e)) (λ e. g (ltb-false a b e))

pub lt-or_ge : (a b : ℕ) → (a < b) ⊎ (b ≤ a)
lt-or_ge a b = test_cases (ltb a b) (λ e. inl (ltb-true a b e)) (λ e. inr (ltb-false a b e))

pub eq-or_ne : (a b : ℕ) → (a ≡ b) ⊎ (a ≡ b → ⊥)
eq-or_ne a b = test_cases (eqb a b) (λ e. inl (eqb-true a b e)) (λ e. inr (eqb-false a b e))

pub both_left : (a b : Bool) → both a b ≡ true → a ≡ true
unfolding both
both_left true b e = refl
both_left false b e = e

pub both_right : (a b : Bool) → both a b ≡ true → b ≡ true
unfolding both
both_right true b e = e
both_right false b e = absurd (false≢true e)

pub both_true : {a b : Bool} → a ≡ true → both a b ≡ b
unfolding both
both_true e = rw e

pub both_false : {a : Bool} (b : Bool) → a ≡ false → both a b ≡ false
unfolding both
both_false b e = rw e

pub either_true : {a : Bool} (b : Bool) → a ≡ true → either a b ≡ true
unfolding either
either_true b e = rw e

pub either-false : {a b : Bool} → a ≡ false → either a b ≡ b
unfolding either
either-false e = rw e
