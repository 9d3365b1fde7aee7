-- Single bits of a word: of an `|`, of a shift, of the low bits of a number. Assumes nothing.
use Rattle.std.proofs.Common.{⊎_elim, sym, ap, ◌∙◌, mod-lt, mul_assoc, arith, pow-add, shr-shr}
use Rattle.std.specs.Prelude.{◌≡◌, refl, ℕ, zero, suc, ◌+◌, ◌-◌, ◌*◌, ◌/◌, ◌%◌, ◌^◌, ◌<◌, ◌≤◌, max}
use Rattle.std.proofs.Math.Nat.{mul-mod_left, div-eq_of_lt, zero-max, zero-div}
use Rattle.std.specs.Int.Bits.{bit_or}
use Rattle.std.proofs.lemmas.Nat.{or_shr, or_mod, shl-shr}
use Rattle.std.proofs.Math.Pow.{pow-lt, field, mod-mod-pow}
use Rattle.base.specs.Choose.{lt-or_ge}

-- bit k of a word
unfoldable pub bit : ℕ → ℕ → ℕ
bit w k = w / 2 ^ k % 2

pub bit-lt : (w k : ℕ) → bit w k < 2
unfolding bit
bit-lt w k = mod-lt (w / 2 ^ k) (omega arith)

pub bit-zero : (k : ℕ) → bit 0 k ≡ 0
unfolding bit
bit-zero k = ap (λ (x : ℕ). x % 2) (zero-div (2 ^ k))

-- `|` of two digits
or-digit : (a b : ℕ) → a < 2 → b < 2 → bit_or a b ≡ max a b
or-digit zero b ha hb = sym (zero-max b)
or-digit (suc zero) zero ha hb = refl
or-digit (suc zero) (suc zero) ha hb = refl
or-digit (suc zero) (suc (suc b)) ha hb = absurd (omega arith)
or-digit (suc (suc a)) b ha hb = absurd (omega arith)

pub bit-or : (a b k : ℕ) → bit (bit_or a b) k ≡ max (bit a k) (bit b k)
unfolding bit
bit-or a b k =
    ap (λ (x : ℕ). x % 2) (or_shr a b k) ∙ or_mod (a / 2 ^ k) (b / 2 ^ k) 1
    ∙ or-digit (a / 2 ^ k % 2) (b / 2 ^ k % 2) (mod-lt (a / 2 ^ k) (omega arith)) (mod-lt (b / 2 ^ k) (omega arith))

-- the low bits of a number are its bits
pub bit-low : (width n k : ℕ) → k < width → bit (n % 2 ^ width) k ≡ bit n k
unfolding bit
bit-low width n k h =
    let e : width ≡ width - 1 - k + 1 + k = omega arith in
    ap (λ (x : ℕ). n % 2 ^ x / 2 ^ k % 2) e ∙ ap (λ (x : ℕ). x % 2) (field n (width - 1 - k + 1) k) ∙ mod-mod-pow (n / 2 ^ k) (width - 1 - k) 1

-- bits of a shifted word: the old ones from the shift on, none below it
pub bit-shl : (w s k : ℕ) → s ≤ k → bit (w * 2 ^ s) k ≡ bit w (k - s)
unfolding bit
bit-shl w s k h =
    let e : k ≡ s + (k - s) = omega arith in
    ap (λ (x : ℕ). w * 2 ^ s / 2 ^ x % 2) e
    ∙ ap (λ (x : ℕ). x % 2) (sym (shr-shr (w * 2 ^ s) s (k - s)) ∙ ap (λ (x : ℕ). x / 2 ^ (k - s)) (shl-shr w s))

pub bit-shl-low : (w s k : ℕ) → k < s → bit (w * 2 ^ s) k ≡ 0
unfolding bit
bit-shl-low w s k h =
    let i : ℕ = s - k - 1 in
    let e : s ≡ i + 1 + k = omega arith in
    ap (λ (x : ℕ). w * 2 ^ x / 2 ^ k % 2) e ∙ ap (λ (x : ℕ). w * x / 2 ^ k % 2) (pow-add 2 (i + 1) k)
    ∙ ap (λ (x : ℕ). x / 2 ^ k % 2) (sym (mul_assoc w (2 ^ (i + 1)) (2 ^ k))) ∙ ap (λ (x : ℕ). x % 2) (shl-shr (w * 2 ^ (i + 1)) k)
    ∙ ap (λ (x : ℕ). w * x % 2) (pow-add 2 i 1) ∙ ap (λ (x : ℕ). x % 2) (sym (mul_assoc w (2 ^ i) 2)) ∙ mul-mod_left (w * 2 ^ i) 2

-- the word with bit j alone
pub bit_of_one : (i j : ℕ) → i ≡ j → bit (1 * 2 ^ j) i ≡ 1
unfolding bit
bit_of_one i j e = let z : i - j ≡ 0 = omega arith in bit-shl 1 j i (omega arith) ∙ ap (bit 1) z

pub bit_of_other : (i j : ℕ) → (i ≡ j → ⊥) → bit (1 * 2 ^ j) i ≡ 0
unfolding bit
bit_of_other i j ne =
    ⊎_elim (λ l. bit-shl-low 1 j i l) (λ l. bit-shl 1 j i l ∙ ap (λ (x : ℕ). x % 2) (div-eq_of_lt (pow-lt (positive l)))) (lt-or_ge i j)
  where
    positive : j ≤ i → 0 < i - j
    positive l = omega arith
