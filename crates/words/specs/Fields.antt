-- A state in host words: a list of known length word by word, and a flag in a word. Assumes nothing.
use Rattle.std.specs.Prelude.{Bool, true, false, List, [], ◌∷◌, ◌≡◌, refl, ℕ, zero, suc, ◌≤◌, ◌%◌, leb, eqb, length, get_or, drop}
use Rattle.std.proofs.Common.{sym, ap, subst, arith}
use mir.Val.{bool_byte}

-- ---- a list of known length, word by word

unfoldable pub first_of : ℕ → List ℕ → List ℕ
first_of zero w = []
first_of (suc n) w = get_or w 0 0 ∷ first_of n (drop 1 w)

pub whole : (w : List ℕ) (n : ℕ) → length w ≡ n → w ≡ first_of n w
unfolding first_of
whole [] zero h = refl
whole [] (suc n) h = absurd (omega arith)
whole (x ∷ w) zero h = absurd (omega arith)
whole (x ∷ w) (suc n) h = ap (λ (l : List ℕ). x ∷ l) (whole w n (omega arith))

-- what holds of n words, whatever they are, holds of these
pub by-words : (n : ℕ) (P : List ℕ → Type 0) (w : List ℕ) → length w ≡ n → P (first_of n w) → P w
by-words n P w h p = subst P (sym (whole w n h)) p

-- ---- a flag in a word

abbrev pub bit_of : Bool → ℕ
bit_of true = 1
bit_of false = 0

-- what the cast of a bool makes
pub cast_bit : (b : Bool) → bool_byte b ≡ bit_of b
cast_bit true = refl
cast_bit false = refl

pub bit-back : (s : Bool) → eqb (bit_of s) 1 ≡ s
bit-back true = refl
bit-back false = refl

pub low_bit : (s : Bool) → leb (bit_of s) 1 ≡ true
low_bit true = refl
low_bit false = refl

-- ---- a value of 16 bits in a word

pub low-back : {x : ℕ} → x ≤ 65535 → x % 65536 ≡ x
low-back h = omega arith
