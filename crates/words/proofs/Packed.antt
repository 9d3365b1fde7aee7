-- Bytes packed into words, the first byte highest: what is packed reads back, for every number of bytes. Assumes nothing.
use Rattle.std.specs.Prelude.{List, ◌∷◌, ◌++◌, ◌≡◌, refl, ℕ, zero, suc, ◌+◌, ◌*◌, ◌/◌, ◌%◌, ◌^◌, ◌≤◌, ◌<◌, length, get_or, take, drop}
use Rattle.std.proofs.Common.{sym, ap, ◌∙◌, mod-eq_of_lt, mul_assoc, add-one, arith, drop-cons, take-add, take_all}
use Rattle.std.proofs.Math.Nat.{pow-succ', mul-add-div_right, mul-add-mod_self_right}
use Rattle.std.proofs.Math.Arith.{digits_lt, digits_div}
use Rattle.base.specs.Bytes.{be, be_at, Bytes}
use Rattle.base.specs.Parts.{part}
use Rattle.words.specs.Packed.{iv_of}

pow_pos : (k : ℕ) → 0 < 256 ^ k
pow_pos zero = omega arith
pow_pos (suc k) = rw (pow-succ' 256 k) (omega (arith, pow_pos k))

-- k bytes hold nothing of what lies above them
be-more : (k m r : ℕ) → be k (m * 256 ^ k + r) ≡ be k r
be-more zero m r = refl
be-more (suc k) m r =
    let e : m * 256 ^ suc k ≡ m * 256 * 256 ^ k = ap (λ (x : ℕ). m * x) (pow-succ' 256 k) ∙ sym (mul_assoc m 256 (256 ^ k)) in
    ap (λ (x : ℕ). be (suc k) (x + r)) e
    ∙ ap (λ (x : ℕ). (x % 256) ∷ be k (m * 256 * 256 ^ k + r)) (mul-add-div_right (pow_pos k) (m * 256) r)
    ∙ ap (λ (x : ℕ). x ∷ be k (m * 256 * 256 ^ k + r)) (mul-add-mod_self_right m 256 (r / 256 ^ k))
    ∙ ap (λ (l : List ℕ). (r / 256 ^ k % 256) ∷ l) (be-more k (m * 256) r)

-- k bytes make a number that k bytes hold
pub be_at-lt : (k : ℕ) (d : List ℕ) (i : ℕ) → Bytes d → be_at k d i < 256 ^ k
be_at-lt zero d i b = omega arith
be_at-lt (suc k) d i b = rw (pow-succ' 256 k) (digits_lt (b i) (be_at-lt k d (i + 1) b))

-- the number that k bytes make has these bytes
pub be-be_at : (k : ℕ) (d : List ℕ) (i : ℕ) → Bytes d → i + k ≤ length d → be k (be_at k d i) ≡ part i k d
be-be_at zero d i b h = refl
be-be_at (suc k) d i b h =
    let less : be_at k d (i + 1) < 256 ^ k = be_at-lt k d (i + 1) b in
    let here : i < length d = omega arith in
    ap (λ (x : ℕ). (x % 256) ∷ be k (get_or d i 0 * 256 ^ k + be_at k d (i + 1))) (digits_div (get_or d i 0) less)
    ∙ ap (λ (x : ℕ). x ∷ be k (get_or d i 0 * 256 ^ k + be_at k d (i + 1))) (mod-eq_of_lt (b i))
    ∙ ap (λ (l : List ℕ). get_or d i 0 ∷ l) (be-more k (get_or d i 0) (be_at k d (i + 1)) ∙ be-be_at k d (i + 1) b (omega arith))
    ∙ ap (λ (j : ℕ). get_or d i 0 ∷ take k (drop j d)) (add-one i)
    ∙ ap (take (suc k)) (sym (drop-cons d i 0 here))

-- ---- an IV: its first four bytes in one word, the eight that a number is XORed onto in another

pub iv-back : (v : List ℕ) → length v ≡ 12 → Bytes v → iv_of (be_at 4 v 0) (be_at 8 v 4) ≡ v
unfolding iv_of
iv-back v h b =
    ap (λ (l : List ℕ). l ++ be 8 (be_at 8 v 4)) (be-be_at 4 v 0 b (omega arith))
    ∙ ap (λ (l : List ℕ). take 4 v ++ l) (be-be_at 8 v 4 b (omega arith))
    ∙ sym (take-add 4 8 v) ∙ take_all 12 v (omega arith)
