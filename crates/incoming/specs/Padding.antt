-- Padding (RFC 8446, section 5.4) passed in words: how many bytes are left when words of zeros are taken off the end, and that what an opened
-- record holds is found in them. Assumes nothing.
use Rattle.std.specs.Prelude.{List, ◌≡◌, refl, eqb, length, take}
use Rattle.std.proofs.Common.{sym, ◌∙◌, eqb-true, eq-eqb, ne_eqb}
use Rattle.std.proofs.Math.Path.{ap, subst}
use Prim.Native.Nat.{ℕ, zero, suc, ◌+◌, ◌*◌, ◌/◌, ◌%◌, ◌≤◌, ◌<◌}
use native.Mathlib.Omega.{arith}
use Rattle.base.specs.Bytes.{be_at, be_at-zero}
use Rattle.base.specs.Choose.{choose, if_true, if_false, by_test}
use Rattle.incoming.specs.Inner.{inner_of, zero_more}

-- bytes of a word
abbrev pub word_len : ℕ
word_len = 8

-- how many are left of n bytes and k words behind them
abbrev words_off : List ℕ → ℕ → ℕ → ℕ
words_off d n zero = n
words_off d n (suc k) = choose (eqb (be_at word_len d (n + word_len * k)) 0) (words_off d n k) (n + word_len * suc k)

-- of the first n bytes, cut into words from their end on
unfoldable pub left_of : List ℕ → ℕ → ℕ
left_of d n = words_off d (n % word_len) (n / word_len)

-- ---- the last word, which starts there

module _ (d : List ℕ) (n start : ℕ) (behind : n ≡ start + word_len) where
  by-last-word : left_of d n ≡ choose (eqb (be_at word_len d start) 0) (left_of d start) n
  unfolding left_of
  by-last-word =
      let r : ℕ = start % word_len in
      let k : ℕ = start / word_len in
      let words : n / word_len ≡ suc k = omega arith in
      let rest : n % word_len ≡ r = omega arith in
      let there : r + word_len * k ≡ start = omega arith in
      let whole : r + word_len * suc k ≡ n = omega arith in
      ap (words_off d (n % word_len)) words ∙ ap (λ (x : ℕ). words_off d x (suc k)) rest
      ∙ ap (λ (x : ℕ). choose (eqb (be_at word_len d x) 0) (words_off d r k) (r + word_len * suc k)) there
      ∙ ap (choose (eqb (be_at word_len d start) 0) (words_off d r k)) whole

  pub word_off : be_at word_len d start ≡ 0 → left_of d n ≡ left_of d start
  word_off z = by-last-word ∙ if_true _ _ (eq-eqb _ _ z)

  pub word-stays : (be_at word_len d start ≡ 0 → ⊥) → left_of d n ≡ n
  word-stays ne = by-last-word ∙ if_false _ _ (ne_eqb _ _ ne)

pub no_word : (d : List ℕ) (n : ℕ) → n < word_len → left_of d n ≡ n
unfolding left_of
no_word d n short = let none : n / word_len ≡ 0 = omega arith in ap (words_off d (n % word_len)) none ∙ omega arith

-- ---- nothing is lost

-- k bytes of zeros change nothing
inner-zero-bytes : (k : ℕ) (d : List ℕ) (n : ℕ) → n + k ≤ length d → be_at k d n ≡ 0 → inner_of (take (n + k) d) ≡ inner_of (take n d)
inner-zero-bytes zero d n h z = let same : n + 0 ≡ n = omega arith in ap (λ (m : ℕ). inner_of (take m d)) same
inner-zero-bytes (suc k) d n h z =
    let zeros = be_at-zero k d n z in
    let next : n + suc k ≡ n + 1 + k = omega arith in
    let one : n + 1 ≡ suc n = omega arith in
    ap (λ (m : ℕ). inner_of (take m d)) next ∙ inner-zero-bytes k d (n + 1) (omega arith) zeros.1 ∙ ap (λ (m : ℕ). inner_of (take m d)) one
    ∙ zero_more d n (omega arith) zeros.0

-- of m bytes so many are left, and hold the same
record Kept (d : List ℕ) (m left : ℕ) : Type 0 where
  fits : left ≤ m
  same : inner_of (take left d) ≡ inner_of (take m d)

word_kept : (d : List ℕ) (m left : ℕ) → m + word_len ≤ length d → be_at word_len d m ≡ 0 → Kept d m left → Kept d (m + word_len) left
word_kept d m left h z kept =
    let fits = kept.fits in
    record { fits = omega arith; same = kept.same ∙ sym (inner-zero-bytes word_len d m h z) }

words-kept : (d : List ℕ) (n k : ℕ) → n + word_len * k ≤ length d → Kept d (n + word_len * k) (words_off d n k)
words-kept d n zero h = record { fits = omega arith; same = let whole : n ≡ n + word_len * 0 = omega arith in ap (λ (m : ℕ). inner_of (take m d)) whole }
words-kept d n (suc k) h =
    let less = words-kept d n k (omega arith) in
    let next : n + word_len * k + word_len ≡ n + word_len * suc k = omega arith in
    by_test (Kept d (n + word_len * suc k))
    (λ t. subst (λ (m : ℕ). Kept d m (words_off d n k)) next (word_kept d (n + word_len * k) (words_off d n k) (omega arith) (eqb-true _ _ t) less))
    (λ _. record { fits = omega arith; same = refl })

module _ (d : List ℕ) (n : ℕ) (h : n ≤ length d) where
  all-kept : Kept d n (left_of d n)
  unfolding left_of
  all-kept =
      let r : ℕ = n % word_len in
      let k : ℕ = n / word_len in
      let whole : r + word_len * k ≡ n = omega arith in
      subst (λ (m : ℕ). Kept d m (words_off d r k)) whole (words-kept d r k (omega arith))

  pub left-fits : left_of d n ≤ n
  left-fits = all-kept.fits

  pub left-same : inner_of (take (left_of d n) d) ≡ inner_of (take n d)
  left-same = all-kept.same
