-- Big-endian integers (RFC 8446, section 3.3) and bytes XORed onto bytes, with their laws. Assumes nothing.
use Rattle.std.specs.Prelude.{◌≡◌, refl, List, [], ◌++◌, ℕ, zero, suc, ◌+◌, ◌*◌, ◌/◌, ◌%◌, ◌^◌, ◌<◌}
use Rattle.std.proofs.Common.{sym, ap, ◌∙◌, mod-eq_of_lt, arith}
use Rattle.std.proofs.Math.Nat.{pow-succ'}
use Rattle.std.proofs.Math.Arith.{mod-mul, digits_lt}
use Rattle.base.specs.Bytes.{Bytes, be, be_at, be_at-cons, be_at-add, pow_pos}
use Rattle.base.specs.Parts.{part, length_part, part_at, splice, splice_at, splice_front, lent}
use borrow.Rule.Slice.PartMut.{put_mid}
use Rattle.std.specs.Int.{w64, from_be_bytes, byte_at, bytes_high_first}
use Rattle.std.proofs.Math.Nat.{div-one}
use Rattle.std.proofs.Common.{replicate, get_or, length, ◌-◌, ◌≤◌}
use Rattle.std.proofs.lemmas.List.{get_or-replicate}

byte-be : (k n : ℕ) → byte_at k n ≡ n / 256 ^ k % 256
byte-be zero n = sym (ap (λ (x : ℕ). x % 256) (div-one n))
byte-be (suc k) n = refl

-- the library's bytes of a number, the highest first, are those that `be` defines
pub high_first-be : (k n : ℕ) → bytes_high_first k n ≡ be k n
high_first-be zero n = refl
high_first-be (suc k) n = rw (byte-be k n, high_first-be k n)

-- the k bytes of n read back are n, but for what k bytes cannot hold
pub be_at-be : (k n : ℕ) (r : List ℕ) → be_at k (be k n ++ r) 0 ≡ n % 256 ^ k
be_at-be zero n r = omega arith
be_at-be (suc k) n r =
    ap (λ (x : ℕ). n / 256 ^ k % 256 * 256 ^ k + x) (be_at-cons k (n / 256 ^ k % 256) (be k n ++ r) 0 ∙ be_at-be k n r)
    ∙ sym (mod-mul n (omega arith) (pow_pos k)) ∙ ap (λ (x : ℕ). n % x) (sym (pow-succ' 256 k))

-- two numbers that k bytes hold are equal if their bytes are
pub be_injective : (k m n : ℕ) → m < 256 ^ k → n < 256 ^ k → be k m ≡ be k n → m ≡ n
be_injective k m n hm hn e =
    sym (mod-eq_of_lt hm) ∙ sym (be_at-be k m []) ∙ ap (λ (l : List ℕ). be_at k (l ++ []) 0) e ∙ be_at-be k n [] ∙ mod-eq_of_lt hn

-- k bytes make a number that k bytes hold
pub be_at-lt : (k : ℕ) (d : List ℕ) (i : ℕ) → Bytes d → be_at k d i < 256 ^ k
be_at-lt zero d i b = omega arith
be_at-lt (suc k) d i b = rw (pow-succ' 256 k) (digits_lt (b i) (be_at-lt k d (i + 1) b))

-- the same bytes elsewhere make the same number
pub be_at-same : (k : ℕ) (a d : List ℕ) (i j : ℕ) → ((n : ℕ) → n < k → get_or a (i + n) 0 ≡ get_or d (j + n) 0) → be_at k a i ≡ be_at k d j
be_at-same zero a d i j f = refl
be_at-same (suc k) a d i j f =
    let first : (x : ℕ) → x + 0 ≡ x = λ x. omega arith in
    let next : (x n : ℕ) → x + 1 + n ≡ x + suc n = λ x n. omega arith in
    let here : get_or a i 0 ≡ get_or d j 0 = sym (ap (λ x. get_or a x 0) (first i)) ∙ f 0 (omega arith) ∙ ap (λ x. get_or d x 0) (first j) in
    let rest : be_at k a (i + 1) ≡ be_at k d (j + 1) =
    be_at-same k a d (i + 1) (j + 1) (λ n h. ap (λ x. get_or a x 0) (next i n) ∙ f (suc n) (omega arith) ∙ sym (ap (λ x. get_or d x 0) (next j n))) in
    ap (λ x. x * 256 ^ k + be_at k a (i + 1)) here ∙ ap (λ x. get_or d j 0 * 256 ^ k + x) rest

-- zeros make 0
pub be_at-zeros : (k : ℕ) (d : List ℕ) (i : ℕ) → ((n : ℕ) → n < k → get_or d (i + n) 0 ≡ 0) → be_at k d i ≡ 0
be_at-zeros zero d i f = refl
be_at-zeros (suc k) d i f =
    let first : i + 0 ≡ i = omega arith in
    let next : (n : ℕ) → i + 1 + n ≡ i + suc n = λ n. omega arith in
    let here : get_or d i 0 ≡ 0 = sym (ap (λ x. get_or d x 0) first) ∙ f 0 (omega arith) in
    let rest : be_at k d (i + 1) ≡ 0 = be_at-zeros k d (i + 1) (λ n h. ap (λ x. get_or d x 0) (next n) ∙ f (suc n) (omega arith)) in
    let none : 0 * 256 ^ k + be_at k d (i + 1) ≡ be_at k d (i + 1) = omega arith in
    ap (λ x. x * 256 ^ k + be_at k d (i + 1)) here ∙ none ∙ rest

-- the library's number of eight bytes
pub be_at_eight : (x : List ℕ) → from_be_bytes w64 x ≡ be_at 8 x 0
be_at_eight x = omega arith

-- and of k, put behind zeros
module _ (m k : ℕ) (eight : m + k ≡ 8) (d v : List ℕ) (i : ℕ) (long : i + k ≤ length d) (of : v ≡ part i (i + k - i) d) where
  abbrev z : List ℕ
  z = replicate 8 0

  whole : length z ≡ 8
  whole = refl

  mine : i + k - i ≡ k
  mine = omega arith

  size : length v ≡ k
  size = ap length of ∙ ap (λ (n : ℕ). length (part i n d)) mine ∙ length_part i k d long

  abbrev x : List ℕ
  x = splice m v z

  front : (n : ℕ) → n < m → get_or x (0 + n) 0 ≡ 0
  front n h =
      let here : 0 + n ≡ n = omega arith in
      ap (λ (j : ℕ). get_or x j 0) here ∙ splice_front m v z (omega (arith, size)) n h ∙ get_or-replicate 8 n 0 0 (omega arith)

  back : (n : ℕ) → n < k → get_or x (0 + m + n) 0 ≡ get_or d (i + n) 0
  back n h =
      let here : 0 + m + n ≡ m + n = omega arith in
      ap (λ (j : ℕ). get_or x j 0) here ∙ splice_at m v z (omega (arith, size)) n (omega (arith, size)) ∙ ap (λ (l : List ℕ). get_or l n 0) of
      ∙ ap (λ (j : ℕ). get_or (part i j d) n 0) mine ∙ part_at i k d n h

  pub be_at-behind_zeros : from_be_bytes w64 (put_mid m (8 - m) (replicate 8 0) v) ≡ be_at k d i
  be_at-behind_zeros =
      let none : 0 * 256 ^ k + be_at k x (0 + m) ≡ be_at k x (0 + m) = omega arith in
      ap (from_be_bytes w64) (lent m 8 z v (omega (arith, size))) ∙ be_at_eight x ∙ ap (λ (n : ℕ). be_at n x 0) (sym eight) ∙ be_at-add m k x 0
      ∙ ap (λ (n : ℕ). n * 256 ^ k + be_at k x (0 + m)) (be_at-zeros m x 0 front) ∙ none ∙ be_at-same k x d (0 + m) i back
