-- Big-endian integers (RFC 8446, section 3.3) and bytes XORed onto bytes, with their laws. Assumes nothing.
use Rattle.std.specs.Prelude.{◌≡◌, refl, List, [], ◌∷◌, ◌++◌, ℕ, zero, suc, ◌+◌, ◌*◌, ◌/◌, ◌%◌, ◌^◌, ◌<◌, length, get_or}
use Rattle.std.proofs.Common.{sym, ap, ◌∙◌, add_assoc, add-mul, mul_assoc, pow-suc, add-one, arith, pow-add, get_or-append-add}
use Rattle.std.proofs.Math.Arith.{bin_ind}
use Rattle.std.specs.Int.Bits.{bit_xor, differ, xor_step, xor_self}
use Rattle.std.proofs.lemmas.Nat.{xor_comm}

-- the k bytes of n, the highest first
abbrev pub be : ℕ → ℕ → List ℕ
be zero n = []
be (suc k) n = (n / 256 ^ k % 256) ∷ be k n

-- the number that the k bytes from place i on make
abbrev pub be_at : ℕ → List ℕ → ℕ → ℕ
be_at zero d i = 0
be_at (suc k) d i = get_or d i 0 * 256 ^ k + be_at k d (i + 1)

-- the bytes of d from place i on, as many as v has, each XORed with v's
abbrev pub xors : List ℕ → ℕ → List ℕ → List ℕ
xors d i [] = []
xors d i (b ∷ bs) = bit_xor (get_or d i 0) b ∷ xors d (i + 1) bs

-- every element is a byte
abbrev pub Bytes : List ℕ → Type 0
Bytes d = (i : ℕ) → get_or d i 0 < 256

pub length-be : (k n : ℕ) → length (be k n) ≡ k
length-be zero n = refl
length-be (suc k) n = ap suc (length-be k n)

pub length-xors : (d : List ℕ) (i : ℕ) (v : List ℕ) → length (xors d i v) ≡ length v
length-xors d i [] = refl
length-xors d i (b ∷ bs) = ap suc (length-xors d (i + 1) bs)

-- reading behind the first byte of a list is reading its rest
pub be_at-cons : (k a : ℕ) (d : List ℕ) (i : ℕ) → be_at k (a ∷ d) (i + 1) ≡ be_at k d i
be_at-cons zero a d i = refl
be_at-cons (suc k) a d i = ap (λ (x : ℕ). x + be_at k (a ∷ d) (i + 1 + 1)) (rw add-one) ∙ ap (λ (x : ℕ). get_or d i 0 * 256 ^ k + x) (be_at-cons k a d (i + 1))

-- reading in a list behind others is reading in the list alone
pub be_at-behind : (k : ℕ) (a d : List ℕ) (i : ℕ) → be_at k (a ++ d) (length a + i) ≡ be_at k d i
be_at-behind zero a d i = refl
be_at-behind (suc k) a d i =
    ap (λ (x : ℕ). x * 256 ^ k + be_at k (a ++ d) (length a + i + 1)) (get_or-append-add a d i 0)
    ∙ ap (λ (x : ℕ). get_or d i 0 * 256 ^ k + be_at k (a ++ d) x) (add_assoc (length a) i 1)
    ∙ ap (λ (x : ℕ). get_or d i 0 * 256 ^ k + x) (be_at-behind k a d (i + 1))

-- a number of a + b bytes, by its first a and the other b
pub be_at-add : (a b : ℕ) (d : List ℕ) (i : ℕ) → be_at (a + b) d i ≡ be_at a d i * 256 ^ b + be_at b d (i + a)
be_at-add zero b d i =
    let none : 0 + b ≡ b = omega arith in
    let start : i ≡ i + 0 = omega arith in
    let same : be_at b d (i + 0) ≡ 0 * 256 ^ b + be_at b d (i + 0) = omega arith in
    ap (λ (k : ℕ). be_at k d i) none ∙ ap (be_at b d) start ∙ same
be_at-add (suc a) b d i =
    let x = get_or d i 0 in
    let more : suc a + b ≡ suc (a + b) = omega arith in
    let next : i + 1 + a ≡ i + suc a = omega arith in
    ap (λ (k : ℕ). be_at k d i) more
    ∙ ap (λ (y : ℕ). x * y + be_at (a + b) d (i + 1)) (pow-add 256 a b)
    ∙ ap (λ (y : ℕ). x * (256 ^ a * 256 ^ b) + y) (be_at-add a b d (i + 1))
    ∙ ap (λ (y : ℕ). y + (be_at a d (i + 1) * 256 ^ b + be_at b d (i + 1 + a))) (sym (mul_assoc x (256 ^ a) (256 ^ b)))
    ∙ sym (add_assoc (x * 256 ^ a * 256 ^ b) (be_at a d (i + 1) * 256 ^ b) (be_at b d (i + 1 + a)))
    ∙ ap (λ (y : ℕ). y + be_at b d (i + 1 + a)) (sym (add-mul (x * 256 ^ a) (be_at a d (i + 1)) (256 ^ b)))
    ∙ ap (λ (y : ℕ). (x * 256 ^ a + be_at a d (i + 1)) * 256 ^ b + be_at b d y) next

pub pow_pos : (k : ℕ) → 0 < 256 ^ k
pow_pos zero = omega arith
pow_pos (suc k) = rw (pow-suc 256 k) (omega (arith, pow_pos k))

-- k bytes that make 0 are zeros: the first of them, and so the others
pub be_at-zero : (k : ℕ) (d : List ℕ) (i : ℕ) → be_at (suc k) d i ≡ 0 → (get_or d i 0 ≡ 0) × (be_at k d (i + 1) ≡ 0)
be_at-zero k d i e = (first (get_or d i 0) (omega arith), omega arith)
  where
    first : (b : ℕ) → b * 256 ^ k ≡ 0 → b ≡ 0
    first zero z = refl
    first (suc b) z = absurd (omega (arith, pow_pos k))

-- ---- XOR

differ_twice : (x y : ℕ) → x < 2 → y < 2 → differ (differ x y) y ≡ x
differ_twice zero zero h k = refl
differ_twice zero (suc zero) h k = refl
differ_twice zero (suc (suc y)) h k = absurd (omega arith)
differ_twice (suc zero) zero h k = refl
differ_twice (suc zero) (suc zero) h k = refl
differ_twice (suc zero) (suc (suc y)) h k = absurd (omega arith)
differ_twice (suc (suc x)) y h k = absurd (omega arith)

differ_lt : (x y : ℕ) → x < 2 → y < 2 → differ x y < 2
differ_lt zero y h k = k
differ_lt (suc x) zero h k = h
differ_lt (suc zero) (suc zero) h k = omega arith
differ_lt (suc zero) (suc (suc y)) h k = absurd (omega arith)
differ_lt (suc (suc x)) (suc y) h k = absurd (omega arith)

-- a mask put on twice is gone
pub xor_twice : (a m : ℕ) → bit_xor (bit_xor a m) m ≡ a
xor_twice =
    bin_ind (λ (a : ℕ). (m : ℕ) → bit_xor (bit_xor a m) m ≡ a) (λ m. xor_self m)
    (λ a ih m.
    let less : differ (a % 2) (m % 2) < 2 = differ_lt (a % 2) (m % 2) (omega arith) (omega arith) in
    let half : bit_xor a m / 2 ≡ bit_xor (a / 2) (m / 2) = omega (arith, xor_step a m) in
    let low : bit_xor a m % 2 ≡ differ (a % 2) (m % 2) = omega (arith, xor_step a m) in
    xor_step (bit_xor a m) m ∙ rw (half, low, ih (m / 2), differ_twice (a % 2) (m % 2) (omega arith) (omega arith)) (omega arith))

pub xor_injective : (a m n : ℕ) → bit_xor a m ≡ bit_xor a n → m ≡ n
xor_injective a m n e =
    sym (xor_twice m a) ∙ ap (λ (x : ℕ). bit_xor x a) (xor_comm m a ∙ e ∙ xor_comm a n) ∙ xor_twice n a

-- bytes XORed onto the same bytes are equal if the results are
pub xors_injective : (d : List ℕ) (i : ℕ) (u v : List ℕ) → length u ≡ length v → xors d i u ≡ xors d i v → u ≡ v
xors_injective d i [] [] l e = refl
xors_injective d i [] (b ∷ v) l e = absurd (omega arith)
xors_injective d i (a ∷ u) [] l e = absurd (omega arith)
xors_injective d i (a ∷ u) (b ∷ v) l e =
    let first : bit_xor (get_or d i 0) a ≡ bit_xor (get_or d i 0) b = cc in
    let others : xors d (i + 1) u ≡ xors d (i + 1) v = cc in
    let same : a ≡ b = xor_injective (get_or d i 0) a b first in
    let rest : u ≡ v = xors_injective d (i + 1) u v (omega arith) others in
    cc
