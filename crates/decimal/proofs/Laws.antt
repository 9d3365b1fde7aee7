-- What a number in decimal is: how long, which characters, no leading zero, and read back it is the number. Assumes nothing.
use Rattle.std.specs.Prelude.{List, [], ◌∷◌, ◌++◌, ◌≡◌, refl, ℕ, zero, suc, ◌+◌, ◌-◌, ◌*◌, ◌/◌, ◌^◌, ◌<◌, ◌≤◌, length, get_or, take, drop}
use Rattle.std.proofs.Common.{add-one, append_assoc, ⊎_elim, sym, ap, ◌∙◌, pow-suc, mul_assoc, arith, length-append, take-append-drop, length-take-le, take-take, drop-drop, drop_at}
use Rattle.std.proofs.Math.ListN.{get_or-append}
use Rattle.std.proofs.Math.Nat.{pow-le-pow_right}
use Rattle.std.proofs.lemmas.List.{take-append-le, get_or_at}
use Rattle.base.specs.Choose.{lt-or_ge}
use Rattle.base.specs.Parts.{splice}
use Rattle.decimal.specs.Decimal.{digit, digits, most_digits, places_up_to, places_of, decimal, value}
use Rattle.decimal.proofs.Cases.{places_last, places_cases}

-- ---- a digit less

pub tenth : (k n : ℕ) → n < 10 ^ suc k → n / 10 < 10 ^ k
tenth k n h = omega (arith, pow-suc 10 k)

tenfold : (k n : ℕ) → n / 10 < 10 ^ k → n < 10 ^ suc k
tenfold k n h = omega (arith, pow-suc 10 k)

-- ---- how many digits

places_some : (k n : ℕ) → 0 < places_up_to k n
unfolding places_up_to
places_some zero n = omega arith
places_some (suc k) n = places_cases (λ (x : ℕ). 0 < x) k n (λ _. omega arith) (λ _. omega arith)

places_most : (k n : ℕ) → places_up_to k n ≤ suc k
unfolding places_up_to
places_most zero n = omega arith
places_most (suc k) n = places_cases (λ (x : ℕ). x ≤ suc (suc k)) k n (λ _. omega arith) (λ _. omega (arith, places_most k (n / 10)))

places_short : (j k n : ℕ) → 0 < k → n < 10 ^ k → places_up_to j n ≤ k
unfolding places_up_to
places_short zero k n p h = p
places_short (suc j) zero n p h = absurd (omega arith)
places_short (suc j) (suc zero) n p h = places_cases (λ (x : ℕ). x ≤ 1) j n (λ _. omega arith) (λ g. absurd (omega arith))
places_short (suc j) (suc (suc k)) n p h =
    places_cases (λ (x : ℕ). x ≤ suc (suc k)) j n (λ _. omega arith) (λ _. omega (arith, places_short j (suc k) (n / 10) (omega arith) (tenth (suc k) n h)))

-- they are enough
places_hold : (k n : ℕ) → n < 10 ^ suc k → n < 10 ^ places_up_to k n
unfolding places_up_to
places_hold zero n h = h
places_hold (suc k) n h =
    places_cases (λ (x : ℕ). n < 10 ^ x) k n (λ l. l) (λ _. tenfold (places_up_to k (n / 10)) n (places_hold k (n / 10) (tenth (suc k) n h)))

-- a number that reaches 10 ^ k and not ten times as much has one digit more than k
pub places_reached : (k n : ℕ) → k < 20 → 10 ^ k ≤ n → n < 10 * 10 ^ k → k + 1 ≡ places_of n
unfolding places_of
places_reached k n l a b =
    let below : n < 10 ^ (k + 1) = rw (add-one k, pow-suc 10 k) (omega arith) in
    let most : places_up_to 19 n ≤ k + 1 = places_short 19 (k + 1) n (omega arith) below in
    let ten : 0 < 10 = omega arith in
    let top : 10 ^ (k + 1) ≤ 10 ^ 20 = pow-le-pow_right ten {i = k + 1} {j = 20} (omega arith) in
    let held : n < 10 ^ places_up_to 19 n = places_hold 19 n (omega arith) in
    ⊎_elim (λ (s : places_up_to 19 n < k + 1). let low : 10 ^ places_up_to 19 n ≤ 10 ^ k = pow-le-pow_right ten {i = places_up_to 19 n} {j = k} (omega arith) in absurd (omega arith))
    (λ g. omega arith) (lt-or_ge (places_up_to 19 n) (k + 1))

pub places_none : places_of 0 ≡ 1
unfolding places_of
places_none = places_last 19 0 (omega arith)

pub length_digits : (k n : ℕ) → length (digits k n) ≡ k
unfolding digits
length_digits zero n = refl
length_digits (suc k) n = length-append (digits k (n / 10)) (digit n ∷ []) ∙ omega (arith, length_digits k (n / 10))

pub length-decimal : (n : ℕ) → length (decimal n) ≡ places_of n
unfolding decimal
length-decimal n = length_digits (places_of n) n

pub decimal-some : (n : ℕ) → 0 < length (decimal n)
unfolding places_of
decimal-some n = rw (length-decimal n) (places_some 19 n)

pub decimal-most : (n : ℕ) → length (decimal n) ≤ most_digits
unfolding places_of
decimal-most n = rw (length-decimal n) (places_most 19 n)

-- a number below 10 ^ k has no more than k digits
pub decimal-short : (k n : ℕ) → 0 < k → n < 10 ^ k → length (decimal n) ≤ k
unfolding places_of
decimal-short k n p h = rw (length-decimal n) (places_short 19 k n p h)

-- ---- read back

value-more : (t : List ℕ) (c : ℕ) → value (t ++ (c ∷ [])) ≡ value t * 10 + (c - 48)
unfolding value
value-more [] c = omega arith
value-more (x ∷ t) c =
    let p : ℕ = 10 ^ length t in
    let len : length (t ++ (c ∷ [])) ≡ suc (length t) = length-append t (c ∷ []) ∙ omega arith in
    let high : (x - 48) * 10 ^ length (t ++ (c ∷ [])) ≡ (x - 48) * p * 10 =
    ap (λ (k : ℕ). (x - 48) * 10 ^ k) len ∙ ap (λ (y : ℕ). (x - 48) * y) (pow-suc 10 (length t)) ∙ sym (mul_assoc (x - 48) p 10) in
    omega (arith, high, value-more t c)

value-digits : (k n : ℕ) → n < 10 ^ k → value (digits k n) ≡ n
unfolding digits value
value-digits zero n h = omega arith
value-digits (suc k) n h = value-more (digits k (n / 10)) (digit n) ∙ omega (arith, value-digits k (n / 10) (tenth k n h))

pub reads-back : (n : ℕ) → n < 10 ^ most_digits → value (decimal n) ≡ n
unfolding decimal places_of
reads-back n h = value-digits (places_of n) n (places_hold 19 n h)

-- ---- the characters

first-digit : (k n : ℕ) → 0 < n → n < 10 ^ suc k → get_or (digits (places_up_to k n) n) 0 0 ≡ 48 → ⊥
unfolding digits places_up_to
first-digit zero n p h = λ e. omega arith
first-digit (suc k) n p h =
    let q : ℕ = places_up_to k (n / 10) in
    places_cases (λ (x : ℕ). get_or (digits x n) 0 0 ≡ 48 → ⊥) k n (λ l e. omega arith)
    (λ g e. first-digit k (n / 10) (omega arith) (tenth (suc k) n h)
    (sym (get_or-append (digits q (n / 10)) (digit n ∷ []) 0 0 (omega (arith, length_digits q (n / 10), places_some k (n / 10)))) ∙ e))

-- a text of two digits or more does not begin with 0
pub no_leading_zero : (n : ℕ) → n < 10 ^ most_digits → 1 < length (decimal n) → (get_or (decimal n) 0 0 ≡ 48 → ⊥)
unfolding decimal places_of
no_leading_zero n h m = first-digit 19 n (positive n m) h
  where
    positive : (n : ℕ) → 1 < length (decimal n) → 0 < n
    positive n m = ⊎_elim (λ l. let one = length-decimal n ∙ places_last 19 n (omega arith) in absurd (omega (arith, one))) (λ g. g) (lt-or_ge n 1)

digits-each : (k n i : ℕ) → i < k → (48 ≤ get_or (digits k n) i 0) × (get_or (digits k n) i 0 < 58)
unfolding digits
digits-each zero n i h = absurd (omega arith)
digits-each (suc k) n i h =
    let t : List ℕ = digits k (n / 10) in
    let len : length t ≡ k = length_digits k (n / 10) in
    ⊎_elim (λ l. rw (get_or-append t (digit n ∷ []) 0 i (omega arith)) (digits-each k (n / 10) i l))
    (λ g. rw (get_or_at t (digit n) [] 0 i (omega arith)) (omega arith, omega arith)) (lt-or_ge i k)

-- each character is a digit
pub each-digit : (n i : ℕ) → i < length (decimal n) → (48 ≤ get_or (decimal n) i 0) × (get_or (decimal n) i 0 < 58)
unfolding decimal
each-digit n i h = digits-each (places_of n) n i (omega (arith, length-decimal n))

-- ---- writing

pub splice-none : (a : ℕ) (d : List ℕ) → splice a [] d ≡ d
unfolding splice
splice-none a d = take-append-drop a d

-- a list written in front of one that is written
pub splice_front : (a b : ℕ) (u v d : List ℕ) → a + length u ≡ b → b ≤ length d → splice a u (splice b v d) ≡ splice a (u ++ v) d
unfolding splice
splice_front a b u v d e h =
    let p : List ℕ = take b d in
    let r : List ℕ = drop (length v) (drop b d) in
    let len : length p ≡ b = length-take-le b d h in
    rw (take-append-le a p (v ++ r) (omega arith), take-take a b d (omega arith), drop-drop (length u) a (p ++ (v ++ r)), drop_at p (v ++ r) (a + length u) (len ∙ sym e))
    (rw (append_assoc u v (drop (length (u ++ v)) (drop a d)), length-append u v, ← drop-drop (length v) (length u) (drop a d), drop-drop (length u) a d, e))

-- no digit is left
pub digits-none : (a n : ℕ) (d : List ℕ) → splice a (digits 0 n) d ≡ d
unfolding digits
digits-none a n d = splice-none a d

-- the last of the digits is written, the others are left
pub digits-next : (a k n : ℕ) (d : List ℕ) → a + k ≤ length d → splice a (digits k (n / 10)) (splice (a + k) (digit n ∷ []) d) ≡ splice a (digits (suc k) n) d
unfolding digits
digits-next a k n d h = splice_front a (a + k) (digits k (n / 10)) (digit n ∷ []) d (omega (arith, length_digits k (n / 10))) h
