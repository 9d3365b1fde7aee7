-- What a record's first bytes mean to the search, without reading the rest of its header. Assumes nothing.
use Rattle.std.specs.Prelude.{true, false, List, ◌≡◌, refl, ℕ, ◌+◌, ◌-◌, ◌*◌, ◌/◌, ◌%◌, ◌<◌, ◌≤◌, length}
use Rattle.std.proofs.Common.{sym, ◌∙◌}
use Rattle.std.proofs.Math.Path.{ap}
use native.Mathlib.Omega.{arith}
use Rattle.std.proofs.Math.ListN.{get_or}
use borrow.Author.Tests.{lt-ltb, le-ltb, lt-leb, le-leb, eq-eqb, ne_eqb, eqb-false}
use Rattle.std.specs.declared.ops.ControlFlow.TheVariants.{Break}
use Rattle.base.specs.Bytes.{be_at}
use Rattle.base.specs.Choose.{by_test, if_true, if_false, both_true, both_false}
use Rattle.record.specs.declared.Parsed.{Parsed}
use Rattle.record.specs.Record.{plain_head, sealed_head, sealed_tail, parsed, parse_ciphertext, parse_plaintext, header_length, fragment_len, ciphertext_of, c_flag_of}
use Rattle.sealing.specs.declared.Search.{Search}
use Rattle.sealing.specs.Seek.{Step, beyond, passed, found_at, step_of}

-- a record of n bytes behind its header that waits
abbrev pub waits : List ℕ → ℕ → ℕ → Search → Step
waits d n slot c = Break (record { any = true; slot = slot; start = c.offset; length = n; epoch = be_at 2 d (n - 11); number = be_at 6 d (n - 9) })

pub nothing_read : (d : List ℕ) (slot : ℕ) (c : Search) → length d ≡ 0 → step_of (parsed d) d slot c ≡ beyond c
unfolding parsed step_of
nothing_read d slot c e = ap (λ (p : Parsed). step_of p d slot c) (if_true _ _ (eq-eqb _ _ e))

-- a sealed record with two number bytes and a length: 0x2C to 0x2F
module _ (d : List ℕ) (slot : ℕ) (c : Search) (some : 0 < length d) (h : get_or d 0 0 / 4 ≡ 11) where
  sealed-read : parsed d ≡ parse_ciphertext d (get_or d 0 0)
  unfolding parsed
  sealed-read =
      if_false _ _ (ne_eqb (length d) 0 (λ e. omega arith))
      ∙ if_true _ _ (eq-eqb (get_or d 0 0 / 32) 1 (omega arith))
      ∙ if_false _ _ (ne_eqb (get_or d 0 0 / 16 % 2) 1 (λ e. omega arith))

  head-five : header_length (get_or d 0 0) ≡ sealed_head
  unfolding header_length
  head-five =
      let e : get_or d 0 0 / 8 ≡ 5 = omega arith in
      let a : get_or d 0 0 / 8 % 2 ≡ 1 = omega (arith, e) in
      let b : get_or d 0 0 / 4 % 2 ≡ 1 = omega arith in
      omega (arith, a, b)

  length-here : fragment_len d (get_or d 0 0) ≡ be_at 2 d 3
  unfolding fragment_len
  length-here = if_true _ _ (eq-eqb (get_or d 0 0 / 4 % 2) 1 (omega arith)) ∙ ap (λ (k : ℕ). be_at 2 d (k - 2)) head-five

  pub sealed-short : length d < sealed_head → step_of (parsed d) d slot c ≡ beyond c
  unfolding parse_ciphertext step_of
  sealed-short l = ap (λ (p : Parsed). step_of p d slot c) (sealed-read ∙ if_true _ _ (lt-ltb (length d) (header_length (get_or d 0 0)) (omega (arith, head-five))))

  pub sealed-cut : sealed_head ≤ length d → length d - sealed_head < be_at 2 d 3 → step_of (parsed d) d slot c ≡ beyond c
  unfolding parse_ciphertext step_of
  sealed-cut l m =
      ap (λ (p : Parsed). step_of p d slot c)
      (sealed-read ∙ if_false _ _ (le-ltb (length d) (header_length (get_or d 0 0)) (omega (arith, head-five))) ∙ if_true _ _ (lt-ltb (length d - header_length (get_or d 0 0)) (fragment_len d (get_or d 0 0)) (omega (arith, head-five, length-here))))

  sealed-whole : sealed_head ≤ length d → be_at 2 d 3 ≤ length d - sealed_head → step_of (parsed d) d slot c ≡ found_at d (ciphertext_of d (get_or d 0 0)) slot c
  unfolding parse_ciphertext step_of
  sealed-whole l m =
      ap (λ (p : Parsed). step_of p d slot c)
      (sealed-read ∙ if_false _ _ (le-ltb (length d) (header_length (get_or d 0 0)) (omega (arith, head-five))) ∙ if_false _ _ (le-ltb (length d - header_length (get_or d 0 0)) (fragment_len d (get_or d 0 0)) (omega (arith, head-five, length-here))))

  pub sealed-small : sealed_head ≤ length d → be_at 2 d 3 ≤ length d - sealed_head → be_at 2 d 3 < sealed_tail → step_of (parsed d) d slot c ≡ beyond c
  unfolding found_at
  sealed-small l m s =
      sealed-whole l m ∙ if_false _ _ (both_true (eq-eqb _ _ head-five) ∙ lt-leb sealed_tail (fragment_len d (get_or d 0 0)) (omega (arith, length-here)))

  pub sealed-waits : sealed_head ≤ length d → be_at 2 d 3 ≤ length d - sealed_head → sealed_tail ≤ be_at 2 d 3 → step_of (parsed d) d slot c ≡ waits d (be_at 2 d 3) slot c
  unfolding found_at
  sealed-waits l m s =
      sealed-whole l m
      ∙ if_true _ _ (both_true (eq-eqb _ _ head-five) ∙ le-leb sealed_tail (fragment_len d (get_or d 0 0)) (omega (arith, length-here)))
      ∙ ap (λ (n : ℕ). waits d n slot c) length-here

-- of two numbers, not the one with the other remainder
not_this : (q k r : ℕ) → q % 2 ≡ r → (k % 2 ≡ r → ⊥) → q ≡ k → ⊥
not_this q k r e n p = n (sym (ap (λ (x : ℕ). x % 2) p) ∙ e)

-- flags with a header of 5 bytes and no connection ID
flags : (f : ℕ) → f / 32 ≡ 1 → f / 16 % 2 ≡ 0 → 2 + f / 8 % 2 + f / 4 % 2 * 2 ≡ sealed_head → f / 4 ≡ 11
flags f h z e =
    let p : (2 ≤ f / 16) × (f / 16 ≤ 3) = (omega (arith, h), omega (arith, h)) in
    let x : f / 16 ≡ 2 = omega (arith, p.0, p.1, not_this (f / 16) 3 0 z (λ (g : 3 % 2 ≡ 0). omega arith)) in
    let a : f / 8 % 2 ≡ 1 = omega (arith, e) in
    let q : (4 ≤ f / 8) × (f / 8 ≤ 5) = (omega (arith, x), omega (arith, x)) in
    let y : f / 8 ≡ 5 = omega (arith, q.0, q.1, not_this (f / 8) 4 1 a (λ (g : 4 % 2 ≡ 1). omega arith)) in
    let b : f / 4 % 2 ≡ 1 = omega (arith, e) in
    let r : (10 ≤ f / 4) × (f / 4 ≤ 11) = (omega (arith, y), omega (arith, y)) in
    omega (arith, r.0, r.1, not_this (f / 4) 10 1 b (λ (g : 10 % 2 ≡ 1). omega arith))

-- any other sealed record ends the search of its datagram
module _ (d : List ℕ) (slot : ℕ) (c : Search) (some : 0 < length d) (h : get_or d 0 0 / 32 ≡ 1) (n : get_or d 0 0 / 4 ≡ 11 → ⊥) where
  other-head : c_flag_of (get_or d 0 0) ≡ false → header_length (get_or d 0 0) ≡ sealed_head → ⊥
  unfolding header_length
  other-head f e =
      let x : get_or d 0 0 / 16 % 2 ≡ 1 → ⊥ = eqb-false (get_or d 0 0 / 16 % 2) 1 f in
      n (flags (get_or d 0 0) h (omega (arith, x)) e)

  pub sealed-other : step_of (parsed d) d slot c ≡ beyond c
  unfolding parsed parse_ciphertext step_of found_at
  sealed-other =
      ap (λ (p : Parsed). step_of p d slot c) (if_false _ _ (ne_eqb (length d) 0 (λ e. omega arith)) ∙ if_true _ _ (eq-eqb (get_or d 0 0 / 32) 1 h))
      ∙ by_test (λ (p : Parsed). step_of p d slot c ≡ beyond c) (λ f. refl)
      (λ f. by_test (λ (p : Parsed). step_of p d slot c ≡ beyond c) (λ g. refl)
      (λ g. by_test (λ (p : Parsed). step_of p d slot c ≡ beyond c) (λ i. refl)
      (λ i. if_false _ _ (both_false _ (ne_eqb _ _ (other-head f))))))

-- a record in plaintext is passed, whatever its type
module _ (d : List ℕ) (slot : ℕ) (c : Search) (some : 0 < length d) (h : get_or d 0 0 / 32 ≡ 1 → ⊥) where
  plain-read : parsed d ≡ parse_plaintext d
  unfolding parsed
  plain-read = if_false _ _ (ne_eqb (length d) 0 (λ e. omega arith)) ∙ if_false _ _ (ne_eqb (get_or d 0 0 / 32) 1 h)

  pub plain-short : length d < plain_head → step_of (parsed d) d slot c ≡ beyond c
  unfolding parse_plaintext step_of
  plain-short l = ap (λ (p : Parsed). step_of p d slot c) (plain-read ∙ if_true _ _ (lt-ltb _ _ l))

  pub plain-cut : plain_head ≤ length d → length d - plain_head < be_at 2 d 11 → step_of (parsed d) d slot c ≡ beyond c
  unfolding parse_plaintext step_of
  plain-cut l m = ap (λ (p : Parsed). step_of p d slot c) (plain-read ∙ if_false _ _ (le-ltb _ _ l) ∙ if_true _ _ (lt-ltb _ _ m))

  pub plain-passed : plain_head ≤ length d → be_at 2 d 11 ≤ length d - plain_head → step_of (parsed d) d slot c ≡ passed c (be_at 2 d 11)
  unfolding parse_plaintext step_of
  plain-passed l m =
      ap (λ (p : Parsed). step_of p d slot c) (plain-read ∙ if_false _ _ (le-ltb _ _ l) ∙ if_false _ _ (le-ltb _ _ m))
      ∙ by_test (λ (p : Parsed). step_of p d slot c ≡ passed c (be_at 2 d 11)) (λ e. refl) (λ e. refl)
