-- What is cut lies within its bytes, and a header that was written reads back. Assumes nothing.
use Rattle.std.specs.Prelude.{true, List, ◌++◌, ◌≡◌, ℕ, ◌+◌, ◌-◌, ◌/◌, ◌%◌, ◌^◌, ◌<◌, ◌≤◌, eqb, get_or}
use Rattle.std.proofs.Math.Path.{refl, ap}
use Rattle.std.proofs.Common.{sym, ◌∙◌}
use Rattle.std.proofs.Math.Nat.{mod-eq_of_lt}
use native.Mathlib.Omega.{arith}
use borrow.Author.Tests.{le-ltb, eq-eqb, ne_eqb, eqb-true}
use Rattle.std.proofs.Math.ListN.{length, length-append}
use Rattle.std.proofs.Math.Seq.{take-append_seam, drop-append_seam}
use Rattle.base.specs.Bytes.{be, be_at}
use Rattle.base.proofs.Bytes.{be_at-be}
use Rattle.base.specs.Choose.{both, either, if_true, if_false, by_test, by_less, test_cases, either-false}
use Rattle.record.specs.declared.Ciphertext.{Ciphertext}
use Rattle.record.specs.declared.Parsed.{Parsed}
use Rattle.record.specs.declared.Parsed.TheVariants as variant
use Rattle.record.specs.Record.{plain_head, sealed_head, s_flag_of, header_length, fragment_len, partial_of, ciphertext_of, parse_ciphertext, is_type, is_version, is_plaintext, plaintext_of, parse_plaintext, parsed, content_of, rest_of, plaintext_header, unified_header}

-- ---- what is cut

-- a sealed record has a header of 2 to 5 bytes, and lies within n
pub record Whole (c : Ciphertext) (n : ℕ) : Type 0 where
  pub two : 2 ≤ c.header_len
  pub five : c.header_len ≤ sealed_head
  pub fits : c.header_len + c.length ≤ n

-- a record lies within n bytes
abbrev pub Inside : ℕ → Parsed → Type 0
Inside n variant.End = Unit {0}
Inside n variant.Incomplete = Unit {0}
Inside n (variant.Invalid k) = plain_head + k ≤ n
Inside n (variant.Plaintext p) = plain_head + p.length ≤ n
Inside n (variant.Ciphertext c) = Whole c n

inside-sealed : (d : List ℕ) (flags : ℕ) → Inside (length d) (parse_ciphertext d flags)
unfolding parse_ciphertext header_length
inside-sealed d flags =
    by_less (Inside (length d)) (length d) (header_length flags) (λ a. tt)
    (λ a. by_less (Inside (length d)) (length d - header_length flags) (fragment_len d flags) {y = variant.Ciphertext (ciphertext_of d flags)} (λ b. tt) (λ b. omega arith))

inside-plain : (d : List ℕ) → Inside (length d) (parse_plaintext d)
unfolding parse_plaintext
inside-plain d =
    by_less (Inside (length d)) (length d) plain_head (λ a. tt)
    (λ a. by_less (Inside (length d)) (length d - plain_head) (be_at 2 d 11) (λ b. tt)
    (λ b. by_test (Inside (length d)) {t = is_plaintext d} {x = variant.Plaintext (plaintext_of d)} {y = variant.Invalid (be_at 2 d 11)} (λ f. omega arith) (λ f. omega arith)))

pub inside : (d : List ℕ) → Inside (length d) (parsed d)
unfolding parsed
inside d =
    by_test (Inside (length d)) (λ e. tt)
    (λ e. by_test (Inside (length d)) (λ s. by_test (Inside (length d)) (λ f. tt) (λ f. inside-sealed d (get_or d 0 0))) (λ s. inside-plain d))

-- ---- a sealed record, read back

-- flags 0x2C to 0x2F: two number bytes, a length
module _ (f : ℕ) (low : 44 ≤ f) (high : f < 48) where
  two : f / 8 % 2 ≡ 1
  two = let q : f / 8 ≡ 5 = omega arith in rw q

  sized : f / 4 % 2 ≡ 1
  sized = let q : f / 4 ≡ 11 = omega arith in rw q

  plain_id : f / 16 % 2 ≡ 1 → ⊥
  plain_id = let q : f / 16 ≡ 2 = omega arith in λ e. let z : ◌≡◌ {A = ℕ} 0 1 = rw q at e in omega arith

  full_header : header_length f ≡ sealed_head
  unfolding header_length
  full_header = rw (two, sized)

  full_length : (d : List ℕ) → fragment_len d f ≡ be_at 2 d 3
  unfolding fragment_len
  full_length d = if_true _ _ (eq-eqb _ _ sized) ∙ ap (λ (h : ℕ). be_at 2 d (h - 2)) full_header

  full_number : (d : List ℕ) → partial_of d (s_flag_of f) ≡ be_at 2 d 1
  unfolding partial_of
  full_number d = if_true _ _ (eq-eqb _ _ two)

  pub full_parsed : (d : List ℕ) → get_or d 0 0 ≡ f → sealed_head + be_at 2 d 3 ≤ length d → parsed d ≡ variant.Ciphertext (record {
    epoch_bits = f % 4;
    s_flag = true;
    sequence_number = be_at 2 d 1;
    header_len = sealed_head;
    length = be_at 2 d 3;
  })
  unfolding parsed parse_ciphertext
  full_parsed d first fits =
      let any : length d ≡ 0 → ⊥ = λ e. omega arith in
      let sealed : f / 32 ≡ 1 = omega arith in
      let head : header_length f ≤ length d = omega (arith, full_header) in
      let whole : fragment_len d f ≤ length d - header_length f = omega (arith, full_header, full_length d) in
      if_false _ _ (ne_eqb _ _ any)
      ∙ rw first (if_true _ _ (eq-eqb _ _ sealed) ∙ if_false _ _ (ne_eqb _ _ plain_id) ∙ if_false _ _ (le-ltb _ _ head) ∙ if_false _ _ (le-ltb _ _ whole)
      ∙ λ i. variant.Ciphertext (record {
        epoch_bits = f % 4;
        s_flag = eq-eqb (f / 8 % 2) 1 two i;
        sequence_number = full_number d i;
        header_len = full_header i;
        length = full_length d i;
      }))

module _ (e n : ℕ) (body r : List ℕ) (short : length body < 65536) where
  -- the record that was written begins the list
  abbrev sealed : List ℕ
  sealed = unified_header e n (length body) ++ (body ++ r)

  pub unified_back : parsed (unified_header e n (length body) ++ (body ++ r)) ≡ variant.Ciphertext (record {
    epoch_bits = e % 4;
    s_flag = true;
    sequence_number = n % 2 ^ 16;
    header_len = sealed_head;
    length = length body;
  })
  unfolding unified_header
  unified_back =
      let len : be_at 2 sealed 3 ≡ length body = be_at-be 2 (length body) (body ++ r) ∙ mod-eq_of_lt short in
      full_parsed (44 + e % 4) (omega arith) (omega arith) sealed refl (rw len (simp length-append (omega arith)))
      ∙ λ i. variant.Ciphertext (record {
        epoch_bits = bits i;
        s_flag = true;
        sequence_number = be_at-be 2 n (be 2 (length body) ++ (body ++ r)) i;
        header_len = sealed_head;
        length = len i;
      })
    where
      bits : (44 + e % 4) % 4 ≡ e % 4
      bits = omega arith

  pub unified_content : content_of (unified_header e n (length body) ++ (body ++ r)) (parsed (unified_header e n (length body) ++ (body ++ r))) ≡ body
  unfolding unified_header
  unified_content = ap (content_of sealed) unified_back ∙ take-append_seam body r

  pub unified_rest : rest_of (unified_header e n (length body) ++ (body ++ r)) (parsed (unified_header e n (length body) ++ (body ++ r))) ≡ r
  unfolding unified_header
  unified_rest = ap (rest_of sealed) unified_back ∙ drop-append_seam body r

-- ---- a plaintext record, read back

-- an allowed type begins no sealed record
type-low : (t : ℕ) → is_type t ≡ true → t / 32 ≡ 1 → ⊥
unfolding is_type
type-low t e q =
    test_cases (eqb t 21) (λ f. omega (arith, eqb-true t 21 f))
    (λ f. test_cases (eqb t 22) (λ g. omega (arith, eqb-true t 22 g))
    (λ g. let h : eqb t 26 ≡ true = sym (either-false f ∙ either-false g) ∙ e in omega (arith, eqb-true t 26 h)))

module _ (t n : ℕ) (content r : List ℕ) (allowed : is_type t ≡ true) (short : length content < 65536) where
  abbrev plain : List ℕ
  plain = plaintext_header t n (length content) ++ (content ++ r)

  written-allowed : is_plaintext plain ≡ true
  unfolding is_plaintext is_version both either plaintext_header
  written-allowed = rw allowed

  pub plaintext-back : parsed (plaintext_header t n (length content) ++ (content ++ r)) ≡ variant.Plaintext (record {
    content_type = t;
    sequence_number = n % 2 ^ 48;
    length = length content;
  })
  unfolding parsed parse_plaintext plaintext_header
  plaintext-back =
      let len : be_at 2 plain 11 ≡ length content = be_at-be 2 (length content) (content ++ r) ∙ mod-eq_of_lt short in
      let any : length plain ≡ 0 → ⊥ = λ e. omega arith in
      let head : plain_head ≤ length plain = omega arith in
      let whole : be_at 2 plain 11 ≤ length plain - plain_head = rw len (simp length-append (omega arith)) in
      if_false _ _ (ne_eqb _ _ any) ∙ if_false _ _ (ne_eqb _ _ (type-low t allowed)) ∙ if_false _ _ (le-ltb _ _ head)
      ∙ if_false _ _ (le-ltb _ _ whole) ∙ if_true _ _ written-allowed
      ∙ λ i. variant.Plaintext (record {
        content_type = t;
        sequence_number = be_at-be 6 n (be 2 (length content) ++ (content ++ r)) i;
        length = len i;
      })

  pub plaintext-content : content_of (plaintext_header t n (length content) ++ (content ++ r)) (parsed (plaintext_header t n (length content) ++ (content ++ r))) ≡ content
  unfolding plaintext_header
  plaintext-content = ap (content_of plain) plaintext-back ∙ take-append_seam content r

  pub plaintext-rest : rest_of (plaintext_header t n (length content) ++ (content ++ r)) (parsed (plaintext_header t n (length content) ++ (content ++ r))) ≡ r
  unfolding plaintext_header
  plaintext-rest = ap (rest_of plain) plaintext-back ∙ drop-append_seam content r
