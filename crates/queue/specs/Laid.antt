-- The bytes of a record as it is laid in the queue (RFC 9147, section 4; 01, "Datagrams to send"). Assumes nothing.
use Rattle.std.specs.Prelude.{List, ◌∷◌, ◌++◌, ◌≡◌, refl, ℕ, ◌+◌, ◌*◌, ◌/◌, ◌%◌, ◌≤◌, eqb, length}
use Rattle.std.proofs.Common.{sym, ap, ◌∙◌, arith, eq-eqb, ne_eqb, length-append}
use Rattle.base.specs.Bytes.{be}
use Rattle.base.specs.Choose.{choose, by_test, test_cases, if_true, if_false}
use Rattle.record.specs.Record.{plain_head, sealed_head, sealed_tail, sealed_over, plaintext_header, unified_header}

-- the content type, and in the tag's 16 bytes the full epoch and number until it is sealed
unfoldable pub trailer_of : ℕ → ℕ → ℕ → List ℕ
trailer_of t e n = t ∷ be 2 e ++ be 6 n ++ be 8 0

-- header and content; a sealed record has content type and tag besides
unfoldable pub record_len : ℕ → ℕ → ℕ
record_len e n = choose (eqb e 0) (n + plain_head) (n + sealed_over)

-- epoch 0 in plaintext; else "content + 17" in the header, and the number unmasked
unfoldable pub record_bytes : ℕ → ℕ → ℕ → List ℕ → List ℕ
record_bytes e t n x = choose (eqb e 0) (plaintext_header t n (length x) ++ x) (unified_header e n (length x + sealed_tail) ++ (x ++ trailer_of t e n))

pub length-plaintext : (t n len : ℕ) → length (plaintext_header t n len) ≡ plain_head
unfolding plaintext_header
length-plaintext t n len = refl

pub length_unified : (e n len : ℕ) → length (unified_header e n len) ≡ sealed_head
unfolding unified_header
length_unified e n len = refl

pub length_trailer : (t e n : ℕ) → length (trailer_of t e n) ≡ sealed_tail
unfolding trailer_of
length_trailer t e n = refl

-- two bytes and six are those of one number
module _ (e n : ℕ) where
  abbrev mark : ℕ
  mark = e * 0x1000000000000 + n % 0x1000000000000

  byte_1 : mark / 0x100000000000000 % 256 ≡ e / 256 % 256
  byte_1 = omega arith

  byte_2 : mark / 0x1000000000000 % 256 ≡ e / 1 % 256
  byte_2 = omega arith

  byte_3 : mark / 0x10000000000 % 256 ≡ n / 0x10000000000 % 256
  byte_3 = omega arith

  byte_4 : mark / 0x100000000 % 256 ≡ n / 0x100000000 % 256
  byte_4 = omega arith

  byte_5 : mark / 0x1000000 % 256 ≡ n / 0x1000000 % 256
  byte_5 = omega arith

  byte_6 : mark / 0x10000 % 256 ≡ n / 0x10000 % 256
  byte_6 = omega arith

  byte_7 : mark / 0x100 % 256 ≡ n / 0x100 % 256
  byte_7 = omega arith

  byte_8 : mark / 1 % 256 ≡ n / 1 % 256
  byte_8 = omega arith

  pub trailer_marked : (t : ℕ) → t ∷ (be 8 mark ++ be 8 0) ≡ trailer_of t e n
  unfolding trailer_of
  trailer_marked t = rw (byte_1, byte_2, byte_3, byte_4, byte_5, byte_6, byte_7, byte_8)

pub length_record : (e t n : ℕ) (x : List ℕ) → length (record_bytes e t n x) ≡ record_len e (length x)
unfolding record_bytes record_len
length_record e t n x =
    test_cases (eqb e 0)
    (λ h.
    ap length (if_true _ _ h) ∙ simp (length-append, length-plaintext) (omega arith) ∙ sym (if_true _ _ h))
    (λ h.
    ap length (if_false _ _ h) ∙ simp (length-append, length_unified, length_trailer) (omega arith) ∙ sym (if_false _ _ h))

module _ {e : ℕ} (h : e ≡ 0) where
  pub len_plaintext : (n : ℕ) → record_len e n ≡ n + plain_head
  unfolding record_len
  len_plaintext n = if_true _ _ (eq-eqb e 0 h)

  pub bytes-plaintext : (t n : ℕ) (x : List ℕ) → record_bytes e t n x ≡ plaintext_header t n (length x) ++ x
  unfolding record_bytes
  bytes-plaintext t n x = if_true _ _ (eq-eqb e 0 h)

module _ {e : ℕ} (h : e ≡ 0 → ⊥) where
  pub len_ciphertext : (n : ℕ) → record_len e n ≡ n + sealed_over
  unfolding record_len
  len_ciphertext n = if_false _ _ (ne_eqb e 0 h)

  pub bytes_ciphertext : (t n : ℕ) (x : List ℕ) → record_bytes e t n x ≡ unified_header e n (length x + sealed_tail) ++ (x ++ trailer_of t e n)
  unfolding record_bytes
  bytes_ciphertext t n x = if_false _ _ (ne_eqb e 0 h)

pub len_small : (e n : ℕ) → record_len e n ≤ n + sealed_over
unfolding record_len
len_small e n = by_test (λ (k : ℕ). k ≤ n + sealed_over) (λ h. omega arith) (λ h. omega arith)

pub len_over : (e n : ℕ) → n + plain_head ≤ record_len e n
unfolding record_len
len_over e n = by_test (λ (k : ℕ). n + plain_head ≤ k) (λ h. omega arith) (λ h. omega arith)
