-- What is laid in the queue reads back by the cut of a datagram: header, number bits, length, content, and behind an opening the type.
-- Assumes nothing.
use Rattle.std.specs.Prelude.{true, List, [], ◌∷◌, ◌++◌, ◌≡◌, ℕ, ◌+◌, ◌%◌, ◌^◌, ◌<◌, length, take}
use Rattle.std.proofs.Common.{append_assoc, sym, ap, ◌∙◌, arith, length-append}
use Rattle.std.proofs.Math.Seq.{take-append-add}
use Rattle.incoming.specs.Inner.{inner_of, inner_type, holding}
use Rattle.record.specs.declared.Parsed.TheVariants as read
use Rattle.record.specs.Laws.{unified_back, unified_content, unified_rest, plaintext-back, plaintext-content, plaintext-rest}
use Rattle.record.specs.Record.{sealed_head, sealed_tail, is_type, parsed, content_of, rest_of, plaintext_header, unified_header}
use Rattle.queue.specs.Laid.{record_bytes, trailer_of, bytes-plaintext, bytes_ciphertext, length_trailer}

-- a record to be sealed, whatever follows it in its datagram
module _ (e t n : ℕ) (x r : List ℕ) (sealed : e ≡ 0 → ⊥) (short : length x + sealed_tail < 65536) where
  -- content, type and room for the tag: what is lent to be sealed
  abbrev body : List ℕ
  body = x ++ trailer_of t e n

  length-body : length body ≡ length x + sealed_tail
  length-body = simp (length-append, length_trailer)

  fits : length body < 65536
  fits = omega (arith, length-body)

  laid-as : record_bytes e t n x ++ r ≡ unified_header e n (length body) ++ (body ++ r)
  laid-as =
      ap (λ (d : List ℕ). d ++ r) (bytes_ciphertext sealed t n x) ∙ append_assoc (unified_header e n (length x + sealed_tail)) body r
      ∙ ap (λ (k : ℕ). unified_header e n k ++ (body ++ r)) (sym length-body)

  -- the low bits of its epoch and number, and its length with type and tag
  pub sealed-back : parsed (record_bytes e t n x ++ r) ≡ read.Ciphertext (record {
    epoch_bits = e % 4;
    s_flag = true;
    sequence_number = n % 2 ^ 16;
    header_len = sealed_head;
    length = length x + sealed_tail;
  })
  sealed-back =
      ap parsed laid-as ∙ unified_back e n body r fits
      ∙ λ i. read.Ciphertext (record {
        epoch_bits = e % 4;
        s_flag = true;
        sequence_number = n % 2 ^ 16;
        header_len = sealed_head;
        length = length-body i;
      })

  pub sealed-content : content_of (record_bytes e t n x ++ r) (parsed (record_bytes e t n x ++ r)) ≡ x ++ trailer_of t e n
  sealed-content = ap (λ (d : List ℕ). content_of d (parsed d)) laid-as ∙ unified_content e n body r fits

  pub sealed-rest : rest_of (record_bytes e t n x ++ r) (parsed (record_bytes e t n x ++ r)) ≡ r
  sealed-rest = ap (λ (d : List ℕ). rest_of d (parsed d)) laid-as ∙ unified_rest e n body r fits

-- what is lent to be sealed, its 16 tag bytes left out, is the plaintext that an opening brings: content and type
pub plaintext-lent : (e t n : ℕ) (x : List ℕ) → take (length x + 1) (x ++ trailer_of t e n) ≡ x ++ (t ∷ [])
unfolding trailer_of
plaintext-lent e t n x = take-append-add x (trailer_of t e n) 1

pub inner_back : (e t n : ℕ) (x : List ℕ) → (t ≡ 0 → ⊥) → inner_of (take (length x + 1) (x ++ trailer_of t e n)) ≡ holding t (length x)
inner_back e t n x typed = ap inner_of (plaintext-lent e t n x) ∙ inner_type x t typed

-- a plaintext record, whatever follows it in its datagram
module _ (e t n : ℕ) (x r : List ℕ) (plain : e ≡ 0) (allowed : is_type t ≡ true) (short : length x < 65536) where
  plain_as : record_bytes e t n x ++ r ≡ plaintext_header t n (length x) ++ (x ++ r)
  plain_as = ap (λ (d : List ℕ). d ++ r) (bytes-plaintext plain t n x) ∙ append_assoc (plaintext_header t n (length x)) x r

  -- its type, its number as far as 48 bits hold it, its length
  pub plain_back : parsed (record_bytes e t n x ++ r) ≡ read.Plaintext (record { content_type = t; sequence_number = n % 2 ^ 48; length = length x })
  plain_back = ap parsed plain_as ∙ plaintext-back t n x r allowed short

  pub plain-content : content_of (record_bytes e t n x ++ r) (parsed (record_bytes e t n x ++ r)) ≡ x
  plain-content = ap (λ (d : List ℕ). content_of d (parsed d)) plain_as ∙ plaintext-content t n x r allowed short

  pub plain-rest : rest_of (record_bytes e t n x ++ r) (parsed (record_bytes e t n x ++ r)) ≡ r
  plain-rest = ap (λ (d : List ℕ). rest_of d (parsed d)) plain_as ∙ plaintext-rest t n x r allowed short
