-- A sealed record as it was laid, its number bytes masked or not: what begins it, and what a read of it asks. Assumes nothing.
use Rattle.std.specs.Prelude.{ℕ, ◌+◌, ◌-◌, ◌*◌, ◌/◌, ◌%◌, ◌<◌, ◌≤◌, drop, Bool, true, List, ◌∷◌, ◌++◌, ◌≡◌, Some}
use Rattle.std.proofs.Common.{eq-eqb, ne_eqb, le-ltb, length-append, ◌∙◌}
use Rattle.std.proofs.Math.ListN.{length}
use Rattle.std.proofs.Math.Path.{ap}
use native.Mathlib.Omega.{arith}
use Rattle.base.specs.Bytes.{be, be_at, length-be}
use Rattle.base.specs.Choose.{if_true, if_false}
use Rattle.datagram.specs.Datagram.{is_sound}
use Rattle.datagram.specs.Sound.{ready}
use Rattle.datagram.specs.declared.Datagram.{Datagram}
use Rattle.datagram.specs.declared.Question.TheVariants as question
use Rattle.record.specs.Record.{sealed_head, tag_size, sealed_tail, header_length, fragment_len, partial_of, s_flag_of, parse_ciphertext, parsed}
use Rattle.record.specs.declared.Ciphertext.{Ciphertext}
use Rattle.record.specs.declared.Parsed.TheVariants as parse
use Rattle.record.specs.declared.Parsed.{Parsed}
use Rattle.recv_keys.specs.Keys.{entry_at, resolve, Found}
use Rattle.recv_keys.specs.declared.RecvKeys.{RecvKeys}
use Rattle.records.proofs.Leads.{read-asks}
use Rattle.records.specs.Records.{mask_asked, locked_step, sealed_step, step_of, asking, read_step}

-- epoch bits, two number bytes, the length and the protected part
abbrev pub sealed : ℕ → ℕ → ℕ → List ℕ → List ℕ
sealed e x y body = (0x2C + e % 4) ∷ x ∷ y ∷ (be 2 (length body) ++ body)

-- what begins it
abbrev pub sealed_of : ℕ → ℕ → ℕ → ℕ → Ciphertext
sealed_of e x y len = record {
  epoch_bits = e % 4;
  s_flag = true;
  sequence_number = x * 256 + y;
  header_len = sealed_head;
  length = len;
}

-- flags 0x2C to 0x2F: no connection ID, two number bytes, a length
flags-first : (e : ℕ) → (0x2C + e % 4) / 32 ≡ 1
flags-first e = omega arith

flags-c : (e : ℕ) → (0x2C + e % 4) / 16 % 2 ≡ 0
flags-c e = omega arith

flags-s : (e : ℕ) → (0x2C + e % 4) / 8 % 2 ≡ 1
flags-s e = omega arith

flags_l : (e : ℕ) → (0x2C + e % 4) / 4 % 2 ≡ 1
flags_l e = omega arith

flags-bits : (e : ℕ) → (0x2C + e % 4) % 4 ≡ e % 4
flags-bits e = omega arith

flags-head : (e : ℕ) → header_length (0x2C + e % 4) ≡ sealed_head
unfolding header_length
flags-head e = omega (arith, flags-s e, flags_l e)

same-sealed : {b c n m h i l j : ℕ} {s t : Bool} → b ≡ c → s ≡ t → n ≡ m → h ≡ i → l ≡ j
    → ◌≡◌ {A = Ciphertext} (record { epoch_bits = b; s_flag = s; sequence_number = n; header_len = h; length = l })
    (record { epoch_bits = c; s_flag = t; sequence_number = m; header_len = i; length = j })
same-sealed p q r s t = cc

module _ (e x y : ℕ) (body rest : List ℕ) (short : length body < 65536) where
  long : length (sealed e x y body ++ rest) ≡ sealed_head + length body + length rest
  long = simp (length-append, length-be) (omega arith)

  -- its length field
  said : fragment_len (sealed e x y body ++ rest) (0x2C + e % 4) ≡ length body
  unfolding fragment_len
  said =
      if_true _ _ (eq-eqb _ _ (flags_l e)) ∙ ap (λ (h : ℕ). be_at 2 (sealed e x y body ++ rest) (h - 2)) (flags-head e) ∙ two-bytes
    where
      two-bytes : be_at 2 (sealed e x y body ++ rest) (sealed_head - 2) ≡ length body
      two-bytes = omega arith

  -- its number bytes
  bytes : partial_of (sealed e x y body ++ rest) (s_flag_of (0x2C + e % 4)) ≡ x * 256 + y
  unfolding partial_of
  bytes = if_true _ _ (eq-eqb _ _ (flags-s e)) ∙ pair
    where
      pair : be_at 2 (sealed e x y body ++ rest) 1 ≡ x * 256 + y
      pair = omega arith

  cut : parse_ciphertext (sealed e x y body ++ rest) (0x2C + e % 4) ≡ parse.Ciphertext (sealed_of e x y (length body))
  unfolding parse_ciphertext
  cut =
      if_false _ _ (le-ltb (length (sealed e x y body ++ rest)) (header_length (0x2C + e % 4)) (omega (arith, long, flags-head e)))
      ∙ if_false _ _
      (le-ltb (length (sealed e x y body ++ rest) - header_length (0x2C + e % 4)) (fragment_len (sealed e x y body ++ rest) (0x2C + e % 4))
      (omega (arith, long, flags-head e, said)))
      ∙ ap parse.Ciphertext (same-sealed (flags-bits e) (eq-eqb _ _ (flags-s e)) bytes (flags-head e) said)

  -- what begins it
  pub sealed-parsed : parsed (sealed e x y body ++ rest) ≡ parse.Ciphertext (sealed_of e x y (length body))
  unfolding parsed
  sealed-parsed =
      if_false _ _ (ne_eqb (length (sealed e x y body ++ rest)) 0 (λ z. omega (arith, long))) ∙ if_true _ _ (eq-eqb _ _ (flags-first e))
      ∙ if_false _ _ (ne_eqb ((0x2C + e % 4) / 16 % 2) 1 (λ z. omega (arith, flags-c e))) ∙ cut

  -- the peer encrypts, the bits mean the epoch at i, and the protected part is not too short: a read asks its mask
  pub sealed-asks : (k : RecvKeys) (b : Datagram) (d : List ℕ) (i : ℕ) → is_sound k b ≡ true → length d ≡ b.size → b.question ≡ question.Nothing
      → drop b.at d ≡ sealed e x y body ++ rest → k.peer_encryption ≡ true → resolve k (e % 4) ≡ Some i → sealed_tail ≤ length body
      → read_step k b d ≡ mask_asked b (entry_at k i).epoch (sealed_of e x y (length body))
  unfolding asking step_of sealed_step locked_step
  sealed-asks k b d i t l q at on means room =
      read-asks k b d question.Nothing t l q
      ∙ ap (λ (p : Parsed). step_of p k b) (ap parsed at ∙ sealed-parsed)
      ∙ if_true _ _ on ∙ ap (λ (f : Found). locked_step f k b (sealed_of e x y (length body))) means
      ∙ if_false _ _ (le-ltb (length body) tag_size (omega arith))
      ∙ if_false _ _ (le-ltb (length body) k.min_protected (omega (arith, (ready k b t).keys.min)))
