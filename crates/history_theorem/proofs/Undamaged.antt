-- A record that lies undamaged at the cursor: what a read of it asks, what the sender's mask then brings, what an opening hands over.
-- Assumes nothing.
use Rattle.std.specs.Prelude.{ℕ, ◌+◌, ◌/◌, ◌%◌, ◌^◌, ◌≤◌, ◌<◌, length, take, drop, get_or, List, ◌∷◌, ◌++◌, ◌≡◌, refl, Some, None}
use Rattle.std.proofs.Common.{take-append-drop, length-append, length-take, length-drop, take-add, drop-drop, drop_at, length-take-le, sym, subst, ◌∙◌, div-one, arith}
use Rattle.std.specs.Int.Bits.{bit_xor}
use Rattle.std.proofs.lemmas.Nat.{xor_comm}
use Rattle.std.proofs.Math.Bool.{true}
use Rattle.std.proofs.Math.Option.{some}
use Rattle.std.proofs.Math.Path.{ap}
use Rattle.base.specs.Bytes.{be, xors}
use Rattle.base.specs.Parts.{part, part_at, part-first, splice-after}
use Rattle.datagram.specs.Datagram.{is_sound, told, questioned}
use Rattle.datagram.specs.declared.Ask.{Ask}
use Rattle.datagram.specs.declared.Datagram.{Datagram}
use Rattle.datagram.specs.declared.Question.TheVariants as question
use Rattle.datagram.specs.declared.Reading.TheVariants as says
use Rattle.mask_reply.specs.Mask.{mask_bytes, unmasked, ruled, mask_step}
use Rattle.mask_reply.proofs.Undamaged.{header-unmasked, mask-rules}
use Rattle.record.specs.Record.{sealed_head}
use Rattle.records.specs.Records.{read_step}
use Rattle.records.proofs.Undamaged.{sealed as laidSealed, sealed-asks}
use Rattle.recv_keys.specs.Keys.{entry_at, find, resolve, Found}
use Rattle.recv_keys.specs.declared.RecvKeys.{RecvKeys}
use Rattle.sealing.specs.Sealing.{masked_header}
use Rattle.window.specs.Used.{above, Agrees}
use Rattle.window.proofs.Used.{expects}
use Rattle.window.specs.Window.{verdict}
use Rattle.window.specs.declared.Verdict.{Verdict}
use Rattle.history_theorem.specs.Claim.{Masks, reach_of}
use Rattle.history_theorem.specs.Half.{Shape}
use Rattle.history_theorem.proofs.Lists.{some_inj, some≢none}
use Rattle.history_theorem.specs.Receiver.{Sealed}
use Rattle.history_theorem.proofs.Table.{epoch_at}

-- ---- parts of a datagram that are a given list

pub part-fits : (d w : List ℕ) (at : ℕ) → part at (length w) d ≡ w → 0 < length w → at + length w ≤ length d
part-fits d w at e h = let n : length (part at (length w) d) ≡ length w = ap length e in omega (arith, simp (length-take, length-drop) at n)

pub part-rest : (d a b : List ℕ) (at n : ℕ) → length a ≡ n → part at (length (a ++ b)) d ≡ a ++ b → part (at + n) (length b) d ≡ b
part-rest d a b at n len e =
    let whole : length (a ++ b) ≡ n + length b = length-append a b ∙ ap (λ (k : ℕ). k + length b) len in
    let room : n ≤ length (drop at d) = omega (arith, whole, simp length-take at (ap length e)) in
    let parts : take n (drop at d) ++ take (length b) (drop n (drop at d)) ≡ a ++ b = sym (take-add n (length b) (drop at d)) ∙ (rw whole at e) in
    sym (ap (take (length b)) (drop-drop n at d))
    ∙ sym (drop_at (take n (drop at d)) (take (length b) (drop n (drop at d))) n (length-take-le n (drop at d) room))
    ∙ ap (drop n) parts ∙ drop_at a b n len

-- ---- the wire

-- what a question about the record asks
abbrev pub ask_for : ℕ → Sealed → Ask
ask_for e x = record { epoch = e; s_flag = true; header_len = sealed_head; length = length x.cipher }

module _ (masks : Masks) (e : ℕ) (x : Sealed) (shape : Shape masks e x) where
  abbrev mask : List ℕ
  mask = masks e (take 16 x.cipher)

  abbrev high : ℕ
  high = bit_xor (x.num / 256 % 256) (get_or mask 0 0)

  abbrev low : ℕ
  low = bit_xor (x.num % 256) (get_or mask 1 0)

  abbrev head : List ℕ
  head = (0x2C + e % 4) ∷ high ∷ low ∷ be 2 (length x.cipher)

  wire-is : x.wire ≡ head ++ x.cipher
  unfolding masked_header
  wire-is =
      shape.wire
      ∙ ap (λ (h : ℕ). ((0x2C + e % 4) ∷ h ∷ bit_xor (get_or mask 1 0) (x.num / 256 ^ 0 % 256) ∷ be 2 (length x.cipher)) ++ x.cipher)
      (xor_comm (get_or mask 0 0) (x.num / 256 % 256))
      ∙ ap (λ (l : ℕ). ((0x2C + e % 4) ∷ high ∷ l ∷ be 2 (length x.cipher)) ++ x.cipher)
      (xor_comm (get_or mask 1 0) (x.num / 256 ^ 0 % 256) ∙ ap (λ (n : ℕ). bit_xor (n % 256) (get_or mask 1 0)) (div-one x.num))

  pub wire-long : length x.wire ≡ sealed_head + length x.cipher
  wire-long = ap length wire-is ∙ omega arith

  module _ (d : List ℕ) (at : ℕ) (same : part at (length x.wire) d ≡ x.wire) where
    same' : part at (length (head ++ x.cipher)) d ≡ head ++ x.cipher
    same' = subst (λ (w : List ℕ). part at (length w) d ≡ w) wire-is same

    pub lies_in : at + sealed_head + length x.cipher ≤ length d
    lies_in = omega (arith, part-fits d (head ++ x.cipher) at same' (omega arith))

    laid : part at sealed_head d ≡ head
    laid = sym (part-first at sealed_head (length (head ++ x.cipher)) d (omega arith)) ∙ ap (take sealed_head) same'

    pub cipher-lies : part (at + sealed_head) (length x.cipher) d ≡ x.cipher
    cipher-lies = part-rest d head x.cipher at sealed_head refl same'

    front : drop at d ≡ laidSealed e high low x.cipher ++ drop (length (head ++ x.cipher)) (drop at d)
    front = sym (take-append-drop (length (head ++ x.cipher)) (drop at d)) ∙ ap (λ (w : List ℕ). w ++ drop (length (head ++ x.cipher)) (drop at d)) same'

    pub first_byte : get_or (drop at d) 0 0 ≡ 0x2C + e % 4
    first_byte = ap (λ (l : List ℕ). get_or l 0 0) front

  two-bytes : (0x2C + e % 4) / 8 % 2 ≡ 1
  two-bytes = let q : (0x2C + e % 4) / 8 ≡ 5 = omega arith in rw q

  bits_are : (0x2C + e % 4) % 4 ≡ e % 4
  bits_are = omega arith

  module _ (k : RecvKeys) (b : Datagram) (d : List ℕ) (sound : is_sound k b ≡ true) (whole : length d ≡ b.size)
      (same : part b.at (length x.wire) d ≡ x.wire) where
    -- its first byte has the flag of two number bytes
    pub flag-set : get_or (drop b.at d) 0 0 / 8 % 2 ≡ 1
    flag-set = ap (λ (f : ℕ). f / 8 % 2) (first_byte d b.at same) ∙ two-bytes

    asks_at : (f : Found) → resolve k (get_or (drop b.at d) 0 0 % 4) ≡ f → epoch_at k.entries f ≡ some e → b.question ≡ question.Nothing
        → k.peer_encryption ≡ true → read_step k b d ≡ told (questioned b (question.Mask (ask_for e x))) (says.Mask e (b.at + sealed_head))
    asks_at None r z q on = some≢none (sym z)
    asks_at (Some i) r z q on =
        sealed-asks e high low x.cipher (drop (length (head ++ x.cipher)) (drop b.at d)) shape.short k b d i sound whole q
        (front d b.at same) on
        (ap (resolve k) (sym bits_are ∙ ap (λ (n : ℕ). n % 4) (sym (first_byte d b.at same))) ∙ r) (omega (arith, shape.size))
        ∙ ap (λ (n : ℕ). told (questioned b (question.Mask (ask_for n x))) (says.Mask n (b.at + sealed_head))) (some_inj z)

    -- the cut that comes to it asks for its mask
    pub read_is : epoch_at k.entries (resolve k (get_or (drop b.at d) 0 0 % 4)) ≡ some e → b.question ≡ question.Nothing
        → k.peer_encryption ≡ true → read_step k b d ≡ told (questioned b (question.Mask (ask_for e x))) (says.Mask e (b.at + sealed_head))
    read_is z q on = asks_at _ refl z q on

    -- the 16 bytes shown are its own
    pub sample-is : part (b.at + sealed_head) 16 d ≡ take 16 x.cipher
    sample-is =
        sym (part-first (b.at + sealed_head) 16 (length x.cipher) d (omega (arith, shape.size))) ∙ ap (take 16) (cipher-lies d b.at same)

    module _ (m : List ℕ) (one : get_or m 0 0 ≡ get_or mask 0 0) (two : get_or m 1 0 ≡ get_or mask 1 0) where
      laid_so : part b.at sealed_head d
          ≡ (0x2C + e % 4) ∷ bit_xor (x.num / 256 % 256) (get_or m 0 0) ∷ bit_xor (x.num % 256) (get_or m 1 0) ∷ be 2 (length x.cipher)
      laid_so =
          laid d b.at same
          ∙ ap (λ (v : ℕ). (0x2C + e % 4) ∷ bit_xor (x.num / 256 % 256) v ∷ low ∷ be 2 (length x.cipher)) (sym one)
          ∙ ap (λ (v : ℕ). (0x2C + e % 4) ∷ bit_xor (x.num / 256 % 256) (get_or m 0 0) ∷ bit_xor (x.num % 256) v ∷ be 2 (length x.cipher)) (sym two)

      -- the header shown with the opening is the one it was sealed with, and so is the protected part
      pub header_is : part b.at sealed_head (unmasked d b.at true m) ≡ x.header
      header_is =
          header-unmasked d m b.at e x.num (length x.cipher) (omega (arith, lies_in d b.at same)) laid_so ∙ sym shape.header

      pub cipher-is : part (b.at + sealed_head) (length x.cipher) (unmasked d b.at true m) ≡ x.cipher
      unfolding unmasked
      cipher-is =
          splice-after (b.at + 1) (xors d (b.at + 1) (mask_bytes true m)) d (omega (arith, lies_in d b.at same)) (b.at + sealed_head) (length x.cipher) (omega arith)
          ∙ cipher-lies d b.at same

      number-byte : (i : ℕ) → i < sealed_head
          → get_or d (b.at + i) 0
          ≡ get_or ((0x2C + e % 4) ∷ bit_xor (x.num / 256 % 256) (get_or m 0 0) ∷ bit_xor (x.num % 256) (get_or m 1 0) ∷ be 2 (length x.cipher)) i 0
      number-byte i h = sym (part_at b.at sealed_head d i h) ∙ ap (λ (l : List ℕ). get_or l i 0) laid_so

      -- the sender's mask brings its number back, and it is ruled on by that number's verdict
      pub mask_is : (i : ℕ) → b.question ≡ question.Mask (ask_for e x) → find k.entries e k.count ≡ Some i
          → (used : List ℕ) → Agrees (entry_at k i).replay used → above used < x.num + 32768 → x.num < reach_of used
          → (v : Verdict) → verdict (entry_at k i).replay x.num ≡ v
          → mask_step k b m d ≡ (ruled v (entry_at k i) b (ask_for e x) x.num, unmasked d b.at true m)
      mask_is i q f used a near reach =
          let up = expects used a in
          mask-rules k b (ask_for e x) i x.num m d sound whole q f refl (omega (arith, lies_in d b.at same)) (number-byte 1 (omega arith))
          (number-byte 2 (omega arith)) shape.number (omega arith) (omega arith)
