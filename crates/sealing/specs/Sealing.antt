-- The sealing question, what is lent for it, and the reply (01: "Sealings are asked oldest first and never cancelled"; refusals 12, 15).
-- Assumes nothing.
use Rattle.std.specs.Prelude.{Bool, true, false, List, [], ◌∷◌, ◌++◌, ◌≡◌, refl, ℕ, ◌+◌, ◌-◌, ◌*◌, ◌%◌, ◌<◌, ◌≤◌, ltb, leb, eqb, length, Option, Some, None, Result, Ok, Err, ⊤}
use Rattle.std.proofs.lemmas.Bool.{false≢true}
use Rattle.std.proofs.Common.{sym, ap, ◌∙◌, mul-le-mul, mul-le-mul_right, arith, ltb-true, leb-true}
use borrow.Rule.Slice.PartMut.{put_mid}
use Rattle.base.specs.Bytes.{be, xors}
use Rattle.base.specs.Choose.{choose, both, by_test, both_left, both_right, if_true}
use Rattle.base.specs.Parts.{part, splice, lent}
use Rattle.record.specs.Record.{sealed_head, sealed_tail, unified_header}
use Rattle.dtls_aead.specs.Nonce.{nonce_of}
use Rattle.queue.specs.Queue.{is_sound, is_ready, InRange, ready}
use Rattle.send_keys.specs.Keys.{iv_of, sealed_up_to}
use Rattle.outgoing.specs.declared.Waiting.{Waiting}
use Rattle.outgoing.specs.declared.Sending.{Sending}
use Rattle.outgoing.specs.State.{with_waiting, with_keys}
use Rattle.sealing.specs.declared.Search.{Search}
use Rattle.sealing.specs.declared.Seal.{Seal}
use Rattle.sealing.specs.declared.SealError.{SealError}
use Rattle.sealing.specs.declared.SealError.TheVariants as reply
use Rattle.sealing.specs.declared.Reply.{Reply}
use Rattle.sealing.specs.Seek.{nth_of, seek}

-- what a reply is answered
abbrev pub SealAnswer : Type 0
SealAnswer = Result ⊤ SealError

-- what the host is asked: a record to seal; none waits; or why not
abbrev pub Asked : Type 0
Asked = Result (Option Seal) SealError

-- the paper's number of each answer; 0 where it is done
abbrev pub refusal : SealAnswer → ℕ
refusal (Ok u) = 0
refusal (Err reply.OutOfRange) = 12
refusal (Err reply.NoQuestion) = 15

-- the oldest record that waits lies in a slot, header, content type and tag with it; its number is one that is sent
unfoldable pub is_span : Waiting → ℕ → ℕ → Bool
is_span w mtu limit =
    both (ltb w.slot limit) (both (leb sealed_tail w.length) (both (leb w.start mtu) (both (leb w.length mtu)
    (both (leb (w.start + sealed_head + w.length) mtu) (ltb w.number 281474976710655)))))

unfoldable pub is_held : Sending → Bool
is_held s = choose s.waiting.any (is_span s.waiting s.queue.mtu s.queue.limit) true

-- a sealing is asked for, and the queue is lent whole
unfoldable pub is_asked : Sending → ℕ → Bool
is_asked s room = both (is_ready s.queue room) (both (is_held s) s.waiting.any)

-- "the rest of the record, from content to tag": behind its 5 header bytes
unfoldable pub part_start : Sending → ℕ
part_start s = s.waiting.slot * s.queue.mtu + s.waiting.start + sealed_head

-- "The question names epoch, number, nonce and unmasked header"
abbrev pub seal_of : Sending → Seal
seal_of s = record {
  epoch = s.waiting.epoch;
  number = s.waiting.number;
  start = part_start s;
  length = s.waiting.length;
  nonce = nonce_of (iv_of s.keys s.waiting.epoch) s.waiting.number;
  header = unified_header s.waiting.epoch s.waiting.number s.waiting.length;
}

abbrev pub asked : Sending → Asked
asked s = Ok (Some (seal_of s))

unfoldable pub question_of : Sending → Asked
question_of s =
    choose (is_sound s.queue)
    (choose (is_held s) (choose s.waiting.any (asked s) (Ok None)) (Err reply.OutOfRange))
    (Err reply.OutOfRange)

-- what the host is lent
unfoldable pub part_of : Sending → List ℕ → List ℕ
part_of s q = choose (is_asked s (length q)) (part (part_start s) s.waiting.length q) []

-- sealed bytes written there: as many as were asked for, and no byte beside them
unfoldable pub is_put : Sending → ℕ → ℕ → Bool
is_put s n room = both (is_asked s room) (eqb n s.waiting.length)

unfoldable pub put_memory : Sending → List ℕ → List ℕ → List ℕ
put_memory s v q = choose (is_put s (length v) (length q)) (splice (part_start s) v q) q

-- "the mask goes onto the number bytes afterwards"
unfoldable pub masked_header : ℕ → ℕ → ℕ → List ℕ → List ℕ
masked_header e n len mask = (0x2C + e % 4) ∷ xors mask 0 (be 2 n) ++ be 2 len

-- the search for the next one begins behind it
unfoldable pub behind_oldest : Sending → Search
behind_oldest s = record {
  datagram = nth_of s.queue.first s.queue.limit s.waiting.slot;
  offset = s.waiting.start + sealed_head + s.waiting.length;
}

-- 12; 15: "reply that answers no waiting question or has the wrong length"
unfoldable pub seal_answer : Sending → ℕ → ℕ → SealAnswer
seal_answer s room n =
    choose (is_ready s.queue room)
    (choose (is_held s)
    (choose s.waiting.any (choose (eqb n s.waiting.length) (Ok tt) (Err reply.NoQuestion)) (Err reply.NoQuestion))
    (Err reply.OutOfRange))
    (Err reply.OutOfRange)

abbrev pub is_sealed : SealAnswer → Bool
is_sealed (Ok u) = true
is_sealed (Err e) = false

-- the next one waits, and the number is sealed
abbrev pub after_sealing : Sending → List ℕ → Sending
after_sealing s q = with_waiting (with_keys s (sealed_up_to s.keys s.waiting.epoch s.waiting.number)) (seek 1999 s.queue q (behind_oldest s))

unfoldable pub sealed_state : SealAnswer → Sending → List ℕ → Reply
sealed_state a s q = record { answer = a; state = choose (is_sealed a) (after_sealing s q) s }

-- the five header bytes, and nothing else
unfoldable pub sealed_memory : SealAnswer → Sending → List ℕ → List ℕ → List ℕ
sealed_memory a s mask q =
    choose (is_sealed a)
    (splice (part_start s - sealed_head) (masked_header s.waiting.epoch s.waiting.number s.waiting.length mask) q)
    q

pub length-masked : (e n len : ℕ) (mask : List ℕ) → length (masked_header e n len mask) ≡ sealed_head
unfolding masked_header
length-masked e n len mask = refl

-- ---- what the tests tell

pub record Held (s : Sending) : Type 0 where
  pub range : InRange s.queue
  pub slot : s.waiting.slot < s.queue.limit
  pub long : sealed_tail ≤ s.waiting.length
  pub inside : s.waiting.start + sealed_head + s.waiting.length ≤ s.queue.mtu
  pub number : s.waiting.number < 281474976710655

pub held : {s : Sending} → InRange s.queue → is_held s ≡ true → s.waiting.any ≡ true → Held s
unfolding is_held is_span
held {s} r h any =
    let w = s.waiting in
    let m = s.queue.mtu in
    let e : is_span w m s.queue.limit ≡ true = sym (if_true _ _ any) ∙ h in
    let e1 = both_right (ltb w.slot s.queue.limit) _ e in
    let e2 = both_right (leb sealed_tail w.length) _ e1 in
    let e3 = both_right (leb w.start m) _ e2 in
    let e4 = both_right (leb w.length m) _ e3 in
    record {
      range = r;
      slot = ltb-true w.slot s.queue.limit (both_left _ _ e);
      long = leb-true sealed_tail w.length (both_left _ _ e1);
      inside = leb-true (w.start + sealed_head + w.length) m (both_left _ _ e4);
      number = ltb-true w.number 281474976710655 (both_right (leb (w.start + sealed_head + w.length) m) _ e4);
    }

pub start_fits : {s : Sending} → Held s → s.waiting.slot * s.queue.mtu + s.waiting.start + sealed_head + s.waiting.length ≤ 24000
start_fits {s} h =
    let m = mul-le-mul_right s.queue.mtu h.slot in
    let t : s.queue.limit * s.queue.mtu ≤ 16 * 1500 = mul-le-mul h.range.limit h.range.high in
    omega (arith, m, t, h.inside)

pub part-fits : {s : Sending} {room : ℕ} → Held s → s.queue.limit * s.queue.mtu ≤ room → part_start s + s.waiting.length ≤ room
unfolding part_start
part-fits {s} h r = omega (arith, mul-le-mul_right s.queue.mtu h.slot, r, h.inside)

-- a sealing that is asked for is held, in a buffer that is long enough
pub asked-held : {s : Sending} {room : ℕ} → is_asked s room ≡ true → Held s × (s.queue.limit * s.queue.mtu ≤ room)
unfolding is_asked
asked-held {s} {room} e =
    let r = ready (both_left (is_ready s.queue room) _ e) in
    let g = both_right (is_ready s.queue room) _ e in
    (held r.range (both_left _ _ g) (both_right (is_held s) _ g), r.space)

pub sealed-held : (s : Sending) (room n : ℕ) → is_sealed (seal_answer s room n) ≡ true → Held s × (s.queue.limit * s.queue.mtu ≤ room)
unfolding seal_answer
sealed-held s room n =
    by_test (λ (a : SealAnswer). is_sealed a ≡ true → Held s × (s.queue.limit * s.queue.mtu ≤ room))
    (λ r. by_test (λ (a : SealAnswer). is_sealed a ≡ true → Held s × (s.queue.limit * s.queue.mtu ≤ room))
    (λ h. by_test (λ (a : SealAnswer). is_sealed a ≡ true → Held s × (s.queue.limit * s.queue.mtu ≤ room))
    (λ y. by_test (λ (a : SealAnswer). is_sealed a ≡ true → Held s × (s.queue.limit * s.queue.mtu ≤ room))
    (λ l z. (held (ready r).range h y, (ready r).space))
    (λ l z. absurd (false≢true z)))
    (λ y z. absurd (false≢true z)))
    (λ h z. absurd (false≢true z)))
    (λ r z. absurd (false≢true z))

-- the header that a reply writes, said of the whole queue
pub masked-laid : (s : Sending) (mask m : List ℕ) {p : ℕ} {x : List ℕ} → p ≡ part_start s
    → x ≡ masked_header s.waiting.epoch s.waiting.number s.waiting.length mask
    → put_mid (p - sealed_head) (p - (p - sealed_head)) m x ≡ splice (part_start s - sealed_head) (masked_header s.waiting.epoch s.waiting.number s.waiting.length mask) m
unfolding part_start
masked-laid s mask m {p} {x} e h =
    let v : List ℕ = masked_header s.waiting.epoch s.waiting.number s.waiting.length mask in
    let l : length v ≡ p - (p - sealed_head) = omega (arith, length-masked s.waiting.epoch s.waiting.number s.waiting.length mask) in
    rw h (lent (p - sealed_head) p m v l ∙ ap (λ (k : ℕ). splice (k - sealed_head) v m) e)
