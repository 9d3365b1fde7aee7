-- Taking the front datagram (01, refusals 12, 23, 16: "An empty queue gives none, after 12"). Assumes nothing.
use Rattle.std.specs.Prelude.{Bool, true, false, List, Option, Some, None, Result, Ok, Err, ◌≡◌, ℕ, ◌+◌, ◌-◌, ◌*◌, ◌<◌, ◌≤◌, ltb, leb, eqb, get_or}
use Rattle.std.proofs.lemmas.Bool.{false≢true, eqb-false}
use Rattle.std.proofs.Common.{mul-le-mul_right, mul-le-mul, arith, leb-true, ltb-false}
use Rattle.outgoing.specs.State.{with_queue}
use Rattle.base.specs.Choose.{choose, both, by_test}
use Rattle.base.specs.Parts.{part, splice}
use Rattle.queue.specs.Queue.{is_ready, Ready, ready, with_front}
use Rattle.outgoing.specs.declared.Waiting.{Waiting}
use Rattle.outgoing.specs.declared.Sending.{Sending}
use Rattle.taking.specs.declared.TakeError.{TakeError}
use Rattle.taking.specs.declared.TakeError.TheVariants as take
use Rattle.taking.specs.declared.Take.{Take}

-- a datagram of so many bytes; none, the queue is empty; or why it is not taken
abbrev pub TakeAnswer : Type 0
TakeAnswer = Result (Option ℕ) TakeError

-- the paper's number of each answer; 0 where a datagram, or none, is handed out
abbrev pub refusal : TakeAnswer → ℕ
refusal (Ok n) = 0
refusal (Err take.OutOfRange) = 12
refusal (Err take.Unsealed) = 23
refusal (Err (take.Short n)) = 16

-- the front datagram's length
abbrev pub front_len : Sending → ℕ
front_len s = get_or s.queue.lengths s.queue.first 0

-- a record in this slot waits: the oldest does
abbrev pub is_front : Waiting → ℕ → Bool
is_front w slot = both w.any (eqb w.slot slot)

-- the slot behind one
unfoldable pub next_slot : ℕ → ℕ → ℕ
next_slot first limit = choose (ltb (first + 1) limit) (first + 1) 0

-- 12; an empty queue gives none; 23: "front datagram not wholly sealed", which is where the oldest record that waits lies in it;
-- 16: "buffer lent to take what is handed out too small (needed length told ..)"
unfoldable pub take_answer : Sending → ℕ → ℕ → TakeAnswer
take_answer s room have =
    choose (is_ready s.queue room)
    (choose (eqb s.queue.count 0) (Ok None)
    (choose (leb (front_len s) s.queue.mtu)
    (choose (is_front s.waiting s.queue.first) (Err take.Unsealed)
    (choose (ltb have (front_len s)) (Err (take.Short (front_len s))) (Ok (Some (front_len s)))))
    (Err take.OutOfRange)))
    (Err take.OutOfRange)

abbrev pub is_taken : TakeAnswer → Bool
is_taken (Ok (Some n)) = true
is_taken (Ok None) = false
is_taken (Err e) = false

-- the front moves on; no byte of the queue moves
abbrev pub after_take : Sending → Sending
after_take s = with_queue s (with_front s.queue (next_slot s.queue.first s.queue.limit) (s.queue.count - 1))

unfoldable pub take_state : TakeAnswer → Sending → Take
take_state a s = record { answer = a; state = choose (is_taken a) (after_take s) s }

-- the datagram at the start of the buffer, the rest as it was
unfoldable pub take_buffer : TakeAnswer → Sending → List ℕ → List ℕ → List ℕ
take_buffer a s q b = choose (is_taken a) (splice 0 (part (s.queue.first * s.queue.mtu) (front_len s) q) b) b

-- ---- what the tests tell

pub record Takes (s : Sending) (room have : ℕ) : Type 0 where
  pub ready : Ready s.queue room
  pub some : 0 < s.queue.count
  pub short : front_len s ≤ s.queue.mtu
  pub fits : front_len s ≤ have

pub takes : (s : Sending) (room have : ℕ) → is_taken (take_answer s room have) ≡ true → Takes s room have
unfolding take_answer
takes s room have =
    by_test (λ (a : TakeAnswer). is_taken a ≡ true → Takes s room have)
    (λ r. by_test (λ (a : TakeAnswer). is_taken a ≡ true → Takes s room have)
    (λ n z. absurd (false≢true z))
    (λ n. by_test (λ (a : TakeAnswer). is_taken a ≡ true → Takes s room have)
    (λ l. by_test (λ (a : TakeAnswer). is_taken a ≡ true → Takes s room have)
    (λ w z. absurd (false≢true z))
    (λ w. by_test (λ (a : TakeAnswer). is_taken a ≡ true → Takes s room have)
    (λ f z. absurd (false≢true z))
    (λ f z.
    let e : s.queue.count ≡ 0 → ⊥ = eqb-false s.queue.count 0 n in
    record { ready = ready r; some = omega arith; short = leb-true (front_len s) s.queue.mtu l; fits = ltb-false have (front_len s) f })))
    (λ l z. absurd (false≢true z))))
    (λ r z. absurd (false≢true z))

-- the datagram lies in the buffer
pub front_fits : {s : Sending} {room have : ℕ} → Takes s room have → (s.queue.first * s.queue.mtu + front_len s ≤ room) × (s.queue.first * s.queue.mtu + front_len s ≤ 24000)
front_fits {s} t =
    let m = mul-le-mul_right s.queue.mtu t.ready.range.first in
    let b : s.queue.limit * s.queue.mtu ≤ 16 * 1500 = mul-le-mul t.ready.range.limit t.ready.range.high in
    (omega (arith, m, t.ready.space, t.short), omega (arith, m, b, t.short))
