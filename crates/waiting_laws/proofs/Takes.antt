-- Taking the front datagram (01, refusals 12, 23, 16): 23 exactly if one of its records waits; what is handed out is its records' bytes, and
-- the queue then means the datagrams behind it. Assumes nothing.
use Rattle.std.specs.Prelude.{Bool, true, false, List, [], ◌∷◌, ◌++◌, ◌≡◌, refl, ℕ, ◌+◌, ◌*◌, ◌≤◌, ltb, eqb, length, Some, Ok, Err}
use Rattle.std.proofs.lemmas.Bool.{false≢true}
use Rattle.std.proofs.Common.{sym, ap, subst, ◌∙◌, arith, eq-eqb, ne_eqb, le-leb}
use Rattle.base.specs.Choose.{choose, by_test, test_cases, if_true, if_false, both_true, both_false}
use Rattle.base.specs.Parts.{part, splice}
use Rattle.queue.specs.Queue.{slot_of}
use Rattle.send_keys.specs.declared.SendKeys.{SendKeys}
use Rattle.outgoing.specs.declared.Waiting.{Waiting}
use Rattle.outgoing.specs.declared.Sending.{Sending}
use Rattle.outgoing.specs.State.{no_waiting}
use Rattle.taking.specs.declared.TakeError.TheVariants as take
use Rattle.taking.specs.Take.{TakeAnswer, front_len, is_front, next_slot, take_answer, is_taken, after_take, take_state, take_buffer}
use Rattle.waiting_laws.specs.Queued.{Queued, plain, waits, sealed, bytes, flat, numbers_of, waits_in, Row, Rows, oldest_in, oldest_of, Under, Agrees, Holds}
use Rattle.waiting_laws.proofs.Ring.{slot-front, slot_apart, slot_next, next-slot}
use Rattle.waiting_laws.proofs.Lists.{order-later, none_in, any-waits, some_in}
use Rattle.waiting_laws.proofs.Seeks.{lies-bytes}
use Rattle.waiting_laws.proofs.Changes.{oldest-found}
use Rattle.waiting_laws.proofs.Seals.{ready_always}
use Rattle.waiting_laws.specs.Takes.{take_told, after_taken}

-- ---- records of which none waits

pub numbers-later : (k : ℕ) (rs us : List Queued) → waits_in rs ≡ false → numbers_of k (rs ++ us) ≡ numbers_of k us
numbers-later k [] us h = refl
numbers-later k (plain t n x ∷ rs) us h = numbers-later k rs us h
numbers-later k (waits e t n x p ∷ rs) us h = absurd (false≢true (sym h))
numbers-later k (sealed e t n x m p ∷ rs) us h = numbers-later k rs us h

under-later : (k : ℕ) (rs us : List Queued) → Under k (rs ++ us) → Under k us
under-later k [] us u = u
under-later k (plain t n x ∷ rs) us u = under-later k rs us u
under-later k (waits e t n x p ∷ rs) us u = under-later k rs us u.1
under-later k (sealed e t n x m p ∷ rs) us u = under-later k rs us u

agrees-later : (k : SendKeys) (rs us : List Queued) → waits_in rs ≡ false → Agrees k (rs ++ us) → Agrees k us
agrees-later k rs us h a = record {
  handshake = rw (numbers-later 2 rs us h) at a.handshake;
  application = rw (numbers-later k.application.epoch rs us h) at a.application;
  under = under-later k.application.epoch rs us a.under;
  unkeyed = a.unkeyed;
  epoch = a.epoch;
  small = a.small;
}

-- ---- the front

-- 23 exactly if a record of the front datagram waits
front-waits : (s : Sending) (mem : List ℕ) (d : List Queued) (ds : List (List Queued)) → Holds s mem (d ∷ ds) → is_front s.waiting s.queue.first ≡ waits_in d
front-waits s mem d ds h =
    let first : ℕ = s.queue.first in
    let limit : ℕ = s.queue.limit in
    let later : Waiting = oldest_of first limit 1 ds no_waiting in
    let front : slot_of first limit 0 ≡ first = slot-front first limit h.range.first in
    test_cases (waits_in d)
    (λ a.
    let v = some_in (slot_of first limit 0) 0 d later later a in
    ap (λ (w : Waiting). is_front w first) h.oldest ∙ both_true v.1 ∙ eq-eqb (oldest_in (slot_of first limit 0) 0 d later).slot first (v.2 ∙ front) ∙ sym a)
    (λ a.
    let e : s.waiting ≡ later = h.oldest ∙ none_in (slot_of first limit 0) 0 d later a in
    ap (λ (w : Waiting). is_front w first) e
    ∙ test_cases (waits_in (flat ds))
    (λ b.
    let v = oldest-found s.queue mem 1 ds no_waiting h.rows.1 b in
    let ne : later.slot ≡ first → ⊥ = λ z. slot_apart first limit h.range.first v.datagram 0 (omega (arith, v.high, h.count, h.range.count)) (omega (arith, h.range.first)) (λ y. omega (arith, v.low)) (sym v.within.slot ∙ z ∙ sym front) in
    both_true v.within.any ∙ ne_eqb later.slot first ne)
    (λ b. both_false (eqb later.slot first) (any-waits first limit 1 ds ∙ b))
    ∙ sym a)

module _ (s : Sending) (mem : List ℕ) (d : List Queued) (ds : List (List Queued)) (h : Holds s mem (d ∷ ds)) where
  front_row : Row s.queue.mtu s.queue.lengths mem s.queue.first d
  front_row = subst (λ (k : ℕ). Row s.queue.mtu s.queue.lengths mem k d) (slot-front s.queue.first s.queue.limit h.range.first) h.rows.0

  -- its length is that of its records
  pub front-size : front_len s ≡ length (bytes d)
  front-size = front_row.size

  -- its bytes are its records' bytes, in order
  pub front_bytes : part (s.queue.first * s.queue.mtu) (front_len s) mem ≡ bytes d
  front_bytes =
      ap (λ (n : ℕ). part (s.queue.first * s.queue.mtu) n mem) front-size
      ∙ ap (λ (k : ℕ). part k (length (bytes d)) mem) (start (s.queue.first * s.queue.mtu))
      ∙ lies-bytes mem (s.queue.first * s.queue.mtu) 0 d front_row.lies
    where
      start : (n : ℕ) → n ≡ n + 0
      start n = omega arith

  -- the ring without the front
  abbrev first' : ℕ
  first' = next_slot s.queue.first s.queue.limit

  rows_next : (i : ℕ) (us : List (List Queued)) → i + 1 + length us ≤ s.queue.limit → Rows s.queue mem (i + 1) us → Rows (after_take s).queue mem i us
  rows_next i [] l r = tt
  rows_next i (u ∷ us) l r = (
    subst (λ (k : ℕ). Row s.queue.mtu s.queue.lengths mem k u) (sym (slot_next s.queue.first s.queue.limit h.range.first i (omega arith))) r.0,
    rows_next (i + 1) us (omega arith) r.1,
  )

  oldest-next : (i : ℕ) (us : List (List Queued)) (w : Waiting) → i + 1 + length us ≤ s.queue.limit
      → oldest_of s.queue.first s.queue.limit (i + 1) us w ≡ oldest_of first' s.queue.limit i us w
  oldest-next i [] w l = refl
  oldest-next i (u ∷ us) w l =
      ap (λ (k : ℕ). oldest_in k 0 u (oldest_of s.queue.first s.queue.limit (i + 1 + 1) us w)) (sym (slot_next s.queue.first s.queue.limit h.range.first i (omega arith)))
      ∙ ap (oldest_in (slot_of first' s.queue.limit i) 0 u) (oldest-next (i + 1) us w (omega arith))

  -- the datagrams behind it are what the queue means then
  pub taken-holds : waits_in d ≡ false → Holds (after_take s) mem ds
  taken-holds a = record {
    range = record {
      low = h.range.low;
      high = h.range.high;
      some = h.range.some;
      limit = h.range.limit;
      first = next-slot s.queue.first s.queue.limit h.range.first;
      count = omega (arith, h.range.count);
    };
    room = h.room;
    table = h.table;
    count = omega (arith, h.count);
    rows = rows_next 0 ds (omega (arith, h.count, h.range.count)) h.rows.1;
    order = order-later d (flat ds) a h.order;
    oldest = h.oldest ∙ none_in (slot_of s.queue.first s.queue.limit 0) 0 d (oldest_of s.queue.first s.queue.limit 1 ds no_waiting) a
        ∙ oldest-next 0 ds no_waiting (omega (arith, h.count, h.range.count));
    keys = agrees-later s.keys d (flat ds) a h.keys;
  }

-- ---- the call

pub take-told : (s : Sending) (mem : List ℕ) (ds : List (List Queued)) → Holds s mem ds → (have : ℕ) → take_answer s (length mem) have ≡ take_told ds have
unfolding take_answer
take-told s mem [] h have = if_true _ _ (ready_always s mem [] h) ∙ if_true _ _ (eq-eqb s.queue.count 0 (sym h.count))
take-told s mem (d ∷ ds) h have =
    let size = front-size s mem d ds h in
    if_true _ _ (ready_always s mem (d ∷ ds) h)
    ∙ if_false _ _ (ne_eqb s.queue.count 0 (λ z. omega (arith, h.count)))
    ∙ if_true _ _ (le-leb (front_len s) s.queue.mtu (omega (arith, size, (front_row s mem d ds h).short)))
    ∙ ap (λ (b : Bool). choose b (Err take.Unsealed) (choose (ltb have (front_len s)) (Err (take.Short (front_len s))) (Ok (Some (front_len s))))) (front-waits s mem d ds h)
    ∙ ap (λ (n : ℕ). choose (waits_in d) (Err take.Unsealed) (choose (ltb have n) (Err (take.Short n)) (Ok (Some n)))) size

-- a datagram is handed out only if none of its records waits: each is plaintext or sealed
pub taken-settled : (s : Sending) (mem : List ℕ) (d : List Queued) (ds : List (List Queued)) → Holds s mem (d ∷ ds) → (have : ℕ) → is_taken (take_answer s (length mem) have) ≡ true → waits_in d ≡ false
taken-settled s mem d ds h have t =
    by_test (λ (a : TakeAnswer). is_taken a ≡ true → waits_in d ≡ false) (λ a z. absurd (false≢true z)) (λ a z. a)
    (subst (λ (a : TakeAnswer). is_taken a ≡ true) (take-told s mem (d ∷ ds) h have) t)

pub take-holds : (s : Sending) (mem : List ℕ) (ds : List (List Queued)) → Holds s mem ds → (have : ℕ)
    → Holds (take_state (take_answer s (length mem) have) s).state mem (after_taken (take_answer s (length mem) have) ds)
unfolding take_state
take-holds s mem [] h have =
    subst (λ (u : Sending). Holds u mem []) (sym (if_false _ _ (ap is_taken (take-told s mem [] h have)))) h
take-holds s mem (d ∷ ds) h have =
    test_cases (is_taken (take_answer s (length mem) have))
    (λ t. rw (if_true (after_take s) s t, if_true ds (d ∷ ds) t) (taken-holds s mem d ds h (taken-settled s mem d ds h have t)))
    (λ t. rw (if_false (after_take s) s t, if_false ds (d ∷ ds) t) h)

-- what is handed out is the front's records' bytes, in order, at the start of the buffer
pub take-bytes : (s : Sending) (mem b : List ℕ) (d : List Queued) (ds : List (List Queued)) → Holds s mem (d ∷ ds) → is_taken (take_answer s (length mem) (length b)) ≡ true
    → take_buffer (take_answer s (length mem) (length b)) s mem b ≡ splice 0 (bytes d) b
unfolding take_buffer
take-bytes s mem b d ds h t = if_true _ _ t ∙ ap (λ (v : List ℕ). splice 0 v b) (front_bytes s mem d ds h)
