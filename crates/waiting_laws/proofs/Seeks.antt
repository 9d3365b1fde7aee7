-- The search for the next record that waits is exact: from behind the oldest it passes plaintext records and finds the next one that
-- waits, with its epoch and number, or none where none does; 1,999 steps are enough. Assumes nothing.
use Rattle.std.specs.Prelude.{true, ◌≡◌, get_or}
use Rattle.std.specs.declared.ops.ControlFlow.TheVariants.{Continue, Break}
use Rattle.std.proofs.lemmas.Bool.{false≢true}
use mathlib.Core.List.{List, [], ◌∷◌, ◌++◌, append_assoc}
use Rattle.std.proofs.Math.Path.{refl, ap}
use Rattle.std.proofs.Common.{sym, subst, ◌∙◌, mod-eq_of_lt, arith, length-append}
use Prim.Native.Nat.{ℕ, zero, suc, ◌+◌, ◌-◌, ◌*◌, ◌<◌, ◌≤◌}
use Rattle.std.proofs.Math.ListN.{length}
use borrow.Author.Tests.{le-leb, lt-leb}
use Rattle.base.specs.Bytes.{be, be_at, be_at-behind}
use Rattle.base.proofs.Bytes.{be_at-be}
use Rattle.base.specs.Choose.{choose, either, test_cases, if_true, if_false, both_true}
use Rattle.base.specs.Parts.{part}
use Rattle.record.specs.declared.Parsed.{Parsed}
use Rattle.record.specs.Record.{plain_head, sealed_head, sealed_tail, sealed_over, is_type, parsed, unified_header}
use Rattle.queue.specs.declared.Queue.{Queue}
use Rattle.queue.specs.Queue.{slot_of, InRange}
use Rattle.queue.specs.Laid.{record_bytes, trailer_of, bytes_ciphertext, length_unified}
use Rattle.outgoing.specs.declared.Waiting.{Waiting}
use Rattle.outgoing.specs.State.{no_waiting, is_content_type}
use Rattle.written_laws.specs.ReadBack.{sealed-back, plain_back}
use Rattle.sealing.specs.declared.Search.{Search}
use Rattle.sealing.specs.Seek.{nth_of, beyond, passed, found_at, step_of, record_at, step_in, seek_step, seek, seek-done, seek-on}
use Rattle.waiting_laws.specs.Queued.{Queued, plain, waits, sealed, bytes_of, bytes, flat, waits_in, Plain, Sealing, Lies, Rows, AsLaid, InOrder, oldest_in, oldest_of}
use Rattle.waiting_laws.proofs.First.{seal_with, first_in, first_of}
use Rattle.waiting_laws.proofs.Ring.{part_join, nth-slot}
use Rattle.waiting_laws.proofs.Lists.{length-plain, length-waits, length-sealed, long, laid-split, order-later, none_in, waits-append}

-- ---- what is read

-- the bytes of a datagram from an offset on are those of its records
pub lies-bytes : (mem : List ℕ) (base at : ℕ) (rs : List Queued) → Lies mem base at rs → part (base + at) (length (bytes rs)) mem ≡ bytes rs
lies-bytes mem base at [] l = refl
lies-bytes mem base at (r ∷ rs) l =
    ap (λ (n : ℕ). part (base + at) n mem) (length-append (bytes_of r) (bytes rs))
    ∙ part_join (base + at) (length (bytes_of r)) (length (bytes rs)) mem (bytes_of r) (bytes rs) l.0.here
    (ap (λ (k : ℕ). part k (length (bytes rs)) mem) (sym (next base at)) ∙ lies-bytes mem base (at + length (bytes_of r)) rs l.1)
  where
    next : (base at : ℕ) → base + (at + length (bytes_of r)) ≡ base + at + length (bytes_of r)
    next base at = omega arith

-- a plaintext record's type is one that reading allows
plain-kind : (t : ℕ) → is_content_type 0 t ≡ true → is_type t ≡ true
unfolding is_content_type either choose
plain-kind t h = test_cases (is_type t) (λ e. e) (λ e. absurd (false≢true (sym (rw e) ∙ h)))

-- epoch and number are read back from the tag's place
module _ (e t n : ℕ) (x r : List ℕ) (small : e < 65536) (short : n < 281474976710655) where
  -- what precedes the epoch
  abbrev front : List ℕ
  front = unified_header e n (length x + sealed_tail) ++ (x ++ t ∷ [])

  laid-as : unified_header e n (length x + sealed_tail) ++ (x ++ trailer_of t e n) ++ r ≡ front ++ (be 2 e ++ (be 6 n ++ (be 8 0 ++ r)))
  unfolding trailer_of
  laid-as = simp append_assoc

  length_front : length front ≡ length x + 6
  length_front = simp length-append (omega (arith, length_unified e n (length x + sealed_tail)))

  pub epoch-back : be_at 2 (unified_header e n (length x + sealed_tail) ++ (x ++ trailer_of t e n) ++ r) (length x + sealed_tail - 11) ≡ e
  epoch-back =
      ap (λ (d : List ℕ). be_at 2 d (length x + sealed_tail - 11)) laid-as
      ∙ ap (be_at 2 (front ++ (be 2 e ++ (be 6 n ++ (be 8 0 ++ r))))) place
      ∙ be_at-behind 2 front (be 2 e ++ (be 6 n ++ (be 8 0 ++ r))) 0 ∙ be_at-be 2 e (be 6 n ++ (be 8 0 ++ r)) ∙ mod-eq_of_lt small
    where
      place : length x + sealed_tail - 11 ≡ length front + 0
      place = omega (arith, length_front)

  pub number-back : be_at 6 (unified_header e n (length x + sealed_tail) ++ (x ++ trailer_of t e n) ++ r) (length x + sealed_tail - 9) ≡ n
  number-back =
      ap (λ (d : List ℕ). be_at 6 d (length x + sealed_tail - 9)) laid-as
      ∙ ap (be_at 6 (front ++ (be 2 e ++ (be 6 n ++ (be 8 0 ++ r))))) place
      ∙ be_at-behind 6 front (be 2 e ++ (be 6 n ++ (be 8 0 ++ r))) 2
      ∙ be_at-behind 6 (be 2 e) (be 6 n ++ (be 8 0 ++ r)) 0 ∙ be_at-be 6 n (be 8 0 ++ r) ∙ mod-eq_of_lt (omega arith)
    where
      place : length x + sealed_tail - 9 ≡ length front + 2
      place = omega (arith, length_front)

-- ---- a step

-- the search at an offset of a datagram
abbrev pub searching : ℕ → ℕ → Search
searching i at = record { datagram = i; offset = at }

module _ (q : Queue) (mem : List ℕ) where
  -- behind the last datagram nothing is found
  seek-over : (i k : ℕ) → q.count ≤ i → 1 ≤ k → seek k q mem (searching i 0) ≡ no_waiting
  unfolding seek_step
  seek-over i zero h l = absurd (omega arith)
  seek-over i (suc k) h l = seek-done q mem (searching i 0) k (if_true _ _ (le-leb q.count i h))

  module _ (i : ℕ) (low : i < q.count) where
    abbrev slot : ℕ
    slot = slot_of q.first q.limit i

    step-in : (at : ℕ) → seek_step q mem (searching i at) ≡ step_in q mem slot (searching i at)
    unfolding seek_step
    step-in at = if_false _ _ (lt-leb q.count i low)

    -- at the end of a datagram, on to the next
    step_end : (at : ℕ) → get_or q.lengths slot 0 ≤ at → seek_step q mem (searching i at) ≡ Continue (searching (i + 1) 0)
    unfolding beyond
    step_end at h = step-in at ∙ if_true _ _ (le-leb (get_or q.lengths slot 0) at h)

    -- at a record, what is read there
    step-read : (at : ℕ) (d : List ℕ) → at < get_or q.lengths slot 0 → record_at q mem slot at ≡ d → seek_step q mem (searching i at) ≡ step_of (parsed d) d slot (searching i at)
    step-read at d h e =
        step-in at ∙ if_false _ _ (lt-leb (get_or q.lengths slot 0) at h) ∙ ap (λ (b : List ℕ). step_of (parsed b) b slot (searching i at)) e

    step-plain : (at t n : ℕ) (x r : List ℕ) → at < get_or q.lengths slot 0 → record_at q mem slot at ≡ record_bytes 0 t n x ++ r → Plain t n x
        → seek_step q mem (searching i at) ≡ Continue (searching i (at + length (record_bytes 0 t n x)))
    unfolding step_of passed
    step-plain at t n x r h e s =
        step-read at (record_bytes 0 t n x ++ r) h e
        ∙ ap (λ (p : Parsed). step_of p (record_bytes 0 t n x ++ r) slot (searching i at)) (plain_back 0 t n x r refl (plain-kind t s.kind) (omega (arith, s.short)))
        ∙ ap (λ (k : ℕ). Continue (searching i k)) size
      where
        size : at + (plain_head + length x) ≡ at + length (record_bytes 0 t n x)
        size = omega (arith, length-plain t n x)

    step_waits : (at e t n : ℕ) (x r : List ℕ) → at < get_or q.lengths slot 0 → record_at q mem slot at ≡ (unified_header e n (length x + sealed_tail) ++ (x ++ trailer_of t e n)) ++ r
        → Sealing e t n x (x ++ trailer_of t e n)
        → seek_step q mem (searching i at) ≡ Break (record { any = true; slot = slot; start = at; length = length x + sealed_tail; epoch = e; number = n })
    unfolding step_of found_at
    step_waits at e t n x r h g s =
        let d : List ℕ = unified_header e n (length x + sealed_tail) ++ (x ++ trailer_of t e n) ++ r in
        let ne : e ≡ 0 → ⊥ = λ z. omega (arith, s.some) in
        let back = ap (λ (b : List ℕ). parsed (b ++ r)) (sym (bytes_ciphertext ne t n x)) ∙ sealed-back e t n x r ne (omega (arith, s.short)) in
        step-read at d h g
        ∙ ap (λ (p : Parsed). step_of p d slot (searching i at)) back
        ∙ if_true _ _ (both_true refl ∙ le-leb sealed_tail (length x + sealed_tail) (omega arith))
        ∙ λ j. Break (record { any = true; slot = slot; start = at; length = length x + sealed_tail; epoch = epoch-back e t n x r s.epoch s.number j; number = number-back e t n x r s.epoch s.number j })

    -- the rest of the datagram is what its records say
    rest-bytes : (at : ℕ) (rs : List Queued) → get_or q.lengths slot 0 ≡ at + length (bytes rs) → Lies mem (slot * q.mtu) at rs → record_at q mem slot at ≡ bytes rs
    rest-bytes at rs e l = ap (λ (n : ℕ). part (slot * q.mtu + at) n mem) size ∙ lies-bytes mem (slot * q.mtu) at rs l
      where
        size : get_or q.lengths slot 0 - at ≡ length (bytes rs)
        size = omega arith

    -- from an offset on the search finds the first that waits; w is what it finds in the later datagrams
    walk : (n : ℕ) (w : Waiting) → ((j : ℕ) → n ≤ j → seek j q mem (searching (i + 1) 0) ≡ w)
        → (at k : ℕ) (rs : List Queued) → get_or q.lengths slot 0 ≡ at + length (bytes rs) → Lies mem (slot * q.mtu) at rs → AsLaid rs → length rs + 1 + n ≤ k
        → seek k q mem (searching i at) ≡ oldest_in slot at rs w
    walk n w next at zero rs e l a h = absurd (omega arith)
    walk n w next at (suc k) [] e l a h =
        seek-on q mem (searching i at) k (step_end at (omega arith)) ∙ next k (omega arith)
    walk n w next at (suc k) (plain t m x ∷ rs) e l a h =
        let b : List ℕ = record_bytes 0 t m x in
        let size = length-append b (bytes rs) in
        seek-on q mem (searching i at) k (step-plain at t m x (bytes rs) (omega (arith, length-plain t m x)) (rest-bytes at (plain t m x ∷ rs) e l) l.0.sound)
        ∙ walk n w next (at + length b) k rs (omega arith) l.1 a (omega arith)
    walk n w next at (suc k) (waits f t m x p ∷ rs) e l a h =
        let b : List ℕ = unified_header f m (length x + sealed_tail) ++ p in
        let size = length-append b (bytes rs) in
        let head : record_at q mem slot at ≡ (unified_header f m (length x + sealed_tail) ++ (x ++ trailer_of t f m)) ++ bytes rs = rest-bytes at (waits f t m x p ∷ rs) e l ∙ ap (λ (v : List ℕ). (unified_header f m (length x + sealed_tail) ++ v) ++ bytes rs) a.0 in
        seek-done q mem (searching i at) k (step_waits at f t m x (bytes rs) (omega (arith, length-waits f t m x p l.0.sound.part)) head (subst (Sealing f t m x) a.0 l.0.sound))
    walk n w next at (suc k) (sealed f t m x o p ∷ rs) e l a h = absurd a

-- ---- from behind the oldest

-- steps: one for each record, one for each datagram's end, one at the end of the queue
abbrev pub steps : List (List Queued) → ℕ
steps [] = 1
steps (d ∷ ds) = length d + 1 + steps ds

lies-long : (mem : List ℕ) (base at : ℕ) (rs : List Queued) → Lies mem base at rs → plain_head * length rs ≤ length (bytes rs)
lies-long mem base at [] l = omega arith
lies-long mem base at (r ∷ rs) l =
    omega (arith, lies-long mem base (at + length (bytes_of r)) rs l.1, length-append (bytes_of r) (bytes rs), long r l.0.sound)

-- a datagram of 1,500 bytes has at most 115 records
rows_few : (q : Queue) (mem : List ℕ) → q.mtu ≤ 1500 → (i : ℕ) (ds : List (List Queued)) → Rows q mem i ds → steps ds ≤ 116 * length ds + 1
rows_few q mem h i [] r = omega arith
rows_few q mem h i (d ∷ ds) r =
    omega (arith, rows_few q mem h (i + 1) ds r.1, lies-long mem (slot_of q.first q.limit i * q.mtu) 0 d r.0.lies, r.0.short)

-- so 1,999 steps are enough for a whole queue
pub steps_enough : (q : Queue) (mem : List ℕ) → InRange q → (i : ℕ) (ds : List (List Queued)) → length ds ≤ q.limit → Rows q mem i ds → steps ds ≤ 1999
steps_enough q mem g i ds h r = omega (arith, rows_few q mem g.high i ds r, g.limit)

module _ (q : Queue) (mem : List ℕ) where
  -- from the start of a datagram on
  pub seek-rows : (i k : ℕ) (ds : List (List Queued)) → i + length ds ≡ q.count → Rows q mem i ds → AsLaid (flat ds) → steps ds ≤ k
      → seek k q mem (searching i 0) ≡ oldest_of q.first q.limit i ds no_waiting
  seek-rows i k [] h r a l = seek-over q mem i k (omega arith) l
  seek-rows i k (d ∷ ds) h r a l =
      let b = laid-split d (flat ds) a in
      walk q mem i (omega arith) (steps ds) (oldest_of q.first q.limit (i + 1) ds no_waiting)
      (λ j g. seek-rows (i + 1) j ds (omega arith) r.1 b.1 g) 0 k d (r.0.size ∙ omega arith) r.0.lies b.0 (omega arith)

  -- behind the first that waits in a datagram
  seek_in : (range : InRange q) (i at k : ℕ) (rs : List Queued) (ds : List (List Queued)) (m : List ℕ) → i < q.limit → i + 1 + length ds ≡ q.count
      → get_or q.lengths (slot_of q.first q.limit i) 0 ≡ at + length (bytes rs) → Lies mem (slot_of q.first q.limit i * q.mtu) at rs
      → Rows q mem (i + 1) ds → InOrder (rs ++ flat ds) → waits_in rs ≡ true → length rs + 1 + steps ds ≤ k → (w : Waiting)
      → seek k q mem (searching (nth_of q.first q.limit (oldest_in (slot_of q.first q.limit i) at rs w).slot)
      ((oldest_in (slot_of q.first q.limit i) at rs w).start + sealed_head + (oldest_in (slot_of q.first q.limit i) at rs w).length))
      ≡ oldest_in (slot_of q.first q.limit i) at (first_in (seal_with m) rs) (oldest_of q.first q.limit (i + 1) ds no_waiting)
  seek_in range i at k [] ds m low h e l r o y g w = absurd (false≢true y)
  seek_in range i at k (plain t n x ∷ rs) ds m low h e l r o y g w =
      seek_in range i (at + length (record_bytes 0 t n x)) k rs ds m low h (e ∙ omega (arith, length-append (record_bytes 0 t n x) (bytes rs))) l.1 r o y (omega arith) w
  seek_in range i at k (sealed f t n x u p ∷ rs) ds m low h e l r o y g w =
      let b : List ℕ = bytes_of (sealed f t n x u p) in
      seek_in range i (at + length b) k rs ds m low h (e ∙ omega (arith, length-append b (bytes rs))) l.1 r o y (omega arith) w
  seek_in range i at k (waits f t n x p ∷ rs) ds m low h e l r o y g w =
      let b = laid-split rs (flat ds) o in
      let slot : ℕ = slot_of q.first q.limit i in
      let len = length-waits f t n x p l.0.sound.part in
      let len' = length-sealed f t n x m p l.0.sound.part in
      let size = length-append (bytes_of (waits f t n x p)) (bytes rs) in
      ap (λ (j : ℕ). seek k q mem (searching j (at + sealed_head + (length x + sealed_tail)))) (nth-slot q.first q.limit range.first i low)
      ∙ ap (λ (j : ℕ). seek k q mem (searching i j)) (over at (length x) (length (bytes_of (waits f t n x p))) len)
      ∙ walk q mem i (omega arith) (steps ds) (oldest_of q.first q.limit (i + 1) ds no_waiting)
      (λ j v. seek-rows (i + 1) j ds (omega arith) r b.1 v) (at + length (bytes_of (waits f t n x p))) k rs (e ∙ omega arith) l.1 b.0 (omega arith)
      ∙ ap (λ (j : ℕ). oldest_in slot (at + j) rs (oldest_of q.first q.limit (i + 1) ds no_waiting)) (len ∙ sym len')
    where
      over : (at n b : ℕ) → b ≡ n + sealed_over → at + sealed_head + (n + sealed_tail) ≡ at + b
      over at n b h = omega arith

  -- the search begun behind a record
  abbrev behind : Waiting → Search
  behind w = searching (nth_of q.first q.limit w.slot) (w.start + sealed_head + w.length)

  -- behind the oldest the search finds the next that waits: the oldest once this one is sealed
  pub seek_exact : InRange q → (i k : ℕ) (ds : List (List Queued)) (m : List ℕ) → i + length ds ≡ q.count → Rows q mem i ds → InOrder (flat ds) → waits_in (flat ds) ≡ true → steps ds ≤ k
      → seek k q mem (behind (oldest_of q.first q.limit i ds no_waiting)) ≡ oldest_of q.first q.limit i (first_of (seal_with m) ds) no_waiting
  seek_exact range i k [] m h r o y g = absurd (false≢true y)
  seek_exact range i k (d ∷ ds) m h r o y g =
      let slot : ℕ = slot_of q.first q.limit i in
      let later : Waiting = oldest_of q.first q.limit (i + 1) ds no_waiting in
      test_cases (waits_in d)
      (λ a.
      seek_in range i 0 k d ds m (omega (arith, range.count)) (omega arith) (r.0.size ∙ omega arith) r.0.lies r.1 o a (omega arith) later
      ∙ sym (ap (λ (l : List (List Queued)). oldest_of q.first q.limit i l no_waiting) (if_true (first_in (seal_with m) d ∷ ds) (d ∷ first_of (seal_with m) ds) a)))
      (λ a.
      ap (λ (w : Waiting). seek k q mem (behind w)) (none_in slot 0 d later a)
      ∙ seek_exact range (i + 1) k ds m (omega arith) r.1 (order-later d (flat ds) a o) (sym (waits-append d (flat ds) a) ∙ y) (omega arith)
      ∙ sym (none_in slot 0 d (oldest_of q.first q.limit (i + 1) (first_of (seal_with m) ds) no_waiting) a)
      ∙ sym (ap (λ (l : List (List Queued)). oldest_of q.first q.limit i l no_waiting) (if_false (first_in (seal_with m) d ∷ ds) (d ∷ first_of (seal_with m) ds) a)))
