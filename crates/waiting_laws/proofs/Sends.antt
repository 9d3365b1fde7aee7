-- Sending a record, saved or not: the queue then means the same datagrams and the record behind them; refused, the same. Assumes nothing.
use Rattle.std.specs.Prelude.{Bool, true, false, ◌≡◌, ℕ, ◌+◌, ◌-◌, ◌*◌, ◌<◌, ◌≤◌, eqb}
use Rattle.std.proofs.lemmas.Bool.{false≢true}
use mathlib.Core.List.{List, [], ◌∷◌, ◌++◌}
use Rattle.std.proofs.Math.Path.{refl, sym, ap, subst}
use Rattle.std.proofs.Common.{◌∙◌, length-append}
use native.Mathlib.Omega.{arith}
use Rattle.std.proofs.Math.ListN.{length, get_or, length-set}
use borrow.Author.Tests.{leb-true, eqb-true, eqb-false, ne_eqb}
use Rattle.base.specs.Choose.{choose, by_test, test_cases, if_true, if_false, both_left, both_right, either_true, either-false}
use Rattle.base.specs.Parts.{splice, length-splice}
use Rattle.queue.specs.declared.Place.{Place}
use Rattle.queue.specs.Queue.{slot_of, last_len, tail_of, joins, place_of, laid, start_of, Ready, Fits, laid-range, joinable-counted, spot}
use Rattle.queue.specs.Laid.{record_bytes, record_len, trailer_of, length_record, length_trailer}
use Rattle.send_keys.specs.Keys.{is_usable, is_keyed, next_of, used}
use Rattle.outgoing.specs.declared.Waiting.{Waiting}
use Rattle.outgoing.specs.declared.Sending.{Sending}
use Rattle.outgoing.specs.State.{no_waiting, is_allowed, is_content_type, with_queue, with_keys, with_waiting}
use Rattle.outgoing.specs.Send.{spot_of, waits_behind, laid_state, laid_memory, send_answer, send_state, send_memory, Clear, laid_at}
use Rattle.outgoing.proofs.Send.{send_clear, clear-short}
use Rattle.flight.specs.declared.Flight.{Flight}
use Rattle.flight.specs.Save.{save_answer, save_state, save_queue, save_safe}
use Rattle.send_keys.specs.Answer.{SendAnswer, is_done}
use Rattle.waiting_laws.specs.Queued.{Queued, bytes_of, laid_as, flat, waits_in, Sound, Rows, AsLaid, InOrder, oldest_in, oldest_of, Agrees, Holds}
use Rattle.waiting_laws.proofs.Lists.{laid-bytes, order-append, none_of, some_of, any-waits, flat_snoc}
use Rattle.waiting_laws.proofs.Growing.{joined, grown, flat-joined, flat-grown, length-joined, oldest-new, rows_new, rows-joined, oldest-joined}
use Rattle.waiting_laws.proofs.Numbers.{used-agrees, usable-small}

-- ---- what the tests tell

pub record Sent (s : Sending) (room e t n : ℕ) : Type 0 where
  pub clear : Clear s room e n
  pub kind : is_content_type e t ≡ true
  pub usable : is_usable s.keys e ≡ true
  pub keyed : is_keyed s.keys e ≡ true

allowed-kind : (mtu e t n : ℕ) → is_allowed mtu e t n ≡ true → is_content_type e t ≡ true
unfolding is_allowed
allowed-kind mtu e t n h = both_left (is_content_type e t) _ h

send-tests : (s : Sending) (room e t n : ℕ) → is_done (send_answer s room e t n) ≡ true → (is_usable s.keys e ≡ true) × (is_allowed s.queue.mtu e t n ≡ true) × (is_keyed s.keys e ≡ true)
unfolding send_answer
send-tests s room e t n =
    let P : SendAnswer → Type 0 = λ a. is_done a ≡ true → (is_usable s.keys e ≡ true) × (is_allowed s.queue.mtu e t n ≡ true) × (is_keyed s.keys e ≡ true) in
    by_test P (λ r. by_test P (λ u. by_test P (λ l. by_test P (λ k z. (u, l, k)) (λ k z. absurd (false≢true z))) (λ l z. absurd (false≢true z)))
    (λ u z. absurd (false≢true z)))
    (λ r z. absurd (false≢true z))

pub sent : (s : Sending) (room e t n : ℕ) → is_done (send_answer s room e t n) ≡ true → Sent s room e t n
sent s room e t n d =
    let h = send-tests s room e t n d in
    record { clear = send_clear s room e t n d; kind = allowed-kind s.queue.mtu e t n h.1; usable = h.0; keyed = h.2 }

save-tests : (s : Sending) (f : Flight) (room kept e t n : ℕ) → is_done (save_answer s f room kept e t n) ≡ true
    → (is_usable s.keys e ≡ true) × (is_allowed s.queue.mtu e t n ≡ true) × (is_keyed s.keys e ≡ true)
unfolding save_answer
save-tests s f room kept e t n =
    let P : SendAnswer → Type 0 = λ a. is_done a ≡ true → (is_usable s.keys e ≡ true) × (is_allowed s.queue.mtu e t n ≡ true) × (is_keyed s.keys e ≡ true) in
    by_test P (λ r. by_test P (λ i. by_test P (λ u. by_test P (λ l. by_test P (λ k z. (u, l, k)) (λ k z. absurd (false≢true z))) (λ l z. absurd (false≢true z)))
    (λ u z. absurd (false≢true z)))
    (λ i z. absurd (false≢true z)))
    (λ r z. absurd (false≢true z))

pub saved : (s : Sending) (f : Flight) (room kept e t n : ℕ) → is_done (save_answer s f room kept e t n) ≡ true → Sent s room e t n
saved s f room kept e t n d =
    let h = save-tests s f room kept e t n d in
    record { clear = (save_safe s f room kept e t n d).clear; kind = allowed-kind s.queue.mtu e t n h.1; usable = h.0; keyed = h.2 }

-- ---- a record laid

-- the record that a send lays
abbrev pub record_of : Sending → ℕ → ℕ → List ℕ → Queued
record_of s e t x = laid_as e t (next_of s.keys e) x

-- the datagrams with it
abbrev pub sent_to : Sending → ℕ → ℕ → List ℕ → List (List Queued) → List (List Queued)
sent_to s e t x ds = grown (joins s.queue.mtu (tail_of s.queue) (record_len e (length x))) ds (record_of s e t x)

-- it waits, or needs no sealing, and its bytes are as they were laid
pub record_as_laid : (s : Sending) (e t : ℕ) (x : List ℕ) → AsLaid (record_of s e t x ∷ [])
record_as_laid s e t x = by_test (λ (u : Queued). AsLaid (u ∷ [])) (λ z. tt) (λ z. (refl, tt))

-- the state and the memory, where its place is known
abbrev memory_at : Sending → ℕ → ℕ → List ℕ → List ℕ → Place → List ℕ
memory_at s e t x mem p = splice (start_of s.queue p) (record_bytes e t (next_of s.keys e) x) mem

module _ (s : Sending) (mem : List ℕ) (ds : List (List Queued)) (h : Holds s mem ds) (e t : ℕ) (x : List ℕ) (c : Sent s (length mem) e t (length x)) where
  abbrev r : Queued
  r = record_of s e t x

  record_sound : Sound r
  record_sound =
      by_test Sound
      (λ z. record { kind = subst (λ (k : ℕ). is_content_type k t ≡ true) (eqb-true e 0 z) c.kind; number = c.clear.number; short = clear-short c.clear })
      (λ z. record {
        some = let y = eqb-false e 0 z in omega arith;
        epoch = usable-small s.keys (flat ds) h.keys e t x c.usable;
        kind = c.kind;
        number = c.clear.number;
        short = clear-short c.clear;
        part = length-append x (trailer_of t e (next_of s.keys e)) ∙ ap (λ (k : ℕ). length x + k) (length_trailer t e (next_of s.keys e));
      })

  record-size : length (bytes_of r) ≡ record_len e (length x)
  record-size = ap length (laid-bytes e t (next_of s.keys e) x) ∙ length_record e t (next_of s.keys e) x

  abbrev first : ℕ
  first = s.queue.first

  abbrev limit : ℕ
  limit = s.queue.limit

  -- the oldest that waits, behind a send
  oldest-behind : (p : Place) → waits_behind s e (length x) p ≡ oldest_of first limit 0 ds (oldest_in (slot_of first limit p.datagram) p.offset (r ∷ []) no_waiting)
  unfolding waits_behind
  oldest-behind p =
      let new : Waiting = oldest_in (slot_of first limit p.datagram) p.offset (r ∷ []) no_waiting in
      let any : s.waiting.any ≡ waits_in (flat ds) = ap (λ (w : Waiting). w.any) h.oldest ∙ any-waits first limit 0 ds in
      test_cases (waits_in (flat ds))
      (λ y. if_true _ _ (either_true (eqb e 0) (any ∙ y)) ∙ h.oldest ∙ (some_of first limit 0 ds no_waiting new y).0)
      (λ y. test_cases (eqb e 0)
      (λ z.
      if_true _ _ (either-false (any ∙ y) ∙ z) ∙ h.oldest ∙ none_of first limit 0 ds no_waiting y
      ∙ sym (none_of first limit 0 ds new y ∙ ap (λ (u : Queued). oldest_in (slot_of first limit p.datagram) p.offset (u ∷ []) no_waiting) (if_true _ _ z)))
      (λ z.
      if_false _ _ (either-false (any ∙ y) ∙ z)
      ∙ sym (none_of first limit 0 ds new y ∙ ap (λ (u : Queued). oldest_in (slot_of first limit p.datagram) p.offset (u ∷ []) no_waiting) (if_false _ _ z))))

  -- datagrams that have the record at its place are what the state with it means
  assembled : (p : Place) (us : List (List Queued)) → p.datagram < limit → p.offset + length (bytes_of r) ≤ s.queue.mtu → length us ≡ p.datagram + 1
      → flat us ≡ flat ds ++ r ∷ []
      → Rows (laid s.queue p (length (bytes_of r))) (splice (slot_of first limit p.datagram * s.queue.mtu + p.offset) (bytes_of r) mem) 0 us
      → oldest_of first limit 0 us no_waiting ≡ oldest_of first limit 0 ds (oldest_in (slot_of first limit p.datagram) p.offset (r ∷ []) no_waiting)
      → Holds (laid_at s e (length x) p) (memory_at s e t x mem p) us
  unfolding laid start_of
  assembled p us datagram inside count same rows oldest =
      let f : Fits s.queue p (length (bytes_of r)) = record { datagram = datagram; inside = inside } in
      let ready : Ready s.queue (length mem) = record { range = h.range; space = h.room } in
      let written = (spot ready f).space in
      subst (λ (b : List ℕ). Holds (laid_at s e (length x) p) (splice (slot_of first limit p.datagram * s.queue.mtu + p.offset) b mem) us)
      (laid-bytes e t (next_of s.keys e) x)
      (subst (λ (k : ℕ). Holds (with_waiting (with_keys (with_queue s (laid s.queue p k)) (used s.keys e)) (waits_behind s e (length x) p)) (splice (slot_of first limit p.datagram * s.queue.mtu + p.offset) (bytes_of r) mem) us) record-size
      (record {
        range = laid-range h.range f;
        room = subst (λ (k : ℕ). s.queue.limit * s.queue.mtu ≤ k) (sym (length-splice (slot_of first limit p.datagram * s.queue.mtu + p.offset) (bytes_of r) mem written)) h.room;
        table = length-set s.queue.lengths (slot_of first limit p.datagram) (p.offset + length (bytes_of r)) ∙ h.table;
        count = count;
        rows = rows;
        order = subst InOrder (sym same) (order-append (flat ds) (r ∷ []) h.order (record_as_laid s e t x));
        oldest = oldest-behind p ∙ sym oldest;
        keys = subst (Agrees (used s.keys e)) (sym same) (used-agrees s.keys (flat ds) h.keys e t x c.usable c.keyed);
      }))

  abbrev joining : Bool
  joining = joins s.queue.mtu (tail_of s.queue) (record_len e (length x))

  -- behind the last of the last datagram
  joined-holds : joining ≡ true → Holds (laid_state s e (length x)) (laid_memory s e t x mem) (joined ds r)
  unfolding laid_state laid_memory place_of tail_of last_len
  joined-holds j =
      let p : Place = record { datagram = s.queue.count - 1; offset = last_len s.queue } in
      let at : spot_of s e (length x) ≡ p = if_true _ _ j in
      let some : 0 < s.queue.count = joinable-counted s.queue (both_left (tail_of s.queue).joinable _ j) in
      let one : s.queue.count - 1 + 1 ≡ s.queue.count = omega arith in
      let any : 0 < length ds = omega (arith, h.count) in
      let last : last_len s.queue ≡ get_or s.queue.lengths (slot_of first limit (s.queue.count - 1)) 0 = if_false _ _ (ne_eqb s.queue.count 0 (λ (z : s.queue.count ≡ 0). omega arith)) in
      let fits : last_len s.queue + length (bytes_of r) ≤ s.queue.mtu = omega (arith, record-size, leb-true (last_len s.queue + record_len e (length x)) s.queue.mtu (both_right (tail_of s.queue).joinable _ j)) in
      let low : s.queue.count - 1 < limit = omega (arith, h.range.count) in
      subst (λ (u : Place). Holds (laid_at s e (length x) u) (memory_at s e t x mem u) (joined ds r)) (sym at)
      (assembled p (joined ds r) low fits (length-joined ds r any ∙ h.count ∙ sym one) (flat-joined ds r)
      (rows-joined s.queue mem (s.queue.count - 1) (last_len s.queue) r h.range h.room h.table low fits record_sound last 0 ds any (omega (arith, h.count)) h.rows)
      (oldest-joined s.queue mem (s.queue.count - 1) (last_len s.queue) r h.range h.room h.table low fits record_sound last 0 ds no_waiting any (omega (arith, h.count)) h.rows))

  -- in a new datagram
  new-holds : joining ≡ false → Holds (laid_state s e (length x)) (laid_memory s e t x mem) (ds ++ (r ∷ []) ∷ [])
  unfolding laid_state laid_memory place_of tail_of
  new-holds j =
      let p : Place = record { datagram = s.queue.count; offset = 0 } in
      let at : spot_of s e (length x) ≡ p = if_false _ _ j in
      let low : s.queue.count < limit = subst (λ (u : Place). u.datagram < limit) at c.clear.datagram in
      let fits : 0 + length (bytes_of r) ≤ s.queue.mtu = omega (arith, record-size, c.clear.fits) in
      let all : 0 + length ds ≡ s.queue.count = omega (arith, h.count) in
      subst (λ (u : Place). Holds (laid_at s e (length x) u) (memory_at s e t x mem u) (ds ++ (r ∷ []) ∷ [])) (sym at)
      (assembled p (ds ++ (r ∷ []) ∷ []) low fits (length-append ds ((r ∷ []) ∷ []) ∙ omega arith) (flat_snoc ds r)
      (rows_new s.queue mem s.queue.count 0 r h.range h.room h.table low fits record_sound refl 0 ds all h.rows)
      (oldest-new first limit 0 ds r no_waiting ∙ ap (λ (k : ℕ). oldest_of first limit 0 ds (oldest_in (slot_of first limit k) 0 (r ∷ []) no_waiting)) all))

  -- an accepted send lays exactly this record, behind all others
  pub laid-holds : Holds (laid_state s e (length x)) (laid_memory s e t x mem) (sent_to s e t x ds)
  laid-holds =
      test_cases joining
      (λ j. subst (Holds (laid_state s e (length x)) (laid_memory s e t x mem)) (sym (if_true _ _ j)) (joined-holds j))
      (λ j. subst (Holds (laid_state s e (length x)) (laid_memory s e t x mem)) (sym (if_false _ _ j)) (new-holds j))

-- ---- the calls

-- what the queue means behind a send: one record more, or the same where it is refused
abbrev pub after_send : SendAnswer → Sending → ℕ → ℕ → List ℕ → List (List Queued) → List (List Queued)
after_send a s e t x ds = choose (is_done a) (sent_to s e t x ds) ds

module _ (s : Sending) (mem : List ℕ) (ds : List (List Queued)) (h : Holds s mem ds) (e t : ℕ) (x : List ℕ) where
  -- wholly or not at all
  by_answer : (a : SendAnswer) → (is_done a ≡ true → Holds (laid_state s e (length x)) (laid_memory s e t x mem) (sent_to s e t x ds))
      → Holds (choose (is_done a) (laid_state s e (length x)) s) (choose (is_done a) (laid_memory s e t x mem) mem) (after_send a s e t x ds)
  by_answer a g =
      test_cases (is_done a)
      (λ d. rw (if_true (laid_state s e (length x)) s d, if_true (laid_memory s e t x mem) mem d, if_true (sent_to s e t x ds) ds d) (g d))
      (λ d. rw (if_false (laid_state s e (length x)) s d, if_false (laid_memory s e t x mem) mem d, if_false (sent_to s e t x ds) ds d) h)

  pub send_holds : Holds (send_state (send_answer s (length mem) e t (length x)) s e (length x)).state
      (send_memory (send_answer s (length mem) e t (length x)) s e t x mem) (after_send (send_answer s (length mem) e t (length x)) s e t x ds)
  unfolding send_state send_memory
  send_holds =
      by_answer (send_answer s (length mem) e t (length x)) (λ d. laid-holds s mem ds h e t x (sent s (length mem) e t (length x) d))

  pub save_holds : (f : Flight) (room : ℕ) → Holds (save_state s f (length mem) room e t (length x)).state
      (save_queue s f room e t x mem) (after_send (save_answer s f (length mem) room e t (length x)) s e t x ds)
  unfolding save_state save_queue
  save_holds f room =
      by_answer (save_answer s f (length mem) room e t (length x))
      (λ d. laid-holds s mem ds h e t x (saved s f (length mem) room e t (length x) d))

-- a refused saved send leaves the queue's memory (state and flight: messages, `refused-saved`)
pub save_refused : (s : Sending) (f : Flight) (room e t : ℕ) (x mem : List ℕ) → is_done (save_answer s f (length mem) room e t (length x)) ≡ false → save_queue s f room e t x mem ≡ mem
unfolding save_queue
save_refused s f room e t x mem d = if_false _ _ d

-- the records are those that were there, and this one behind them
pub sent-last : (s : Sending) (e t : ℕ) (x : List ℕ) (ds : List (List Queued)) → flat (sent_to s e t x ds) ≡ flat ds ++ record_of s e t x ∷ []
sent-last s e t x ds = flat-grown (joins s.queue.mtu (tail_of s.queue) (record_len e (length x))) ds (record_of s e t x)
