-- One record more in the queue, the keys and the flight, against the account; the tests on it; and what a call done wholly or not at all shows.
-- Assumes nothing.
use Rattle.std.specs.Prelude.{ℕ, suc, ◌+◌, ◌-◌, ◌*◌, ◌<◌, ◌≤◌, eqb, leb, ltb, length, get_or, Bool, true, false, not, List, [], ◌∷◌, ◌++◌, ◌≡◌, refl, Ok, Err}
use Rattle.std.proofs.Common.{eqb-true, ltb-true, leb-true, leb-false, le-leb, lt-ltb, le-ltb, get_or-set_same, get_or-set_other, sym, ap, ◌∙◌}
use Rattle.std.proofs.lemmas.Bool.{eqb-false, false≢true}
use Rattle.std.proofs.Math.ListN.{length-append, length-set}
use Rattle.std.proofs.Math.Path.{subst}
use Rattle.std.proofs.Math.Nat.{mul-le-mul_right}
use native.Mathlib.Omega.{arith}
use Rattle.base.specs.Choose.{choose, both, either, if_true, if_false, by_test, test_cases, both_left, both_true}
use Rattle.base.specs.Parts.{splice, length-splice, splice-here, splice-before}
use Rattle.record.specs.Record.{is_type}
use Rattle.queue.specs.declared.Place.{Place}
use Rattle.queue.specs.declared.Queue.{Queue}
use Rattle.queue.specs.declared.Tail.{Tail}
use Rattle.queue.specs.Laid.{record_len}
use Rattle.queue.specs.Queue.{is_ready, slot_of, last_len, tail_of, joins, place_of, grown, laid}
use Rattle.send_keys.specs.declared.SendKeys.{SendKeys}
use Rattle.send_keys.specs.Keys.{is_usable, is_keyed, next_of, used, used-next}
use Rattle.send_keys.specs.declared.SendError.TheVariants.{QueueFull, NumbersSpent}
use Rattle.outgoing.specs.declared.Sending.{Sending}
use Rattle.outgoing.specs.Send.{spot_of, is_full, is_spent, laid_state, laid_memory}
use Rattle.outgoing.specs.State.{is_allowed, is_content_type}
use Rattle.flight.specs.declared.Entry.{Entry}
use Rattle.flight.specs.declared.Flight.{Flight}
use Rattle.flight.specs.Flight.{entry_of, no_entry, entry_at, is_kept, saved_with, saved_memory, Keeps}
use Rattle.flight.specs.Save.{kept-fits}
use Rattle.acks.specs.declared.Notes.{Notes}
use Rattle.waiting_laws.specs.Answers.{answered}
use Rattle.waiting_laws.specs.Calls.{Stores, SendCall, stored}
use Rattle.waiting_laws.proofs.Growing as growing
use Rattle.waiting_laws.proofs.Growing.{joined}
use Rattle.waiting_laws.proofs.Lists.{length-plain, length-waits, length-sealed}
use Rattle.waiting_laws.specs.Queued.{Queued, plain, waits, sealed, bytes_of, bytes, laid_as, flat, Sound, Lies, Rows}
use Rattle.waiting_laws.proofs.Seals.{ready_always}
use Rattle.waiting_laws.proofs.Sends.{Sent, record_of, sent_to, laid-holds}
use Rattle.history_theorem.specs.Account.{plain_head, sealed_over, upd}
use Rattle.history_theorem.proofs.Lists.{upd_same, upd-by, by_both}
use Rattle.send_keys.specs.Answer.{refusal}
use Rattle.ends_theorem.proofs.Books.{books_by}
use Rattle.ends_theorem.proofs.Laws.{off_parts, Told}
use Rattle.ends_theorem.specs.Ledger as ledger
use Rattle.ends_theorem.specs.Ledger.{Item, Kept, Name, Ledger, with_queue, size_of, total, last_size, is_some, on_last, lays, queue_number, saves, known}
use Rattle.ends_theorem.proofs.Matches.{item_of, items_in, items_of, TailIs, KeysAre, EntryIs, Entries, FlightIs, Listed, Matches, Does}
use Rattle.ends_theorem.proofs.Numbers.{used-epochs, usable_same, next-other}
use Rattle.ends_theorem.specs.Sender.{Books, enters_all}

-- ---- the tests on one record

pub usable-is : {k : SendKeys} {l : Ledger} → KeysAre k l → (e : ℕ) → is_usable k e ≡ ledger.is_usable l e
unfolding is_usable ledger.is_usable
usable-is i e = ap (λ (n : ℕ). either (eqb e 0) (either (eqb e 2) (both (leb 3 e) (eqb e n)))) i.application

two_is : (b : Bool) → eqb (choose b 2 0) 2 ≡ b
unfolding choose
two_is true = refl
two_is false = refl

pub keyed-is : {k : SendKeys} {l : Ledger} → KeysAre k l → (e : ℕ) → is_keyed k e ≡ ledger.has_keys l e
unfolding is_keyed ledger.has_keys
keyed-is {k} {l} i e = ap (λ (b : Bool). choose (eqb e 2) b true) (ap (λ (n : ℕ). eqb n 2) i.two ∙ two_is l.two)

len_is : (e n : ℕ) → record_len e n ≡ size_of e n
unfolding record_len
len_is e n = refl

pub allowed-is : (mtu : ℕ) (l : Ledger) → mtu ≡ l.mtu → (e t n : ℕ) → is_allowed mtu e t n ≡ ledger.is_allowed l e t n
unfolding is_allowed is_content_type is_type ledger.is_allowed ledger.is_type
allowed-is mtu l h e t n = λ i. both (ledger.is_type e t) (both (leb n 16384) (leb (len_is e n i) (h i)))

pub ready-is : (w : Stores) (l : Ledger) → Matches w l → is_ready w.state.queue (length w.queue) ≡ true
ready-is w l i = ready_always w.state w.queue i.ds i.holds

-- the flight's memory is long enough
pub kept-is : (w : Stores) (l : Ledger) → Matches w l → is_kept w.flight w.state.queue.mtu (length w.kept) ≡ ledger.has_room l
unfolding is_kept ledger.has_room
kept-is w l i = both_true (le-leb _ _ i.flight.most) ∙ λ k. leb (12 * i.mtu k) (i.room k)

-- ---- the account's queue

total-more : (d : List Item) (i : Item) → total (d ++ (i ∷ [])) ≡ total d + i.size
total-more [] i = omega arith
total-more (j ∷ d) i = omega (arith, total-more d i)

last-behind : (d : List Item) (q : List (List Item)) → is_some q ≡ true → last_size (d ∷ q) ≡ last_size q
last-behind d [] h = absurd (false≢true h)
last-behind d (e ∷ q) h = refl

some-joined : (q : List (List Item)) (i : Item) → is_some (on_last q i) ≡ true
some-joined [] i = refl
some-joined (d ∷ []) i = refl
some-joined (d ∷ e ∷ q) i = refl

some_more : (q : List (List Item)) (d : List Item) → is_some (q ++ (d ∷ [])) ≡ true
some_more [] d = refl
some_more (e ∷ q) d = refl

last-joined : (q : List (List Item)) (i : Item) → is_some q ≡ true → last_size (on_last q i) ≡ last_size q + i.size
last-joined [] i h = absurd (false≢true h)
last-joined (d ∷ []) i h = total-more d i
last-joined (d ∷ e ∷ q) i h = last-behind d (on_last (e ∷ q) i) (some-joined (e ∷ q) i) ∙ last-joined (e ∷ q) i refl

last_more : (q : List (List Item)) (d : List Item) → last_size (q ++ (d ∷ [])) ≡ total d
last_more [] d = refl
last_more (e ∷ q) d = last-behind e (q ++ (d ∷ [])) (some_more q d) ∙ last_more q d

length-joined : (q : List (List Item)) (i : Item) → is_some q ≡ true → length (on_last q i) ≡ length q
length-joined [] i h = absurd (false≢true h)
length-joined (d ∷ []) i h = refl
length-joined (d ∷ e ∷ q) i h = ap suc (length-joined (e ∷ q) i refl)

some_is : (q : List (List Item)) → ltb 0 (length q) ≡ is_some q
some_is [] = refl
some_is (d ∷ q) = lt-ltb 0 (length (d ∷ q)) (omega arith)

-- ---- the records of the queue

-- one behind the other
items-append : (rs us : List Queued) → items_in (rs ++ us) ≡ items_in rs ++ items_in us
items-append [] us = refl
items-append (r ∷ rs) us = ap (λ (is : List Item). item_of r ∷ is) (items-append rs us)

pub items-flat : (ds : List (List Queued)) → ledger.items (items_of ds) ≡ items_in (flat ds)
items-flat [] = refl
items-flat (d ∷ ds) = ap (λ (is : List Item). items_in d ++ is) (items-flat ds) ∙ sym (items-append d (flat ds))

-- a length is that of the bytes
size_is : (r : Queued) → Sound r → (item_of r).size ≡ length (bytes_of r)
size_is (plain t n x) s = sym (length-plain t n x)
size_is (waits e t n x p) s = sym (length-waits e t n x p s.part)
size_is (sealed e t n x m p) s = sym (length-sealed e t n x m p s.part)

pub total-is : (mem : List ℕ) (base at : ℕ) (d : List Queued) → Lies mem base at d → total (items_in d) ≡ length (bytes d)
total-is mem base at [] h = refl
total-is mem base at (r ∷ d) h =
    let a = size_is r h.0.sound in
    let b = total-is mem base (at + length (bytes_of r)) d h.1 in
    omega (arith, length-append (bytes_of r) (bytes d))

length-items : (ds : List (List Queued)) → length (items_of ds) ≡ length ds
length-items [] = refl
length-items (d ∷ ds) = ap suc (length-items ds)

-- ---- the queue's end

last-is : (q : Queue) (mem : List ℕ) (i : ℕ) (ds : List (List Queued)) → 0 < length ds → Rows q mem i ds
    → get_or q.lengths (slot_of q.first q.limit (i + length ds - 1)) 0 ≡ last_size (items_of ds)
last-is q mem i [] some h = absurd (omega arith)
last-is q mem i (d ∷ []) some h =
    ap (λ (k : ℕ). get_or q.lengths (slot_of q.first q.limit k) 0) at-end
    ∙ h.0.size ∙ sym (total-is mem (slot_of q.first q.limit i * q.mtu) 0 d h.0.lies)
  where
    at-end : i + length (d ∷ []) - 1 ≡ i
    at-end = omega arith
last-is q mem i (d ∷ e ∷ ds) some h =
    ap (λ (k : ℕ). get_or q.lengths (slot_of q.first q.limit k) 0) next
    ∙ last-is q mem (i + 1) (e ∷ ds) (omega arith) h.1
  where
    next : i + length (d ∷ e ∷ ds) - 1 ≡ i + 1 + length (e ∷ ds) - 1
    next = omega arith

-- its lengths are the account's
pub tail-is : (w : Stores) (l : Ledger) → Matches w l → TailIs (tail_of w.state.queue) l
unfolding tail_of last_len
tail-is w l i =
    let q : Queue = w.state.queue in
    let counted : length i.ds ≡ q.count = i.holds.count in
    let count : q.count ≡ length l.queue = sym counted ∙ sym (length-items i.ds) ∙ ap length i.queue in
    record {
      used = by_test (λ (n : ℕ). n ≡ last_size l.queue)
          (λ z. sym (none l.queue (sym count ∙ eqb-true q.count 0 z)))
          (λ z.
          let some = eqb-false q.count 0 z in
          ap (λ (k : ℕ). get_or q.lengths (slot_of q.first q.limit (k - 1)) 0) (sym counted ∙ front i.ds)
          ∙ last-is q w.queue 0 i.ds (omega (arith, some)) i.holds.rows ∙ ap last_size i.queue);
      joinable = λ k. choose (i.closed k) false ((ap (ltb 0) count ∙ some_is l.queue) k);
      count = count;
    }
  where
    none : (q : List (List Item)) → length q ≡ 0 → last_size q ≡ 0
    none [] h = refl
    none (d ∷ q) h = absurd (omega arith)

    front : (ds : List (List Queued)) → length ds ≡ 0 + length ds
    front ds = omega arith

-- a queue just written to is open
open_is : (q : List (List Item)) → is_some q ≡ true → true ≡ choose false false (is_some q)
open_is q h = sym (if_false _ _ refl ∙ h)

-- whether a record joins is the account's question
joins-is : (mtu : ℕ) (t : Tail) (l : Ledger) → mtu ≡ l.mtu → TailIs t l → (e n : ℕ) → joins mtu t (record_len e n) ≡ ledger.joins l (size_of e n)
unfolding ledger.joins
joins-is mtu t l h i e n = λ k. both (i.joinable k) (leb (i.used k + len_is e n k) (h k))

-- a record more, whether it fits or not
pub tail-lays : (t : Tail) (l : Ledger) → TailIs t l → (e n : ℕ) → TailIs (grown (place_of l.mtu t (record_len e n)) (record_len e n)) (lays l e n)
unfolding place_of grown lays
tail-lays t l i e n =
    let item : Item = record { epoch = e; num = l.next e; size = size_of e n; waits = not (eqb e 0) } in
    let len = len_is e n in
    by_both (λ (p : Place) (q : List (List Item)). TailIs (grown p (record_len e n)) (with_queue l (upd l.next e (l.next e + 1)) q false))
    (sym (joins-is l.mtu t l refl i e n))
    (λ j.
    let some : is_some l.queue ≡ true = (off_parts l.closed (is_some l.queue) (sym i.joinable ∙ both_left t.joinable _ j)).1 in
    record {
      used = sym (last-joined l.queue item some ∙ omega (arith, i.used));
      joinable = open_is (on_last l.queue item) (some-joined l.queue item);
      count = sym (length-joined l.queue item some ∙ omega (arith, i.count, ltb-true 0 (length l.queue) (some_is l.queue ∙ some)));
    })
    (λ j. record {
      used = sym (last_more l.queue (item ∷ []) ∙ omega arith);
      joinable = open_is (l.queue ++ ((item ∷ []) ∷ [])) (some_more l.queue (item ∷ []));
      count = sym (length-append l.queue ((item ∷ []) ∷ []) ∙ omega (arith, i.count));
    })

-- at or above a limit is above it with one more
pub over-is : (a b : ℕ) → leb a b ≡ ltb a (b + 1)
over-is a b =
    test_cases (leb a b) (λ h. h ∙ sym (lt-ltb a (b + 1) (omega (arith, leb-true a b h))))
    (λ h. h ∙ sym (le-ltb a (b + 1) (omega (arith, leb-false a b h))))

-- 19, 20 of one record
pub queue-number : (w : Stores) (l : Ledger) → Matches w l → (e n : ℕ) → is_usable w.state.keys e ≡ true
    → refusal (choose (is_full w.state e n) (Err QueueFull) (choose (is_spent w.state e) (Err NumbersSpent) (Ok tt))) ≡ queue_number (lays l e n) e
unfolding queue_number lays grown
queue-number w l i e n u =
    let s : Sending = w.state in
    let count = (tail-lays (tail_of s.queue) l (tail-is w l i) e n).count in
    let place : (spot_of s e n).datagram + 1 ≡ length (lays l e n).queue =
    ap (λ (m : ℕ). (place_of m (tail_of s.queue) (record_len e n)).datagram + 1) i.mtu ∙ count in
    let full : is_full s e n ≡ ltb l.limit (length (lays l e n).queue) = over-is s.queue.limit (spot_of s e n).datagram ∙ (λ k. ltb (i.limit k) (place k)) in
    let spent : is_spent s e ≡ ltb 281474976710655 (upd l.next e (l.next e + 1) e) =
    over-is 281474976710655 (next_of s.keys e) ∙ ap (ltb 281474976710655) (ap (λ (m : ℕ). m + 1) (i.keys.next e u) ∙ sym (upd_same l.next e (l.next e + 1))) in
    by_both Told (sym full) (λ f. refl) (λ f. by_both Told (sym spent) (λ z. refl) (λ z. refl))

-- ---- one record laid

abbrev pub laid_stores : Stores → ℕ → ℕ → List ℕ → Stores
laid_stores w e t x = record {
  state = laid_state w.state e (length x);
  queue = laid_memory w.state e t x w.queue;
  flight = w.flight;
  kept = w.kept;
  notes = w.notes;
}

-- the record laid is the account's
item_is : (e t n : ℕ) (x : List ℕ) → item_of (laid_as e t n x) ≡ record { epoch = e; num = n; size = size_of e (length x); waits = not (eqb e 0) }
item_is e t n x =
    test_cases (eqb e 0)
    (λ z.
    ap item_of (if_true _ _ z)
    ∙ λ i. record { epoch = sym (eqb-true e 0 z) i; num = n; size = sym (if_true (length x + plain_head) (length x + sealed_over) z) i; waits = not (sym z i) })
    (λ z. ap item_of (if_false _ _ z) ∙ λ i. record { epoch = e; num = n; size = sym (if_false (length x + plain_head) (length x + sealed_over) z) i; waits = not (sym z i) })

items-joined : (ds : List (List Queued)) (r : Queued) → items_of (joined ds r) ≡ on_last (items_of ds) (item_of r)
items-joined [] r = refl
items-joined (d ∷ []) r = ap (λ (l : List Item). l ∷ []) (items-append d (r ∷ []))
items-joined (d ∷ e ∷ ds) r = ap (λ (l : List (List Item)). items_in d ∷ l) (items-joined (e ∷ ds) r)

items_more : (ds : List (List Queued)) (d : List Queued) → items_of (ds ++ (d ∷ [])) ≡ items_of ds ++ (items_in d ∷ [])
items_more [] d = refl
items_more (e ∷ ds) d = ap (λ (l : List (List Item)). items_in e ∷ l) (items_more ds d)

items-grown : (j : Bool) (ds : List (List Queued)) (r : Queued)
    → items_of (growing.grown j ds r) ≡ choose j (on_last (items_of ds) (item_of r)) (items_of ds ++ ((item_of r ∷ []) ∷ []))
unfolding choose
items-grown true ds r = items-joined ds r
items-grown false ds r = items_more ds (r ∷ [])

-- a number is used
keys_lay : (k : SendKeys) (l : Ledger) → KeysAre k l → (e n : ℕ) → is_usable k e ≡ true → next_of k e < 281474976710655 → KeysAre (used k e) (lays l e n)
unfolding lays
keys_lay k l i e n u few =
    let before : (x : ℕ) → is_usable (used k e) x ≡ true → is_usable k x ≡ true = λ x v. sym (usable_same k (used k e) x (used-epochs k e).1) ∙ v in
    record {
      two = (used-epochs k e).0 ∙ i.two;
      application = (used-epochs k e).1 ∙ i.application;
      next = λ x v.
          upd-by l.next e (l.next e + 1) (λ (x m : ℕ). is_usable k x ≡ true → next_of (used k e) x ≡ m) x
          (λ q y. ap (next_of (used k e)) q ∙ used-next k e ∙ ap (λ (m : ℕ). m + 1) (i.next e u))
          (λ q y. next-other k e x u y q ∙ i.next x y) (before x v);
      most = λ x v.
          test_cases (eqb x e)
          (λ z. subst (λ (m : ℕ). m ≤ 281474976710655) (sym (ap (next_of (used k e)) (eqb-true x e z) ∙ used-next k e)) (omega arith))
          (λ z. subst (λ (m : ℕ). m ≤ 281474976710655) (sym (next-other k e x u (before x v) (eqb-false x e z))) (i.most x (before x v)));
    }

pub laid-matches : (w : Stores) (l : Ledger) → Matches w l → (e t : ℕ) (x : List ℕ) → Sent w.state (length w.queue) e t (length x)
    → Matches (laid_stores w e t x) (lays l e (length x))
unfolding laid_state laid lays
laid-matches w l i e t x c =
    let s : Sending = w.state in
    let item = item_is e t (next_of s.keys e) x ∙ (λ k. record { epoch = e; num = i.keys.next e c.usable k; size = size_of e (length x); waits = not (eqb e 0) }) in
    let j = joins-is s.queue.mtu (tail_of s.queue) l i.mtu (tail-is w l i) e (length x) in
    record {
      ds = sent_to s e t x i.ds;
      holds = laid-holds s w.queue i.ds i.holds e t x c;
      queue = items-grown (joins s.queue.mtu (tail_of s.queue) (record_len e (length x))) i.ds (record_of s e t x)
          ∙ (λ k. choose (j k) (on_last (i.queue k) (item k)) (i.queue k ++ ((item k ∷ []) ∷ [])));
      closed = refl;
      mtu = i.mtu;
      limit = i.limit;
      room = i.room;
      keys = keys_lay s.keys l i.keys e (length x) c.usable c.clear.number;
      messages = i.messages;
      flight = i.flight;
      noted = i.noted;
    }

-- ---- and saved

-- other flight and notes, and the rest as it was
pub beside : (w : Stores) (l : Ledger) → Matches w l → (f : Flight) (kept : List ℕ) (s : Notes) (ks : List Kept) (ns : List Name) → length kept ≡ length w.kept
    → FlightIs l.mtu f kept ks → Listed s ns
    → Matches (record { state = w.state; queue = w.queue; flight = f; kept = kept; notes = s }) (ledger.with_noted (ledger.with_saved l ks) ns)
beside w l i f kept s ks ns long flight noted = record {
  ds = i.ds;
  holds = i.holds;
  queue = i.queue;
  closed = i.closed;
  mtu = i.mtu;
  limit = i.limit;
  room = long ∙ i.room;
  keys = record { two = i.keys.two; application = i.keys.application; next = i.keys.next; most = i.keys.most };
  messages = i.messages;
  flight = flight;
  noted = noted;
}

abbrev pub saved_stores : Stores → ℕ → ℕ → List ℕ → Stores
saved_stores w e t x = record {
  state = laid_state w.state e (length x);
  queue = laid_memory w.state e t x w.queue;
  flight = saved_with w.flight t e (next_of w.state.keys e) (length x);
  kept = saved_memory w.flight w.state.queue.mtu x w.kept;
  notes = w.notes;
}

-- a record just saved
abbrev new_kept : ℕ → ℕ → ℕ → List ℕ → Kept
new_kept e t n x = record { epoch = e; type = t; content = x; sendings = n ∷ []; acked = false }

known-new : (e t n : ℕ) (x : List ℕ) → known (new_kept e t n x) ≡ n ∷ []
unfolding known
known-new e t n x = by_test (λ (l : List ℕ). l ≡ n ∷ []) (λ z. refl) (λ z. refl)

module _ (mtu : ℕ) (f : Flight) (kept : List ℕ) (ks : List Kept) (i : FlightIs mtu f kept ks) (e t n : ℕ) (x : List ℕ) (fits : Keeps f mtu (length kept) (length x)) where
  new-entry : EntryIs mtu (saved_with f t e n (length x)).numbers (saved_memory f mtu x kept) f.saved (entry_at (saved_with f t e n (length x)) f.saved) (new_kept e t n x)
  unfolding saved_with saved_memory entry_of
  new-entry =
      subst (λ (r : Entry). EntryIs mtu f.numbers (splice (f.saved * mtu) x kept) f.saved r (new_kept e t n x))
      (sym (get_or-set_same f.entries f.saved (entry_of t e n (length x)) no_entry (omega (arith, i.long, fits.saved)))) (record {
        epoch = refl;
        type = refl;
        long = refl;
        short = fits.short;
        content = splice-here (f.saved * mtu) x kept (kept-fits fits).0;
        marked = refl;
        numbers = known-new e t n x;
        few = omega arith;
      })

  -- the others' contents lie in front of the new one
  old-entry : (j : ℕ) → j < f.saved → (k : Kept) → EntryIs mtu f.numbers kept j (entry_at f j) k
      → EntryIs mtu (saved_with f t e n (length x)).numbers (saved_memory f mtu x kept) j (entry_at (saved_with f t e n (length x)) j) k
  unfolding saved_with saved_memory
  old-entry j h k y =
      let below : (j + 1) * mtu ≤ f.saved * mtu = mul-le-mul_right mtu (omega arith) in
      let width : (j + 1) * mtu ≡ j * mtu + mtu = omega arith in
      subst (λ (r : Entry). EntryIs mtu f.numbers (splice (f.saved * mtu) x kept) j r k)
      (sym (get_or-set_other f.entries f.saved j (entry_of t e n (length x)) no_entry (λ z. omega arith))) (record {
        epoch = y.epoch;
        type = y.type;
        long = y.long;
        short = y.short;
        content = splice-before (f.saved * mtu) x kept (kept-fits fits).0 (j * mtu) (entry_at f j).length (omega (arith, y.short)) ∙ y.content;
        marked = y.marked;
        numbers = y.numbers;
        few = y.few;
      })

  saved-entries : (j : ℕ) (hs : List Kept) → j + length hs ≡ f.saved → Entries mtu f kept j hs
      → Entries mtu (saved_with f t e n (length x)) (saved_memory f mtu x kept) j (hs ++ (new_kept e t n x ∷ []))
  saved-entries j [] h y = (rw at-end new-entry, tt)
    where
      at-end : j ≡ f.saved
      at-end = omega arith
  saved-entries j (k ∷ hs) h y = (old-entry j (omega arith) k y.0, saved-entries (suc j) hs (omega arith) y.1)

  saved-flight : FlightIs mtu (saved_with f t e n (length x)) (saved_memory f mtu x kept) (ks ++ (new_kept e t n x ∷ []))
  unfolding saved_with
  saved-flight = record {
    each = saved-entries 0 ks (omega (arith, i.count)) i.each;
    count = length-append ks (new_kept e t n x ∷ []) ∙ omega (arith, i.count);
    most = omega (arith, fits.saved);
    long = length-set f.entries f.saved (entry_of t e n (length x)) ∙ i.long;
    table = i.table;
  }

pub saved-matches : (w : Stores) (l : Ledger) → Matches w l → (e t : ℕ) (x : List ℕ) → Sent w.state (length w.queue) e t (length x)
    → Keeps w.flight w.state.queue.mtu (length w.kept) (length x) → Matches (saved_stores w e t x) (saves l e t x)
unfolding saves lays saved_memory
saved-matches w l i e t x c k =
    let f : Flight = w.flight in
    let n : ℕ = next_of w.state.keys e in
    beside (laid_stores w e t x) (lays l e (length x)) (laid-matches w l i e t x c) (saved_with f t e n (length x)) (saved_memory f w.state.queue.mtu x w.kept) w.notes
    (l.saved ++ (new_kept e t (l.next e) x ∷ [])) l.noted (length-splice (f.saved * w.state.queue.mtu) x w.kept (kept-fits k).0)
    (subst (λ (v : ℕ). FlightIs l.mtu (saved_with f t e n (length x)) (saved_memory f w.state.queue.mtu x w.kept) (l.saved ++ (new_kept e t v x ∷ [])))
    (i.keys.next e c.usable)
    (subst (λ (v : ℕ). FlightIs l.mtu (saved_with f t e n (length x)) (saved_memory f v x w.kept) (l.saved ++ (new_kept e t n x ∷ []))) (sym i.mtu)
    (saved-flight l.mtu f w.kept l.saved i.flight e t n x (subst (λ (v : ℕ). Keeps f v (length w.kept) (length x)) i.mtu k)))) i.noted

-- ---- a call, wholly or not at all

-- where it is done and where it is refused, by the account's number
pub wholly : (w : Stores) (l : Ledger) → Matches w l → (c : SendCall) (d : Bool) → answered w c ≡ ledger.owed l c → eqb (ledger.owed l c).number 0 ≡ d
    → (d ≡ true → Matches (stored w c) (ledger.leaves l c)) → (d ≡ false → stored w c ≡ w)
    → (d ≡ true → (b : Books) → books_by w c b ≡ enters_all (ledger.gives l c) b) → (d ≡ false → (b : Books) → books_by w c b ≡ b) → Does w l c
unfolding ledger.after ledger.sent_by
wholly w l i c d reply h left stays sent none = record {
  reply = reply;
  leaves = by_test (Matches (stored w c)) (λ z. left (sym h ∙ z)) (λ z. subst (λ (v : Stores). Matches v l) (sym (stays (sym h ∙ z))) i);
  books = λ b. by_test (λ (rs : List ledger.Sent). books_by w c b ≡ enters_all rs b) (λ z. sent (sym h ∙ z) b) (λ z. none (sym h ∙ z) b);
}
