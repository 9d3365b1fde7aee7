-- A flight is sent again wholly or not at all (01, "Flights acknowledged or sent again"): every record that is not marked, no marked one.
-- Assumes nothing.
use Rattle.std.specs.Prelude.{true, List, ◌≡◌, ℕ, zero, suc, ◌+◌, ◌*◌, ◌≤◌, ◌<◌, ltb, eqb, length}
use Rattle.std.proofs.Math.Bool.{false}
use Rattle.std.proofs.lemmas.Bool.{false≢true}
use Rattle.std.proofs.Math.Path.{refl, ap}
use Rattle.std.proofs.Common.{sym, subst, ◌∙◌, arith}
use Rattle.std.proofs.Math.ListN.{get_or}
use Rattle.std.proofs.Math.Seq.{get_or-set_same, get_or-set_other}
use borrow.Author.Tests.{ltb-true, eqb-true, eqb-false}
use Rattle.base.specs.Choose.{choose, by_test, test_cases, if_true, if_false, both_true, both_false}
use Rattle.queue.specs.Queue.{tail_of, laid}
use Rattle.send_keys.specs.Keys.{next_of}
use Rattle.outgoing.specs.declared.Sending.{Sending}
use Rattle.outgoing.specs.Send.{laid_state, laid_memory}
use Rattle.flight.specs.declared.Entry.{Entry}
use Rattle.flight.specs.declared.Flight.{Flight}
use Rattle.flight.specs.Flight.{entry_at, no_entry}
use Rattle.flight.specs.declared.Saved.{Saved}
use Rattle.resend.specs.Tests.{remembers, has_room, count_after, closed_state, count_next}
use Rattle.resend.specs.Resend.{with_number, can_remember, renewed, Laying, again_after, resend_state, resend_queue}
use Rattle.resend.proofs.Resend.{again-next}
use Rattle.send_keys.specs.Answer.{is_done}
use Rattle.resend_laws.specs.Plan.{Able, able, count-grows, one-own}
use Rattle.resend_laws.specs.Steps.{Tables, Reached, beginning, reached, kept_content, number_again}
use Rattle.resend_laws.proofs.Steps.{again_skips, content-kept, again-done, again_behind, kept-long, under_top, renewed-other, reaches}
use Rattle.resend_laws.specs.Whole.{answer_to, left_state, left_queue, entry_again, Whole, Untouched}

-- ---- one entry renewed

-- 22 excluded: what is to be remembered can be
pub can-remember : (e : Entry) → has_room e ≡ true → can_remember e ≡ remembers e
unfolding can_remember has_room
can-remember e h =
    test_cases (remembers e) (λ r. both_true r ∙ sym (if_true (ltb e.remembered 32) true r) ∙ h ∙ sym r) (λ r. both_false (ltb e.remembered 32) r ∙ sym r)

pub room-few : (e : Entry) → has_room e ≡ true → remembers e ≡ true → e.remembered < 32
unfolding has_room
room-few e h r = ltb-true e.remembered 32 (sym (if_true (ltb e.remembered 32) true r) ∙ h)

module _ (f : Flight) (i number : ℕ) (within : i < length f.entries) where
  pub renewed-own : entry_at (renewed f i number) i ≡ with_number (entry_at f i) number (choose (can_remember (entry_at f i)) ((entry_at f i).remembered + 1) (entry_at f i).remembered)
  unfolding renewed
  renewed-own =
      test_cases (can_remember (entry_at f i))
      (λ c. ap (λ (g : Flight). entry_at g i) (if_true _ _ c) ∙ get_or-set_same f.entries i _ no_entry within
      ∙ ap (λ (k : ℕ). with_number (entry_at f i) number k) (sym (if_true _ _ c)))
      (λ c. ap (λ (g : Flight). entry_at g i) (if_false _ _ c) ∙ get_or-set_same f.entries i _ no_entry within
      ∙ ap (λ (k : ℕ). with_number (entry_at f i) number k) (sym (if_false _ _ c)))

module _ (f : Flight) (i number : ℕ) where
  pub renewed-cell : can_remember (entry_at f i) ≡ true → i * 32 + (entry_at f i).remembered < length f.numbers
      → get_or (renewed f i number).numbers (i * 32 + (entry_at f i).remembered) 0 ≡ (entry_at f i).number
  unfolding renewed
  renewed-cell c h = ap (λ (g : Flight). get_or g.numbers (i * 32 + (entry_at f i).remembered) 0) (if_true _ _ c) ∙ get_or-set_same f.numbers (i * 32 + (entry_at f i).remembered) _ 0 h

  pub renewed-cells : (j : ℕ) → (can_remember (entry_at f i) ≡ true → j ≡ i * 32 + (entry_at f i).remembered → ⊥) → get_or (renewed f i number).numbers j 0 ≡ get_or f.numbers j 0
  unfolding renewed
  renewed-cells j ne = by_test (λ (g : Flight). get_or g.numbers j 0 ≡ get_or f.numbers j 0) (λ c. get_or-set_other f.numbers (i * 32 + (entry_at f i).remembered) j _ 0 (ne c)) (λ c. refl)

-- ---- one record after the other

again-none : (kept : List ℕ) (l : Laying) → again_after kept l 0 ≡ l
unfolding again_after
again-none kept l = refl

module _ (s : Sending) (f : Flight) (kept q : List ℕ) (a : Able s f kept q) (t : Tables s f) where
  -- behind one that is sent
  behind-sent : (n : ℕ) → n < f.saved → (entry_at f n).marked ≡ false → reached s f kept q (n + 1) ≡ record {
    state = laid_state (reached s f kept q n).state (entry_at f n).epoch (entry_at f n).length;
    flight = renewed (reached s f kept q n).flight n (number_again s f n);
    queue = laid_memory (reached s f kept q n).state (entry_at f n).epoch (entry_at f n).content_type (kept_content s.queue.mtu f kept n) (reached s f kept q n).queue;
  }
  behind-sent n h m = again-next kept (beginning s f q) n ∙ again_behind s f kept q a n h m (reached s f kept q n) (reaches s f kept q a t n (omega arith))

  behind-marked : (n : ℕ) → n < f.saved → (entry_at f n).marked ≡ true → reached s f kept q (n + 1) ≡ reached s f kept q n
  behind-marked n h m =
      again-next kept (beginning s f q) n
      ∙ again_skips kept n (reached s f kept q n) (ap (λ (e : Entry). e.marked) ((reaches s f kept q a t n (omega arith)).later n (omega arith)) ∙ m)

  still : (n : ℕ) → n < f.saved → entry_at (reached s f kept q n).flight n ≡ entry_at f n
  still n h = (reaches s f kept q a t n (omega arith)).later n (omega arith)

  -- what a property of the flight needs to hold behind each record
  by-records : (P : ℕ → Laying → Type 0) → P 0 (beginning s f q)
      → ((n : ℕ) → n < f.saved → (entry_at f n).marked ≡ true → P n (reached s f kept q n) → P (n + 1) (reached s f kept q n))
      → ((n : ℕ) → n < f.saved → (entry_at f n).marked ≡ false → P n (reached s f kept q n) → P (n + 1) (record {
        state = laid_state (reached s f kept q n).state (entry_at f n).epoch (entry_at f n).length;
        flight = renewed (reached s f kept q n).flight n (number_again s f n);
        queue = laid_memory (reached s f kept q n).state (entry_at f n).epoch (entry_at f n).content_type (kept_content s.queue.mtu f kept n) (reached s f kept q n).queue;
      }))
      → (n : ℕ) → n ≤ f.saved → P n (reached s f kept q n)
  by-records P begin skip lay zero h = subst (P 0) (sym (again-none kept (beginning s f q))) begin
  by-records P begin skip lay (suc n) h =
      let before = by-records P begin skip lay n (omega arith) in
      let one : n + 1 ≡ suc n = omega arith in
      subst (λ (k : ℕ). P k (reached s f kept q k)) one
      (test_cases (entry_at f n).marked (λ m. subst (P (n + 1)) (sym (behind-marked n (omega arith) m)) (skip n (omega arith) m before))
      (λ m. subst (P (n + 1)) (sym (behind-sent n (omega arith) m)) (lay n (omega arith) m before)))

  -- ---- the flight

  abbrev entry_then : ℕ → Entry
  entry_then i = choose (entry_at f i).marked (entry_at f i) (entry_again s f i)

  within : (n : ℕ) → n < f.saved → n < length (reached s f kept q n).flight.entries
  within n h = omega (arith, (reaches s f kept q a t n (omega arith)).tables.entries, a.few)

  can : (n : ℕ) → n < f.saved → (entry_at f n).marked ≡ false → can_remember (entry_at (reached s f kept q n).flight n) ≡ remembers (entry_at f n)
  can n h m = ap can_remember (still n h) ∙ can-remember (entry_at f n) (a.room n h m)

  own-entry : (n : ℕ) → n < f.saved → (entry_at f n).marked ≡ false → entry_at (renewed (reached s f kept q n).flight n (number_again s f n)) n ≡ entry_again s f n
  own-entry n h m =
      renewed-own (reached s f kept q n).flight n (number_again s f n) (within n h)
      ∙ (λ i. with_number (still n h i) (number_again s f n) (choose (can n h m i) ((still n h i).remembered + 1) (still n h i).remembered))

  each-entry : (n : ℕ) → n ≤ f.saved → (i : ℕ) → i < n → entry_at (reached s f kept q n).flight i ≡ entry_then i
  each-entry =
      by-records (λ (n : ℕ) (l : Laying). (i : ℕ) → i < n → entry_at l.flight i ≡ entry_then i)
      (λ i h. absurd (omega arith))
      (λ n h m before i l. test_cases (eqb i n)
      (λ e. subst (λ (j : ℕ). entry_at (reached s f kept q n).flight j ≡ entry_then j) (sym (eqb-true i n e)) (still n h ∙ sym (if_true _ _ m)))
      (λ e. let z = eqb-false i n e in before i (omega arith)))
      (λ n h m before i l. test_cases (eqb i n)
      (λ e. subst (λ (j : ℕ). entry_at (renewed (reached s f kept q n).flight n (number_again s f n)) j ≡ entry_then j) (sym (eqb-true i n e)) (own-entry n h m ∙ sym (if_false _ _ m)))
      (λ e. let z = eqb-false i n e in renewed-other (reached s f kept q n).flight n (number_again s f n) i (λ y. z (sym y)) ∙ before i (omega arith)))

  -- the cell for the old number of the i-th record
  abbrev cell_of : ℕ → ℕ
  cell_of i = i * 32 + (entry_at f i).remembered

  own-cell : (n : ℕ) → n < f.saved → (entry_at f n).marked ≡ false → remembers (entry_at f n) ≡ true
      → get_or (renewed (reached s f kept q n).flight n (number_again s f n)).numbers (cell_of n) 0 ≡ (entry_at f n).number
  own-cell n h m r =
      let g : Flight = (reached s f kept q n).flight in
      let few : (entry_at f n).remembered < 32 = room-few (entry_at f n) (a.room n h m) r in
      let same : (entry_at g n).remembered ≡ (entry_at f n).remembered = ap (λ (e : Entry). e.remembered) (still n h) in
      ap (λ (k : ℕ). get_or (renewed g n (number_again s f n)).numbers (n * 32 + k) 0) (sym same)
      ∙ renewed-cell g n (number_again s f n) (can n h m ∙ r) (omega (arith, few, same, (reaches s f kept q a t n (omega arith)).tables.numbers, a.few))
      ∙ ap (λ (e : Entry). e.number) (still n h)

  -- another cell is not written
  off_cell : (n : ℕ) → n < f.saved → (entry_at f n).marked ≡ false → (j : ℕ) → (remembers (entry_at f n) ≡ true → j ≡ cell_of n → ⊥)
      → get_or (renewed (reached s f kept q n).flight n (number_again s f n)).numbers j 0 ≡ get_or (reached s f kept q n).flight.numbers j 0
  off_cell n h m j ne =
      let same : (entry_at (reached s f kept q n).flight n).remembered ≡ (entry_at f n).remembered = ap (λ (e : Entry). e.remembered) (still n h) in
      renewed-cells (reached s f kept q n).flight n (number_again s f n) j (λ c e. ne (sym (can n h m) ∙ c) (omega (arith, e, same)))

  each-cell : (n : ℕ) → n ≤ f.saved → (i : ℕ) → i < n → (entry_at f i).marked ≡ false → remembers (entry_at f i) ≡ true
      → get_or (reached s f kept q n).flight.numbers (cell_of i) 0 ≡ (entry_at f i).number
  each-cell =
      by-records (λ (n : ℕ) (l : Laying). (i : ℕ) → i < n → (entry_at f i).marked ≡ false → remembers (entry_at f i) ≡ true → get_or l.flight.numbers (cell_of i) 0 ≡ (entry_at f i).number)
      (λ i h. absurd (omega arith))
      (λ n h m before i l u r. test_cases (eqb i n)
      (λ e. absurd (false≢true (sym u ∙ ap (λ (j : ℕ). (entry_at f j).marked) (eqb-true i n e) ∙ m)))
      (λ e. let z = eqb-false i n e in before i (omega arith) u r))
      (λ n h m before i l u r. test_cases (eqb i n)
      (λ e. subst (λ (j : ℕ). get_or (renewed (reached s f kept q n).flight n (number_again s f n)).numbers (cell_of j) 0 ≡ (entry_at f j).number) (sym (eqb-true i n e))
      (own-cell n h m (subst (λ (j : ℕ). remembers (entry_at f j) ≡ true) (eqb-true i n e) r)))
      (λ e. let z = eqb-false i n e in
      let few : (entry_at f i).remembered < 32 = room-few (entry_at f i) (a.room i (omega arith) u) r in
      off_cell n h m (cell_of i) (λ y w. omega (arith, few, w)) ∙ before i (omega arith) u r))

  other-cells : (n : ℕ) → n ≤ f.saved → (i k : ℕ) → k < 32
      → (i < n → (entry_at f i).marked ≡ false → remembers (entry_at f i) ≡ true → k ≡ (entry_at f i).remembered → ⊥)
      → get_or (reached s f kept q n).flight.numbers (i * 32 + k) 0 ≡ get_or f.numbers (i * 32 + k) 0
  other-cells =
      by-records (λ (n : ℕ) (l : Laying). (i k : ℕ) → k < 32 → (i < n → (entry_at f i).marked ≡ false → remembers (entry_at f i) ≡ true → k ≡ (entry_at f i).remembered → ⊥)
      → get_or l.flight.numbers (i * 32 + k) 0 ≡ get_or f.numbers (i * 32 + k) 0)
      (λ i k b ne. refl)
      (λ n h m before i k b ne. before i k b (λ l. ne (omega arith)))
      (λ n h m before i k b ne.
      off_cell n h m (i * 32 + k) (λ r w.
      let few : (entry_at f n).remembered < 32 = room-few (entry_at f n) (a.room n h m) r in
      let same : i ≡ n = omega (arith, few, w) in
      ne (omega (arith, same)) (ap (λ (j : ℕ). (entry_at f j).marked) same ∙ m) (ap (λ (j : ℕ). remembers (entry_at f j)) same ∙ r)
      (let y : (entry_at f i).remembered ≡ (entry_at f n).remembered = ap (λ (j : ℕ). (entry_at f j).remembered) same in omega (arith, same, w, y)))
      ∙ before i k b (λ l. ne (omega arith)))

  -- ---- closed or not

  each_open : (n : ℕ) → n ≤ f.saved → (i : ℕ) → i < n → (entry_at f i).marked ≡ false → (reached s f kept q n).state.queue.closed ≡ false
  unfolding laid_state laid
  each_open =
      by-records (λ (n : ℕ) (l : Laying). (i : ℕ) → i < n → (entry_at f i).marked ≡ false → l.state.queue.closed ≡ false)
      (λ i h. absurd (omega arith))
      (λ n h m before i l u. test_cases (eqb i n)
      (λ e. absurd (false≢true (sym u ∙ ap (λ (j : ℕ). (entry_at f j).marked) (eqb-true i n e) ∙ m)))
      (λ e. let z = eqb-false i n e in before i (omega arith) u))
      (λ n h m before i l u. refl)

  all_closed : ((i : ℕ) → i < f.saved → (entry_at f i).marked ≡ true) → (n : ℕ) → n ≤ f.saved → (reached s f kept q n).state.queue.closed ≡ true
  unfolding closed_state
  all_closed all =
      by-records (λ (n : ℕ) (l : Laying). l.state.queue.closed ≡ true) refl (λ n h m before. before) (λ n h m before. absurd (false≢true (sym m ∙ all n h)))

-- ---- wholly

module _ (s : Sending) (f : Flight) (kept q : List ℕ) (t : Tables s f) (d : is_done (answer_to s f kept q) ≡ true) where
  abbrev a : Able s f kept q
  a = able s f kept q d

  abbrev n : ℕ
  n = f.saved

  abbrev end : Reached s f n (reached s f kept q n)
  end = reaches s f kept q a t n (omega arith)

  left_is : left_state s f kept q ≡ record { answer = answer_to s f kept q; state = (reached s f kept q n).state; flight = (reached s f kept q n).flight }
  unfolding resend_state
  left_is = if_true _ _ d

  state-is : (left_state s f kept q).state ≡ (reached s f kept q n).state
  state-is = ap (λ (r : Saved). r.state) left_is

  flight-is : (left_state s f kept q).flight ≡ (reached s f kept q n).flight
  flight-is = ap (λ (r : Saved). r.flight) left_is

  queue-is : left_queue s f kept q ≡ (reached s f kept q n).queue
  unfolding resend_queue
  queue-is = if_true _ _ d

  pub resent-whole : Whole s f kept q
  resent-whole = record {
    state = state-is;
    flight = flight-is;
    queue = queue-is;
    sent = λ i h m. again-done s f kept q a i h m (reached s f kept q i) (reaches s f kept q a t i (omega arith));
    still = still s f kept q a t;
    content = λ i h m. content-kept s f kept q a i h m (reached s f kept q i) (reaches s f kept q a t i (omega arith));
    number = λ i h m. (reaches s f kept q a t i (omega arith)).next (entry_at f i).epoch (a.usable i h m);
    usable = a.usable;
    low = λ i h m. under_top s f kept q a i h m (reached s f kept q i) (reaches s f kept q a t i (omega arith));
    long = λ i h m. kept-long s f kept q a i h m (reached s f kept q i) (reaches s f kept q a t i (omega arith));
    laid-state = λ i h m. ap (λ (l : Laying). l.state) (behind-sent s f kept q a t i h m);
    laid-queue = λ i h m. ap (λ (l : Laying). l.queue) (behind-sent s f kept q a t i h m);
    skipped = behind-marked s f kept q a t;
    entry = λ i h m. ap (λ (g : Flight). entry_at g i) flight-is ∙ each-entry s f kept q a t n (omega arith) i h ∙ if_false _ _ m;
    room = λ i h m. room-few (entry_at f i) (a.room i h m);
    cell = λ i h m r. ap (λ (g : Flight). get_or g.numbers (i * 32 + (entry_at f i).remembered) 0) flight-is ∙ each-cell s f kept q a t n (omega arith) i h m r;
    marked = λ i h m. ap (λ (g : Flight). entry_at g i) flight-is ∙ each-entry s f kept q a t n (omega arith) i h ∙ if_true _ _ m;
    beyond = λ i h. ap (λ (g : Flight). entry_at g i) flight-is ∙ end.later i h;
    cells = λ i k b ne. ap (λ (g : Flight). get_or g.numbers (i * 32 + k) 0) flight-is ∙ other-cells s f kept q a t n (omega arith) i k b ne;
    saved = ap (λ (g : Flight). g.saved) flight-is ∙ end.saved;
    tables = record {
      slots = ap (λ (u : Sending). length u.queue.lengths) state-is ∙ end.tables.slots;
      entries = ap (λ (g : Flight). length g.entries) flight-is ∙ end.tables.entries;
      numbers = ap (λ (g : Flight). length g.numbers) flight-is ∙ end.tables.numbers;
    };
    tail = ap (λ (u : Sending). tail_of u.queue) state-is ∙ end.tail;
    next = λ e u. ap (λ (v : Sending). next_of v.keys e) state-is ∙ end.next e u;
    handshake = ap (λ (u : Sending). u.keys.handshake.epoch) state-is ∙ end.handshake;
    application = ap (λ (u : Sending). u.keys.application.epoch) state-is ∙ end.application;
    opened = λ i h m. ap (λ (u : Sending). u.queue.closed) state-is ∙ each_open s f kept q a t n (omega arith) i h m;
    closed = λ all. ap (λ (u : Sending). u.queue.closed) state-is ∙ all_closed s f kept q a t all n (omega arith);
    mtu = ap (λ (u : Sending). u.queue.mtu) state-is ∙ end.mtu;
    limit = ap (λ (u : Sending). u.queue.limit) state-is ∙ end.limit;
    first = ap (λ (u : Sending). u.queue.first) state-is ∙ end.first;
    message = ap (λ (u : Sending). u.message_seq) state-is ∙ end.message;
  }

-- "sends the rest under new numbers": no two records of an epoch under the same
pub numbers_apart : (s : Sending) (f : Flight) (i j : ℕ) → i < j → (entry_at f i).marked ≡ false → (entry_at f i).epoch ≡ (entry_at f j).epoch → number_again s f i < number_again s f j
numbers_apart s f i j l m same =
    let e : ℕ = (entry_at f i).epoch in
    let one : count_after f e (i + 1) ≡ count_after f e i + 1 = count_next f e i ∙ ap (λ (k : ℕ). count_after f e i + k) (one-own (entry_at f i) m) in
    subst (λ (d : ℕ). number_again s f i < next_of s.keys d + count_after f d j) same (omega (arith, one, count-grows f e (i + 1) j (omega arith)))

-- ---- or not at all

pub not_at-all : (s : Sending) (f : Flight) (kept q : List ℕ) → is_done (answer_to s f kept q) ≡ false → Untouched s f kept q
unfolding resend_state resend_queue
not_at-all s f kept q d = record {
  state = ap (λ (r : Saved). r.state) (if_false _ _ d);
  flight = ap (λ (r : Saved). r.flight) (if_false _ _ d);
  queue = if_false _ _ d;
}

-- ---- a resend touches every record that is not marked, and no marked one

module _ (s : Sending) (f : Flight) (kept q : List ℕ) (t : Tables s f) (d : is_done (answer_to s f kept q) ≡ true) (i : ℕ) (below : i < f.saved) where
  pub touches_unmarked : (entry_at f i).marked ≡ false → (entry_at (left_state s f kept q).flight i).number ≡ number_again s f i
  unfolding with_number
  touches_unmarked m = ap (λ (e : Entry). e.number) ((resent-whole s f kept q t d).entry i below m)

  pub touches_no_marked : (entry_at f i).marked ≡ true → entry_at (left_state s f kept q).flight i ≡ entry_at f i
  touches_no_marked m = (resent-whole s f kept q t d).marked i below m

  -- epoch, type, length and mark stay in any case
  pub same_record : ((entry_at (left_state s f kept q).flight i).epoch ≡ (entry_at f i).epoch) × ((entry_at (left_state s f kept q).flight i).content_type ≡ (entry_at f i).content_type)
      × ((entry_at (left_state s f kept q).flight i).length ≡ (entry_at f i).length) × ((entry_at (left_state s f kept q).flight i).marked ≡ (entry_at f i).marked)
  unfolding with_number
  same_record =
      test_cases (entry_at f i).marked
      (λ m. let e = touches_no_marked m in (ap (λ (x : Entry). x.epoch) e, ap (λ (x : Entry). x.content_type) e, ap (λ (x : Entry). x.length) e, ap (λ (x : Entry). x.marked) e))
      (λ m. let e = (resent-whole s f kept q t d).entry i below m in (ap (λ (x : Entry). x.epoch) e, ap (λ (x : Entry). x.content_type) e, ap (λ (x : Entry). x.length) e, ap (λ (x : Entry). x.marked) e))
