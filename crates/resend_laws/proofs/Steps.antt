-- One record of a flight sent again after the other: each that is not marked is sent, and what that leaves. Assumes nothing.
use Rattle.std.specs.Prelude.{true, false, ◌≡◌, eqb, Ok}
use mathlib.Core.List.{List}
use Rattle.std.proofs.Math.Path.{refl, sym, ap, subst}
use Rattle.std.proofs.Common.{◌∙◌, mul-le-mul_right, arith, get_or-set_other}
use Prim.Native.Nat.{ℕ, zero, suc, ◌+◌, ◌*◌, ◌≤◌, ◌<◌}
use Rattle.std.proofs.Math.ListN.{length, length-set}
use Rattle.std.proofs.lemmas.Bool.{lt-leb}
use Rattle.base.specs.Choose.{choose, by_test, test_cases, if_true, if_false}
use Rattle.base.specs.Parts.{part, length_part, length-splice}
use Rattle.queue.specs.declared.Tail.{Tail}
use Rattle.queue.specs.declared.Place.{Place}
use Rattle.queue.specs.Queue.{tail_of, place_of, grown, laid, start_of, Ready, Fits, ready-again, laid-range, tail-laid, placed, spot}
use Rattle.queue.specs.Laid.{record_len, record_bytes, length_record, len_over}
use Rattle.send_keys.specs.Keys.{is_usable, is_keyed, next_of}
use Rattle.outgoing.specs.declared.Sending.{Sending}
use Rattle.send_keys.specs.Answer.{SendAnswer}
use Rattle.outgoing.specs.State.{is_allowed}
use Rattle.outgoing.specs.Send.{spot_of, laid_state, laid_memory, send_answer, send_state, send_memory}
use Rattle.outgoing.proofs.Send.{allowed-fits}
use Rattle.flight.specs.declared.Entry.{Entry}
use Rattle.flight.specs.declared.Flight.{Flight}
use Rattle.flight.specs.Flight.{entry_at, no_entry}
use Rattle.resend.specs.Tests.{joined, tail_after, count_after, closed_state, closed-range, tail-next, count_next}
use Rattle.resend.specs.Resend.{renewed, renewed_if, Laying, content_at, sent_again, again_answer, again_at, again_after}
use Rattle.resend_laws.specs.Plan.{Able, tail-grows, count-grows, one_in, one-marked, one-own, none-spent, used-epochs, used-usable, used-keyed, used-count}
use Rattle.resend_laws.specs.Steps.{laid_again, beginning, reached, kept_content, number_again, Tables, Reached}

-- ---- one record

-- a send that meets no refusal
pub send_done : (s : Sending) (room e t n : ℕ) → Ready s.queue room → is_usable s.keys e ≡ true → is_allowed s.queue.mtu e t n ≡ true → is_keyed s.keys e ≡ true
    → (spot_of s e n).datagram < s.queue.limit → next_of s.keys e < 281474976710655 → send_answer s room e t n ≡ Ok tt
unfolding send_answer
send_done s room e t n r u a k p m =
    if_true _ _ (ready-again r) ∙ if_true _ _ u ∙ if_true _ _ a ∙ if_true _ _ k ∙ if_false _ _ (lt-leb s.queue.limit (spot_of s e n).datagram p)
    ∙ if_false _ _ (lt-leb 281474976710655 (next_of s.keys e) m)

module _ (kept : List ℕ) (i : ℕ) (l : Laying) where
  pub again_skips : (entry_at l.flight i).marked ≡ true → again_at kept i l ≡ l
  unfolding again_at
  again_skips m = if_true _ _ m

  sent-laid : sent_again (Ok tt) kept i l ≡ laid_again kept i l
  unfolding sent_again send_state renewed_if send_memory choose
  sent-laid = refl

  pub again-lays : (entry_at l.flight i).marked ≡ false → again_answer kept i l ≡ Ok tt → again_at kept i l ≡ laid_again kept i l
  unfolding again_at
  again-lays m d = if_false _ _ m ∙ ap (λ (a : SendAnswer). sent_again a kept i l) d ∙ sent-laid

-- the flight's tables keep their lengths
pub renewed-entries : (f : Flight) (i n : ℕ) → length (renewed f i n).entries ≡ length f.entries
unfolding renewed
renewed-entries f i n =
    by_test (λ (g : Flight). length g.entries ≡ length f.entries) (λ c. length-set f.entries i _) (λ c. length-set f.entries i _)

pub renewed-numbers : (f : Flight) (i n : ℕ) → length (renewed f i n).numbers ≡ length f.numbers
unfolding renewed
renewed-numbers f i n = by_test (λ (g : Flight). length g.numbers ≡ length f.numbers) (λ c. length-set f.numbers _ _) (λ c. refl)

pub renewed-saved : (f : Flight) (i n : ℕ) → (renewed f i n).saved ≡ f.saved
unfolding renewed
renewed-saved f i n = by_test (λ (g : Flight). g.saved ≡ f.saved) (λ c. refl) (λ c. refl)

-- the other records' entries stay
pub renewed-other : (f : Flight) (i n j : ℕ) → (i ≡ j → ⊥) → entry_at (renewed f i n) j ≡ entry_at f j
unfolding renewed
renewed-other f i n j ne =
    by_test (λ (g : Flight). entry_at g j ≡ entry_at f j) (λ c. get_or-set_other f.entries i j _ no_entry (λ e. ne (sym e))) (λ c. get_or-set_other f.entries i j _ no_entry (λ e. ne (sym e)))

-- ---- the first n records

reached-none : (s : Sending) (f : Flight) (q : List ℕ) → Ready s.queue (length q) → Tables s f → Reached s f 0 (beginning s f q)
unfolding closed_state tail_after count_after
reached-none s f q r t = record {
  ready = record { range = closed-range s r.range; space = r.space };
  tables = record { slots = t.slots; entries = t.entries; numbers = t.numbers };
  mtu = refl;
  limit = refl;
  first = refl;
  message = refl;
  tail = refl;
  usable = λ e. refl;
  keyed = λ e. refl;
  handshake = refl;
  application = refl;
  next = λ e u. omega arith;
  saved = refl;
  later = λ i h. refl;
}

-- a marked record is passed over
skipped-reached : (s : Sending) (f : Flight) (n : ℕ) (l : Laying) → (entry_at f n).marked ≡ true → Reached s f n l → Reached s f (n + 1) l
unfolding joined
skipped-reached s f n l m r = record {
  ready = r.ready;
  tables = r.tables;
  mtu = r.mtu;
  limit = r.limit;
  first = r.first;
  message = r.message;
  tail = r.tail ∙ sym (tail-next s.queue.mtu (tail_of (closed_state s).queue) f n ∙ if_true _ _ m);
  usable = r.usable;
  keyed = r.keyed;
  handshake = r.handshake;
  application = r.application;
  next = λ e u. omega (arith, r.next e u, count_next f e n, one-marked (entry_at f n) e m);
  saved = r.saved;
  later = λ i h. r.later i (omega arith);
}

module _ (s : Sending) (f : Flight) (kept q : List ℕ) (a : Able s f kept q) (n : ℕ) (below : n < f.saved) (fresh : (entry_at f n).marked ≡ false) (l : Laying) (r : Reached s f n l) where
  abbrev x : Entry
  x = entry_at f n

  abbrev mtu : ℕ
  mtu = s.queue.mtu

  -- its entry is still as it was saved
  as_saved : entry_at l.flight n ≡ entry_at f n
  as_saved = r.later n (omega arith)

  fits : record_len x.epoch x.length ≤ mtu
  fits = allowed-fits mtu x.epoch x.content_type x.length (a.allowed n below fresh)

  short : x.length ≤ mtu
  short = omega (arith, len_over x.epoch x.length, fits)

  inside : n * mtu + x.length ≤ length kept
  inside =
      let m : (n + 1) * mtu ≤ 12 * mtu = mul-le-mul_right mtu (omega (arith, a.few)) in omega (arith, m, a.space, short)

  -- its content is as it was saved, and as long
  pub content-kept : content_at kept n l ≡ kept_content mtu f kept n
  content-kept =
      ap (λ (e : Entry). part (n * l.state.queue.mtu) e.length kept) as_saved ∙ ap (λ (k : ℕ). part (n * k) x.length kept) r.mtu

  pub content-long : length (content_at kept n l) ≡ x.length
  content-long = ap length content-kept ∙ length_part (n * mtu) x.length kept inside

  -- its place is the one that was found before
  abbrev place : Place
  place = place_of mtu (tail_after mtu (tail_of (closed_state s).queue) f n) (record_len x.epoch x.length)

  joined-here : tail_after mtu (tail_of (closed_state s).queue) f (n + 1) ≡ grown place (record_len x.epoch x.length)
  unfolding joined
  joined-here = tail-next mtu (tail_of (closed_state s).queue) f n ∙ if_false _ _ fresh

  spot_is : spot_of l.state x.epoch x.length ≡ place
  spot_is =
      ap (λ (t : Tail). place_of l.state.queue.mtu t (record_len x.epoch x.length)) r.tail
      ∙ ap (λ (m : ℕ). place_of m (tail_after mtu (tail_of (closed_state s).queue) f n) (record_len x.epoch x.length)) r.mtu

  -- below the limit
  under-limit : (spot_of l.state x.epoch x.length).datagram < l.state.queue.limit
  unfolding grown
  under-limit =
      omega (arith, a.reach, r.limit, tail-grows mtu (tail_of (closed_state s).queue) f (n + 1) f.saved (omega arith), ap (λ (t : Tail). t.count) joined-here, ap (λ (p : Place). p.datagram) spot_is)

  -- the number to be used, and that it may be
  number_is : next_of l.state.keys x.epoch ≡ number_again s f n
  number_is = r.next x.epoch (a.usable n below fresh)

  pub under_top : number_again s f n < 281474976710655
  under_top =
      let one : count_after f x.epoch (n + 1) ≡ count_after f x.epoch n + 1 = count_next f x.epoch n ∙ ap (λ (k : ℕ). count_after f x.epoch n + k) (one-own x fresh) in
      let grows = count-grows f x.epoch (n + 1) f.saved (omega arith) in
      omega (arith, one, grows, none-spent s.keys f x.epoch a.unspent (a.usable n below fresh) (omega (arith, one, grows)))

  -- it is sent
  done_as_saved : send_answer l.state (length l.queue) x.epoch x.content_type x.length ≡ Ok tt
  done_as_saved =
      send_done l.state (length l.queue) x.epoch x.content_type x.length r.ready (r.usable x.epoch ∙ a.usable n below fresh)
      (ap (λ (m : ℕ). is_allowed m x.epoch x.content_type x.length) r.mtu ∙ a.allowed n below fresh)
      (r.keyed x.epoch ∙ a.keyed n below fresh) under-limit (omega (arith, number_is, under_top))

  pub again-done : again_answer kept n l ≡ Ok tt
  again-done =
      ap (λ (k : ℕ). send_answer l.state (length l.queue) (entry_at l.flight n).epoch (entry_at l.flight n).content_type k) content-long
      ∙ ap (λ (e : Entry). send_answer l.state (length l.queue) e.epoch e.content_type x.length) as_saved ∙ done_as_saved

  -- the state, flight and queue behind it
  abbrev behind : Laying
  behind = record {
    state = laid_state l.state x.epoch x.length;
    flight = renewed l.flight n (number_again s f n);
    queue = laid_memory l.state x.epoch x.content_type (kept_content mtu f kept n) l.queue;
  }

  pub again_behind : again_at kept n l ≡ behind
  again_behind =
      again-lays kept n l (ap (λ (e : Entry). e.marked) as_saved ∙ fresh) again-done
      ∙ (λ i. record {
        state = laid_state l.state (as_saved i).epoch (content-long i);
        flight = renewed l.flight n (next_of l.state.keys (as_saved i).epoch);
        queue = laid_memory l.state (as_saved i).epoch (as_saved i).content_type (content-kept i) l.queue;
      })
      ∙ (λ i. record {
        state = laid_state l.state x.epoch x.length;
        flight = renewed l.flight n (number_is i);
        queue = laid_memory l.state x.epoch x.content_type (kept_content mtu f kept n) l.queue;
      })

  fits-here : Fits l.state.queue (spot_of l.state x.epoch x.length) (record_len x.epoch x.length)
  fits-here = record {
    datagram = under-limit;
    inside = (placed l.state.queue.mtu (tail_of l.state.queue) (record_len x.epoch x.length) (omega (arith, fits, r.mtu))).0;
  }

  pub kept-long : length (kept_content mtu f kept n) ≡ x.length
  kept-long = length_part (n * mtu) x.length kept inside

  -- the queue's memory keeps its length
  memory-long : length behind.queue ≡ length l.queue
  unfolding laid_memory start_of
  memory-long =
      let v : List ℕ = record_bytes x.epoch x.content_type (next_of l.state.keys x.epoch) (kept_content mtu f kept n) in
      let size : length v ≡ record_len x.epoch x.length = length_record x.epoch x.content_type (next_of l.state.keys x.epoch) (kept_content mtu f kept n) ∙ ap (record_len x.epoch) kept-long in
      let at : start_of l.state.queue (spot_of l.state x.epoch (length (kept_content mtu f kept n))) ≡ start_of l.state.queue (spot_of l.state x.epoch x.length) = ap (λ (k : ℕ). start_of l.state.queue (spot_of l.state x.epoch k)) kept-long in
      length-splice (start_of l.state.queue (spot_of l.state x.epoch (length (kept_content mtu f kept n)))) v l.queue
      (omega (arith, at, size, (spot r.ready fits-here).space))

  pub behind-reached : Reached s f (n + 1) behind
  unfolding laid_state laid
  behind-reached = record {
    ready = record { range = laid-range r.ready.range fits-here; space = omega (arith, memory-long, r.ready.space) };
    tables = record {
      slots = length-set l.state.queue.lengths _ _ ∙ r.tables.slots;
      entries = renewed-entries l.flight n (number_again s f n) ∙ r.tables.entries;
      numbers = renewed-numbers l.flight n (number_again s f n) ∙ r.tables.numbers;
    };
    mtu = r.mtu;
    limit = r.limit;
    first = r.first;
    message = r.message;
    tail = tail-laid r.ready.range fits-here r.tables.slots ∙ ap (λ (p : Place). grown p (record_len x.epoch x.length)) spot_is ∙ sym joined-here;
    usable = λ e. used-usable l.state.keys x.epoch e ∙ r.usable e;
    keyed = λ e. used-keyed l.state.keys x.epoch e ∙ r.keyed e;
    handshake = (used-epochs l.state.keys x.epoch).0 ∙ r.handshake;
    application = (used-epochs l.state.keys x.epoch).1 ∙ r.application;
    next = λ e u.
        let one : one_in x e ≡ choose (eqb x.epoch e) 1 0 = if_false _ _ fresh in
        omega (arith, used-count l.state.keys x.epoch e (r.usable x.epoch ∙ a.usable n below fresh) (r.usable e ∙ u), r.next e u, count_next f e n, one);
    saved = renewed-saved l.flight n (number_again s f n) ∙ r.saved;
    later = λ i h. renewed-other l.flight n (number_again s f n) i (λ e. omega arith) ∙ r.later i (omega arith);
  }

-- ---- all of them

module _ (s : Sending) (f : Flight) (kept q : List ℕ) (a : Able s f kept q) (t : Tables s f) where
  pub reaches : (n : ℕ) → n ≤ f.saved → Reached s f n (reached s f kept q n)
  unfolding again_after
  reaches zero h = reached-none s f q a.ready t
  reaches (suc n) h =
      let r = reaches n (omega arith) in
      let l : Laying = reached s f kept q n in
      subst (λ (k : ℕ). Reached s f k (again_at kept n l)) (omega arith)
      (test_cases (entry_at f n).marked
      (λ m. subst (Reached s f (n + 1)) (sym (again_skips kept n l (ap (λ (e : Entry). e.marked) (r.later n (omega arith)) ∙ m))) (skipped-reached s f n l m r))
      (λ m. subst (Reached s f (n + 1)) (sym (again_behind s f kept q a n (omega arith) m l r)) (behind-reached s f kept q a n (omega arith) m l r)))
