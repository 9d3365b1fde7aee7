-- A handshake message is sent wholly or not at all (01, "Datagrams to send" and refusals 18, 19). Assumes nothing.
use Rattle.std.specs.Prelude.{true, false, List, ◌≡◌, ℕ, zero, suc, ◌+◌, ◌-◌, ◌*◌, ◌<◌, ◌≤◌, max, eqb, length, get_or, take, Ok, Err}
use Rattle.std.proofs.lemmas.Bool.{false≢true}
use Rattle.std.proofs.Common.{sym, ap, subst, ◌∙◌, zero-add}
use Rattle.std.proofs.Math.Nat.{max-zero}
use native.Mathlib.Omega.{arith}
use borrow.Author.Tests.{ltb-true, ltb-false, leb-true, eqb-true, eqb-false}
use Rattle.base.specs.Choose.{by_test, test_cases, both_right, if_true}
use Rattle.base.specs.Parts.{part}
use Rattle.queue.specs.declared.Place.{Place}
use Rattle.queue.specs.declared.Tail.{Tail}
use Rattle.queue.specs.Queue.{tail_of, place_of, grown, start_of, InRange, ready}
use Rattle.queue.specs.Laid.{record_len, record_bytes}
use Rattle.send_keys.specs.Keys.{next_of}
use Rattle.outgoing.specs.declared.Sending.{Sending}
use Rattle.send_keys.specs.declared.SendError.TheVariants.{FlightFull, QueueFull}
use Rattle.flight.specs.declared.Entry.{Entry}
use Rattle.flight.specs.declared.Flight.{Flight}
use Rattle.flight.specs.declared.Saved.{Saved}
use Rattle.flight.specs.Flight.{is_kept, entry_of}
use Rattle.messages.specs.declared.Cut.{Cut}
use Rattle.messages.specs.Cut.{epoch_of, overhead, size_in, cut_next, pieces, plan_reach, total, pieces_more, pieces-last, reach-more, reach-last}
use Rattle.outgoing.specs.State.{numbered}
use Rattle.messages.specs.Message.{content_of, Laid, first_cut, count_of, reach_of, message_answer, beginning, sent_all, message_state, message_queue, message_kept}
use Rattle.messages.specs.Laws as laws
use Rattle.send_keys.specs.Answer.{SendAnswer, is_done, refusal, is-done}
use Rattle.whole_laws.specs.Lay.{lay_all, EachDone, Able, AllPlaced}
use Rattle.whole_laws.proofs.Lay.{all_laid, each-done, all_placed}
use Rattle.whole_laws.proofs.Queued.{places_of, Settled, lay_settled, lay-record}
use Rattle.whole_laws.proofs.Leaves.{tail_behind, lay_next, lay_other, lay-saved, lay_still, lay_range, lay_tail, lay_older, lay_entry, lay_before, lay_content}

-- the sizes of a message's pieces
abbrev pub sizes_of : Sending → ℕ → List ℕ → List ℕ
sizes_of s kind body = pieces 13 s.queue.mtu (overhead (epoch_of kind)) (first_cut s (length body))

-- the call: its answer, what it leaves of state and flight, of the queue's memory and of the flight's
abbrev pub answer_to : Sending → Flight → List ℕ → List ℕ → ℕ → List ℕ → SendAnswer
answer_to s f q m kind body = message_answer s f (length q) (length m) kind (length body)

abbrev pub left_state : Sending → Flight → List ℕ → List ℕ → ℕ → List ℕ → Saved
left_state s f q m kind body = message_state (answer_to s f q m kind body) s f q m kind body

abbrev pub left_queue : Sending → Flight → List ℕ → List ℕ → ℕ → List ℕ → List ℕ
left_queue s f q m kind body = message_queue (answer_to s f q m kind body) s f q m kind body

abbrev pub left_kept : Sending → Flight → List ℕ → List ℕ → ℕ → List ℕ → List ℕ
left_kept s f q m kind body = message_kept (answer_to s f q m kind body) s f q m kind body

-- its pieces laid one after the other
abbrev pub laid_whole : Sending → Flight → List ℕ → List ℕ → ℕ → List ℕ → Laid
laid_whole s f q m kind body = lay_all kind body 0 (sizes_of s kind body) (beginning s f q m)

-- ---- why a message that is answered Done can be sent

all : (body : List ℕ) → length body - 0 ≡ length body
all body = omega arith

pub done-able : (s : Sending) (f : Flight) (q m : List ℕ) (kind : ℕ) (body : List ℕ) → length s.queue.lengths ≡ 16
    → is_done (answer_to s f q m kind body) ≡ true → Able 13 kind body 0 (beginning s f q m)
unfolding message_answer is_kept
done-able s f q m kind body slots =
    by_test (λ (a : SendAnswer). is_done a ≡ true → Able 13 kind body 0 (beginning s f q m))
    (λ r. by_test (λ (a : SendAnswer). is_done a ≡ true → Able 13 kind body 0 (beginning s f q m))
    (λ h. by_test (λ (a : SendAnswer). is_done a ≡ true → Able 13 kind body 0 (beginning s f q m))
    (λ b z. absurd (false≢true z))
    (λ b. by_test (λ (a : SendAnswer). is_done a ≡ true → Able 13 kind body 0 (beginning s f q m))
    (λ k. by_test (λ (a : SendAnswer). is_done a ≡ true → Able 13 kind body 0 (beginning s f q m))
    (λ y z. absurd (false≢true z))
    (λ y. by_test (λ (a : SendAnswer). is_done a ≡ true → Able 13 kind body 0 (beginning s f q m))
    (λ x z. absurd (false≢true z))
    (λ x. by_test (λ (a : SendAnswer). is_done a ≡ true → Able 13 kind body 0 (beginning s f q m))
    (λ t z. absurd (false≢true z))
    (λ t. by_test (λ (a : SendAnswer). is_done a ≡ true → Able 13 kind body 0 (beginning s f q m))
    (λ p z. absurd (false≢true z))
    (λ p z. record {
      ready = ready r;
      slots = slots;
      keyed = k;
      space = leb-true (12 * s.queue.mtu) (length m) (both_right _ _ h);
      inside = omega arith;
      saved = rw (all body) (ltb-false 12 (f.saved + count_of s kind (length body)) x);
      reach = rw (all body) (ltb-false s.queue.limit (reach_of s kind (length body)) t);
      number = rw (all body) (ltb-false 281474976710655 (next_of s.keys (epoch_of kind) + count_of s kind (length body)) p);
    })))))
    (λ k z. absurd (false≢true z))))
    (λ h z. absurd (false≢true z)))
    (λ r z. absurd (false≢true z))

-- a message sent whole
pub record Whole (s : Sending) (f : Flight) (q m : List ℕ) (kind : ℕ) (body : List ℕ) : Type 0 where
  -- every piece was sent and saved, and they are the whole body
  pub answer : (left_state s f q m kind body).answer ≡ Ok tt
  pub each : EachDone kind body 0 (sizes_of s kind body) (beginning s f q m)
  pub all : total (sizes_of s kind body) ≡ length body
  pub some : 0 < length (sizes_of s kind body)
  -- state and memories are those of the pieces laid one after the other, and the message's number is used
  pub state : (left_state s f q m kind body).state ≡ numbered (laid_whole s f q m kind body).saved.state (s.message_seq + 1)
  pub flight : (left_state s f q m kind body).flight ≡ (laid_whole s f q m kind body).saved.flight
  pub queue : left_queue s f q m kind body ≡ (laid_whole s f q m kind body).queue
  pub kept : left_kept s f q m kind body ≡ (laid_whole s f q m kind body).kept
  -- of the epoch's numbers exactly as many are used as there are pieces, of another epoch's none
  pub next : next_of (left_state s f q m kind body).state.keys (epoch_of kind) ≡ next_of s.keys (epoch_of kind) + length (sizes_of s kind body)
  pub others : (d : ℕ) → (d ≡ epoch_of kind → ⊥) → next_of (left_state s f q m kind body).state.keys d ≡ next_of s.keys d
  -- the end of the queue is where the dry run saw it, within the limit
  pub tail : tail_of (left_state s f q m kind body).state.queue ≡ tail_behind s.queue.mtu (overhead (epoch_of kind)) (sizes_of s kind body) (tail_of s.queue)
  pub range : InRange (left_state s f q m kind body).state.queue
  -- the flight has one record more for each piece, with the epoch's numbers in order and no gap
  pub saved : (left_state s f q m kind body).flight.saved ≡ f.saved + length (sizes_of s kind body)
  pub entry : (d : Entry) (i : ℕ) → i < length (sizes_of s kind body)
      → get_or (left_state s f q m kind body).flight.entries (f.saved + i) d ≡ entry_of 22 (epoch_of kind) (next_of s.keys (epoch_of kind) + i) (12 + get_or (sizes_of s kind body) i 0)
  pub older : (d : Entry) (i : ℕ) → i < f.saved → get_or (left_state s f q m kind body).flight.entries i d ≡ get_or f.entries i d
  -- each piece's content stands in its slot: the header, then its part of the body; what was saved before stays
  pub content : (i : ℕ) → i < length (sizes_of s kind body)
      → part ((f.saved + i) * s.queue.mtu) (12 + get_or (sizes_of s kind body) i 0) (left_kept s f q m kind body)
      ≡ content_of kind s.message_seq body (total (take i (sizes_of s kind body))) (get_or (sizes_of s kind body) i 0)
  pub before : (a n : ℕ) → a + n ≤ f.saved * s.queue.mtu → part a n (left_kept s f q m kind body) ≡ part a n m
  -- each piece's record stands in the queue where the dry run placed it; the bytes in front of the queue's end stay
  pub laid : (d : Place) (i : ℕ) → i < length (sizes_of s kind body)
      → part (start_of s.queue (get_or (places_of s.queue.mtu (overhead (epoch_of kind)) (sizes_of s kind body) (tail_of s.queue)) i d))
      (record_len (epoch_of kind) (12 + get_or (sizes_of s kind body) i 0)) (left_queue s f q m kind body)
      ≡ record_bytes (epoch_of kind) 22 (next_of s.keys (epoch_of kind) + i)
      (content_of kind s.message_seq body (total (take i (sizes_of s kind body))) (get_or (sizes_of s kind body) i 0))
  pub settled : (p : Place) (n : ℕ) → p.offset + n ≤ s.queue.mtu → Settled (tail_of s.queue) p n
      → part (start_of s.queue p) n (left_queue s f q m kind body) ≡ part (start_of s.queue p) n q
  -- settings and remembered numbers stay
  pub mtu : (left_state s f q m kind body).state.queue.mtu ≡ s.queue.mtu
  pub limit : (left_state s f q m kind body).state.queue.limit ≡ s.queue.limit
  pub numbers : (left_state s f q m kind body).flight.numbers ≡ f.numbers

module _ (s : Sending) (f : Flight) (q m : List ℕ) (kind : ℕ) (body : List ℕ) (slots : length s.queue.lengths ≡ 16) (entries : length f.entries ≡ 12)
    (done : is_done (answer_to s f q m kind body) ≡ true) where
  able : Able 13 kind body 0 (beginning s f q m)
  able = done-able s f q m kind body slots done

  laid-all : sent_all s f q m kind body ≡ laid_whole s f q m kind body
  laid-all = all_laid 13 kind body 0 (beginning s f q m) able ∙ ap (λ (n : ℕ). lay_all kind body 0 (pieces 13 s.queue.mtu (overhead (epoch_of kind)) (first_cut s n)) (beginning s f q m)) (all body)

  at_place : AllPlaced kind body 0 (sizes_of s kind body) (beginning s f q m)
  at_place =
      subst (λ (n : ℕ). AllPlaced kind body 0 (pieces 13 s.queue.mtu (overhead (epoch_of kind)) (first_cut s n)) (beginning s f q m)) (all body)
      (all_placed 13 kind body 0 (beginning s f q m) able)

  left-state : left_state s f q m kind body ≡ record {
    answer = answer_to s f q m kind body;
    state = numbered (laid_whole s f q m kind body).saved.state (s.message_seq + 1);
    flight = (laid_whole s f q m kind body).saved.flight;
  }
  unfolding message_state
  left-state =
      if_true _ _ done
      ∙ λ i. record { answer = answer_to s f q m kind body; state = numbered (laid-all i).saved.state (s.message_seq + 1); flight = (laid-all i).saved.flight }

  left-queue : left_queue s f q m kind body ≡ (laid_whole s f q m kind body).queue
  unfolding message_queue
  left-queue = if_true _ _ done ∙ λ i. (laid-all i).queue

  left-kept : left_kept s f q m kind body ≡ (laid_whole s f q m kind body).kept
  unfolding message_kept
  left-kept = if_true _ _ done ∙ λ i. (laid-all i).kept

  few : f.saved + length (sizes_of s kind body) ≤ 12
  few = rw (all body) at able.saved

  some-piece : 0 < length (sizes_of s kind body)
  unfolding pieces
  some-piece = omega arith

  -- a message answered Done is sent whole
  pub sent-whole : Whole s f q m kind body
  sent-whole =
      let ns : List ℕ = sizes_of s kind body in
      let from : Laid = beginning s f q m in
      let e : ℕ = epoch_of kind in
      let st = ap (λ (x : Saved). x.state) left-state in
      let fl = ap (λ (x : Saved). x.flight) left-state in
      record {
        answer = ap (λ (x : Saved). x.answer) left-state ∙ is-done (answer_to s f q m kind body) done;
        each = subst (λ (n : ℕ). EachDone kind body 0 (pieces 13 s.queue.mtu (overhead e) (first_cut s n)) from) (all body) (each-done 13 kind body 0 from able);
        all = laws.message-whole s f (length q) (length m) kind (length body) done;
        some = some-piece;
        state = st;
        flight = fl;
        queue = left-queue;
        kept = left-kept;
        next = ap (λ (x : Sending). next_of x.keys e) st ∙ lay_next kind body 0 ns from;
        others = λ d ne. ap (λ (x : Sending). next_of x.keys d) st ∙ lay_other kind body d ne 0 ns from;
        tail = ap (λ (x : Sending). tail_of x.queue) st ∙ lay_tail kind body 0 ns from at_place;
        range = subst (λ (x : Sending). InRange x.queue) (sym st) (lay_range kind body 0 ns from at_place able.ready.range);
        saved = ap (λ (x : Flight). x.saved) fl ∙ lay-saved kind body 0 ns from;
        entry = λ d i h. ap (λ (x : Flight). get_or x.entries (f.saved + i) d) fl ∙ lay_entry kind body d i 0 ns from h (omega (arith, few));
        older = λ d i h. ap (λ (x : Flight). get_or x.entries i d) fl ∙ lay_older kind body d i 0 ns from h;
        content = λ i h. ap (part ((f.saved + i) * s.queue.mtu) (12 + get_or ns i 0)) left-kept ∙ lay_content kind body i 0 ns from at_place h
            ∙ ap (λ (x : ℕ). content_of kind s.message_seq body x (get_or ns i 0)) (zero-add (total (take i ns)));
        before = λ a n h. ap (part a n) left-kept ∙ lay_before kind body a n 0 ns from at_place h;
        laid = λ d i h.
            ap (part (start_of s.queue (get_or (places_of s.queue.mtu (overhead e) ns (tail_of s.queue)) i d)) (record_len e (12 + get_or ns i 0))) left-queue
            ∙ lay-record kind body d i 0 ns from at_place h
            ∙ ap (λ (x : ℕ). record_bytes e 22 (next_of s.keys e + i) (content_of kind s.message_seq body x (get_or ns i 0))) (zero-add (total (take i ns)));
        settled = λ p n h st. ap (part (start_of s.queue p) n) left-queue ∙ lay_settled kind body 0 ns from at_place h st;
        mtu = ap (λ (x : Sending). x.queue.mtu) st ∙ (lay_still kind body 0 ns from).1;
        limit = ap (λ (x : Sending). x.queue.limit) st ∙ (lay_still kind body 0 ns from).2;
        numbers = ap (λ (x : Flight). x.numbers) fl ∙ (lay_still kind body 0 ns from).3;
      }

-- a refused message changes nothing: state, flight, the queue's memory and the flight's
pub record Untouched (s : Sending) (f : Flight) (q m : List ℕ) (kind : ℕ) (body : List ℕ) : Type 0 where
  pub state : (left_state s f q m kind body).state ≡ s
  pub flight : (left_state s f q m kind body).flight ≡ f
  pub queue : left_queue s f q m kind body ≡ q
  pub kept : left_kept s f q m kind body ≡ m

pub not_at-all : (s : Sending) (f : Flight) (q m : List ℕ) (kind : ℕ) (body : List ℕ) → is_done (answer_to s f q m kind body) ≡ false → Untouched s f q m kind body
not_at-all s f q m kind body h =
    let e = laws.refused-message (answer_to s f q m kind body) h s f q m kind body in
    let g = laws.refused-memory (answer_to s f q m kind body) h s f q m kind body in
    record { state = ap (λ (x : Saved). x.state) e; flight = ap (λ (x : Saved). x.flight) e; queue = g.0; kept = g.1 }

-- ---- the refusals 18 and 19

-- with a record more the queue has as many datagrams as before, or one more
one-more : (mtu : ℕ) (t : Tail) (n : ℕ) → t.count ≤ (grown (place_of mtu t n) n).count
unfolding grown place_of
one-more mtu t n = by_test (λ (p : Place). t.count ≤ p.datagram + 1) (λ e. omega arith) (λ e. omega arith)

reach_from : (k mtu over : ℕ) (c : Cut) → max c.tail.count (plan_reach k mtu over c) ≡ (tail_behind mtu over (pieces k mtu over c) c.tail).count
unfolding plan_reach pieces cut_next
reach_from zero mtu over c = max-zero c.tail.count
reach_from (suc k) mtu over c =
    let more = one-more mtu c.tail (size_in mtu over c + over) in
    test_cases (eqb (cut_next mtu over c).rest 0)
    (λ z.
    let end = eqb-true (cut_next mtu over c).rest 0 z in
    let l = ap (λ (ns : List ℕ). (tail_behind mtu over ns c.tail).count) (pieces-last mtu over c k end) in
    omega (arith, more, reach-last mtu over c k end, l))
    (λ z.
    let on = eqb-false (cut_next mtu over c).rest 0 z in
    let l = ap (λ (ns : List ℕ). (tail_behind mtu over ns c.tail).count) (pieces_more mtu over c k on) in
    omega (arith, more, reach-more mtu over c k on, reach_from k mtu over (cut_next mtu over c), l))

-- the dry run's reach is the number of datagrams behind the last piece
pub reach-is : (k mtu over : ℕ) (c : Cut) → plan_reach (suc k) mtu over c ≡ (tail_behind mtu over (pieces (suc k) mtu over c) c.tail).count
unfolding plan_reach cut_next
reach-is k mtu over c = omega (arith, reach_from (suc k) mtu over c, one-more mtu c.tail (size_in mtu over c + over))

module _ (s : Sending) (f : Flight) (room kept kind n : ℕ) where
  -- what the answers 18 and 19 tell
  abbrev Tells : SendAnswer → Type 0
  Tells a = (refusal a ≡ 18 → 12 < f.saved + count_of s kind n) × (refusal a ≡ 19 → s.queue.limit < reach_of s kind n)

  tells : Tells (message_answer s f room kept kind n)
  unfolding message_answer
  tells =
      by_test Tells
      (λ r. by_test Tells
      (λ h. by_test Tells
      (λ b. (λ z. absurd (omega arith), λ z. absurd (omega arith)))
      (λ b. by_test Tells
      (λ k. by_test Tells
      (λ y. (λ z. absurd (omega arith), λ z. absurd (omega arith)))
      (λ y. by_test Tells
      (λ x. (λ z. ltb-true 12 (f.saved + count_of s kind n) x, λ z. absurd (omega arith)))
      (λ x. by_test Tells
      (λ t. (λ z. absurd (omega arith), λ z. ltb-true s.queue.limit (reach_of s kind n) t))
      (λ t. by_test Tells
      (λ p. (λ z. absurd (omega arith), λ z. absurd (omega arith)))
      (λ p. (λ z. absurd (omega arith), λ z. absurd (omega arith)))))))
      (λ k. (λ z. absurd (omega arith), λ z. absurd (omega arith)))))
      (λ h. (λ z. absurd (omega arith), λ z. absurd (omega arith))))
      (λ r. (λ z. absurd (omega arith), λ z. absurd (omega arith)))

  -- 18 only if the flight has no room for a record for each piece
  pub flight_full : message_answer s f room kept kind n ≡ Err FlightFull → 12 < f.saved + count_of s kind n
  flight_full e = tells.0 (ap refusal e)

  -- 19 only if the pieces need a datagram beyond the limit
  pub queue_full : message_answer s f room kept kind n ≡ Err QueueFull
      → s.queue.limit < (tail_behind s.queue.mtu (overhead (epoch_of kind)) (pieces 13 s.queue.mtu (overhead (epoch_of kind)) (first_cut s n)) (tail_of s.queue)).count
  queue_full e = omega (arith, tells.1 (ap refusal e), reach-is 12 s.queue.mtu (overhead (epoch_of kind)) (first_cut s n))
