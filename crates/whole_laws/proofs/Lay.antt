-- The pieces of a handshake message laid one after the other, with no test, and why each of a message's sends is done. Assumes nothing.
use Rattle.std.proofs.Math.Bool.{true}
use Rattle.std.specs.Prelude.{List, [], ◌∷◌, ◌≡◌, ℕ, zero, suc, ◌+◌, ◌-◌, ◌*◌, ◌<◌, ◌≤◌, eqb, Ok}
use Rattle.std.proofs.Math.Path.{refl, sym, ap}
use Rattle.std.proofs.Common.{subst, ◌∙◌}
use native.Mathlib.Omega.{arith}
use Rattle.std.proofs.Math.ListN.{length, length-set}
use borrow.Author.Tests.{eqb-true, eqb-false, le-leb, lt-leb}
use Rattle.base.specs.Choose.{choose, either, by_test, test_cases, if_true, if_false, both_true}
use Rattle.base.specs.Parts.{length-splice}
use Rattle.record.specs.Record.{plain_head, sealed_over, is_type}
use Rattle.queue.specs.Queue.{tail_of, last_len, place_of, grown, laid, start_of, Fits, ready-again, placed, spot, laid-range, tail-laid}
use Rattle.queue.specs.Laid.{record_len, record_bytes, length_record, len_over, len_small}
use Rattle.send_keys.specs.declared.SendKeys.{SendKeys}
use Rattle.send_keys.specs.Keys.{is_usable, is_keyed, next_of, used, used-next}
use Rattle.outgoing.specs.declared.Sending.{Sending}
use Rattle.outgoing.specs.State.{is_content_type, is_allowed}
use Rattle.outgoing.specs.Send.{spot_of, laid_state, laid_memory}
use Rattle.flight.specs.declared.Flight.{Flight}
use Rattle.flight.specs.Flight.{is_kept, saved_with, saved_memory}
use Rattle.flight.specs.Save.{save_answer, save_state, save_queue, save_kept, kept-fits}
use Rattle.messages.specs.Cut.{epoch_of, overhead, size_in, cut_next, pieces, plan_reach, size-rest, size-mtu, pieces_more, pieces-last, reach-more}
use Rattle.messages.specs.Message.{content_of, Laid, piece_of, size_now, send_all, length-content, all_more, all-last}
use Rattle.send_keys.specs.Answer.{is_done}
use Rattle.whole_laws.specs.Lay.{lay_one, lay_all, EachDone, Placed, AllPlaced, cut_at, sizes_at, Able}

-- ---- sizes

pub len_more : (e n : ℕ) → record_len e (12 + n) ≡ n + record_len e 12
unfolding record_len
len_more e n =
    test_cases (eqb e 0) (λ h. if_true _ _ h ∙ sum plain_head ∙ sym (ap (λ (x : ℕ). n + x) (if_true _ _ h))) (λ h. if_false _ _ h ∙ sum sealed_over ∙ sym (ap (λ (x : ℕ). n + x) (if_false _ _ h)))
  where
    sum : (k : ℕ) → 12 + n + k ≡ n + (12 + k)
    sum k = omega arith

pub epoch-cases : (kind : ℕ) (P : ℕ → Type 0) → P 0 → P 2 → P (epoch_of kind)
unfolding epoch_of
epoch-cases kind P p0 p2 = by_test P (λ e. p0) (λ e. p2)

pub usable : (k : SendKeys) (kind : ℕ) → is_usable k (epoch_of kind) ≡ true
unfolding is_usable either
usable k kind = epoch-cases kind (λ (e : ℕ). is_usable k e ≡ true) refl refl

keyed-still : (k : SendKeys) (e : ℕ) → is_keyed (used k e) e ≡ is_keyed k e
unfolding is_keyed used choose
keyed-still k e = test_cases (eqb e 0) (λ a. rw a) (λ a. test_cases (eqb e 2) (λ b. rw (a, b)) (λ b. rw (a, b)))

-- a piece that fits an empty datagram may be a record
allowed : (mtu kind n : ℕ) → mtu ≤ 1500 → record_len (epoch_of kind) (12 + n) ≤ mtu → is_allowed mtu (epoch_of kind) 22 (12 + n) ≡ true
unfolding is_allowed is_content_type is_type either
allowed mtu kind n high fits =
    both_true {a = is_content_type (epoch_of kind) 22} refl
    ∙ both_true (le-leb (12 + n) 16384 (omega (arith, len_over (epoch_of kind) (12 + n)))) ∙ le-leb (record_len (epoch_of kind) (12 + n)) mtu fits

-- ---- one piece

module _ (k kind : ℕ) (body : List ℕ) (at : ℕ) (l : Laid) (a : Able (suc k) kind body at l) where
  abbrev s : Sending
  s = l.saved.state

  abbrev f : Flight
  f = l.saved.flight

  abbrev e : ℕ
  e = epoch_of kind

  abbrev mtu : ℕ
  mtu = s.queue.mtu

  -- its size, and its record's
  abbrev n : ℕ
  n = size_now kind s (length body - at)

  abbrev content : List ℕ
  content = content_of kind s.message_seq body at n

  sized : size_in mtu (overhead e) (cut_at body at l) ≡ n
  unfolding tail_of
  sized = refl

  fits : record_len e (12 + n) ≤ mtu
  fits = omega (arith, len_more e n, size-mtu mtu (overhead e) (last_len s.queue) (length body - at), len_small e 12, a.ready.range.low)

  pub ends : at + n ≤ length body
  ends = omega (arith, size-rest mtu (overhead e) (last_len s.queue) (length body - at), a.inside)

  long : length content ≡ 12 + n
  long = length-content kind s.message_seq body at n ends

  -- the place that the dry run saw is the place of the record
  seen : (cut_next mtu (overhead e) (cut_at body at l)).tail ≡ grown (spot_of s e (12 + n)) (record_len e (12 + n))
  unfolding cut_next tail_of
  seen = ap (λ (x : ℕ). grown (place_of mtu (tail_of s.queue) x) x) (sym (len_more e n))

  below : (spot_of s e (12 + n)).datagram < s.queue.limit
  unfolding plan_reach grown
  below = omega (arith, a.reach, ap (λ t. t.count) seen)

  place-fits : Fits s.queue (spot_of s e (12 + n)) (record_len e (12 + n))
  place-fits = record { datagram = below; inside = (placed mtu (tail_of s.queue) (record_len e (12 + n)) fits).0 }

  few : f.saved < 12
  unfolding pieces
  few = omega (arith, a.saved)

  fresh : next_of s.keys e < 281474976710655
  unfolding pieces
  fresh = omega (arith, a.number)

  pub piece-done : save_answer s f (length l.queue) (length l.kept) e 22 (12 + n) ≡ Ok tt
  unfolding save_answer is_kept
  piece-done =
      if_true _ _ (ready-again a.ready) ∙ if_true _ _ (both_true (le-leb f.saved 12 (omega (arith, few))) ∙ le-leb (12 * mtu) (length l.kept) a.space)
      ∙ if_true _ _ (usable s.keys kind) ∙ if_true _ _ (allowed mtu kind n a.ready.range.high fits) ∙ if_true _ _ a.keyed
      ∙ if_false _ _ (lt-leb 12 f.saved few) ∙ if_false _ _ (lt-leb s.queue.limit (spot_of s e (12 + n)).datagram below)
      ∙ if_false _ _ (lt-leb 281474976710655 (next_of s.keys e) fresh)

  pub piece-laid : piece_of kind body at n s f l.queue l.kept ≡ lay_one kind body at n l
  unfolding piece_of lay_one save_state save_queue save_kept
  piece-laid =
      let d = ap is_done piece-done in
      let g : is_done (save_answer s f (length l.queue) (length l.kept) e 22 (length content)) ≡ true =
      ap (λ (x : ℕ). is_done (save_answer s f (length l.queue) (length l.kept) e 22 x)) long ∙ d in
      λ i. record {
        saved = record { answer = piece-done i; state = if_true (laid_state s e (12 + n)) s d i; flight = if_true (saved_with f 22 e (next_of s.keys e) (12 + n)) f d i };
        queue = if_true (laid_memory s e 22 content l.queue) l.queue g i;
        kept = if_true (saved_memory f mtu content l.kept) l.kept g i;
      }

  answered : (piece_of kind body at n s f l.queue l.kept).saved.answer ≡ Ok tt
  unfolding piece_of save_state
  answered = piece-done

  -- ---- what the piece leaves

  in_queue : start_of s.queue (spot_of s e (12 + n)) + record_len e (12 + n) ≤ length l.queue
  unfolding start_of
  in_queue = omega (arith, (spot a.ready place-fits).space)

  laid-fits : start_of s.queue (spot_of s e (length content)) + length (record_bytes e 22 (next_of s.keys e) content) ≤ length l.queue
  unfolding start_of
  laid-fits =
      rw (length_record e 22 (next_of s.keys e) content, long) in_queue

  saved-fits : f.saved * mtu + length content ≤ length l.kept
  saved-fits =
      omega (
        arith,
        long,
        (kept-fits {f = f} {mtu = mtu} {room = length l.kept} {n = 12 + n} (record {
          high = a.ready.range.high;
          saved = few;
          space = a.space;
          short = omega (arith, fits, len_over e (12 + n));
        })).0,
      )

  queue_long : length (lay_one kind body at n l).queue ≡ length l.queue
  unfolding lay_one laid_memory
  queue_long = length-splice _ _ _ laid-fits

  kept-long : length (lay_one kind body at n l).kept ≡ length l.kept
  unfolding lay_one saved_memory
  kept-long = length-splice _ _ _ saved-fits

  pub rest-next : (cut_next mtu (overhead e) (cut_at body at l)).rest ≡ length body - (at + n)
  unfolding cut_next tail_of
  rest-next = omega arith

  -- the rest is cut as the dry run cut it
  cut_on : cut_at body (at + n) (lay_one kind body at n l) ≡ cut_next mtu (overhead e) (cut_at body at l)
  unfolding lay_one laid_state
  cut_on = λ i. record { tail = ends_same i; rest = rest-same i }
    where
      ends_same : tail_of (laid s.queue (spot_of s e (12 + n)) (record_len e (12 + n))) ≡ (cut_next mtu (overhead e) (cut_at body at l)).tail
      ends_same = tail-laid a.ready.range place-fits a.slots ∙ sym seen

      rest-same : length body - (at + n) ≡ (cut_next mtu (overhead e) (cut_at body at l)).rest
      rest-same = omega (arith, rest-next)

  last : (cut_next mtu (overhead e) (cut_at body at l)).rest ≡ 0 → sizes_at (suc k) kind body at l ≡ n ∷ []
  last z = pieces-last mtu (overhead e) (cut_at body at l) k z ∙ ap (λ (x : ℕ). x ∷ []) sized

  module _ (more : (cut_next mtu (overhead e) (cut_at body at l)).rest ≡ 0 → ⊥) where
    pub sizes-on : sizes_at (suc k) kind body at l ≡ n ∷ sizes_at k kind body (at + n) (lay_one kind body at n l)
    unfolding lay_one laid_state laid
    sizes-on =
        pieces_more mtu (overhead e) (cut_at body at l) k more
        ∙ λ i. sized i ∷ pieces k mtu (overhead e) (sym cut_on i)

    reach-on : plan_reach k mtu (overhead e) (cut_at body (at + n) (lay_one kind body at n l)) ≤ s.queue.limit
    reach-on = rw cut_on (omega (arith, a.reach, reach-more mtu (overhead e) (cut_at body at l) k more))

    pub able-on : Able k kind body (at + n) (lay_one kind body at n l)
    unfolding lay_one laid_state laid saved_with
    able-on = record {
      ready = record { range = laid-range a.ready.range place-fits; space = omega (arith, a.ready.space, queue_long) };
      slots = simp length-set a.slots;
      keyed = keyed-still s.keys e ∙ a.keyed;
      space = omega (arith, a.space, kept-long);
      inside = ends;
      saved = omega (arith, a.saved, ap length sizes-on);
      reach = reach-on;
      number = omega (arith, a.number, ap length sizes-on, used-next s.keys e);
    }

-- ---- all pieces

-- each send of a message that can be sent is done, so that all are laid
pub all_laid : (k kind : ℕ) (body : List ℕ) (at : ℕ) (l : Laid) → Able k kind body at l → send_all k kind body at l ≡ lay_all kind body at (sizes_at k kind body at l) l
unfolding send_all lay_all pieces
all_laid zero kind body at l a = refl
all_laid (suc k) kind body at l a =
    let size : ℕ = n k kind body at l a in
    test_cases (eqb (cut_next l.saved.state.queue.mtu (overhead (epoch_of kind)) (cut_at body at l)).rest 0)
    (λ z.
    let end = eqb-true (cut_next l.saved.state.queue.mtu (overhead (epoch_of kind)) (cut_at body at l)).rest 0 z in
    all-last kind body at l k (sym (rest-next k kind body at l a) ∙ end) ∙ piece-laid k kind body at l a
    ∙ sym (ap (λ (ns : List ℕ). lay_all kind body at ns l) (last k kind body at l a end)))
    (λ z.
    let more = eqb-false (cut_next l.saved.state.queue.mtu (overhead (epoch_of kind)) (cut_at body at l)).rest 0 z in
    all_more kind body at l k (λ y. more (rest-next k kind body at l a ∙ y)) ∙ ap (send_all k kind body (at + size)) (piece-laid k kind body at l a)
    ∙ all_laid k kind body (at + size) (lay_one kind body at size l) (able-on k kind body at l a more)
    ∙ sym (ap (λ (ns : List ℕ). lay_all kind body at ns l) (sizes-on k kind body at l a more)))

pub each-done : (k kind : ℕ) (body : List ℕ) (at : ℕ) (l : Laid) → Able k kind body at l → EachDone kind body at (sizes_at k kind body at l) l
unfolding pieces
each-done zero kind body at l a = tt
each-done (suc k) kind body at l a =
    let size : ℕ = n k kind body at l a in
    let done = answered k kind body at l a in
    let same : ◌≡◌ {A = Laid} (lay_one kind body at size l) (piece_of kind body at size l.saved.state l.saved.flight l.queue l.kept) = sym (piece-laid k kind body at l a) in
    test_cases (eqb (cut_next l.saved.state.queue.mtu (overhead (epoch_of kind)) (cut_at body at l)).rest 0)
    (λ z.
    let end = eqb-true (cut_next l.saved.state.queue.mtu (overhead (epoch_of kind)) (cut_at body at l)).rest 0 z in
    subst (λ (ns : List ℕ). EachDone kind body at ns l) (sym (last k kind body at l a end)) (done, tt))
    (λ z.
    let more = eqb-false (cut_next l.saved.state.queue.mtu (overhead (epoch_of kind)) (cut_at body at l)).rest 0 z in
    let rest = each-done k kind body (at + size) (lay_one kind body at size l) (able-on k kind body at l a more) in
    subst (λ (ns : List ℕ). EachDone kind body at ns l) (sym (sizes-on k kind body at l a more))
    (done, subst (λ (x : Laid). EachDone kind body (at + size) (sizes_at k kind body (at + size) (lay_one kind body at size l)) x) same rest))

pub all_placed : (k kind : ℕ) (body : List ℕ) (at : ℕ) (l : Laid) → Able k kind body at l → AllPlaced kind body at (sizes_at k kind body at l) l
unfolding pieces
all_placed zero kind body at l a = tt
all_placed (suc k) kind body at l a =
    let size : ℕ = n k kind body at l a in
    let here : Placed kind body at size l = record {
      range = a.ready.range;
      slots = a.slots;
      fits = place-fits k kind body at l a;
      inside = ends k kind body at l a;
      long = long k kind body at l a;
      saved = few k kind body at l a;
      space = saved-fits k kind body at l a;
      short = omega (arith, fits k kind body at l a, len_over (epoch_of kind) (12 + size));
      room = in_queue k kind body at l a;
    } in
    test_cases (eqb (cut_next l.saved.state.queue.mtu (overhead (epoch_of kind)) (cut_at body at l)).rest 0)
    (λ z.
    let end = eqb-true (cut_next l.saved.state.queue.mtu (overhead (epoch_of kind)) (cut_at body at l)).rest 0 z in
    subst (λ (ns : List ℕ). AllPlaced kind body at ns l) (sym (last k kind body at l a end)) (here, tt))
    (λ z.
    let more = eqb-false (cut_next l.saved.state.queue.mtu (overhead (epoch_of kind)) (cut_at body at l)).rest 0 z in
    subst (λ (ns : List ℕ). AllPlaced kind body at ns l) (sym (sizes-on k kind body at l a more))
    (here, all_placed k kind body (at + size) (lay_one kind body at size l) (able-on k kind body at l a more)))
