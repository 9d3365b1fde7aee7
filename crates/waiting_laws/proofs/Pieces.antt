-- A handshake message: each piece is a saved send, so the queue means the same datagrams and the pieces' records behind them, in order.
-- Assumes nothing.
use Rattle.std.specs.Prelude.{List, [], ◌∷◌, ◌++◌, ◌≡◌, ℕ, zero, suc, ◌+◌, ◌-◌, ◌≤◌, eqb, length}
use Rattle.std.proofs.Common.{append_assoc, append-nil, sym, ap, subst, ◌∙◌, arith}
use Rattle.base.specs.Choose.{choose, by_test, test_cases, if_true, if_false}
use Rattle.queue.specs.Queue.{last_len}
use Rattle.outgoing.specs.declared.Sending.{Sending}
use Rattle.flight.specs.declared.Flight.{Flight}
use Rattle.flight.specs.declared.Saved.{Saved}
use Rattle.flight.specs.Save.{save_answer, save_state, save_queue}
use Rattle.messages.specs.Cut.{epoch_of, overhead, size-rest}
use Rattle.outgoing.specs.State.{numbered}
use Rattle.messages.specs.Message.{content_of, Laid, piece_of, size_now, send_all, beginning, sent_all, message_state, message_queue, length-content}
use Rattle.send_keys.specs.Answer.{SendAnswer, is_done}
use Rattle.waiting_laws.specs.Queued.{Queued, flat, AsLaid, Holds}
use Rattle.waiting_laws.proofs.Lists.{laid-append}
use Rattle.waiting_laws.proofs.Sends.{record_of, after_send, save_holds, sent-last, record_as_laid}

-- the content of a piece
abbrev pub piece_content : ℕ → List ℕ → ℕ → ℕ → Sending → List ℕ
piece_content kind body at n s = content_of kind s.message_seq body at n

-- what the queue means behind a piece of n bytes from an offset on
abbrev pub after_piece : ℕ → List ℕ → ℕ → ℕ → Sending → Flight → List ℕ → List ℕ → List (List Queued) → List (List Queued)
after_piece kind body at n s f q m ds =
    after_send (save_answer s f (length q) (length m) (epoch_of kind) 22 (12 + n)) s (epoch_of kind) 22 (piece_content kind body at n s) ds

-- a piece keeps the meaning, whether it is sent or refused
pub piece-holds : (kind : ℕ) (body : List ℕ) (at n : ℕ) (s : Sending) (f : Flight) (q m : List ℕ) (ds : List (List Queued)) → at + n ≤ length body → Holds s q ds
    → Holds (piece_of kind body at n s f q m).saved.state (piece_of kind body at n s f q m).queue (after_piece kind body at n s f q m ds)
unfolding piece_of
piece-holds kind body at n s f q m ds h g =
    let x : List ℕ = piece_content kind body at n s in
    let e : ℕ = epoch_of kind in
    subst (λ (k : ℕ). Holds (save_state s f (length q) (length m) e 22 k).state (save_queue s f (length m) e 22 x q) (after_send (save_answer s f (length q) (length m) e 22 k) s e 22 x ds))
    (length-content kind s.message_seq body at n h) (save_holds s q ds g e 22 x f (length m))

-- ---- one piece after the other

module _ (kind : ℕ) (body : List ℕ) (at : ℕ) (l : Laid) (ds : List (List Queued)) where
  abbrev next : ℕ
  next = size_now kind l.saved.state (length body - at)

  abbrev sent : Laid
  sent = piece_of kind body at next l.saved.state l.saved.flight l.queue l.kept

  abbrev meant : List (List Queued)
  meant = after_piece kind body at next l.saved.state l.saved.flight l.queue l.kept ds

-- what the queue means behind at most k pieces
unfoldable pub all_sent : ℕ → ℕ → List ℕ → ℕ → Laid → List (List Queued) → List (List Queued)
all_sent zero kind body at l ds = ds
all_sent (suc k) kind body at l ds =
    choose (eqb (length body - (at + next kind body at l ds)) 0) (meant kind body at l ds)
    (all_sent k kind body (at + next kind body at l ds) (sent kind body at l ds) (meant kind body at l ds))

pub all-holds : (k kind : ℕ) (body : List ℕ) (at : ℕ) (l : Laid) (ds : List (List Queued)) → at ≤ length body → Holds l.saved.state l.queue ds
    → Holds (send_all k kind body at l).saved.state (send_all k kind body at l).queue (all_sent k kind body at l ds)
unfolding send_all all_sent
all-holds zero kind body at l ds h g = g
all-holds (suc k) kind body at l ds h g =
    let n : ℕ = next kind body at l ds in
    let low : at + n ≤ length body = omega (arith, size-rest l.saved.state.queue.mtu (overhead (epoch_of kind)) (last_len l.saved.state.queue) (length body - at)) in
    let piece = piece-holds kind body at n l.saved.state l.saved.flight l.queue l.kept ds low g in
    let p : Laid = sent kind body at l ds in
    let us : List (List Queued) = meant kind body at l ds in
    test_cases (eqb (length body - (at + n)) 0)
    (λ z.
    rw (if_true p (send_all k kind body (at + n) p) z, if_true us (all_sent k kind body (at + n) p us) z) piece)
    (λ z.
    rw (if_false p (send_all k kind body (at + n) p) z, if_false us (all_sent k kind body (at + n) p us) z) (all-holds k kind body (at + n) p us low piece))

-- ---- a message

-- a message's number is no part of the meaning
pub numbered-holds : (s : Sending) (q : List ℕ) (ds : List (List Queued)) (n : ℕ) → Holds s q ds → Holds (numbered s n) q ds
numbered-holds s q ds n h = record {
  range = h.range;
  room = h.room;
  table = h.table;
  count = h.count;
  rows = h.rows;
  order = h.order;
  oldest = h.oldest;
  keys = h.keys;
}

abbrev pub after_message : SendAnswer → Sending → Flight → List ℕ → List ℕ → ℕ → List ℕ → List (List Queued) → List (List Queued)
after_message a s f q m kind body ds = choose (is_done a) (all_sent 13 kind body 0 (beginning s f q m) ds) ds

pub message-holds : (a : SendAnswer) (s : Sending) (f : Flight) (q m : List ℕ) (kind : ℕ) (body : List ℕ) (ds : List (List Queued)) → Holds s q ds
    → Holds (message_state a s f q m kind body).state (message_queue a s f q m kind body) (after_message a s f q m kind body ds)
unfolding message_state message_queue
message-holds a s f q m kind body ds h =
    let l : Laid = sent_all s f q m kind body in
    let all = all-holds 13 kind body 0 (beginning s f q m) ds (omega arith) h in
    test_cases (is_done a)
    (λ d.
    let st : choose (is_done a) (record { answer = a; state = numbered l.saved.state (s.message_seq + 1); flight = l.saved.flight }) (record { answer = a; state = s; flight = f })
    ≡ record { answer = a; state = numbered l.saved.state (s.message_seq + 1); flight = l.saved.flight } = if_true _ _ d in
    rw (if_true l.queue q d, if_true (all_sent 13 kind body 0 (beginning s f q m) ds) ds d)
    (subst (λ (u : Saved). Holds u.state l.queue (all_sent 13 kind body 0 (beginning s f q m) ds)) (sym st)
    (numbered-holds l.saved.state l.queue (all_sent 13 kind body 0 (beginning s f q m) ds) (s.message_seq + 1) all)))
    (λ d.
    let st : choose (is_done a) (record { answer = a; state = numbered l.saved.state (s.message_seq + 1); flight = l.saved.flight }) (record { answer = a; state = s; flight = f })
    ≡ record { answer = a; state = s; flight = f } = if_false _ _ d in
    rw (if_false l.queue q d, if_false (all_sent 13 kind body 0 (beginning s f q m) ds) ds d)
    (subst (λ (u : Saved). Holds u.state q ds) (sym st) h))

-- ---- records are only added behind the others

pub record Behind (rs us : List Queued) : Type 0 where
  pub more : List Queued
  pub laid : AsLaid more
  pub all : us ≡ rs ++ more

pub behind-same : (rs : List Queued) → Behind rs rs
behind-same rs = record { more = []; laid = tt; all = sym (append-nil rs) }

pub behind_twice : (rs us vs : List Queued) → Behind rs us → Behind us vs → Behind rs vs
behind_twice rs us vs a b = record {
  more = a.more ++ b.more;
  laid = laid-append a.more b.more a.laid b.laid;
  all = b.all ∙ ap (λ (l : List Queued). l ++ b.more) a.all ∙ append_assoc rs a.more b.more;
}

pub behind_send : (a : SendAnswer) (s : Sending) (e t : ℕ) (x : List ℕ) (ds : List (List Queued)) → Behind (flat ds) (flat (after_send a s e t x ds))
behind_send a s e t x ds =
    by_test (λ (us : List (List Queued)). Behind (flat ds) (flat us))
    (λ d. record { more = record_of s e t x ∷ []; laid = record_as_laid s e t x; all = sent-last s e t x ds }) (λ d. behind-same (flat ds))

pub behind-all : (k kind : ℕ) (body : List ℕ) (at : ℕ) (l : Laid) (ds : List (List Queued)) → Behind (flat ds) (flat (all_sent k kind body at l ds))
unfolding all_sent
behind-all zero kind body at l ds = behind-same (flat ds)
behind-all (suc k) kind body at l ds =
    let us : List (List Queued) = meant kind body at l ds in
    let n : ℕ = next kind body at l ds in
    let one : Behind (flat ds) (flat us) = behind_send (save_answer l.saved.state l.saved.flight (length l.queue) (length l.kept) (epoch_of kind) 22 (12 + n)) l.saved.state (epoch_of kind) 22 (piece_content kind body at n l.saved.state) ds in
    by_test (λ (vs : List (List Queued)). Behind (flat ds) (flat vs)) (λ z. one)
    (λ z. behind_twice (flat ds) (flat us) (flat (all_sent k kind body (at + n) (sent kind body at l ds) us)) one (behind-all k kind body (at + n) (sent kind body at l ds) us))

pub behind-message : (a : SendAnswer) (s : Sending) (f : Flight) (q m : List ℕ) (kind : ℕ) (body : List ℕ) (ds : List (List Queued)) → Behind (flat ds) (flat (after_message a s f q m kind body ds))
behind-message a s f q m kind body ds =
    by_test (λ (us : List (List Queued)). Behind (flat ds) (flat us)) (λ d. behind-all 13 kind body 0 (beginning s f q m) ds) (λ d. behind-same (flat ds))
