-- A flight sent again, and the ACK sent: the queue then means the same datagrams and the records laid behind them. Closing a datagram changes
-- no meaning. Assumes nothing.
use Rattle.std.specs.Prelude.{Bool, true, false, ◌≡◌, refl, eqb, length}
use Rattle.std.proofs.lemmas.Bool.{false≢true}
use mathlib.Core.List.{List, [], ◌∷◌, ◌++◌, append_assoc, append-nil}
use Rattle.std.proofs.Math.Path.{sym, ap, subst}
use Rattle.std.proofs.Common.{◌∙◌}
use Prim.Native.Nat.{ℕ, zero, suc, ◌+◌, ◌≤◌, ◌<◌}
use native.Mathlib.Omega.{arith}
use Rattle.base.specs.Choose.{choose, by_test, test_cases, if_true, if_false}
use Rattle.queue.specs.Queue.{with_end}
use Rattle.queue.specs.declared.Queue.{Queue}
use Rattle.send_keys.specs.Keys.{next_of}
use Rattle.outgoing.specs.declared.Sending.{Sending}
use Rattle.outgoing.specs.Send.{send_answer, send_state, send_memory}
use Rattle.flight.specs.declared.Entry.{Entry}
use Rattle.flight.specs.declared.Flight.{Flight}
use Rattle.flight.specs.Flight.{entry_at}
use Rattle.acks.specs.declared.Notes.{Notes}
use Rattle.acks.specs.declared.AckSent.{AckSent}
use Rattle.acks.specs.Acks.{ack_epoch, ack_content, ack_len, notice_state, notice_memory, ack_answer, ack_sent, nothing_sent, sent_ack, ack_memory}
use Rattle.acks.proofs.Acks.{length-content}
use Rattle.flight.specs.declared.Saved.{Saved}
use Rattle.resend.specs.Tests.{closed_state, closed-range}
use Rattle.resend.specs.Resend.{Laying, content_at, sent_again, again_answer, again_at, again_after, resend_state, resend_queue}
use Rattle.resend_laws.specs.Steps.{Tables, beginning, reached, kept_content, number_again}
use Rattle.resend_laws.specs.Whole.{Whole, answer_to}
use Rattle.resend_laws.proofs.Whole.{resent-whole}
use Rattle.send_keys.specs.Answer.{SendAnswer, is_done}
use Rattle.waiting_laws.specs.Queued.{Queued, laid_as, flat, Rows, Holds}
use Rattle.waiting_laws.proofs.Sends.{record_of, sent_to, after_send, send_holds, sent-last}
use Rattle.waiting_laws.proofs.Pieces.{Behind, behind-same, behind_twice, behind_send}

-- ---- the datagram is closed

rows-closed : (q : Queue) (c : Bool) (mem : List ℕ) (i : ℕ) (ds : List (List Queued)) → Rows q mem i ds
    → Rows (with_end q q.count c q.lengths) mem i ds
rows-closed q c mem i [] r = tt
rows-closed q c mem i (d ∷ ds) r = (r.0, rows-closed q c mem (i + 1) ds r.1)

pub closed-holds : (s : Sending) (mem : List ℕ) (ds : List (List Queued)) → Holds s mem ds → Holds (closed_state s) mem ds
unfolding closed_state
closed-holds s mem ds h = record {
  range = closed-range s h.range;
  room = h.room;
  table = h.table;
  count = h.count;
  rows = rows-closed s.queue true mem 0 ds h.rows;
  order = h.order;
  oldest = h.oldest;
  keys = h.keys;
}

-- ---- one record sent again

-- what the queue means behind the i-th saved record, sent again or passed over
abbrev pub after_again : List ℕ → ℕ → Laying → List (List Queued) → List (List Queued)
after_again kept i l ds =
    choose (entry_at l.flight i).marked ds
    (after_send (again_answer kept i l) l.state (entry_at l.flight i).epoch (entry_at l.flight i).content_type (content_at kept i l) ds)

pub again-holds : (kept : List ℕ) (i : ℕ) (l : Laying) (ds : List (List Queued)) → Holds l.state l.queue ds
    → Holds (again_at kept i l).state (again_at kept i l).queue (after_again kept i l ds)
unfolding again_at sent_again
again-holds kept i l ds h =
    let e : Entry = entry_at l.flight i in
    let sent : Laying = sent_again (again_answer kept i l) kept i l in
    let us : List (List Queued) = after_send (again_answer kept i l) l.state e.epoch e.content_type (content_at kept i l) ds in
    test_cases e.marked
    (λ m. subst (λ (u : Laying). Holds u.state u.queue (choose e.marked ds us)) (sym (if_true l sent m)) (subst (Holds l.state l.queue) (sym (if_true ds us m)) h))
    (λ m. subst (λ (u : Laying). Holds u.state u.queue (choose e.marked ds us)) (sym (if_false l sent m))
    (subst (Holds sent.state sent.queue) (sym (if_false ds us m)) (send_holds l.state l.queue ds h e.epoch e.content_type (content_at kept i l))))

pub behind-again : (kept : List ℕ) (i : ℕ) (l : Laying) (ds : List (List Queued)) → Behind (flat ds) (flat (after_again kept i l ds))
behind-again kept i l ds =
    by_test (λ (us : List (List Queued)). Behind (flat ds) (flat us)) (λ m. behind-same (flat ds))
    (λ m. behind_send (again_answer kept i l) l.state (entry_at l.flight i).epoch (entry_at l.flight i).content_type (content_at kept i l) ds)

-- ---- the first n

unfoldable pub again_sent : List ℕ → Laying → ℕ → List (List Queued) → List (List Queued)
again_sent kept l zero ds = ds
again_sent kept l (suc n) ds = after_again kept n (again_after kept l n) (again_sent kept l n ds)

pub again-all-holds : (kept : List ℕ) (l : Laying) (n : ℕ) (ds : List (List Queued)) → Holds l.state l.queue ds
    → Holds (again_after kept l n).state (again_after kept l n).queue (again_sent kept l n ds)
unfolding again_after again_sent
again-all-holds kept l zero ds h = h
again-all-holds kept l (suc n) ds h = again-holds kept n (again_after kept l n) (again_sent kept l n ds) (again-all-holds kept l n ds h)

pub behind-again-all : (kept : List ℕ) (l : Laying) (n : ℕ) (ds : List (List Queued)) → Behind (flat ds) (flat (again_sent kept l n ds))
unfolding again_sent
behind-again-all kept l zero ds = behind-same (flat ds)
behind-again-all kept l (suc n) ds =
    behind_twice (flat ds) (flat (again_sent kept l n ds)) (flat (again_sent kept l (suc n) ds)) (behind-again-all kept l n ds) (behind-again kept n (again_after kept l n) (again_sent kept l n ds))

-- ---- the call

abbrev pub after_resend : SendAnswer → Sending → Flight → List ℕ → List ℕ → List (List Queued) → List (List Queued)
after_resend a s f kept q ds = choose (is_done a) (again_sent kept (beginning s f q) f.saved ds) ds

pub resend_holds : (a : SendAnswer) (s : Sending) (f : Flight) (kept q : List ℕ) (ds : List (List Queued)) → Holds s q ds
    → Holds (resend_state a s f kept q).state (resend_queue a s f kept q) (after_resend a s f kept q ds)
unfolding resend_state resend_queue
resend_holds a s f kept q ds h =
    let l : Laying = reached s f kept q f.saved in
    let us : List (List Queued) = again_sent kept (beginning s f q) f.saved ds in
    let all : Holds l.state l.queue us = again-all-holds kept (beginning s f q) f.saved ds (closed-holds s q ds h) in
    let yes : Saved = record { answer = a; state = l.state; flight = l.flight } in
    let not : Saved = record { answer = a; state = s; flight = f } in
    test_cases (is_done a)
    (λ d. rw (if_true l.queue q d, if_true us ds d) (subst (λ (r : Saved). Holds r.state l.queue us) (sym (if_true yes not d)) all))
    (λ d. rw (if_false l.queue q d, if_false us ds d) (subst (λ (r : Saved). Holds r.state q ds) (sym (if_false yes not d)) h))

pub behind_resend : (a : SendAnswer) (s : Sending) (f : Flight) (kept q : List ℕ) (ds : List (List Queued)) → Behind (flat ds) (flat (after_resend a s f kept q ds))
behind_resend a s f kept q ds =
    by_test (λ (us : List (List Queued)). Behind (flat ds) (flat us)) (λ d. behind-again-all kept (beginning s f q) f.saved ds) (λ d. behind-same (flat ds))

-- ---- exactly which records

-- the first n saved records but for the marked ones, each with its epoch, type and content, under its new number
unfoldable pub records_again : Sending → Flight → List ℕ → ℕ → List Queued
records_again s f kept zero = []
records_again s f kept (suc n) =
    records_again s f kept n
    ++ choose (entry_at f n).marked [] (laid_as (entry_at f n).epoch (entry_at f n).content_type (number_again s f n) (kept_content s.queue.mtu f kept n) ∷ [])

pub records-next : (s : Sending) (f : Flight) (kept : List ℕ) (n : ℕ) → records_again s f kept (suc n)
    ≡ records_again s f kept n
    ++ choose (entry_at f n).marked [] (laid_as (entry_at f n).epoch (entry_at f n).content_type (number_again s f n) (kept_content s.queue.mtu f kept n) ∷ [])
unfolding records_again
records-next s f kept n = refl

module _ (s : Sending) (f : Flight) (kept q : List ℕ) (ds : List (List Queued)) (w : Whole s f kept q) where
  abbrev queued : ℕ → List (List Queued)
  queued n = again_sent kept (beginning s f q) n ds

  -- the record that is laid for the n-th
  record_again : (n : ℕ) → n < f.saved → (entry_at f n).marked ≡ false
      → record_of (reached s f kept q n).state (entry_at (reached s f kept q n).flight n).epoch (entry_at (reached s f kept q n).flight n).content_type (content_at kept n (reached s f kept q n))
      ≡ laid_as (entry_at f n).epoch (entry_at f n).content_type (number_again s f n) (kept_content s.queue.mtu f kept n)
  record_again n h m =
      let l : Laying = reached s f kept q n in
      ap (λ (e : Entry). laid_as e.epoch e.content_type (next_of l.state.keys e.epoch) (content_at kept n l)) (w.still n h)
      ∙ ap (λ (k : ℕ). laid_as (entry_at f n).epoch (entry_at f n).content_type k (content_at kept n l)) (w.number n h m)
      ∙ ap (λ (x : List ℕ). laid_as (entry_at f n).epoch (entry_at f n).content_type (number_again s f n) x) (w.content n h m)

  sent_exactly : (n : ℕ) → n ≤ f.saved → flat (queued n) ≡ flat ds ++ records_again s f kept n
  unfolding again_sent records_again
  sent_exactly zero h = sym (append-nil (flat ds))
  sent_exactly (suc n) h =
      let l : Laying = reached s f kept q n in
      let e : Entry = entry_at l.flight n in
      let before : flat (queued n) ≡ flat ds ++ records_again s f kept n = sent_exactly n (omega arith) in
      let below : n < f.saved = omega arith in
      test_cases (entry_at f n).marked
      (λ m.
      ap flat (if_true _ _ (ap (λ (x : Entry). x.marked) (w.still n below) ∙ m)) ∙ before
      ∙ ap (λ (r : List Queued). flat ds ++ r) (sym (append-nil (records_again s f kept n)) ∙ ap (λ (r : List Queued). records_again s f kept n ++ r) (sym (if_true _ _ m))))
      (λ m.
      ap flat (if_false _ _ (ap (λ (x : Entry). x.marked) (w.still n below) ∙ m)) ∙ ap flat (if_true _ _ (ap is_done (w.sent n below m)))
      ∙ sent-last l.state e.epoch e.content_type (content_at kept n l) (queued n)
      ∙ ap (λ (r : List Queued). r ++ record_of l.state e.epoch e.content_type (content_at kept n l) ∷ []) before
      ∙ ap (λ (r : Queued). (flat ds ++ records_again s f kept n) ++ r ∷ []) (record_again n below m)
      ∙ append_assoc (flat ds) (records_again s f kept n) _
      ∙ ap (λ (r : List Queued). flat ds ++ (records_again s f kept n ++ r)) (sym (if_false _ _ m)))

-- an accepted resend adds exactly these records, behind all others
pub resend_adds : (s : Sending) (f : Flight) (kept q : List ℕ) (ds : List (List Queued)) → Tables s f → is_done (answer_to s f kept q) ≡ true
    → flat (after_resend (answer_to s f kept q) s f kept q ds) ≡ flat ds ++ records_again s f kept f.saved
resend_adds s f kept q ds t d = ap flat (if_true _ _ d) ∙ sent_exactly s f kept q ds (resent-whole s f kept q t d) f.saved (omega arith)

-- ---- the ACK

abbrev ack_to : Sending → Notes → List ℕ → SendAnswer
ack_to s n q = send_answer s (length q) (ack_epoch s.keys) 26 (ack_len n)

-- what the queue means behind a call that sends the ACK: one record of type 26 more, or the same where none is noted or it is refused
abbrev pub after_ack : Sending → Notes → List ℕ → List (List Queued) → List (List Queued)
after_ack s n q ds =
    choose (is_done (ack_answer s n (length q)))
    (choose (eqb n.count 0) ds (after_send (send_answer s (length q) (ack_epoch s.keys) 26 (ack_len n)) s (ack_epoch s.keys) 26 (ack_content n) ds)) ds

notice_holds : (s : Sending) (n : Notes) (q : List ℕ) (ds : List (List Queued)) → Holds s q ds
    → Holds (notice_state s n (length q)).state (notice_memory s n q) (after_send (ack_to s n q) s (ack_epoch s.keys) 26 (ack_content n) ds)
unfolding notice_state notice_memory
notice_holds s n q ds h =
    let e : ℕ = ack_epoch s.keys in
    subst (λ (k : ℕ). Holds (send_state (send_answer s (length q) e 26 k) s e k).state (send_memory (send_answer s (length q) e 26 k) s e 26 (ack_content n) q) (after_send (send_answer s (length q) e 26 k) s e 26 (ack_content n) ds))
    (length-content n) (send_holds s q ds h e 26 (ack_content n))

pub ack-holds : (s : Sending) (n : Notes) (q : List ℕ) (ds : List (List Queued)) → Holds s q ds → Holds (sent_ack s n (length q)).state (ack_memory s n q) (after_ack s n q ds)
unfolding sent_ack ack_memory ack_sent
ack-holds s n q ds h =
    let a : SendAnswer = ack_answer s n (length q) in
    let us : List (List Queued) = after_send (ack_to s n q) s (ack_epoch s.keys) 26 (ack_content n) ds in
    let none : AckSent = nothing_sent a s n in
    let some : AckSent = ack_sent (notice_state s n (length q)) n in
    let one : List ℕ = notice_memory s n q in
    test_cases (is_done a)
    (λ d. test_cases (eqb n.count 0)
    (λ z. three (if_true _ none d ∙ if_true none some z) (if_true _ q d ∙ if_true q one z) (if_true _ ds d ∙ if_true ds us z) h)
    (λ z. three (if_true _ none d ∙ if_false none some z) (if_true _ q d ∙ if_false q one z) (if_true _ ds d ∙ if_false ds us z) (notice_holds s n q ds h)))
    (λ d. three (if_false (choose (eqb n.count 0) none some) none d) (if_false (choose (eqb n.count 0) q one) q d) (if_false (choose (eqb n.count 0) ds us) ds d) h)
  where
    three : {r v : AckSent} {m p : List ℕ} {xs ys : List (List Queued)} → r ≡ v → m ≡ p → xs ≡ ys → Holds v.state p ys → Holds r.state m xs
    three {r} {v} {m} {p} {xs} {ys} a b c k =
        subst (λ (u : AckSent). Holds u.state m xs) (sym a) (subst (λ (l : List ℕ). Holds v.state l xs) (sym b) (subst (Holds v.state p) (sym c) k))

pub behind-ack : (s : Sending) (n : Notes) (q : List ℕ) (ds : List (List Queued)) → Behind (flat ds) (flat (after_ack s n q ds))
behind-ack s n q ds =
    by_test (λ (us : List (List Queued)). Behind (flat ds) (flat us))
    (λ d. by_test (λ (us : List (List Queued)). Behind (flat ds) (flat us)) (λ z. behind-same (flat ds)) (λ z. behind_send (ack_to s n q) s (ack_epoch s.keys) 26 (ack_content n) ds))
    (λ d. behind-same (flat ds))

module _ (s : Sending) (n : Notes) (q : List ℕ) (ds : List (List Queued)) where
  abbrev noticed : List (List Queued)
  noticed = after_send (ack_to s n q) s (ack_epoch s.keys) 26 (ack_content n) ds

  -- by the answers: whether it was sent, and what is then queued
  by_notice : (P : Bool → List (List Queued) → Type 0) → P false ds → (is_done (ack_to s n q) ≡ true → P true (sent_to s (ack_epoch s.keys) 26 (ack_content n) ds))
      → P (sent_ack s n (length q)).sent (after_ack s n q ds)
  unfolding sent_ack ack_sent notice_state send_state
  by_notice P unsent isSent =
      let a : SendAnswer = ack_answer s n (length q) in
      let none : AckSent = nothing_sent a s n in
      let some : AckSent = ack_sent (notice_state s n (length q)) n in
      test_cases (is_done a)
      (λ d. test_cases (eqb n.count 0)
      (λ z. two (if_true _ none d ∙ if_true none some z) (if_true _ ds d ∙ if_true ds noticed z) unsent)
      (λ z. two (if_true _ none d ∙ if_false none some z) (if_true _ ds d ∙ if_false ds noticed z)
      (test_cases (is_done (ack_to s n q)) (λ y. subst (P (is_done (ack_to s n q))) (sym (if_true _ _ y)) (subst (λ (b : Bool). P b (sent_to s (ack_epoch s.keys) 26 (ack_content n) ds)) (sym y) (isSent y)))
      (λ y. subst (P (is_done (ack_to s n q))) (sym (if_false _ _ y)) (subst (λ (b : Bool). P b ds) (sym y) unsent)))))
      (λ d. two (if_false (choose (eqb n.count 0) none some) none d) (if_false (choose (eqb n.count 0) ds noticed) ds d) unsent)
    where
      two : {r v : AckSent} {xs ys : List (List Queued)} → r ≡ v → xs ≡ ys → P v.sent ys → P r.sent xs
      two {r} {v} {xs} {ys} a b p = subst (λ (u : AckSent). P u.sent xs) (sym a) (subst (P v.sent) (sym b) p)

  -- an ACK sent is one record of type 26 with the noted pairs, behind all others; else nothing is added
  pub ack-adds : (sent_ack s n (length q)).sent ≡ true → flat (after_ack s n q ds) ≡ flat ds ++ record_of s (ack_epoch s.keys) 26 (ack_content n) ∷ []
  ack-adds =
      by_notice (λ (b : Bool) (us : List (List Queued)). b ≡ true → flat us ≡ flat ds ++ record_of s (ack_epoch s.keys) 26 (ack_content n) ∷ []) (λ y. absurd (false≢true y))
      (λ d y. sent-last s (ack_epoch s.keys) 26 (ack_content n) ds)

  pub ack-adds-none : (sent_ack s n (length q)).sent ≡ false → after_ack s n q ds ≡ ds
  ack-adds-none = by_notice (λ (b : Bool) (us : List (List Queued)). b ≡ false → us ≡ ds) (λ y. refl) (λ d y. absurd (false≢true (sym y)))
