-- What noting, sending and acting on an ACK leave of the words, by the definitions on notes, state and flight. Assumes nothing.
use Rattle.std.specs.Prelude.{Bool, true, false, List, ◌≡◌, ℕ, ◌+◌, ◌≤◌, ◌<◌, length, get_or, set, Ok, Err}
use Rattle.std.proofs.Math.Path.{refl, sym, ap}
use Rattle.std.proofs.Common.{◌∙◌, arith}
use borrow.Author.Tests.{lt-ltb, le-ltb, eq-eqb, ne_eqb}
use Rattle.base.specs.Choose.{choose, if_true, if_false}
use Rattle.queue.specs.Queue.{is_ready}
use Rattle.send_keys.specs.declared.SendError.TheVariants.{OutOfRange}
use Rattle.outgoing.specs.Send.{send_state}
use Rattle.flight.specs.declared.Entry.{Entry}
use Rattle.flight.specs.declared.Flight.{Flight}
use Rattle.flight.specs.Flight.{entry_at}
use Rattle.flight.specs.declared.Acted.{Acted}
use Rattle.process_ack.specs.declared.Tally.{Tally}
use Rattle.process_ack.specs.Ack.{is_acked, with_mark, mark_at, marks_after, tally_with, tally_after, is_formed, pairs_in, emptied, acked}
use Rattle.process_ack.proofs.Ack.{marks-next, later_same, tally-next, marks-saved}
use Rattle.acks.specs.declared.Notes.{Notes}
use Rattle.acks.specs.declared.Noting.{Noting}
use Rattle.acks.specs.declared.AckSent.{AckSent}
use Rattle.acks.specs.Acks.{NoteAnswer, forgotten, ack_epoch, ack_content, ack_answer, ack_sent, nothing_sent, notice_state, notice_memory, sent_ack, ack_memory}
use Rattle.acks.proofs.Acks.{length-content}
use Rattle.send_words.specs.Words.{state_of, is_flat}
use Rattle.send_steps.specs.Sends.{Sends}
use Rattle.flight_words.specs.Words.{words, saved-at, entry_at as row_at, flight_of, flat_to}
use Rattle.flight_words.specs.Laws.{begins}
use Rattle.flight_words.specs.Entries.{entry-at, Entered, with_marked}
use Rattle.send_keys.specs.Answer.{SendAnswer, is_done}

-- ---- notes

-- so many noted, in two tables
abbrev pub tabled : ℕ → List ℕ → List ℕ → Notes
tabled c e n = record { count = c; epochs = e; numbers = n }

-- what is noted: a count and two tables
abbrev pub notes_of : List ℕ → List ℕ → List ℕ → Notes
notes_of c e n = tabled (get_or c 0 0) e n

abbrev pub noting : NoteAnswer → Notes → Noting
noting a m = record { answer = a; notes = m }

-- the ACK sent: words w, notes a, queue q before; v, b, p behind
pub record SendsAck (r : SendAnswer) (v w : List ℕ) (b a : Notes) (p q : List ℕ) : Type 0 where
  pub answer : r ≡ (sent_ack (state_of w) a (length q)).answer
  pub state : state_of v ≡ (sent_ack (state_of w) a (length q)).state
  pub flat : is_flat w ≡ true → is_flat v ≡ true
  pub notes : b ≡ (sent_ack (state_of w) a (length q)).notes
  pub memory : p ≡ ack_memory (state_of w) a q

module _ (w : List ℕ) (a : Notes) (q : List ℕ) where
  -- nothing sent: what answers, and what the definition then is
  still : (r : SendAnswer) → sent_ack (state_of w) a (length q) ≡ nothing_sent r (state_of w) a → ack_memory (state_of w) a q ≡ q → SendsAck r w w a a q q
  still r e m = record {
    answer = ap (λ (x : AckSent). x.answer) (sym e);
    state = ap (λ (x : AckSent). x.state) (sym e);
    flat = λ f. f;
    notes = ap (λ (x : AckSent). x.notes) (sym e);
    memory = sym m;
  }

  refused : (r : SendAnswer) → is_done r ≡ false → ack_answer (state_of w) a (length q) ≡ r → SendsAck r w w a a q q
  unfolding sent_ack ack_memory
  refused r d e =
      let z = ap is_done e ∙ d in
      still r (if_false _ _ z ∙ ap (λ (x : SendAnswer). nothing_sent x (state_of w) a) e) (if_false _ _ z)

  pub too_many : 32 < a.count → SendsAck (Err OutOfRange) w w a a q q
  unfolding ack_answer
  too_many h = refused (Err OutOfRange) refl (if_true _ _ (lt-ltb _ _ h))

  module _ (h : a.count ≤ 32) where
    pub not_ready : is_ready (state_of w).queue (length q) ≡ false → SendsAck (Err OutOfRange) w w a a q q
    unfolding ack_answer
    not_ready r = refused (Err OutOfRange) refl (if_false _ _ (le-ltb _ _ h) ∙ if_false _ _ r)

    module _ (r : is_ready (state_of w).queue (length q) ≡ true) where
      accepted : ack_answer (state_of w) a (length q) ≡ Ok tt
      unfolding ack_answer
      accepted = if_false _ _ (le-ltb _ _ h) ∙ if_true _ _ r

      pub none-noted : a.count ≡ 0 → SendsAck (Ok tt) w w a a q q
      unfolding sent_ack ack_memory
      none-noted z =
          let d = ap is_done accepted in
          let o = eq-eqb _ _ z in
          still (Ok tt) (if_true _ _ d ∙ if_true _ _ o ∙ ap (λ (x : SendAnswer). nothing_sent x (state_of w) a) accepted) (if_true _ _ d ∙ if_true _ _ o)

      pub some-noted : (x : SendAnswer) (v p : List ℕ) (b : Notes) → (a.count ≡ 0 → ⊥) → Sends x (ack_epoch (state_of w).keys) 26 (ack_content a) w v q p
          → b ≡ choose (is_done x) (forgotten a) a → SendsAck x v w b a p q
      unfolding sent_ack ack_memory ack_sent notice_state notice_memory send_state
      some-noted x v p b z s y =
          let d = ap is_done accepted in
          let o = ne_eqb _ _ z in
          let l = length-content a in
          let k = rw l at s.answer in
          let e : sent_ack (state_of w) a (length q) ≡ ack_sent (notice_state (state_of w) a (length q)) a = if_true _ _ d ∙ if_false _ _ o in
          record {
            answer = k ∙ ap (λ (t : AckSent). t.answer) (sym e);
            state = (rw (l, k) at s.state) ∙ ap (λ (t : AckSent). t.state) (sym e);
            flat = s.flat;
            notes = (rw k at y) ∙ ap (λ (t : AckSent). t.notes) (sym e);
            memory = (rw k at s.memory) ∙ sym (if_true _ _ d ∙ if_false _ _ o);
          }

-- ---- the flight

-- what a step makes of the flight with this table; w before, v behind
abbrev pub Flights : (Flight → Flight) → List ℕ → List ℕ → List ℕ → Type 0
Flights step n w v = (flight_of v n ≡ step (flight_of w n)) × (flat_to w 12 ≡ true → flat_to v 12 ≡ true)

abbrev pub acted_on : SendAnswer → Flight → Acted
acted_on a f = record { answer = a; flight = f }

-- the i-th record marked, by its words
pub marks-one : (d : List ℕ) (n i : ℕ) (u w v : List ℕ) {m : Bool} → i < 12 → m ≡ is_acked d n u i (row_at w i) → Entered i (with_marked (row_at w i) m) w v
    → Flights (λ x. mark_at x i (is_acked d n x.numbers i (entry_at x i))) u w v
unfolding mark_at with_mark
marks-one d n i u w v l e p = (rw (entry-at w i l) (rw e at (p.0 u)), p.1)

-- one more
pub marks-more : (d : List ℕ) (n i : ℕ) (u w a v : List ℕ) → Flights (λ x. marks_after d n x i) u w a → Flights (λ x. mark_at x i (is_acked d n x.numbers i (entry_at x i))) u a v
    → Flights (λ x. marks_after d n x (i + 1)) u w v
marks-more d n i u w a v p q = (
  q.0 ∙ ap (λ (x : Flight). mark_at x i (is_acked d n u i (entry_at x i))) p.0
      ∙ ap (λ (e : Entry). mark_at (marks_after d n (flight_of w u) i) i (is_acked d n u i e)) (later_same d n (flight_of w u) i i (omega arith))
      ∙ sym (marks-next d n (flight_of w u) i),
  λ f. q.1 (p.1 f),
)

pub tally-more : (i : ℕ) (w n : List ℕ) {t : Tally} → i < 12 → t ≡ tally_after (flight_of w n) i → tally_with t (row_at w i) ≡ tally_after (flight_of w n) (i + 1)
tally-more i w n l h =
    ap (λ (x : Tally). tally_with x (row_at w i)) h ∙ ap (tally_with (tally_after (flight_of w n) i)) (sym (entry-at w i l)) ∙ sym (tally-next (flight_of w n) i)

-- the flight empties, or stays
module _ (w n : List ℕ) (t : Tally) (e : t ≡ tally_after (flight_of w n) (get_or w saved-at 0)) where
  pub one-unmarked : t.any ≡ true → t.unmarked ≡ true → Flights emptied n w w
  unfolding emptied
  one-unmarked a b = (sym (if_true _ _ (ap (λ (x : Tally). x.any) (sym e) ∙ a) ∙ if_true _ _ (ap (λ (x : Tally). x.unmarked) (sym e) ∙ b)), λ f. f)

  pub all-marked : length w ≡ words → t.any ≡ true → t.unmarked ≡ false → Flights emptied n w (set w saved-at 0)
  unfolding emptied
  all-marked h a b = (
    (begins w n 0 h).0 ∙ sym (if_true _ _ (ap (λ (x : Tally). x.any) (sym e) ∙ a) ∙ if_false _ _ (ap (λ (x : Tally). x.unmarked) (sym e) ∙ b)),
    λ f. (begins w n 0 h).1 ∙ f,
  )

  pub none-there : t.any ≡ false → Flights emptied n w w
  unfolding emptied
  none-there a = (sym (if_false _ _ (ap (λ (x : Tally). x.any) (sym e) ∙ a)), λ f. f)

-- an ACK with content c acted on
module _ (w n c : List ℕ) where
  pub acts_not : 12 < get_or w saved-at 0 → acted_on (Err OutOfRange) (flight_of w n) ≡ acked (flight_of w n) c
  unfolding acked
  acts_not h = sym (if_true _ _ (lt-ltb _ _ h))

  module _ (h : get_or w saved-at 0 ≤ 12) where
    pub acts-formed : (a v : List ℕ) → is_formed c ≡ true → Flights (λ x. marks_after c (pairs_in c) x (get_or w saved-at 0)) n w a → Flights emptied n a v
        → (acted_on (Ok tt) (flight_of v n) ≡ acked (flight_of w n) c) × (flat_to w 12 ≡ true → flat_to v 12 ≡ true)
    unfolding acked
    acts-formed a v f p q = (
      ap (acted_on (Ok tt)) (q.0 ∙ ap emptied p.0 ∙ sym (if_true _ _ f)) ∙ sym (if_false _ _ (le-ltb _ _ h)),
      λ g. q.1 (p.1 g),
    )

    pub acts-unformed : is_formed c ≡ false → acted_on (Ok tt) (flight_of w n) ≡ acked (flight_of w n) c
    unfolding acked
    acts-unformed f = ap (acted_on (Ok tt)) (sym (if_false _ _ f)) ∙ sym (if_false _ _ (le-ltb _ _ h))

pub still-saved : (c : List ℕ) (k i : ℕ) (n w a : List ℕ) → Flights (λ x. marks_after c k x i) n w a → get_or a saved-at 0 ≡ get_or w saved-at 0
still-saved c k i n w a p = ap (λ (x : Flight). x.saved) p.0 ∙ marks-saved c k (flight_of w n) i
