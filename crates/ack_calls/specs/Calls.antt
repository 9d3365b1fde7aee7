-- Resends and ACKs of the C interface: each is the call on the state, the flight and the notes that the words stand for. Words that stand
-- for none are refused by 12, and state, flight and memory stay.
use Rattle.std.specs.Prelude.{Bool, true, false, List, ◌≡◌, ℕ, ◌-◌, ◌≤◌, ◌<◌, eqb, length, Ok, Err}
use Rattle.std.proofs.Math.Path.{refl, sym, ap}
use Rattle.std.proofs.Common.{◌∙◌, arith, lt-ltb, le-ltb}
use Rattle.answers.specs.declared.HuskTold.{HuskTold}
use Rattle.answers.specs.Told.{tells}
use Rattle.base.specs.Choose.{choose, both, if_true, if_false, both_true}
use Rattle.send_keys.specs.declared.SendError.TheVariants.{OutOfRange}
use Rattle.flight.specs.declared.Saved.{Saved}
use Rattle.resend.specs.Tests.{resend_answer}
use Rattle.resend.specs.Resend.{Laying, all_again, resend_state, resend_queue}
use Rattle.process_ack.specs.Ack.{acked}
use Rattle.flight.specs.declared.Acted.{Acted}
use Rattle.process_ack.specs.Status.{newly_marked}
use Rattle.process_ack.proofs.Status.{newly_behind, fewer-behind, saved-behind}
use Rattle.flight.specs.declared.Flight.{Flight}
use Rattle.flight.specs.Status.{unmarked_after, unacknowledged, unmarked-few}
use Rattle.acks.specs.declared.Notes as noted
use Rattle.acks.specs.declared.Noting.{Noting}
use Rattle.acks.specs.declared.AckSent.{AckSent}
use Rattle.acks.specs.Acks.{NoteAnswer}
use Rattle.acks.specs.Acks as noting
use Rattle.acks.proofs.Acks as noting-laws
use Rattle.send_words.specs.Words.{state_of, is_flat}
use Rattle.send_words.specs.Laws as sent
use Rattle.flight_words.specs.Words.{flight_of, flat_to}
use Rattle.flight_words.specs.Laws as flights
use Rattle.resend_steps.specs.Again.{laying_of}
use Rattle.ack_steps.specs.Steps.{SendsAck}
use Rattle.send_keys.specs.Answer.{SendAnswer, is_done, refusal}
use Rattle.ack_calls.specs.declared.HuskAcked.{HuskAcked}
pub use Rattle.ack_steps.specs.Steps.{notes_of}

-- both words stand for something
abbrev pub are_flat : List ℕ → List ℕ → Bool
are_flat w f = both (is_flat w) (flat_to f 12)

-- lent memory: as the call leaves it, or as it was
abbrev pub either : List ℕ → List ℕ → List ℕ → List ℕ → List ℕ
either w f x y = choose (are_flat w f) x y

-- ---- what is told

-- how many were sent again: none where it is refused
abbrev pub resent_told : SendAnswer → ℕ → HuskTold
resent_told a n = tells (refusal a) (choose (is_done a) n 0)

abbrev pub note_told : NoteAnswer → HuskTold
note_told (Ok true) = tells 0 1
note_told (Ok false) = tells 0 0
note_told (Err e) = tells 12 0

-- 1 where an ACK was sent
abbrev pub ack_told : AckSent → HuskTold
ack_told k = tells (refusal k.answer) (choose k.sent 1 0)

-- an ACK of n noted records: sent where some are and nothing is refused
abbrev pub sent_told : SendAnswer → ℕ → HuskTold
sent_told a n = tells (refusal a) (choose (choose (eqb n 0) false (is_done a)) 1 0)

abbrev pub no_acked : ℕ → HuskAcked
no_acked n = record { refusal = n; marked = 0; unacknowledged = 0; saved = 0 }

-- behind an ACK that marked so many: what is not acknowledged, and what is saved
abbrev pub left_behind : ℕ → Flight → HuskAcked
left_behind marked f = record { refusal = 0; marked = marked; unacknowledged = unacknowledged f; saved = f.saved }

abbrev pub acked_told : Acted → ℕ → HuskAcked
acked_told k marked = choose (is_done k.answer) (left_behind marked k.flight) (no_acked (refusal k.answer))

-- ---- what a call leaves

-- w, f, n before; v, g, m behind; t sent again
abbrev pub Resends : HuskTold → List ℕ → List ℕ → List ℕ → List ℕ → List ℕ → List ℕ → Saved → ℕ → Type 0
Resends r v w g f m n k t =
    (r ≡ choose (are_flat w f) (resent_told k.answer t) (tells 12 0))
    × (state_of v ≡ choose (are_flat w f) k.state (state_of w)) × (is_flat v ≡ is_flat w)
    × (flight_of g m ≡ choose (are_flat w f) k.flight (flight_of f n)) × (flat_to g 12 ≡ flat_to f 12)

-- f, n before; g, m behind; t newly marked
abbrev pub Acts : HuskAcked → List ℕ → List ℕ → List ℕ → List ℕ → Acted → ℕ → Type 0
Acts r g f m n k t =
    (r ≡ choose (flat_to f 12) (acked_told k t) (no_acked 12))
    × (flight_of g m ≡ choose (flat_to f 12) k.flight (flight_of f n)) × (flat_to g 12 ≡ flat_to f 12)

abbrev pub Noted : HuskTold → noted.Notes → Noting → Type 0
Noted r m k = (r ≡ note_told k.answer) × (m ≡ k.notes)

-- w, n before; v, m behind
abbrev pub Acknowledges : HuskTold → List ℕ → List ℕ → noted.Notes → noted.Notes → AckSent → Type 0
Acknowledges r v w m n k =
    (r ≡ choose (is_flat w) (ack_told k) (tells 12 0))
    × (state_of v ≡ choose (is_flat w) k.state (state_of w)) × (is_flat v ≡ is_flat w)
    × (m ≡ choose (is_flat w) k.notes n)

-- ---- the contracts of the calls, here and over C: r answered; w, f, n, queue q, notes a before; v, g, m, p, b behind

-- k the saved contents
abbrev pub ResendCall : HuskTold → List ℕ → List ℕ → List ℕ → List ℕ → List ℕ → List ℕ → List ℕ → List ℕ → List ℕ → Type 0
ResendCall r v w g f m n k p q =
    Resends r v w g f m n (resend_state (resend_answer (state_of w) (flight_of f n) (length q) (length k)) (state_of w) (flight_of f n) k q) (unacknowledged (flight_of f n))
    × (p ≡ either w f (resend_queue (resend_answer (state_of w) (flight_of f n) (length q) (length k)) (state_of w) (flight_of f n) k q) q)

-- an ACK with content c
abbrev pub ProcessAckCall : HuskAcked → List ℕ → List ℕ → List ℕ → List ℕ → List ℕ → Type 0
ProcessAckCall r g f m n c = Acts r g f m n (acked (flight_of f n) c) (newly_marked (flight_of f n) c)

abbrev pub FreshNotesCall : noted.Notes → Type 0
FreshNotesCall b = b ≡ noting.fresh_notes

abbrev pub NoteCall : HuskTold → noted.Notes → noted.Notes → ℕ → ℕ → Type 0
NoteCall r b a epoch number = Noted r b (noting.noted a epoch number)

abbrev pub SendAckCall : HuskTold → List ℕ → List ℕ → noted.Notes → noted.Notes → List ℕ → List ℕ → Type 0
SendAckCall r v w b a p q =
    Acknowledges r v w b a (noting.sent_ack (state_of w) a (length q))
    × (p ≡ choose (is_flat w) (noting.ack_memory (state_of w) a q) q)

-- ---- from the parts to the whole

pub resends : (r : HuskTold) (v w g f m n : List ℕ) (x k : Saved) (u : ℕ) → is_flat w ≡ true → flat_to f 12 ≡ true → r ≡ resent_told x.answer u
    → sent.Kept x.state v → flights.Kept x.flight g → m ≡ x.flight.numbers → x ≡ k → Resends r v w g f m n k u
resends r v w g f m n x k u p q a s t z e =
    let h : are_flat w f ≡ true = both_true p ∙ q in (
      a ∙ ap (λ (y : Saved). resent_told y.answer u) e ∙ sym (if_true _ _ h),
      s.0 ∙ ap (λ (y : Saved). y.state) e ∙ sym (if_true _ _ h),
      s.1 ∙ sym p,
      ap (flight_of g) z ∙ t.0 ∙ ap (λ (y : Saved). y.flight) e ∙ sym (if_true _ _ h),
      t.1 ∙ sym q,
    )

-- tested: all sent again, or nothing written
module _ (r : HuskTold) (a : SendAnswer) (w f n k q : List ℕ) (u : ℕ) (i : is_flat w ≡ true) (j : flat_to f 12 ≡ true) where
  pub resends-all : (v g m p : List ℕ) → is_done a ≡ true → r ≡ tells (refusal a) u → is_flat v ≡ true → flat_to g 12 ≡ true → laying_of v g m p ≡ all_again (state_of w) (flight_of f n) k q
      → Resends r v w g f m n (resend_state a (state_of w) (flight_of f n) k q) u × (p ≡ either w f (resend_queue a (state_of w) (flight_of f n) k q) q)
  unfolding resend_state resend_queue
  resends-all v g m p d c l t e = (
    resends r v w g f m n (record { answer = a; state = state_of v; flight = flight_of g m }) _ u i j (c ∙ ap (tells (refusal a)) (sym (if_true _ _ d))) (refl, l) (refl, t) refl
        (ap (λ (y : Laying). record { answer = a; state = y.state; flight = y.flight }) e ∙ sym (if_true _ _ d)),
    ap (λ (y : Laying). y.queue) e ∙ sym (if_true _ _ d) ∙ sym (if_true _ _ (both_true i ∙ j)),
  )

  pub resends-nothing : is_done a ≡ false → r ≡ tells (refusal a) 0
      → Resends r w w f f n n (resend_state a (state_of w) (flight_of f n) k q) u × (q ≡ either w f (resend_queue a (state_of w) (flight_of f n) k q) q)
  unfolding resend_state resend_queue
  resends-nothing d c = (
    resends r w w f f n n (record { answer = a; state = state_of w; flight = flight_of f n }) _ u i j (c ∙ ap (tells (refusal a)) (sym (if_false _ _ d))) (refl, i) (refl, j) refl (sym (if_false _ _ d)),
    sym (if_false _ _ d) ∙ sym (if_true _ _ (both_true i ∙ j)),
  )

-- an ACK acted on: before and behind are what was not acknowledged of the records saved before it
module _ (g f n c : List ℕ) (q : flat_to f 12 ≡ true) (l : (flight_of f n).saved ≤ 12) (a : SendAnswer) (e : record { answer = a; flight = flight_of g n } ≡ acked (flight_of f n) c) where
  pub acted-few : (flight_of g n).saved ≤ 12
  acted-few = omega (arith, ap (λ (x : Acted). x.flight.saved) e, saved-behind (flight_of f n) c)

  module _ {before behind : ℕ} (x : before ≡ unmarked_after (flight_of f n) (flight_of f n).saved) (y : behind ≡ unmarked_after (flight_of g n) (flight_of f n).saved) where
    behind-is : behind ≡ unmarked_after (acked (flight_of f n) c).flight (flight_of f n).saved
    behind-is = y ∙ ap (λ (z : Acted). unmarked_after z.flight (flight_of f n).saved) e

    pub acted-fewer : (behind ≤ before) × (before ≤ 12)
    acted-fewer = (omega (arith, x, behind-is, fewer-behind (flight_of f n) c), omega (arith, x, unmarked-few (flight_of f n) (flight_of f n).saved))

    pub acted-told : (r : HuskAcked) → r ≡ left_behind (before - behind) (flight_of g n) → r ≡ choose (flat_to f 12) (acked_told (acked (flight_of f n) c) (newly_marked (flight_of f n) c)) (no_acked 12)
    unfolding acked
    acted-told r z =
        let d : (acked (flight_of f n) c).answer ≡ Ok tt = ap (λ (t : Acted). t.answer) (if_false _ _ (le-ltb _ _ l)) in
        z
        ∙ rw (x, behind-is, ← (newly_behind (flight_of f n) c)) (ap (λ (t : Acted). left_behind (newly_marked (flight_of f n) c) t.flight) e)
        ∙ sym (if_true _ _ (ap is_done d))
        ∙ sym (if_true _ _ q)

pub acts : (r : HuskAcked) (g f m n : List ℕ) (x k : Acted) (u : ℕ) → flat_to f 12 ≡ true → r ≡ choose (flat_to f 12) (acked_told k u) (no_acked 12)
    → flights.Kept x.flight g → m ≡ x.flight.numbers → x ≡ k → Acts r g f m n k u
acts r g f m n x k u q a t z e = (a, ap (flight_of g) z ∙ t.0 ∙ ap (λ (y : Acted). y.flight) e ∙ sym (if_true _ _ q), t.1 ∙ sym q)

-- too many saved
pub acts-none : (r : HuskAcked) (f n c : List ℕ) → flat_to f 12 ≡ true → 12 < (flight_of f n).saved → r ≡ no_acked 12 → ProcessAckCall r f f n n c
unfolding acked
acts-none r f n c q l z =
    let e : acked (flight_of f n) c ≡ record { answer = Err OutOfRange; flight = flight_of f n } = if_true _ _ (lt-ltb _ _ l) in (
      z ∙ sym (if_true _ _ q ∙ ap (λ (x : Acted). acked_told x (newly_marked (flight_of f n) c)) e ∙ if_false _ _ refl),
      sym (if_true _ _ q ∙ ap (λ (x : Acted). x.flight) e),
      refl,
    )

pub acknowledges : (r : HuskTold) (x : SendAnswer) (v w : List ℕ) (b a : noted.Notes) (p q : List ℕ) → is_flat w ≡ true → r ≡ sent_told x a.count → SendsAck x v w b a p q → SendAckCall r v w b a p q
acknowledges r x v w b a p q f e s = (
  (e ∙ ap (λ (y : SendAnswer). sent_told y a.count) s.answer ∙ ap (λ (b : Bool). tells (refusal (noting.sent_ack (state_of w) a (length q)).answer) (choose b 1 0)) (sym (noting-laws.sent_exactly (state_of w) a (length q))) ∙ sym (if_true _ _ f), s.state ∙ sym (if_true _ _ f), s.flat f ∙ sym f, s.notes ∙ sym (if_true _ _ f)),
  s.memory ∙ sym (if_true _ _ f),
)

pub notes : (r : HuskTold) (m : noted.Notes) (x k : Noting) → r ≡ note_told x.answer → m ≡ x.notes → x ≡ k → Noted r m k
notes r m x k a z e = (a ∙ ap (λ (y : Noting). note_told y.answer) e, z ∙ ap (λ (y : Noting). y.notes) e)

-- ---- told, by its parts

pub both_told : {a b m n : ℕ} → a ≡ b → m ≡ n → tells a m ≡ tells b n
both_told p q = λ i. tells (p i) (q i)
