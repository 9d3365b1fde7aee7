-- The calls that save records, of the C interface: each is the call on the state and the flight that the words stand for. Words that stand
-- for none are refused by 12, and state, flight and memory stay.
use Rattle.std.specs.Prelude.{Bool, true, false, List, ◌≡◌, refl, ℕ, leb, length, set, replicate}
use Rattle.std.proofs.Common.{sym, ap, ◌∙◌}
use Rattle.base.specs.Choose.{choose, both, if_true, if_false, both_true}
use Rattle.flight.specs.declared.Acted.{Acted}
use Rattle.flight.specs.declared.Saved.{Saved}
use Rattle.flight.specs.Flight.{begun, fresh_flight}
use Rattle.flight.specs.Save.{save_state, save_queue, save_kept}
use Rattle.messages.specs.Message.{message_answer, message_state, message_queue, message_kept}
use Rattle.send_words.specs.Words.{state_of, is_flat}
use Rattle.flight_words.specs.Words.{words, saved-at, entries_of, flight_of, flat_to}
use Rattle.flight_words.specs.Laws.{begins}
use Rattle.send_keys.specs.Answer.{SendAnswer, refusal}

-- both words stand for something
abbrev pub are_flat : List ℕ → List ℕ → Bool
are_flat w f = both (is_flat w) (flat_to f 12)

-- lent memory: as the call leaves it, or as it was
abbrev pub either : List ℕ → List ℕ → List ℕ → List ℕ → List ℕ
either w f x y = choose (are_flat w f) x y

-- f before, g behind, n the numbers beside them
abbrev pub Begins : ℕ → List ℕ → List ℕ → List ℕ → Type 0
Begins r g f n =
    (r ≡ choose (flat_to f 12) (refusal (begun (flight_of f n)).answer) 12)
    × (flight_of g n ≡ choose (flat_to f 12) (begun (flight_of f n)).flight (flight_of f n)) × (flat_to g 12 ≡ flat_to f 12)

-- w, f, n before; v, g, m behind
abbrev pub Saves : ℕ → List ℕ → List ℕ → List ℕ → List ℕ → List ℕ → List ℕ → Saved → Type 0
Saves r v w g f m n k =
    (r ≡ choose (are_flat w f) (refusal k.answer) 12)
    × (state_of v ≡ choose (are_flat w f) k.state (state_of w)) × (is_flat v ≡ is_flat w)
    × (flight_of g m ≡ choose (are_flat w f) k.flight (flight_of f n)) × (flat_to g 12 ≡ flat_to f 12)

-- ---- the contracts of the calls, here and over C: r answered; w, f, n, queue q, contents k before; v, g, m, p, j behind

abbrev pub FreshCall : List ℕ → List ℕ → Type 0
FreshCall g m = (flight_of g m ≡ fresh_flight) × (flat_to g 12 ≡ true)

abbrev pub BeginFlightCall : ℕ → List ℕ → List ℕ → Type 0
BeginFlightCall r g f = (n : List ℕ) → Begins r g f n

-- a record of type t with content c
abbrev pub SendSavedCall : ℕ → List ℕ → List ℕ → List ℕ → List ℕ → List ℕ → List ℕ → ℕ → ℕ → List ℕ → List ℕ → List ℕ → List ℕ → List ℕ → Type 0
SendSavedCall r v w g f m n epoch t c p q j k =
    Saves r v w g f m n (save_state (state_of w) (flight_of f n) (length q) (length k) epoch t (length c))
    × ((p ≡ either w f (save_queue (state_of w) (flight_of f n) (length k) epoch t c q) q)
    × (j ≡ either w f (save_kept (state_of w) (flight_of f n) (length q) epoch t c k) k))

-- a message of type t with body b
abbrev pub CreateHandshakeCall : ℕ → List ℕ → List ℕ → List ℕ → List ℕ → List ℕ → List ℕ → ℕ → List ℕ → List ℕ → List ℕ → List ℕ → List ℕ → Type 0
CreateHandshakeCall r v w g f m n t b p q j k =
    Saves r v w g f m n (message_state (message_answer (state_of w) (flight_of f n) (length q) (length k) t (length b)) (state_of w) (flight_of f n) q k t b)
    × ((p ≡ either w f (message_queue (message_answer (state_of w) (flight_of f n) (length q) (length k) t (length b)) (state_of w) (flight_of f n) q k t b) q)
    × (j ≡ either w f (message_kept (message_answer (state_of w) (flight_of f n) (length q) (length k) t (length b)) (state_of w) (flight_of f n) q k t b) k))

-- ---- from the parts to the whole

-- a call over flat words is the call on what they stand for
pub saves : (a : SendAnswer) (r : ℕ) (v w g f n : List ℕ) (k : Saved) → is_flat w ≡ true → flat_to f 12 ≡ true → r ≡ refusal a
    → record { answer = a; state = state_of v; flight = flight_of g n } ≡ k → (is_flat w ≡ true → is_flat v ≡ true)
    → (flat_to f 12 ≡ true → flat_to g 12 ≡ true) → Saves r v w g f n n k
saves a r v w g f n k p q x e s t =
    let h : are_flat w f ≡ true = both_true p ∙ q in (
      x ∙ ap (λ (y : Saved). refusal y.answer) e ∙ sym (if_true _ _ h),
      ap (λ (y : Saved). y.state) e ∙ sym (if_true _ _ h),
      s p ∙ sym p,
      ap (λ (y : Saved). y.flight) e ∙ sym (if_true _ _ h),
      t q ∙ sym q,
    )

pub begins-to : (f n : List ℕ) → length f ≡ words → flat_to f 12 ≡ true → leb (flight_of f n).saved 12 ≡ true → Begins 0 (set f saved-at 0) f n
unfolding begun
begins-to f n h p l =
    let b = begins f n 0 h in (
      ap refusal (sym (ap (λ (y : Acted). y.answer) (if_true _ _ l))) ∙ sym (if_true _ _ p),
      b.0 ∙ sym (ap (λ (y : Acted). y.flight) (if_true _ _ l)) ∙ sym (if_true _ _ p),
      b.1,
    )

pub begins_not : (f n : List ℕ) → flat_to f 12 ≡ true → leb (flight_of f n).saved 12 ≡ false → Begins 12 f f n
unfolding begun
begins_not f n p l = (
  ap refusal (sym (ap (λ (y : Acted). y.answer) (if_false _ _ l))) ∙ sym (if_true _ _ p),
  sym (ap (λ (y : Acted). y.flight) (if_false _ _ l)) ∙ sym (if_true _ _ p),
  refl,
)

pub starts : (flight_of (replicate words 0) (replicate 384 0) ≡ fresh_flight) × (flat_to (replicate words 0) 12 ≡ true)
unfolding entries_of flat_to fresh_flight choose
starts = (refl, refl)
