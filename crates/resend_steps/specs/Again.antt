-- What a flight sent again, and a datagram closed, write of the words. Assumes nothing.
use Rattle.std.specs.Prelude.{true, false, List, ◌≡◌, refl, ℕ, ◌+◌, ◌*◌, length, set}
use Rattle.std.proofs.Common.{sym, subst, ◌∙◌}
use Rattle.std.proofs.Math.Path.{ap}
use Rattle.base.specs.Choose.{choose, if_true, both_right, both_true, test_cases}
use Rattle.base.specs.Parts.{part}
use Rattle.queue.specs.Queue.{InRange}
use Rattle.send_keys.specs.Keys.{next_of}
use Rattle.flight.specs.declared.Entry.{Entry}
use Rattle.flight.specs.declared.Flight.{Flight}
use Rattle.flight.specs.Flight.{entry_at}
use Rattle.words.specs.Fields.{first_of, by-words}
use Rattle.send_words.specs.Words.{words, closed_at, lows_from, queue_of, state_of, is_flat}
use Rattle.send_words.specs.Partly.{Partly}
use Rattle.send_steps.specs.Sends.{Sends}
use Rattle.flight_words.specs.Words.{records_of, flight_of, flat_to}
use Rattle.flight_words.specs.Entries.{Entered, with_numbers}
use Rattle.resend.specs.Tests.{closed_state}
use Rattle.resend.specs.Resend.{Laying, can_remember, with_number, new_entry, sent_entry, sent_table, sent_again, again_at, again_after}
use Rattle.resend.proofs.Resend.{again-next, again-range, sent-again}
use Rattle.send_keys.specs.Answer.{SendAnswer, is_done}

-- state, flight and queue that the words stand for
abbrev pub laying_of : List ℕ → List ℕ → List ℕ → List ℕ → Laying
laying_of w f n q = record { state = state_of w; flight = flight_of f n; queue = q }

-- what a step makes of them: w, f, table n, queue q before; v, g, m, p behind
abbrev pub Relaid : (Laying → Laying) → List ℕ → List ℕ → List ℕ → List ℕ → List ℕ → List ℕ → List ℕ → List ℕ → Type 0
Relaid step w f n q v g m p =
    (laying_of v g m p ≡ step (laying_of w f n q)) × (is_flat w ≡ true → is_flat v ≡ true) × (flat_to f 12 ≡ true → flat_to g 12 ≡ true)

-- a record under its new number differs in its numbers only
sent-numbers : (a : SendAnswer) (e : Entry) (x : ℕ) → with_numbers e (sent_entry a e x).number (sent_entry a e x).remembered ≡ sent_entry a e x
unfolding sent_entry new_entry with_number choose
sent-numbers a e x = test_cases (is_done a) (λ d. test_cases (can_remember e) (λ r. rw (d, r)) (λ r. rw (d, r))) (λ d. rw d)

module _ (kept : List ℕ) (i : ℕ) (w f n q : List ℕ) (o : Entry) (z : entry_at (flight_of f n) i ≡ o) where
  pub again-marked : o.marked ≡ true → Relaid (again_at kept i) w f n q w f n q
  unfolding again_at
  again-marked t = (sym (if_true (laying_of w f n q) _ (rw z t)), λ x. x, λ x. x)

  pub again-sent : {a : SendAnswer} {t r : Entry} {x : ℕ} (v g m p : List ℕ) → o.marked ≡ false
      → Sends a o.epoch o.content_type (part (i * (state_of w).queue.mtu) o.length kept) w v q p
      → x ≡ next_of (state_of w).keys o.epoch → t ≡ sent_entry a o x → m ≡ sent_table a o i n
      → o ≡ r → Entered i (with_numbers r t.number t.remembered) f g
      → Relaid (again_at kept i) w f n q v g m p
  unfolding sent_again
  again-sent {a} {t} {r} {x} v g m p u s j k l b e =
      let h : with_numbers r t.number t.remembered ≡ sent_entry a o (next_of (state_of w).keys o.epoch) =
      ap (λ (y : Entry). with_numbers y t.number t.remembered) (sym b) ∙ ap (λ (y : Entry). with_numbers o y.number y.remembered) k ∙ sent-numbers a o x ∙ ap (sent_entry a o) j in (
        ap (λ (y : Flight). record { state = state_of v; flight = y; queue = p }) (e.0 m)
            ∙ sent-again kept i (state_of w) (records_of f) n q (rw z u) (rw z (rw s.answer at s.state)) (rw z (rw s.answer at h)) (rw z (rw s.answer at l)) (rw z (rw s.answer at s.memory)),
        s.flat,
        e.1,
      )

-- one more
pub relaid_more : (kept : List ℕ) (i : ℕ) (w f n q a b c d v g m p : List ℕ) → Relaid (λ l. again_after kept l i) w f n q a b c d → Relaid (again_at kept i) a b c d v g m p
    → Relaid (λ l. again_after kept l (i + 1)) w f n q v g m p
relaid_more kept i w f n q a b c d v g m p x y = (
  y.0 ∙ ap (again_at kept i) x.0 ∙ sym (again-next kept (laying_of w f n q) i),
  λ z. y.1 (x.1 z),
  λ z. y.2 (x.2 z),
)

-- the ranges stay
pub relaid_range : (kept : List ℕ) (i : ℕ) (w f n q v g m p : List ℕ) → InRange (queue_of w) → Relaid (again_at kept i) w f n q v g m p → InRange (queue_of v)
relaid_range kept i w f n q v g m p r x = subst (λ (y : Laying). InRange y.state.queue) (sym x.0) (again-range kept i (laying_of w f n q) r)

-- one word closes the datagram
pub closes : (w : List ℕ) → length w ≡ words → Partly (closed_state (state_of w)) w (set w closed_at 1)
unfolding first_of lows_from is_flat closed_state
closes w h = by-words words (λ (v : List ℕ). Partly (closed_state (state_of v)) v (set v closed_at 1)) w h (refl, λ f. both_true refl ∙ both_right _ _ f)
