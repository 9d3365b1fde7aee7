-- What a host asks of its words: each answer is that of the flight or the state that they stand for. Words that stand for none, or a count or
-- a ring out of its range, are refused by 12.
use Rattle.std.specs.Prelude.{true, List, ◌≡◌, ℕ, ◌+◌, ◌-◌, ◌≤◌, ◌<◌, min, leb}
use Rattle.std.proofs.Common.{sym, ap, ◌∙◌, le-leb}
use Rattle.base.specs.Choose.{choose, both, if_true, both_true}
use Rattle.queue.specs.Queue.{is_sound}
use Rattle.outgoing.specs.declared.Sending.{Sending}
use Rattle.outgoing.specs.Status.{to_seal}
use Rattle.flight.specs.declared.Flight.{Flight}
use Rattle.flight.specs.Status.{unmarked_after, unacknowledged, unmarked-next}
use Rattle.send_words.specs.Words.{state_of, is_flat}
use Rattle.flight_words.specs.Words.{entry_at as row_at, flight_of, flat_to}
use Rattle.flight_words.specs.Entries.{entry-at}
use Rattle.status_calls.specs.declared.HuskSaved.{HuskSaved}
use Rattle.status_calls.specs.declared.HuskQueued.{HuskQueued}

-- all that a word can say: words that no call made may tell of more
abbrev pub most : ℕ
most = 18446744073709551615

abbrev pub no_saved : HuskSaved
no_saved = record { refusal = 12; saved = 0; unacknowledged = 0 }

abbrev pub no_queued : HuskQueued
no_queued = record { refusal = 12; queued = 0; waiting = 0 }

-- of a flight in its range
abbrev pub saved_of : Flight → HuskSaved
saved_of f = record { refusal = 0; saved = f.saved; unacknowledged = unacknowledged f }

-- of a state whose ring is in its range
abbrev pub queued_of : Sending → HuskQueued
queued_of s = record { refusal = 0; queued = s.queue.count; waiting = min (to_seal s) most }

-- ---- the contracts of the calls, here and over C: r answered of the words

abbrev pub FlightStatusCall : HuskSaved → List ℕ → Type 0
FlightStatusCall r f = (n : List ℕ) → r ≡ choose (both (flat_to f 12) (leb (flight_of f n).saved 12)) (saved_of (flight_of f n)) no_saved

abbrev pub SendingStatusCall : HuskQueued → List ℕ → Type 0
SendingStatusCall r w = r ≡ choose (both (is_flat w) (is_sound (state_of w).queue)) (queued_of (state_of w)) no_queued

-- ---- from the parts to the whole

-- one record more
pub unmarked-more : (i : ℕ) (w m : List ℕ) {k : ℕ} → i < 12 → k ≡ unmarked_after (flight_of w m) i → k + choose (row_at w i).marked 0 1 ≡ unmarked_after (flight_of w m) (i + 1)
unmarked-more i w m l h = rw (h, unmarked-next, entry-at w i l)

-- words that stand for a flight in its range
pub saved-told : (f n : List ℕ) (k : ℕ) → flat_to f 12 ≡ true → (flight_of f n).saved ≤ 12 → k ≡ unacknowledged (flight_of f n)
    → record { refusal = 0; saved = (flight_of f n).saved; unacknowledged = k } ≡ choose (both (flat_to f 12) (leb (flight_of f n).saved 12)) (saved_of (flight_of f n)) no_saved
saved-told f n k p l e =
    ap (λ (x : ℕ). record { refusal = 0; saved = (flight_of f n).saved; unacknowledged = x }) e ∙ sym (if_true _ _ (both_true p ∙ le-leb _ _ l))

-- a state whose ring is in its range: h and a wait under epoch 2 and the application epoch
pub queued-told : (w : List ℕ) (h a k : ℕ) → is_flat w ≡ true → is_sound (state_of w).queue ≡ true
    → h ≡ (state_of w).keys.handshake.next - (state_of w).keys.handshake.sealed → a ≡ (state_of w).keys.application.next - (state_of w).keys.application.sealed
    → k ≡ min (h + a) most → SendingStatusCall (record { refusal = 0; queued = (state_of w).queue.count; waiting = k }) w
unfolding to_seal
queued-told w h a k p s x y e =
    ap (λ (z : ℕ). record { refusal = 0; queued = (state_of w).queue.count; waiting = z }) (e ∙ rw (x, y)) ∙ sym (if_true _ _ (both_true p ∙ s))
