-- `status_calls::unmarked` meets its contract. The loop's invariant: the count is that of the records so far. Assumes nothing.
use mathlib.Core.List.{List}
use mathlib.Core.Path.{◌≡◌}
use Prim.Native.Nat.{ℕ, ◌≤◌}
use Rattle.flight.specs.Status.{unmarked_after}
use Rattle.flight_words.specs.Words.{flight_of}
use Rattle.status_calls.proofs.unmarked.Given as goal

abbrev pub invariant-loop-i : goal.invariant-loop-i
invariant-loop-i l = (l.count ≤ l.i) × ((m : List ℕ) → l.count ≡ unmarked_after (flight_of l.f m) l.i)
