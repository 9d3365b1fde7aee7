-- `ack_steps::tally_of` meets its contract. Assumes nothing.
use Prim.Native.Nat.{ℕ}
use mathlib.Core.List.{List}
use mathlib.Core.Path.{◌≡◌}
use Rattle.process_ack.specs.Ack.{tally_after}
use Rattle.flight_words.specs.Words.{flight_of}
use Rattle.ack_steps.proofs.tally_of.Given as goal

abbrev pub invariant-loop-i : goal.invariant-loop-i
invariant-loop-i l = ((n : List ℕ) → l.t ≡ tally_after (flight_of l.f n) l.i)
