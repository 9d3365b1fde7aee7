-- `resend_steps::all_passed` meets its contract. Assumes nothing.
use Rattle.flight_words.specs.Words.{flight_of}
use Rattle.send_words.specs.Words.{mtu-at, state_of}
use Rattle.resend.specs.Tests.{passed_after}
use lib.ListN.{get_or}
use Prim.Native.Nat.{ℕ}
use mathlib.Core.List.{List}
use mathlib.Core.Path.{◌≡◌}
use Rattle.resend_steps.proofs.all_passed.Given as goal

abbrev pub invariant-loop-i : goal.invariant-loop-i
invariant-loop-i l = ((n : List ℕ) → l.p ≡ passed_after (state_of l.w).keys (get_or l.w mtu-at 0) (flight_of l.f n) l.i)
