-- `resend_steps::survey_all` meets its contract. Assumes nothing.
use Rattle.flight_words.specs.Words.{flight_of}
use Rattle.resend.specs.Tests.{surveyed_after}
use Rattle.queue.specs.Queue.{Tailed}
use Prim.Native.Nat.{ℕ, ◌+◌, ◌≤◌}
use mathlib.Core.List.{List}
use mathlib.Core.Path.{◌≡◌}
use Rattle.resend_steps.proofs.survey_all.Given as goal

abbrev pub invariant-loop-i : goal.invariant-loop-i
invariant-loop-i l = ((n : List ℕ) → l.d ≡ surveyed_after l.mtu l.epoch l.initial.d.tail (flight_of l.f n) l.i) × Tailed l.d.tail × (l.d.tail.count ≤ 16 + l.i) × (l.d.plaintext ≤ l.i) × (l.d.handshake ≤ l.i) × (l.d.application ≤ l.i)
