-- `message_steps::send_all` meets its contract. The loop's invariant is `Going`, whatever the table of numbers: what is left gives the whole.
-- Assumes nothing.
use Prim.Native.Nat.{ℕ}
use mathlib.Core.Bool.{true}
use mathlib.Core.List.{List}
use mathlib.Core.Path.{◌≡◌}
use Rattle.messages.specs.Message.{Going}
use Rattle.send_words.specs.Words.{is_flat}
use Rattle.flight_words.specs.Words.{flat_to}
use Rattle.message_steps.specs.Create.{laid_as}
use Rattle.message_steps.proofs.send_all.Given as goal

abbrev pub invariant-loop-n : goal.invariant-loop-n
invariant-loop-n l = ((ns : List ℕ) → Going l.kind l.body (laid_as l.initial.a l.initial.w l.initial.f ns l.initial.memory l.initial.kept) l._n l.at (laid_as l.a l.w l.f ns l.memory l.kept)) × (is_flat l.initial.w ≡ true → is_flat l.w ≡ true) × (flat_to l.initial.f 12 ≡ true → flat_to l.f 12 ≡ true)
