-- `ack_steps::write_content` meets its contract. The loop's invariant: the records so far are written behind the length. Assumes nothing.
use Rattle.acks.specs.Acks.{pairs_of}
use mathlib.Core.Path.{◌≡◌}
use lib.ListN.{length}
use Rattle.base.specs.Parts.{splice}
use Rattle.ack_steps.specs.Steps.{tabled}
use Rattle.ack_steps.proofs.write_content.Given as goal

abbrev pub invariant-loop-i : goal.invariant-loop-i
invariant-loop-i l = (length l.d ≡ length l.initial.d) × (l.d ≡ splice 2 (pairs_of (tabled l.n l.epochs l.numbers) l.i) l.initial.d)
