-- `resend_steps::resend_all` meets its contract. Assumes nothing.
use Rattle.resend_steps.specs.Again.{Relaid}
use Rattle.send_words.specs.Words.{queue_of}
use Rattle.resend.specs.Resend.{again_after}
use Rattle.queue.specs.Queue.{InRange}
use lib.ListN.{length}
use mathlib.Core.Path.{◌≡◌}
use Rattle.resend_steps.proofs.resend_all.Given as goal

abbrev pub invariant-loop-i : goal.invariant-loop-i
invariant-loop-i l = InRange (queue_of l.w) × (length l.memory ≡ length l.initial.memory) × Relaid (λ x. again_after l.kept x l.i) l.initial.w l.initial.f l.initial.numbers l.initial.memory l.w l.f l.numbers l.memory
