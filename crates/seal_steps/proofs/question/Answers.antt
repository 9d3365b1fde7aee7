-- `seal_steps::question` meets its contract: 12, none, or the oldest. Assumes nothing.
use borrow.Author.Tests.{eq-eqb}
use mathlib.Core.Path.{sym, ◌∙◌}
use Rattle.queue.specs.Queue.{in-range}
use Rattle.sealing.specs.Sealing.{held}
use Rattle.seal_steps.proofs.question.Goals as goal

pub is_held-requires : goal.is_held-requires
is_held-requires c = in-range (sym c.is_sound.ensures ∙ c.if-not-is_sound.false)

pub oldest-requires : goal.oldest-requires
oldest-requires c = held (in-range (sym c.is_sound.ensures ∙ c.if-not-is_sound.false)) (sym c.is_held.ensures ∙ c.if-not-is_held.false) (eq-eqb _ _ c.if-w-eq1.true)
