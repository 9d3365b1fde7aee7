-- `seal_steps::seal_answer` meets its contract: 12, then 15. Assumes nothing.
use mathlib.Core.Path.{sym, ◌∙◌}
use Rattle.queue.specs.Queue.{ready}
use Rattle.seal_steps.proofs.seal_answer.Goals as goal

pub is_held-requires : goal.is_held-requires
is_held-requires c = (ready (sym c.is_ready.ensures ∙ c.if-not-is_ready.false)).range
