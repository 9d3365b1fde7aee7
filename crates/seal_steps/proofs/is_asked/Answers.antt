-- `seal_steps::is_asked` meets its contract. Assumes nothing.
use mathlib.Core.Path.{sym, ◌∙◌}
use Rattle.queue.specs.Queue.{ready}
use Rattle.seal_steps.proofs.is_asked.Goals as goal

pub is_held-requires : goal.is_held-requires
is_held-requires c = (ready (sym c.is_ready.ensures ∙ c.if-is_ready.true)).range
