-- `take_steps::take_answer` meets its contract: 12, none, 23, 16 in this order. Assumes nothing.
use mathlib.Core.Path.{sym, ◌∙◌}
use native.Mathlib.Omega.{arith}
use Rattle.queue.specs.Queue.{ready}
use Rattle.take_steps.proofs.take_answer.Goals as goal

pub front_len-n-requires : goal.front_len-n-requires
front_len-n-requires c = let r = (ready (sym c.is_ready.ensures ∙ c.if-not-is_ready.false)).range in omega (arith, r.first, r.limit)
