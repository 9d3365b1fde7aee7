-- `seal_steps::part` meets its contract: a middle part of the queue is lent on. Assumes nothing.
use mathlib.Core.Path.{sym, ◌∙◌}
use native.Mathlib.Omega.{arith}
use Rattle.sealing.specs.Sealing.{part_start, asked-held, start_fits, part-fits}
use Rattle.seal_steps.proofs.part.Goals as goal

pub part_start-from-requires : goal.part_start-from-requires
part_start-from-requires c = (asked-held (sym c.is_asked.ensures ∙ c.if-is_asked.true)).0

pub overflow_add-to : goal.overflow_add-to
unfolding part_start
overflow_add-to c = let f = start_fits (asked-held (sym c.is_asked.ensures ∙ c.if-is_asked.true)).0 in omega (arith, c.part_start-from.ensures)

pub slice_bounds-memory-end : goal.slice_bounds-memory-end
slice_bounds-memory-end c = let h = asked-held (sym c.is_asked.ensures ∙ c.if-is_asked.true) in let f = part-fits h.0 h.1 in omega (arith, c.part_start-from.ensures)
