-- `mask_calls::fill_entry` meets its contract. Assumes nothing.
use mathlib.Core.Path.{◌∙◌}
use Rattle.mask_keys.proofs.Laws.{filled_at, filled-out}
use Rattle.mask_calls.proofs.fill_entry.Goals as goal

pub returns-then-i : goal.returns-then-i
returns-then-i c = c.fill.ensures ∙ filled_at _ _ _ _ c.if-i.true

pub returns-else-i : goal.returns-else-i
returns-else-i c = filled-out _ _ _ _ c.if-i.false
