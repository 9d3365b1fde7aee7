-- `mask_calls::empty_entry` meets its contract. Assumes nothing.
use mathlib.Core.Path.{◌∙◌}
use Rattle.mask_keys.proofs.Laws.{emptied-at, emptied-out}
use Rattle.mask_calls.proofs.empty_entry.Goals as goal

pub returns-then-i : goal.returns-then-i
returns-then-i c = c.empty.ensures ∙ emptied-at _ _ _ c.if-i.true

pub returns-else-i : goal.returns-else-i
returns-else-i c = emptied-out _ _ _ c.if-i.false
