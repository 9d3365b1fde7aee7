-- `mask_keys::fill` meets its contract. Assumes nothing.
use Rattle.std.proofs.Common.{◌+◌, ◌∙◌, refl, ap, arith, set, [], ◌∷◌}
use Rattle.base.specs.Parts.{splice, lent, stored, splice-next}
use Rattle.mask_keys.specs.Keys.{slot_size, slot_at}
use Rattle.mask_keys.proofs.fill.Goals as goal

pub returns : goal.returns
returns c = let a = c.args in let at = slot_at a.i in let k = a.k.now in rw c.copy_from_slice.ensures.after (lent (at + 1) (at + slot_size) (set k at 1) a.key.now (omega arith) ∙ ap (splice (at + 1) a.key.now) (stored at 1 k (omega arith)) ∙ splice-next at (at + 1) (1 ∷ []) a.key.now k (omega arith) refl)
