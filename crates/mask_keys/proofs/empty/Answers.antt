-- `mask_keys::empty` meets its contract. Assumes nothing.
use Rattle.std.proofs.Common.{◌+◌, ◌-◌, ◌≡◌, ◌∙◌, sym, ap, arith, length, replicate}
use Rattle.base.specs.Parts.{part, length_part, lent}
use Rattle.mask_keys.specs.Keys.{slot_size, slot_at}
use Rattle.mask_keys.proofs.empty.Goals as goal

pub returns : goal.returns
returns c =
    let at = slot_at c.args.i in
    let k = c.args.k.now in
    let own : at + slot_size - at ≡ slot_size = omega arith in
    let size : length (part at (at + slot_size - at) k) ≡ slot_size = ap (λ n. length (part at n k)) own ∙ length_part at slot_size k (omega arith) in
    let zeros = c.fill.ensures.after (λ y e. e) ∙ ap (λ n. replicate n 0) size in
    rw zeros (lent at (at + slot_size) k (replicate slot_size 0) (sym own))
