-- `mask_keys::move_up` meets its contract. Assumes nothing.
use Rattle.std.proofs.Common.{◌-◌, ◌≡◌, ◌∙◌, sym, ap, arith, length, replicate}
use Rattle.base.specs.Parts.{part, length_part, lent}
use Rattle.mask_keys.specs.Keys.{slot_size}
use Rattle.mask_keys.proofs.Laws.{moved_all}
use Rattle.mask_keys.proofs.move_up.Goals as goal

pub returns : goal.returns
returns c =
    let m = c.copy_within.new.self in
    let k = c.args.k.now in
    let same : length m ≡ length k = c.copy_within.ensures.len in
    let last = length m - slot_size in
    let own : length m - last ≡ slot_size = omega arith in
    let size : length (part last (length m - last) m) ≡ slot_size = ap (λ n. length (part last n m)) own ∙ length_part last slot_size m (omega arith) in
    let zeros : c.fill.new.self ≡ replicate slot_size 0 = c.fill.ensures.after (λ y e. e) ∙ ap (λ n. replicate n 0) size in
    let moved = moved_all c.args.i k m c.fill.new.self c.requires.0 same zeros c.copy_within.ensures.by_index.1 c.copy_within.ensures.by_index.0 in
    rw (lent last (length m) m c.fill.new.self (ap length zeros ∙ sym own)) moved
