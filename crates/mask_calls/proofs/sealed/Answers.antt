-- `mask_calls::sealed` meets its contract. Assumes nothing.
use Rattle.mask_calls.specs.Laws.{seals}
use Rattle.mask_calls.proofs.sealed.Goals as goal

pub returns : goal.returns
returns c = let a = c.args in seals _ _ a.w.now a.k.now a.length a.mask_0 a.mask_1 _ a.queue.now _ c.seal_mask-m.ensures c.sealed.ensures
