-- `mask_calls::seal_mask` meets its contract. Assumes nothing.
use mathlib.Core.Path.{sym, ◌∙◌}
use Rattle.mask_calls.specs.Laws.{no_key}
use Rattle.mask_calls.proofs.seal_mask.Goals as goal

pub returns-then-has_key : goal.returns-then-has_key
returns-then-has_key c = c.asked_mask.ensures

pub returns-then-has_key-2 : goal.returns-then-has_key-2
returns-then-has_key-2 c = c.asked_mask-then-has_key-2.ensures

pub returns : goal.returns
returns c = λ _. let a = c.args in no_key a.w.now a.k.now a.queue.now a.mask_0 a.mask_1 (sym c.has_key.ensures ∙ c.if-has_key.false) (sym c.has_key-2.ensures ∙ c.if-has_key-2.false)
