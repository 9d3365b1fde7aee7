-- `mask_calls::asked_mask` meets its contract. Assumes nothing.
use mathlib.Core.Path.{sym, ◌∙◌}
use Rattle.mask_calls.specs.Laws.{by_key, by-reply, no_question}
use Rattle.mask_calls.proofs.asked_mask.Goals as goal

pub returns-then-has_key : goal.returns-then-has_key
returns-then-has_key c = λ t. let a = c.args in by_key a.w.now a.k.now a.queue.now a.mask_0 a.mask_1 _ c.sealing-q.ensures t _ c.if-q-eq-SEAL.true c.send_slot-i.ensures.0 (sym c.has_key.ensures ∙ c.if-has_key.true) c.mask_at.ensures

pub returns-then-q-eq-SEAL : goal.returns-then-q-eq-SEAL
returns-then-q-eq-SEAL c = λ t. let a = c.args in by-reply a.w.now a.k.now a.queue.now a.mask_0 a.mask_1 _ c.sealing-q.ensures t _ c.if-q-eq-SEAL.true c.send_slot-i.ensures.0 (sym c.has_key.ensures ∙ c.if-has_key.false)

pub returns : goal.returns
returns c = λ t. let a = c.args in no_question a.w.now a.k.now a.queue.now a.mask_0 a.mask_1 _ c.sealing-q.ensures t c.if-q-eq-SEAL.false
