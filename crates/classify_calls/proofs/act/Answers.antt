-- `classify_calls::act` meets its contract. Assumes nothing.
use mathlib.Core.Path.{refl}
use Rattle.classify_calls.specs.Laws.{acts, refuses}
use Rattle.classify_calls.proofs.act.Goals as goal

pub returns-then-a-eq0 : goal.returns-then-a-eq0
returns-then-a-eq0 c = let a = c.args in acts _ _ _ a.x.now _ a.f.now _ a.numbers.now a.d.now _ c.fragment.ensures c.process_ack-a.ensures c.if-a-eq0.true c.acted_on-r.ensures c.clear.ensures

pub returns : goal.returns
returns c = let a = c.args in refuses _ _ _ a.x.now _ a.f.now _ a.numbers.now a.d.now _ c.fragment.ensures c.process_ack-a.ensures c.if-a-eq0.false c.told.ensures refl
