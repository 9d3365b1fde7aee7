-- `classify_calls::finish` meets its contract. Assumes nothing.
use mathlib.Core.Path.{refl}
use Rattle.classify_calls.specs.Laws.{ends, waits}
use Rattle.classify_calls.proofs.finish.Goals as goal

pub returns-then-w-ne0 : goal.returns-then-w-ne0
returns-then-w-ne0 c = (waits c.args.w.now c.requires c.if-w-ne0.true, refl)

pub returns : goal.returns
returns c = ends _ c.args.w.now c.requires c.if-w-ne0.false c.move_to.ensures
