-- `send_steps::wait_for` meets its contract. Assumes nothing.
use native.Mathlib.Omega.{arith}
use borrow.Author.Tests.{eq-eqb, ne_eqb}
use mathlib.Core.Path.{◌∙◌}
use Rattle.base.specs.Choose.{either_true, either-false}
use Rattle.send_steps.specs.Steps.{waits-still, waits-now}
use Rattle.send_steps.proofs.wait_for.Goals as goal

pub returns-then-waits : goal.returns-then-waits
returns-then-waits c = waits-still c.args.w.now c.args.epoch c.args.n c.args.slot c.args.start c.args.number (either_true _ (eq-eqb _ _ c.if-waits.true))

pub returns-then-epoch-eq0 : goal.returns-then-epoch-eq0
returns-then-epoch-eq0 c = waits-still c.args.w.now c.args.epoch c.args.n c.args.slot c.args.start c.args.number (either-false (ne_eqb _ _ c.if-waits.false) ∙ eq-eqb _ _ c.if-epoch-eq0.true)

pub returns : goal.returns
returns c = waits-now c.args.w.now c.args.epoch c.args.n c.args.slot c.args.start c.args.number _ (omega arith) (either-false (ne_eqb _ _ c.if-waits.false) ∙ ne_eqb _ _ c.if-epoch-eq0.false) c.put_waiting.ensures
