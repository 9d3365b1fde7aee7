-- `seal_steps::settle` meets its contract. Assumes nothing.
use native.Mathlib.Omega.{arith}
use Rattle.seal_steps.specs.Settles.{handshake-settles, application-settles}
use Rattle.seal_steps.proofs.settle.Goals as goal

pub returns-then-epoch-eq2 : goal.returns-then-epoch-eq2
returns-then-epoch-eq2 c = handshake-settles c.args.w.now _ (omega arith) c.args.epoch c.args.number c.args.next c.put_waiting.ensures.0 c.put_waiting.ensures.1 c.if-epoch-eq2.true

pub returns : goal.returns
returns c = application-settles c.args.w.now _ (omega arith) c.args.epoch c.args.number c.args.next c.put_waiting.ensures.0 c.put_waiting.ensures.1 c.if-epoch-eq2.false
