-- `send_key_steps::put_keyed` meets its contract. Assumes nothing.
use native.Mathlib.Omega.{arith}
use Rattle.send_key_steps.specs.Keyed.{handshake-keyed, application-keyed}
use Rattle.send_key_steps.proofs.put_keyed.Goals as goal

pub returns-then-epoch-eq2 : goal.returns-then-epoch-eq2
returns-then-epoch-eq2 c = handshake-keyed c.args.w.now _ (omega arith) c.args.epoch c.args.iv c.put_epoch.ensures c.if-epoch-eq2.true

pub returns : goal.returns
returns c = application-keyed c.args.w.now _ (omega arith) c.args.epoch c.args.iv c.put_epoch-2.ensures c.if-epoch-eq2.false
