-- `send_steps::use_number` meets its contract. Assumes nothing.
use native.Mathlib.Omega.{arith}
use Rattle.send_steps.specs.Steps.{plaintext-uses, handshake-uses, application-uses}
use Rattle.send_steps.proofs.use_number.Goals as goal

pub returns-then-epoch-eq0 : goal.returns-then-epoch-eq0
returns-then-epoch-eq0 c = plaintext-uses c.args.w.now (omega arith) c.args.epoch c.args.number c.requires.0 c.if-epoch-eq0.true

pub returns-then-epoch-eq2 : goal.returns-then-epoch-eq2
returns-then-epoch-eq2 c = handshake-uses c.args.w.now (omega arith) c.args.epoch c.args.number c.requires.0 c.if-epoch-eq0.false c.if-epoch-eq2.true

pub returns : goal.returns
returns c = application-uses c.args.w.now (omega arith) c.args.epoch c.args.number c.requires.0 c.if-epoch-eq0.false c.if-epoch-eq2.false
