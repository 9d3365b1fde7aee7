-- `send_steps::put_end` meets its contract. Assumes nothing.
use native.Mathlib.Omega.{arith}
use Rattle.send_steps.specs.Steps.{end-put}
use Rattle.send_steps.proofs.put_end.Goals as goal

pub returns : goal.returns
returns c = end-put c.args.w.now c.args.slot c.args.nth c.args.end c.requires.0 c.requires.2 (omega arith)
