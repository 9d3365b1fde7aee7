-- `resend_steps::close` meets its contract. Assumes nothing.
use native.Mathlib.Omega.{arith}
use Rattle.resend_steps.specs.Again.{closes}
use Rattle.resend_steps.proofs.close.Goals as goal

pub returns : goal.returns
returns c = closes _ (omega arith)
