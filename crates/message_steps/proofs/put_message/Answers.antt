-- `message_steps::put_message` meets its contract. Assumes nothing.
use native.Mathlib.Omega.{arith}
use Rattle.message_steps.specs.Create.{message-put}
use Rattle.message_steps.proofs.put_message.Goals as goal

pub returns : goal.returns
returns c = message-put _ _ (omega arith) (omega (arith, c.requires))
