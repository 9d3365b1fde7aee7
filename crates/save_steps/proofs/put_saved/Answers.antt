-- `save_steps::put_saved` meets its contract. Assumes nothing.
use native.Mathlib.Omega.{arith}
use Rattle.save_steps.specs.Save.{adds}
use Rattle.save_steps.proofs.put_saved.Goals as goal

pub returns : goal.returns
returns c = adds _ _ _ _ _ _ (omega arith) c.requires c.put_entry.ensures.0 c.put_entry.ensures.1
