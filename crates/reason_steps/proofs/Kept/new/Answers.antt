-- `reason_steps::Kept::new` meets its contract. Assumes nothing.
use Rattle.std.proofs.Common.{refl}
use Rattle.reason_steps.specs.Steps.{start}
use Rattle.reason_steps.proofs.Kept.new.Goals as goal

pub returns : goal.returns
returns c = λ d. start d refl refl refl
