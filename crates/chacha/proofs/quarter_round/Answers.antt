-- `chacha::quarter_round` meets its contract: sums and rotations are those of the four lines. Assumes nothing.
use Rattle.chacha.specs.Chacha.{quarter_round, abd, cdb, plus, rotl}
use Rattle.chacha.proofs.quarter_round.Goals as goal

pub returns : goal.returns
unfolding quarter_round abd cdb plus rotl
returns c = cc
