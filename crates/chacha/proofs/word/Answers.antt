-- `chacha::word` meets its contract: the sum of four bytes that the slice holds. Assumes nothing.
use Rattle.chacha.specs.Chacha.{word}
use Rattle.chacha.proofs.word.Goals as goal

pub returns : goal.returns
unfolding word
returns c = cc
