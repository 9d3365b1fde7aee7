-- `chacha::diagonal_round` meets its contract: the four quarter rounds share no word. Assumes nothing.
use Rattle.chacha.specs.Chacha.{diagonal_round, quarter_at, put_quad}
use Rattle.chacha.proofs.diagonal_round.Goals as goal

pub returns : goal.returns
unfolding diagonal_round quarter_at put_quad
returns c = cc
