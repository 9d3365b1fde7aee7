-- `chacha::column_round` meets its contract: the four quarter rounds share no word. Assumes nothing.
use Rattle.chacha.specs.Chacha.{column_round, quarter_at, put_quad}
use Rattle.chacha.proofs.column_round.Goals as goal

pub returns : goal.returns
unfolding column_round quarter_at put_quad
returns c = cc
