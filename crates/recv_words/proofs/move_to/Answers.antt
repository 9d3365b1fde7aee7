-- `recv_words::move_to` meets its contract. Assumes nothing.
use Rattle.recv_words.specs.Laws.{move_put}
use Rattle.recv_words.proofs.move_to.Goals as goal

pub returns : goal.returns
returns c = move_put _ _ _ c.told-w
