-- `recv_words::ask_opening` meets its contract. Assumes nothing.
use Rattle.recv_words.specs.Laws.{opening-put}
use Rattle.recv_words.proofs.ask_opening.Goals as goal

pub returns : goal.returns
returns c = opening-put _ _ c.told-w
