-- `recv_words::mark` meets its contract. Assumes nothing.
use Rattle.recv_words.specs.Laws.{marks-at}
use Rattle.recv_words.proofs.mark.Goals as goal

pub returns : goal.returns
returns c = rw c.put_window.ensures (marks-at _ _ _ _ _ c.requires c.told-w c.window_at-v.ensures c.update.ensures)
