-- `recv_words::window_at` meets its contract. Assumes nothing.
use mathlib.Core.Path.{sym, ap}
use Rattle.recv_keys.specs.declared.RecvEpochEntry.{RecvEpochEntry}
use Rattle.recv_words.specs.Laws.{entry-at}
use Rattle.recv_words.proofs.window_at.Goals as goal

pub returns : goal.returns
returns c = ap (λ (e : RecvEpochEntry). e.replay) (sym (entry-at _ _ c.requires))
