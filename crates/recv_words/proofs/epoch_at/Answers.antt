-- `recv_words::epoch_at` meets its contract. Assumes nothing.
use mathlib.Core.Path.{sym, ap, ◌∙◌}
use Rattle.recv_keys.specs.declared.RecvEpochEntry.{RecvEpochEntry}
use Rattle.recv_words.specs.Laws.{entry-at}
use Rattle.recv_words.proofs.epoch_at.Goals as goal

pub returns : goal.returns
returns c = c.low.ensures ∙ ap (λ (e : RecvEpochEntry). e.epoch) (sym (entry-at _ _ c.requires))
