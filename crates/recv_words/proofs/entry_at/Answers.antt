-- `recv_words::entry_at` meets its contract. Assumes nothing.
use mathlib.Core.Path.{sym, ap, ◌∙◌}
use Rattle.recv_keys.specs.declared.RecvEpochEntry.{RecvEpochEntry}
use Rattle.recv_words.specs.Laws.{entry-at}
use Rattle.recv_words.proofs.entry_at.Goals as goal

pub returns : goal.returns
returns c = rw (c.low.ensures, c.iv_at-iv.ensures, c.window_at-v.ensures ∙ ap (λ (e : RecvEpochEntry). e.replay) (entry-at _ _ c.requires)) (sym (entry-at _ _ c.requires))
