-- `send_steps::tail_of` meets its contract. Assumes nothing.
use mathlib.Core.Path.{sym, ◌∙◌}
use Rattle.queue.specs.Queue.{tail_of, joinable-counted}
use Rattle.send_words.specs.Words.{queue_of}
use Rattle.send_steps.proofs.tail_of.Goals as goal

pub returns : goal.returns
unfolding tail_of
returns c = (rw (c.is_joinable-joinable.ensures, c.last_len-used.ensures.0), record { used = c.last_len-used.ensures.1; counted = λ e. joinable-counted (queue_of c.args.w.now) (sym c.is_joinable-joinable.ensures ∙ e) })
