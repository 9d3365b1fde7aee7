-- `seal_steps::reply` meets its contract: where nothing is queued behind, the search would find none. Assumes nothing.
use mathlib.Core.Path.{sym, ◌∙◌}
use Rattle.send_words.specs.Words.{state_of}
use Rattle.seal_steps.specs.Last.{last_none}
use Rattle.seal_steps.proofs.reply.Goals as goal

pub returns-then-is_last : goal.returns-then-is_last
returns-then-is_last c = let a = c.args in let e = c.no_waiting.ensures ∙ sym (last_none (state_of a.w.now) a.memory.now c.requires.0 (sym c.is_last.ensures ∙ c.if-is_last.true)) in (rw e at c.mask_oldest.ensures.0, c.mask_oldest.ensures.1)
