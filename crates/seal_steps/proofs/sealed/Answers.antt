-- `seal_steps::sealed` meets its contract. Assumes nothing.
use lib.ListN.{length}
use mathlib.Core.Path.{sym, ap, ◌∙◌}
use Rattle.sealing.specs.Sealing.{is_sealed, sealed-held}
use Rattle.send_words.specs.Words.{state_of}
use Rattle.seal_steps.proofs.sealed.Goals as goal

pub reply-requires : goal.reply-requires
reply-requires c = sealed-held (state_of c.args.w.now) (length c.args.memory.now) c.args.length (ap is_sealed (sym c.seal_answer.ensures ∙ c.in_ok-seal_answer.was))
