-- `status_calls::sending_status` meets its contract. Assumes nothing.
use Rattle.std.proofs.Common.{sym, ◌∙◌, arith}
use Rattle.queue.specs.Queue.{in-range}
use Rattle.send_words.specs.Words.{queue_of}
use Rattle.status_calls.specs.Calls.{queued-told}
use Rattle.status_calls.proofs.sending_status.Goals as goal

pub overflow_cast-result : goal.overflow_cast-result
overflow_cast-result c = let r = in-range {q = queue_of c.args.w.now} (sym c.is_sound.ensures ∙ c.if-is_sound.true) in omega (arith, r.count, r.limit)

pub returns-then-is_sound : goal.returns-then-is_sound
returns-then-is_sound c = queued-told c.args.w.now _ _ _ (sym c.is_flat.ensures ∙ c.if-is_flat.true) (sym c.is_sound.ensures ∙ c.if-is_sound.true) c.saturating_sub-handshake.ensures c.saturating_sub-application.ensures c.saturating_add.ensures
