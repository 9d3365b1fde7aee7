-- `message_steps::create_handshake` meets its contract: all the pieces, or nothing. Assumes nothing.
use lib.ListN.{length, get_or}
use mathlib.Core.Path.{refl, sym, ap, ◌∙◌}
use Rattle.std.proofs.lemmas.Result.{err_from_is_err_and}
use Rattle.send_keys.specs.Answer.{is_done}
use Rattle.flight.specs.Flight.{counted}
use Rattle.messages.specs.Message.{message_safe}
use Rattle.send_words.specs.Words.{state_of}
use Rattle.flight_words.specs.Words.{saved-at}
use Rattle.message_steps.specs.Create.{creates_all, creates_nothing}
use Rattle.message_steps.proofs.create_handshake.Goals as goal

pub send_all-requires : goal.send_all-requires
send_all-requires c = let a = c.args in let h = message_safe (state_of a.w.now) (counted (get_or a.f.now saved-at 0)) (length a.memory.now) (length a.kept.now) a.kind (length a.body.now) (ap is_done (sym c.message_answer.ensures ∙ c.in_ok-message_answer.was)) in (h.range, h.short)

pub put_message-requires : goal.put_message-requires
put_message-requires c = let a = c.args in let h = message_safe (state_of a.w.now) (counted (get_or a.f.now saved-at 0)) (length a.memory.now) (length a.kept.now) a.kind (length a.body.now) (ap is_done (sym c.message_answer.ensures ∙ c.in_ok-message_answer.was)) in h.seq

pub returns-in_err-message_answer : goal.returns-in_err-message_answer
returns-in_err-message_answer c = let a = c.args in
    let p = err_from_is_err_and c.from_residual.result c.from_residual.ensures.1 in
    rw (p.1, p.2) (creates_nothing a.kind a.body.now a.w.now a.f.now a.memory.now a.kept.now (sym c.in_err-message_answer.was ∙ c.message_answer.ensures) refl)

pub returns : goal.returns
returns c = let a = c.args in
    creates_all a.kind a.body.now a.w.now a.f.now a.memory.now a.kept.now (sym c.in_ok-message_answer.was ∙ c.message_answer.ensures) _ _ _ _ _ refl c.send_all.ensures c.put_message.ensures
