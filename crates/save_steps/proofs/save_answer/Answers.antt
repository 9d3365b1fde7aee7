-- `save_steps::save_answer` meets its contract: 12, 12, 13, 14, 17, 18, 19, 20 in this order. Assumes nothing.
use mathlib.Core.Path.{sym, ◌∙◌}
use Rattle.std.proofs.lemmas.Result.{err_from_is_err_and}
use Rattle.outgoing.specs.State.{allowed-short}
use Rattle.queue.specs.Queue.{ready}
use Rattle.send_words.specs.Words.{state_of}
use Rattle.send_steps.specs.Steps.{allowed}
use Rattle.save_steps.specs.Save.{not_ready, not_kept, not_sent, flight_full, then_placed}
use Rattle.save_steps.proofs.save_answer.Goals as goal

pub returns-then-not-is_ready : goal.returns-then-not-is_ready
returns-then-not-is_ready c = not_ready _ _ _ _ _ _ _ _ (sym c.is_ready.ensures ∙ c.if-not-is_ready.true)

pub has_room-requires : goal.has_room-requires
has_room-requires c = (ready (sym c.is_ready.ensures ∙ c.if-not-is_ready.false)).range.high

pub returns-then-not-has_room : goal.returns-then-not-has_room
returns-then-not-has_room c = not_kept _ _ _ _ _ _ _ _ (sym c.is_ready.ensures ∙ c.if-not-is_ready.false) (sym c.has_room.ensures ∙ c.if-not-has_room.true)

pub returns-in_err-epoch_answer : goal.returns-in_err-epoch_answer
returns-in_err-epoch_answer c =
    let p = err_from_is_err_and c.from_residual.result c.from_residual.ensures.1 in
    rw (p.1, p.2) (not_sent _ _ _ _ _ _ _ _ (sym c.is_ready.ensures ∙ c.if-not-is_ready.false) (sym c.has_room.ensures ∙ c.if-not-has_room.false) (sym c.epoch_answer.ensures ∙ c.in_err-epoch_answer.was))

pub returns-then-saved-ge12 : goal.returns-then-saved-ge12
returns-then-saved-ge12 c =
    flight_full _ _ _ _ _ _ _ _ (sym c.is_ready.ensures ∙ c.if-not-is_ready.false) (sym c.has_room.ensures ∙ c.if-not-has_room.false) (sym c.epoch_answer.ensures ∙ c.in_ok-epoch_answer.was) c.if-saved-ge12.true

pub place_for-requires : goal.place_for-requires
place_for-requires c =
    let a = c.args in
    ((ready (sym c.is_ready.ensures ∙ c.if-not-is_ready.false)).range, allowed-short _ a.epoch a.t a.n (allowed (state_of a.w.now) a.epoch a.t a.n (sym c.epoch_answer.ensures ∙ c.in_ok-epoch_answer.was)))

pub returns : goal.returns
returns c =
    then_placed _ _ _ _ _ _ _ _ (sym c.is_ready.ensures ∙ c.if-not-is_ready.false) (sym c.has_room.ensures ∙ c.if-not-has_room.false) (sym c.epoch_answer.ensures ∙ c.in_ok-epoch_answer.was) c.if-saved-ge12.false c.place_for.ensures
