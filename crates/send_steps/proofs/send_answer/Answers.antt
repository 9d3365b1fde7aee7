-- `send_steps::send_answer` meets its contract: 12 before 13, 14, 17, and those before 19, 20. Assumes nothing.
use mathlib.Core.Path.{sym, ◌∙◌}
use Rattle.std.proofs.lemmas.Result.{err_from_is_err_and}
use Rattle.outgoing.specs.State.{allowed-short}
use Rattle.queue.specs.Queue.{ready}
use Rattle.send_words.specs.Words.{state_of}
use Rattle.send_steps.specs.Steps.{allowed, not_ready, not_sent, then_placed}
use Rattle.send_steps.proofs.send_answer.Goals as goal

pub returns-then-not-is_ready : goal.returns-then-not-is_ready
returns-then-not-is_ready c = not_ready _ _ _ _ _ _ (sym c.is_ready.ensures ∙ c.if-not-is_ready.true)

pub returns-in_err-epoch_answer : goal.returns-in_err-epoch_answer
returns-in_err-epoch_answer c =
    let p = err_from_is_err_and c.from_residual.result c.from_residual.ensures.1 in
    rw (p.1, p.2) (not_sent _ _ _ _ _ _ (sym c.is_ready.ensures ∙ c.if-not-is_ready.false) (sym c.epoch_answer.ensures ∙ c.in_err-epoch_answer.was))

pub place_for-requires : goal.place_for-requires
place_for-requires c =
    let a = c.args in
    ((ready (sym c.is_ready.ensures ∙ c.if-not-is_ready.false)).range, allowed-short _ a.epoch a.t a.n (allowed (state_of a.w.now) a.epoch a.t a.n (sym c.epoch_answer.ensures ∙ c.in_ok-epoch_answer.was)))

pub returns : goal.returns
returns c = then_placed _ _ _ _ _ _ (sym c.is_ready.ensures ∙ c.if-not-is_ready.false) (sym c.epoch_answer.ensures ∙ c.in_ok-epoch_answer.was) c.place_for.ensures
