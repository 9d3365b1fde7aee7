-- `send_key_steps::key_send` meets its contract. Assumes nothing.
use mathlib.Core.Path.{sym, ap, ◌∙◌}
use Rattle.std.proofs.lemmas.Result.{err_from_is_err_and}
use Rattle.base.specs.Choose.{if_true, if_false}
use Rattle.outgoing.specs.State.{keying_state}
use Rattle.send_keys.specs.Answer.{is_done}
use Rattle.send_key_steps.proofs.key_send.Goals as goal

pub returns-in_err-key_answer : goal.returns-in_err-key_answer
unfolding keying_state
returns-in_err-key_answer c =
    let p = err_from_is_err_and c.from_residual.result c.from_residual.ensures.1 in
    let e = sym c.key_answer.ensures ∙ c.in_err-key_answer.was in
    rw (p.1, p.2) (sym e, (sym (if_false _ _ (ap is_done e)), λ f. f))

pub returns : goal.returns
unfolding keying_state
returns c =
    let e = sym c.key_answer.ensures ∙ c.in_ok-key_answer.was in
    (sym e, (c.put_keyed.ensures.0 ∙ sym (if_true _ _ (ap is_done e)), c.put_keyed.ensures.1))
