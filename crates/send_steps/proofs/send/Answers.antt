-- `send_steps::send` meets its contract. Assumes nothing.
use lib.ListN.{length}
use mathlib.Core.Path.{refl, sym, ap, ◌∙◌}
use Rattle.std.proofs.lemmas.Result.{err_from_is_err_and}
use Rattle.outgoing.proofs.Send.{send_clear}
use Rattle.outgoing.specs.Send.{send_answer}
use Rattle.send_keys.specs.Answer.{is_done}
use Rattle.send_words.specs.Words.{state_of}
use Rattle.send_steps.specs.Steps.{placed-done, placed-refused}
use Rattle.send_steps.specs.Sends.{sends-laid, sends-nothing}
use Rattle.send_steps.proofs.send.Goals as goal

pub returns-in_err-p : goal.returns-in_err-p
returns-in_err-p c =
    let p = err_from_is_err_and c.from_residual.result c.from_residual.ensures.1 in
    rw (p.1, p.2) (sends-nothing _ _ _ (sym (placed-refused _ _ (sym c.send_answer.ensures ∙ c.in_err-p.was))) refl)

pub lay-requires : goal.lay-requires
lay-requires c = let a = c.args in
    let d = placed-done (send_answer (state_of a.w.now) (length a.d.now) a.epoch a.t (length a.content.now)) (sym c.send_answer.ensures ∙ c.in_ok-p.was) in
    (send_clear (state_of a.w.now) (length a.d.now) a.epoch a.t (length a.content.now) (ap is_done d.0), d.1)

pub returns : goal.returns
returns c = sends-laid _ _ _ (sym (placed-done _ (sym c.send_answer.ensures ∙ c.in_ok-p.was)).0) _ _ refl c.lay.ensures.0 c.lay.ensures.1
