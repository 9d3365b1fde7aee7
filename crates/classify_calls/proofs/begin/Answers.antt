-- `classify_calls::begin` meets its contract. Assumes nothing.
use mathlib.Core.Path.{refl, sym, ◌∙◌}
use Rattle.std.proofs.lemmas.Result.{err_from_is_err_and}
use Rattle.base.specs.Choose.{if_true, if_false}
use Rattle.recv_calls.specs.Laws.{not-done}
use Rattle.classify_calls.proofs.begin.Goals as goal

pub returns-in_err-begin : goal.returns-in_err-begin
returns-in_err-begin c =
    let p = err_from_is_err_and c.from_residual.result c.from_residual.ensures.1 in
    rw (p.1, p.2) (rw c.in_err-begin.was at c.begin.ensures, sym (if_false _ _ (not-done _)))

pub returns : goal.returns
returns c = (rw c.in_ok-begin.was at c.begin.ensures, c.clear.ensures ∙ sym (if_true _ _ refl))
