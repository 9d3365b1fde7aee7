-- `mask_calls::key_receive` meets its contract. Assumes nothing.
use mathlib.Core.Path.{refl, sym, ◌∙◌}
use Rattle.std.proofs.lemmas.Result.{err_from_is_err_and}
use Rattle.base.specs.Choose.{if_true, if_false}
use Rattle.recv_calls.specs.Laws.{not-done}
use Rattle.mask_calls.proofs.key_receive.Goals as goal

pub returns-in_err-key_receive : goal.returns-in_err-key_receive
returns-in_err-key_receive c =
    let p = err_from_is_err_and c.from_residual.result c.from_residual.ensures.1 in
    rw (p.1, p.2) (rw c.in_err-key_receive.was at c.key_receive.ensures, sym (if_false _ _ (not-done _)))

pub returns : goal.returns
returns c = (rw c.in_ok-key_receive.was at c.key_receive.ensures, c.empty_entry.ensures ∙ sym (if_true _ _ refl))
