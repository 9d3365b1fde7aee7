-- `recv_calls::key_receive` meets its contract. Assumes nothing.
use mathlib.Core.Path.{sym, ◌∙◌}
use Rattle.std.proofs.lemmas.Result.{err_from_is_err_and}
use Rattle.recv_calls.specs.Laws.{key-asks, does-ok, does-err, does-nothing}
use Rattle.recv_calls.proofs.key_receive.Goals as goal

pub returns-then-not-is_flat : goal.returns-then-not-is_flat
returns-then-not-is_flat c = does-nothing _ _ (sym c.is_flat.ensures ∙ c.if-not-is_flat.true)

pub returns-in_err-key : goal.returns-in_err-key
returns-in_err-key c =
    let p = err_from_is_err_and c.from_residual.result c.from_residual.ensures.1 in
    rw (p.1, p.2) (does-err _ _ _ _ (sym c.is_flat.ensures ∙ c.if-not-is_flat.false) c.in_err-key.was c.key.ensures)

pub returns : goal.returns
returns c = does-ok _ _ _ _ (sym c.is_flat.ensures ∙ c.if-not-is_flat.false) (key-asks _ _ _) c.in_ok-key.was c.key.ensures
