-- `recv_calls::release_application_data` meets its contract. Assumes nothing.
use mathlib.Core.Path.{sym, ◌∙◌}
use Rattle.std.proofs.lemmas.Result.{err_from_is_err_and}
use Rattle.recv_calls.specs.Laws.{release-asks, does-ok, does-err, does-nothing}
use Rattle.recv_calls.proofs.release_application_data.Goals as goal

pub returns-then-not-is_flat : goal.returns-then-not-is_flat
returns-then-not-is_flat c = does-nothing _ _ (sym c.is_flat.ensures ∙ c.if-not-is_flat.true)

pub release-requires : goal.release-requires
release-requires c = sym c.is_flat.ensures ∙ c.if-not-is_flat.false

pub returns-in_err-release : goal.returns-in_err-release
returns-in_err-release c =
    let p = err_from_is_err_and c.from_residual.result c.from_residual.ensures.1 in
    rw (p.1, p.2) (does-err _ _ _ _ (sym c.is_flat.ensures ∙ c.if-not-is_flat.false) c.in_err-release.was c.release.ensures)

pub returns : goal.returns
returns c = does-ok _ _ _ _ (sym c.is_flat.ensures ∙ c.if-not-is_flat.false) (release-asks _) c.in_ok-release.was c.release.ensures
