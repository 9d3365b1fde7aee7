-- `mask_calls::key_send` meets its contract. Assumes nothing.
use mathlib.Core.Path.{refl, sym, ap, ◌∙◌}
use Prim.Native.Nat.{ℕ}
use Rattle.std.specs.Prelude.{Err}
use Rattle.std.proofs.lemmas.Result.{err_from_is_err_and}
use Rattle.base.specs.Choose.{if_true, if_false}
use Rattle.send_keys.specs.Answer.{refusal, is_done, done-number}
use Rattle.mask_keys.specs.Keys.{send_slots, emptied}
use Rattle.mask_keys.proofs.Laws.{emptied-at}
use Rattle.mask_calls.proofs.key_send.Goals as goal

pub returns-in_err-key_send : goal.returns-in_err-key_send
returns-in_err-key_send c =
    let e = c.key_send.ensures in
    let p = err_from_is_err_and c.from_residual.result c.from_residual.ensures.1 in
    ((ap refusal (p.1 ∙ ap Err p.2 ∙ sym c.in_err-key_send.was) ∙ e.0, e.1), sym (if_false _ _ (done-number c.from_residual.result ∙ ap is_done p.1)))

pub returns : goal.returns
returns c =
    let s = c.send_slot in
    let k = c.args.k.now in
    let e = c.key_send.ensures in
    ((ap refusal (sym c.in_ok-key_send.was) ∙ e.0, e.1), c.empty.ensures ∙ emptied-at send_slots s.result k s.ensures.1 ∙ ap (λ (i : ℕ). emptied send_slots i k) s.ensures.0 ∙ sym (if_true _ _ refl))
