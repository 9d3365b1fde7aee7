-- `mask_calls::key_send_masked` meets its contract. Assumes nothing.
use mathlib.Core.Path.{refl, sym, ap, ◌∙◌}
use Prim.Native.Nat.{ℕ}
use Rattle.std.specs.Prelude.{eqb, ⊤, Result, Err}
use Rattle.std.proofs.lemmas.Result.{err_from_is_err_and}
use Rattle.base.specs.Choose.{choose, if_true, if_false}
use Rattle.send_keys.specs.Answer.{number_of, refusal, done-number}
use Rattle.send_keys.specs.declared.SendError.{SendError}
use Rattle.send_words.specs.Words.{is_flat}
use Rattle.mask_keys.specs.Keys.{send_slots, filled}
use Rattle.mask_keys.proofs.Laws.{filled_at}
use Rattle.mask_calls.specs.Calls.{masked_number}
use Rattle.mask_calls.specs.Laws.{other_length, never_done}
use Rattle.mask_calls.specs.declared.MaskedKeyError.{MaskedKeyError}
use Rattle.mask_calls.proofs.key_send_masked.Goals as goal

pub returns-in_err-key_send : goal.returns-in_err-key_send
returns-in_err-key_send c =
    let e = c.key_send.ensures in
    let p = err_from_is_err_and c.from_residual.result c.from_residual.ensures.1 in
    let q = p.1 ∙ ap Err p.2 in
    (λ _. (ap (masked_number number_of) q ∙ ap refusal (sym c.in_err-key_send.was) ∙ e.0, e.1), λ h. absurd (h c.if-key-eq-KEY.true), sym (if_false _ _ (ap (λ (r : Result ⊤ (MaskedKeyError SendError)). eqb (masked_number number_of r) 0) q ∙ done-number (Err c.in_err-key_send.field-0.0))))

pub returns-then-key-eq-KEY : goal.returns-then-key-eq-KEY
returns-then-key-eq-KEY c =
    let s = c.send_slot in
    let a = c.args in
    let e = c.key_send.ensures in
    (λ _. (ap refusal (sym c.in_ok-key_send.was) ∙ e.0, e.1), λ h. absurd (h c.if-key-eq-KEY.true), c.fill.ensures ∙ filled_at send_slots s.result a.key.now a.k.now s.ensures.1 ∙ ap (λ (i : ℕ). filled send_slots i a.key.now a.k.now) s.ensures.0 ∙ sym (if_true _ _ refl))

pub returns : goal.returns
returns c = let a = c.args in let e = c.bad_send_length.ensures a.iv.now in (λ h. absurd (c.if-key-eq-KEY.false h), λ h. (e ∙ ap (λ (n : ℕ). choose (is_flat a.w.now) n 12) (other_length _ _ h), refl), sym (if_false _ _ (never_done _ _ e)))
