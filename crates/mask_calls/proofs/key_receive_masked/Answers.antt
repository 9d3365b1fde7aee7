-- `mask_calls::key_receive_masked` meets its contract. Assumes nothing.
use mathlib.Core.Path.{refl, sym, ap, ◌∙◌}
use Prim.Native.Nat.{ℕ}
use Rattle.std.proofs.lemmas.Result.{err_from_is_err_and}
use Rattle.base.specs.Choose.{choose, if_true, if_false}
use Rattle.recv_words.specs.Words.{is_flat}
use Rattle.recv_calls.specs.Laws.{not-done}
use Rattle.mask_calls.specs.Laws.{other_length, never_done}
use Rattle.mask_calls.proofs.key_receive_masked.Goals as goal

pub returns-then-key-ne-KEY : goal.returns-then-key-ne-KEY
returns-then-key-ne-KEY c =
    let e = c.bad_length.ensures c.args.iv.now in (
      λ h. absurd (c.if-key-ne-KEY.true h),
      λ h. (e ∙ ap (λ (n : ℕ). choose (is_flat c.args.w.now) n 12) (other_length _ _ h), refl),
      sym (if_false _ _ (never_done _ _ e)),
    )

pub returns-in_err-key_receive : goal.returns-in_err-key_receive
returns-in_err-key_receive c =
    let p = err_from_is_err_and c.from_residual.result c.from_residual.ensures.1 in
    rw (p.1, p.2) (
      λ _. rw c.in_err-key_receive.was at c.key_receive.ensures,
      λ h. absurd (h c.if-key-ne-KEY.false),
      sym (if_false _ _ (not-done _)),
    )

pub returns : goal.returns
returns c = (
  λ _. rw c.in_ok-key_receive.was at c.key_receive.ensures,
  λ h. absurd (h c.if-key-ne-KEY.false),
  c.fill_entry.ensures ∙ sym (if_true _ _ refl),
)
