-- `ack_calls::sent_told` meets its contract. Assumes nothing.
use mathlib.Core.Path.{◌≡◌, refl, sym, ap, ◌∙◌}
use Rattle.std.specs.Prelude.{Bool, true, false, ℕ, eqb, not}
use Rattle.std.specs.Int.{from_bool}
use Rattle.base.specs.Choose.{choose, if_false, by_test}
use Rattle.answers.specs.Told.{tells}
use Rattle.ack_calls.specs.Calls.{both_told}
use Rattle.ack_calls.proofs.sent_told.Goals as goal

one : (b : Bool) → ◌≡◌ {A = ℕ} (from_bool (not b)) (choose (choose b false true) 1 0)
unfolding choose
one true = refl
one false = refl

pub returns-in-Ok : goal.returns-in-Ok
returns-in-Ok c = c.told.ensures ∙ rw c.in-Ok.is (ap (tells 0) (one (eqb c.args.noted 0)))

pub returns-in-Err : goal.returns-in-Err
returns-in-Err c = c.told-in-Err.ensures ∙ rw c.in-Err.is (both_told c.from.ensures (sym (if_false _ _ (by_test (λ (b : Bool). b ≡ false) (λ z. refl) (λ z. refl)))))
