-- `mask_calls::bad_send_length` meets its contract. Assumes nothing.
use mathlib.Core.Path.{◌≡◌, refl, sym, ap, ◌∙◌}
use mathlib.Core.Logic.{◌⊎◌, inl, inr}
use Rattle.base.specs.Choose.{choose, either, if_true, if_false}
use Rattle.send_keys.specs.Answer.{SendAnswer, refusal, number_of}
use Rattle.send_keys.specs.declared.SendError.{SendError}
use Rattle.send_keys.specs.declared.SendError.TheVariants.{OutOfRange, BadEpoch, BadRecord, KeysAbsent, FlightFull, QueueFull, NumbersSpent, MessagesSpent, HistoryFull, SealingWaits}
use Rattle.outgoing.specs.State.{keying_state}
use Rattle.mask_calls.specs.Calls.{length_as}
use Rattle.mask_calls.proofs.bad_send_length.Goals as goal

other : (e : SendError) → (e ≡ OutOfRange → ⊥) → (e ≡ BadEpoch → ⊥) → 27 ≡ length_as (number_of e)
unfolding length_as choose either
other OutOfRange f g = absurd (f refl)
other BadEpoch f g = absurd (g refl)
other BadRecord f g = refl
other KeysAbsent f g = refl
other FlightFull f g = refl
other QueueFull f g = refl
other NumbersSpent f g = refl
other MessagesSpent f g = refl
other HistoryFull f g = refl
other SealingWaits f g = refl

same : (e : SendError) → (e ≡ OutOfRange) ⊎ (e ≡ BadEpoch) → number_of e ≡ length_as (number_of e)
unfolding length_as choose either
same e (inl q) = rw q refl
same e (inr q) = rw q refl

pub returns-in-Ok : goal.returns-in-Ok
unfolding keying_state length_as choose either
returns-in-Ok c = λ iv. ap (λ (a : SendAnswer). length_as (refusal a)) (sym c.in-Ok.is ∙ c.key_answer.ensures) ∙ sym (if_true _ _ (sym c.is_flat.ensures ∙ c.if-is_flat.true))

pub returns : goal.returns
returns c = λ iv. sym (if_false _ _ (sym c.is_flat.ensures ∙ c.if-is_flat.false))

pub returns-in-OutOfRange : goal.returns-in-OutOfRange
unfolding keying_state
returns-in-OutOfRange c =
    λ iv. same c.in-Err.e c.in-OutOfRange.is ∙ ap (λ (a : SendAnswer). length_as (refusal a)) (sym c.in-Err.is ∙ c.key_answer.ensures) ∙ sym (if_true _ _ (sym c.is_flat.ensures ∙ c.if-is_flat.true))

pub returns-in_default : goal.returns-in_default
unfolding keying_state
returns-in_default c =
    λ iv. other c.in-Err.e c.in_default.not-OutOfRange c.in_default.not-BadEpoch ∙ ap (λ (a : SendAnswer). length_as (refusal a)) (sym c.in-Err.is ∙ c.key_answer.ensures) ∙ sym (if_true _ _ (sym c.is_flat.ensures ∙ c.if-is_flat.true))
