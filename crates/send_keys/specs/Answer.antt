-- What a call of the sending side answers, and the paper's number of each refusal (01, "Refusals"). Assumes nothing.
use Rattle.std.specs.Prelude.{Bool, true, ◌≡◌, refl, ℕ, eqb, ⊤, is_ok, Result, Ok, Err}
use Rattle.std.proofs.lemmas.Bool.{false≢true}
use Rattle.send_keys.specs.declared.SendError.{SendError}
use Rattle.send_keys.specs.declared.SendError.TheVariants.{OutOfRange, BadEpoch, BadRecord, KeysAbsent, FlightFull, QueueFull, NumbersSpent, MessagesSpent, HistoryFull, SealingWaits}

-- done, or why not
abbrev pub SendAnswer : Type 0
SendAnswer = Result ⊤ SendError

abbrev pub number_of : SendError → ℕ
number_of OutOfRange = 12
number_of BadEpoch = 13
number_of BadRecord = 14
number_of KeysAbsent = 17
number_of FlightFull = 18
number_of QueueFull = 19
number_of NumbersSpent = 20
number_of MessagesSpent = 21
number_of HistoryFull = 22
number_of SealingWaits = 23

-- 0 where it is done
abbrev pub refusal : SendAnswer → ℕ
refusal (Ok x) = 0
refusal (Err e) = number_of e

abbrev pub is_done : SendAnswer → Bool
is_done a = is_ok a

-- ---- laws

pub done-number : (a : SendAnswer) → eqb (refusal a) 0 ≡ is_done a
done-number (Ok tt) = refl
done-number (Err OutOfRange) = refl
done-number (Err BadEpoch) = refl
done-number (Err BadRecord) = refl
done-number (Err KeysAbsent) = refl
done-number (Err FlightFull) = refl
done-number (Err QueueFull) = refl
done-number (Err NumbersSpent) = refl
done-number (Err MessagesSpent) = refl
done-number (Err HistoryFull) = refl
done-number (Err SealingWaits) = refl

pub is-done : (a : SendAnswer) → is_done a ≡ true → a ≡ Ok tt
is-done (Ok tt) h = refl
is-done (Err e) h = absurd (false≢true h)
