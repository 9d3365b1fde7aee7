-- The epochs to send in (01, "The record link" and refusals 13, 17, 23): which may be used, their next numbers, keying. Assumes nothing.
use Rattle.std.specs.Prelude.{Bool, true, List, ◌≡◌, ℕ, ◌+◌, ltb, leb, eqb, replicate, Ok, Err}
use Rattle.std.proofs.Common.{◌∙◌, eq-eqb, ne_eqb}
use Rattle.base.specs.Choose.{choose, both, either, if_true, if_false, test_cases}
use Rattle.send_keys.specs.declared.SendEpoch.{SendEpoch}
use Rattle.send_keys.specs.declared.SendKeys.{SendKeys}
use Rattle.send_keys.specs.Answer.{SendAnswer}
use Rattle.send_keys.specs.declared.SendError.TheVariants.{OutOfRange, BadEpoch, SealingWaits}

unfoldable pub no_epoch : SendEpoch
no_epoch = record { epoch = 0; iv = replicate 12 0; next = 0; sealed = 0 }

-- "Numbers to send begin at 0"; nothing is keyed
unfoldable pub no_keys : SendKeys
no_keys = record { plaintext_next = 0; handshake = no_epoch; application = no_epoch }

-- 13: "sending outside 0, 2 and the application epoch (the last keyed, 3 or above)"
unfoldable pub is_usable : SendKeys → ℕ → Bool
is_usable k e = either (eqb e 0) (either (eqb e 2) (both (leb 3 e) (eqb e k.application.epoch)))

-- 17: keys absent; a usable epoch other than 2 has them, or needs none
unfoldable pub is_keyed : SendKeys → ℕ → Bool
is_keyed k e = choose (eqb e 2) (eqb k.handshake.epoch 2) true

unfoldable pub next_of : SendKeys → ℕ → ℕ
next_of k e = choose (eqb e 0) k.plaintext_next (choose (eqb e 2) k.handshake.next k.application.next)

unfoldable pub iv_of : SendKeys → ℕ → List ℕ
iv_of k e = choose (eqb e 2) k.handshake.iv k.application.iv

abbrev pub with_next : SendEpoch → ℕ → SendEpoch
with_next e n = record { epoch = e.epoch; iv = e.iv; next = n; sealed = e.sealed }

abbrev pub with_sealed : SendEpoch → ℕ → SendEpoch
with_sealed e n = record { epoch = e.epoch; iv = e.iv; next = e.next; sealed = n }

-- keys with a part put anew
abbrev pub with_plaintext : SendKeys → ℕ → SendKeys
with_plaintext k n = record { plaintext_next = n; handshake = k.handshake; application = k.application }

abbrev pub with_handshake : SendKeys → SendEpoch → SendKeys
with_handshake k e = record { plaintext_next = k.plaintext_next; handshake = e; application = k.application }

abbrev pub with_application : SendKeys → SendEpoch → SendKeys
with_application k e = record { plaintext_next = k.plaintext_next; handshake = k.handshake; application = e }

-- an epoch's next number is used
unfoldable pub used : SendKeys → ℕ → SendKeys
used k e =
    choose (eqb e 0) (with_plaintext k (k.plaintext_next + 1))
    (choose (eqb e 2)
    (with_handshake k (with_next k.handshake (k.handshake.next + 1)))
    (with_application k (with_next k.application (k.application.next + 1))))

-- the record of an epoch with this number is sealed; sealings are asked oldest first, so those below it are too
unfoldable pub sealed_up_to : SendKeys → ℕ → ℕ → SendKeys
sealed_up_to k e n =
    choose (eqb e 2)
    (with_handshake k (with_sealed k.handshake (n + 1)))
    (with_application k (with_sealed k.application (n + 1)))

-- 12; 13: "keying 0, 1 or one not above every earlier one of its direction"; 23: "a sending application epoch replaced while a
-- sealing under it waits". An epoch above epoch 2 and every earlier one is an application epoch, and so is the one that it replaces.
unfoldable pub key_answer : SendKeys → Bool → ℕ → SendAnswer
key_answer k sound e =
    choose sound
    (choose (ltb e 2) (Err BadEpoch)
    (choose (leb e k.handshake.epoch) (Err BadEpoch)
    (choose (leb e k.application.epoch) (Err BadEpoch)
    (choose (eqb k.application.epoch 0) (Ok tt)
    (choose (ltb k.application.sealed k.application.next) (Err SealingWaits) (Ok tt))))))
    (Err OutOfRange)

-- its IV, and numbers from 0
abbrev pub begun : ℕ → List ℕ → SendEpoch
begun e iv = record { epoch = e; iv = iv; next = 0; sealed = 0 }

unfoldable pub keyed : SendKeys → ℕ → List ℕ → SendKeys
keyed k e iv =
    choose (eqb e 2) (with_handshake k (begun e iv))
    (with_application k (begun e iv))

-- ---- laws

pub next-plaintext : (k : SendKeys) {e : ℕ} → e ≡ 0 → next_of k e ≡ k.plaintext_next
unfolding next_of
next-plaintext k h = if_true _ _ (eq-eqb _ _ h)

module _ (k : SendKeys) {e : ℕ} (h : e ≡ 0 → ⊥) where
  pub next-handshake : e ≡ 2 → next_of k e ≡ k.handshake.next
  unfolding next_of
  next-handshake g = if_false _ _ (ne_eqb _ _ h) ∙ if_true _ _ (eq-eqb _ _ g)

  pub next-application : (e ≡ 2 → ⊥) → next_of k e ≡ k.application.next
  unfolding next_of
  next-application g = if_false _ _ (ne_eqb _ _ h) ∙ if_false _ _ (ne_eqb _ _ g)

-- a number used moves the next one of its epoch by one
pub used-next : (k : SendKeys) (e : ℕ) → next_of (used k e) e ≡ next_of k e + 1
unfolding next_of used choose
used-next k e = test_cases (eqb e 0) (λ a. rw a) (λ a. test_cases (eqb e 2) (λ b. rw (a, b)) (λ b. rw (a, b)))
