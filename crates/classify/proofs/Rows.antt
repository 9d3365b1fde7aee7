-- Readings worked by the definitions, each row computed by the checker. Assumes nothing.
use Rattle.std.specs.Prelude.{true, false, List, [], ◌∷◌, ◌≡◌, refl, ℕ, set}
use Rattle.base.specs.Choose.{choose, both, either}
use Rattle.datagram.specs.declared.Reading.TheVariants as says
use Rattle.classify.specs.Classify.{plaintext-kind, unopened-kind, opened-kind, is_inside, is_sound, closed_at, close-epoch-at, close-number-at, fresh, waiting, is_after, is_beyond, is_guarded, alert_as, by_type, class_of}
use Rattle.classify.specs.declared.Class.TheVariants as class

-- a close remembered at epoch 3, number 7
abbrev closed : List ℕ
closed = set (set (set fresh closed_at 1) close-epoch-at 3) close-number-at 7

-- a reading of that kind, type, epoch and number, nothing closed or closed
abbrev open_at : ℕ → ℕ → ℕ → ℕ → List ℕ
open_at k t e n = waiting k t e n 0 0 fresh

abbrev closed-before : ℕ → ℕ → ℕ → ℕ → List ℕ
closed-before k t e n = waiting k t e n 0 0 closed

-- at the close itself nothing is dropped, one number or one epoch beyond it is
pub at_the_close : class_of (closed-before opened-kind 23 3 7) true [] ≡ class.ApplicationData
unfolding class_of is_beyond is_after choose both either is_guarded by_type
at_the_close = refl

pub one-beyond : class_of (closed-before opened-kind 23 3 8) true [] ≡ class.Beyond
unfolding class_of is_beyond is_after choose both
one-beyond = refl

pub next-epoch : class_of (closed-before opened-kind 23 4 0) true [] ≡ class.Beyond
unfolding class_of is_beyond is_after choose both
next-epoch = refl

pub epoch-before : class_of (closed-before opened-kind 23 2 9) true [] ≡ class.ApplicationData
unfolding class_of is_beyond is_after choose both either is_guarded by_type
epoch-before = refl

-- a plaintext alert after encryption; a plaintext ACK before it
pub plain-alert : class_of (open_at plaintext-kind 21 0 5) true (2 ∷ 40 ∷ []) ≡ class.Unprotected
unfolding class_of is_beyond is_after choose both either is_guarded
plain-alert = refl

pub plain-ack : class_of (open_at plaintext-kind 26 0 5) false (0 ∷ 0 ∷ []) ≡ class.Ignored
unfolding class_of is_beyond is_after choose both either is_guarded by_type
plain-ack = refl

pub sealed-ack : class_of (open_at opened-kind 26 2 5) true (0 ∷ 0 ∷ []) ≡ class.Ack
unfolding class_of is_beyond is_after choose both either is_guarded by_type
sealed-ack = refl

-- alerts
pub first-close : class_of (open_at opened-kind 21 3 7) true (1 ∷ 0 ∷ []) ≡ class.Close
unfolding class_of is_beyond is_after choose both either is_guarded by_type alert_as
first-close = refl

pub second-close : class_of (closed-before opened-kind 21 3 6) true (1 ∷ 0 ∷ []) ≡ class.Ignored
unfolding class_of is_beyond is_after choose both either is_guarded by_type alert_as
second-close = refl

pub canceled : class_of (open_at opened-kind 21 3 7) true (1 ∷ 90 ∷ []) ≡ class.Ignored
unfolding class_of is_beyond is_after choose both either is_guarded by_type alert_as
canceled = refl

pub one-byte : class_of (open_at opened-kind 21 3 7) true (2 ∷ []) ≡ class.Ignored
unfolding class_of is_beyond is_after choose both either is_guarded by_type alert_as
one-byte = refl

pub told-alert : class_of (open_at opened-kind 21 3 7) true (2 ∷ 40 ∷ []) ≡ class.Alert 40
unfolding class_of is_beyond is_after choose both either is_guarded by_type alert_as
told-alert = refl

-- the rest
pub sealed_20 : class_of (open_at opened-kind 20 3 7) true (1 ∷ []) ≡ class.Ignored
unfolding class_of is_beyond is_after choose both either is_guarded by_type
sealed_20 = refl

pub sealed_30 : class_of (open_at opened-kind 30 3 7) true [] ≡ class.Other
unfolding class_of is_beyond is_after choose both either is_guarded by_type
sealed_30 = refl

pub plain-handshake : class_of (open_at plaintext-kind 22 0 0) false [] ≡ class.Handshake
unfolding class_of is_beyond is_after choose both either is_guarded by_type
plain-handshake = refl

pub unopened-beyond : class_of (closed-before unopened-kind 0 3 300) false [] ≡ class.Beyond
unfolding class_of is_beyond is_after choose both
unopened-beyond = refl

pub unopened-kept : class_of (closed-before unopened-kind 0 2 300) false [] ≡ class.Unopened
unfolding class_of is_beyond is_after choose both
unopened-kept = refl

-- 12: a reading of no kind, one whose content runs past the datagram, a flag above 1; with none waiting its place and length are not looked at
pub ranges : (is_sound 20 (waiting 1 26 3 7 0 0 fresh) ≡ false) × (is_sound 20 (waiting 2 26 3 7 0 0 fresh) ≡ false) × (is_sound 20 (waiting 6 26 3 7 0 0 fresh) ≡ false)
    × (is_sound 20 (waiting opened-kind 26 3 7 19 2 fresh) ≡ false) × (is_sound 20 (waiting opened-kind 26 3 7 19 1 fresh) ≡ true)
    × (is_sound 20 (set fresh closed_at 2) ≡ false) × (is_sound 20 (waiting 0 26 3 7 21 1 fresh) ≡ true)
unfolding is_sound is_inside both either
ranges = (refl, refl, refl, refl, refl, refl, refl)
