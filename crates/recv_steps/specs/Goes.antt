-- Whether the cut goes on: the state is in range, the datagram is the one begun, and no question waits. Assumes nothing.
use Rattle.std.specs.Prelude.{Bool, true, false, ◌≡◌, refl, ℕ, eqb}
use Rattle.std.proofs.lemmas.Bool.{false≢true}
use Rattle.std.proofs.Common.{sym, ap, ◌∙◌, eq-eqb, eqb-true}
use Rattle.base.specs.Choose.{both, both_true, both_left, both_right}
use Rattle.datagram.specs.Datagram.{is_sound}
use Rattle.datagram.specs.declared.Datagram.{Datagram}
use Rattle.datagram.specs.declared.Question.TheVariants as question
use Rattle.datagram.specs.declared.Question.{Question}
use Rattle.recv_keys.specs.declared.RecvKeys.{RecvKeys}

abbrev pub is_idle : Question → Bool
is_idle question.Nothing = true
is_idle (question.Mask a) = false
is_idle (question.Opening a n) = false

unfoldable pub goes_on : RecvKeys → Datagram → ℕ → Bool
goes_on k b n = both (is_sound k b) (both (eqb n b.size) (is_idle b.question))

pub record Goes (k : RecvKeys) (b : Datagram) (n : ℕ) : Type 0 where
  pub sound : is_sound k b ≡ true
  pub size : n ≡ b.size
  pub idle : b.question ≡ question.Nothing

idle-nothing : (q : Question) → is_idle q ≡ true → q ≡ question.Nothing
idle-nothing question.Nothing e = refl
idle-nothing (question.Mask a) e = absurd (false≢true e)
idle-nothing (question.Opening a n) e = absurd (false≢true e)

pub goes : (k : RecvKeys) (b : Datagram) (n : ℕ) → goes_on k b n ≡ true → Goes k b n
unfolding goes_on
goes k b n t =
    let u = both_right _ _ t in
    record { sound = both_left _ _ t; size = eqb-true _ _ (both_left _ _ u); idle = idle-nothing _ (both_right _ _ u) }

pub stays : (k : RecvKeys) (b : Datagram) (n : ℕ) → goes_on k b n ≡ false → Goes k b n → ⊥
unfolding goes_on
stays k b n f g =
    false≢true (sym f ∙ both_true g.sound ∙ both_true (eq-eqb _ _ g.size) ∙ ap is_idle g.idle)
