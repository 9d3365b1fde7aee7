-- Where an opening reply leads, by its first tests, and what removing an epoch drops. Assumes nothing.
use Rattle.std.specs.Prelude.{ℕ, length, true, false, List, ◌⊎◌, ◌≡◌}
use Rattle.std.proofs.Common.{eq-eqb, ne_eqb, ⊎_elim, ◌∙◌}
use Rattle.std.proofs.Math.Path.{ap}
use Rattle.base.specs.Choose.{if_true, if_false}
use Rattle.datagram.specs.Datagram.{is_sound, told, moved, end_asked}
use Rattle.datagram.specs.declared.Ask.{Ask}
use Rattle.datagram.specs.declared.Datagram.{Datagram}
use Rattle.datagram.specs.declared.Question.TheVariants as question
use Rattle.datagram.specs.declared.Question.{Question}
use Rattle.datagram.specs.declared.Reading.TheVariants as says
use Rattle.recv_keys.specs.declared.RecvKeys.{RecvKeys}
use Rattle.opening_reply.specs.Opening.{still, openings, opened_step, cancelled_ask, cancelled, Opening}

module _ (k : RecvKeys) (b : Datagram) (o : Opening) (d : List ℕ) where
  pub opened-asks : (q : Question) → is_sound k b ≡ true → length d ≡ b.size → b.question ≡ q → opened_step k b o d ≡ openings q o k b d
  unfolding opened_step
  opened-asks q t l e = if_true _ _ t ∙ if_true _ _ (eq-eqb _ _ l) ∙ ap (λ (x : Question). openings x o k b d) e

  pub opened-other : is_sound k b ≡ true → (length d ≡ b.size → ⊥) → opened_step k b o d ≡ still k (told b says.Reply)
  unfolding opened_step
  opened-other t l = if_true _ _ t ∙ if_false _ _ (ne_eqb _ _ l)

  pub opened_out : is_sound k b ≡ false → opened_step k b o d ≡ still k (told b says.Setting)
  unfolding opened_step
  opened_out t = if_false _ _ t

-- a question under a removed epoch goes, and the cut goes on behind its record
pub cancel_drops : (b : Datagram) (epoch : ℕ) (a : Ask) (q : Question) → a.epoch ≡ epoch → (q ≡ question.Mask a) ⊎ ((n : ℕ) × (q ≡ question.Opening a n))
    → cancelled q b epoch ≡ record { dropped = true; datagram = moved b (end_asked b a) b.readings }
unfolding cancelled cancelled_ask
cancel_drops b epoch a q e w =
    ⊎_elim (λ m. ap (λ (x : Question). cancelled x b epoch) m) (λ o. ap (λ (x : Question). cancelled x b epoch) o.1) w ∙ if_true _ _ (eq-eqb _ _ e)
