-- Where a read leads, by its first tests. Assumes nothing.
use Rattle.std.specs.Prelude.{ℕ, length, true, false, List, ◌≡◌}
use Rattle.std.proofs.Common.{eq-eqb, ne_eqb, ◌∙◌}
use Rattle.std.proofs.Math.Path.{ap}
use Rattle.base.specs.Choose.{if_true, if_false}
use Rattle.datagram.specs.Datagram.{is_sound, told}
use Rattle.datagram.specs.declared.Datagram.{Datagram}
use Rattle.datagram.specs.declared.Question.{Question}
use Rattle.datagram.specs.declared.Reading.TheVariants as says
use Rattle.recv_keys.specs.declared.RecvKeys.{RecvKeys}
use Rattle.records.specs.Records.{asking, read_step}

module _ (k : RecvKeys) (b : Datagram) (d : List ℕ) where
  pub read-asks : (q : Question) → is_sound k b ≡ true → length d ≡ b.size → b.question ≡ q → read_step k b d ≡ asking q k b d
  unfolding read_step
  read-asks q t l e = if_true _ _ t ∙ if_true _ _ (eq-eqb _ _ l) ∙ ap (λ (x : Question). asking x k b d) e

  pub read-other : is_sound k b ≡ true → (length d ≡ b.size → ⊥) → read_step k b d ≡ told b says.Reply
  unfolding read_step
  read-other t l = if_true _ _ t ∙ if_false _ _ (ne_eqb _ _ l)

  pub read-out : is_sound k b ≡ false → read_step k b d ≡ told b says.Setting
  unfolding read_step
  read-out t = if_false _ _ t
