-- A read, a mask reply and an opening reply keep what holds between state, account and history. Assumes nothing.
use Rattle.std.specs.Prelude.{ℕ, ◌%◌, get_or, drop, ◌≡◌}
use Rattle.std.proofs.Math.Bool.{true}
use Rattle.std.proofs.Common.{sym, ◌∙◌}
use mathlib.Core.List.{List}
use Rattle.std.proofs.Math.Path.{ap, subst}
use Rattle.datagram.specs.Datagram.{is_sound, told}
use Rattle.datagram.specs.declared.Datagram.{Datagram}
use Rattle.datagram.specs.declared.Question.TheVariants as question
use Rattle.datagram.specs.declared.Question.{Question}
use Rattle.datagram.specs.declared.Reading.TheVariants as says
use Rattle.mask_reply.proofs.Leads.{mask-asks}
use Rattle.mask_reply.specs.Mask.{masking, mask_step}
use Rattle.receiving.specs.Calls.Call.{reading}
use Rattle.receiving.specs.Laws.{Made, after-made, made-sound}
use Rattle.recv_keys.specs.Keys.{resolve}
use Rattle.recv_keys.specs.declared.RecvKeys.{RecvKeys}
use Rattle.history_theorem.specs.Account.{resolves_to}
use Rattle.history_theorem.specs.Receiver.{Sealed, Receiver, rest_of, reached, read_out}
use Rattle.history_theorem.proofs.Sound.{intact_from, Sound}
use Rattle.history_theorem.proofs.Table.{epoch_at, resolves}

-- ---- a call that is refused, and a question asked again

module _ (y : Receiver) (i : Sound y) where
  abbrev k : RecvKeys
  k = y.state.keys

  abbrev b : Datagram
  b = y.state.datagram

  abbrev d : List ℕ
  d = y.datagram

  pub in-range : is_sound k b ≡ true
  in-range = made-sound y.state i.made

  -- where no opening is asked, the record at the cursor and what follows lie as they arrived
  pub rest_from : intact_from b.question b.at ≡ b.at → rest_of y ≡ drop b.at d
  rest_from e =
      ap (λ (n : ℕ). drop n y.arrived) i.tally.place
      ∙ sym (subst (λ (n : ℕ). drop n d ≡ drop n y.arrived) e i.intact.lies)

  pub rest-idle : b.question ≡ question.Nothing → rest_of y ≡ drop b.at d
  rest-idle q = rest_from (ap (λ (x : Question). intact_from x b.at) q)

  -- what the account comes to is what the state comes to
  pub reached_to : (sealed : ℕ → List Sealed) → b.question ≡ question.Nothing
      → (reached y sealed).resolved ≡ epoch_at k.entries (resolve k (get_or (drop b.at d) 0 0 % 4))
  reached_to sealed q =
      ap (λ (l : List ℕ). resolves_to y.account (get_or l 0 0 % 4)) (rest-idle q)
      ∙ resolves k (get_or (drop b.at d) 0 0 % 4) y.account i.tally.keyed i.tally.released

  -- ---- a read

  pub read_made : Made (read_out y.state d).state
  read_made = after-made (reading d) y.state i.made

  -- ---- a mask reply

  pub mask-idle : (m : List ℕ) → b.question ≡ question.Nothing → mask_step k b m d ≡ (told b says.Reply, d)
  unfolding masking
  mask-idle m q = mask-asks k b m d question.Nothing in-range i.whole q
