-- Keying, removing, the flags, beginning, leaving the rest of a datagram, the host's writing and calls over other bytes keep what holds between
-- state, account and history, and are told the numbers that the account owes them; a fresh end has it. Assumes nothing.
use Rattle.std.specs.Prelude.{◌≤◌, length, ◌≡◌}
use Rattle.std.proofs.Math.Option.{none}
use Rattle.std.proofs.Math.Path.{refl, sym, subst}
use Rattle.std.proofs.Common.{◌∙◌}
use Rattle.datagram.specs.Datagram.{moved}
use Rattle.datagram.specs.declared.Datagram.{Datagram}
use Rattle.datagram.specs.declared.Question.TheVariants as question
use Rattle.datagram.specs.declared.Question.{Question}
use Rattle.receiving.specs.Laws.{Made}
use Rattle.receiving.specs.declared.Receiving.{Receiving}
use Rattle.recv_keys.specs.declared.RecvKeys.{RecvKeys}
use Rattle.history_theorem.specs.Account.{Account}
use Rattle.history_theorem.proofs.Lists.{some≢none, drops_on}
use Rattle.history_theorem.specs.Receiver.{Receiver, with_state, goes_to}
use Rattle.history_theorem.proofs.Sound.{intact_from, Sound}

-- ---- keying

module _ (y : Receiver) (i : Sound y) where
  abbrev k : RecvKeys
  k = y.state.keys

  abbrev b : Datagram
  b = y.state.datagram

  -- ---- leaving the rest of a datagram

  -- no question waits, of no record: the cut stands at the end
  pub ends-sound : (s : Receiving) (a : Account) → s ≡ record { keys = k; datagram = moved b b.size b.readings }
      → a ≡ goes_to y.account (length y.arrived) y.account.readings → Made s → b.question ≡ question.Nothing → y.trial ≡ none
      → Sound (with_state y s a)
  ends-sound s a e f m q idle =
      subst (λ x. Sound (with_state y x a)) (sym e)
      (subst (λ x. Sound (with_state y (record { keys = k; datagram = moved b b.size b.readings }) x)) (sym f) (record {
        made = subst Made e m;
        table = i.table;
        asked = tt;
        hands = i.hands;
        tally = record {
          keyed = i.tally.keyed;
          highest = i.tally.highest;
          encryption = i.tally.encryption;
          released = i.tally.released;
          place = i.intact.long ∙ i.whole;
          readings = i.tally.readings;
        };
        whole = i.whole;
        intact = record {
          long = i.intact.long;
          lies = drops_on (intact_from b.question b.at) b.size y.datagram y.arrived
              (subst (λ (x : Question). intact_from x b.at ≤ b.size) (sym q) i.made.ready.at) i.intact.lies;
          flag = tt;
        };
        under = (refl, idle);
        proper = i.proper;
        nonces = i.nonces;
        spared = i.spared;
        judged = i.judged;
        lost = i.lost;
        real = i.real;
        shows = i.shows;
        said = i.said;
        later = λ x p. some≢none (sym p ∙ idle);
        stops = i.stops;
        waits = λ x p. some≢none (sym p ∙ idle);
      }))
