-- What is claimed follows, and holds of a fresh end. Assumes nothing.
use Rattle.std.specs.Prelude.{refl, ℕ}
use Rattle.std.proofs.Common.{arith, sym}
use Rattle.history_theorem.proofs.Lists.{some≢none}
use Rattle.history_theorem.specs.Receiver.{Receiver, new_inbound}
use Rattle.history_theorem.proofs.Sound.{Sound}
use Rattle.classify_theorem.specs.Claim.{Dealings, new_dealings, Classified}
use Rattle.classify_theorem.proofs.Story.{Story}

-- no more turns than readings, and no more readings than 16
pub classified : (p : Dealings) (y : Receiver) → Sound y → Story p y → Classified p y
classified p y i s =
    let l = s.stands.turns in
    let r = i.tally.readings in
    let m = i.made.ready.readings in
    record {
      answers = s.answers;
      right = s.right;
      once = s.once;
      counted = s.counted;
      turns = omega arith;
      sixteen = omega arith;
      none-lost = s.none-lost;
      from_read = s.from_read;
    }

pub new_story : (min : ℕ) → Story new_dealings (new_inbound min).into
new_story min = record {
  stands = record { long = refl; waits = refl; close = refl; lies = tt; idle = tt; turns = omega arith };
  newest = tt;
  answers = λ t m. absurd (elim m [ ]);
  right = λ x m. absurd (elim m [ ]);
  once = tt;
  counted = refl;
  none-lost = λ d m. absurd (elim m [ ]);
  from_read = λ x m. absurd (elim m [ ]);
  waits-read = λ x e. some≢none (sym e);
}
