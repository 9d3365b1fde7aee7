-- The test of the marks, a flight begun, and what a flight written is. Assumes nothing.
use Rattle.std.specs.Prelude.{true, false, List, ◌≡◌, refl, ℕ, suc, ◌-◌, ◌≤◌, ◌<◌, length, get_or, set}
use Rattle.std.proofs.Math.Path.{ap}
use Rattle.std.proofs.Common.{◌∙◌, arith, lt-ltb, le-ltb}
use Rattle.base.specs.Choose.{if_true, if_false}
use Rattle.flight.specs.declared.Flight.{Flight}
use Rattle.words.specs.Fields.{first_of, by-words}
use Rattle.flight_words.specs.Words.{words, marked-at, saved-at, entries_of, flight_of, flat_to}

-- ---- the test of the marks, one at a time

module _ (w : List ℕ) (i : ℕ) (some : 0 < i) where
  pred : i ≡ suc (i - 1)
  pred = omega arith

  pub mark_bad : 1 < get_or w (marked-at (i - 1)) 0 → flat_to w i ≡ false
  unfolding flat_to
  mark_bad h = ap (flat_to w) pred ∙ if_true _ _ (lt-ltb _ _ h)

  pub mark-good : get_or w (marked-at (i - 1)) 0 ≤ 1 → flat_to w i ≡ flat_to w (i - 1)
  unfolding flat_to
  mark-good h = ap (flat_to w) pred ∙ if_false _ _ (le-ltb _ _ h)

pub mark-none : (w : List ℕ) (i : ℕ) → i ≤ 0 → flat_to w i ≡ true
unfolding flat_to
mark-none w i h = let e : i ≡ 0 = omega arith in ap (flat_to w) e

-- ---- a flight begun: only the count is written

abbrev Begins : List ℕ → List ℕ → ℕ → Type 0
Begins n w k = (flight_of (set w saved-at k) n ≡ record { entries = entries_of w; saved = k; numbers = n }) × (flat_to (set w saved-at k) 12 ≡ flat_to w 12)

pub begins : (w n : List ℕ) (k : ℕ) → length w ≡ words → Begins n w k
unfolding first_of entries_of flat_to
begins w n k h = by-words words (λ (v : List ℕ). Begins n v k) w h (refl, refl)

-- ---- a flight written, its numbers beside it

abbrev pub Kept : Flight → List ℕ → Type 0
Kept f v = (flight_of v f.numbers ≡ f) × (flat_to v 12 ≡ true)
