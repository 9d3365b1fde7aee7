-- The words stand for the account: the reading that waits, and the close; and what is written there. Assumes nothing.
use Rattle.std.specs.Prelude.{List, ◌≡◌, refl, ℕ, length}
use Rattle.std.proofs.Math.Option.{Option, none, some}
use Rattle.std.proofs.Common.{◌∙◌, length-set}
use Rattle.datagram.specs.declared.Reading.TheVariants as says
use Rattle.datagram.specs.declared.Reading.{Reading}
use Rattle.words.specs.Fields.{first_of, by-words}
use Rattle.classify.specs.Classify.{words, kind_of, type_of, epoch_of, number_of, start_of, length_of, closed_of, close_epoch_of, close_number_of, plaintext-kind, unopened-kind, opened-kind, cleared, waiting, noted, closing}
use Rattle.classify_theorem.specs.Account.{Pending, Place}

-- ---- what stands there

pub record Holds (k t e n s l : ℕ) (w : List ℕ) : Type 0 where
  pub kind : kind_of w ≡ k
  pub type : type_of w ≡ t
  pub epoch : epoch_of w ≡ e
  pub number : number_of w ≡ n
  pub start : start_of w ≡ s
  pub size : length_of w ≡ l

-- a reading; nothing else waits
abbrev pub Says : Reading → List ℕ → Type 0
Says (says.Plaintext t n s l) w = Holds plaintext-kind t 0 n s l w
Says (says.Unopened b n s l) w = Holds unopened-kind 0 b n s l w
Says (says.Opened e n t s l) w = Holds opened-kind t e n s l w
Says says.Setting w = ⊥
Says says.Reply w = ⊥
Says says.End w = ⊥
Says says.Incomplete w = ⊥
Says says.TooMany w = ⊥
Says (says.Dropped r) w = ⊥
Says (says.Mask e s) w = ⊥
Says (says.Opening e n s h l) w = ⊥

abbrev pub Waits : List ℕ → Option Pending → Type 0
Waits w none = kind_of w ≡ 0
Waits w (some p) = Says p.reading w

abbrev pub Closes : List ℕ → Option Place → Type 0
Closes w none = closed_of w ≡ 0
Closes w (some c) = (closed_of w ≡ 1) × (close_epoch_of w ≡ c.epoch) × (close_number_of w ≡ c.number)

-- ---- what is written

-- the close stays
pub record Spares (w v : List ℕ) : Type 0 where
  pub long : length v ≡ length w
  pub closed : closed_of v ≡ closed_of w
  pub epoch : close_epoch_of v ≡ close_epoch_of w
  pub number : close_number_of v ≡ close_number_of w

pub same-close : {w v : List ℕ} → Spares w v → (c : Option Place) → Closes w c → Closes v c
same-close s none h = s.closed ∙ h
same-close s (some c) h = (s.closed ∙ h.0, s.epoch ∙ h.1, s.number ∙ h.2)

pub spares-all : (w : List ℕ) → Spares w w
spares-all w = record { long = refl; closed = refl; epoch = refl; number = refl }

pub clear-spares : (w : List ℕ) → length w ≡ words → Spares w (cleared w)
unfolding first_of
clear-spares w h =
    by-words words (λ (v : List ℕ). Spares v (cleared v)) w h (record { long = simp length-set; closed = refl; epoch = refl; number = refl })

pub clear-waits : (w : List ℕ) → length w ≡ words → kind_of (cleared w) ≡ 0
unfolding first_of
clear-waits w h = by-words words (λ (v : List ℕ). kind_of (cleared v) ≡ 0) w h refl

-- a reading noted
pub record Noted (k t e n s l : ℕ) (w : List ℕ) : Type 0 where
  pub holds : Holds k t e n s l (waiting k t e n s l w)
  pub spares : Spares w (waiting k t e n s l w)

pub noting : (k t e n s l : ℕ) (w : List ℕ) → length w ≡ words → Noted k t e n s l w
unfolding first_of
noting k t e n s l w h =
    by-words words (Noted k t e n s l) w h
    (record {
      holds = record { kind = refl; type = refl; epoch = refl; number = refl; start = refl; size = refl };
      spares = record { long = simp length-set; closed = refl; epoch = refl; number = refl };
    })

-- what a reading call notes leaves the close
pub noted-spares : (r : Reading) (w : List ℕ) → length w ≡ words → Spares w (noted r w)
noted-spares (says.Plaintext t n s l) w h = (noting plaintext-kind t 0 n s l w h).spares
noted-spares (says.Unopened b n s l) w h = (noting unopened-kind 0 b n s l w h).spares
noted-spares (says.Opened e n t s l) w h = (noting opened-kind t e n s l w h).spares
noted-spares says.Setting w h = spares-all w
noted-spares says.Reply w h = spares-all w
noted-spares says.End w h = clear-spares w h
noted-spares says.Incomplete w h = clear-spares w h
noted-spares says.TooMany w h = clear-spares w h
noted-spares (says.Dropped r) w h = clear-spares w h
noted-spares (says.Mask e s) w h = clear-spares w h
noted-spares (says.Opening e n s g l) w h = clear-spares w h

-- a close remembered
pub record Closing (w : List ℕ) : Type 0 where
  pub long : length (closing w) ≡ length w
  pub waits : kind_of (closing w) ≡ 0
  pub closed : closed_of (closing w) ≡ 1
  pub epoch : close_epoch_of (closing w) ≡ epoch_of w
  pub number : close_number_of (closing w) ≡ number_of w

pub closings : (w : List ℕ) → length w ≡ words → Closing w
unfolding first_of
closings w h = by-words words Closing w h (record { long = simp length-set; waits = refl; closed = refl; epoch = refl; number = refl })
