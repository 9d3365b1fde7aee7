-- The receiving half of demand 3 on its own: one end, every list of its calls, against a far end that seals what it likes, when it likes,
-- in the form in which records lie in a queue. That no number is sealed twice in an epoch is the sending half's; nothing here needs it.
use Rattle.std.specs.Prelude.{ℕ, ◌+◌, ◌≤◌, ◌<◌, length, take, List, [], ◌∷◌, ◌++◌, ◌≡◌}
use Rattle.record.specs.Record.{unified_header}
use Rattle.sealing.specs.Sealing.{masked_header}
use Rattle.history_theorem.specs.Account.{sealed_tail, upd}
use Rattle.history_theorem.specs.Claim.{Masks, FairCall, Received}
use Rattle.history_theorem.specs.Receiver.{Sealed, Inbound, new_inbound, Call, does}

-- a record as it lies sealed and masked in a queue: a type, 16 bytes more than content and type, the header that the sealing question shows,
-- and the wire with the number masked under the sender's mask
pub record Shape (masks : Masks) (e : ℕ) (r : Sealed) : Type 0 where
  pub typed : r.type ≡ 0 → ⊥
  pub size : length r.cipher ≡ length r.content + sealed_tail
  pub short : length r.cipher < 65536
  pub number : r.num ≤ 0xFFFF_FFFF_FFFF
  pub header : r.header ≡ unified_header e r.num (length r.cipher)
  pub wire : r.wire ≡ masked_header e r.num (length r.cipher) (masks e (take 16 r.cipher)) ++ r.cipher

-- an event: a call at this end, or the far end seals a record in an epoch
pub data Event : Type 0 where
  here· : Call → Event
  far· : ℕ → Sealed → Event

pub record Half : Type 0 where
  pub sealed : ℕ → List Sealed
  pub end : Inbound

abbrev pub fresh_half : ℕ → Half
fresh_half min = record { sealed = λ e. []; end = new_inbound min }

abbrev pub step : Half → Event → Half
step w (here· c) = record { sealed = w.sealed; end = does w.sealed w.end c }
step w (far· e r) = record { sealed = upd w.sealed e (r ∷ w.sealed e); end = w.end }

abbrev pub run : Half → List Event → Half
run w [] = w
run w (v ∷ vs) = run (step w v) vs

abbrev pub Fair : Masks → Half → Event → Type 0
Fair masks w (here· c) = FairCall masks w.sealed w.end c
Fair masks w (far· e r) = Shape masks e r

-- each premise is read in the world in which its event happens
abbrev pub Honest : Masks → Half → List Event → Type 0
Honest masks w [] = Unit {0}
Honest masks w (v ∷ vs) = Fair masks w v × Honest masks (step w v) vs

-- what is claimed of every list of events, for every setting in range, every mask function and every receive epoch
abbrev pub EveryList : Type 0
EveryList =
    (min : ℕ) → min ≤ 17 → (masks : Masks) (vs : List Event) → Honest masks (fresh_half min) vs
    → (e : ℕ) → Received (run (fresh_half min) vs).sealed (run (fresh_half min) vs).end e
