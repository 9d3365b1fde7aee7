-- When a call of reassembly is answered by what, read off the account alone, both ways; the messages in their order and
-- within their limits; and a host can always go on. Assumes nothing.
use Rattle.std.specs.Prelude.{◌≡◌, ℕ, ◌≤◌, length}
use mathlib.Core.List.{List, ◌∷◌, Memᴰ as Mem}
use Rattle.base.specs.Choose.{both}
use Rattle.assembly_theorem.specs.Account.{most_taken, longest_body, last_number, Fragment, end_of}
use Rattle.assembly_theorem.specs.Agreement.{Shares}
use Rattle.assembly_theorem.specs.Claim.{Out, Piecing}

-- pieces of message k, each within its total, which is at most 16,384
abbrev pub Fits : ℕ → Fragment → Type 0
Fits k f = (f.number ≡ k) × (f.total ≤ longest_body) × (end_of f ≤ f.total)

abbrev pub Pieces : ℕ → List Fragment → Type 0
Pieces k fs = (f : Fragment) → Mem f fs → Fits k f

-- a message: its pieces have its number; "at most 50 pieces", "body at most 16,384 bytes"
pub record MessageWithin (m : Out) : Type 0 where
  pub pieces : Pieces m.number (m.last ∷ m.earlier)
  pub few : length (m.last ∷ m.earlier) ≤ most_taken
  pub short : length m.body ≤ longest_body

-- two pieces of one message: type, total, and every byte that both have
pub record Agree (f g : Fragment) : Type 0 where
  pub kind : f.kind ≡ g.kind
  pub total : f.total ≡ g.total
  pub bytes : Shares f g

-- the expected number is never beyond 65,535, which is then the one that 24 means; any two pieces taken of the message agree (02, 7)
pub record Within (p : Piecing) : Type 0 where
  pub agree : (f g : Fragment) → Mem f p.account.pieces → Mem g p.account.pieces → Agree f g
  pub expected : p.account.out ≤ last_number
  pub pieces : Pieces p.account.out p.account.pieces
  pub few : length p.account.pieces ≤ most_taken
  pub messages : (m : Out) → Mem m p.messages → MessageWithin m
