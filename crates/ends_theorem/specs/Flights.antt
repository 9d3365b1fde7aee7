-- Saved records: when one was handed over, how the state holds it, and what is asked of an ACK.
use Rattle.std.specs.Prelude.{ℕ, suc, ◌*◌, ◌<◌, ◌≤◌, ◌≡◌}
use mathlib.Core.List.{List, [], ◌∷◌, Memᴰ as Mem}
use Rattle.base.specs.Parts.{part}
use Rattle.flight.specs.declared.Flight.{Flight}
use Rattle.flight.specs.Flight.{entry_at}
use Rattle.waiting_laws.specs.Calls.{SendCall, key_send·, send·, save·, message·, begin_flight·, resend·, note·, send_ack·, ack·, fill·, sealed·, take·}
use Rattle.history_theorem.specs.Receiver.{Handed}
use Rattle.ends_theorem.specs.Ledger.{Kept, Name, names_in}

-- one of its sendings, as it is handed over
abbrev pub handed_as : Kept → ℕ → Handed
handed_as k n = record { num = n; type = k.type; content = k.content }

-- one of its sendings was handed over, with its type and content
abbrev pub Arrived : (ℕ → List Handed) → Kept → Type 0
Arrived handed k = (n : ℕ) × Mem n k.sendings × Mem (handed_as k n) (handed k.epoch)

-- each sending is that of one saved record: no number is in two of one epoch
abbrev pub Differ : Kept → Kept → Type 0
Differ g h = h.epoch ≡ g.epoch → (n : ℕ) → Mem n g.sendings → Mem n h.sendings → ⊥

abbrev pub Away : Kept → List Kept → Type 0
Away g [] = Unit {0}
Away g (h ∷ hs) = Differ g h × Away g hs

abbrev pub Apart : List Kept → Type 0
Apart [] = Unit {0}
Apart (g ∷ gs) = Away g gs × Apart gs

-- the state holds a record at its place in the flight: epoch, type and content, and marked exactly if the account has it as acknowledged
pub record HeldAt (mtu : ℕ) (f : Flight) (kept : List ℕ) (i : ℕ) (k : Kept) : Type 0 where
  pub inside : i < f.saved
  pub epoch : (entry_at f i).epoch ≡ k.epoch
  pub type : (entry_at f i).content_type ≡ k.type
  pub content : part (i * mtu) (entry_at f i).length kept ≡ k.content
  pub marked : (entry_at f i).marked ≡ k.acked

-- from the i-th on
abbrev pub Held : ℕ → Flight → List ℕ → ℕ → List Kept → Type 0
Held mtu f kept i [] = Unit {0}
Held mtu f kept i (k ∷ ks) = HeldAt mtu f kept i k × Held mtu f kept (suc i) ks

-- "every ACK acted on .. named, from epoch 2 up, only records handed over to that end"
abbrev pub FairAck : (ℕ → List Handed) → List ℕ → Type 0
FairAck handed d = (k : Name) → Mem k (names_in d) → 2 ≤ k.epoch → (h : Handed) × Mem h (handed k.epoch) × (h.num ≡ k.num)

-- nothing is asked of any other call
abbrev pub FairNames : (ℕ → List Handed) → SendCall → Type 0
FairNames handed (key_send· e iv) = Unit {0}
FairNames handed (send· e t x) = Unit {0}
FairNames handed (save· e t x) = Unit {0}
FairNames handed (message· kind body) = Unit {0}
FairNames handed begin_flight· = Unit {0}
FairNames handed resend· = Unit {0}
FairNames handed (note· e n) = Unit {0}
FairNames handed send_ack· = Unit {0}
FairNames handed (ack· d) = FairAck handed d
FairNames handed (fill· v) = Unit {0}
FairNames handed (sealed· k m) = Unit {0}
FairNames handed (take· buffer) = Unit {0}
