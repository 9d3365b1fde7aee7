-- What the queue's memory means (01, "Datagrams to send"): datagrams from the front, each a list of records, and where each record's bytes
-- lie. Assumes nothing.
use Rattle.std.specs.Prelude.{Bool, true, false, List, [], ◌∷◌, ◌++◌, ◌⊎◌, ◌≡◌, ℕ, ◌+◌, ◌*◌, ◌<◌, ◌≤◌, eqb, length, get_or}
use Rattle.base.specs.Choose.{choose}
use Rattle.base.specs.Parts.{part}
use Rattle.record.specs.Record.{sealed_tail, unified_header}
use Rattle.queue.specs.declared.Queue.{Queue}
use Rattle.queue.specs.Queue.{slot_of, InRange}
use Rattle.queue.specs.Laid.{record_bytes, trailer_of}
use Rattle.send_keys.specs.declared.SendKeys.{SendKeys}
use Rattle.outgoing.specs.declared.Waiting.{Waiting}
use Rattle.outgoing.specs.declared.Sending.{Sending}
use Rattle.outgoing.specs.State.{no_waiting, is_content_type}
use Rattle.sealing.specs.Sealing.{masked_header}

-- a record in the queue: content type, number, content; with its epoch if it is to be sealed. One that waits has its part from content to
-- tag as it lies; one that is sealed has its mask besides, and the part as the host left it.
pub data Queued : Type 0 where
  plain : (t n : ℕ) (x : List ℕ) → Queued
  waits : (e t n : ℕ) (x p : List ℕ) → Queued
  sealed : (e t n : ℕ) (x m p : List ℕ) → Queued

-- its bytes as they lie
abbrev pub bytes_of : Queued → List ℕ
bytes_of (plain t n x) = record_bytes 0 t n x
bytes_of (waits e t n x p) = unified_header e n (length x + sealed_tail) ++ p
bytes_of (sealed e t n x m p) = masked_header e n (length x + sealed_tail) m ++ p

abbrev pub bytes : List Queued → List ℕ
bytes [] = []
bytes (r ∷ rs) = bytes_of r ++ bytes rs

-- a record as a send lays it: its part is content, type, and in the tag's place epoch and number
abbrev pub laid_as : ℕ → ℕ → ℕ → List ℕ → Queued
laid_as e t n x = choose (eqb e 0) (plain t n x) (waits e t n x (x ++ trailer_of t e n))

-- the records of all datagrams, in order
abbrev pub flat : List (List Queued) → List Queued
flat [] = []
flat (d ∷ ds) = d ++ flat ds

-- those that wait, the oldest first
abbrev pub waiting_of : List Queued → List Queued
waiting_of [] = []
waiting_of (plain t n x ∷ rs) = waiting_of rs
waiting_of (waits e t n x p ∷ rs) = waits e t n x p ∷ waiting_of rs
waiting_of (sealed e t n x m p ∷ rs) = waiting_of rs

-- the numbers that wait under an epoch
abbrev pub numbers_of : ℕ → List Queued → List ℕ
numbers_of k [] = []
numbers_of k (plain t n x ∷ rs) = numbers_of k rs
numbers_of k (waits e t n x p ∷ rs) = choose (eqb e k) (n ∷ numbers_of k rs) (numbers_of k rs)
numbers_of k (sealed e t n x m p ∷ rs) = numbers_of k rs

abbrev pub waits_in : List Queued → Bool
waits_in [] = false
waits_in (plain t n x ∷ rs) = waits_in rs
waits_in (waits e t n x p ∷ rs) = true
waits_in (sealed e t n x m p ∷ rs) = waits_in rs

-- ---- ranges

-- epoch, type, number, content, and a part for content, type and tag
pub record Sealing (e t n : ℕ) (x p : List ℕ) : Type 0 where
  pub some : 0 < e
  pub epoch : e < 65536
  pub kind : is_content_type e t ≡ true
  pub number : n < 281474976710655
  pub short : length x ≤ 1500
  pub part : length p ≡ length x + sealed_tail

pub record Plain (t n : ℕ) (x : List ℕ) : Type 0 where
  pub kind : is_content_type 0 t ≡ true
  pub number : n < 281474976710655
  pub short : length x ≤ 1500

abbrev pub Sound : Queued → Type 0
Sound (plain t n x) = Plain t n x
Sound (waits e t n x p) = Sealing e t n x p
Sound (sealed e t n x m p) = Sealing e t n x p

-- ---- where the bytes lie

-- a record at a place
pub record Stands (mem : List ℕ) (at : ℕ) (r : Queued) : Type 0 where
  pub sound : Sound r
  pub here : part at (length (bytes_of r)) mem ≡ bytes_of r

-- records one behind the other, from an offset on
abbrev pub Lies : List ℕ → ℕ → ℕ → List Queued → Type 0
Lies mem base at [] = Unit {0}
Lies mem base at (r ∷ rs) = Stands mem (base + at) r × Lies mem base (at + length (bytes_of r)) rs

-- a datagram in its slot: not empty, its length as noted and at most the MTU
pub record Row (mtu : ℕ) (lengths mem : List ℕ) (slot : ℕ) (d : List Queued) : Type 0 where
  pub some : 0 < length d
  pub size : get_or lengths slot 0 ≡ length (bytes d)
  pub short : length (bytes d) ≤ mtu
  pub lies : Lies mem (slot * mtu) 0 d

-- datagrams from the i-th on
abbrev pub Rows : Queue → List ℕ → ℕ → List (List Queued) → Type 0
Rows q mem i [] = Unit {0}
Rows q mem i (d ∷ ds) = Row q.mtu q.lengths mem (slot_of q.first q.limit i) d × Rows q mem (i + 1) ds

-- ---- order: sealings are asked oldest first

-- none is sealed, and what waits is as it was laid
abbrev pub AsLaid : List Queued → Type 0
AsLaid [] = Unit {0}
AsLaid (plain t n x ∷ rs) = AsLaid rs
AsLaid (waits e t n x p ∷ rs) = (p ≡ x ++ trailer_of t e n) × AsLaid rs
AsLaid (sealed e t n x m p ∷ rs) = ⊥

-- behind the oldest that waits all are as laid; into its own part the host may have written
abbrev pub InOrder : List Queued → Type 0
InOrder [] = Unit {0}
InOrder (plain t n x ∷ rs) = InOrder rs
InOrder (waits e t n x p ∷ rs) = AsLaid rs
InOrder (sealed e t n x m p ∷ rs) = InOrder rs

-- the oldest that waits, as the state names it; w if none does in this datagram
abbrev pub oldest_in : ℕ → ℕ → List Queued → Waiting → Waiting
oldest_in slot at [] w = w
oldest_in slot at (plain t n x ∷ rs) w = oldest_in slot (at + length (bytes_of (plain t n x))) rs w
oldest_in slot at (waits e t n x p ∷ rs) w = record { any = true; slot = slot; start = at; length = length x + sealed_tail; epoch = e; number = n }
oldest_in slot at (sealed e t n x m p ∷ rs) w = oldest_in slot (at + length (bytes_of (sealed e t n x m p))) rs w

-- the same from the i-th datagram on
abbrev pub oldest_of : ℕ → ℕ → ℕ → List (List Queued) → Waiting → Waiting
oldest_of first limit i [] w = w
oldest_of first limit i (d ∷ ds) w = oldest_in (slot_of first limit i) 0 d (oldest_of first limit (i + 1) ds w)

-- ---- what the keys know of it

-- the first number of an epoch that is not sealed yet
abbrev pub sealed_of : SendKeys → ℕ → ℕ
sealed_of k e = choose (eqb e 2) k.handshake.sealed k.application.sealed

-- a list is a, a + 1 and so on, up to below b
abbrev pub Runs : ℕ → ℕ → List ℕ → Type 0
Runs a b [] = a ≡ b
Runs a b (n ∷ ns) = (n ≡ a) × Runs (a + 1) b ns

-- what waits is under epoch 2 or the application epoch
abbrev pub Under : ℕ → List Queued → Type 0
Under k [] = Unit {0}
Under k (plain t n x ∷ rs) = Under k rs
Under k (waits e t n x p ∷ rs) = ((e ≡ 2) ⊎ (e ≡ k)) × Under k rs
Under k (sealed e t n x m p ∷ rs) = Under k rs

-- the numbers that wait are those from the first not sealed yet up to the next to be used, of both epochs; under epoch 2 none waits unless it
-- is keyed; the application epoch is none yet, or 3 or above
pub record Agrees (k : SendKeys) (rs : List Queued) : Type 0 where
  pub handshake : Runs k.handshake.sealed k.handshake.next (numbers_of 2 rs)
  pub application : Runs k.application.sealed k.application.next (numbers_of k.application.epoch rs)
  pub under : Under k.application.epoch rs
  pub unkeyed : (k.handshake.epoch ≡ 2 → ⊥) → k.handshake.next ≡ k.handshake.sealed
  pub epoch : (k.application.epoch ≡ 0) ⊎ (3 ≤ k.application.epoch)
  pub small : k.application.epoch < 65536

-- ---- the whole

-- the state and the queue's memory mean these datagrams
pub record Holds (s : Sending) (mem : List ℕ) (ds : List (List Queued)) : Type 0 where
  pub range : InRange s.queue
  pub room : s.queue.limit * s.queue.mtu ≤ length mem
  pub table : length s.queue.lengths ≡ 16
  pub count : length ds ≡ s.queue.count
  pub rows : Rows s.queue mem 0 ds
  pub order : InOrder (flat ds)
  pub oldest : s.waiting ≡ oldest_of s.queue.first s.queue.limit 0 ds no_waiting
  pub keys : Agrees s.keys (flat ds)
