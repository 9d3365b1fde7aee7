-- The state of a sending end against the claim's account of it: what each field of the state stands for. Assumes nothing.
use Rattle.std.specs.Prelude.{ℕ, zero, suc, ◌+◌, ◌*◌, ◌≤◌, length, get_or, true, false, List, [], ◌∷◌, ◌≡◌}
use Rattle.base.specs.Choose.{choose}
use Rattle.base.specs.Parts.{part}
use Rattle.queue.specs.declared.Tail.{Tail}
use Rattle.send_keys.specs.declared.SendKeys.{SendKeys}
use Rattle.send_keys.specs.Keys.{is_usable, next_of}
use Rattle.flight.specs.declared.Entry.{Entry}
use Rattle.flight.specs.declared.Flight.{Flight}
use Rattle.flight.specs.Flight.{entry_at}
use Rattle.acks.specs.declared.Notes.{Notes}
use Rattle.acks.specs.Acks.{pairs_of}
use Rattle.waiting_laws.specs.Answers.{answered}
use Rattle.waiting_laws.specs.Calls.{Stores, SendCall, stored}
use Rattle.waiting_laws.specs.Queued.{Queued, plain, waits, sealed, Holds}
use Rattle.history_theorem.specs.Account.{plain_head, sealed_over}
use Rattle.ends_theorem.proofs.Books.{books_by}
use Rattle.ends_theorem.specs.Ledger.{Item, Kept, Name, Ledger, last_size, is_some, known, names_bytes, owed, after, sent_by}
use Rattle.ends_theorem.specs.Sender.{Books, enters_all}

-- ---- the queue

-- a record that the queue's memory means, in the account
abbrev pub item_of : Queued → Item
item_of (plain t n x) = record { epoch = 0; num = n; size = length x + plain_head; waits = false }
item_of (waits e t n x p) = record { epoch = e; num = n; size = length x + sealed_over; waits = true }
item_of (sealed e t n x m p) = record { epoch = e; num = n; size = length x + sealed_over; waits = false }

abbrev pub items_in : List Queued → List Item
items_in [] = []
items_in (r ∷ rs) = item_of r ∷ items_in rs

abbrev pub items_of : List (List Queued) → List (List Item)
items_of [] = []
items_of (d ∷ ds) = items_in d ∷ items_of ds

-- the queue's end, as the dry runs see it
pub record TailIs (t : Tail) (l : Ledger) : Type 0 where
  pub used : t.used ≡ last_size l.queue
  pub joinable : t.joinable ≡ choose l.closed false (is_some l.queue)
  pub count : t.count ≡ length l.queue

-- ---- the keys

pub record KeysAre (k : SendKeys) (l : Ledger) : Type 0 where
  pub two : k.handshake.epoch ≡ choose l.two 2 0
  pub application : k.application.epoch ≡ l.application
  pub next : (e : ℕ) → is_usable k e ≡ true → next_of k e ≡ l.next e
  pub most : (e : ℕ) → is_usable k e ≡ true → next_of k e ≤ 281474976710655

-- ---- the flight

-- the first k numbers that the i-th saved record remembers, the last first
abbrev pub older : List ℕ → ℕ → ℕ → List ℕ
older numbers i zero = []
older numbers i (suc k) = get_or numbers (i * 32 + k) 0 ∷ older numbers i k

pub record EntryIs (mtu : ℕ) (table kept : List ℕ) (i : ℕ) (x : Entry) (k : Kept) : Type 0 where
  pub epoch : x.epoch ≡ k.epoch
  pub type : x.content_type ≡ k.type
  pub long : x.length ≡ length k.content
  pub short : x.length ≤ mtu
  pub content : part (i * mtu) x.length kept ≡ k.content
  pub marked : x.marked ≡ k.acked
  pub numbers : known k ≡ x.number ∷ older table i x.remembered
  pub few : x.remembered ≤ 32

-- from the i-th on
abbrev pub Entries : ℕ → Flight → List ℕ → ℕ → List Kept → Type 0
Entries mtu f kept i [] = Unit {0}
Entries mtu f kept i (k ∷ ks) = EntryIs mtu f.numbers kept i (entry_at f i) k × Entries mtu f kept (suc i) ks

pub record FlightIs (mtu : ℕ) (f : Flight) (kept : List ℕ) (ks : List Kept) : Type 0 where
  pub each : Entries mtu f kept 0 ks
  pub count : length ks ≡ f.saved
  pub most : f.saved ≤ 12
  pub long : length f.entries ≡ 12
  pub table : length f.numbers ≡ 384

-- ---- the notes

-- the table of notes holds those noted, in order
pub record Listed (s : Notes) (ks : List Name) : Type 0 where
  pub count : s.count ≡ length ks
  pub most : length ks ≤ 32
  pub epochs : length s.epochs ≡ 32
  pub numbers : length s.numbers ≡ 32
  pub pairs : pairs_of s s.count ≡ names_bytes ks

-- ---- the whole

pub record Matches (w : Stores) (l : Ledger) : Type 0 where
  -- what the queue's memory means
  pub ds : List (List Queued)
  pub holds : Holds w.state w.queue ds
  pub queue : items_of ds ≡ l.queue
  pub closed : w.state.queue.closed ≡ l.closed
  pub mtu : w.state.queue.mtu ≡ l.mtu
  pub limit : w.state.queue.limit ≡ l.limit
  pub room : length w.kept ≡ l.room
  pub keys : KeysAre w.state.keys l
  pub messages : w.state.message_seq ≡ l.messages
  pub flight : FlightIs l.mtu w.flight w.kept l.saved
  pub noted : Listed w.notes l.noted

-- ---- a call does what the account says

pub record Does (w : Stores) (l : Ledger) (c : SendCall) : Type 0 where
  -- it is answered so
  pub reply : answered w c ≡ owed l c
  -- it leaves what the account has then
  pub leaves : Matches (stored w c) (after l c)
  -- and sends the account's records
  pub books : (b : Books) → books_by w c b ≡ enters_all (sent_by l c) b
