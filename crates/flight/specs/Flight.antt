-- A flight's saved records (01, "Flights acknowledged or sent again"; refusals 12, 18). Assumes nothing.
use Rattle.std.specs.Prelude.{Bool, false, List, [], ℕ, ◌+◌, ◌*◌, ◌<◌, ◌≤◌, leb, get_or, set, replicate, Ok, Err}
use Rattle.base.specs.Choose.{choose, both}
use Rattle.base.specs.Parts.{splice}
use Rattle.send_keys.specs.declared.SendError.TheVariants.{OutOfRange}
use Rattle.flight.specs.declared.Entry.{Entry}
use Rattle.flight.specs.declared.Flight.{Flight}
use Rattle.flight.specs.declared.Acted.{Acted}
use Rattle.flight.specs.declared.SavedRecords.{SavedRecords}

unfoldable pub entry_of : ℕ → ℕ → ℕ → ℕ → Entry
entry_of t e n len = record { content_type = t; epoch = e; number = n; length = len; marked = false; remembered = 0 }

-- no record
abbrev pub no_entry : Entry
no_entry = record { content_type = 0; epoch = 0; number = 0; length = 0; marked = false; remembered = 0 }

-- saved records with a table of numbers
abbrev pub whole : SavedRecords → List ℕ → Flight
whole r n = record { entries = r.entries; saved = r.saved; numbers = n }

-- so many saved records: all that an answer asks of a flight
abbrev pub counted : ℕ → Flight
counted n = record { entries = []; saved = n; numbers = [] }

-- the i-th saved record
abbrev pub entry_at : Flight → ℕ → Entry
entry_at f i = get_or f.entries i no_entry

-- nothing saved; "one flat table of 384 numbers starts as zeros"
unfoldable pub fresh_flight : Flight
fresh_flight = record { entries = replicate 12 no_entry; saved = 0; numbers = replicate 384 0 }

-- 12: at most 12 saved, and a buffer for 12 records of the MTU
unfoldable pub is_kept : Flight → ℕ → ℕ → Bool
is_kept f mtu room = both (leb f.saved 12) (leb (12 * mtu) room)

abbrev pub with_saved : Flight → List Entry → ℕ → Flight
with_saved f es n = record { entries = es; saved = n; numbers = f.numbers }

-- "Beginning a flight empties it"
unfoldable pub begun : Flight → Acted
begun f = choose (leb f.saved 12) (record { answer = Ok tt; flight = with_saved f f.entries 0 }) (record { answer = Err OutOfRange; flight = f })

-- a record more: not acknowledged, no earlier number
unfoldable pub saved_with : Flight → ℕ → ℕ → ℕ → ℕ → Flight
saved_with f t e n len = with_saved f (set f.entries f.saved (entry_of t e n len)) (f.saved + 1)

-- its content at the start of its slot of MTU bytes
unfoldable pub saved_memory : Flight → ℕ → List ℕ → List ℕ → List ℕ
saved_memory f mtu x m = splice (f.saved * mtu) x m

-- what saving a content of n bytes needs
pub record Keeps (f : Flight) (mtu room n : ℕ) : Type 0 where
  pub high : mtu ≤ 1500
  pub saved : f.saved < 12
  pub space : 12 * mtu ≤ room
  pub short : n ≤ mtu
