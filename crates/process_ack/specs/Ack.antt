-- Acting on an ACK (01, "Flights acknowledged or sent again"): its form, the records that it names, and the flight that is done. Assumes nothing.
use Rattle.std.specs.Prelude.{Bool, true, false, List, ltb, eqb, length, get_or, set, Ok, Err}
use Prim.Native.Nat.{ℕ, zero, suc, ◌+◌, ◌-◌, ◌*◌, ◌/◌, ◌%◌, min}
use Rattle.base.specs.Bytes.{be_at}
use Rattle.base.specs.Choose.{choose, both}
use Rattle.send_keys.specs.declared.SendError.TheVariants.{OutOfRange}
use Rattle.flight.specs.declared.Entry.{Entry}
use Rattle.flight.specs.declared.Flight.{Flight}
use Rattle.flight.specs.Flight.{entry_at, with_saved}
use Rattle.process_ack.specs.declared.Tally.{Tally}
use Rattle.flight.specs.declared.Acted.{Acted}

-- "under 2 bytes, a false length, or a length not a multiple of 16 marks nothing"
unfoldable pub is_formed : List ℕ → Bool
is_formed d = choose (ltb (length d) 2) false (both (eqb (be_at 2 d 0) (length d - 2)) (eqb ((length d - 2) % 16) 0))

-- how many pairs it has
abbrev pub pairs_in : List ℕ → ℕ
pairs_in d = (length d - 2) / 16

-- "pairs of 8-byte epoch and number" behind the length: the i-th has these
unfoldable pub is_pair : List ℕ → ℕ → ℕ → ℕ → Bool
is_pair d i epoch number = both (eqb (be_at 8 d (2 + i * 16)) epoch) (eqb (be_at 8 d (2 + i * 16 + 8)) number)

-- one of the first n pairs has this epoch and number
unfoldable pub is_named : List ℕ → ℕ → ℕ → ℕ → Bool
is_named d epoch number zero = false
is_named d epoch number (suc n) = choose (is_pair d n epoch number) true (is_named d epoch number n)

-- one of the first k numbers that the i-th saved record remembers is named; the table's cells beyond are no numbers
unfoldable pub is_remembered : List ℕ → ℕ → List ℕ → ℕ → ℕ → ℕ → Bool
is_remembered d n numbers i epoch zero = false
is_remembered d n numbers i epoch (suc k) = choose (is_named d epoch (get_or numbers (i * 32 + k) 0) n) true (is_remembered d n numbers i epoch k)

-- "marked exactly if it was, or a pair has its epoch and one of its numbers"
unfoldable pub is_acked : List ℕ → ℕ → List ℕ → ℕ → Entry → Bool
is_acked d n numbers i e =
    choose e.marked true
    (choose (is_named d e.epoch e.number n) true (is_remembered d n numbers i e.epoch (min e.remembered 32)))

unfoldable pub with_mark : Entry → Bool → Entry
with_mark e m = record { content_type = e.content_type; epoch = e.epoch; number = e.number; length = e.length; marked = m; remembered = e.remembered }

unfoldable pub mark_at : Flight → ℕ → Bool → Flight
mark_at f i m = with_saved f (set f.entries i (with_mark (entry_at f i) m)) f.saved

-- the first k saved records marked as n pairs have it
unfoldable pub marks_after : List ℕ → ℕ → Flight → ℕ → Flight
marks_after d n f zero = f
marks_after d n f (suc k) = mark_at (marks_after d n f k) k (is_acked d n f.numbers k (entry_at f k))

-- one saved record more: a record of epoch 2, and one that is not marked
unfoldable pub tally_with : Tally → Entry → Tally
tally_with t e = choose (eqb e.epoch 2) (choose e.marked (record { any = true; unmarked = t.unmarked }) (record { any = true; unmarked = true })) t

-- of the first k saved records: whether one is of epoch 2, and whether one of these is not marked
unfoldable pub tally_after : Flight → ℕ → Tally
tally_after f zero = record { any = false; unmarked = false }
tally_after f (suc k) = tally_with (tally_after f k) (entry_at f k)

-- "If records of epoch 2 exist and all are marked, the flight empties"
unfoldable pub emptied : Flight → Flight
emptied f = choose (tally_after f f.saved).any (choose (tally_after f f.saved).unmarked f (with_saved f f.entries 0)) f

-- 12 for a flight out of its range; nothing else is refused
unfoldable pub acked : Flight → List ℕ → Acted
acked f d =
    choose (ltb 12 f.saved) (record { answer = Err OutOfRange; flight = f })
    (record { answer = Ok tt; flight = choose (is_formed d) (emptied (marks_after d (pairs_in d) f f.saved)) f })
