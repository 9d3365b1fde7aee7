-- The flight in words that the host keeps: which word is which, and what they stand for. The 384 remembered numbers are a table of their
-- own.
use Rattle.std.specs.Prelude.{Bool, true, false, List, [], ◌∷◌, ℕ, zero, suc, ◌+◌, ◌*◌, ◌≤◌, ◌%◌, ltb, eqb, get_or, set}
use Rattle.base.specs.Choose.{choose}
use Rattle.flight.specs.declared.Entry.{Entry}
use Rattle.flight.specs.declared.Flight.{Flight}
use Rattle.flight.specs.declared.SavedRecords.{SavedRecords}
use Rattle.words.specs.Fields.{bit_of}

-- ---- which word is which

abbrev pub words : ℕ
words = 73

-- six words an entry, twelve entries: the content type
abbrev pub type_at : ℕ → ℕ
type_at i = 6 * i

-- its epoch
abbrev pub epoch-at : ℕ → ℕ
epoch-at i = type_at i + 1

-- its number
abbrev pub number_at : ℕ → ℕ
number_at i = type_at i + 2

-- the length of its content
abbrev pub length_at : ℕ → ℕ
length_at i = type_at i + 3

-- whether it is acknowledged
abbrev pub marked-at : ℕ → ℕ
marked-at i = type_at i + 4

-- how many earlier numbers it remembers
abbrev pub remembered_at : ℕ → ℕ
remembered_at i = type_at i + 5

-- how many are saved
abbrev pub saved-at : ℕ
saved-at = 72

-- ---- what they stand for

abbrev pub entry_at : List ℕ → ℕ → Entry
entry_at w i = record {
  content_type = get_or w (type_at i) 0 % 256;
  epoch = get_or w (epoch-at i) 0 % 65536;
  number = get_or w (number_at i) 0;
  length = get_or w (length_at i) 0;
  marked = eqb (get_or w (marked-at i) 0) 1;
  remembered = get_or w (remembered_at i) 0;
}

unfoldable pub entries_of : List ℕ → List Entry
entries_of w = entry_at w 0 ∷ entry_at w 1 ∷ entry_at w 2 ∷ entry_at w 3 ∷ entry_at w 4 ∷ entry_at w 5 ∷ entry_at w 6 ∷ entry_at w 7 ∷ entry_at w 8 ∷ entry_at w 9 ∷ entry_at w 10 ∷ entry_at w 11 ∷ []

abbrev pub records_of : List ℕ → SavedRecords
records_of w = record { entries = entries_of w; saved = get_or w saved-at 0 }

abbrev pub flight_of : List ℕ → List ℕ → Flight
flight_of w n = record { entries = entries_of w; saved = get_or w saved-at 0; numbers = n }

-- the marks of the first i are 0 or 1; else a call answers 12
unfoldable pub flat_to : List ℕ → ℕ → Bool
flat_to w zero = true
flat_to w (suc i) = choose (ltb 1 (get_or w (marked-at i) 0)) false (flat_to w i)

-- ---- words written

abbrev pub put_entry : ℕ → Entry → List ℕ → List ℕ
put_entry i e w =
    set (set (set (set (set (set w (type_at i) e.content_type) (epoch-at i) e.epoch) (number_at i) e.number) (length_at i) e.length) (marked-at i) (bit_of e.marked)) (remembered_at i) e.remembered

abbrev pub LowEntry : Entry → Type 0
LowEntry e = (e.content_type ≤ 255) × (e.epoch ≤ 65535)
