-- The lines of a receive history (02, 8), each a function of the whole input: by the records before it and the numbers taken in its epoch, and
-- no window. Assumes nothing.
use Rattle.std.specs.Prelude.{Bool, true, false, List, [], ◌∷◌, ◌++◌, ℕ, zero, suc, ◌+◌, ◌*◌, ◌/◌, min, eqb, ltb, leb, length, get_or}
use Rattle.base.specs.Bytes.{be_at}
use Rattle.base.specs.Choose.{choose, both, either}
use Rattle.base.specs.Parts.{part}
use Rattle.decimal.specs.Decimal.{decimal}
use Rattle.sequence.specs.Sequence.{block_of, nearest}
use Rattle.window.specs.Used.{above}
use Rattle.reasons.specs.declared.Reason.{Reason}
use Rattle.reasons.specs.declared.Reason.TheVariants.{Short, Record, Epoch, Old, Seen, Cipher, Taken}
use Rattle.reasons.specs.declared.Told.{Told}
use Rattle.reasons.specs.Met.{has, meet, met}

-- ---- the records of the input

-- "8-byte records, with no header"
abbrev pub record_size : ℕ
record_size = 8

-- "At most 65,536 records are read"
abbrev pub most_records : ℕ
most_records = 65536

-- record i; the last one may be cut short
abbrev pub record_at : List ℕ → ℕ → List ℕ
record_at d i = part (i * record_size) record_size d

-- how many there are, one cut short among them
unfoldable pub records : List ℕ → ℕ
records d = min most_records ((length d + 7) / record_size)

-- "epoch (2), bits (1, value 8 or 16), cipher reply (1, value 0 or 1), partial number (2), two zero bytes"
abbrev pub epoch_of : List ℕ → ℕ
epoch_of r = be_at 2 r 0

abbrev pub bits_of : List ℕ → ℕ
bits_of r = get_or r 2 0

abbrev pub reply_of : List ℕ → ℕ
reply_of r = get_or r 3 0

abbrev pub partial_of : List ℕ → ℕ
partial_of r = be_at 2 r 4

abbrev pub is_whole : List ℕ → Bool
is_whole r = leb record_size (length r)

-- a reply of 0 or 1, and the two zero bytes
unfoldable pub ends_well : List ℕ → Bool
ends_well r = both (leb (reply_of r) 1) (eqb (be_at 2 r 6) 0)

-- "Under 8 bits the partial's first byte is zero"
unfoldable pub is_well_formed : List ℕ → Bool
is_well_formed r = both (either (eqb (bits_of r) 16) (both (eqb (bits_of r) 8) (eqb (get_or r 4 0) 0))) (ends_well r)

-- a record that starts its epoch, if no earlier one did
unfoldable pub is_formed : List ℕ → ℕ → Bool
is_formed d i = both (is_whole (record_at d i)) (is_well_formed (record_at d i))

abbrev pub epoch_at : List ℕ → ℕ → ℕ
epoch_at d i = epoch_of (record_at d i)

-- the epochs kept before record i
unfoldable pub kept_at : List ℕ → ℕ → List ℕ
kept_at d i = met (is_formed d) (epoch_at d) i

-- ---- what is told of a record

-- a number is old from so far below the highest taken
abbrev pub old_from : ℕ
old_from = 64

abbrev pub is_taken : Reason → Bool
is_taken Taken = true
is_taken Short = false
is_taken Record = false
is_taken Epoch = false
is_taken Old = false
is_taken Seen = false
is_taken Cipher = false

-- the numbers taken in an epoch, of those that lines tell of
unfoldable pub taken_in : ℕ → List Told → List ℕ
taken_in e [] = []
taken_in e (t ∷ ts) = choose (both (is_taken t.reason) (eqb t.epoch e)) (t.number ∷ taken_in e ts) (taken_in e ts)

-- the full number, by those taken before in its epoch (02, 1)
unfoldable pub number_in : List ℕ → List ℕ → ℕ
number_in taken r = nearest (block_of (eqb (bits_of r) 16)) (partial_of r) (above taken)

-- "old or seen, cipher"
unfoldable pub reason_in : List ℕ → ℕ → Bool → Reason
reason_in taken n opened = choose (ltb (n + old_from) (above taken)) Old (choose (has n taken) Seen (choose opened Taken Cipher))

unfoldable pub told_in : List ℕ → List ℕ → Told
told_in taken r = record {
  epoch = epoch_of r;
  number = number_in taken r;
  reason = reason_in taken (number_in taken r) (eqb (reply_of r) 1);
}

-- a line without a number
abbrev pub only : Reason → Told
only why = record { epoch = 0; number = 0; reason = why }

-- what is told of a record, by the epochs kept and the lines told before it: "tested in the order short, record, epoch, old or seen, cipher"
unfoldable pub tell : List ℕ → List Told → List ℕ → Told
tell kept told r =
    choose (is_whole r)
    (choose (is_well_formed r) (choose (has (epoch_of r) (meet (epoch_of r) kept)) (told_in (taken_in (epoch_of r) told) r) (only Epoch)) (only Record))
    (only Short)

-- what is told of the records before record i, the last first
unfoldable pub told_to : List ℕ → ℕ → List Told
told_to d zero = []
told_to d (suc i) = tell (kept_at d i) (told_to d i) (record_at d i) ∷ told_to d i

-- what is told of record i
unfoldable pub told_at : List ℕ → ℕ → Told
told_at d i = tell (kept_at d i) (told_to d i) (record_at d i)

-- ---- lines

abbrev pub space : ℕ
space = 32

abbrev pub newline : ℕ
newline = 10

-- "-" in the place of a number
abbrev pub dash : ℕ
dash = 45

abbrev pub name_of : Reason → List ℕ
name_of Short = 115 ∷ 104 ∷ 111 ∷ 114 ∷ 116 ∷ []
name_of Record = 114 ∷ 101 ∷ 99 ∷ 111 ∷ 114 ∷ 100 ∷ []
name_of Epoch = 101 ∷ 112 ∷ 111 ∷ 99 ∷ 104 ∷ []
name_of Old = 111 ∷ 108 ∷ 100 ∷ []
name_of Seen = 115 ∷ 101 ∷ 101 ∷ 110 ∷ []
name_of Cipher = 99 ∷ 105 ∷ 112 ∷ 104 ∷ 101 ∷ 114 ∷ []
name_of Taken = 116 ∷ 97 ∷ 107 ∷ 101 ∷ 110 ∷ []

abbrev pub has_number : Reason → Bool
has_number Short = false
has_number Record = false
has_number Epoch = false
has_number Old = true
has_number Seen = true
has_number Cipher = true
has_number Taken = true

-- the number as it is printed
unfoldable pub shown : Reason → ℕ → List ℕ
shown why n = choose (has_number why) (decimal n) (dash ∷ [])

-- "index from 0, a space, full number, a space, reason, newline"
unfoldable pub line_of : ℕ → Told → List ℕ
line_of i t = decimal i ++ (space ∷ (shown t.reason t.number ++ (space ∷ (name_of t.reason ++ (newline ∷ [])))))

-- the lines of the records before record i
unfoldable pub lines_to : List ℕ → ℕ → List ℕ
lines_to d zero = []
lines_to d (suc i) = lines_to d i ++ line_of i (told_at d i)

-- what is printed of an input
unfoldable pub printed : List ℕ → List ℕ
printed d = lines_to d (records d)
