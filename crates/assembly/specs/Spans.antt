-- The next handshake message, put together from its pieces (RFC 9147, section 5.5; 02, 2 and 7), in words that the host keeps: which word is which,
-- which bytes the pieces held cover, and which of a piece's bytes have to be there already. Assumes nothing.
use Rattle.std.specs.Prelude.{Bool, true, false, List, ℕ, zero, suc, ◌+◌, ◌-◌, leb, ltb, eqb, get_or}
use Rattle.base.specs.Choose.{choose, both, either}
use Rattle.base.specs.Every.{every}

-- ---- limits

-- "at most 50 pieces"
abbrev pub most-pieces : ℕ
most-pieces = 50

-- "body at most 16,384 bytes in a lent buffer of that length"
abbrev pub most_bytes : ℕ
most_bytes = 16384

-- the last message number, which no message has
abbrev pub last-number : ℕ
last-number = 65535

-- bytes of a piece's header (RFC 9147, section 5.2)
abbrev pub header-length : ℕ
header-length = 12

-- ---- which word is which

abbrev pub words : ℕ
words = 106

-- the number expected
abbrev pub expected-at : ℕ
expected-at = 0

-- how many pieces are held
abbrev pub count_at : ℕ
count_at = 1

-- type and total of the first piece held
abbrev pub type_at : ℕ
type_at = 2

abbrev pub total-at : ℕ
total-at = 3

-- the length of the record that is taken apart, and the place reached in it
abbrev pub size-at : ℕ
size-at = 4

abbrev pub place_at : ℕ
place_at = 5

-- offset and length of each piece held
abbrev pub offset_at : ℕ → ℕ
offset_at k = 6 + k

abbrev pub length_at : ℕ → ℕ
length_at k = 56 + k

-- ---- what they stand for

abbrev pub expected_of : List ℕ → ℕ
expected_of w = get_or w expected-at 0

abbrev pub count_of : List ℕ → ℕ
count_of w = get_or w count_at 0

abbrev pub type_of : List ℕ → ℕ
type_of w = get_or w type_at 0

abbrev pub total_of : List ℕ → ℕ
total_of w = get_or w total-at 0

abbrev pub size_of : List ℕ → ℕ
size_of w = get_or w size-at 0

abbrev pub place_of : List ℕ → ℕ
place_of w = get_or w place_at 0

abbrev pub start_of : List ℕ → ℕ → ℕ
start_of w k = get_or w (offset_at k) 0

abbrev pub span_of : List ℕ → ℕ → ℕ
span_of w k = get_or w (length_at k) 0

-- ---- the pieces held

-- byte i lies in the n bytes from s on
unfoldable pub within : ℕ → ℕ → ℕ → Bool
within s n i = both (leb s i) (ltb (i - s) n)

-- byte i lies in one of the first n pieces held
unfoldable pub covered : List ℕ → ℕ → ℕ → Bool
covered w zero i = false
covered w (suc n) i = either (within (start_of w n) (span_of w n) i) (covered w n i)

-- every byte below t does
unfoldable pub all_covered : List ℕ → ℕ → ℕ → Bool
all_covered w n t = every (covered w n) t

-- "when every byte is covered": below the total, by the pieces held
unfoldable pub is_whole : List ℕ → Bool
is_whole w = all_covered w (count_of w) (total_of w)

-- one of the first n pieces held has this offset and this length. "the same exactly when message number, type, total length, offset, length and
-- every byte agree": the number is the one expected, and the rest is asked before (Assembly, is_agreed)
unfoldable pub is_same : List ℕ → ℕ → ℕ → ℕ → Bool
is_same w zero o l = false
is_same w (suc n) o l = either (both (eqb (start_of w n) o) (eqb (span_of w n) l)) (is_same w n o l)

-- "where pieces overlap, shared bytes must be equal": byte i of a body b that goes to place o lies in none of the first n pieces held, or is the byte
-- that d has there
unfoldable pub is_shared : List ℕ → ℕ → ℕ → List ℕ → List ℕ → ℕ → Bool
is_shared w n o b d i = choose (covered w n (o + i)) (eqb (get_or b i 0) (get_or d (o + i) 0)) true

-- so do the first m bytes
unfoldable pub all_shared : List ℕ → ℕ → ℕ → List ℕ → List ℕ → ℕ → Bool
all_shared w n o b d m = every (is_shared w n o b d) m
