-- What 02, 2 and 7 ask of reassembly (RFC 9147, section 5.5), by the claim's own account: kept from the records and buffers that the host gives, and from
-- nothing of the state. It cites no definition of the program.
use Rattle.std.specs.Prelude.{Bool, true, false, List, [], ◌∷◌, ℕ, suc, ◌+◌, ◌-◌, ◌%◌, leb, ltb, eqb, length, get_or, drop}
use Rattle.std.proofs.Math.Option.{Option, none, some}
use Rattle.base.specs.Bytes.{be_at}
use Rattle.base.specs.Choose.{choose, both, either}
use Rattle.base.specs.Every.{every, same_to}
use Rattle.base.specs.Parts.{part}

-- ---- limits

-- "at most 50 pieces", "body at most 16,384 bytes in a lent buffer of that length", and the number that no message has
abbrev pub most_taken : ℕ
most_taken = 50

abbrev pub longest_body : ℕ
longest_body = 16384

abbrev pub last_number : ℕ
last_number = 65535

-- ---- pieces

-- bytes of a piece's header: type (1), total (3), message number (2), offset (3), length (3) (RFC 9147, section 5.2)
abbrev pub head_bytes : ℕ
head_bytes = 12

pub record Fragment : Type 0 where
  pub kind : ℕ
  pub total : ℕ
  pub number : ℕ
  pub offset : ℕ
  pub body : List ℕ

-- the piece at the start of what is left of a record, if its header and its body lie within it
unfoldable pub fragment_in : List ℕ → Option Fragment
fragment_in r =
    choose (ltb (length r) head_bytes) none
    (choose (ltb (length r) (head_bytes + be_at 3 r 9)) none
    (some (record { kind = get_or r 0 0 % 256; total = be_at 3 r 1; number = be_at 2 r 4; offset = be_at 3 r 6; body = part head_bytes (be_at 3 r 9) r })))

-- the place in the message behind its last byte
abbrev pub end_of : Fragment → ℕ
end_of f = f.offset + length f.body

-- it has byte i of the message
unfoldable pub has : Fragment → ℕ → Bool
has f i = both (leb f.offset i) (ltb i (end_of f))

-- and has it as
abbrev pub byte_in : Fragment → ℕ → ℕ
byte_in f i = get_or f.body (i - f.offset) 0

-- "the same exactly when message number, type, total length, offset, length and every byte agree" (02, 7)
unfoldable pub is_same : Fragment → Fragment → Bool
is_same f g =
    both (eqb g.number f.number)
    (both (eqb g.kind f.kind)
    (both (eqb g.total f.total)
    (both (eqb g.offset f.offset) (both (eqb (length g.body) (length f.body)) (same_to g.body f.body (length f.body))))))

-- "where pieces overlap, shared bytes must be equal": byte i, where both have it
unfoldable pub is_shared : Fragment → Fragment → ℕ → Bool
is_shared f g i = choose (both (has f i) (has g i)) (eqb (byte_in f i) (byte_in g i)) true

-- ---- pieces taken, the newest first

-- one of them has byte i
unfoldable pub covers : List Fragment → ℕ → Bool
covers [] i = false
covers (f ∷ fs) i = either (has f i) (covers fs i)

-- they have every byte below n
unfoldable pub covers_all : List Fragment → ℕ → Bool
covers_all fs n = every (covers fs) n

-- "the earlier bytes stay": byte i as the first piece that has it
unfoldable pub byte_of : List Fragment → ℕ → ℕ
byte_of [] i = 0
byte_of (f ∷ fs) i = choose (covers fs i) (byte_of fs i) (get_or f.body (i - f.offset) 0)

-- "the first piece held": behind the newest and the earlier ones
unfoldable pub oldest : Fragment → List Fragment → Fragment
oldest f [] = f
oldest f (g ∷ gs) = oldest g gs

-- one of them is the same
unfoldable pub is_among : Fragment → List Fragment → Bool
is_among f [] = false
is_among f (g ∷ gs) = either (is_same f g) (is_among f gs)

-- every byte that it shares with one of them is equal
unfoldable pub shares_all : Fragment → List Fragment → Bool
shares_all f [] = true
shares_all f (g ∷ gs) = both (every (is_shared f g) (end_of f)) (shares_all f gs)

-- ---- the account

-- how many messages are out, which is the number expected; the pieces taken of that message; the bytes of the record begun, and where its next piece
-- starts
pub record Account : Type 0 where
  pub out : ℕ
  pub pieces : List Fragment
  pub size : ℕ
  pub place : ℕ

abbrev pub new_account : Account
new_account = record { out = 0; pieces = []; size = 0; place = 0 }

-- what a host is told: a record begun; refused, and nothing has changed; refused, and the record is over; the record's end; the same piece as one taken;
-- taken; a piece of another message, with that number; a message with its type, number and length
pub data Verdict : Type 0 where
  begun : Verdict
  turned : ℕ → Verdict
  ended : ℕ → Verdict
  over same held : Verdict
  other : (number : ℕ) → Verdict
  whole : (kind number size : ℕ) → Verdict

-- ---- what a call is owed

-- 24 spares it: "65,535 as the expected number", "a total over 16,384", "past its own total", past "the held total"
unfoldable pub is_fit : Account → Fragment → Bool
is_fit a f =
    both (ltb a.out last_number)
    (both (leb f.total longest_body) (both (leb (end_of f) f.total) (leb (end_of f) (oldest f a.pieces).total)))

-- 28 spares it: "Every piece must have the held type and total, and where pieces overlap, shared bytes must be equal"
unfoldable pub is_agreed : Account → Fragment → Bool
is_agreed a f =
    both (eqb (oldest f a.pieces).kind f.kind) (both (eqb (oldest f a.pieces).total f.total) (shares_all f a.pieces))

-- taken: "handed over once when every byte is covered", "Type and total are those of the first piece held"
unfoldable pub taken_as : Account → Fragment → Verdict
taken_as a f =
    choose (covers_all (f ∷ a.pieces) (oldest f a.pieces).total) (whole (oldest f a.pieces).kind a.out (oldest f a.pieces).total) held

-- a piece of the number expected: 24, "before sameness", 28, "after 24 and before 25", "then 25 for a fifty-first different piece"
unfoldable pub judged : Account → Fragment → Verdict
judged a f =
    choose (is_fit a f)
    (choose (is_agreed a f) (choose (is_among f a.pieces) same (choose (ltb (length a.pieces) most_taken) (taken_as a f) (ended 25))) (ended 28))
    (ended 24)

-- what stands at the place reached: 24 where it runs past its record; "Pieces of other messages change nothing and are only measured against the
-- record"
unfoldable pub read_as : Account → Option Fragment → Verdict
read_as a none = ended 24
read_as a (some f) = choose (eqb f.number a.out) (judged a f) (other f.number)

-- the next piece of a record with content c, over a buffer of n bytes: 16, "tested first"; 15 for another length than the one begun
unfoldable pub owed : Account → List ℕ → ℕ → Verdict
owed a c n =
    choose (ltb n longest_body) (turned 16)
    (choose (eqb (length c) a.size) (choose (ltb a.place (length c)) (read_as a (fragment_in (drop a.place c))) over) (turned 15))

-- ---- the account behind a call

abbrev pub begins : Account → ℕ → Account
begins a n = record { out = a.out; pieces = a.pieces; size = n; place = 0 }

-- "A record's pieces are taken in turn": behind this piece
abbrev pub passes : Account → Fragment → Account
passes a f = record { out = a.out; pieces = a.pieces; size = a.size; place = a.place + head_bytes + length f.body }

-- "ends the record", "with the earlier pieces kept"
abbrev pub ends : Account → Account
ends a = record { out = a.out; pieces = a.pieces; size = a.size; place = a.size }

abbrev pub holds : Account → Fragment → Account
holds a f = record { out = a.out; pieces = f ∷ a.pieces; size = a.size; place = a.place + head_bytes + length f.body }

-- "one more after each message"
abbrev pub hands : Account → Fragment → Account
hands a f = record { out = suc a.out; pieces = []; size = a.size; place = a.place + head_bytes + length f.body }

-- behind a call that was owed this verdict of this piece
abbrev pub settled : Account → Verdict → Fragment → Account
settled a begun f = a
settled a (turned n) f = a
settled a (ended n) f = ends a
settled a over f = a
settled a (other n) f = passes a f
settled a same f = passes a f
settled a held f = holds a f
settled a (whole k n l) f = hands a f

-- the piece that a call reads; where there is none, one without bytes, which no verdict of such a call looks at
abbrev pub no_fragment : Fragment
no_fragment = record { kind = 0; total = 0; number = 0; offset = 0; body = [] }

abbrev pub or_none : Option Fragment → Fragment
or_none none = no_fragment
or_none (some f) = f

abbrev pub reads_from : Account → List ℕ → Fragment
reads_from a c = or_none (fragment_in (drop a.place c))

abbrev pub after : Account → List ℕ → ℕ → Account
after a c n = settled a (owed a c n) (reads_from a c)
