-- The begun datagram, its readings with 01's numbers, the question that waits, and the ranges outside which a call answers 12.
use Rattle.std.specs.Prelude.{ℕ, ◌+◌, ◌-◌, leb, Bool, true, List, [], ◌∷◌}
use Rattle.base.specs.Choose.{choose, both}
use Rattle.recv_keys.specs.Keys.{is_keyed, keys_sound}
use Rattle.recv_keys.specs.declared.RecvKeys.{RecvKeys}
use Rattle.datagram.specs.declared.Ask.{Ask}
use Rattle.datagram.specs.declared.Datagram.{Datagram}
use Rattle.datagram.specs.declared.Question.TheVariants as question
use Rattle.datagram.specs.declared.Question.{Question}
use Rattle.datagram.specs.declared.Reading.TheVariants as says
use Rattle.datagram.specs.declared.Reading.{Reading}
use Rattle.datagram.specs.declared.Reason.TheVariants as reason
use Rattle.datagram.specs.declared.Reason.{Reason}
use Rattle.datagram.specs.declared.Step.{Step}

-- ---- the number of each refusal, of 01 and 02; 0 where nothing is refused

abbrev pub reason_number : Reason → ℕ
reason_number reason.Invalid = 4
reason_number reason.EarlyBits = 5
reason_number reason.NoKeys = 6
reason_number reason.TooShort = 7
reason_number reason.TooHigh = 8
reason_number reason.Seen = 9
reason_number reason.TooOld = 26
reason_number reason.NotOpened = 10
reason_number reason.NoContentType = 11

abbrev pub reading_number : Reading → ℕ
reading_number says.Setting = 12
reading_number says.Reply = 15
reading_number says.End = 0
reading_number says.Incomplete = 2
reading_number says.TooMany = 3
reading_number (says.Dropped r) = reason_number r
reading_number (says.Plaintext t n s l) = 0
reading_number (says.Unopened b n s l) = 0
reading_number (says.Opened e n t s l) = 0
reading_number (says.Mask e s) = 0
reading_number (says.Opening e n s h l) = 0

-- ---- ranges: outside them a call answers 12

-- a record within room bytes, with number bytes and a tag
unfoldable pub ask_sound : Ask → ℕ → Bool
ask_sound a room =
    both (leb 2 a.header_len) (both (leb a.header_len room)
    (both (leb 16 a.length) (leb a.length (room - a.header_len))))

-- its epoch is keyed
unfoldable pub ask_keyed : RecvKeys → Ask → ℕ → Bool
ask_keyed k a room = both (ask_sound a room) (is_keyed k a.epoch)

unfoldable pub opening_sound : RecvKeys → Ask → ℕ → ℕ → Bool
opening_sound k a n room = both (leb n 0xFFFF_FFFF_FFFF) (ask_keyed k a room)

unfoldable pub question_sound : RecvKeys → Question → ℕ → Bool
question_sound k question.Nothing room = true
question_sound k (question.Mask a) room = ask_keyed k a room
question_sound k (question.Opening a n) room = opening_sound k a n room

unfoldable pub is_sound : RecvKeys → Datagram → Bool
is_sound k b =
    both (keys_sound k) (both (leb b.size 16384) (both (leb b.at b.size)
    (both (leb b.readings 16) (question_sound k b.question (b.size - b.at)))))

-- ---- where a record leads

abbrev pub zeros : List ℕ
zeros = 0 ∷ 0 ∷ 0 ∷ 0 ∷ 0 ∷ 0 ∷ 0 ∷ 0 ∷ 0 ∷ 0 ∷ 0 ∷ 0 ∷ []

abbrev pub told : Datagram → Reading → Step
told b r = record { reading = r; nonce = zeros; datagram = b }

-- a datagram just begun
abbrev pub begun : ℕ → Datagram
begun n = record { size = n; at = 0; readings = 0; question = question.Nothing }

-- the cursor moved, no question left
abbrev pub moved : Datagram → ℕ → ℕ → Datagram
moved b at readings = record { size = b.size; at = at; readings = readings; question = question.Nothing }

-- the same record, under a question
abbrev pub questioned : Datagram → Question → Datagram
questioned b q = record { size = b.size; at = b.at; readings = b.readings; question = q }

-- the datagram ends: later reads find its end
abbrev pub ended : Datagram → Reading → Step
ended b r = told (moved b b.size b.readings) r

-- a record is dropped, and the cut goes on behind it
abbrev pub passed : Datagram → ℕ → Reason → Step
passed b next r = told (moved b next b.readings) (says.Dropped r)

-- a reading, or 3 after sixteen
unfoldable pub counted : Datagram → ℕ → Reading → Step
counted b next r = choose (leb 16 b.readings) (ended b says.TooMany) (told (moved b next (b.readings + 1)) r)

-- the end of the record that a question is about
abbrev pub end_asked : Datagram → Ask → ℕ
end_asked b a = b.at + a.header_len + a.length
