-- What the calls of the C interface say, as numbers and one flat struct.
use Rattle.opening_reply.specs.Opening.{Opening}
use Rattle.std.specs.Prelude.{List, ℕ, eqb, Some, None, ⊤, Result, Ok, Err}
use Rattle.base.specs.Choose.{choose}
use Rattle.datagram.specs.Datagram.{zeros, reason_number}
use Rattle.datagram.specs.declared.Reading.TheVariants as says
use Rattle.datagram.specs.declared.Reading.{Reading}
use Rattle.datagram.specs.declared.Reason.{Reason}
use Rattle.receiving.specs.Receiving.{answer_number, refusal_number, Answer}
use Rattle.receiving.specs.declared.Refusal.{Refusal}
use Rattle.recv_calls.specs.declared.HuskReading.{HuskReading}

-- 01's numbers
abbrev pub answer_of : Answer → ℕ
answer_of = answer_number

-- the same of a call that drops no record; 0 where it is done
abbrev pub number_of : Result ⊤ Refusal → ℕ
number_of (Ok x) = 0
number_of (Err r) = refusal_number r

abbrev pub reason_of : Reason → ℕ
reason_of = reason_number

-- a kind that has only a refusal, or 0
abbrev pub bare : ℕ → ℕ → HuskReading
bare kind refusal = record {
  kind = kind;
  refusal = refusal;
  content_type = 0;
  epoch = 0;
  number = 0;
  start = 0;
  header_len = 0;
  length = 0;
  nonce = zeros;
}

-- a record, or the bytes that a mask question shows: type, epoch, number, place
abbrev pub shown : ℕ → ℕ → ℕ → ℕ → ℕ → ℕ → HuskReading
shown kind t epoch n start len = record {
  kind = kind;
  refusal = 0;
  content_type = t;
  epoch = epoch;
  number = n;
  start = start;
  header_len = 0;
  length = len;
  nonce = zeros;
}

-- an opening asked for: with its header's length and its nonce
abbrev pub asked : ℕ → ℕ → ℕ → ℕ → ℕ → List ℕ → HuskReading
asked epoch n start head len nonce = record {
  kind = 7;
  refusal = 0;
  content_type = 0;
  epoch = epoch;
  number = n;
  start = start;
  header_len = head;
  length = len;
  nonce = nonce;
}

abbrev pub flat_reading : Reading → List ℕ → HuskReading
flat_reading says.Setting v = bare 0 12
flat_reading says.Reply v = bare 0 15
flat_reading says.End v = bare 1 0
flat_reading says.Incomplete v = bare 1 2
flat_reading says.TooMany v = bare 1 3
flat_reading (says.Dropped r) v = bare 2 (reason_of r)
flat_reading (says.Plaintext t n s l) v = shown 3 t 0 n s l
flat_reading (says.Unopened b n s l) v = shown 4 0 b n s l
flat_reading (says.Opened e n t s l) v = shown 5 t e n s l
flat_reading (says.Mask e s) v = shown 6 0 e 0 s 16
flat_reading (says.Opening e n s h l) v = asked e n s h l v

-- a reply of 1 brings so many bytes; 0 is no
unfoldable pub opening_of : ℕ → ℕ → Opening
opening_of o n = choose (eqb o 1) (Some n) None
