-- The claim's own account of a receiving end, kept from the host's calls, the bytes and what 01 says, never from the state: which epochs
-- are keyed, what epoch bits mean, how long the record at the front of a datagram's rest is, which question the host was shown.
use Rattle.std.specs.Prelude.{ℕ, suc, ◌+◌, ◌-◌, ◌*◌, ◌/◌, ◌%◌, ltb, leb, eqb, length, get_or, Bool, true, false, not, List, [], ◌∷◌}
use Rattle.std.proofs.Math.Option.{Option, none, some}
use Rattle.base.specs.Bytes.{be_at}
use Rattle.base.specs.Choose.{choose, both, either}

-- a function with another value at one place
unfoldable pub upd : {A : Type 0} → (ℕ → A) → ℕ → A → ℕ → A
upd f e a k = choose (eqb k e) a (f k)

-- 01's lengths of the parts of a record: "Plaintext header, 13 bytes"; a sealed one's flags, two number bytes and length, as they are sent; "Tag
-- length is 16"; behind the content of a sealed record its type and the tag; what it has beside its content in all
abbrev pub plain_head : ℕ
plain_head = 13

abbrev pub sealed_head : ℕ
sealed_head = 5

abbrev pub tag_size : ℕ
tag_size = 16

abbrev pub sealed_tail : ℕ
sealed_tail = 1 + tag_size

abbrev pub sealed_over : ℕ
sealed_over = sealed_head + sealed_tail

-- the reading question last shown to the host and not yet answered: a mask question by its epoch and the place of the 16 bytes; an opening
-- question by epoch, number and the header's place, with the header's and the protected part's bytes as they lay when it was first shown
pub data Shown : Type 0 where
  nothing : Shown
  a_mask : ℕ → ℕ → Shown
  an_opening : ℕ → ℕ → ℕ → List ℕ → List ℕ → Shown

pub record Account : Type 0 where
  -- the epochs keyed to receive and not removed, the last keyed first; the highest ever keyed; the IV that each was keyed with
  pub keyed : List ℕ
  pub highest : ℕ
  pub ivs : ℕ → List ℕ
  -- peer encryption on, application data released
  pub encryption : Bool
  pub released : Bool
  -- where the cut stands in the datagram, the readings made, the question shown
  pub place : ℕ
  pub readings : ℕ
  pub waits : Shown

abbrev pub new_account : Account
new_account = record {
  keyed = [];
  highest = 0;
  ivs = λ e. [];
  encryption = false;
  released = false;
  place = 0;
  readings = 0;
  waits = nothing;
}

-- ---- keyed epochs

abbrev pub is_in : ℕ → List ℕ → Bool
is_in e [] = false
is_in e (k ∷ ks) = either (eqb k e) (is_in e ks)

abbrev pub without : ℕ → List ℕ → List ℕ
without e [] = []
without e (k ∷ ks) = choose (eqb k e) (without e ks) (k ∷ without e ks)

-- how many are application epochs, 3 or above
abbrev pub applications : List ℕ → ℕ
applications [] = 0
applications (e ∷ es) = choose (leb 3 e) (suc (applications es)) (applications es)

abbrev pub fifth : ℕ → List ℕ → Bool
fifth e keyed = both (leb 3 e) (leb 4 (applications keyed))

-- the number that keying is told: 13 for 0, 1 or one not above every earlier one; 23 for a fifth application epoch; else 0, it is done
abbrev pub owed_by : ℕ → List ℕ → ℕ → ℕ
owed_by highest keyed e = choose (either (ltb e 2) (leb e highest)) 13 (choose (fifth e keyed) 23 0)

unfoldable pub key_owed : Account → ℕ → ℕ
key_owed a e = owed_by a.highest a.keyed e

abbrev pub with_key : Account → ℕ → List ℕ → Account
with_key a e iv = record {
  keyed = e ∷ a.keyed;
  highest = e;
  ivs = upd a.ivs e iv;
  encryption = a.encryption;
  released = a.released;
  place = a.place;
  readings = a.readings;
  waits = a.waits;
}

unfoldable pub keys : Account → ℕ → List ℕ → Account
keys a e iv = choose (eqb (key_owed a e) 0) (with_key a e iv) a

-- ---- epoch bits

-- the last keyed application epoch with those bits
abbrev pub last_with : ℕ → List ℕ → Option ℕ
last_with bits [] = none
last_with bits (e ∷ es) = choose (both (leb 3 e) (eqb (e % 4) bits)) (some e) (last_with bits es)

abbrev pub or_two : Bool → Option ℕ → Option ℕ
or_two true none = some 2
or_two false none = none
or_two true (some e) = some e
or_two false (some e) = some e

-- "bits 2 mean epoch 2 while its keys exist and application data isn't released; else the last installed application epoch with those bits;
-- else, for bits 2, epoch 2 if keyed; else none"
unfoldable pub resolves_to : Account → ℕ → Option ℕ
resolves_to a bits =
    choose (both (eqb bits 2) (both (is_in 2 a.keyed) (not a.released))) (some 2)
    (or_two (both (eqb bits 2) (is_in 2 a.keyed)) (last_with bits a.keyed))

-- ---- the record at the front of the rest of a datagram

-- flags, a number of 2 bytes if 0x08 is set, else 1, a length of 2 bytes if 0x04 is set
abbrev pub head_size : ℕ → ℕ
head_size flags = 2 + flags / 8 % 2 + 2 * (flags / 4 % 2)

-- header and protected part, by the length field; without one the record runs to the end
abbrev pub said_size : List ℕ → ℕ → ℕ
said_size rest flags = choose (eqb (flags / 4 % 2) 1) (head_size flags + be_at 2 rest (head_size flags - 2)) (length rest)

-- 0x10 ends the datagram there, and so does a header or length beyond its bytes (2)
unfoldable pub sealed_size : List ℕ → ℕ → ℕ
sealed_size rest flags =
    choose (eqb (flags / 16 % 2) 1) (length rest)
    (choose (ltb (length rest) (head_size flags)) (length rest)
    (choose (ltb (length rest) (said_size rest flags)) (length rest) (said_size rest flags)))

unfoldable pub plain_size : List ℕ → ℕ
plain_size rest =
    choose (ltb (length rest) plain_head) (length rest)
    (choose (ltb (length rest) (plain_head + be_at 2 rest 11)) (length rest) (plain_head + be_at 2 rest 11))

-- a first byte 0x20 to 0x3F is a sealed record
unfoldable pub record_size : List ℕ → ℕ
record_size rest = choose (eqb (get_or rest 0 0 / 32) 1) (sealed_size rest (get_or rest 0 0)) (plain_size rest)

-- a plaintext record that is a reading: type 21, 22 or 26, version FE FF or FE FD, epoch 0
unfoldable pub good_plain : List ℕ → Bool
good_plain rest =
    both (either (eqb (get_or rest 0 0) 21) (either (eqb (get_or rest 0 0) 22) (eqb (get_or rest 0 0) 26)))
    (both (both (eqb (get_or rest 1 0) 0xFE) (either (eqb (get_or rest 2 0) 0xFF) (eqb (get_or rest 2 0) 0xFD))) (eqb (be_at 2 rest 3) 0))
