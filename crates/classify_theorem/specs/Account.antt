-- What 02, 3 asks of each reading, by the claim's own account: kept from the readings that the host is told and the bytes that they show, and from
-- nothing of the state. It cites no definition of the program.
use Rattle.std.specs.Prelude.{Bool, false, List, [], ℕ, suc, ltb, eqb, length, get_or}
use Rattle.std.proofs.Math.Option.{Option, none, some}
use Rattle.base.specs.Choose.{choose, both, either}
use Rattle.datagram.specs.declared.Reading.TheVariants as says
use Rattle.datagram.specs.declared.Reading.{Reading}

-- ---- numbers of the RFCs: content types (RFC 9147, section 4), alert descriptions (RFC 8446, section 6)

abbrev pub change_cipher_spec : ℕ
change_cipher_spec = 20

abbrev pub alert_type : ℕ
alert_type = 21

abbrev pub handshake_type : ℕ
handshake_type = 22

abbrev pub application_type : ℕ
application_type = 23

abbrev pub ack_type : ℕ
ack_type = 26

abbrev pub close_notify : ℕ
close_notify = 0

abbrev pub user_canceled : ℕ
user_canceled = 90

-- ---- the account

-- a reading told to the host and not dealt with: what it says, the bytes that it shows, and which reading it is, counted from the start
pub record Pending : Type 0 where
  pub reading : Reading
  pub shown : List ℕ
  pub serial : ℕ

-- where a record is: its epoch, then its number
pub record Place : Type 0 where
  pub epoch : ℕ
  pub number : ℕ

-- the reading not dealt with, the place of the first close, how many readings were told, and how many of the datagram's were dealt with
pub record Account : Type 0 where
  pub pending : Option Pending
  pub close : Option Place
  pub made : ℕ
  pub turns : ℕ

abbrev pub new_account : Account
new_account = record { pending = none; close = none; made = 0; turns = 0 }

-- ---- what a call is owed

-- what a host is told: refused; that no reading waits; dropped beyond the close, dropped as unprotected, ignored, acted on as an ACK, the first close,
-- an alert with its description; kept for the host as what it is
pub data Verdict : Type 0 where
  turned : ℕ → Verdict
  noneWaits beyond unprotected ignored marks closes : Verdict
  tells : (description : ℕ) → Verdict
  handshake application_data other unopened : Verdict

-- "drops records beyond it": of a later epoch, or of its epoch and of a higher number
unfoldable pub is_past : Option Place → Place → Bool
is_past none p = false
is_past (some c) p = either (ltb c.epoch p.epoch) (both (eqb c.epoch p.epoch) (ltb c.number p.number))

-- "the first alert 0"
abbrev pub first_only : Option Place → Verdict
first_only none = closes
first_only (some c) = ignored

-- "alert 90 and alerts under two bytes are ignored, another description is told to the host"
unfoldable pub alert_owed : Option Place → List ℕ → Verdict
alert_owed close c =
    choose (ltb (length c) 2) ignored
    (choose (eqb (get_or c 1 0) close_notify) (first_only close) (choose (eqb (get_or c 1 0) user_canceled) ignored (tells (get_or c 1 0))))

-- a record of that type that is no ACK: "handed on by its type"; a change of cipher spec is ignored, as in the Rust
unfoldable pub type_owed : Option Place → ℕ → List ℕ → Verdict
type_owed close t c =
    choose (eqb t alert_type) (alert_owed close c)
    (choose (eqb t handshake_type) handshake
    (choose (eqb t application_type) application_data (choose (eqb t change_cipher_spec) ignored other)))

-- "ACKs mark the flight"
unfoldable pub sealed_owed : Option Place → ℕ → List ℕ → Verdict
sealed_owed close t c = choose (eqb t ack_type) marks (type_owed close t c)

-- "plaintext ACK, alert and handshake records are dropped once peer encryption is on. A plaintext ACK never marks anything"
unfoldable pub is_dropped : Bool → ℕ → Bool
is_dropped encryption t = both encryption (either (eqb t alert_type) (either (eqb t handshake_type) (eqb t ack_type)))

unfoldable pub plain_owed : Option Place → Bool → ℕ → List ℕ → Verdict
plain_owed close encryption t c = choose (is_dropped encryption t) unprotected (choose (eqb t ack_type) ignored (type_owed close t c))

-- the place that a reading tells: plaintext is epoch 0, an unopened record has its epoch's bits and the number bytes as they lie
abbrev pub place_of : Reading → Place
place_of (says.Plaintext t n s l) = record { epoch = 0; number = n }
place_of (says.Unopened b n s l) = record { epoch = b; number = n }
place_of (says.Opened e n t s l) = record { epoch = e; number = n }
place_of says.Setting = record { epoch = 0; number = 0 }
place_of says.Reply = record { epoch = 0; number = 0 }
place_of says.End = record { epoch = 0; number = 0 }
place_of says.Incomplete = record { epoch = 0; number = 0 }
place_of says.TooMany = record { epoch = 0; number = 0 }
place_of (says.Dropped r) = record { epoch = 0; number = 0 }
place_of (says.Mask e s) = record { epoch = 0; number = 0 }
place_of (says.Opening e n s h l) = record { epoch = 0; number = 0 }

-- what a reading that is not past the close is owed; nothing else than these three waits
abbrev pub kind_owed : Option Place → Bool → Reading → List ℕ → Verdict
kind_owed close encryption (says.Plaintext t n s l) c = plain_owed close encryption t c
kind_owed close encryption (says.Unopened b n s l) c = unopened
kind_owed close encryption (says.Opened e n t s l) c = sealed_owed close t c
kind_owed close encryption says.Setting c = noneWaits
kind_owed close encryption says.Reply c = noneWaits
kind_owed close encryption says.End c = noneWaits
kind_owed close encryption says.Incomplete c = noneWaits
kind_owed close encryption says.TooMany c = noneWaits
kind_owed close encryption (says.Dropped r) c = noneWaits
kind_owed close encryption (says.Mask e s) c = noneWaits
kind_owed close encryption (says.Opening e n s h l) c = noneWaits

unfoldable pub reading_owed : Option Place → Bool → Reading → List ℕ → Verdict
reading_owed close encryption r c = choose (is_past close (place_of r)) beyond (kind_owed close encryption r c)

-- a verdict, and the bytes that go with it
pub record Reply : Type 0 where
  pub verdict : Verdict
  pub content : List ℕ

abbrev pub bare : Verdict → Reply
bare v = record { verdict = v; content = [] }

abbrev pub owed_by : Option Place → Bool → Option Pending → Reply
owed_by close encryption none = bare noneWaits
owed_by close encryption (some p) = record { verdict = reading_owed close encryption p.reading p.shown; content = p.shown }

abbrev pub owed : Account → Bool → Reply
owed a encryption = owed_by a.close encryption a.pending

-- ---- the account behind a call

-- a reading is told: it waits, and one that was not dealt with is left behind
abbrev pub waits : Account → Reading → List ℕ → Account
waits a r c = record { pending = some (record { reading = r; shown = c; serial = suc a.made }); close = a.close; made = suc a.made; turns = a.turns }

abbrev pub forgets : Account → Account
forgets a = record { pending = none; close = a.close; made = a.made; turns = a.turns }

-- behind a call that told this; refused (12, 15), nothing has changed
abbrev pub hears : Account → Reading → List ℕ → Account
hears a (says.Plaintext t n s l) c = waits a (says.Plaintext t n s l) c
hears a (says.Unopened b n s l) c = waits a (says.Unopened b n s l) c
hears a (says.Opened e n t s l) c = waits a (says.Opened e n t s l) c
hears a says.Setting c = a
hears a says.Reply c = a
hears a says.End c = forgets a
hears a says.Incomplete c = forgets a
hears a says.TooMany c = forgets a
hears a (says.Dropped r) c = forgets a
hears a (says.Mask e s) c = forgets a
hears a (says.Opening e n s h l) c = forgets a

-- a datagram begun
abbrev pub begins : Account → Account
begins a = record { pending = none; close = a.close; made = a.made; turns = 0 }

-- "remembers its place"
abbrev pub close_by : Verdict → Reading → Option Place → Option Place
close_by closes r close = some (place_of r)
close_by (turned n) r close = close
close_by noneWaits r close = close
close_by beyond r close = close
close_by unprotected r close = close
close_by ignored r close = close
close_by marks r close = close
close_by (tells x) r close = close
close_by handshake r close = close
close_by application_data r close = close
close_by other r close = close
close_by unopened r close = close

-- a reading dealt with: one turn
abbrev pub deals_by : Account → Option Pending → Verdict → Account
deals_by a none v = a
deals_by a (some p) v = record { pending = none; close = close_by v p.reading a.close; made = a.made; turns = suc a.turns }

abbrev pub deals : Account → Bool → Account
deals a encryption = deals_by a a.pending (owed a encryption).verdict
