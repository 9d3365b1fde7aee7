-- A receiving end and its history: the real state and the begun datagram's bytes, as the last call left them, and what the claim speaks of,
-- written from the host's arguments, the bytes as they arrived and the answers that the host sees.
use Rattle.std.specs.Prelude.{ℕ, suc, ◌+◌, ◌%◌, ltb, leb, eqb, length, get_or, drop, Bool, true, false, List, [], ◌∷◌, Some, None}
use Rattle.std.proofs.Math.Option.{Option, none, some}
use Rattle.base.specs.Choose.{choose}
use Rattle.base.specs.Parts.{part, splice}
use Rattle.classify.specs.Classify.{finished}
use Rattle.datagram.specs.declared.Reading.TheVariants as says
use Rattle.datagram.specs.declared.Reading.{Reading}
use Rattle.opening_reply.specs.Opening.{shown_by, Opening}
use Rattle.recv_keys.specs.Keys.{entry_at, find, Found}
use Rattle.recv_keys.specs.declared.RecvKeys.{RecvKeys}
use Rattle.receiving.specs.Receiving.{answer_number, fresh_of, key_of, remove_of, encrypt_of, release_of, begin_of, read_of, mask_of, opened_of}
use Rattle.receiving.specs.declared.Read.{Read}
use Rattle.receiving.specs.declared.Receiving.{Receiving}
use Rattle.window.specs.Window.{verdict}
use Rattle.window.specs.declared.Verdict.{Verdict}
use Rattle.history_theorem.specs.Account.{upd, Shown, nothing, a_mask, an_opening, Account, new_account, is_in, without, key_owed, keys, resolves_to, record_size, good_plain}

-- ---- what the history holds

-- a record as the far end sealed it: number, type and content; the header that the cipher saw, what the cipher made of content and type,
-- and the record's bytes as they lay sealed and masked in the queue
pub record Sealed : Type 0 where
  pub num : ℕ
  pub type : ℕ
  pub content : List ℕ
  pub header : List ℕ
  pub cipher : List ℕ
  pub wire : List ℕ

-- a record handed over: a reading that says opened
pub record Handed : Type 0 where
  pub num : ℕ
  pub type : ℕ
  pub content : List ℕ

-- the moment at which the cut came to a record, all from the claim's own account and the datagram as it arrived, whatever calls wrote into it
-- since: its bytes from the record's first one on, where the record ends, whether it is a plaintext record in order, the readings before, peer
-- encryption, the epoch that its bits resolve to, the numbers used and the records sealed by then
pub record Trial : Type 0 where
  pub rest : List ℕ
  pub ends : ℕ
  pub plain : Bool
  pub count : ℕ
  pub encrypted : Bool
  pub resolved : Option ℕ
  pub used : ℕ → List ℕ
  pub sealed : ℕ → List Sealed

-- a record whose questions were all answered: how the cut came to it, what was said of it in the end, and the bytes which that shows
pub record Tried : Type 0 where
  pub trial : Trial
  pub reading : Reading
  pub shown : List ℕ

-- a reading call: what the host did, the question that waited, the IVs and the numbers used by then, and the answer; where the cut stood, the
-- bytes that arrived from there on, and the bytes of the datagram as they were lent and left
pub data Deed : Type 0 where
  a_read : Deed
  a_mask_reply : List ℕ → Deed
  an_open_reply : Opening → Deed

pub record Spoken : Type 0 where
  pub deed : Deed
  pub waited : Shown
  pub resolved : Option ℕ
  pub ivs : ℕ → List ℕ
  pub used : ℕ → List ℕ
  pub reading : Reading
  pub nonce : List ℕ
  pub place : ℕ
  pub rest : List ℕ
  pub lent : List ℕ
  pub left : List ℕ

-- a record whose question went with the removal of an epoch
pub record Lost : Type 0 where
  pub trial : Trial
  pub epoch : ℕ

pub record Receiver : Type 0 where
  pub state : Receiving
  -- the begun datagram's bytes, as the last call left them and as they arrived
  pub datagram : List ℕ
  pub arrived : List ℕ
  pub account : Account
  -- by epoch: the numbers used, the records handed over, the last first
  pub used : ℕ → List ℕ
  pub handed : ℕ → List Handed
  -- the record under way, those settled, the reading calls, the records lost
  pub trial : Option Trial
  pub tried : List Tried
  pub spoken : List Spoken
  pub lost : List Lost

-- ---- calls that read nothing

abbrev pub with_state : Receiver → Receiving → Account → Receiver
with_state y s a = record {
  state = s;
  datagram = y.datagram;
  arrived = y.arrived;
  account = a;
  used = y.used;
  handed = y.handed;
  trial = y.trial;
  tried = y.tried;
  spoken = y.spoken;
  lost = y.lost;
}

abbrev pub flagged : Account → Bool → Bool → Account
flagged a encryption released = record {
  keyed = a.keyed;
  highest = a.highest;
  ivs = a.ivs;
  encryption = encryption;
  released = released;
  place = a.place;
  readings = a.readings;
  waits = a.waits;
}

-- a question is shown; the cut goes on with none
abbrev pub asks : Account → Shown → Account
asks a w = record {
  keyed = a.keyed;
  highest = a.highest;
  ivs = a.ivs;
  encryption = a.encryption;
  released = a.released;
  place = a.place;
  readings = a.readings;
  waits = w;
}

abbrev pub goes_to : Account → ℕ → ℕ → Account
goes_to a place readings = record {
  keyed = a.keyed;
  highest = a.highest;
  ivs = a.ivs;
  encryption = a.encryption;
  released = a.released;
  place = place;
  readings = readings;
  waits = nothing;
}

abbrev pub unkeyed : Account → ℕ → Account
unkeyed a e = record {
  keyed = without e a.keyed;
  highest = a.highest;
  ivs = a.ivs;
  encryption = a.encryption;
  released = a.released;
  place = a.place;
  readings = a.readings;
  waits = a.waits;
}

-- the record under way is lost and the cut goes on behind it
abbrev pub loses : Receiver → Receiving → ℕ → Trial → Receiver
loses y s e t = record {
  state = s;
  datagram = y.datagram;
  arrived = y.arrived;
  account = goes_to (unkeyed y.account e) t.ends y.account.readings;
  used = y.used;
  handed = y.handed;
  trial = none;
  tried = y.tried;
  spoken = y.spoken;
  lost = record { trial = t; epoch = e } ∷ y.lost;
}

abbrev pub is_the : Option ℕ → ℕ → Bool
is_the none e = false
is_the (some k) e = eqb k e

-- "removing its epoch cancels it": only the record whose bits resolved to the epoch loses its question
unfoldable pub removed_from : Receiver → Receiving → ℕ → Option Trial → Receiver
removed_from y s e none = with_state y s (unkeyed y.account e)
removed_from y s e (some t) = choose (is_the t.resolved e) (loses y s e t) (with_state y s (unkeyed y.account e))

-- 13 for an epoch that is not keyed
unfoldable pub removed : Receiver → ℕ → Receiver
removed y e =
    choose (is_in e y.account.keyed) (removed_from y (remove_of y.state e).state e y.trial)
    (with_state y (remove_of y.state e).state y.account)

-- the number that removing is told: that 13; 6 where the record under way loses its question by it; else 0
abbrev pub loses_owed : Option Trial → ℕ → ℕ
loses_owed none e = 0
loses_owed (some t) e = choose (is_the t.resolved e) 6 0

unfoldable pub remove_owed : Receiver → ℕ → ℕ
remove_owed y e = choose (is_in e y.account.keyed) (loses_owed y.trial e) 13

abbrev pub starts_on : Receiver → Receiving → List ℕ → Receiver
starts_on y s d = record {
  state = s;
  datagram = d;
  arrived = d;
  account = goes_to y.account 0 0;
  used = y.used;
  handed = y.handed;
  trial = none;
  tried = y.tried;
  spoken = y.spoken;
  lost = y.lost;
}

-- 1: over 16,384 bytes; the earlier datagram and its question live on
unfoldable pub begun : Receiver → List ℕ → Receiver
begun y d =
    choose (ltb 16384 (length d)) (with_state y (begin_of y.state (length d)).state y.account)
    (starts_on y (begin_of y.state (length d)).state d)

-- the number that beginning is told: that 1, else 0
unfoldable pub begin_owed : List ℕ → ℕ
begin_owed d = choose (ltb 16384 (length d)) 1 0

-- the rest of the begun datagram, as it arrived, is left; where a question waits nothing is
abbrev pub leaves_rest : Account → ℕ → Shown → Account
leaves_rest a size nothing = goes_to a size a.readings
leaves_rest a size (a_mask e p) = a
leaves_rest a size (an_opening e n at head body) = a

abbrev pub finishes : Receiver → Receiver
finishes y = with_state y (finished y.state) (leaves_rest y.account (length y.arrived) y.account.waits)

-- the host writes from the start of the protected part on, while its opening is asked, and not beyond its end
abbrev pub written_in : Shown → List ℕ → List ℕ → List ℕ
written_in nothing d p = d
written_in (a_mask e at) d p = d
written_in (an_opening e n at head body) d p = choose (leb (length p) (length body)) (splice (at + length head) p d) d

abbrev pub wrote : Receiver → List ℕ → Receiver
wrote y p = record {
  state = y.state;
  datagram = written_in y.account.waits y.datagram p;
  arrived = y.arrived;
  account = y.account;
  used = y.used;
  handed = y.handed;
  trial = y.trial;
  tried = y.tried;
  spoken = y.spoken;
  lost = y.lost;
}

-- ---- calls that read

-- what a reading call leaves: the state, the datagram's bytes, and the answer
pub record Out : Type 0 where
  pub state : Receiving
  pub datagram : List ℕ
  pub reading : Reading
  pub nonce : List ℕ

abbrev pub out_of : Read → List ℕ → Out
out_of r d = record { state = r.state; datagram = d; reading = r.reading; nonce = r.nonce }

-- what an answer means for the record that the cut came to: refused (12, 15), a question that leaves it under way, or settled
pub data Fate : Type 0 where
  turnedDown underway settled : Fate

abbrev pub fate_of : Reading → Fate
fate_of says.Setting = turnedDown
fate_of says.Reply = turnedDown
fate_of (says.Mask e s) = underway
fate_of (says.Opening e n s h l) = underway
fate_of says.End = settled
fate_of says.Incomplete = settled
fate_of says.TooMany = settled
fate_of (says.Dropped r) = settled
fate_of (says.Plaintext t n s l) = settled
fate_of (says.Unopened b n s l) = settled
fate_of (says.Opened e n t s l) = settled

-- "Handed over: read as opened"; the content is the part of the datagram that the reading shows
abbrev pub handed_by : Reading → List ℕ → (ℕ → List Handed) → ℕ → List Handed
handed_by (says.Opened e n t s l) shown f = upd f e (record { num = n; type = t; content = shown } ∷ f e)
handed_by says.Setting shown f = f
handed_by says.Reply shown f = f
handed_by says.End shown f = f
handed_by says.Incomplete shown f = f
handed_by says.TooMany shown f = f
handed_by (says.Dropped r) shown f = f
handed_by (says.Plaintext t n s l) shown f = f
handed_by (says.Unopened b n s l) shown f = f
handed_by (says.Mask e s) shown f = f
handed_by (says.Opening e n s h l) shown f = f

-- the question that an answer shows, over the datagram as it then lies
abbrev pub question_in : Reading → List ℕ → Shown
question_in (says.Mask e s) d = a_mask e s
question_in (says.Opening e n s h l) d = an_opening e n s (part s h d) (part (s + h) l d)
question_in says.Setting d = nothing
question_in says.Reply d = nothing
question_in says.End d = nothing
question_in says.Incomplete d = nothing
question_in says.TooMany d = nothing
question_in (says.Dropped r) d = nothing
question_in (says.Plaintext t n s l) d = nothing
question_in (says.Unopened b n s l) d = nothing
question_in (says.Opened e n t s l) d = nothing

-- plaintext, unopened and opened are readings; "A dropped record is no reading"
abbrev pub readings_by : Reading → ℕ → ℕ
readings_by (says.Plaintext t n s l) k = k + 1
readings_by (says.Unopened b n s l) k = k + 1
readings_by (says.Opened e n t s l) k = k + 1
readings_by says.Setting k = k
readings_by says.Reply k = k
readings_by says.End k = k
readings_by says.Incomplete k = k
readings_by says.TooMany k = k
readings_by (says.Dropped r) k = k
readings_by (says.Mask e s) k = k
readings_by (says.Opening e n s h l) k = k

-- the cut goes on where the record ends; a seventeenth reading (3), after sixteen, ends the datagram
abbrev pub place_by : Reading → ℕ → ℕ → ℕ → ℕ
place_by says.TooMany readings size ends = choose (leb 16 readings) size ends
place_by (says.Plaintext t n s l) readings size ends = ends
place_by (says.Unopened b n s l) readings size ends = ends
place_by (says.Opened e n t s l) readings size ends = ends
place_by says.Setting readings size ends = ends
place_by says.Reply readings size ends = ends
place_by says.End readings size ends = ends
place_by says.Incomplete readings size ends = ends
place_by (says.Dropped r) readings size ends = ends
place_by (says.Mask e s) readings size ends = ends
place_by (says.Opening e n s h l) readings size ends = ends

-- "A number is used, and a record accepted, when its opening got yes in a reply not refused": the number that the question showed
pub data Use : Type 0 where
  unused : Use
  uses : ℕ → ℕ → Use

abbrev pub use_by : Fate → Use → Use
use_by turnedDown u = unused
use_by underway u = u
use_by settled u = u

abbrev pub use_of : Shown → Opening → Fate → Use
use_of w None f = unused
use_of nothing (Some l) f = unused
use_of (a_mask e p) (Some l) f = unused
use_of (an_opening e n at head body) (Some l) f = use_by f (uses e n)

abbrev pub spent : Use → (ℕ → List ℕ) → ℕ → List ℕ
spent unused f = f
spent (uses e n) f = upd f e (n ∷ f e)

abbrev pub accepts : Use → Bool
accepts unused = false
accepts (uses e n) = true

-- ---- the history behind a reading call

abbrev pub next_trial : Fate → Option Trial → Option Trial → Option Trial
next_trial turnedDown old t = old
next_trial underway old t = t
next_trial settled old t = none

abbrev pub settled_as : Reading → List ℕ → Option Trial → List Tried → List Tried
settled_as r shown none ts = ts
settled_as r shown (some t) ts = record { trial = t; reading = r; shown = shown } ∷ ts

abbrev pub next_tried : Fate → Reading → List ℕ → Option Trial → List Tried → List Tried
next_tried turnedDown r shown t ts = ts
next_tried underway r shown t ts = ts
next_tried settled r shown t ts = settled_as r shown t ts

abbrev pub settled_at : Account → Reading → ℕ → Option Trial → Account
settled_at a r size none = asks a nothing
settled_at a r size (some t) = goes_to a (place_by r a.readings size t.ends) (readings_by r a.readings)

abbrev pub next_account : Fate → Account → Reading → ℕ → Option Trial → Shown → Account
next_account turnedDown a r size t w = a
next_account underway a r size t w = asks a w
next_account settled a r size t w = settled_at a r size t

-- "Reached: the cut comes to its first byte": the rest of the datagram from there on, as it arrived
abbrev pub rest_of : Receiver → List ℕ
rest_of y = drop y.account.place y.arrived

-- the epoch that the bits of the record under way resolved to as the cut came to it
abbrev pub resolved_in : Option Trial → Option ℕ
resolved_in none = none
resolved_in (some t) = t.resolved

abbrev pub spoken_by : Receiver → Deed → Out → Spoken
spoken_by y deed o = record {
  deed = deed;
  waited = y.account.waits;
  resolved = resolved_in y.trial;
  ivs = y.account.ivs;
  used = y.used;
  reading = o.reading;
  nonce = o.nonce;
  place = y.account.place;
  rest = rest_of y;
  lent = y.datagram;
  left = o.datagram;
}

-- t is the record that the call deals with, u the number it uses, w the question that waits where the record stays under way
abbrev pub after : Receiver → Out → Option Trial → Use → Shown → Deed → Receiver
after y o t u w deed = record {
  state = o.state;
  datagram = o.datagram;
  arrived = y.arrived;
  account = next_account (fate_of o.reading) y.account o.reading (length y.arrived) t w;
  used = spent u y.used;
  handed = handed_by o.reading (shown_by o.reading o.datagram) y.handed;
  trial = next_trial (fate_of o.reading) y.trial t;
  tried = next_tried (fate_of o.reading) o.reading (shown_by o.reading o.datagram) t y.tried;
  spoken = spoken_by y deed o ∷ y.spoken;
  lost = y.lost;
}

abbrev pub reached : Receiver → (ℕ → List Sealed) → Trial
reached y sealed = record {
  rest = rest_of y;
  ends = y.account.place + record_size (rest_of y);
  plain = good_plain (rest_of y);
  count = y.account.readings;
  encrypted = y.account.encryption;
  resolved = resolves_to y.account (get_or (rest_of y) 0 0 % 4);
  used = y.used;
  sealed = sealed;
}

-- a read comes to a new record only where no question waits; else that record and the question first shown stay
abbrev pub comes_to : Shown → Option Trial → Trial → Option Trial
comes_to nothing old t = some t
comes_to (a_mask e p) old t = old
comes_to (an_opening e n at head body) old t = old

abbrev pub keeps_shown : Shown → Shown → Shown
keeps_shown nothing w = w
keeps_shown (a_mask e p) w = a_mask e p
keeps_shown (an_opening e n at head body) w = an_opening e n at head body

abbrev pub read_by : Receiver → (ℕ → List Sealed) → Shown → Out → Receiver
read_by y sealed q o = after y o (comes_to q y.trial (reached y sealed)) unused (keeps_shown q (question_in o.reading o.datagram)) a_read

-- what a read answers
abbrev pub read_to : Read → List ℕ → Out
read_to r d = out_of r d

abbrev pub read_out : Receiving → List ℕ → Out
read_out s d = read_to (read_of s d) d

unfoldable pub after_read : Receiver → (ℕ → List Sealed) → Receiver
after_read y sealed = read_by y sealed y.account.waits (read_out y.state y.datagram)

abbrev pub mask_by : Receiver → List ℕ → Out → Receiver
mask_by y m o = after y o y.trial unused (question_in o.reading o.datagram) (a_mask_reply m)

abbrev pub masked_to : Read × List ℕ → Out
masked_to p = out_of p.0 p.1

abbrev pub mask_out : Receiving → List ℕ → List ℕ → Out
mask_out s m d = masked_to (mask_of s m d)

unfoldable pub after_mask : Receiver → List ℕ → Receiver
after_mask y m = mask_by y m (mask_out y.state m y.datagram)

abbrev pub open_out : Receiving → Opening → List ℕ → Out
open_out s o d = out_of (opened_of s o d) d

abbrev pub open_by : Receiver → Opening → Out → Receiver
open_by y p o = after y o y.trial (use_of y.account.waits p (fate_of o.reading)) (question_in o.reading o.datagram) (an_open_reply p)

unfoldable pub after_open : Receiver → Opening → Receiver
after_open y p = open_by y p (open_out y.state p y.datagram)

-- the number that an opening reply uses
abbrev pub use_in : Receiver → Opening → Use
use_in y p = use_of y.account.waits p (fate_of (opened_of y.state p y.datagram).reading)

-- ---- windows, and calls over other bytes

-- the verdict on a number in an epoch: none where it is not keyed
abbrev pub verdict_by : Found → RecvKeys → ℕ → Option Verdict
verdict_by None k n = none
verdict_by (Some i) k n = some (verdict (entry_at k i).replay n)

unfoldable pub verdict_of : RecvKeys → ℕ → ℕ → Option Verdict
verdict_of k e n = verdict_by (find k.entries e k.count) k n

-- what a call that reads a datagram did to the windows: the datagram, the number used, the keys before and behind it
pub record Move : Type 0 where
  pub datagram : ℕ
  pub spends : Use
  pub before : RecvKeys
  pub behind : RecvKeys

-- a reading call over bytes of another length than the begun datagram's: the answer, the state before and behind it, the bytes lent and left
pub record Stray : Type 0 where
  pub reading : Reading
  pub before : Receiving
  pub behind : Receiving
  pub lent : List ℕ
  pub left : List ℕ

-- keying, removing, peer encryption, release, beginning: 01's number of the program's answer, 0 where it is done, and the number that is owed by the
-- claim's account
pub record Told : Type 0 where
  pub answer : ℕ
  pub owed : ℕ

pub record Inbound : Type 0 where
  pub into : Receiver
  -- the begun datagram's serial number and the last one given: a begin that is refused has one of its own
  pub serial : ℕ
  pub last_serial : ℕ
  pub moves : List Move
  pub strays : List Stray
  pub told : List Told

-- ---- the calls

pub data Call : Type 0 where
  -- keying with an IV, removing, peer encryption, release
  key· : ℕ → List ℕ → Call
  remove· : ℕ → Call
  encrypt· release· : Call
  -- a datagram arrives; one record is read; the host's mask; what the host writes into the part lent; no, or yes with a length
  begin· : List ℕ → Call
  read· : Call
  mask· : List ℕ → Call
  write· : List ℕ → Call
  open· : Opening → Call
  -- the same three over bytes of another length
  read_over· : List ℕ → Call
  mask_over· : List ℕ → List ℕ → Call
  open_over· : Opening → List ℕ → Call
  -- the host is told an alert: what is left of the datagram is not read ("ends the datagram", 02, 3), unless a question waits
  finish· : Call

abbrev pub takes : Inbound → Receiver → Inbound
takes e y = record { into = y; serial = e.serial; last_serial = e.last_serial; moves = e.moves; strays = e.strays; told = e.told }

-- the same with the number that it is told and the number owed
abbrev pub tells : Inbound → Receiver → ℕ → ℕ → Inbound
tells e y n owed = record {
  into = y;
  serial = e.serial;
  last_serial = e.last_serial;
  moves = e.moves;
  strays = e.strays;
  told = record { answer = n; owed = owed } ∷ e.told;
}

abbrev pub logs : Inbound → Receiver → ℕ → Use → Inbound
logs e y k u = record {
  into = y;
  serial = e.serial;
  last_serial = e.last_serial;
  moves = record { datagram = k; spends = u; before = e.into.state.keys; behind = y.state.keys } ∷ e.moves;
  strays = e.strays;
  told = e.told;
}

abbrev pub begins : Inbound → List ℕ → Inbound
begins e d = record {
  into = begun e.into d;
  serial = choose (ltb 16384 (length d)) e.serial (suc e.last_serial);
  last_serial = suc e.last_serial;
  moves =
      record { datagram = suc e.last_serial; spends = unused; before = e.into.state.keys; behind = (begun e.into d).state.keys } ∷ e.moves;
  strays = e.strays;
  told = record { answer = answer_number (begin_of e.into.state (length d)).answer; owed = begin_owed d } ∷ e.told;
}

abbrev pub strays : Inbound → List ℕ → Out → Inbound
strays e d o = record {
  into = with_state e.into o.state e.into.account;
  serial = e.serial;
  last_serial = e.last_serial;
  moves = e.moves;
  strays = record { reading = o.reading; before = e.into.state; behind = o.state; lent = d; left = o.datagram } ∷ e.strays;
  told = e.told;
}

-- one call, the far end having sealed these records by then
abbrev pub does : (ℕ → List Sealed) → Inbound → Call → Inbound
does sealed e (key· k iv) =
    tells e (with_state e.into (key_of e.into.state k iv).state (keys e.into.account k iv))
    (answer_number (key_of e.into.state k iv).answer) (key_owed e.into.account k)
does sealed e (remove· k) = tells e (removed e.into k) (answer_number (remove_of e.into.state k).answer) (remove_owed e.into k)
does sealed e encrypt· =
    tells e (with_state e.into (encrypt_of e.into.state).state (flagged e.into.account true e.into.account.released))
    (answer_number (encrypt_of e.into.state).answer) 0
does sealed e release· =
    tells e (with_state e.into (release_of e.into.state).state (flagged e.into.account e.into.account.encryption true))
    (answer_number (release_of e.into.state).answer) 0
does sealed e (begin· d) = begins e d
does sealed e read· = logs e (after_read e.into sealed) e.serial unused
does sealed e (mask· m) = logs e (after_mask e.into m) e.serial unused
does sealed e (write· p) = takes e (wrote e.into p)
does sealed e (open· p) = logs e (after_open e.into p) e.serial (use_in e.into p)
does sealed e (read_over· d) = strays e d (read_out e.into.state d)
does sealed e (mask_over· m d) = strays e d (mask_out e.into.state m d)
does sealed e (open_over· p d) = strays e d (open_out e.into.state p d)
does sealed e finish· = logs e (finishes e.into) e.serial unused

-- ---- a fresh end: nothing keyed, begun or asked

abbrev pub new_inbound : ℕ → Inbound
new_inbound min = record {
  into = record {
    state = (fresh_of min).state;
    datagram = [];
    arrived = [];
    account = new_account;
    used = λ e. [];
    handed = λ e. [];
    trial = none;
    tried = [];
    spoken = [];
    lost = [];
  };
  serial = 0;
  last_serial = 0;
  moves = [];
  strays = [];
  told = [];
}
