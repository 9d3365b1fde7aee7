-- Two ends that talk: each sends, receives, deals with its readings and puts handshake messages together, and each call gets state, queue, flight and
-- datagram as the last call at its end left them, refused or not.
use Rattle.std.specs.Prelude.{ℕ, eqb, length, List, [], ◌∷◌, ◌++◌, Some, None, Ok, Err}
use Rattle.std.proofs.Math.Option.{Option, none, some}
use Rattle.base.specs.Choose.{choose}
use Rattle.send_keys.specs.declared.SendKeys.{SendKeys}
use Rattle.sealing.specs.Sealing.{Asked, question_of}
use Rattle.taking.specs.Take.{take_answer, take_buffer}
use Rattle.waiting_laws.specs.Answers.{answered}
use Rattle.waiting_laws.specs.Calls.{Stores, SendCall, key_send·, send·, save·, message·, begin_flight·, resend·, note·, send_ack·, ack·, fill·, sealed·, take·, stored, lending, Short, Reply}
use Rattle.history_theorem.specs.Claim.{Masks, FairCall, OtherLength}
use Rattle.history_theorem.specs.Receiver.{Inbound, new_inbound, Call, key·, remove·, encrypt·, release·, begin·, read·, mask·, write·, open·, read_over·, mask_over·, open_over·, finish·, does}
use Rattle.assembly_theorem.specs.Claim as assembly
use Rattle.classify.specs.declared.Class.{Class}
use Rattle.classify.specs.declared.Class.TheVariants as class
use Rattle.classify.specs.Classify.{content_of}
use Rattle.classify_theorem.specs.Account.{Verdict, turned, noneWaits, beyond, unprotected, ignored, marks, closes, tells, handshake, application_data, other, unopened, owed as reading_owed}
use Rattle.classify_theorem.specs.Claim as classify
use Rattle.ends_theorem.specs.Flights.{FairNames}
use Rattle.ends_theorem.specs.Ledger.{Kept, Ledger, new_ledger, owed, after, sent_by, short_reply, clears}
use Rattle.ends_theorem.specs.Sender.{Sender, new_sender, sends, sends_over, FairSend}

pub data Side : Type 0 where
  post gateway : Side

abbrev pub far : Side → Side
far post = gateway
far gateway = post

-- the keys to send, with every next number, before and behind a call that reads the datagram with this serial number
pub record Count : Type 0 where
  pub datagram : ℕ
  pub before : SendKeys
  pub behind : SendKeys

-- what a sending call was answered, and what the claim's account owes it
pub record Said : Type 0 where
  pub reply : Reply
  pub owed : Reply

-- a take: what it was answered, and the host's buffer before and behind it
pub record Took : Type 0 where
  pub reply : Reply
  pub before : List ℕ
  pub behind : List ℕ

-- a call over memory that is too short: that memory before and behind it
pub record Over : Type 0 where
  pub queue : List ℕ
  pub queue' : List ℕ
  pub kept : List ℕ
  pub kept' : List ℕ

-- the MTU and the queue's limit it was created with, what it sends, the claim's account of it, what its calls were answered, the saved records that
-- went with a flight which an ACK emptied, what it receives, the counts of its readings, what it did with these, and its reassembly
pub record End : Type 0 where
  pub mtu : ℕ
  pub limit : ℕ
  pub out : Sender
  pub ledger : Ledger
  pub said : List Said
  pub took : List Took
  pub overs : List Over
  -- what the host wrote last into the part lent for the sealing that is asked
  pub given : Option (List ℕ)
  pub cleared : List Kept
  pub into : Inbound
  pub counts : List Count
  pub dealings : classify.Dealings
  pub pieces : assembly.Piecing

-- a sending call over this end's own memory, or over other memory that is too short; a receiving call; a call of reassembly; the reading that waits is
-- dealt with, over the begun datagram, or over bytes of another length
pub data Deed : Type 0 where
  sending : SendCall → Deed
  over : SendCall → List ℕ → List ℕ → Deed
  receiving : Call → Deed
  piecing : assembly.PieceCall → Deed
  dealing : Deed
  dealing_over : List ℕ → Deed

pub record Event : Type 0 where
  pub side : Side
  pub deed : Deed

abbrev pub World : Type 0
World = Side → End

-- ---- one call

-- the datagram that a receiving call reads, if it reads one: a begin gives a serial number
abbrev pub counted : End → End → ℕ → List Count
counted e e' k = record { datagram = k; before = e.out.stores.state.keys; behind = e'.out.stores.state.keys } ∷ e.counts

abbrev pub takes_in : End → Inbound → List Count → classify.Dealings → End
takes_in e i cs p = record {
  mtu = e.mtu;
  limit = e.limit;
  out = e.out;
  ledger = e.ledger;
  said = e.said;
  took = e.took;
  overs = e.overs;
  given = e.given;
  cleared = e.cleared;
  into = i;
  counts = cs;
  dealings = p;
  pieces = e.pieces;
}

-- other pieces, and nothing else
abbrev pub puts : End → assembly.Piecing → End
puts e p = record {
  mtu = e.mtu;
  limit = e.limit;
  out = e.out;
  ledger = e.ledger;
  said = e.said;
  took = e.took;
  overs = e.overs;
  given = e.given;
  cleared = e.cleared;
  into = e.into;
  counts = e.counts;
  dealings = e.dealings;
  pieces = p;
}

-- other dealings, and nothing else
abbrev pub files : End → classify.Dealings → End
files e p = record {
  mtu = e.mtu;
  limit = e.limit;
  out = e.out;
  ledger = e.ledger;
  said = e.said;
  took = e.took;
  overs = e.overs;
  given = e.given;
  cleared = e.cleared;
  into = e.into;
  counts = e.counts;
  dealings = p;
  pieces = e.pieces;
}

abbrev pub counts_by : End → End → Call → List Count
counts_by e e' (key· k iv) = e.counts
counts_by e e' (remove· k) = e.counts
counts_by e e' encrypt· = e.counts
counts_by e e' release· = e.counts
counts_by e e' (begin· d) = counted e e' e'.into.last_serial
counts_by e e' read· = counted e e' e.into.serial
counts_by e e' (mask· m) = counted e e' e.into.serial
counts_by e e' (write· p) = e.counts
counts_by e e' (open· p) = counted e e' e.into.serial
counts_by e e' (read_over· d) = counted e e' e.into.serial
counts_by e e' (mask_over· m d) = counted e e' e.into.serial
counts_by e e' (open_over· p d) = counted e e' e.into.serial
counts_by e e' finish· = counted e e' e.into.serial

-- the host's writing is given, until a sealing reply is accepted
abbrev pub given_in : Asked → List ℕ → Option (List ℕ) → Option (List ℕ)
given_in (Ok (Some x)) v o = choose (eqb (length v) x.length) (some v) o
given_in (Ok None) v o = o
given_in (Err x) v o = o

abbrev pub given_by : Stores → Reply → SendCall → Option (List ℕ) → Option (List ℕ)
given_by w r (key_send· e iv) o = o
given_by w r (send· e t x) o = o
given_by w r (save· e t x) o = o
given_by w r (message· kind body) o = o
given_by w r begin_flight· o = o
given_by w r resend· o = o
given_by w r (note· e n) o = o
given_by w r send_ack· o = o
given_by w r (ack· d) o = o
given_by w r (fill· v) o = given_in (question_of w.state) v o
given_by w r (sealed· n m) o = choose (eqb r.number 0) none o
given_by w r (take· b) o = o

abbrev pub took_by : Stores → SendCall → List Took → List Took
took_by w (key_send· e iv) ts = ts
took_by w (send· e t x) ts = ts
took_by w (save· e t x) ts = ts
took_by w (message· kind body) ts = ts
took_by w begin_flight· ts = ts
took_by w resend· ts = ts
took_by w (note· e n) ts = ts
took_by w send_ack· ts = ts
took_by w (ack· d) ts = ts
took_by w (fill· v) ts = ts
took_by w (sealed· n m) ts = ts
took_by w (take· b) ts =
    record { reply = answered w (take· b); before = b; behind = take_buffer (take_answer w.state (length w.queue) (length b)) w.state w.queue b } ∷ ts

abbrev pub over_of : Stores → List ℕ → List ℕ → SendCall → Over
over_of w q k c = record { queue = q; queue' = (stored (lending w q k) c).queue; kept = k; kept' = (stored (lending w q k) c).kept }

-- the host's own writing is no call
abbrev pub overs_by : Stores → List ℕ → List ℕ → SendCall → List Over → List Over
overs_by w q k (fill· v) os = os
overs_by w q k (key_send· e iv) os = over_of w q k (key_send· e iv) ∷ os
overs_by w q k (send· e t x) os = over_of w q k (send· e t x) ∷ os
overs_by w q k (save· e t x) os = over_of w q k (save· e t x) ∷ os
overs_by w q k (message· kind body) os = over_of w q k (message· kind body) ∷ os
overs_by w q k begin_flight· os = over_of w q k begin_flight· ∷ os
overs_by w q k resend· os = over_of w q k resend· ∷ os
overs_by w q k (note· e n) os = over_of w q k (note· e n) ∷ os
overs_by w q k send_ack· os = over_of w q k send_ack· ∷ os
overs_by w q k (ack· d) os = over_of w q k (ack· d) ∷ os
overs_by w q k (sealed· n m) os = over_of w q k (sealed· n m) ∷ os
overs_by w q k (take· b) os = over_of w q k (take· b) ∷ os

-- a sending call: the records that the account then has as sent go into the books
abbrev pub sends_as : End → SendCall → End
sends_as e c = record {
  mtu = e.mtu;
  limit = e.limit;
  out = sends e.out (sent_by e.ledger c) c;
  ledger = after e.ledger c;
  said = record { reply = answered e.out.stores c; owed = owed e.ledger c } ∷ e.said;
  took = took_by e.out.stores c e.took;
  overs = e.overs;
  given = given_by e.out.stores (owed e.ledger c) c e.given;
  cleared = clears e.ledger c ++ e.cleared;
  into = e.into;
  counts = e.counts;
  dealings = e.dealings;
  pieces = e.pieces;
}

abbrev pub sends_over_as : End → SendCall → List ℕ → List ℕ → End
sends_over_as e c q k = record {
  mtu = e.mtu;
  limit = e.limit;
  out = sends_over e.out c q k;
  ledger = e.ledger;
  said = record { reply = answered (lending e.out.stores q k) c; owed = short_reply c } ∷ e.said;
  took = took_by (lending e.out.stores q k) c e.took;
  overs = overs_by e.out.stores q k c e.overs;
  given = e.given;
  cleared = e.cleared;
  into = e.into;
  counts = e.counts;
  dealings = e.dealings;
  pieces = e.pieces;
}

-- a receiving call: the readings that it tells wait to be dealt with
abbrev pub hears_as : End → End → Call → End
hears_as far-end e c =
    let i = does far-end.out.sealed e.into c in
    takes_in e i (counts_by e (takes_in e i e.counts e.dealings) c) (classify.listens e.into c e.dealings)

-- what a reading dealt with does besides: an ACK is acted on as by the call for it, an alert that is told ends the datagram
abbrev pub follows : End → End → Class → List ℕ → End
follows far-end e class.Ack c = sends_as e (ack· c)
follows far-end e (class.Alert x) c = hears_as far-end e finish·
follows far-end e class.Setting c = e
follows far-end e class.Reply c = e
follows far-end e class.Nothing c = e
follows far-end e class.Beyond c = e
follows far-end e class.Unprotected c = e
follows far-end e class.Ignored c = e
follows far-end e class.Close c = e
follows far-end e class.Handshake c = e
follows far-end e class.ApplicationData c = e
follows far-end e class.Other c = e
follows far-end e class.Unopened c = e

-- by the definition that the contract of the call cites
abbrev pub class_of : End → Class
class_of e = classify.class_at e.dealings e.into.into

abbrev pub content_in : End → List ℕ
content_in e = content_of e.dealings.words e.into.into.datagram

abbrev pub acts : End → End → Deed → End
acts far-end e (sending c) = sends_as e c
acts far-end e (over c q k) = sends_over_as e c q k
acts far-end e (receiving c) = hears_as far-end e c
acts far-end e (piecing c) = puts e (assembly.does e.pieces c)
acts far-end e dealing = files (follows far-end e (class_of e) (content_in e)) (classify.classifies e.dealings e.into.into)
acts far-end e (dealing_over d) = files e (classify.classifies_over e.dealings e.into.into d)

abbrev pub put : Side → End → World → World
put post e w post = e
put post e w gateway = w gateway
put gateway e w post = w post
put gateway e w gateway = e

abbrev pub step : World → Event → World
step w v = put v.side (acts (w (far v.side)) (w v.side) v.deed) w

abbrev pub run : World → List Event → World
run w [] = w
run w (v ∷ vs) = run (step w v) vs

-- ---- the start: each end has its own settings, and lent buffers with any first contents

pub record Setting : Type 0 where
  pub mtu : ℕ
  pub limit : ℕ
  pub min : ℕ
  pub queue : List ℕ
  pub kept : List ℕ

abbrev pub new_end : Setting → End
new_end s = record {
  mtu = s.mtu;
  limit = s.limit;
  out = new_sender s.mtu s.limit s.queue s.kept;
  ledger = new_ledger s.mtu s.limit (length s.kept);
  said = [];
  took = [];
  overs = [];
  given = none;
  cleared = [];
  into = new_inbound s.min;
  counts = [];
  dealings = classify.new_dealings;
  pieces = assembly.new_piecing;
}

abbrev pub fresh-pair : (Side → Setting) → World
fresh-pair settings s = new_end (settings s)

-- ---- what is asked of the hosts

-- a host has no call that leaves the rest of a datagram: it is left where an alert is told, and nowhere else
abbrev pub Called : Call → Type 0 → Type 0
Called finish· T = ⊥
Called (key· k iv) T = T
Called (remove· k) T = T
Called encrypt· T = T
Called release· T = T
Called (begin· d) T = T
Called read· T = T
Called (mask· m) T = T
Called (write· p) T = T
Called (open· p) T = T
Called (read_over· d) T = T
Called (mask_over· m d) T = T
Called (open_over· p d) T = T

-- an ACK acted on is asked the same as by the call for it
abbrev pub FairAck : (Side → Masks) → Side → End → End → List ℕ → Type 0
FairAck masks s far-end e c = FairSend (masks s) e.out (ack· c) × FairNames far-end.into.into.handed (ack· c)

-- of a reading dealt with, by what the account owes it
abbrev pub FairTold : (Side → Masks) → Side → End → End → Verdict → List ℕ → Type 0
FairTold masks s far-end e marks c = FairAck masks s far-end e c
FairTold masks s far-end e (turned n) c = Unit {0}
FairTold masks s far-end e noneWaits c = Unit {0}
FairTold masks s far-end e beyond c = Unit {0}
FairTold masks s far-end e unprotected c = Unit {0}
FairTold masks s far-end e ignored c = Unit {0}
FairTold masks s far-end e closes c = Unit {0}
FairTold masks s far-end e (tells x) c = Unit {0}
FairTold masks s far-end e handshake c = Unit {0}
FairTold masks s far-end e application_data c = Unit {0}
FairTold masks s far-end e other c = Unit {0}
FairTold masks s far-end e unopened c = Unit {0}

-- the mask is "fixed by direction, epoch and the 16 bytes": one function for each sending side; and "every ACK acted on .. named, from
-- epoch 2 up, only records handed over to that end"; other memory than an end's own is lent to it only if too short; a buffer for messages is lent with
-- the bytes of the pieces taken as the last call left them; bytes that are not the begun datagram's have another length
abbrev pub FairDeed : (Side → Masks) → Side → End → End → Deed → Type 0
FairDeed masks s far-end e (sending c) = FairSend (masks s) e.out c × FairNames far-end.into.into.handed c
FairDeed masks s far-end e (over c q k) = Short e.mtu e.limit q k c
FairDeed masks s far-end e (receiving c) = Called c (FairCall (masks (far s)) far-end.out.sealed e.into c)
FairDeed masks s far-end e (piecing c) = assembly.FairPiece e.pieces c
FairDeed masks s far-end e dealing =
    let r = reading_owed e.dealings.account e.into.into.account.encryption in
    FairTold masks s far-end e r.verdict r.content
FairDeed masks s far-end e (dealing_over d) = OtherLength e.into.into d

abbrev pub Fair : (Side → Masks) → World → Event → Type 0
Fair masks w v = FairDeed masks v.side (w (far v.side)) (w v.side) v.deed

-- each premise is read in the world in which its call happens
abbrev pub Honest : (Side → Masks) → World → List Event → Type 0
Honest masks w [] = Unit {0}
Honest masks w (v ∷ vs) = Fair masks w v × Honest masks (step w v) vs
