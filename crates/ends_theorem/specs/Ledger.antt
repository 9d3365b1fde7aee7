-- The claim's own account of a sending end: what 01 says that each call is answered, what it sends, and what it leaves, from the host's
-- settings, arguments and replies alone. No definition of the program stands here. Quotations are 01's.
use Rattle.std.specs.Prelude.{ℕ, zero, suc, ◌+◌, ◌-◌, ◌*◌, ◌/◌, ◌%◌, min, ltb, leb, eqb, length, take, drop, Bool, true, false, not, List, [], ◌∷◌, ◌++◌}
use Rattle.std.proofs.Math.Option.{Option, none, some}
use Rattle.base.specs.Bytes.{be, be_at}
use Rattle.base.specs.Choose.{choose, both, either}
use Rattle.waiting_laws.specs.Calls.{SendCall, key_send·, send·, save·, message·, begin_flight·, resend·, note·, send_ack·, ack·, fill·, sealed·, take·, Reply, only}
use Rattle.history_theorem.specs.Account.{plain_head, sealed_head, sealed_over, upd, is_in}

-- ---- 01's numbers

-- content types
abbrev pub alert : ℕ
alert = 21

abbrev pub handshake : ℕ
handshake = 22

abbrev pub application_data : ℕ
application_data = 23

abbrev pub ack_type : ℕ
ack_type = 26

-- the limits: a body's bytes, records saved, numbers that a saved record remembers, records noted; the first number of a record and of a message that
-- is not sent
abbrev pub longest_body : ℕ
longest_body = 16384

abbrev pub most_saved : ℕ
most_saved = 12

abbrev pub most_remembered : ℕ
most_remembered = 32

abbrev pub most_noted : ℕ
most_noted = 32

abbrev pub last_number : ℕ
last_number = 281474976710655

abbrev pub last_message : ℕ
last_message = 65535

-- ---- what it holds

-- a record sent
pub record Sent : Type 0 where
  pub epoch : ℕ
  pub num : ℕ
  pub type : ℕ
  pub content : List ℕ

-- a record in the queue: how many bytes it has there, and whether it still waits to be sealed
pub record Item : Type 0 where
  pub epoch : ℕ
  pub num : ℕ
  pub size : ℕ
  pub waits : Bool

-- a saved record: what the host gave, the numbers of its sendings, the last first, and whether an ACK acted on named one that it is known by
pub record Kept : Type 0 where
  pub epoch : ℕ
  pub type : ℕ
  pub content : List ℕ
  pub sendings : List ℕ
  pub acked : Bool

-- a record's name in an ACK
pub record Name : Type 0 where
  pub epoch : ℕ
  pub num : ℕ

pub record Ledger : Type 0 where
  -- the settings, and how many bytes are lent for the flight
  pub mtu : ℕ
  pub limit : ℕ
  pub room : ℕ
  -- epoch 2 keyed; "the application epoch (the last keyed, 3 or above)", 0 for none; by epoch how many records were sent in it
  pub two : Bool
  pub application : ℕ
  pub next : ℕ → ℕ
  -- how many messages were accepted
  pub messages : ℕ
  -- the datagrams queued, the front first; whether the last is closed
  pub queue : List (List Item)
  pub closed : Bool
  -- the flight, and the records noted since an ACK was sent, each in order
  pub saved : List Kept
  pub noted : List Name

-- "Both start fresh: settings in range, none of the five done, nothing queued, saved, noted or asked"
abbrev pub new_ledger : ℕ → ℕ → ℕ → Ledger
new_ledger mtu limit room = record {
  mtu = mtu;
  limit = limit;
  room = room;
  two = false;
  application = 0;
  next = λ e. 0;
  messages = 0;
  queue = [];
  closed = false;
  saved = [];
  noted = [];
}

abbrev pub with_keys : Ledger → Bool → ℕ → (ℕ → ℕ) → Ledger
with_keys l two application next = record {
  mtu = l.mtu;
  limit = l.limit;
  room = l.room;
  two = two;
  application = application;
  next = next;
  messages = l.messages;
  queue = l.queue;
  closed = l.closed;
  saved = l.saved;
  noted = l.noted;
}

abbrev pub with_queue : Ledger → (ℕ → ℕ) → List (List Item) → Bool → Ledger
with_queue l next queue closed = record {
  mtu = l.mtu;
  limit = l.limit;
  room = l.room;
  two = l.two;
  application = l.application;
  next = next;
  messages = l.messages;
  queue = queue;
  closed = closed;
  saved = l.saved;
  noted = l.noted;
}

abbrev pub with_saved : Ledger → List Kept → Ledger
with_saved l saved = record {
  mtu = l.mtu;
  limit = l.limit;
  room = l.room;
  two = l.two;
  application = l.application;
  next = l.next;
  messages = l.messages;
  queue = l.queue;
  closed = l.closed;
  saved = saved;
  noted = l.noted;
}

abbrev pub with_messages : Ledger → ℕ → Ledger
with_messages l messages = record {
  mtu = l.mtu;
  limit = l.limit;
  room = l.room;
  two = l.two;
  application = l.application;
  next = l.next;
  messages = messages;
  queue = l.queue;
  closed = l.closed;
  saved = l.saved;
  noted = l.noted;
}

abbrev pub with_noted : Ledger → List Name → Ledger
with_noted l noted = record {
  mtu = l.mtu;
  limit = l.limit;
  room = l.room;
  two = l.two;
  application = l.application;
  next = l.next;
  messages = l.messages;
  queue = l.queue;
  closed = l.closed;
  saved = l.saved;
  noted = noted;
}

-- ---- the queue

-- header and content; a sealed record has content type and tag besides
abbrev pub size_of : ℕ → ℕ → ℕ
size_of e n = choose (eqb e 0) (n + plain_head) (n + sealed_over)

abbrev pub total : List Item → ℕ
total [] = 0
total (i ∷ is) = i.size + total is

-- "the last queued datagram's length, closed or not"; 0 where there is none
abbrev pub last_size : List (List Item) → ℕ
last_size [] = 0
last_size (d ∷ []) = total d
last_size (d ∷ e ∷ ds) = last_size (e ∷ ds)

abbrev pub is_some : List (List Item) → Bool
is_some [] = false
is_some (d ∷ ds) = true

-- "A record joins the last datagram if that isn't closed and the sum is at most the MTU"
unfoldable pub joins : Ledger → ℕ → Bool
joins l n = both (choose l.closed false (is_some l.queue)) (leb (last_size l.queue + n) l.mtu)

abbrev pub on_last : List (List Item) → Item → List (List Item)
on_last [] i = (i ∷ []) ∷ []
on_last (d ∷ []) i = (d ++ (i ∷ [])) ∷ []
on_last (d ∷ e ∷ ds) i = d ∷ on_last (e ∷ ds) i

-- "else opens a new one"
abbrev pub queued : Ledger → Item → List (List Item)
queued l i = choose (joins l i.size) (on_last l.queue i) (l.queue ++ ((i ∷ []) ∷ []))

-- a record with n bytes of content behind the others, under its epoch's next number; a new datagram "ends the closed state", and what is joined
-- was not closed
unfoldable pub lays : Ledger → ℕ → ℕ → Ledger
lays l e n =
    with_queue l (upd l.next e (l.next e + 1)) (queued l (record { epoch = e; num = l.next e; size = size_of e n; waits = not (eqb e 0) })) false

-- those that wait to be sealed, the oldest first: in one datagram, and in all
abbrev pub any_waits : List Item → Bool
any_waits [] = false
any_waits (i ∷ is) = either i.waits (any_waits is)

-- how many wait
abbrev pub waiting : List Item → ℕ
waiting [] = 0
waiting (i ∷ is) = choose i.waits 1 0 + waiting is

abbrev pub waits_under : ℕ → List Item → Bool
waits_under e [] = false
waits_under e (i ∷ is) = either (both i.waits (eqb i.epoch e)) (waits_under e is)

abbrev pub items : List (List Item) → List Item
items [] = []
items (d ∷ ds) = d ++ items ds

abbrev pub oldest : List Item → Option Item
oldest [] = none
oldest (i ∷ is) = choose i.waits (some i) (oldest is)

abbrev pub settled : Item → Item
settled i = record { epoch = i.epoch; num = i.num; size = i.size; waits = false }

-- the oldest is sealed
abbrev pub settles_in : List Item → List Item
settles_in [] = []
settles_in (i ∷ is) = choose i.waits (settled i ∷ is) (i ∷ settles_in is)

abbrev pub settles : List (List Item) → List (List Item)
settles [] = []
settles (d ∷ ds) = choose (any_waits d) (settles_in d ∷ ds) (d ∷ settles ds)

abbrev pub behind_front : List (List Item) → List (List Item)
behind_front [] = []
behind_front (d ∷ ds) = ds

-- ---- keying: 13, 23

-- 13: "keying 0, 1 or one not above every earlier one of its direction"
unfoldable pub is_old : Ledger → ℕ → Bool
is_old l e = either (ltb e 2) (either (leb e (choose l.two 2 0)) (leb e l.application))

-- 23: "a sending application epoch replaced while a sealing under it waits"
unfoldable pub key_number : Ledger → ℕ → ℕ
key_number l e = choose (is_old l e) 13 (choose (waits_under l.application (items l.queue)) 23 0)

-- "Numbers to send begin at 0"
unfoldable pub keyed : Ledger → ℕ → Ledger
keyed l e = with_keys l (either l.two (eqb e 2)) (choose (eqb e 2) l.application e) (upd l.next e 0)

-- ---- one record: 12, 13, 14, 17, 18, 19, 20

-- 13: "sending outside 0, 2 and the application epoch"
unfoldable pub is_usable : Ledger → ℕ → Bool
is_usable l e = either (eqb e 0) (either (eqb e 2) (both (leb 3 e) (eqb e l.application)))

-- "Content types sent: 21, 22, 23, 26; in plaintext 21, 22, 26"
unfoldable pub is_type : ℕ → ℕ → Bool
is_type e t = either (either (eqb t alert) (either (eqb t handshake) (eqb t ack_type))) (choose (eqb e 0) false (eqb t application_data))

-- 14: "type not allowed, body over 16,384, or record over the MTU"
unfoldable pub is_allowed : Ledger → ℕ → ℕ → ℕ → Bool
is_allowed l e t n = both (is_type e t) (both (leb n longest_body) (leb (size_of e n) l.mtu))

-- 17: "sending keys absent": epoch 0 needs none, and an application epoch has them
unfoldable pub has_keys : Ledger → ℕ → Bool
has_keys l e = choose (eqb e 2) l.two true

-- 12: "a buffer lent for .. flight under its limit times the MTU"
unfoldable pub has_room : Ledger → Bool
has_room l = leb (most_saved * l.mtu) l.room

-- "done wholly or not at all": with what a call would leave, 19: "a new datagram needed beyond the limit"; 20: "2^48 - 1 would be used"
unfoldable pub queue_number : Ledger → ℕ → ℕ
queue_number l e = choose (ltb l.limit (length l.queue)) 19 (choose (ltb last_number (l.next e)) 20 0)

-- and before these 18: "a thirteenth record to save"
unfoldable pub flight_number : Ledger → ℕ → ℕ
flight_number l e = choose (ltb most_saved (length l.saved)) 18 (queue_number l e)

unfoldable pub send_number : Ledger → ℕ → ℕ → ℕ → ℕ
send_number l e t n =
    choose (is_usable l e) (choose (is_allowed l e t n) (choose (has_keys l e) (queue_number (lays l e n) e) 17) 14) 13

-- a record that is also saved
unfoldable pub saves : Ledger → ℕ → ℕ → List ℕ → Ledger
saves l e t x =
    with_saved (lays l e (length x)) (l.saved ++ (record { epoch = e; type = t; content = x; sendings = l.next e ∷ []; acked = false } ∷ []))

unfoldable pub save_number : Ledger → ℕ → ℕ → List ℕ → ℕ
save_number l e t x =
    choose (has_room l)
    (choose (is_usable l e) (choose (is_allowed l e t (length x)) (choose (has_keys l e) (flight_number (saves l e t x) e) 17) 14) 13)
    12

-- ---- a handshake message: 12, 14, 17, 21, 18, 19, 20

-- the account while records are sent, and these, in order
pub record Going : Type 0 where
  pub ledger : Ledger
  pub sent : List Sent

-- "ClientHello (1) and ServerHello (2) use epoch 0; other handshake types epoch 2"
abbrev pub epoch_for : ℕ → ℕ
epoch_for kind = choose (either (eqb kind 1) (eqb kind 2)) 0 2

-- "Overhead: 25 bytes in epoch 0, 34 in epoch 2"
abbrev pub overhead : ℕ → ℕ
overhead e = choose (eqb e 0) 25 34

-- "A piece takes min(rest, MTU - used - overhead), used being the last queued datagram's length, closed or not; if that is not positive,
-- min(rest, MTU - overhead)"
unfoldable pub piece_size : Ledger → ℕ → ℕ → ℕ
piece_size l over rest =
    choose (ltb (last_size l.queue + over) l.mtu) (min rest (l.mtu - last_size l.queue - over)) (min rest (l.mtu - over))

-- RFC 9147, section 5.2: type, length, message_seq, fragment_offset, fragment_length; then that part of the body
abbrev pub piece_content : ℕ → ℕ → List ℕ → ℕ → ℕ → List ℕ
piece_content kind number body at n =
    (kind ∷ be 3 (length body) ++ be 2 number ++ be 3 at ++ be 3 n) ++ take n (drop at body)

unfoldable pub saves_on : ℕ → ℕ → List ℕ → Going → Going
saves_on e t x g = record {
  ledger = saves g.ledger e t x;
  sent = g.sent ++ (record { epoch = e; num = g.ledger.next e; type = t; content = x } ∷ []);
}

-- at most k pieces from an offset on; "An empty body gives one empty piece"
unfoldable pub pieces : ℕ → ℕ → ℕ → List ℕ → ℕ → Going → Going
pieces zero kind number body at g = g
pieces (suc k) kind number body at g =
    let n = piece_size g.ledger (overhead (epoch_for kind)) (length body - at) in
    let g' = saves_on (epoch_for kind) handshake (piece_content kind number body at n) g in
    choose (eqb (length body - (at + n)) 0) g' (pieces k kind number body (at + n) g')

-- thirteen are one too many for a flight (18), so that more need not be cut
unfoldable pub posted : Ledger → ℕ → List ℕ → Going
posted l kind body = pieces 13 kind l.messages body 0 (record { ledger = l; sent = [] })

-- 21: "message number 65,535 would be used"
unfoldable pub message_number : Ledger → ℕ → List ℕ → ℕ
message_number l kind body =
    choose (has_room l)
    (choose (ltb longest_body (length body)) 14
    (choose (has_keys l (epoch_for kind)) (choose (leb last_message l.messages) 21 (flight_number (posted l kind body).ledger (epoch_for kind))) 17))
    12

-- ---- a flight sent again: 12, 13, 14, 17, 22, 19, 20

abbrev pub first_of : List ℕ → List ℕ
first_of [] = []
first_of (n ∷ ns) = n ∷ []

-- "the old number is remembered for handshake records of epoch 2 and above": the numbers that a saved record is known by, the last first
unfoldable pub known : Kept → List ℕ
known k = choose (both (eqb k.type handshake) (leb 2 k.epoch)) k.sendings (first_of k.sendings)

unfoldable pub sends_again : Kept → Going → Going
sends_again k g =
    let n = g.ledger.next k.epoch in
    record {
      ledger =
          with_saved (lays g.ledger k.epoch (length k.content))
          (g.ledger.saved ++ (record { epoch = k.epoch; type = k.type; content = k.content; sendings = n ∷ k.sendings; acked = false } ∷ []));
      sent = g.sent ++ (record { epoch = k.epoch; num = n; type = k.type; content = k.content } ∷ []);
    }

abbrev pub passes : Kept → Going → Going
passes k g = record { ledger = with_saved g.ledger (g.ledger.saved ++ (k ∷ [])); sent = g.sent }

-- "skips acknowledged records, and sends the rest under new numbers"
unfoldable pub again : List Kept → Going → Going
again [] g = g
again (k ∷ ks) g = again ks (choose k.acked (passes k g) (sends_again k g))

-- "closes the datagram"
abbrev pub closes : Ledger → Ledger
closes l = with_queue l l.next l.queue true

unfoldable pub resent : Ledger → Going
resent l = again l.saved (record { ledger = with_saved (closes l) []; sent = [] })

-- each that is not acknowledged passes a test
abbrev pub all : (Kept → Bool) → List Kept → Bool
all test [] = true
all test (k ∷ ks) = both (either k.acked (test k)) (all test ks)

-- 20 in each epoch that can be sent in
unfoldable pub is_spent : Ledger → Bool
is_spent l =
    either (ltb last_number (l.next 0)) (either (ltb last_number (l.next 2)) (ltb last_number (l.next l.application)))

-- each number over all records before the next; 22: "an unmarked handshake record of epoch 2 or above remembers 32", beside its last number
unfoldable pub resend_number : Ledger → ℕ
resend_number l =
    choose (has_room l)
    (choose (all (λ k. is_usable l k.epoch) l.saved)
    (choose (all (λ k. is_allowed l k.epoch k.type (length k.content)) l.saved)
    (choose (all (λ k. has_keys l k.epoch) l.saved)
    (choose (all (λ k. leb (length (known k)) most_remembered) l.saved)
    (choose (ltb l.limit (length (resent l).ledger.queue)) 19 (choose (is_spent (resent l).ledger) 20 0))
    22)
    17)
    14)
    13)
    12

-- how many of them are not acknowledged
abbrev pub unacked : List Kept → ℕ
unacked [] = 0
unacked (k ∷ ks) = choose k.acked 0 1 + unacked ks

-- and so many are sent again, where that is done
abbrev pub resend_reply : Ledger → Reply
resend_reply l = record { number = resend_number l; told = choose (eqb (resend_number l) 0) (unacked l.saved) 0 }

-- ---- an ACK acted on

-- "2-byte length, then pairs of 8-byte epoch and number"; "under 2 bytes, a false length, or a length not a multiple of 16 marks nothing"
unfoldable pub is_formed : List ℕ → Bool
is_formed d = both (leb 2 (length d)) (both (eqb (be_at 2 d 0) (length d - 2)) (eqb ((length d - 2) % 16) 0))

abbrev pub pairs_of : List ℕ → ℕ → List Name
pairs_of d zero = []
pairs_of d (suc i) = record { epoch = be_at 8 d (2 + i * 16); num = be_at 8 d (2 + i * 16 + 8) } ∷ pairs_of d i

unfoldable pub names_in : List ℕ → List Name
names_in d = choose (is_formed d) (pairs_of d ((length d - 2) / 16)) []

abbrev pub is_named : List Name → Kept → Bool
is_named [] k = false
is_named (n ∷ ns) k = either (both (eqb n.epoch k.epoch) (is_in n.num (known k))) (is_named ns k)

abbrev pub marked : List Name → List Kept → List Kept
marked ns [] = []
marked ns (k ∷ ks) =
    record { epoch = k.epoch; type = k.type; content = k.content; sendings = k.sendings; acked = either k.acked (is_named ns k) } ∷ marked ns ks

-- how many of the saved records these names newly acknowledge; a malformed ACK has none
abbrev pub newly_acked : List Name → List Kept → ℕ
newly_acked ns [] = 0
newly_acked ns (k ∷ ks) = choose k.acked 0 (choose (is_named ns k) 1 0) + newly_acked ns ks

abbrev pub any_two : List Kept → Bool
any_two [] = false
any_two (k ∷ ks) = either (eqb k.epoch 2) (any_two ks)

abbrev pub all_two : List Kept → Bool
all_two [] = true
all_two (k ∷ ks) = both (choose (eqb k.epoch 2) k.acked true) (all_two ks)

-- "If records of epoch 2 exist and all are marked, the flight empties"
unfoldable pub is_over : List Kept → Bool
is_over ks = both (any_two ks) (all_two ks)

-- a malformed ACK changes nothing
unfoldable pub acked_by : Ledger → List ℕ → Ledger
acked_by l d =
    choose (is_formed d)
    (with_saved l (choose (is_over (marked (names_in d) l.saved)) [] (marked (names_in d) l.saved))) l

-- the records of epoch 2 in a flight that an ACK empties
abbrev pub of_two : List Kept → List Kept
of_two [] = []
of_two (k ∷ ks) = choose (eqb k.epoch 2) (k ∷ of_two ks) (of_two ks)

unfoldable pub cleared : Ledger → List ℕ → List Kept
cleared l d = choose (both (is_formed d) (is_over (marked (names_in d) l.saved))) (of_two (marked (names_in d) l.saved)) []

-- ---- the ACK sent: "with none noted, nothing is sent"; else as any record

-- "It uses the application epoch if keyed, else 2"
abbrev pub ack_epoch : Ledger → ℕ
ack_epoch l = choose (eqb l.application 0) 2 l.application

abbrev pub names_bytes : List Name → List ℕ
names_bytes [] = []
names_bytes (k ∷ ks) = be 8 k.epoch ++ (be 8 k.num ++ names_bytes ks)

abbrev pub ack_bytes : List Name → List ℕ
ack_bytes ks = be 2 (length ks * 16) ++ names_bytes ks

unfoldable pub ack_reply : Ledger → Reply
ack_reply l =
    choose (eqb (length l.noted) 0) (only 0)
    (let n = send_number l (ack_epoch l) ack_type (2 + length l.noted * 16) in record { number = n; told = choose (eqb n 0) 1 0 })

unfoldable pub acking : Ledger → Going
acking l =
    choose (eqb (length l.noted) 0) (record { ledger = l; sent = [] })
    (record {
      ledger = with_noted (lays l (ack_epoch l) (2 + length l.noted * 16)) [];
      sent = record { epoch = ack_epoch l; num = l.next (ack_epoch l); type = ack_type; content = ack_bytes l.noted } ∷ [];
    })

-- ---- a sealing reply: 15; taking: none from an empty queue, 23, 16

-- the part lent is the record behind its header
abbrev pub seal_reply : Option Item → ℕ → ℕ
seal_reply none n = 15
seal_reply (some i) n = choose (eqb n (i.size - sealed_head)) 0 15

-- 23: "front datagram not wholly sealed"; 16: "buffer lent .. too small (needed length told ..)"
abbrev pub take_reply : List (List Item) → ℕ → Reply
take_reply [] have = only 0
take_reply (d ∷ ds) have = choose (any_waits d) (only 23) (record { number = choose (ltb have (total d)) 16 0; told = total d })

-- ---- every call

abbrev pub owed : Ledger → SendCall → Reply
owed l (key_send· e iv) = only (key_number l e)
owed l (send· e t x) = only (send_number l e t (length x))
owed l (save· e t x) = only (save_number l e t x)
owed l (message· kind body) = only (message_number l kind body)
owed l begin_flight· = only 0
owed l resend· = resend_reply l
-- "up to 32; later ones are not noted"
owed l (note· e n) = record { number = 0; told = choose (ltb (length l.noted) most_noted) 1 0 }
owed l send_ack· = ack_reply l
owed l (ack· d) = record { number = 0; told = newly_acked (names_in d) l.saved }
owed l (fill· v) = only 0
owed l (sealed· n m) = only (seal_reply (oldest (items l.queue)) n)
owed l (take· buffer) = take_reply l.queue (length buffer)

-- what an accepted call leaves
abbrev pub leaves : Ledger → SendCall → Ledger
leaves l (key_send· e iv) = keyed l e
leaves l (send· e t x) = lays l e (length x)
leaves l (save· e t x) = saves l e t x
leaves l (message· kind body) = with_messages (posted l kind body).ledger (l.messages + 1)
leaves l begin_flight· = with_saved l []
leaves l resend· = (resent l).ledger
leaves l (note· e n) = with_noted l (choose (ltb (length l.noted) most_noted) (l.noted ++ (record { epoch = e; num = n } ∷ [])) l.noted)
leaves l send_ack· = (acking l).ledger
leaves l (ack· d) = acked_by l d
leaves l (fill· v) = l
leaves l (sealed· n m) = with_queue l l.next (settles l.queue) l.closed
leaves l (take· buffer) = with_queue l l.next (behind_front l.queue) l.closed

-- and what it sends, in order
abbrev pub gives : Ledger → SendCall → List Sent
gives l (key_send· e iv) = []
gives l (send· e t x) = record { epoch = e; num = l.next e; type = t; content = x } ∷ []
gives l (save· e t x) = record { epoch = e; num = l.next e; type = t; content = x } ∷ []
gives l (message· kind body) = (posted l kind body).sent
gives l begin_flight· = []
gives l resend· = (resent l).sent
gives l (note· e n) = []
gives l send_ack· = (acking l).sent
gives l (ack· d) = []
gives l (fill· v) = []
gives l (sealed· n m) = []
gives l (take· buffer) = []

-- a refused call leaves all as it was and sends nothing
unfoldable pub after : Ledger → SendCall → Ledger
after l c = choose (eqb (owed l c).number 0) (leaves l c) l

unfoldable pub sent_by : Ledger → SendCall → List Sent
sent_by l c = choose (eqb (owed l c).number 0) (gives l c) []

-- over memory that is too short: 12, in every call that has an answer; the host's own writing has none
abbrev pub short_reply : SendCall → Reply
short_reply (key_send· e iv) = only 12
short_reply (send· e t x) = only 12
short_reply (save· e t x) = only 12
short_reply (message· kind body) = only 12
short_reply begin_flight· = only 12
short_reply resend· = only 12
short_reply (note· e n) = only 12
short_reply send_ack· = only 12
short_reply (ack· d) = only 12
short_reply (fill· v) = only 0
short_reply (sealed· n m) = only 12
short_reply (take· buffer) = only 12

-- the records that a call makes count as acknowledged by emptying the flight
abbrev pub clears : Ledger → SendCall → List Kept
clears l (key_send· e iv) = []
clears l (send· e t x) = []
clears l (save· e t x) = []
clears l (message· kind body) = []
clears l begin_flight· = []
clears l resend· = []
clears l (note· e n) = []
clears l send_ack· = []
clears l (ack· d) = cleared l d
clears l (fill· v) = []
clears l (sealed· n m) = []
clears l (take· buffer) = []
