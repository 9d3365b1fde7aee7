-- Every list of calls of the C library on two hosts: the events of crate ends_theorem that it is, and the claim of what the hosts saw.
use Rattle.std.specs.Prelude.{ℕ, ◌+◌, ◌*◌, ◌≤◌, ◌<◌, eqb, leb, ltb, length, Bool, true, List, [], ◌∷◌, ◌++◌, ◌↔◌, ◌≡◌}
use Rattle.std.proofs.Math.Option.{Option, none, some}
use Rattle.base.specs.Choose.{choose}
use Rattle.datagram.specs.declared.Reading.TheVariants as says
use Rattle.receiving.specs.Receiving.{key_of, remove_of, encrypt_of, release_of, begin_of, read_of, mask_of, opened_of}
use Rattle.outgoing.specs.State.{keying_state}
use Rattle.outgoing.specs.Send.{send_answer, send_state}
use Rattle.send_keys.specs.Answer.{refusal}
use Rattle.sealing.specs.Sealing as sealings
use Rattle.taking.specs.Take.{take_answer}
use Rattle.flight.specs.Flight as flying
use Rattle.flight.specs.Save.{save_state}
use Rattle.flight.specs.Status.{unacknowledged}
use Rattle.messages.specs.Message.{message_answer, message_state}
use Rattle.resend.specs.Tests.{resend_answer}
use Rattle.resend.specs.Resend.{resend_state}
use Rattle.process_ack.specs.Ack.{acked}
use Rattle.process_ack.specs.Status.{newly_marked}
use Rattle.acks.specs.Acks as noting
use Rattle.recv_words.specs.Words.{is_flat}
use Rattle.recv_key_steps.specs.Kept.{state_of}
use Rattle.send_words.specs.Words as sendWords
use Rattle.flight_words.specs.Words.{flight_of, flat_to}
use Rattle.recv_calls.specs.Flat.{answer_of, bare, opening_of}
use Rattle.answers.specs.declared.HuskTold.{HuskTold}
use Rattle.recv_calls.specs.Calls as receive
use Rattle.recv_calls.specs.Removed.{removed_told}
use Rattle.send_calls.specs.Calls as sends
use Rattle.send_calls.specs.declared.HuskSealing.{HuskSealing}
use Rattle.flight_calls.specs.Calls as flights
use Rattle.status_calls.specs.Calls as status
use Rattle.ack_calls.specs.Calls as acks
use Rattle.assembly.specs.Assembly.{is_sound, taken}
use Rattle.assembly_calls.specs.Calls as pieces
use Rattle.waiting_laws.specs.Calls.{Stores, ack·, fill·}
use Rattle.history_theorem.specs.Account.{sealed_head, Shown, nothing, a_mask, an_opening, key_owed}
use Rattle.history_theorem.specs.Claim.{Masks, IsSeen, IsOld, bits_under, block_in, Proper, nonce_for}
use Rattle.history_theorem.specs.Receiver.{a_read, a_mask_reply, an_open_reply, rest_of, remove_owed, begin_owed, Inbound, Call, key·, remove·, encrypt·, release·, begin·, read·, mask·, write·, open·, read_over·, mask_over·, open_over·}
use Rattle.assembly_theorem.specs.Account.{owed as pieceOwed}
use Rattle.assembly_theorem.specs.Claim as assembly
use Rattle.classify.specs.Classify.{content_of, classified}
use Rattle.classify_calls.specs.Calls as classify
use Rattle.classify_calls.specs.declared.HuskClass.{HuskClass}
use Rattle.classify_theorem.specs.Account as account
use Rattle.opening_reply.specs.Opening.{start_of, length_of}
use Rattle.datagram.specs.declared.Reading.{Reading}
use Rattle.recv_calls.specs.declared.HuskReading.{HuskReading}
use Rattle.sequence.specs.Laws.{Nearest}
use Rattle.window.specs.Used.{above}
use Rattle.ends_theorem.specs.Claim.{Holds}
use Rattle.ends_theorem.specs.Ledger.{Item, Ledger, waiting, items, oldest, unacked, owed, short_reply, after as accountAfter}
use Rattle.ends_theorem.specs.Sender.{Lent, sealed_header}
use Rattle.ends_theorem.specs.World.{Side, post, gateway, far, End, Deed, sending, over, receiving, piecing, dealing, dealing_over, Event, World, run, Setting, new_end, fresh-pair, FairDeed, Honest}
use Rattle.hosts_theorem.specs.Memory.{Incoming, Outgoing, InCall, husk_receiving_key, husk_receiving_remove, husk_receiving_enable_encryption, husk_receiving_release_application_data, husk_receiving_begin, husk_receiving_begin_read, husk_receiving_read, husk_receiving_mask, husk_receiving_opened, husk_receiving_read_over, husk_receiving_mask_over, husk_receiving_opened_over, host_writes, OutCall, husk_sending_key, husk_sending_send, husk_sending_sealed, husk_sending_take, husk_sending_take_in_place, husk_flight_begin, husk_flight_send, husk_flight_message, husk_flight_resend, husk_flight_ack, husk_notes_add, husk_notes_send, behind_out, lends}
use Rattle.hosts_theorem.specs.Log.{flat_read, reading_of, refused_told, dropped_told, no_nonce, Whole, reply_of, Host, Act, inward, husk_sending_sealing, husk_flight_status, husk_sending_status, outward, outward_over, host_seals, husk_assembly_begin, husk_assembly_take, husk_receiving_classify, husk_receiving_classify_over, piece_told, Made, behind, stores_of, sealing_of, shows_now, send_of}

-- ---- two hosts and a list of calls

-- a host on either side
abbrev pub Hosts : Type 0
Hosts = Side → Host

-- a call, and at which of the two
pub record CCall : Type 0 where
  pub side : Side
  pub act : Act

-- one host in the place of that side
abbrev pub put : Side → Host → Hosts → Hosts
put post h hs post = h
put post h hs gateway = hs gateway
put gateway h hs post = hs post
put gateway h hs gateway = h

-- both hosts behind one call
abbrev pub after : Hosts → CCall → Hosts
after hs a = put a.side (behind (hs (far a.side)) (hs a.side) a.act) hs

-- and behind a list of calls
abbrev pub runs : Hosts → List CCall → Hosts
runs hs [] = hs
runs hs (a ∷ cs) = runs (after hs a) cs

-- each call meets its contract over the memory as the last call at its host left it
abbrev pub AllMade : Hosts → List CCall → Type 0
AllMade hs [] = Unit {0}
AllMade hs (a ∷ cs) = Made (hs a.side) a.act × AllMade (after hs a) cs

-- ---- the words stand for the log's state

-- of receiving, and the begun datagram is the log's
pub record StandsIn (h : Incoming) (i : Inbound) : Type 0 where
  pub flat : is_flat h.words ≡ true
  pub state : state_of h.words ≡ i.into.state
  pub datagram : h.datagram ≡ i.into.datagram

-- and the question in the log is the one that husk_sending_sealing shows, its bytes as first shown
pub record StandsOut (h : Outgoing) (e : End) : Type 0 where
  pub flat : sendWords.is_flat h.words ≡ true
  pub flat-flight : flat_to h.flight 12 ≡ true
  pub stores : stores_of h ≡ e.out.stores
  pub shown : (old : Option Lent) × (e.out.lent ≡ shows_now (sealing_of h.words) h.queue old)

-- of both, and the log's words of the reading that waits and of reassembly are the host's
pub record Stands (h : Host) : Type 0 where
  pub incoming : StandsIn h.incoming h.seen.into
  pub pending : h.pending ≡ h.seen.dealings.words
  pub outgoing : StandsOut h.outgoing h.seen
  pub assembly : h.assembly ≡ h.seen.pieces.words

-- ---- the start

-- words made by husk_receiving_init, with no reading that waits, and husk_sending_init, which answered 0, by husk_flight_init and husk_assembly_init; notes made by husk_notes_init; lent
-- memory with any first contents, a queue not under its limit times the MTU; nothing in the log but the settings
pub record Started (s : Setting) (h : Host) : Type 0 where
  pub receiving : classify.FreshCall 0 h.incoming.words h.pending s.min
  pub datagram : h.incoming.datagram ≡ []
  pub sending : sends.FreshCall 0 h.outgoing.words s.mtu s.limit
  pub queue : h.outgoing.queue ≡ s.queue
  pub room : s.limit * s.mtu ≤ length s.queue
  pub flight : flights.FreshCall h.outgoing.flight h.outgoing.numbers
  pub kept : h.outgoing.kept ≡ s.kept
  pub notes : acks.FreshNotesCall (acks.notes_of h.outgoing.count h.outgoing.epochs h.outgoing.noted)
  pub assembly : pieces.FreshCall h.assembly
  pub seen : h.seen ≡ new_end s

-- ---- the events that a call is

-- a receiving call
abbrev pub calls_of : InCall → List Call
calls_of (husk_receiving_key r v epoch iv) = key· epoch iv ∷ []
calls_of (husk_receiving_remove r v epoch) = remove· epoch ∷ []
calls_of (husk_receiving_enable_encryption r v) = encrypt· ∷ []
calls_of (husk_receiving_release_application_data r v) = release· ∷ []
calls_of (husk_receiving_begin r v d) = begin· d ∷ []
-- begun and read; over 16,384 bytes, refused and nothing read
calls_of (husk_receiving_begin_read r v d) = choose (ltb 16384 (length d)) (begin· d ∷ []) (begin· d ∷ read· ∷ [])
calls_of (husk_receiving_read r v) = read· ∷ []
calls_of (husk_receiving_mask r v m n e) = mask· (receive.masks m n) ∷ []
-- a reply neither 0 nor 1 is no event
calls_of (husk_receiving_opened r v o len) = choose (leb o 1) (open· (opening_of o len) ∷ []) []
calls_of (husk_receiving_read_over r v d) = read_over· d ∷ []
calls_of (husk_receiving_mask_over r v m n e d) = mask_over· (receive.masks m n) d ∷ []
calls_of (husk_receiving_opened_over r v o len d) = choose (leb o 1) (open_over· (opening_of o len) d ∷ []) []
calls_of (host_writes r p) = write· p ∷ []

-- receiving calls at an end
abbrev pub hearing : List Call → List Deed
hearing [] = []
hearing (c ∷ cs) = receiving c ∷ hearing cs

-- any call
abbrev pub deeds_of : Act → List Deed
deeds_of (inward c y) = hearing (calls_of c)
-- only ask
deeds_of (husk_sending_sealing r) = []
deeds_of (husk_flight_status r) = []
deeds_of (husk_sending_status r) = []
deeds_of (outward c) = sending (send_of c) ∷ []
deeds_of (outward_over c q k) = over (send_of c) q k ∷ []
deeds_of (host_seals r bytes) = sending (fill· bytes) ∷ []
deeds_of (husk_assembly_begin r v n) = piecing (assembly.begin· n) ∷ []
deeds_of (husk_assembly_take r v c d e) = piecing (assembly.take· c d) ∷ []
deeds_of (husk_receiving_classify r v y g m) = dealing ∷ []
deeds_of (husk_receiving_classify_over r v y g m d) = dealing_over d ∷ []

-- at that side
abbrev pub at : Side → List Deed → List Event
at s [] = []
at s (d ∷ ds) = record { side = s; deed = d } ∷ at s ds

-- a list of calls
abbrev pub events_of : List CCall → List Event
events_of [] = []
events_of (a ∷ cs) = at a.side (deeds_of a.act) ++ events_of cs

-- ---- each answer is the one that the definitions give, never that for words which stand for nothing

-- by the definitions that the contracts cite, over what the words stand for
abbrev pub AnsweredIn : Incoming → InCall → Type 0
AnsweredIn h (husk_receiving_key r v epoch iv) = r ≡ answer_of (key_of (state_of h.words) epoch iv).answer
AnsweredIn h (husk_receiving_remove r v epoch) = r ≡ removed_told (remove_of (state_of h.words) epoch).answer
AnsweredIn h (husk_receiving_enable_encryption r v) = r ≡ answer_of (encrypt_of (state_of h.words)).answer
AnsweredIn h (husk_receiving_release_application_data r v) = r ≡ answer_of (release_of (state_of h.words)).answer
AnsweredIn h (husk_receiving_begin r v d) = r ≡ answer_of (begin_of (state_of h.words) (length d)).answer
AnsweredIn h (husk_receiving_begin_read r v d) = r ≡ receive.first_reading (begin_of (state_of h.words) (length d)) d
AnsweredIn h (husk_receiving_read r v) = r ≡ flat_read (read_of (state_of h.words) h.datagram)
AnsweredIn h (husk_receiving_mask r v m n e) = r ≡ flat_read (mask_of (state_of h.words) (receive.masks m n) h.datagram).0
AnsweredIn h (husk_receiving_opened r v o len) =
    r ≡ choose (leb o 1) (flat_read (opened_of (state_of h.words) (opening_of o len) h.datagram)) (bare 0 12)
AnsweredIn h (husk_receiving_read_over r v d) = r ≡ flat_read (read_of (state_of h.words) d)
AnsweredIn h (husk_receiving_mask_over r v m n e d) = r ≡ flat_read (mask_of (state_of h.words) (receive.masks m n) d).0
AnsweredIn h (husk_receiving_opened_over r v o len d) =
    r ≡ choose (leb o 1) (flat_read (opened_of (state_of h.words) (opening_of o len) d)) (bare 0 12)
AnsweredIn h (host_writes r p) = r ≡ flat_read (read_of (state_of h.words) h.datagram)

-- over what the sending host's memory stands for
abbrev pub AnsweredOut : Stores → OutCall → Type 0
AnsweredOut w (husk_sending_key r v epoch iv) = r ≡ refusal (keying_state w.state epoch iv).answer
AnsweredOut w (husk_sending_send r v epoch t c p) =
    r ≡ refusal (send_state (send_answer w.state (length w.queue) epoch t (length c)) w.state epoch (length c)).answer
AnsweredOut w (husk_sending_sealed r v len m n p) =
    r ≡ sealings.refusal (sealings.sealed_state (sealings.seal_answer w.state (length w.queue) len) w.state w.queue).answer
AnsweredOut w (husk_sending_take r v b c) = r ≡ sends.flat_take (take_answer w.state (length w.queue) (length b))
AnsweredOut w (husk_sending_take_in_place r v) =
    r ≡ sends.flat_part (take_answer w.state (length w.queue) 65535) (w.state.queue.first * w.state.queue.mtu)
AnsweredOut w (husk_flight_begin r g) = r ≡ refusal (flying.begun w.flight).answer
AnsweredOut w (husk_flight_send r v g m epoch t c p j) =
    r ≡ refusal (save_state w.state w.flight (length w.queue) (length w.kept) epoch t (length c)).answer
AnsweredOut w (husk_flight_message r v g m kind body p j) =
    r ≡ refusal (message_state (message_answer w.state w.flight (length w.queue) (length w.kept) kind (length body)) w.state w.flight w.queue w.kept kind body).answer
AnsweredOut w (husk_flight_resend r v g m p) =
    r ≡ acks.resent_told (resend_state (resend_answer w.state w.flight (length w.queue) (length w.kept)) w.state w.flight w.kept w.queue).answer (unacknowledged w.flight)
AnsweredOut w (husk_flight_ack r g m c) = r ≡ acks.acked_told (acked w.flight c) (newly_marked w.flight c)
AnsweredOut w (husk_notes_add r x y z epoch number) = r ≡ acks.note_told (noting.noted w.notes epoch number).answer
AnsweredOut w (husk_notes_send r v x y z p) = r ≡ acks.ack_told (noting.sent_ack w.state w.notes (length w.queue))

-- the question that husk_sending_sealing shows is the one in the log: kind 2 and its fields; no other kind shows one
abbrev pub Shows : Option Lent → HuskSealing → Type 0
Shows none r = r.kind ≡ 2 → ⊥
Shows (some l) r =
    r ≡ record { kind = 2; refusal = 0; epoch = l.epoch; number = l.num; start = l.place; length = l.size; nonce = l.nonce; header = l.header }

-- a reading dealt with over the datagram d
abbrev pub class_answer : Host → List ℕ → HuskClass
class_answer h d =
    let f = flight_of h.outgoing.flight h.outgoing.numbers in
    let c = content_of h.pending d in
    classify.flat_class (classified h.pending (state_of h.incoming.words) d) h.pending (acks.acked_told (acked f c) (newly_marked f c))

-- of any call
abbrev pub Answered : Host → Act → Type 0
Answered h (inward c y) = AnsweredIn h.incoming c
Answered h (husk_sending_sealing r) = Shows h.seen.out.lent r
Answered h (husk_flight_status r) = r ≡ status.saved_of (stores_of h.outgoing).flight
Answered h (husk_sending_status r) = r ≡ status.queued_of (stores_of h.outgoing).state
Answered h (outward c) = AnsweredOut (stores_of h.outgoing) c
Answered h (outward_over c q k) = AnsweredOut (stores_of (lends h.outgoing q k)) c
Answered h (host_seals r bytes) = Shows h.seen.out.lent r
Answered h (husk_assembly_begin r v n) = r ≡ choose (is_sound h.assembly) 0 12
Answered h (husk_assembly_take r v c d e) = r ≡ pieces.flat_piece (taken h.assembly c d).answer
Answered h (husk_receiving_classify r v y g m) = r ≡ class_answer h h.incoming.datagram
Answered h (husk_receiving_classify_over r v y g m d) = r ≡ class_answer h d

-- of every call in the list, each over the memory that it met
abbrev pub AllAnswered : Hosts → List CCall → Type 0
AllAnswered hs [] = Unit {0}
AllAnswered hs (a ∷ cs) = Answered (hs a.side) a.act × AllAnswered (after hs a) cs

-- ---- and it is the one that the host's own account owes the call

-- a removal is told so: 6 is no refusal, but that a record was dropped with its epoch
abbrev pub removal_told : ℕ → HuskTold
removal_told n = choose (eqb n 6) (record { refusal = 0; told = 1 }) (record { refusal = n; told = 0 })

-- a reply to a mask question, by the number nearest to the highest used plus one that ends in the bits which the mask brings out: 9 exactly if it was
-- used and is at most 63 below the highest used, 26 exactly if it is 64 or more below
abbrev pub OwedLate : Shown → (ℕ → List ℕ) → List ℕ → List ℕ → HuskReading → Type 0
OwedLate nothing used rest m r = Unit {0}
OwedLate (a_mask e p) used rest m r =
    (j : ℕ) → Nearest (block_in rest) (bits_under m rest) (above (used e)) j
    → ((r ≡ dropped_told 9) ↔ IsSeen (used e) j) × ((r ≡ dropped_told 26) ↔ IsOld (used e) j)
OwedLate (an_opening e n at head body) used rest m r = Unit {0}

-- keying, removing, peer encryption, release and beginning: the number owed; reading: as the question that waits demands; over a datagram of another
-- length: 15, and the bytes stay; a reply neither 0 nor 1: 12; every field of a reading told by the claim's own table
abbrev pub OwedIn : Inbound → InCall → Type 0
OwedIn i (husk_receiving_key r v epoch iv) = r ≡ key_owed i.into.account epoch
OwedIn i (husk_receiving_remove r v epoch) = r ≡ removal_told (remove_owed i.into epoch)
OwedIn i (husk_receiving_enable_encryption r v) = r ≡ 0
OwedIn i (husk_receiving_release_application_data r v) = r ≡ 0
OwedIn i (husk_receiving_begin r v d) = r ≡ begin_owed d
OwedIn i (husk_receiving_begin_read r v d) = (16384 < length d → r ≡ refused_told 1) × (length d ≤ 16384 → Proper a_read nothing (reading_of r) × Whole r)
OwedIn i (husk_receiving_read r v) = Proper a_read i.into.account.waits (reading_of r) × Whole r
OwedIn i (husk_receiving_mask r v m n e) =
    Proper (a_mask_reply (m ∷ n ∷ [])) i.into.account.waits (reading_of r) × Whole r
    × OwedLate i.into.account.waits i.into.used (rest_of i.into) (m ∷ n ∷ []) r
OwedIn i (husk_receiving_opened r v o len) =
    (o ≤ 1 → Proper (an_open_reply (opening_of o len)) i.into.account.waits (reading_of r)) × (1 < o → r ≡ refused_told 12) × Whole r
OwedIn i (husk_receiving_read_over r v d) = (reading_of r ≡ says.Reply) × Whole r
OwedIn i (husk_receiving_mask_over r v m n e d) = (reading_of r ≡ says.Reply) × (e ≡ d) × Whole r
OwedIn i (husk_receiving_opened_over r v o len d) = (o ≤ 1 → reading_of r ≡ says.Reply) × (1 < o → r ≡ refused_told 12) × Whole r
-- no call
OwedIn i (host_writes r p) = Unit {0}

-- the sealing of a record in the queue: kind 2, no refusal, the record behind its header, the nonce by the IV that the host keyed its epoch with, 01's header
pub record SealingOf (ivs : ℕ → List ℕ) (i : Item) (r : HuskSealing) : Type 0 where
  pub kind : r.kind ≡ 2
  pub refusal : r.refusal ≡ 0
  pub epoch : r.epoch ≡ i.epoch
  pub number : r.number ≡ i.num
  pub size : r.length + sealed_head ≡ i.size
  pub nonce : r.nonce ≡ nonce_for (ivs i.epoch) i.num
  pub header : r.header ≡ sealed_header i.epoch i.num r.length

-- no sealing is asked: kind 1, and every other field 0
abbrev pub nothing_to_seal : HuskSealing
nothing_to_seal = record { kind = 1; refusal = 0; epoch = 0; number = 0; start = 0; length = 0; nonce = no_nonce; header = 0 ∷ 0 ∷ 0 ∷ 0 ∷ 0 ∷ [] }

-- a sealing is asked exactly while a record waits, for the oldest; else kind 1
abbrev pub OwedSealing : (ℕ → List ℕ) → Option Item → HuskSealing → Type 0
OwedSealing ivs none r = r ≡ nothing_to_seal
OwedSealing ivs (some i) r = SealingOf ivs i r

-- the kind that a take is answered with, by the datagrams queued and 01's number: 1 where none is queued, 2 where one is taken, 0 where it is refused
abbrev pub kind_owed : List (List Item) → ℕ → ℕ
kind_owed [] n = 1
kind_owed (d ∷ ds) n = choose (eqb n 0) 2 0

-- a take tells its kind besides; an ACK how many records are saved behind it and how many of these not acknowledged; no other call tells more
abbrev pub OwedMore : Ledger → OutCall → Type 0
OwedMore l (husk_sending_take r v b c) = r.kind ≡ kind_owed l.queue r.refusal
OwedMore l (husk_sending_take_in_place r v) = r.kind ≡ kind_owed l.queue r.refusal
OwedMore l (husk_sending_key r v epoch iv) = Unit {0}
OwedMore l (husk_sending_send r v epoch t c p) = Unit {0}
OwedMore l (husk_sending_sealed r v len m n p) = Unit {0}
OwedMore l (husk_flight_begin r g) = Unit {0}
OwedMore l (husk_flight_send r v g m epoch t c p j) = Unit {0}
OwedMore l (husk_flight_message r v g m kind body p j) = Unit {0}
OwedMore l (husk_flight_resend r v g m p) = Unit {0}
OwedMore l (husk_flight_ack r g m c) =
    (r.unacknowledged ≡ unacked (accountAfter l (ack· c)).saved) × (r.saved ≡ length (accountAfter l (ack· c)).saved)
OwedMore l (husk_notes_add r x y z epoch number) = Unit {0}
OwedMore l (husk_notes_send r v x y z p) = Unit {0}

-- over memory that is too short a take is refused: kind 0, and in place nowhere; no other call tells more
abbrev pub OwedOver : OutCall → Type 0
OwedOver (husk_sending_take r v b c) = r.kind ≡ 0
OwedOver (husk_sending_take_in_place r v) = (r.kind ≡ 0) × (r.start ≡ 0)
OwedOver (husk_sending_key r v epoch iv) = Unit {0}
OwedOver (husk_sending_send r v epoch t c p) = Unit {0}
OwedOver (husk_sending_sealed r v len m n p) = Unit {0}
OwedOver (husk_flight_begin r g) = Unit {0}
OwedOver (husk_flight_send r v g m epoch t c p j) = Unit {0}
OwedOver (husk_flight_message r v g m kind body p j) = Unit {0}
OwedOver (husk_flight_resend r v g m p) = Unit {0}
OwedOver (husk_flight_ack r g m c) = Unit {0}
OwedOver (husk_notes_add r x y z epoch number) = Unit {0}
OwedOver (husk_notes_send r v x y z p) = Unit {0}

-- a reading dealt with: every field of the answer, by the header's numbers. Which one is told, and where its content is, by the reading that the account has
-- as waiting; of an ACK the sending account's counts, as by husk_flight_ack
abbrev pub shown_class : ℕ → ℕ → Reading → HuskClass
shown_class kind description p = record {
  kind = kind;
  refusal = 0;
  description = description;
  marked = 0;
  unacknowledged = 0;
  saved = 0;
  start = start_of p;
  length = length_of p;
}

abbrev pub bare_class : ℕ → ℕ → HuskClass
bare_class kind refusal = record { kind = kind; refusal = refusal; description = 0; marked = 0; unacknowledged = 0; saved = 0; start = 0; length = 0 }

abbrev pub ack_class : Ledger → List ℕ → Reading → HuskClass
ack_class l c p = record {
  kind = 5;
  refusal = 0;
  description = 0;
  marked = (owed l (ack· c)).told;
  unacknowledged = unacked (accountAfter l (ack· c)).saved;
  saved = length (accountAfter l (ack· c)).saved;
  start = start_of p;
  length = length_of p;
}

abbrev pub class_told : Ledger → account.Verdict → List ℕ → Reading → HuskClass
class_told l (account.turned n) c p = bare_class 0 n
class_told l account.noneWaits c p = bare_class 1 0
class_told l account.beyond c p = shown_class 2 0 p
class_told l account.unprotected c p = shown_class 3 0 p
class_told l account.ignored c p = shown_class 4 0 p
class_told l account.marks c p = ack_class l c p
class_told l account.closes c p = shown_class 6 0 p
class_told l (account.tells x) c p = shown_class 7 x p
class_told l account.handshake c p = shown_class 8 0 p
class_told l account.application_data c p = shown_class 9 0 p
class_told l account.other c p = shown_class 10 0 p
class_told l account.unopened c p = shown_class 11 0 p

-- of the reading that waits, if one does
abbrev pub class_owed : Ledger → Option account.Place → Bool → Option account.Pending → HuskClass
class_owed l close on none = bare_class 1 0
class_owed l close on (some p) = class_told l (account.reading_owed close on p.reading p.shown) p.shown p.reading

-- a sending call: 01's number and what is told besides; over memory that is too short 12, and no byte of it changes
abbrev pub Owed : Host → Act → Type 0
Owed h (inward c y) = OwedIn h.seen.into c
Owed h (husk_sending_sealing r) = OwedSealing h.seen.out.ivs (oldest (items h.seen.ledger.queue)) r
-- never refused: how many records are saved, how many of these not acknowledged; how many datagrams are queued, how many records wait to be sealed
Owed h (husk_flight_status r) =
    r ≡ record { refusal = 0; saved = length h.seen.ledger.saved; unacknowledged = unacked h.seen.ledger.saved }
Owed h (husk_sending_status r) =
    r ≡ record { refusal = 0; queued = length h.seen.ledger.queue; waiting = waiting (items h.seen.ledger.queue) }
Owed h (outward c) = (reply_of c ≡ owed h.seen.ledger (send_of c)) × OwedMore h.seen.ledger c
Owed h (outward_over c q k) =
    let m = lends h.outgoing q k in
    (reply_of c ≡ short_reply (send_of c)) × ((behind_out m c).queue ≡ q) × ((behind_out m c).kept ≡ k) × OwedOver c
Owed h (host_seals r bytes) = OwedSealing h.seen.out.ivs (oldest (items h.seen.ledger.queue)) r
-- reassembly: a record is always begun; of the next piece every field of the answer is told by the claim's own table, and the account's verdict
Owed h (husk_assembly_begin r v n) = r ≡ 0
Owed h (husk_assembly_take r v c d e) = r ≡ piece_told (pieceOwed h.seen.pieces.account c (length d))
Owed h (husk_receiving_classify r v y g m) =
    r ≡ class_owed h.seen.ledger h.seen.dealings.account.close h.seen.into.into.account.encryption h.seen.dealings.account.pending
-- over bytes of another length
Owed h (husk_receiving_classify_over r v y g m d) = r ≡ bare_class 0 15

-- of every call in the list, each by the account that it met
abbrev pub AllOwed : Hosts → List CCall → Type 0
AllOwed hs [] = Unit {0}
AllOwed hs (a ∷ cs) = Owed (hs a.side) a.act × AllOwed (after hs a) cs

-- ---- what is asked of the hosts: what the claim asks of each event, by what the hosts saw. Of the two that husk_receiving_begin_read is nothing is
-- asked, so each is asked before the call

-- f the far end, e the end of the side s
abbrev pub FairDeeds : (Side → Masks) → Side → End → End → List Deed → Type 0
FairDeeds masks s f e [] = Unit {0}
FairDeeds masks s f e (d ∷ ds) = FairDeed masks s f e d × FairDeeds masks s f e ds

-- of every call in the list, each by what the hosts saw until then
abbrev pub AllFair : (Side → Masks) → Hosts → List CCall → Type 0
AllFair masks hs [] = Unit {0}
AllFair masks hs (c ∷ cs) =
    FairDeeds masks c.side (hs (far c.side)).seen (hs c.side).seen (deeds_of c.act) × AllFair masks (after hs c) cs

-- ---- what is claimed

-- what the hosts saw
abbrev pub sight_of : Hosts → World
sight_of hs s = (hs s).seen

-- of the hosts behind a list of calls, and the world behind its events
pub record Refines (masks : Side → Masks) (settings : Side → Setting) (hs : Hosts) (cs : List CCall) : Type 0 where
  -- the events meet what the claim asks
  pub honest : Honest masks (fresh-pair settings) (events_of cs)
  -- the hosts saw the world that the events lead to, and their words stand for its states
  pub agrees : (s : Side) → (runs hs cs s).seen ≡ run (fresh-pair settings) (events_of cs) s
  pub stands : (s : Side) → Stands (runs hs cs s)
  -- every answer in the list is the definition's, and the one that the account owes
  pub answered : AllAnswered hs cs
  pub owed : AllOwed hs cs
  -- the claim of that world, and of what the hosts saw
  pub holds : (s : Side) (e : ℕ) → Holds (run (fresh-pair settings) (events_of cs)) s e
  pub saw : (s : Side) (e : ℕ) → Holds (sight_of (runs hs cs)) s e

-- every list of calls of the C library: for all settings that the starting calls accepted, all memory that they left, all masks, every list
-- of calls each of which met its contract, on either host, in any order, by hosts that answer as asked
abbrev pub EveryListOfCalls : Type 0
EveryListOfCalls =
    (settings : Side → Setting) (hs : Hosts) → ((s : Side) → Started (settings s) (hs s))
    → (masks : Side → Masks) (cs : List CCall) → AllMade hs cs → AllFair masks hs cs → Refines masks settings hs cs
