-- What a host enters in its log at each call: the history that the claim speaks of (crates history_theorem and ends_theorem), from the host's own
-- arguments, the memory behind the call and the answer. The log's state is what the words stand for, and its account is the claim's, which is
-- kept from arguments and replies alone.
use Rattle.std.specs.Prelude.{ℕ, suc, ◌+◌, eqb, leb, ltb, length, replicate, Bool, true, List, [], ◌∷◌, ◌++◌, ◌≡◌}
use Rattle.std.proofs.Math.Option.{Option, none, some}
use Rattle.base.specs.Choose.{choose}
use Rattle.base.specs.Parts.{part, splice}
use Rattle.datagram.specs.declared.Reading.TheVariants as says
use Rattle.datagram.specs.declared.Reading.{Reading}
use Rattle.datagram.specs.declared.Reason.TheVariants as reason
use Rattle.datagram.specs.declared.Reason.{Reason}
use Rattle.opening_reply.specs.Opening.{shown_by}
use Rattle.receiving.specs.declared.Read.{Read}
use Rattle.receiving.specs.declared.Receiving.{Receiving}
use Rattle.sealing.specs.Sealing.{question_of}
use Rattle.answers.specs.declared.HuskTold.{HuskTold}
use Rattle.recv_key_steps.specs.Kept.{state_of}
use Rattle.recv_calls.specs.Flat.{flat_reading, opening_of}
use Rattle.recv_calls.specs.declared.HuskReading.{HuskReading}
use Rattle.send_words.specs.Words as sendWords
use Rattle.send_calls.specs.Calls as sends
use Rattle.send_calls.specs.declared.HuskSealing.{HuskSealing}
use Rattle.send_calls.specs.declared.HuskTake.{HuskTake}
use Rattle.send_calls.specs.declared.HuskPart.{HuskPart}
use Rattle.flight_words.specs.Words.{flight_of}
use Rattle.status_calls.specs.Calls as status
use Rattle.status_calls.specs.declared.HuskSaved.{HuskSaved}
use Rattle.status_calls.specs.declared.HuskQueued.{HuskQueued}
use Rattle.ack_calls.specs.Calls as acks
use Rattle.ack_calls.specs.declared.HuskAcked.{HuskAcked}
use Rattle.assembly_calls.specs.Calls as pieces
use Rattle.assembly_calls.specs.declared.HuskPiece.{HuskPiece}
use Rattle.waiting_laws.specs.Calls.{Stores, SendCall, key_send·, send·, save·, message·, begin_flight·, resend·, note·, send_ack·, ack·, fill·, sealed·, take·, Reply, only}
use Rattle.history_theorem.specs.Account.{upd, key_owed, keys, is_in}
use Rattle.history_theorem.specs.Receiver.{Sealed, Receiver, Out, with_state, flagged, removed_from, remove_owed, starts_on, begin_owed, leaves_rest, Inbound, takes, tells, logs, strays, read_by, mask_by, open_by, use_of, unused, fate_of}
use Rattle.ends_theorem.specs.Ledger.{owed, after, sent_by, short_reply, clears}
use Rattle.ends_theorem.specs.Sender.{Books, Lent, Sender, first_bytes, sealed_as, finish, enters_all}
use Rattle.assembly_theorem.specs.Account.{Verdict, begun, turned, ended, over, other, same, held, whole}
use Rattle.assembly_theorem.specs.Claim as assembly
use Rattle.classify_calls.specs.Calls as classify
use Rattle.classify_calls.specs.declared.HuskClass.{HuskClass}
use Rattle.classify_theorem.specs.Account as account
use Rattle.classify_theorem.specs.Claim as dealing
use Rattle.ends_theorem.specs.World.{Count, Took, End, takes_in, puts, files}
use Rattle.hosts_theorem.specs.Memory.{Incoming, Outgoing, InCall, husk_receiving_key, husk_receiving_remove, husk_receiving_enable_encryption, husk_receiving_release_application_data, husk_receiving_begin, husk_receiving_begin_read, husk_receiving_read, husk_receiving_mask, husk_receiving_opened, husk_receiving_read_over, husk_receiving_mask_over, husk_receiving_opened_over, host_writes, OutCall, husk_sending_key, husk_sending_send, husk_sending_sealed, husk_sending_take, husk_sending_take_in_place, husk_flight_begin, husk_flight_send, husk_flight_message, husk_flight_resend, husk_flight_ack, husk_notes_add, husk_notes_send, MadeIn, MadePending, MadeOut, queues, flies, behind_in, behind_out, lends}

-- ---- what an answer of a reading call says

-- a reading as the library answers it
abbrev pub flat_read : Read → HuskReading
flat_read k = flat_reading k.reading k.nonce

-- the numbers of the refusals that drop one record, 01's and 02's
unfoldable pub reason_in : ℕ → Reason
reason_in n =
    choose (eqb n 4) reason.Invalid
    (choose (eqb n 5) reason.EarlyBits
    (choose (eqb n 6) reason.NoKeys
    (choose (eqb n 7) reason.TooShort
    (choose (eqb n 8) reason.TooHigh
    (choose (eqb n 9) reason.Seen (choose (eqb n 26) reason.TooOld (choose (eqb n 10) reason.NotOpened reason.NoContentType)))))))

-- by its kind, as the header lists them: refused, the datagram's end, a record dropped, plaintext, unopened, opened; a mask or an opening asked
unfoldable pub reading_of : HuskReading → Reading
reading_of r =
    choose (eqb r.kind 0) (choose (eqb r.refusal 12) says.Setting says.Reply)
    (choose (eqb r.kind 1) (choose (eqb r.refusal 2) says.Incomplete (choose (eqb r.refusal 3) says.TooMany says.End))
    (choose (eqb r.kind 2) (says.Dropped (reason_in r.refusal))
    (choose (eqb r.kind 3) (says.Plaintext r.content_type r.number r.start r.length)
    (choose (eqb r.kind 4) (says.Unopened r.epoch r.number r.start r.length)
    (choose (eqb r.kind 5) (says.Opened r.epoch r.number r.content_type r.start r.length)
    (choose (eqb r.kind 6) (says.Mask r.epoch r.start)
    (says.Opening r.epoch r.number r.start r.header_len r.length)))))))

-- ---- and how the header has each reading told, by its own numbers

-- the numbers of the refusals that drop one record, 01's and 02's
abbrev pub reason_told : Reason → ℕ
reason_told reason.Invalid = 4
reason_told reason.EarlyBits = 5
reason_told reason.NoKeys = 6
reason_told reason.TooShort = 7
reason_told reason.TooHigh = 8
reason_told reason.Seen = 9
reason_told reason.TooOld = 26
reason_told reason.NotOpened = 10
reason_told reason.NoContentType = 11

-- twelve zeros, where no opening is asked
abbrev pub no_nonce : List ℕ
no_nonce = 0 ∷ 0 ∷ 0 ∷ 0 ∷ 0 ∷ 0 ∷ 0 ∷ 0 ∷ 0 ∷ 0 ∷ 0 ∷ 0 ∷ []

-- refused: kind 0 and 01's number, and every other field 0
abbrev pub refused_told : ℕ → HuskReading
refused_told n = record { kind = 0; refusal = n; content_type = 0; epoch = 0; number = 0; start = 0; header_len = 0; length = 0; nonce = no_nonce }

-- a record dropped: kind 2 and the number, and every other field 0
abbrev pub dropped_told : ℕ → HuskReading
dropped_told n = record { kind = 2; refusal = n; content_type = 0; epoch = 0; number = 0; start = 0; header_len = 0; length = 0; nonce = no_nonce }

-- every field of the answer that tells a reading; the nonce is an opening's, and every field that a kind does not use is 0
abbrev pub told : Reading → List ℕ → HuskReading
told says.Setting nonce = record { kind = 0; refusal = 12; content_type = 0; epoch = 0; number = 0; start = 0; header_len = 0; length = 0; nonce = no_nonce }
told says.Reply nonce = record { kind = 0; refusal = 15; content_type = 0; epoch = 0; number = 0; start = 0; header_len = 0; length = 0; nonce = no_nonce }
told says.End nonce = record { kind = 1; refusal = 0; content_type = 0; epoch = 0; number = 0; start = 0; header_len = 0; length = 0; nonce = no_nonce }
told says.Incomplete nonce = record { kind = 1; refusal = 2; content_type = 0; epoch = 0; number = 0; start = 0; header_len = 0; length = 0; nonce = no_nonce }
told says.TooMany nonce = record { kind = 1; refusal = 3; content_type = 0; epoch = 0; number = 0; start = 0; header_len = 0; length = 0; nonce = no_nonce }
told (says.Dropped why) nonce = dropped_told (reason_told why)
told (says.Plaintext t n s l) nonce = record { kind = 3; refusal = 0; content_type = t; epoch = 0; number = n; start = s; header_len = 0; length = l; nonce = no_nonce }
told (says.Unopened b n s l) nonce = record { kind = 4; refusal = 0; content_type = 0; epoch = b; number = n; start = s; header_len = 0; length = l; nonce = no_nonce }
told (says.Opened e n t s l) nonce = record { kind = 5; refusal = 0; content_type = t; epoch = e; number = n; start = s; header_len = 0; length = l; nonce = no_nonce }
told (says.Mask e s) nonce = record { kind = 6; refusal = 0; content_type = 0; epoch = e; number = 0; start = s; header_len = 0; length = 16; nonce = no_nonce }
told (says.Opening e n s h l) nonce = record { kind = 7; refusal = 0; content_type = 0; epoch = e; number = n; start = s; header_len = h; length = l; nonce = nonce }

-- an answer of a reading call has every field as the reading that it says is told
abbrev pub Whole : HuskReading → Type 0
Whole r = r ≡ told (reading_of r) r.nonce

-- a reading call: the answer, the state that the words behind it stand for, the datagram's bytes behind it
abbrev pub out_by : HuskReading → List ℕ → List ℕ → Out
out_by r v d = record { state = state_of v; datagram = d; reading = reading_of r; nonce = r.nonce }

-- ---- the log of a receiving host

-- 01's number of a removal: the refusal, else 6 where a record was dropped with its epoch
unfoldable pub number_told : HuskTold → ℕ
number_told r = choose (eqb r.refusal 0) (choose (eqb r.told 1) 6 0) r.refusal

-- an epoch removed: a record whose question was of that epoch loses it
abbrev pub removed_to : Receiver → Receiving → ℕ → Receiver
removed_to y s e = choose (is_in e y.account.keyed) (removed_from y s e y.trial) (with_state y s y.account)

-- a datagram begun or refused: each has a serial number
abbrev pub begins_to : Inbound → Receiver → ℕ → ℕ → List ℕ → Inbound
begins_to i y serial r d = record {
  into = y;
  serial = serial;
  last_serial = suc i.last_serial;
  moves = record { datagram = suc i.last_serial; spends = unused; before = i.into.state.keys; behind = y.state.keys } ∷ i.moves;
  strays = i.strays;
  told = record { answer = r; owed = begin_owed d } ∷ i.told;
}

-- begun: the cut stands at its start, and no question waits
abbrev pub accepted : Inbound → Receiving → ℕ → List ℕ → Inbound
accepted i s r d = begins_to i (starts_on i.into s d) (suc i.last_serial) r d

-- refused: the earlier datagram and its question live on
abbrev pub refused : Inbound → Receiving → ℕ → List ℕ → Inbound
refused i s r d = begins_to i (with_state i.into s i.into.account) i.serial r d

-- a read: the record that it comes to, the answer and the question that then waits
abbrev pub reads : (ℕ → List Sealed) → Inbound → Out → Inbound
reads sealed i o = logs i (read_by i.into sealed i.into.account.waits o) i.serial unused

-- nothing but the words
abbrev pub rewords : Inbound → List ℕ → Inbound
rewords i v = takes i (with_state i.into (state_of v) i.into.account)

-- other bytes in the begun datagram
abbrev pub with_bytes : Receiver → List ℕ → Receiver
with_bytes y d = record {
  state = y.state;
  datagram = d;
  arrived = y.arrived;
  account = y.account;
  used = y.used;
  handed = y.handed;
  trial = y.trial;
  tried = y.tried;
  spoken = y.spoken;
  lost = y.lost;
}

-- the log behind a call, the far host having sealed these records by then
abbrev pub entered_in : (ℕ → List Sealed) → Inbound → InCall → Inbound
entered_in sealed i (husk_receiving_key r v epoch iv) =
    tells i (with_state i.into (state_of v) (keys i.into.account epoch iv)) r (key_owed i.into.account epoch)
entered_in sealed i (husk_receiving_remove r v epoch) = tells i (removed_to i.into (state_of v) epoch) (number_told r) (remove_owed i.into epoch)
entered_in sealed i (husk_receiving_enable_encryption r v) =
    tells i (with_state i.into (state_of v) (flagged i.into.account true i.into.account.released)) r 0
entered_in sealed i (husk_receiving_release_application_data r v) =
    tells i (with_state i.into (state_of v) (flagged i.into.account i.into.account.encryption true)) r 0
entered_in sealed i (husk_receiving_begin r v d) = choose (eqb r 0) (accepted i (state_of v) r d) (refused i (state_of v) r d)
-- the words between beginning and reading are not seen; no key changes between them
entered_in sealed i (husk_receiving_begin_read r v d) =
    choose (ltb 16384 (length d)) (refused i (state_of v) r.refusal d) (reads sealed (accepted i i.into.state 0 d) (out_by r v d))
entered_in sealed i (husk_receiving_read r v) = reads sealed i (out_by r v i.into.datagram)
entered_in sealed i (husk_receiving_mask r v m n e) = logs i (mask_by i.into (m ∷ n ∷ []) (out_by r v e)) i.serial unused
-- a reply is 0 or 1
entered_in sealed i (husk_receiving_opened r v o len) =
    choose (leb o 1)
    (logs i (open_by i.into (opening_of o len) (out_by r v i.into.datagram)) i.serial
    (use_of i.into.account.waits (opening_of o len) (fate_of (reading_of r)))) (rewords i v)
entered_in sealed i (husk_receiving_read_over r v d) = strays i d (out_by r v d)
entered_in sealed i (husk_receiving_mask_over r v m n e d) = strays i d (out_by r v e)
entered_in sealed i (husk_receiving_opened_over r v o len d) = choose (leb o 1) (strays i d (out_by r v d)) (rewords i v)
entered_in sealed i (host_writes r p) = takes i (with_bytes i.into (splice (r.start + r.header_len) p i.into.datagram))

-- ---- the log of a sending host

-- what the memory stands for
abbrev pub stores_of : Outgoing → Stores
stores_of h = record {
  state = sendWords.state_of h.words;
  queue = h.queue;
  flight = flight_of h.flight h.numbers;
  kept = h.kept;
  notes = acks.notes_of h.count h.epochs h.noted;
}

-- a buffer that holds every datagram
unfoldable pub zeros_of : ℕ → List ℕ
zeros_of n = replicate n 0

-- the claim's call
abbrev pub send_of : OutCall → SendCall
send_of (husk_sending_key r v epoch iv) = key_send· epoch iv
send_of (husk_sending_send r v epoch t c p) = send· epoch t c
send_of (husk_sending_sealed r v len m n p) = sealed· len (sends.masks m n)
send_of (husk_sending_take r v b c) = take· b
-- a take into a buffer that holds every datagram
send_of (husk_sending_take_in_place r v) = take· (zeros_of 65535)
send_of (husk_flight_begin r g) = begin_flight·
send_of (husk_flight_send r v g m epoch t c p j) = save· epoch t c
send_of (husk_flight_message r v g m kind body p j) = message· kind body
send_of (husk_flight_resend r v g m p) = resend·
send_of (husk_flight_ack r g m c) = ack· c
send_of (husk_notes_add r x y z epoch number) = note· epoch number
send_of (husk_notes_send r v x y z p) = send_ack·

-- what is told beside the refusal: how many were sent again, 1 where a record was noted or an ACK sent
abbrev pub told_reply : HuskTold → Reply
told_reply r = record { number = r.refusal; told = r.told }

-- of an ACK: how many it newly marked
abbrev pub acked_reply : HuskAcked → Reply
acked_reply r = record { number = r.refusal; told = r.marked }

-- what the host sees of a call: 01's number and what is told besides
abbrev pub reply_of : OutCall → Reply
reply_of (husk_sending_key r v epoch iv) = only r
reply_of (husk_sending_send r v epoch t c p) = only r
reply_of (husk_sending_sealed r v len m n p) = only r
reply_of (husk_sending_take r v b c) = record { number = r.refusal; told = r.length }
reply_of (husk_sending_take_in_place r v) = record { number = r.refusal; told = r.length }
reply_of (husk_flight_begin r g) = only r
reply_of (husk_flight_send r v g m epoch t c p j) = only r
reply_of (husk_flight_message r v g m kind body p j) = only r
reply_of (husk_flight_resend r v g m p) = told_reply r
reply_of (husk_flight_ack r g m c) = acked_reply r
reply_of (husk_notes_add r x y z epoch number) = told_reply r
reply_of (husk_notes_send r v x y z p) = told_reply r

-- what husk_sending_sealing answers over these words
abbrev pub sealing_of : List ℕ → HuskSealing
sealing_of w = sends.Seals w (question_of (sendWords.state_of w))

-- kind 2 shows a question; the bytes first shown stay with one that is shown again
abbrev pub shows_now : HuskSealing → List ℕ → Option Lent → Option Lent
shows_now r q old =
    choose (eqb r.kind 2)
    (some (record {
      epoch = r.epoch;
      num = r.number;
      nonce = r.nonce;
      header = r.header;
      place = r.start;
      size = r.length;
      bytes = first_bytes old r.epoch r.number (part r.start r.length q);
    })) none

-- the logs of what was sent and shown behind a call, h the memory behind it
abbrev pub turns_to : Sender → Outgoing → Books → (ℕ → List ℕ) → (ℕ → List Sealed) → List (List ℕ) → Sender
turns_to x h b ivs sealed taken = record {
  stores = stores_of h;
  books = b;
  ivs = ivs;
  lent = shows_now (sealing_of h.words) h.queue x.lent;
  sealed = sealed;
  taken = taken;
}

-- answered 0, the record that the question showed is sealed
abbrev pub seals_now : ℕ → Option Lent → List ℕ → List ℕ → (ℕ → List Sealed) → ℕ → List Sealed
seals_now r none before behind f = f
seals_now r (some l) before behind f = choose (eqb r 0) (upd f l.epoch (sealed_as l before behind ∷ f l.epoch)) f

-- and finished in the order of those sent
abbrev pub finishes_now : ℕ → Option Lent → List ℕ → List ℕ → Books → Books
finishes_now r none before behind b = b
finishes_now r (some l) before behind b =
    choose (eqb r 0) (record { sent = b.sent; lines = finish l.epoch l.num (sealed_as l before behind).wire b.lines }) b

-- kind 2: a datagram, at the start of the buffer
abbrev pub takes_one : HuskTake → List ℕ → List (List ℕ) → List (List ℕ)
takes_one r c ts = choose (eqb r.kind 2) (ts ++ (part 0 r.length c ∷ [])) ts

-- or where it lies in the queue
abbrev pub takes_part : HuskPart → List ℕ → List (List ℕ) → List (List ℕ)
takes_part r q ts = choose (eqb r.kind 2) (ts ++ (part r.start r.length q ∷ [])) ts

-- a take: the answer, and the buffer before and behind it
abbrev pub took_now : Outgoing → OutCall → List Took → List Took
took_now h (husk_sending_take r v b c) ts = record { reply = reply_of (husk_sending_take r v b c); before = b; behind = c } ∷ ts
took_now h (husk_sending_take_in_place r v) ts =
    record {
      reply = reply_of (husk_sending_take_in_place r v);
      before = zeros_of 65535;
      behind = splice 0 (part r.start r.length h.queue) (zeros_of 65535);
    } ∷ ts
took_now h (husk_sending_key r v epoch iv) ts = ts
took_now h (husk_sending_send r v epoch t c p) ts = ts
took_now h (husk_sending_sealed r v len m n p) ts = ts
took_now h (husk_flight_begin r g) ts = ts
took_now h (husk_flight_send r v g m epoch t c p j) ts = ts
took_now h (husk_flight_message r v g m kind body p j) ts = ts
took_now h (husk_flight_resend r v g m p) ts = ts
took_now h (husk_flight_ack r g m c) ts = ts
took_now h (husk_notes_add r x y z epoch number) ts = ts
took_now h (husk_notes_send r v x y z p) ts = ts

-- a sending call entered: the answer beside what the account owes; the account behind it, and the records that go with a flight which an ACK empties
abbrev pub enters : End → SendCall → Reply → Sender → List Took → Option (List ℕ) → End
enters e c r x took given = record {
  mtu = e.mtu;
  limit = e.limit;
  out = x;
  ledger = after e.ledger c;
  said = record { reply = r; owed = owed e.ledger c } ∷ e.said;
  took = took;
  overs = e.overs;
  given = given;
  cleared = clears e.ledger c ++ e.cleared;
  into = e.into;
  counts = e.counts;
  dealings = e.dealings;
  pieces = e.pieces;
}

-- x the logs before, h and g the memory before and behind the call, b the books with what it sent: a keying, a sealing reply and a take add besides
abbrev pub sender_to : Sender → Outgoing → Outgoing → Books → OutCall → Sender
sender_to x h g b (husk_sending_key r v epoch iv) = turns_to x g b (choose (eqb r 0) (upd x.ivs epoch iv) x.ivs) x.sealed x.taken
sender_to x h g b (husk_sending_sealed r v len m n p) =
    turns_to x g (finishes_now r x.lent h.queue p b) x.ivs (seals_now r x.lent h.queue p x.sealed) x.taken
sender_to x h g b (husk_sending_take r v a c) = turns_to x g b x.ivs x.sealed (takes_one r c x.taken)
sender_to x h g b (husk_sending_take_in_place r v) = turns_to x g b x.ivs x.sealed (takes_part r h.queue x.taken)
sender_to x h g b (husk_sending_send r v epoch t c p) = turns_to x g b x.ivs x.sealed x.taken
sender_to x h g b (husk_flight_begin r k) = turns_to x g b x.ivs x.sealed x.taken
sender_to x h g b (husk_flight_send r v k m epoch t c p j) = turns_to x g b x.ivs x.sealed x.taken
sender_to x h g b (husk_flight_message r v k m kind body p j) = turns_to x g b x.ivs x.sealed x.taken
sender_to x h g b (husk_flight_resend r v k m p) = turns_to x g b x.ivs x.sealed x.taken
sender_to x h g b (husk_flight_ack r k m c) = turns_to x g b x.ivs x.sealed x.taken
sender_to x h g b (husk_notes_add r n y z epoch number) = turns_to x g b x.ivs x.sealed x.taken
sender_to x h g b (husk_notes_send r v n y z p) = turns_to x g b x.ivs x.sealed x.taken

-- what the host wrote last is given until its sealing reply is answered 0
abbrev pub given_now : OutCall → Option (List ℕ) → Option (List ℕ)
given_now (husk_sending_sealed r v len m n p) o = choose (eqb r 0) none o
given_now (husk_sending_key r v epoch iv) o = o
given_now (husk_sending_send r v epoch t c p) o = o
given_now (husk_sending_take r v b c) o = o
given_now (husk_sending_take_in_place r v) o = o
given_now (husk_flight_begin r g) o = o
given_now (husk_flight_send r v g m epoch t c p j) o = o
given_now (husk_flight_message r v g m kind body p j) o = o
given_now (husk_flight_resend r v g m p) o = o
given_now (husk_flight_ack r g m c) o = o
given_now (husk_notes_add r x y z epoch number) o = o
given_now (husk_notes_send r v x y z p) o = o

-- the records that the account has as sent go into the books
abbrev pub sent_to : End → SendCall → Books
sent_to e c = enters_all (sent_by e.ledger c) e.out.books

-- a call over the host's own memory
abbrev pub entered_out : End → Outgoing → Outgoing → OutCall → End
entered_out e h g c =
    enters e (send_of c) (reply_of c) (sender_to e.out h g (sent_to e (send_of c)) c) (took_now h c e.took) (given_now c e.given)

-- the host's own writing, into the part that it was asked to seal
abbrev pub entered_fill : End → Outgoing → List ℕ → End
entered_fill e g bytes =
    enters e (fill· bytes) (only 0) (turns_to e.out g (sent_to e (fill· bytes)) e.out.ivs e.out.sealed e.out.taken) e.took (some bytes)

-- a call over other memory h: g what it left there, own the host's own memory behind it
abbrev pub entered_over : End → Outgoing → Outgoing → Outgoing → OutCall → End
entered_over e h g own c = record {
  mtu = e.mtu;
  limit = e.limit;
  out = turns_to e.out own e.out.books e.out.ivs e.out.sealed e.out.taken;
  ledger = e.ledger;
  said = record { reply = reply_of c; owed = short_reply (send_of c) } ∷ e.said;
  took = took_now h c e.took;
  overs = record { queue = h.queue; queue' = g.queue; kept = h.kept; kept' = g.kept } ∷ e.overs;
  given = e.given;
  cleared = e.cleared;
  into = e.into;
  counts = e.counts;
  dealings = e.dealings;
  pieces = e.pieces;
}

-- ---- a call of reassembly

-- what an answer tells, by its kind and number, as the header lists them
unfoldable pub verdict_in : HuskPiece → Verdict
verdict_in r =
    choose (eqb r.kind 0) (choose (leb 24 r.refusal) (ended r.refusal) (turned r.refusal))
    (choose (eqb r.kind 1) over
    (choose (eqb r.kind 2) (other r.number) (choose (eqb r.kind 3) same (choose (eqb r.kind 4) held (whole r.msg_type r.number r.length)))))

-- every field of the answer that tells it, by the header's numbers: 16 tells what the buffer needs; of a record begun there is no such answer
abbrev pub piece_told : Verdict → HuskPiece
piece_told begun = record { kind = 0; refusal = 0; msg_type = 0; number = 0; length = 0 }
piece_told (turned n) = record { kind = 0; refusal = n; msg_type = 0; number = 0; length = choose (eqb n 16) 16384 0 }
piece_told (ended n) = record { kind = 0; refusal = n; msg_type = 0; number = 0; length = 0 }
piece_told over = record { kind = 1; refusal = 0; msg_type = 0; number = 0; length = 0 }
piece_told (other n) = record { kind = 2; refusal = 0; msg_type = 0; number = n; length = 0 }
piece_told same = record { kind = 3; refusal = 0; msg_type = 0; number = 0; length = 0 }
piece_told held = record { kind = 4; refusal = 0; msg_type = 0; number = 0; length = 0 }
piece_told (whole k n l) = record { kind = 5; refusal = 0; msg_type = k; number = n; length = l }

-- 0 where the record is begun, else the number of the refusal
abbrev pub verdict_of_begin : ℕ → Verdict
verdict_of_begin r = choose (eqb r 0) begun (turned r)

-- ---- readings told and dealt with

-- nothing but the words
abbrev pub reworded : dealing.Dealings → List ℕ → dealing.Dealings
reworded p y = record { words = y; account = p.account; told = p.told; dealt = p.dealt; missed = p.missed }

-- an answer of a reading call over the datagram d
abbrev pub notes_in : dealing.Dealings → HuskReading → List ℕ → List ℕ → dealing.Dealings
notes_in p r d y = record {
  words = y;
  account = account.hears p.account (reading_of r) (shown_by (reading_of r) d);
  told = p.told;
  dealt = p.dealt;
  missed = dealing.missed_by (reading_of r) p.account.pending p.missed;
}

-- a datagram begun, where that was answered 0
abbrev pub starts_in : dealing.Dealings → Bool → List ℕ → dealing.Dealings
starts_in p done y = record {
  words = y;
  account = choose done (account.begins p.account) p.account;
  told = p.told;
  dealt = p.dealt;
  missed = choose done (dealing.leaves_behind p.account.pending p.missed) p.missed;
}

-- behind a receiving call over the begun datagram d: y the words of the reading that waits behind it
abbrev pub dealings_to : dealing.Dealings → List ℕ → InCall → List ℕ → dealing.Dealings
dealings_to p d (husk_receiving_begin r v b) y = starts_in p (eqb r 0) y
dealings_to p d (husk_receiving_begin_read r v b) y = choose (ltb 16384 (length b)) (reworded p y) (notes_in (starts_in p true y) r b y)
dealings_to p d (husk_receiving_read r v) y = notes_in p r d y
dealings_to p d (husk_receiving_opened r v o len) y = choose (leb o 1) (notes_in p r d y) (reworded p y)
dealings_to p d (husk_receiving_read_over r v b) y = reworded p y
dealings_to p d (husk_receiving_opened_over r v o len b) y = reworded p y
dealings_to p d (husk_receiving_key r v epoch iv) y = reworded p y
dealings_to p d (husk_receiving_remove r v epoch) y = reworded p y
dealings_to p d (husk_receiving_enable_encryption r v) y = reworded p y
dealings_to p d (husk_receiving_release_application_data r v) y = reworded p y
dealings_to p d (husk_receiving_mask r v m n e) y = reworded p y
dealings_to p d (husk_receiving_mask_over r v m n e b) y = reworded p y
dealings_to p d (host_writes r b) y = reworded p y

-- what an answer tells, by its kind, as the header lists them
unfoldable pub class_verdict : HuskClass → account.Verdict
class_verdict r =
    choose (eqb r.kind 0) (account.turned r.refusal)
    (choose (eqb r.kind 1) account.noneWaits
    (choose (eqb r.kind 2) account.beyond
    (choose (eqb r.kind 3) account.unprotected
    (choose (eqb r.kind 4) account.ignored
    (choose (eqb r.kind 5) account.marks
    (choose (eqb r.kind 6) account.closes
    (choose (eqb r.kind 7) (account.tells r.description)
    (choose (eqb r.kind 8) account.handshake
    (choose (eqb r.kind 9) account.application_data (choose (eqb r.kind 10) account.other account.unopened))))))))))

-- with the bytes of the datagram that it shows
unfoldable pub reply_in : HuskClass → List ℕ → account.Reply
reply_in r d = record { verdict = class_verdict r; content = choose (leb r.kind 1) [] (part r.start r.length d) }

abbrev pub deals_in : dealing.Dealings → Bool → HuskClass → List ℕ → List ℕ → dealing.Dealings
deals_in p on r y d = record {
  words = y;
  account = account.deals p.account on;
  told = record { reply = reply_in r d; owed = account.owed p.account on } ∷ p.told;
  dealt = dealing.enters_as p.account on (reply_in r d) p.account.pending p.dealt;
  missed = p.missed;
}

-- over bytes d of another length
abbrev pub deals_over_in : dealing.Dealings → HuskClass → List ℕ → List ℕ → dealing.Dealings
deals_over_in p r y d = record {
  words = y;
  account = p.account;
  told = record { reply = reply_in r d; owed = account.bare (account.turned 15) } ∷ p.told;
  dealt = p.dealt;
  missed = p.missed;
}

-- kind 5: an ACK was acted on, as by husk_flight_ack; kind 7: what is left of the datagram is not read
abbrev pub acked_by : HuskClass → HuskAcked
acked_by r = record { refusal = 0; marked = r.marked; unacknowledged = r.unacknowledged; saved = r.saved }

abbrev pub left_in : Inbound → List ℕ → Inbound
left_in i v =
    logs i (with_state i.into (state_of v) (leaves_rest i.into.account (length i.into.arrived) i.into.account.waits)) i.serial unused

-- ---- a host: its memory, and its log, which the claim speaks of as an end

-- the words of the reading that waits and those of husk_assembly_init beside the memory of the two directions; seen is entered from arguments, memory and
-- answers alone
pub record Host : Type 0 where
  pub incoming : Incoming
  pub pending : List ℕ
  pub outgoing : Outgoing
  pub assembly : List ℕ
  pub seen : End

-- a call that reads the datagram with this serial number is counted; the keys to send are not lent to it
abbrev pub count : End → ℕ → List Count → List Count
count e k cs = record { datagram = k; before = e.out.stores.state.keys; behind = e.out.stores.state.keys } ∷ cs

-- keying, removing, peer encryption, release and the host's writing read none
abbrev pub counts_to : End → InCall → List Count
counts_to e (husk_receiving_key r v epoch iv) = e.counts
counts_to e (husk_receiving_remove r v epoch) = e.counts
counts_to e (husk_receiving_enable_encryption r v) = e.counts
counts_to e (husk_receiving_release_application_data r v) = e.counts
counts_to e (husk_receiving_begin r v d) = count e (suc e.into.last_serial) e.counts
counts_to e (husk_receiving_begin_read r v d) =
    choose (ltb 16384 (length d)) (count e (suc e.into.last_serial) e.counts)
    (count e (suc e.into.last_serial) (count e (suc e.into.last_serial) e.counts))
counts_to e (husk_receiving_read r v) = count e e.into.serial e.counts
counts_to e (husk_receiving_mask r v m n b) = count e e.into.serial e.counts
counts_to e (husk_receiving_opened r v o len) = choose (leb o 1) (count e e.into.serial e.counts) e.counts
counts_to e (husk_receiving_read_over r v d) = count e e.into.serial e.counts
counts_to e (husk_receiving_mask_over r v m n b d) = count e e.into.serial e.counts
counts_to e (husk_receiving_opened_over r v o len d) = choose (leb o 1) (count e e.into.serial e.counts) e.counts
counts_to e (host_writes r p) = e.counts

-- a reading dealt with: g and m the flight's words and numbers behind it
abbrev pub flown : Outgoing → List ℕ → List ℕ → Outgoing
flown h g m = flies h h.words h.queue g m h.kept

abbrev pub follows_in : End → Outgoing → HuskClass → List ℕ → List ℕ → List ℕ → End
follows_in e h r v g m =
    choose (eqb r.kind 5) (entered_out e h (flown h g m) (husk_flight_ack (acked_by r) g m (part r.start r.length e.into.into.datagram)))
    (choose (eqb r.kind 7) (takes_in e (left_in e.into v) (count e e.into.serial e.counts) e.dealings) e)

-- a call at a host: receiving, y what it left of the reading that waits; only asking; sending over the host's own memory; sending over another queue q and other memory k for saved contents
pub data Act : Type 0 where
  inward : (c : InCall) (y : List ℕ) → Act
  husk_sending_sealing : (r : HuskSealing) → Act
  husk_flight_status : (r : HuskSaved) → Act
  husk_sending_status : (r : HuskQueued) → Act
  outward : OutCall → Act
  outward_over : (c : OutCall) (q k : List ℕ) → Act
  -- no call: r is what husk_sending_sealing answers, and the host writes as many bytes as it names into the part of the queue that it names
  host_seals : (r : HuskSealing) (bytes : List ℕ) → Act
  -- reassembly: v the words behind it, c the record's content, d the buffer before it and e behind
  husk_assembly_begin : (r : ℕ) (v : List ℕ) (n : ℕ) → Act
  husk_assembly_take : (r : HuskPiece) (v c d e : List ℕ) → Act
  -- the reading that waits is dealt with: v, y, g, m left in the words, the reading that waits, the flight and its numbers; the same over other bytes d
  husk_receiving_classify : (r : HuskClass) (v y g m : List ℕ) → Act
  husk_receiving_classify_over : (r : HuskClass) (v y g m d : List ℕ) → Act

-- it was made: its own contract, over the host's memory
abbrev pub Made : Host → Act → Type 0
Made h (inward c y) = MadeIn h.incoming c × MadePending c h.pending y
Made h (husk_sending_sealing r) = sends.SealingCall r h.outgoing.words
Made h (husk_flight_status r) = status.FlightStatusCall r h.outgoing.flight
Made h (husk_sending_status r) = status.SendingStatusCall r h.outgoing.words
Made h (outward c) = MadeOut h.outgoing c
Made h (outward_over c q k) = MadeOut (lends h.outgoing q k) c
Made h (host_seals r bytes) = sends.SealingCall r h.outgoing.words × (r.kind ≡ 2) × (length bytes ≡ r.length)
Made h (husk_assembly_begin r v n) = pieces.BeginCall r v h.assembly n
Made h (husk_assembly_take r v c d e) = pieces.TakeCall r v h.assembly c e d
Made h (husk_receiving_classify r v y g m) =
    classify.ClassifyCall r v h.incoming.words y h.pending g h.outgoing.flight m h.outgoing.numbers h.incoming.datagram
Made h (husk_receiving_classify_over r v y g m d) =
    classify.ClassifyCall r v h.incoming.words y h.pending g h.outgoing.flight m h.outgoing.numbers d

-- the queue behind the host's writing
abbrev pub sealed_in : Outgoing → HuskSealing → List ℕ → Outgoing
sealed_in h r bytes = queues h h.words (splice r.start bytes h.queue)

-- what was done over other memory: the host's own queue and saved contents stay
abbrev pub returns : Outgoing → Outgoing → Outgoing
returns h g = lends g h.queue h.kept

-- memory and log behind it; f the far host
abbrev pub behind : Host → Host → Act → Host
behind f h (inward c y) = record {
  incoming = behind_in h.incoming c;
  pending = y;
  outgoing = h.outgoing;
  assembly = h.assembly;
  seen =
      takes_in h.seen (entered_in f.seen.out.sealed h.seen.into c) (counts_to h.seen c)
      (dealings_to h.seen.dealings h.seen.into.into.datagram c y);
}
behind f h (husk_sending_sealing r) = h
behind f h (husk_flight_status r) = h
behind f h (husk_sending_status r) = h
behind f h (outward c) = record {
  incoming = h.incoming;
  pending = h.pending;
  outgoing = behind_out h.outgoing c;
  assembly = h.assembly;
  seen = entered_out h.seen h.outgoing (behind_out h.outgoing c) c;
}
behind f h (outward_over c q k) =
    let o = lends h.outgoing q k in
    let g = behind_out o c in
    record { incoming = h.incoming; pending = h.pending; outgoing = returns h.outgoing g; assembly = h.assembly; seen = entered_over h.seen o g (returns h.outgoing g) c }
behind f h (host_seals r bytes) = record {
  incoming = h.incoming;
  pending = h.pending;
  outgoing = sealed_in h.outgoing r bytes;
  assembly = h.assembly;
  seen = entered_fill h.seen (sealed_in h.outgoing r bytes) bytes;
}
behind f h (husk_assembly_begin r v n) = record {
  incoming = h.incoming;
  pending = h.pending;
  outgoing = h.outgoing;
  assembly = v;
  seen = puts h.seen (assembly.starts h.seen.pieces n (verdict_of_begin r) v);
}
behind f h (husk_assembly_take r v c d e) = record {
  incoming = h.incoming;
  pending = h.pending;
  outgoing = h.outgoing;
  assembly = v;
  seen = puts h.seen (assembly.takes h.seen.pieces c d (verdict_in r) v e);
}
behind f h (husk_receiving_classify r v y g m) = record {
  incoming = record { words = v; datagram = h.incoming.datagram };
  pending = y;
  outgoing = flown h.outgoing g m;
  assembly = h.assembly;
  seen =
      files (follows_in h.seen h.outgoing r v g m)
      (deals_in h.seen.dealings h.seen.into.into.account.encryption r y h.seen.into.into.datagram);
}
behind f h (husk_receiving_classify_over r v y g m d) = record {
  incoming = record { words = v; datagram = h.incoming.datagram };
  pending = y;
  outgoing = flown h.outgoing g m;
  assembly = h.assembly;
  seen = files h.seen (deals_over_in h.seen.dealings r y d);
}
