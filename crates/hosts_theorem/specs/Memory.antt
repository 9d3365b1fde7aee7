-- The memory of a host that calls the C library, the library's calls as the host makes them, and the memory behind each call.
-- A call is written down with its arguments, its answer, and what it left in the memory lent to it: v, g, m, p, j, as in the contracts.
use Rattle.std.specs.Prelude.{ℕ, ◌+◌, ◌≤◌, eqb, ltb, length, List, ◌≡◌}
use Rattle.base.specs.Choose.{choose}
use Rattle.base.specs.Parts.{splice}
use Rattle.answers.specs.declared.HuskTold.{HuskTold}
use Rattle.recv_calls.specs.Calls as receive
use Rattle.recv_calls.specs.declared.HuskReading.{HuskReading}
use Rattle.classify.specs.Classify.{cleared}
use Rattle.classify_calls.specs.Calls.{noted_by}
use Rattle.send_calls.specs.Calls as sends
use Rattle.send_calls.specs.declared.HuskTake.{HuskTake}
use Rattle.send_calls.specs.declared.HuskPart.{HuskPart}
use Rattle.flight_calls.specs.Calls as flights
use Rattle.ack_calls.specs.Calls as acks
use Rattle.ack_calls.specs.declared.HuskAcked.{HuskAcked}

-- the words of husk_receiving_init, and the begun datagram's bytes
pub record Incoming : Type 0 where
  pub words : List ℕ
  pub datagram : List ℕ

-- the words of husk_sending_init, the queue's memory, the words and numbers of husk_flight_init, the saved contents' memory, the notes' count
-- and two tables
pub record Outgoing : Type 0 where
  pub words : List ℕ
  pub queue : List ℕ
  pub flight : List ℕ
  pub numbers : List ℕ
  pub kept : List ℕ
  pub count : List ℕ
  pub epochs : List ℕ
  pub noted : List ℕ

-- ---- the calls that receive

-- r the answer, v the words behind it
pub data InCall : Type 0 where
  husk_receiving_key : (r : ℕ) (v : List ℕ) (epoch : ℕ) (iv : List ℕ) → InCall
  husk_receiving_remove : (r : HuskTold) (v : List ℕ) (epoch : ℕ) → InCall
  husk_receiving_enable_encryption : (r : ℕ) (v : List ℕ) → InCall
  husk_receiving_release_application_data : (r : ℕ) (v : List ℕ) → InCall
  -- of a datagram d that arrived
  husk_receiving_begin : (r : ℕ) (v : List ℕ) (d : List ℕ) → InCall
  husk_receiving_begin_read : (r : HuskReading) (v : List ℕ) (d : List ℕ) → InCall
  -- over the begun datagram; e is its bytes behind a mask
  husk_receiving_read : (r : HuskReading) (v : List ℕ) → InCall
  husk_receiving_mask : (r : HuskReading) (v : List ℕ) (m n : ℕ) (e : List ℕ) → InCall
  husk_receiving_opened : (r : HuskReading) (v : List ℕ) (o len : ℕ) → InCall
  -- the same over other bytes d
  husk_receiving_read_over : (r : HuskReading) (v : List ℕ) (d : List ℕ) → InCall
  husk_receiving_mask_over : (r : HuskReading) (v : List ℕ) (m n : ℕ) (e : List ℕ) (d : List ℕ) → InCall
  husk_receiving_opened_over : (r : HuskReading) (v : List ℕ) (o len : ℕ) (d : List ℕ) → InCall
  -- no call: r is what husk_receiving_read answers, an opening question (kind 7), and the host writes bytes p at the start of the protected part that
  -- it names, and not beyond its end
  host_writes : (r : HuskReading) (p : List ℕ) → InCall

-- a call was made: its own contract, over the host's memory
abbrev pub MadeIn : Incoming → InCall → Type 0
MadeIn h (husk_receiving_key r v epoch iv) = receive.KeyReceiveCall r v h.words epoch iv
MadeIn h (husk_receiving_remove r v epoch) = receive.RemoveReceiveCall r v h.words epoch
MadeIn h (husk_receiving_enable_encryption r v) = receive.EnablePeerEncryptionCall r v h.words
MadeIn h (husk_receiving_release_application_data r v) = receive.ReleaseApplicationDataCall r v h.words
MadeIn h (husk_receiving_begin r v d) = receive.BeginCall r v h.words (length d)
MadeIn h (husk_receiving_begin_read r v d) = receive.BeginReadCall r v h.words d
MadeIn h (husk_receiving_read r v) = receive.ReadCall r v h.words h.datagram
MadeIn h (husk_receiving_mask r v m n e) = receive.MaskCall r v h.words m n e h.datagram
MadeIn h (husk_receiving_opened r v o len) = receive.OpenedCall r v h.words o len h.datagram
MadeIn h (husk_receiving_read_over r v d) = receive.ReadCall r v h.words d
MadeIn h (husk_receiving_mask_over r v m n e d) = receive.MaskCall r v h.words m n e d
MadeIn h (husk_receiving_opened_over r v o len d) = receive.OpenedCall r v h.words o len d
MadeIn h (host_writes r p) = ((v : List ℕ) × receive.ReadCall r v h.words h.datagram) × (r.kind ≡ 7) × (length p ≤ r.length)

-- and what it left of the reading that waits: x before, y behind. With `MadeIn` this is the contract of the call (crate classify_calls); where the words are
-- not lent they stay
abbrev pub MadePending : InCall → List ℕ → List ℕ → Type 0
MadePending (husk_receiving_begin r v d) x y = y ≡ choose (eqb r 0) (cleared x) x
MadePending (husk_receiving_begin_read r v d) x y = y ≡ noted_by r x
MadePending (husk_receiving_read r v) x y = y ≡ noted_by r x
MadePending (husk_receiving_opened r v o len) x y = y ≡ noted_by r x
MadePending (husk_receiving_read_over r v d) x y = y ≡ noted_by r x
MadePending (husk_receiving_opened_over r v o len d) x y = y ≡ noted_by r x
MadePending (husk_receiving_key r v epoch iv) x y = y ≡ x
MadePending (husk_receiving_remove r v epoch) x y = y ≡ x
MadePending (husk_receiving_enable_encryption r v) x y = y ≡ x
MadePending (husk_receiving_release_application_data r v) x y = y ≡ x
MadePending (husk_receiving_mask r v m n e) x y = y ≡ x
MadePending (husk_receiving_mask_over r v m n e d) x y = y ≡ x
MadePending (host_writes r p) x y = y ≡ x

-- ---- the memory behind them

-- what is lent for reading only, or not lent, stays
abbrev pub behind_in : Incoming → InCall → Incoming
behind_in h (husk_receiving_key r v epoch iv) = record { words = v; datagram = h.datagram }
behind_in h (husk_receiving_remove r v epoch) = record { words = v; datagram = h.datagram }
behind_in h (husk_receiving_enable_encryption r v) = record { words = v; datagram = h.datagram }
behind_in h (husk_receiving_release_application_data r v) = record { words = v; datagram = h.datagram }
-- answered 0, the datagram is begun; else the earlier one stays
behind_in h (husk_receiving_begin r v d) = record { words = v; datagram = choose (eqb r 0) d h.datagram }
-- over 16,384 bytes it is refused, and nothing is read
behind_in h (husk_receiving_begin_read r v d) = record { words = v; datagram = choose (ltb 16384 (length d)) h.datagram d }
behind_in h (husk_receiving_read r v) = record { words = v; datagram = h.datagram }
behind_in h (husk_receiving_mask r v m n e) = record { words = v; datagram = e }
behind_in h (husk_receiving_opened r v o len) = record { words = v; datagram = h.datagram }
behind_in h (husk_receiving_read_over r v d) = record { words = v; datagram = h.datagram }
behind_in h (husk_receiving_mask_over r v m n e d) = record { words = v; datagram = h.datagram }
behind_in h (husk_receiving_opened_over r v o len d) = record { words = v; datagram = h.datagram }
behind_in h (host_writes r p) = record { words = h.words; datagram = splice (r.start + r.header_len) p h.datagram }

-- ---- the calls that send

-- r the answer; v, g, m, p, j what was left in words, flight, numbers, queue and saved contents
pub data OutCall : Type 0 where
  husk_sending_key : (r : ℕ) (v : List ℕ) (epoch : ℕ) (iv : List ℕ) → OutCall
  husk_sending_send : (r : ℕ) (v : List ℕ) (epoch t : ℕ) (c p : List ℕ) → OutCall
  husk_sending_sealed : (r : ℕ) (v : List ℕ) (len m n : ℕ) (p : List ℕ) → OutCall
  -- b the buffer before, c behind
  husk_sending_take : (r : HuskTake) (v : List ℕ) (b c : List ℕ) → OutCall
  husk_sending_take_in_place : (r : HuskPart) (v : List ℕ) → OutCall
  husk_flight_begin : (r : ℕ) (g : List ℕ) → OutCall
  husk_flight_send : (r : ℕ) (v g m : List ℕ) (epoch t : ℕ) (c p j : List ℕ) → OutCall
  husk_flight_message : (r : ℕ) (v g m : List ℕ) (kind : ℕ) (body p j : List ℕ) → OutCall
  husk_flight_resend : (r : HuskTold) (v g m p : List ℕ) → OutCall
  husk_flight_ack : (r : HuskAcked) (g m c : List ℕ) → OutCall
  -- count, epochs and numbers behind
  husk_notes_add : (r : HuskTold) (x y z : List ℕ) (epoch number : ℕ) → OutCall
  husk_notes_send : (r : HuskTold) (v x y z p : List ℕ) → OutCall

-- a call was made: its own contract, over the host's memory
abbrev pub MadeOut : Outgoing → OutCall → Type 0
MadeOut h (husk_sending_key r v epoch iv) = sends.KeySendCall r v h.words epoch iv
MadeOut h (husk_sending_send r v epoch t c p) = sends.SendCall r v h.words epoch t c p h.queue
MadeOut h (husk_sending_sealed r v len m n p) = sends.SealedCall r v h.words len m n p h.queue
MadeOut h (husk_sending_take r v b c) = sends.TakeCall r v h.words c b h.queue
MadeOut h (husk_sending_take_in_place r v) = sends.TakeInPlaceCall r v h.words h.queue
MadeOut h (husk_flight_begin r g) = flights.BeginFlightCall r g h.flight
MadeOut h (husk_flight_send r v g m epoch t c p j) =
    flights.SendSavedCall r v h.words g h.flight m h.numbers epoch t c p h.queue j h.kept
MadeOut h (husk_flight_message r v g m kind body p j) =
    flights.CreateHandshakeCall r v h.words g h.flight m h.numbers kind body p h.queue j h.kept
MadeOut h (husk_flight_resend r v g m p) = acks.ResendCall r v h.words g h.flight m h.numbers h.kept p h.queue
MadeOut h (husk_flight_ack r g m c) = acks.ProcessAckCall r g h.flight m h.numbers c
MadeOut h (husk_notes_add r x y z epoch number) =
    acks.NoteCall r (acks.notes_of x y z) (acks.notes_of h.count h.epochs h.noted) epoch number
MadeOut h (husk_notes_send r v x y z p) =
    acks.SendAckCall r v h.words (acks.notes_of x y z) (acks.notes_of h.count h.epochs h.noted) p h.queue

-- ---- the memory behind them

-- other words and queue
abbrev pub queues : Outgoing → List ℕ → List ℕ → Outgoing
queues h v p = record {
  words = v;
  queue = p;
  flight = h.flight;
  numbers = h.numbers;
  kept = h.kept;
  count = h.count;
  epochs = h.epochs;
  noted = h.noted;
}

-- and another flight with its numbers and saved contents
abbrev pub flies : Outgoing → List ℕ → List ℕ → List ℕ → List ℕ → List ℕ → Outgoing
flies h v p g m j = record {
  words = v;
  queue = p;
  flight = g;
  numbers = m;
  kept = j;
  count = h.count;
  epochs = h.epochs;
  noted = h.noted;
}

-- other words, queue and notes
abbrev pub notes : Outgoing → List ℕ → List ℕ → List ℕ → List ℕ → List ℕ → Outgoing
notes h v p x y z = record {
  words = v;
  queue = p;
  flight = h.flight;
  numbers = h.numbers;
  kept = h.kept;
  count = x;
  epochs = y;
  noted = z;
}

-- what is lent for reading only, or not lent, stays
abbrev pub behind_out : Outgoing → OutCall → Outgoing
behind_out h (husk_sending_key r v epoch iv) = queues h v h.queue
behind_out h (husk_sending_send r v epoch t c p) = queues h v p
behind_out h (husk_sending_sealed r v len m n p) = queues h v p
behind_out h (husk_sending_take r v b c) = queues h v h.queue
behind_out h (husk_sending_take_in_place r v) = queues h v h.queue
behind_out h (husk_flight_begin r g) = flies h h.words h.queue g h.numbers h.kept
behind_out h (husk_flight_send r v g m epoch t c p j) = flies h v p g m j
behind_out h (husk_flight_message r v g m kind body p j) = flies h v p g m j
behind_out h (husk_flight_resend r v g m p) = flies h v p g m h.kept
behind_out h (husk_flight_ack r g m c) = flies h h.words h.queue g m h.kept
behind_out h (husk_notes_add r x y z epoch number) = notes h h.words h.queue x y z
behind_out h (husk_notes_send r v x y z p) = notes h v p x y z

-- another queue and other memory for saved contents in place of the host's own
abbrev pub lends : Outgoing → List ℕ → List ℕ → Outgoing
lends h q k = record {
  words = h.words;
  queue = q;
  flight = h.flight;
  numbers = h.numbers;
  kept = k;
  count = h.count;
  epochs = h.epochs;
  noted = h.noted;
}
