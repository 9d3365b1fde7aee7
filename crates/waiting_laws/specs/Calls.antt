-- The calls of a sending end, and the state and memory that each leaves, by the definitions that the calls' contracts cite.
use Rattle.std.specs.Prelude.{ℕ, ◌*◌, ◌<◌, eqb, length, List, ◌⊎◌, Some, None, Ok, Err}
use Rattle.base.specs.Choose.{choose}
use Rattle.base.specs.Parts.{splice}
use Rattle.outgoing.specs.declared.Sending.{Sending}
use Rattle.outgoing.specs.Send.{send_answer, send_state, send_memory}
use Rattle.outgoing.specs.State.{fresh_sending, keying_state}
use Rattle.sealing.specs.Sealing.{Asked, question_of, seal_answer, sealed_state, sealed_memory}
use Rattle.taking.specs.Take.{take_answer, take_state}
use Rattle.flight.specs.declared.Flight.{Flight}
use Rattle.flight.specs.Flight.{fresh_flight, begun}
use Rattle.flight.specs.Save.{save_state, save_queue, save_kept}
use Rattle.messages.specs.Message.{message_answer, message_state, message_queue, message_kept}
use Rattle.process_ack.specs.Ack.{acked}
use Rattle.acks.specs.declared.Notes.{Notes}
use Rattle.acks.specs.Acks.{fresh_notes, noted, sent_ack, ack_memory}
use Rattle.resend.specs.Resend.{resend_state, resend_queue}
use Rattle.resend.specs.Tests.{resend_answer}

-- what the host keeps: the state, the queue's memory, the flight and its memory, the records noted for the next ACK
pub record Stores : Type 0 where
  pub state : Sending
  pub queue : List ℕ
  pub flight : Flight
  pub kept : List ℕ
  pub notes : Notes

pub data SendCall : Type 0 where
  -- keying with an IV; one record, saved or not; a handshake message; beginning a flight
  key_send· : ℕ → List ℕ → SendCall
  send· : ℕ → ℕ → List ℕ → SendCall
  save· : ℕ → ℕ → List ℕ → SendCall
  message· : ℕ → List ℕ → SendCall
  begin_flight· : SendCall
  -- the flight again; a record noted by epoch and number; the ACK of those noted; an ACK's bytes acted on
  resend· : SendCall
  note· : ℕ → ℕ → SendCall
  send_ack· : SendCall
  ack· : List ℕ → SendCall
  -- the host's bytes in the part lent for the oldest sealing; its reply, a length and the mask; taking a datagram into a buffer
  fill· : List ℕ → SendCall
  sealed· : ℕ → List ℕ → SendCall
  take· : List ℕ → SendCall

-- what the host sees of a call: 01's number of its refusal, 0 where it is done, and what is told besides: the length of the datagram taken
-- or the length needed for it, 1 where a record was noted or an ACK sent, how many records were sent again or newly acknowledged
pub record Reply : Type 0 where
  pub number : ℕ
  pub told : ℕ

abbrev pub only : ℕ → Reply
only n = record { number = n; told = 0 }

-- the host's own writing: as many bytes as the sealing question shows, in the place that it shows
abbrev pub written_in : Asked → List ℕ → List ℕ → List ℕ
written_in (Ok (Some x)) v q = choose (eqb (length v) x.length) (splice x.start v q) q
written_in (Ok None) v q = q
written_in (Err x) v q = q

-- state and memory behind each call, by the definitions that the calls' contracts cite
abbrev pub stored : Stores → SendCall → Stores
stored w (key_send· e iv) = record { state = (keying_state w.state e iv).state; queue = w.queue; flight = w.flight; kept = w.kept; notes = w.notes }
stored w (send· e t x) =
    let a = send_answer w.state (length w.queue) e t (length x) in
    record { state = (send_state a w.state e (length x)).state; queue = send_memory a w.state e t x w.queue; flight = w.flight; kept = w.kept; notes = w.notes }
stored w (save· e t x) =
    let r = save_state w.state w.flight (length w.queue) (length w.kept) e t (length x) in
    record {
      state = r.state;
      queue = save_queue w.state w.flight (length w.kept) e t x w.queue;
      flight = r.flight;
      kept = save_kept w.state w.flight (length w.queue) e t x w.kept;
      notes = w.notes;
    }
stored w (message· kind body) =
    let a = message_answer w.state w.flight (length w.queue) (length w.kept) kind (length body) in
    let r = message_state a w.state w.flight w.queue w.kept kind body in
    record {
      state = r.state;
      queue = message_queue a w.state w.flight w.queue w.kept kind body;
      flight = r.flight;
      kept = message_kept a w.state w.flight w.queue w.kept kind body;
      notes = w.notes;
    }
stored w begin_flight· = record { state = w.state; queue = w.queue; flight = (begun w.flight).flight; kept = w.kept; notes = w.notes }
stored w resend· =
    let a = resend_answer w.state w.flight (length w.queue) (length w.kept) in
    let r = resend_state a w.state w.flight w.kept w.queue in
    record { state = r.state; queue = resend_queue a w.state w.flight w.kept w.queue; flight = r.flight; kept = w.kept; notes = w.notes }
stored w (note· e n) = record { state = w.state; queue = w.queue; flight = w.flight; kept = w.kept; notes = (noted w.notes e n).notes }
stored w send_ack· =
    let r = sent_ack w.state w.notes (length w.queue) in
    record { state = r.state; queue = ack_memory w.state w.notes w.queue; flight = w.flight; kept = w.kept; notes = r.notes }
stored w (ack· d) = record { state = w.state; queue = w.queue; flight = (acked w.flight d).flight; kept = w.kept; notes = w.notes }
stored w (fill· v) = record { state = w.state; queue = written_in (question_of w.state) v w.queue; flight = w.flight; kept = w.kept; notes = w.notes }
stored w (sealed· n m) =
    let a = seal_answer w.state (length w.queue) n in
    record { state = (sealed_state a w.state w.queue).state; queue = sealed_memory a w.state m w.queue; flight = w.flight; kept = w.kept; notes = w.notes }
stored w (take· buffer) =
    record {
      state = (take_state (take_answer w.state (length w.queue) (length buffer)) w.state).state;
      queue = w.queue;
      flight = w.flight;
      kept = w.kept;
      notes = w.notes;
    }

-- "Both start fresh: settings in range, .. nothing queued", saved or noted; the lent buffers have any bytes
abbrev pub fresh : ℕ → ℕ → List ℕ → List ℕ → Stores
fresh mtu limit queue kept = record { state = fresh_sending mtu limit; queue = queue; flight = fresh_flight; kept = kept; notes = fresh_notes }

-- ---- a call over other memory than this end's own

-- memory in place of what is lent to this end
abbrev pub lending : Stores → List ℕ → List ℕ → Stores
lending w q k = record { state = w.state; queue = q; flight = w.flight; kept = k; notes = w.notes }

-- too short: a queue "under its limit times the MTU", or a flight's memory under 12 times the MTU where the call takes one; a call that takes
-- none is not made over any
abbrev pub Short : ℕ → ℕ → List ℕ → List ℕ → SendCall → Type 0
Short mtu limit q k (key_send· e iv) = ⊥
Short mtu limit q k (send· e t x) = length q < limit * mtu
Short mtu limit q k (save· e t x) = (length q < limit * mtu) ⊎ (length k < 12 * mtu)
Short mtu limit q k (message· kind body) = (length q < limit * mtu) ⊎ (length k < 12 * mtu)
Short mtu limit q k begin_flight· = ⊥
Short mtu limit q k resend· = (length q < limit * mtu) ⊎ (length k < 12 * mtu)
Short mtu limit q k (note· e n) = ⊥
Short mtu limit q k send_ack· = length q < limit * mtu
Short mtu limit q k (ack· d) = ⊥
Short mtu limit q k (fill· v) = length q < limit * mtu
Short mtu limit q k (sealed· n m) = length q < limit * mtu
Short mtu limit q k (take· buffer) = length q < limit * mtu
