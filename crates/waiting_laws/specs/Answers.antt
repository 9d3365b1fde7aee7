-- What the host sees of each sending call: 01's number of the answer, and what is told besides.
use Rattle.std.specs.Prelude.{ℕ, length, Some, None, Ok, Err, true, false}
use Rattle.base.specs.Choose.{choose}
use Rattle.outgoing.specs.Send.{send_answer}
use Rattle.outgoing.specs.State.{keying_state}
use Rattle.sealing.specs.Sealing.{refusal as sealRefusal, seal_answer}
use Rattle.taking.specs.declared.TakeError.TheVariants as took
use Rattle.taking.specs.Take.{TakeAnswer, take_answer}
use Rattle.flight.specs.Flight.{begun}
use Rattle.flight.specs.Save.{save_answer}
use Rattle.flight.specs.Status.{unacknowledged}
use Rattle.messages.specs.Message.{message_answer}
use Rattle.process_ack.specs.Ack.{acked}
use Rattle.process_ack.specs.Status.{newly_marked}
use Rattle.acks.specs.declared.AckSent.{AckSent}
use Rattle.acks.specs.Acks.{NoteAnswer, noted, sent_ack}
use Rattle.resend.specs.Tests.{resend_answer}
use Rattle.send_keys.specs.Answer.{SendAnswer, is_done, refusal}
use Rattle.waiting_laws.specs.Calls.{Stores, SendCall, key_send·, send·, save·, message·, begin_flight·, resend·, note·, send_ack·, ack·, fill·, sealed·, take·, Reply, only}

abbrev pub note_reply : NoteAnswer → Reply
note_reply (Ok true) = record { number = 0; told = 1 }
note_reply (Ok false) = record { number = 0; told = 0 }
note_reply (Err e) = record { number = 12; told = 0 }

abbrev pub ack_reply : AckSent → Reply
ack_reply r = record { number = refusal r.answer; told = choose r.sent 1 0 }

-- how many are sent again: of n not acknowledged all, or none
abbrev pub resend_reply : SendAnswer → ℕ → Reply
resend_reply a n = record { number = refusal a; told = choose (is_done a) n 0 }

abbrev pub take_reply : TakeAnswer → Reply
take_reply (Ok (Some n)) = record { number = 0; told = n }
take_reply (Ok None) = record { number = 0; told = 0 }
take_reply (Err took.OutOfRange) = record { number = 12; told = 0 }
take_reply (Err took.Unsealed) = record { number = 23; told = 0 }
take_reply (Err (took.Short n)) = record { number = 16; told = n }

-- by the definitions that the calls' contracts cite; the host's own writing has no answer
abbrev pub answered : Stores → SendCall → Reply
answered w (key_send· e iv) = only (refusal (keying_state w.state e iv).answer)
answered w (send· e t x) = only (refusal (send_answer w.state (length w.queue) e t (length x)))
answered w (save· e t x) = only (refusal (save_answer w.state w.flight (length w.queue) (length w.kept) e t (length x)))
answered w (message· kind body) =
    only (refusal (message_answer w.state w.flight (length w.queue) (length w.kept) kind (length body)))
answered w begin_flight· = only (refusal (begun w.flight).answer)
answered w resend· = resend_reply (resend_answer w.state w.flight (length w.queue) (length w.kept)) (unacknowledged w.flight)
answered w (note· e n) = note_reply (noted w.notes e n).answer
answered w send_ack· = ack_reply (sent_ack w.state w.notes (length w.queue))
answered w (ack· d) = record { number = refusal (acked w.flight d).answer; told = newly_marked w.flight d }
answered w (fill· v) = only 0
answered w (sealed· n m) = only (sealRefusal (seal_answer w.state (length w.queue) n))
answered w (take· buffer) = take_reply (take_answer w.state (length w.queue) (length buffer))
