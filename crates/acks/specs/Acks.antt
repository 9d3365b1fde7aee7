-- Records noted for the outgoing ACK, and sending it (01, "Flights acknowledged or sent again"; RFC 9147, section 7). Assumes nothing.
use Rattle.std.specs.Prelude.{Bool, true, false, Result, Ok, Err, List, [], ◌++◌, ℕ, zero, suc, ◌+◌, ◌*◌, ltb, eqb, length, get_or, set, replicate}
use Rattle.base.specs.Bytes.{be}
use Rattle.base.specs.Choose.{choose}
use Rattle.queue.specs.Queue.{is_ready}
use Rattle.send_keys.specs.declared.SendKeys.{SendKeys}
use Rattle.outgoing.specs.declared.Sending.{Sending}
use Rattle.outgoing.specs.declared.Sent.{Sent}
use Rattle.send_keys.specs.declared.SendError.TheVariants as send
use Rattle.outgoing.specs.Send.{send_answer, send_state, send_memory}
use Rattle.send_keys.specs.Answer.{SendAnswer, is_done}
use Rattle.acks.specs.declared.Notes.{Notes}
use Rattle.acks.specs.declared.OutOfRange.{OutOfRange}
use Rattle.acks.specs.declared.Noting.{Noting}
use Rattle.acks.specs.declared.AckSent.{AckSent}

unfoldable pub fresh_notes : Notes
fresh_notes = record { count = 0; epochs = replicate 32 0; numbers = replicate 32 0 }

-- whether a record is noted; or the count is out of its range
abbrev pub NoteAnswer : Type 0
NoteAnswer = Result Bool OutOfRange

-- "The host notes records, by epoch and number, ... up to 32; later ones are not noted"
unfoldable pub noted : Notes → ℕ → ℕ → Noting
noted s e n =
    choose (ltb 32 s.count) (record { answer = Err (record {}); notes = s })
    (choose (ltb s.count 32)
    (record { answer = Ok true; notes = record { count = s.count + 1; epochs = set s.epochs s.count e; numbers = set s.numbers s.count n } })
    (record { answer = Ok false; notes = s }))

-- "sending the ACK forgets them all"
unfoldable pub forgotten : Notes → Notes
forgotten s = record { count = 0; epochs = s.epochs; numbers = s.numbers }

-- "It uses the application epoch if keyed, else 2"
unfoldable pub ack_epoch : SendKeys → ℕ
ack_epoch k = choose (eqb k.application.epoch 0) 2 k.application.epoch

-- 8-byte epoch and number
unfoldable pub pair_of : ℕ → ℕ → List ℕ
pair_of e n = be 8 e ++ be 8 n

-- the first k noted records, in the order of noting
unfoldable pub pairs_of : Notes → ℕ → List ℕ
pairs_of s zero = []
pairs_of s (suc k) = pairs_of s k ++ pair_of (get_or s.epochs k 0) (get_or s.numbers k 0)

-- "2-byte length, then pairs"
unfoldable pub ack_content : Notes → List ℕ
ack_content s = be 2 (s.count * 16) ++ pairs_of s s.count

abbrev pub ack_len : Notes → ℕ
ack_len s = 2 + s.count * 16

-- an ACK is a record of type 26, not saved
unfoldable pub notice_state : Sending → Notes → ℕ → Sent
notice_state s n room = send_state (send_answer s room (ack_epoch s.keys) 26 (ack_len n)) s (ack_epoch s.keys) (ack_len n)

unfoldable pub notice_memory : Sending → Notes → List ℕ → List ℕ
notice_memory s n q = send_memory (send_answer s (length q) (ack_epoch s.keys) 26 (ack_len n)) s (ack_epoch s.keys) 26 (ack_content n) q

-- 12 comes first, also with none noted
unfoldable pub ack_answer : Sending → Notes → ℕ → SendAnswer
ack_answer s n room = choose (ltb 32 n.count) (Err send.OutOfRange) (choose (is_ready s.queue room) (Ok tt) (Err send.OutOfRange))

-- wholly or not at all: notes are forgotten if it was sent, else kept
unfoldable pub ack_sent : Sent → Notes → AckSent
ack_sent r n = record { answer = r.answer; sent = is_done r.answer; state = r.state; notes = choose (is_done r.answer) (forgotten n) n }

abbrev pub nothing_sent : SendAnswer → Sending → Notes → AckSent
nothing_sent a s n = record { answer = a; sent = false; state = s; notes = n }

-- 12; "with none noted, nothing is sent"; then as any send: 17, 19, 20
unfoldable pub sent_ack : Sending → Notes → ℕ → AckSent
sent_ack s n room =
    choose (is_done (ack_answer s n room))
    (choose (eqb n.count 0) (nothing_sent (ack_answer s n room) s n) (ack_sent (notice_state s n room) n))
    (nothing_sent (ack_answer s n room) s n)

unfoldable pub ack_memory : Sending → Notes → List ℕ → List ℕ
ack_memory s n q = choose (is_done (ack_answer s n (length q))) (choose (eqb n.count 0) q (notice_memory s n q)) q
