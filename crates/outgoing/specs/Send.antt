-- Sending one record (01, "Datagrams to send"; refusals 12, 13, 14, 17, 19, 20). Assumes nothing.
use Rattle.std.specs.Prelude.{Bool, true, List, ℕ, ◌+◌, ◌<◌, ◌≤◌, leb, eqb, length, Ok, Err}
use Rattle.base.specs.Choose.{choose, either}
use Rattle.base.specs.Parts.{splice}
use Rattle.queue.specs.declared.Place.{Place}
use Rattle.queue.specs.declared.Queue.{Queue}
use Rattle.queue.specs.Queue.{is_ready, slot_of, tail_of, place_of, laid, start_of, Ready}
use Rattle.queue.specs.Laid.{record_len, record_bytes}
use Rattle.send_keys.specs.Keys.{is_usable, is_keyed, next_of, used}
use Rattle.send_keys.specs.Answer.{SendAnswer, is_done}
use Rattle.record.specs.Record.{sealed_tail}
use Rattle.outgoing.specs.declared.Waiting.{Waiting}
use Rattle.outgoing.specs.declared.Sending.{Sending}
use Rattle.send_keys.specs.declared.SendError.TheVariants.{OutOfRange, BadEpoch, BadRecord, KeysAbsent, QueueFull, NumbersSpent}
use Rattle.outgoing.specs.declared.Sent.{Sent}
use Rattle.outgoing.specs.State.{is_allowed, with_queue, with_waiting, with_keys}

-- where a record with a content of n bytes goes
abbrev pub spot_of : Sending → ℕ → ℕ → Place
spot_of s e n = place_of s.queue.mtu (tail_of s.queue) (record_len e n)

-- 19: "a new datagram needed beyond the limit"
abbrev pub is_full : Sending → ℕ → ℕ → Bool
is_full s e n = leb s.queue.limit (spot_of s e n).datagram

-- 20: "2^48 - 1 would be used"
abbrev pub is_spent : Sending → ℕ → Bool
is_spent s e = leb 281474976710655 (next_of s.keys e)

-- the oldest sealing that waits behind a send: the one that did, or this one if none did and it is to be sealed
unfoldable pub waits_behind : Sending → ℕ → ℕ → Place → Waiting
waits_behind s e n p =
    choose (either s.waiting.any (eqb e 0)) s.waiting (record {
      any = true;
      slot = slot_of s.queue.first s.queue.limit p.datagram;
      start = p.offset;
      length = n + sealed_tail;
      epoch = e;
      number = next_of s.keys e;
    })

-- the state with one record more at a place: queued, waiting to be sealed if it is not plaintext, its number used
abbrev pub laid_at : Sending → ℕ → ℕ → Place → Sending
laid_at s e n p = with_waiting (with_keys (with_queue s (laid s.queue p (record_len e n))) (used s.keys e)) (waits_behind s e n p)

unfoldable pub laid_state : Sending → ℕ → ℕ → Sending
laid_state s e n = laid_at s e n (spot_of s e n)

unfoldable pub laid_memory : Sending → ℕ → ℕ → List ℕ → List ℕ → List ℕ
laid_memory s e t x q = splice (start_of s.queue (spot_of s e (length x))) (record_bytes e t (next_of s.keys e) x) q

-- 12, 13, 14, 17, 19, 20
unfoldable pub send_answer : Sending → ℕ → ℕ → ℕ → ℕ → SendAnswer
send_answer s room e t n =
    choose (is_ready s.queue room)
    (choose (is_usable s.keys e)
    (choose (is_allowed s.queue.mtu e t n)
    (choose (is_keyed s.keys e)
    (choose (is_full s e n) (Err QueueFull)
    (choose (is_spent s e) (Err NumbersSpent) (Ok tt)))
    (Err KeysAbsent))
    (Err BadRecord))
    (Err BadEpoch))
    (Err OutOfRange)

-- wholly or not at all
unfoldable pub send_state : SendAnswer → Sending → ℕ → ℕ → Sent
send_state a s e n = record { answer = a; state = choose (is_done a) (laid_state s e n) s }

unfoldable pub send_memory : SendAnswer → Sending → ℕ → ℕ → List ℕ → List ℕ → List ℕ
send_memory a s e t x q = choose (is_done a) (laid_memory s e t x q) q

-- ---- what the tests tell

-- the queue has a place for a record
pub record Open (q : Queue) (room e n : ℕ) : Type 0 where
  pub ready : Ready q room
  pub fits : record_len e n ≤ q.mtu
  pub datagram : (place_of q.mtu (tail_of q) (record_len e n)).datagram < q.limit

-- a record can be laid
pub record Clear (s : Sending) (room e n : ℕ) : Type 0 where
  pub ready : Ready s.queue room
  pub fits : record_len e n ≤ s.queue.mtu
  pub datagram : (spot_of s e n).datagram < s.queue.limit
  pub number : next_of s.keys e < 281474976710655
