-- Sending one record (01, "Datagrams to send"; refusals 12, 13, 14, 17, 19, 20). Assumes nothing.
use Rattle.std.specs.Prelude.{true, ◌≡◌, ℕ, ◌≤◌, leb}
use Rattle.std.proofs.lemmas.Bool.{false≢true}
use Rattle.std.proofs.Common.{arith, leb-true, leb-false}
use Rattle.base.specs.Choose.{by_test, both_right}
use Rattle.queue.specs.declared.Queue.{Queue}
use Rattle.queue.specs.Queue.{tail_of, place_of, Fits, ready, placed}
use Rattle.queue.specs.Laid.{record_len, len_over}
use Rattle.send_keys.specs.Keys.{next_of}
use Rattle.send_keys.specs.Answer.{SendAnswer, is_done}
use Rattle.outgoing.specs.declared.Sending.{Sending}
use Rattle.outgoing.specs.State.{is_allowed}
use Rattle.outgoing.specs.Send.{spot_of, send_answer, Open, Clear}

-- ---- what the tests tell

module _ {q : Queue} {room e n : ℕ} (o : Open q room e n) where
  pub open_short : n ≤ 1500
  open_short = omega (arith, len_over e n, o.fits, o.ready.range.high)

  -- the record then lies in a slot
  pub open_fits : Fits q (place_of q.mtu (tail_of q) (record_len e n)) (record_len e n)
  open_fits = record { datagram = o.datagram; inside = (placed q.mtu (tail_of q) (record_len e n) o.fits).0 }

pub allowed-fits : (mtu e t n : ℕ) → is_allowed mtu e t n ≡ true → record_len e n ≤ mtu
unfolding is_allowed
allowed-fits mtu e t n h = leb-true (record_len e n) mtu (both_right (leb n 16384) _ (both_right _ _ h))

pub send_clear : (s : Sending) (room e t n : ℕ) → is_done (send_answer s room e t n) ≡ true → Clear s room e n
unfolding send_answer
send_clear s room e t n =
    by_test (λ (a : SendAnswer). is_done a ≡ true → Clear s room e n)
    (λ r. by_test (λ (a : SendAnswer). is_done a ≡ true → Clear s room e n)
    (λ u. by_test (λ (a : SendAnswer). is_done a ≡ true → Clear s room e n)
    (λ l. by_test (λ (a : SendAnswer). is_done a ≡ true → Clear s room e n)
    (λ k. by_test (λ (a : SendAnswer). is_done a ≡ true → Clear s room e n)
    (λ f z. absurd (false≢true z))
    (λ f. by_test (λ (a : SendAnswer). is_done a ≡ true → Clear s room e n)
    (λ p z. absurd (false≢true z))
    (λ p z. record {
      ready = ready r;
      fits = allowed-fits s.queue.mtu e t n l;
      datagram = leb-false s.queue.limit (spot_of s e n).datagram f;
      number = leb-false 281474976710655 (next_of s.keys e) p;
    })))
    (λ k z. absurd (false≢true z)))
    (λ l z. absurd (false≢true z)))
    (λ u z. absurd (false≢true z)))
    (λ r z. absurd (false≢true z))

pub clear_open : {s : Sending} {room e n : ℕ} → Clear s room e n → Open s.queue room e n
clear_open c = record { ready = c.ready; fits = c.fits; datagram = c.datagram }

pub clear-short : {s : Sending} {room e n : ℕ} → Clear s room e n → n ≤ 1500
clear-short c = open_short (clear_open c)

pub clear-fits : {s : Sending} {room e n : ℕ} → Clear s room e n → Fits s.queue (spot_of s e n) (record_len e n)
clear-fits c = open_fits (clear_open c)
