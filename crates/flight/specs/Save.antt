-- Sending a record and saving it in the flight (01, refusals 12, 13, 14, 17, 18, 19, 20). Assumes nothing.
use Rattle.std.specs.Prelude.{true, List, ◌≡◌, refl, ℕ, ◌+◌, ◌*◌, ◌≤◌, leb, length, Ok, Err}
use Rattle.std.proofs.lemmas.Bool.{false≢true}
use Rattle.std.proofs.Common.{mul-le-mul_right, arith, leb-true, leb-false}
use Rattle.base.specs.Choose.{choose, by_test, both_right}
use Rattle.queue.specs.Queue.{is_ready, InRange, ready, laid-range}
use Rattle.queue.specs.Laid.{len_over}
use Rattle.send_keys.specs.Keys.{is_usable, is_keyed, next_of}
use Rattle.outgoing.specs.declared.Sending.{Sending}
use Rattle.send_keys.specs.declared.SendError.TheVariants.{OutOfRange, BadEpoch, BadRecord, KeysAbsent, FlightFull, QueueFull, NumbersSpent}
use Rattle.outgoing.specs.State.{is_allowed}
use Rattle.outgoing.specs.Send.{spot_of, is_full, is_spent, laid_state, laid_memory, Clear}
use Rattle.outgoing.proofs.Send.{allowed-fits, clear-fits}
use Rattle.send_keys.specs.Answer.{SendAnswer, is_done}
use Rattle.flight.specs.declared.Flight.{Flight}
use Rattle.flight.specs.declared.Saved.{Saved}
use Rattle.flight.specs.Flight.{counted, is_kept, saved_with, saved_memory, Keeps}

-- 12, 13, 14, 17, 18, 19, 20; 18: "flight full: a thirteenth record to save"
unfoldable pub save_answer : Sending → Flight → ℕ → ℕ → ℕ → ℕ → ℕ → SendAnswer
save_answer s f room kept e t n =
    choose (is_ready s.queue room)
    (choose (is_kept f s.queue.mtu kept)
    (choose (is_usable s.keys e)
    (choose (is_allowed s.queue.mtu e t n)
    (choose (is_keyed s.keys e)
    (choose (leb 12 f.saved) (Err FlightFull)
    (choose (is_full s e n) (Err QueueFull)
    (choose (is_spent s e) (Err NumbersSpent) (Ok tt))))
    (Err KeysAbsent))
    (Err BadRecord))
    (Err BadEpoch))
    (Err OutOfRange))
    (Err OutOfRange)

-- wholly or not at all: state and flight, queue, and the flight's buffer
unfoldable pub save_state : Sending → Flight → ℕ → ℕ → ℕ → ℕ → ℕ → Saved
save_state s f room kept e t n = record {
  answer = save_answer s f room kept e t n;
  state = choose (is_done (save_answer s f room kept e t n)) (laid_state s e n) s;
  flight = choose (is_done (save_answer s f room kept e t n)) (saved_with f t e (next_of s.keys e) n) f;
}

unfoldable pub save_queue : Sending → Flight → ℕ → ℕ → ℕ → List ℕ → List ℕ → List ℕ
save_queue s f kept e t x q = choose (is_done (save_answer s f (length q) kept e t (length x))) (laid_memory s e t x q) q

unfoldable pub save_kept : Sending → Flight → ℕ → ℕ → ℕ → List ℕ → List ℕ → List ℕ
save_kept s f room e t x m = choose (is_done (save_answer s f room (length m) e t (length x))) (saved_memory f s.queue.mtu x m) m

-- an answer asks of the flight only how many are saved
pub answer-counted : (s : Sending) (f : Flight) (room kept e t n : ℕ) → save_answer s (counted f.saved) room kept e t n ≡ save_answer s f room kept e t n
unfolding save_answer is_kept
answer-counted s f room kept e t n = refl

-- ---- what the tests tell

pub record Safe (s : Sending) (f : Flight) (room kept e n : ℕ) : Type 0 where
  pub clear : Clear s room e n
  pub keeps : Keeps f s.queue.mtu kept n

pub save_safe : (s : Sending) (f : Flight) (room kept e t n : ℕ) → is_done (save_answer s f room kept e t n) ≡ true → Safe s f room kept e n
unfolding save_answer is_kept
save_safe s f room kept e t n =
    by_test (λ (a : SendAnswer). is_done a ≡ true → Safe s f room kept e n)
    (λ r. by_test (λ (a : SendAnswer). is_done a ≡ true → Safe s f room kept e n)
    (λ h. by_test (λ (a : SendAnswer). is_done a ≡ true → Safe s f room kept e n)
    (λ u. by_test (λ (a : SendAnswer). is_done a ≡ true → Safe s f room kept e n)
    (λ l. by_test (λ (a : SendAnswer). is_done a ≡ true → Safe s f room kept e n)
    (λ k. by_test (λ (a : SendAnswer). is_done a ≡ true → Safe s f room kept e n)
    (λ v z. absurd (false≢true z))
    (λ v. by_test (λ (a : SendAnswer). is_done a ≡ true → Safe s f room kept e n)
    (λ g z. absurd (false≢true z))
    (λ g. by_test (λ (a : SendAnswer). is_done a ≡ true → Safe s f room kept e n)
    (λ p z. absurd (false≢true z))
    (λ p z.
    let w = allowed-fits s.queue.mtu e t n l in
    record {
      clear = record {
        ready = ready r;
        fits = w;
        datagram = leb-false s.queue.limit (spot_of s e n).datagram g;
        number = leb-false 281474976710655 (next_of s.keys e) p;
      };
      keeps = record {
        high = (ready r).range.high;
        saved = leb-false 12 f.saved v;
        space = leb-true (12 * s.queue.mtu) kept (both_right (leb f.saved 12) _ h);
        short = omega (arith, len_over e n, w);
      };
    }))))
    (λ k z. absurd (false≢true z)))
    (λ l z. absurd (false≢true z)))
    (λ u z. absurd (false≢true z)))
    (λ h z. absurd (false≢true z)))
    (λ r z. absurd (false≢true z))

-- the content lies in its slot
pub kept-fits : {f : Flight} {mtu room n : ℕ} → Keeps f mtu room n → (f.saved * mtu + n ≤ room) × (f.saved * mtu + n ≤ 24000)
kept-fits {f} {mtu} {room} {n} k =
    let m = mul-le-mul_right mtu k.saved in
    (omega (arith, m, k.space, k.short), omega (arith, m, k.high, k.short))

-- a saved send keeps the queue's ranges
pub save_range : (s : Sending) (f : Flight) (room kept e t n : ℕ) → InRange s.queue → InRange (save_state s f room kept e t n).state.queue
unfolding save_state laid_state
save_range s f room kept e t n r =
    by_test (λ (u : Sending). InRange u.queue) (λ d. laid-range r (clear-fits (save_safe s f room kept e t n d).clear)) (λ d. r)
