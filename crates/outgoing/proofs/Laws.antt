-- Laws of a send: refused means unchanged, the ranges are kept, numbers are used in order, "queue full" only if no slot is free.
-- Assumes nothing.
use Rattle.std.specs.Prelude.{true, false, List, ℕ, ◌+◌, leb, Err}
use Rattle.std.proofs.Math.Path.{◌≡◌, ap}
use Rattle.std.proofs.Common.{◌∙◌, arith, leb-true}
use Rattle.base.specs.Choose.{by_test, both_left, both_right, if_true, if_false}
use Rattle.queue.specs.Queue.{is_setting, InRange, ready, laid-range, full_only}
use Rattle.queue.specs.Laid.{record_len}
use Rattle.send_keys.specs.Keys.{next_of, used-next}
use Rattle.send_keys.specs.Answer.{SendAnswer, is_done}
use Rattle.outgoing.specs.declared.Sending.{Sending}
use Rattle.send_keys.specs.declared.SendError.TheVariants.{QueueFull}
use Rattle.outgoing.specs.State.{fresh_sending}
use Rattle.outgoing.specs.Send.{spot_of, laid_state, send_answer, send_state, send_memory}
use Rattle.outgoing.proofs.Send.{send_clear, clear-fits, allowed-fits}

-- a refused send changes neither state nor queue
module _ (a : SendAnswer) (h : is_done a ≡ false) (s : Sending) (e : ℕ) where
  pub refused-state : (n : ℕ) → (send_state a s e n).state ≡ s
  unfolding send_state
  refused-state n = if_false _ _ h

  pub refused-memory : (t : ℕ) (x q : List ℕ) → send_memory a s e t x q ≡ q
  unfolding send_memory
  refused-memory t x q = if_false _ _ h

-- a fresh state with settings in range is in range
pub fresh-range : (mtu limit : ℕ) → is_setting mtu limit ≡ true → InRange (fresh_sending mtu limit).queue
unfolding fresh_sending is_setting
fresh-range mtu limit h =
    let h1 = both_right (leb 576 mtu) _ h in
    let h2 = both_right (leb mtu 1500) _ h1 in
    let some = leb-true 1 limit (both_left _ _ h2) in
    record {
      low = leb-true 576 mtu (both_left _ _ h);
      high = leb-true mtu 1500 (both_left _ _ h1);
      some = some;
      limit = leb-true limit 16 (both_right (leb 1 limit) _ h2);
      first = omega arith;
      count = omega arith;
    }

module _ (s : Sending) (room e t n : ℕ) where
  -- every send keeps the ranges
  pub send_range : InRange s.queue → InRange (send_state (send_answer s room e t n) s e n).state.queue
  unfolding send_state laid_state
  send_range r =
      by_test (λ (u : Sending). InRange u.queue) (λ d. laid-range r (clear-fits (send_clear s room e t n d))) (λ d. r)

  -- a record sent uses its epoch's next number, and no other of it
  pub send_next : is_done (send_answer s room e t n) ≡ true → next_of (send_state (send_answer s room e t n) s e n).state.keys e ≡ next_of s.keys e + 1
  unfolding send_state laid_state
  send_next d = ap (λ (u : Sending). next_of u.keys e) (if_true _ _ d) ∙ used-next s.keys e

  -- 19 only if every slot of the ring is in use
  pub full_is_full : send_answer s room e t n ≡ Err QueueFull → s.queue.count ≡ s.queue.limit
  unfolding send_answer
  full_is_full =
      by_test (λ (a : SendAnswer). a ≡ Err QueueFull → s.queue.count ≡ s.queue.limit)
      (λ r. by_test (λ (a : SendAnswer). a ≡ Err QueueFull → s.queue.count ≡ s.queue.limit)
      (λ u. by_test (λ (a : SendAnswer). a ≡ Err QueueFull → s.queue.count ≡ s.queue.limit)
      (λ l. by_test (λ (a : SendAnswer). a ≡ Err QueueFull → s.queue.count ≡ s.queue.limit)
      (λ k. by_test (λ (a : SendAnswer). a ≡ Err QueueFull → s.queue.count ≡ s.queue.limit)
      (λ f z. full_only s.queue (record_len e n) (allowed-fits s.queue.mtu e t n l) (ready r).range.count
      (leb-true s.queue.limit (spot_of s e n).datagram f))
      (λ f. by_test (λ (a : SendAnswer). a ≡ Err QueueFull → s.queue.count ≡ s.queue.limit)
      (λ p z. absurd (let w : ◌≡◌ {A = ℕ} 0 1 = cc in omega arith))
      (λ p z. absurd (let w : ◌≡◌ {A = ℕ} 0 1 = cc in omega arith))))
      (λ k z. absurd (let w : ◌≡◌ {A = ℕ} 0 1 = cc in omega arith)))
      (λ l z. absurd (let w : ◌≡◌ {A = ℕ} 0 1 = cc in omega arith)))
      (λ u z. absurd (let w : ◌≡◌ {A = ℕ} 0 1 = cc in omega arith)))
      (λ r z. absurd (let w : ◌≡◌ {A = ℕ} 0 1 = cc in omega arith))
