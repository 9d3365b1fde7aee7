-- Laws of saved sends and messages: refused means unchanged; the pieces of a message that is sent are a partition of its body.
-- Assumes nothing.
use Rattle.std.specs.Prelude.{true, false, List, ◌≡◌, ℕ, ◌+◌}
use Rattle.std.proofs.lemmas.Bool.{false≢true}
use Rattle.std.proofs.Common.{arith, ltb-false}
use Rattle.base.specs.Choose.{by_test, if_false}
use Rattle.outgoing.specs.declared.Sending.{Sending}
use Rattle.flight.specs.declared.Flight.{Flight}
use Rattle.flight.specs.Save.{save_answer, save_state}
use Rattle.send_keys.specs.Answer.{SendAnswer, is_done}
use Rattle.messages.specs.Cut.{epoch_of, overhead, pieces, total, pieces_whole}
use Rattle.messages.specs.Message.{first_cut, count_of, message_answer, message_state, message_queue, message_kept}

-- a refused saved send changes neither state nor flight
module _ (s : Sending) (f : Flight) (room kept e t n : ℕ) (h : is_done (save_answer s f room kept e t n) ≡ false) where
  pub refused-saved : ((save_state s f room kept e t n).state ≡ s) × ((save_state s f room kept e t n).flight ≡ f)
  unfolding save_state
  refused-saved = (if_false _ _ h, if_false _ _ h)

-- a refused message changes nothing: state, flight, queue, and the flight's buffer
module _ (a : SendAnswer) (h : is_done a ≡ false) (s : Sending) (f : Flight) (q m : List ℕ) (kind : ℕ) (body : List ℕ) where
  pub refused-message : message_state a s f q m kind body ≡ record { answer = a; state = s; flight = f }
  unfolding message_state
  refused-message = if_false _ _ h

  pub refused-memory : (message_queue a s f q m kind body ≡ q) × (message_kept a s f q m kind body ≡ m)
  unfolding message_queue message_kept
  refused-memory = (if_false _ _ h, if_false _ _ h)

-- the pieces of a message that is sent are all of its body
pub message-whole : (s : Sending) (f : Flight) (room kept kind n : ℕ) → is_done (message_answer s f room kept kind n) ≡ true
    → total (pieces 13 s.queue.mtu (overhead (epoch_of kind)) (first_cut s n)) ≡ n
unfolding message_answer
message-whole s f room kept kind n =
    by_test (λ (a : SendAnswer). is_done a ≡ true → total (pieces 13 s.queue.mtu (overhead (epoch_of kind)) (first_cut s n)) ≡ n)
    (λ r. by_test (λ (a : SendAnswer). is_done a ≡ true → total (pieces 13 s.queue.mtu (overhead (epoch_of kind)) (first_cut s n)) ≡ n)
    (λ k. by_test (λ (a : SendAnswer). is_done a ≡ true → total (pieces 13 s.queue.mtu (overhead (epoch_of kind)) (first_cut s n)) ≡ n)
    (λ l z. absurd (false≢true z))
    (λ l. by_test (λ (a : SendAnswer). is_done a ≡ true → total (pieces 13 s.queue.mtu (overhead (epoch_of kind)) (first_cut s n)) ≡ n)
    (λ y. by_test (λ (a : SendAnswer). is_done a ≡ true → total (pieces 13 s.queue.mtu (overhead (epoch_of kind)) (first_cut s n)) ≡ n)
    (λ q z. absurd (false≢true z))
    (λ q. by_test (λ (a : SendAnswer). is_done a ≡ true → total (pieces 13 s.queue.mtu (overhead (epoch_of kind)) (first_cut s n)) ≡ n)
    (λ g z. absurd (false≢true z))
    (λ g z.
    let few = ltb-false 12 (f.saved + count_of s kind n) g in
    pieces_whole 13 s.queue.mtu (overhead (epoch_of kind)) (first_cut s n) (omega arith))))
    (λ y z. absurd (false≢true z))))
    (λ k z. absurd (false≢true z)))
    (λ r z. absurd (false≢true z))
