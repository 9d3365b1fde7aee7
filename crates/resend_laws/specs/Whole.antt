-- A flight is sent again wholly or not at all (01, "Flights acknowledged or sent again"): every record that is not marked, no marked one.
-- Assumes nothing.
use Rattle.std.specs.Prelude.{true, List, ◌≡◌, ℕ, ◌+◌, ◌*◌, ◌≤◌, ◌<◌, length, Ok}
use Rattle.std.proofs.Math.Bool.{false}
use Rattle.std.proofs.Math.ListN.{get_or}
use Rattle.base.specs.Choose.{choose}
use Rattle.queue.specs.Queue.{tail_of}
use Rattle.send_keys.specs.Keys.{is_usable, next_of}
use Rattle.outgoing.specs.declared.Sending.{Sending}
use Rattle.outgoing.specs.Send.{laid_state, laid_memory}
use Rattle.flight.specs.declared.Entry.{Entry}
use Rattle.flight.specs.declared.Flight.{Flight}
use Rattle.flight.specs.Flight.{entry_at}
use Rattle.flight.specs.declared.Saved.{Saved}
use Rattle.send_keys.specs.Answer.{SendAnswer}
use Rattle.resend.specs.Tests.{remembers, tail_after, count_after, closed_state, resend_answer}
use Rattle.resend.specs.Resend.{with_number, content_at, again_answer, resend_state, resend_queue}
use Rattle.resend_laws.specs.Steps.{Tables, reached, kept_content, number_again}

-- ---- the call

abbrev pub answer_to : Sending → Flight → List ℕ → List ℕ → SendAnswer
answer_to s f kept q = resend_answer s f (length q) (length kept)

abbrev pub left_state : Sending → Flight → List ℕ → List ℕ → Saved
left_state s f kept q = resend_state (answer_to s f kept q) s f kept q

abbrev pub left_queue : Sending → Flight → List ℕ → List ℕ → List ℕ
left_queue s f kept q = resend_queue (answer_to s f kept q) s f kept q

-- the i-th saved record's entry, sent again: the new number is its present one; one more is remembered if it is a handshake record of epoch 2
-- or above
abbrev pub entry_again : Sending → Flight → ℕ → Entry
entry_again s f i = with_number (entry_at f i) (number_again s f i) (choose (remembers (entry_at f i)) ((entry_at f i).remembered + 1) (entry_at f i).remembered)

-- a flight sent again whole
pub record Whole (s : Sending) (f : Flight) (kept q : List ℕ) : Type 0 where
  -- what the call leaves is what the records sent again one after the other leave
  pub state : (left_state s f kept q).state ≡ (reached s f kept q f.saved).state
  pub flight : (left_state s f kept q).flight ≡ (reached s f kept q f.saved).flight
  pub queue : left_queue s f kept q ≡ (reached s f kept q f.saved).queue
  -- each record that is not marked is sent, in its turn, under the then next number of its epoch, with its own epoch, type and content
  pub sent : (i : ℕ) → i < f.saved → (entry_at f i).marked ≡ false → again_answer kept i (reached s f kept q i) ≡ Ok tt
  pub still : (i : ℕ) → i < f.saved → entry_at (reached s f kept q i).flight i ≡ entry_at f i
  pub content : (i : ℕ) → i < f.saved → (entry_at f i).marked ≡ false → content_at kept i (reached s f kept q i) ≡ kept_content s.queue.mtu f kept i
  pub number : (i : ℕ) → i < f.saved → (entry_at f i).marked ≡ false → next_of (reached s f kept q i).state.keys (entry_at f i).epoch ≡ number_again s f i
  pub usable : (i : ℕ) → i < f.saved → (entry_at f i).marked ≡ false → is_usable s.keys (entry_at f i).epoch ≡ true
  pub low : (i : ℕ) → i < f.saved → (entry_at f i).marked ≡ false → number_again s f i < 281474976710655
  pub long : (i : ℕ) → i < f.saved → (entry_at f i).marked ≡ false → length (kept_content s.queue.mtu f kept i) ≡ (entry_at f i).length
  pub laid-state : (i : ℕ) → i < f.saved → (entry_at f i).marked ≡ false
      → (reached s f kept q (i + 1)).state ≡ laid_state (reached s f kept q i).state (entry_at f i).epoch (entry_at f i).length
  pub laid-queue : (i : ℕ) → i < f.saved → (entry_at f i).marked ≡ false
      → (reached s f kept q (i + 1)).queue
      ≡ laid_memory (reached s f kept q i).state (entry_at f i).epoch (entry_at f i).content_type (kept_content s.queue.mtu f kept i) (reached s f kept q i).queue
  -- a marked one is passed over
  pub skipped : (i : ℕ) → i < f.saved → (entry_at f i).marked ≡ true → reached s f kept q (i + 1) ≡ reached s f kept q i
  -- the entry of one that is sent has the new number, and the old one goes into its next cell if it is to be remembered
  pub entry : (i : ℕ) → i < f.saved → (entry_at f i).marked ≡ false → entry_at (left_state s f kept q).flight i ≡ entry_again s f i
  pub room : (i : ℕ) → i < f.saved → (entry_at f i).marked ≡ false → remembers (entry_at f i) ≡ true → (entry_at f i).remembered < 32
  pub cell : (i : ℕ) → i < f.saved → (entry_at f i).marked ≡ false → remembers (entry_at f i) ≡ true
      → get_or (left_state s f kept q).flight.numbers (i * 32 + (entry_at f i).remembered) 0 ≡ (entry_at f i).number
  -- nothing else of the flight is changed
  pub marked : (i : ℕ) → i < f.saved → (entry_at f i).marked ≡ true → entry_at (left_state s f kept q).flight i ≡ entry_at f i
  pub beyond : (i : ℕ) → f.saved ≤ i → entry_at (left_state s f kept q).flight i ≡ entry_at f i
  pub cells : (i k : ℕ) → k < 32 → (i < f.saved → (entry_at f i).marked ≡ false → remembers (entry_at f i) ≡ true → k ≡ (entry_at f i).remembered → ⊥)
      → get_or (left_state s f kept q).flight.numbers (i * 32 + k) 0 ≡ get_or f.numbers (i * 32 + k) 0
  pub saved : (left_state s f kept q).flight.saved ≡ f.saved
  pub tables : Tables (left_state s f kept q).state (left_state s f kept q).flight
  -- the queue's end and the next numbers are as they were planned
  pub tail : tail_of (left_state s f kept q).state.queue ≡ tail_after s.queue.mtu (tail_of (closed_state s).queue) f f.saved
  pub next : (e : ℕ) → is_usable s.keys e ≡ true → next_of (left_state s f kept q).state.keys e ≡ next_of s.keys e + count_after f e f.saved
  -- no epoch is keyed or replaced
  pub handshake : (left_state s f kept q).state.keys.handshake.epoch ≡ s.keys.handshake.epoch
  pub application : (left_state s f kept q).state.keys.application.epoch ≡ s.keys.application.epoch
  -- the datagram is closed exactly if nothing was sent
  pub opened : (i : ℕ) → i < f.saved → (entry_at f i).marked ≡ false → (left_state s f kept q).state.queue.closed ≡ false
  pub closed : ((i : ℕ) → i < f.saved → (entry_at f i).marked ≡ true) → (left_state s f kept q).state.queue.closed ≡ true
  -- settings, the queue's front and the message's number stay
  pub mtu : (left_state s f kept q).state.queue.mtu ≡ s.queue.mtu
  pub limit : (left_state s f kept q).state.queue.limit ≡ s.queue.limit
  pub first : (left_state s f kept q).state.queue.first ≡ s.queue.first
  pub message : (left_state s f kept q).state.message_seq ≡ s.message_seq

-- ---- or not at all

-- a refused resend changes neither state nor flight nor queue
pub record Untouched (s : Sending) (f : Flight) (kept q : List ℕ) : Type 0 where
  pub state : (left_state s f kept q).state ≡ s
  pub flight : (left_state s f kept q).flight ≡ f
  pub queue : left_queue s f kept q ≡ q
