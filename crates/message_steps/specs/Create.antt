-- What a handshake message sent and saved writes of the words, and that its steps are the definition's. Assumes nothing.
use Rattle.std.specs.Prelude.{true, false, List, ◌≡◌, refl, ℕ, ◌+◌, ◌≤◌, ◌%◌, length, get_or, set}
use Rattle.std.proofs.Common.{sym, ap, ◌∙◌}
use Rattle.base.specs.Choose.{if_true, if_false}
use Rattle.flight.specs.Flight.{counted}
use Rattle.flight.specs.Save.{save_state}
use Rattle.messages.specs.Cut.{epoch_of}
use Rattle.outgoing.specs.State.{numbered}
use Rattle.messages.specs.Message.{Laid, content_of, piece_of, beginning, send_all, message_answer, message_state, message_queue, message_kept, message-counted, length-content, laid_same}
use Rattle.words.specs.Fields.{first_of, by-words, low-back}
use Rattle.send_words.specs.Words.{words, message-at, lows_from, state_of, is_flat}
use Rattle.send_words.specs.Partly.{Partly}
use Rattle.flight_words.specs.Words.{saved-at, flight_of, flat_to}
use Rattle.save_steps.specs.Save.{Saves}
use Rattle.send_keys.specs.Answer.{SendAnswer, is_done}

-- what the words v and g, the queue p and the contents j stand for behind an answer
abbrev pub laid_as : SendAnswer → List ℕ → List ℕ → List ℕ → List ℕ → List ℕ → Laid
laid_as a v g l p j = record { saved = record { answer = a; state = state_of v; flight = flight_of g l }; queue = p; kept = j }

-- ---- a piece is a record saved

-- its content
abbrev pub piece_in : ℕ → List ℕ → List ℕ → ℕ → ℕ → List ℕ
piece_in kind w body at n = content_of kind (state_of w).message_seq body at n

pub piece_is : {a : SendAnswer} (kind at n : ℕ) (body w v f g q p k j : List ℕ) → at + n ≤ length body → Saves a (epoch_of kind) 22 (piece_in kind w body at n) w v f g q p k j
    → (l : List ℕ) → laid_as a v g l p j ≡ piece_of kind body at n (state_of w) (flight_of f l) q k
unfolding piece_of
piece_is kind at n body w v f g q p k j h y l =
    laid_same
    (y.saved l ∙ ap (save_state (state_of w) (flight_of f l) (length q) (length k) (epoch_of kind) 22) (length-content kind (state_of w).message_seq body at n h))
    (y.queue l)
    (y.kept l)

-- ---- the next message's number

abbrev Numbers : ℕ → List ℕ → Type 0
Numbers x w = (state_of (set w message-at x) ≡ numbered (state_of w) (x % 65536)) × (is_flat (set w message-at x) ≡ is_flat w)

pub message-put : (w : List ℕ) (x : ℕ) → length w ≡ words → x ≤ 65535 → Partly (numbered (state_of w) x) w (set w message-at x)
unfolding first_of lows_from is_flat
message-put w x h b =
    let p = by-words words (Numbers x) w h (refl, refl) in
    (p.0 ∙ ap (numbered (state_of w)) (low-back b), λ f. p.1 ∙ f)

-- ---- a message of type t with body b: words w and f, queue q, contents k before; v, g, p, j behind

-- its pieces sent
pub record Pieces (a : SendAnswer) (t : ℕ) (b w v f g q p k j : List ℕ) : Type 0 where
  pub all : (l : List ℕ) → laid_as a v g l p j ≡ send_all 13 t b 0 (beginning (state_of w) (flight_of f l) q k)
  pub flat : is_flat w ≡ true → is_flat v ≡ true
  pub marks : flat_to f 12 ≡ true → flat_to g 12 ≡ true

abbrev answer_over : List ℕ → List ℕ → List ℕ → List ℕ → List ℕ → ℕ → List ℕ → SendAnswer
answer_over w f l q k t b = message_answer (state_of w) (flight_of f l) (length q) (length k) t (length b)

pub record Creates (a : SendAnswer) (t : ℕ) (b w v f g q p k j : List ℕ) : Type 0 where
  pub saved : (l : List ℕ) → record { answer = a; state = state_of v; flight = flight_of g l } ≡ message_state (answer_over w f l q k t b) (state_of w) (flight_of f l) q k t b
  pub queue : (l : List ℕ) → p ≡ message_queue (answer_over w f l q k t b) (state_of w) (flight_of f l) q k t b
  pub kept : (l : List ℕ) → j ≡ message_kept (answer_over w f l q k t b) (state_of w) (flight_of f l) q k t b
  pub flat : is_flat w ≡ true → is_flat v ≡ true
  pub marks : flat_to f 12 ≡ true → flat_to g 12 ≡ true

module _ {a : SendAnswer} (t : ℕ) (b w f q k : List ℕ) (h : a ≡ message_answer (state_of w) (counted (get_or f saved-at 0)) (length q) (length k) t (length b)) where
  same : (l : List ℕ) → answer_over w f l q k t b ≡ a
  same l = sym (h ∙ message-counted (state_of w) (flight_of f l) (length q) (length k) t (length b))

  pub creates_all : {r : SendAnswer} (u v g p j : List ℕ) → is_done a ≡ true → Pieces r t b w u f g q p k j
      → Partly (numbered (state_of u) ((state_of w).message_seq + 1)) u v → Creates a t b w v f g q p k j
  unfolding message_state message_queue message_kept
  creates_all u v g p j d y z =
      record {
        saved = λ l. rw (same l, if_true _ _ d, z.0) (rw (← y.all l));
        queue = λ l. rw (same l, if_true _ _ d) (ap (λ (x : Laid). x.queue) (y.all l));
        kept = λ l. rw (same l, if_true _ _ d) (ap (λ (x : Laid). x.kept) (y.all l));
        flat = λ i. z.1 (y.flat i);
        marks = y.marks;
      }

  pub creates_nothing : is_done a ≡ false → Creates a t b w w f f q q k k
  unfolding message_state message_queue message_kept
  creates_nothing d =
      record {
        saved = λ l. rw (same l, if_false _ _ d);
        queue = λ l. rw (same l, if_false _ _ d);
        kept = λ l. rw (same l, if_false _ _ d);
        flat = λ i. i;
        marks = λ i. i;
      }
