-- A record sent, or refused and nothing written. Assumes nothing.
use Rattle.std.specs.Prelude.{true, false, List, ◌≡◌, ℕ, length}
use Rattle.std.proofs.Math.Path.{sym}
use Rattle.std.proofs.Common.{◌∙◌}
use Rattle.base.specs.Choose.{if_true, if_false}
use Rattle.outgoing.specs.Send.{send_answer, send_state, send_memory, laid_state, laid_memory}
use Rattle.send_words.specs.Words.{state_of, is_flat}
use Rattle.send_words.specs.Partly.{Partly}
use Rattle.send_keys.specs.Answer.{SendAnswer, is_done}

-- a record of epoch e and type t with this content: w and queue q before; v and p behind
pub record Sends (a : SendAnswer) (e t : ℕ) (x w v q p : List ℕ) : Type 0 where
  pub answer : a ≡ send_answer (state_of w) (length q) e t (length x)
  pub state : state_of v ≡ (send_state a (state_of w) e (length x)).state
  pub flat : is_flat w ≡ true → is_flat v ≡ true
  pub memory : p ≡ send_memory a (state_of w) e t x q

module _ {a : SendAnswer} {e t : ℕ} (x w q : List ℕ) (h : a ≡ send_answer (state_of w) (length q) e t (length x)) where
  pub sends-laid : (v p : List ℕ) → is_done a ≡ true → Partly (laid_state (state_of w) e (length x)) w v → p ≡ laid_memory (state_of w) e t x q → Sends a e t x w v q p
  unfolding send_state send_memory
  sends-laid v p d l m = record { answer = h; state = l.0 ∙ sym (if_true _ _ d); flat = l.1; memory = m ∙ sym (if_true _ _ d) }

  pub sends-nothing : is_done a ≡ false → Sends a e t x w w q q
  unfolding send_state send_memory
  sends-nothing d = record { answer = h; state = sym (if_false _ _ d); flat = λ f. f; memory = sym (if_false _ _ d) }
