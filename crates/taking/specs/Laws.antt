-- Laws of taking: refused means unchanged, and a datagram taken is the front one. Assumes nothing.
use Rattle.std.specs.Prelude.{true, false, List, Some, None, Ok, Err, ◌≡◌, refl, ℕ}
use Rattle.std.proofs.lemmas.Bool.{false≢true}
use Rattle.std.proofs.Math.Path.{ap}
use Rattle.std.proofs.Common.{sym, ◌∙◌}
use Rattle.base.specs.Choose.{if_false, by_test}
use Rattle.outgoing.specs.declared.Sending.{Sending}
use Rattle.taking.specs.Take.{TakeAnswer, front_len, take_answer, is_taken, take_state, take_buffer}

-- an answer other than a datagram leaves state and buffer
module _ (a : TakeAnswer) (h : is_taken a ≡ false) (s : Sending) where
  pub kept-state : (take_state a s).state ≡ s
  unfolding take_state
  kept-state = if_false _ _ h

  pub kept_buffer : (q b : List ℕ) → take_buffer a s q b ≡ b
  unfolding take_buffer
  kept_buffer q b = if_false _ _ h

-- so many bytes are taken as the front datagram has
pub taken-length : (s : Sending) (room have : ℕ) → is_taken (take_answer s room have) ≡ true → take_answer s room have ≡ Ok (Some (front_len s))
unfolding take_answer
taken-length s room have =
    let P : TakeAnswer → Type 0 = λ a. is_taken a ≡ true → a ≡ Ok (Some (front_len s)) in
    by_test P
    (λ a. by_test P (λ b z. absurd (false≢true z))
    (λ b. by_test P (λ c. by_test P (λ f z. absurd (false≢true z)) (λ f. by_test P (λ g z. absurd (false≢true z)) (λ g z. refl))) (λ c z. absurd (false≢true z))))
    (λ a z. absurd (false≢true z))

abbrev size_of : TakeAnswer → ℕ
size_of (Ok (Some n)) = n
size_of (Ok None) = 0
size_of (Err e) = 0

pub taken-size : (s : Sending) (room have n : ℕ) → take_answer s room have ≡ Ok (Some n) → n ≡ front_len s
taken-size s room have n p = sym (ap size_of p) ∙ ap size_of (taken-length s room have (ap is_taken p))
