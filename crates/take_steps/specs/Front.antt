-- The front datagram in the words: where it lies, and what they stand for once it is taken. Assumes nothing.
use Rattle.std.specs.Prelude.{List, Option, Some, None, Result, Ok, Err, ◌≡◌, refl, ℕ, ◌*◌, length, set}
use Rattle.std.proofs.Math.Path.{ap}
use Rattle.std.proofs.Common.{sym, ◌∙◌}
use Rattle.queue.specs.Queue.{with_front}
use Rattle.outgoing.specs.State.{with_queue}
use Rattle.words.specs.Fields.{first_of, by-words}
use Rattle.outgoing.specs.declared.Sending.{Sending}
use Rattle.send_words.specs.Words.{words, first-at, count_at, lows_from, state_of, is_flat}
use Rattle.taking.specs.declared.TakeError.{TakeError}
use Rattle.taking.specs.Take.{TakeAnswer}
use Rattle.take_steps.specs.declared.Front.{Front}

-- the answer with the place of the datagram that is taken: its first byte and its length
abbrev pub front_of : TakeAnswer → Sending → Result (Option Front) TakeError
front_of (Ok (Some n)) s = Ok (Some (record { start = s.queue.first * s.queue.mtu; length = n }))
front_of (Ok None) s = Ok None
front_of (Err e) s = Err e

-- the words v stand for s, flat if w were
abbrev pub Stands : Sending → List ℕ → List ℕ → Type 0
Stands s w v = (state_of v ≡ s) × (is_flat v ≡ is_flat w)

-- ---- the ring's front written

abbrev fronted : Sending → ℕ → ℕ → Sending
fronted s x y = with_queue s (with_front s.queue x y)

pub fronts : (w : List ℕ) (x y : ℕ) → length w ≡ words → Stands (fronted (state_of w) x y) w (set (set w first-at x) count_at y)
unfolding first_of lows_from is_flat
fronts w x y h = by-words words (λ (v : List ℕ). Stands (fronted (state_of v) x y) v (set (set v first-at x) count_at y)) w h (refl, refl)

-- ---- what the place tells of the answer

abbrev pub told : Result (Option Front) TakeError → TakeAnswer
told (Ok (Some f)) = Ok (Some f.length)
told (Ok None) = Ok None
told (Err e) = Err e

abbrev pub begins : Result (Option Front) TakeError → ℕ
begins (Ok (Some f)) = f.start
begins (Ok None) = 0
begins (Err e) = 0

told-front : (a : TakeAnswer) (s : Sending) → told (front_of a s) ≡ a
told-front (Ok (Some n)) s = refl
told-front (Ok None) s = refl
told-front (Err e) s = refl

-- a what is answered, r the answer with the place
module _ {a : TakeAnswer} {r : Result (Option Front) TakeError} (s : Sending) (p : r ≡ front_of a s) where
  pub front-answer : a ≡ told r
  front-answer = sym (ap told p ∙ told-front a s)

  pub front-starts : {n : ℕ} → a ≡ Ok (Some n) → begins r ≡ s.queue.first * s.queue.mtu
  front-starts e = ap begins p ∙ ap (λ (x : TakeAnswer). begins (front_of x s)) e
