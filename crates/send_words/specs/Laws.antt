-- The lengths by their words, and what a state written is. Assumes nothing.
use Rattle.std.specs.Prelude.{true, List, ◌≡◌, ℕ, zero, suc, ◌+◌, ◌<◌, ◌%◌, get_or}
use Rattle.std.proofs.Common.{ap, ◌∙◌, arith}
use Rattle.outgoing.specs.declared.Sending.{Sending}
use Rattle.send_words.specs.Words.{length_at, lows_from, lengths_of, state_of, is_flat}

-- ---- the lengths

lows_at : (n i : ℕ) (w : List ℕ) (j : ℕ) → j < n → get_or (lows_from n i w) j 0 ≡ get_or w (i + j) 0 % 65536
unfolding lows_from
lows_at zero i w j h = absurd (omega arith)
lows_at (suc n) i w zero h = let e : i ≡ i + 0 = omega arith in ap (λ (k : ℕ). get_or w k 0 % 65536) e
lows_at (suc n) i w (suc j) h = let e : suc i + j ≡ i + suc j = omega arith in lows_at n (suc i) w j (omega arith) ∙ ap (λ (k : ℕ). get_or w k 0 % 65536) e

-- a slot's length is one word
pub slot-length : (w : List ℕ) (i : ℕ) → i < 16 → get_or (lengths_of w) i 0 ≡ get_or w (length_at i) 0 % 65536
slot-length w i h = lows_at 16 (length_at 0) w i h

-- ---- a state written

abbrev pub Kept : Sending → List ℕ → Type 0
Kept s v = (state_of v ≡ s) × (is_flat v ≡ true)
