-- One entry of the flight read, and its mark or its numbers written: all else stays. Assumes nothing.
use Rattle.std.specs.Prelude.{Bool, false, List, ◌≡◌, eqb, length, get_or, set}
use Rattle.std.proofs.Math.Bool.{true}
use Rattle.std.proofs.lemmas.Bool.{false≢true}
use Rattle.std.proofs.Common.{⊎_elim, sym, ◌∙◌, arith, get_or-set_other, get_or-set_same}
use Rattle.std.proofs.Math.Path.{refl, ap}
use Prim.Native.Nat.{ℕ, zero, suc, ◌≤◌, ◌<◌}
use borrow.Author.Tests.{le-ltb}
use Rattle.std.proofs.Math.Dec.{ltb}
use Rattle.base.specs.Choose.{if_false, by_test, eq-or_ne}
use Rattle.flight.specs.declared.Entry.{Entry}
use Rattle.flight.specs.Flight.{no_entry, with_saved}
use Rattle.words.specs.Fields.{first_of, by-words, bit_of, bit-back}
use Rattle.flight_words.specs.Words.{words, number_at, marked-at, remembered_at, saved-at, entry_at, entries_of, flight_of, flat_to}

-- ---- of each of the twelve

below : (P : ℕ → Type 0) → P 0 → P 1 → P 2 → P 3 → P 4 → P 5 → P 6 → P 7 → P 8 → P 9 → P 10 → P 11 → (i : ℕ) → i < 12 → P i
below P a b c d e f g h j k l m zero x = a
below P a b c d e f g h j k l m (suc zero) x = b
below P a b c d e f g h j k l m (suc (suc zero)) x = c
below P a b c d e f g h j k l m (suc (suc (suc zero))) x = d
below P a b c d e f g h j k l m (suc (suc (suc (suc zero)))) x = e
below P a b c d e f g h j k l m (suc (suc (suc (suc (suc zero))))) x = f
below P a b c d e f g h j k l m (suc (suc (suc (suc (suc (suc zero)))))) x = g
below P a b c d e f g h j k l m (suc (suc (suc (suc (suc (suc (suc zero))))))) x = h
below P a b c d e f g h j k l m (suc (suc (suc (suc (suc (suc (suc (suc zero)))))))) x = j
below P a b c d e f g h j k l m (suc (suc (suc (suc (suc (suc (suc (suc (suc zero))))))))) x = k
below P a b c d e f g h j k l m (suc (suc (suc (suc (suc (suc (suc (suc (suc (suc zero)))))))))) x = l
below P a b c d e f g h j k l m (suc (suc (suc (suc (suc (suc (suc (suc (suc (suc (suc zero))))))))))) x = m
below P a b c d e f g h j k l m (suc (suc (suc (suc (suc (suc (suc (suc (suc (suc (suc (suc i)))))))))))) x = absurd (omega arith)

pub entry-at : (w : List ℕ) (i : ℕ) → i < 12 → get_or (entries_of w) i no_entry ≡ entry_at w i
unfolding entries_of
entry-at w = below (λ i. get_or (entries_of w) i no_entry ≡ entry_at w i) refl refl refl refl refl refl refl refl refl refl refl refl

-- ---- one written

-- the i-th entry is e: w before, v behind
abbrev pub Entered : ℕ → Entry → List ℕ → List ℕ → Type 0
Entered i e w v = ((n : List ℕ) → flight_of v n ≡ with_saved (flight_of w n) (set (entries_of w) i e) (get_or w saved-at 0)) × (flat_to w 12 ≡ true → flat_to v 12 ≡ true)

abbrev pub with_marked : Entry → Bool → Entry
with_marked e m = record { content_type = e.content_type; epoch = e.epoch; number = e.number; length = e.length; marked = m; remembered = e.remembered }

abbrev pub with_numbers : Entry → ℕ → ℕ → Entry
with_numbers e x n = record { content_type = e.content_type; epoch = e.epoch; number = x; length = e.length; marked = e.marked; remembered = n }

abbrev Marks : ℕ → ℕ → List ℕ → Type 0
Marks x i w = (entries_of (set w (marked-at i) x) ≡ set (entries_of w) i (with_marked (entry_at w i) (eqb x 1))) × (get_or (set w (marked-at i) x) saved-at 0 ≡ get_or w saved-at 0)

abbrev put_numbers : ℕ → ℕ → ℕ → List ℕ → List ℕ
put_numbers x n i w = set (set w (number_at i) x) (remembered_at i) n

abbrev Numbers : ℕ → ℕ → ℕ → List ℕ → Type 0
Numbers x n i w = (entries_of (put_numbers x n i w) ≡ set (entries_of w) i (with_numbers (entry_at w i) x n)) × (get_or (put_numbers x n i w) saved-at 0 ≡ get_or w saved-at 0) × (flat_to (put_numbers x n i w) 12 ≡ flat_to w 12)

module _ (w : List ℕ) (h : length w ≡ words) where
  by_rows : (P : ℕ → List ℕ → Type 0) → P 0 (first_of words w) → P 1 (first_of words w) → P 2 (first_of words w) → P 3 (first_of words w) → P 4 (first_of words w) → P 5 (first_of words w) → P 6 (first_of words w) → P 7 (first_of words w) → P 8 (first_of words w) → P 9 (first_of words w) → P 10 (first_of words w) → P 11 (first_of words w) → (i : ℕ) → i < 12 → P i w
  by_rows P a b c d e f g j k l m n i x = by-words words (P i) w h (below (λ (y : ℕ). P y (first_of words w)) a b c d e f g j k l m n i x)

  marks : (x i : ℕ) → i < 12 → Marks x i w
  unfolding first_of entries_of
  marks x = by_rows (Marks x) (refl, refl) (refl, refl) (refl, refl) (refl, refl) (refl, refl) (refl, refl) (refl, refl) (refl, refl) (refl, refl) (refl, refl) (refl, refl) (refl, refl)

  numbers : (x n i : ℕ) → i < 12 → Numbers x n i w
  unfolding first_of entries_of flat_to
  numbers x n = by_rows (Numbers x n) (refl, refl, refl) (refl, refl, refl) (refl, refl, refl) (refl, refl, refl) (refl, refl, refl) (refl, refl, refl) (refl, refl, refl) (refl, refl, refl) (refl, refl, refl) (refl, refl, refl) (refl, refl, refl) (refl, refl, refl)

  -- a mark of 0 or 1 leaves the others as they are
  flat-still : (x i n : ℕ) → i < 12 → x ≤ 1 → flat_to w n ≡ true → flat_to (set w (marked-at i) x) n ≡ true
  unfolding flat_to
  flat-still x i zero l b = λ f. refl
  flat-still x i (suc n) l b =
      by_test (λ (t : Bool). t ≡ true → flat_to (set w (marked-at i) x) (suc n) ≡ true)
      (λ z f. absurd (false≢true f))
      (λ z f. if_false _ _
      (⊎_elim
      (λ (e : i ≡ n). ap (λ (k : ℕ). ltb 1 (get_or (set w (marked-at i) x) (marked-at k) 0)) (sym e) ∙ ap (ltb 1) (get_or-set_same w (marked-at i) x 0 (omega arith)) ∙ le-ltb 1 x b)
      (λ e. ap (ltb 1) (get_or-set_other w (marked-at i) (marked-at n) x 0 (λ (y : marked-at n ≡ marked-at i). e (omega arith))) ∙ z)
      (eq-or_ne i n))
      ∙ flat-still x i n l b f)

  bit-few : (m : Bool) → bit_of m ≤ 1
  bit-few true = omega arith
  bit-few false = omega arith

  pub mark-put : (i : ℕ) (m : Bool) → i < 12 → Entered i (with_marked (entry_at w i) m) w (set w (marked-at i) (bit_of m))
  mark-put i m l = (
    λ n. λ j. record { entries = ((marks (bit_of m) i l).0 ∙ ap (λ (b : Bool). set (entries_of w) i (with_marked (entry_at w i) b)) (bit-back m)) j; saved = (marks (bit_of m) i l).1 j; numbers = n },
    flat-still (bit_of m) i 12 l (bit-few m),
  )

  pub numbers-put : (x k i : ℕ) → i < 12 → Entered i (with_numbers (entry_at w i) x k) w (set (set w (number_at i) x) (remembered_at i) k)
  numbers-put x k i l = (λ n. λ j. record { entries = (numbers x k i l).0 j; saved = (numbers x k i l).1 j; numbers = n }, λ f. (numbers x k i l).2 ∙ f)
