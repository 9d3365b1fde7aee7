-- A part of a list, and a list written over a part of another: laws on both. Assumes nothing.
use Rattle.std.specs.Prelude.{◌≡◌, set, get_or}
use Rattle.std.proofs.Math.Path.{refl, sym, ap}
use Rattle.std.proofs.Common.{◌∙◌, add-one, drop_of_length-le, length-append, length-take, take_at, take-add, get_or-take, get_or-drop}
use mathlib.Core.List.{List, [], ◌∷◌, ◌++◌, append-nil, append_assoc}
use Prim.Native.Nat.{ℕ, ◌+◌, ◌-◌, ◌<◌, ◌≤◌}
use native.Mathlib.Omega.{arith}
use Rattle.std.proofs.Math.ListN.{length, take, drop, length-drop}
use Rattle.std.proofs.lemmas.List.Edits.{sets, sets-eq}
use Rattle.std.proofs.Math.Seq.{length-take-le, drop_at, drop-drop, take-take, take-append-le, take-append_seam}
use Rattle.std.proofs.lemmas.List.{drop-append-le, set_split}
use borrow.Rule.Slice.PartMut.{put_mid}

-- the n elements from place a on
abbrev pub part : ℕ → ℕ → List ℕ → List ℕ
part a n d = take n (drop a d)

-- how many bytes one move may have: as many as a message
abbrev pub most_moved : ℕ
most_moved = 16384

-- d with v written over it from place a on
unfoldable pub splice : ℕ → List ℕ → List ℕ → List ℕ
splice a v d = take a d ++ (v ++ drop (length v) (drop a d))

pub length_part : (a n : ℕ) (d : List ℕ) → a + n ≤ length d → length (part a n d) ≡ n
length_part a n d h = simp (length-take, length-drop) (omega arith)

-- a part of a list made of three is the middle one
pub part_middle : (a v r : List ℕ) → part (length a) (length v) (a ++ (v ++ r)) ≡ v
part_middle a v r = ap (take (length v)) (drop_at a (v ++ r) (length a) refl) ∙ take-append_seam v r

-- an element of a part
pub part_at : (a n : ℕ) (d : List ℕ) (i : ℕ) → i < n → get_or (part a n d) i 0 ≡ get_or d (a + i) 0
part_at a n d i h = get_or-take n (drop a d) i 0 h ∙ get_or-drop a d i 0

-- a part behind a part
pub part-behind : (a b n : ℕ) (d : List ℕ) → part b n (drop a d) ≡ part (a + b) n d
part-behind a b n d = ap (take n) (drop-drop b a d)

-- the first elements of a part
pub part-first : (a m n : ℕ) (d : List ℕ) → m ≤ n → take m (part a n d) ≡ part a m d
part-first a m n d h = take-take m n (drop a d) h

-- ---- writing

-- a list stored over a whole slice, element by element
pub filled : (v d : List ℕ) → length v ≡ length d → sets d 0 v ≡ v
filled v d e =
    sets-eq v d 0 (omega arith) ∙ ap (λ (x : List ℕ). v ++ x) (drop_of_length-le d {i = 0 + length v} (omega arith)) ∙ append-nil v

-- a list stored over the end of a slice, element by element
pub filled-end : (d v : List ℕ) (i : ℕ) → i + length v ≡ length d → sets d i v ≡ take i d ++ v
filled-end d v i e =
    sets-eq v d i (omega arith) ∙ ap (λ (x : List ℕ). take i d ++ v ++ x) (drop_of_length-le d {i = i + length v} (omega arith)) ∙ append-nil (take i d ++ v)

-- what a callee leaves in a part that it was lent, said of the whole
pub lent : (a e : ℕ) (d v : List ℕ) → length v ≡ e - a → put_mid a (e - a) d v ≡ splice a v d
unfolding splice
lent a e d v h = rw (← h)

pub length-splice : (a : ℕ) (v d : List ℕ) → a + length v ≤ length d → length (splice a v d) ≡ length d
unfolding splice
length-splice a v d h = simp (length-append, length-take, length-drop) (omega arith)

-- two lists written one behind the other
pub splice-next : (a b : ℕ) (u v d : List ℕ) → a ≤ length d → a + length u ≡ b → splice b v (splice a u d) ≡ splice a (u ++ v) d
unfolding splice
splice-next a b u v d h e =
    let p : List ℕ = take a d in
    let r : List ℕ = drop (length u) (drop a d) in
    let n : length (p ++ u) ≡ b = length-append p u ∙ ap (λ (k : ℕ). k + length u) (length-take-le a d h) ∙ e in
    rw (← append_assoc p u r, take_at (p ++ u) r b n, drop_at (p ++ u) r b n)
    (rw (append_assoc p u (v ++ drop (length v) r), append_assoc u v (drop (length (u ++ v)) (drop a d)), length-append u v, drop-drop (length v) (length u) (drop a d)))

-- one element stored
pub stored : (i v : ℕ) (d : List ℕ) → i < length d → set d i v ≡ splice i (v ∷ []) d
unfolding splice
stored i v d h =
    set_split d i v h ∙ ap (λ (k : ℕ). take i d ++ v ∷ drop k d) (sym (add-one i)) ∙ ap (λ (l : List ℕ). take i d ++ v ∷ l) (sym (drop-drop 1 i d))

module _ (p : ℕ) (v d : List ℕ) (fits : p + length v ≤ length d) where
  -- what was written is found there
  pub splice-here : part p (length v) (splice p v d) ≡ v
  unfolding splice
  splice-here =
      ap (take (length v)) (drop_at (take p d) (v ++ drop (length v) (drop p d)) p (length-take-le p d (omega arith))) ∙ take-append_seam v (drop (length v) (drop p d))

  pub splice_at : (j : ℕ) → j < length v → get_or (splice p v d) (p + j) 0 ≡ get_or v j 0
  splice_at j h = sym (part_at p (length v) (splice p v d) j h) ∙ ap (λ (l : List ℕ). get_or l j 0) splice-here

  -- a part in front of it is as it was
  pub splice-before : (a n : ℕ) → a + n ≤ p → part a n (splice p v d) ≡ part a n d
  unfolding splice
  splice-before a n h =
      let tail : List ℕ = v ++ drop (length v) (drop p d) in
      let len : length (take p d) ≡ p = length-take-le p d (omega arith) in
      let split : p ≡ a + (p - a) = omega arith in
      ap (take n) (drop-append-le a (take p d) tail (omega arith))
      ∙ take-append-le n (drop a (take p d)) tail (simp length-drop (omega arith))
      ∙ ap (λ (k : ℕ). take n (drop a (take k d))) split
      ∙ ap (take n) (rw (take-add a (p - a) d) (drop_at (take a d) (take (p - a) (drop a d)) a (length-take-le a d (omega arith))))
      ∙ take-take n (p - a) (drop a d) (omega arith)

  pub splice_front : (n : ℕ) → n < p → get_or (splice p v d) n 0 ≡ get_or d n 0
  splice_front n h =
      let e : 0 + n ≡ n = omega arith in
      ap (λ (j : ℕ). get_or (splice p v d) j 0) (sym e) ∙ sym (part_at 0 p (splice p v d) n h) ∙ ap (λ (l : List ℕ). get_or l n 0) (splice-before 0 p (omega arith))
      ∙ part_at 0 p d n h ∙ ap (λ (j : ℕ). get_or d j 0) e

  behind : drop (p + length v) (splice p v d) ≡ drop (p + length v) d
  unfolding splice
  behind =
      sym (drop-drop (length v) p (take p d ++ (v ++ drop (length v) (drop p d))))
      ∙ ap (drop (length v)) (drop_at (take p d) (v ++ drop (length v) (drop p d)) p (length-take-le p d (omega arith)))
      ∙ drop_at v (drop (length v) (drop p d)) (length v) refl ∙ drop-drop (length v) p d

  -- and so is a part behind it
  pub splice-after : (a n : ℕ) → p + length v ≤ a → part a n (splice p v d) ≡ part a n d
  splice-after a n h =
      let split : a ≡ p + length v + (a - (p + length v)) = omega arith in
      ap (λ (k : ℕ). part k n (splice p v d)) split
      ∙ ap (take n)
      (sym (drop-drop (a - (p + length v)) (p + length v) (splice p v d)) ∙ ap (drop (a - (p + length v))) behind
      ∙ drop-drop (a - (p + length v)) (p + length v) d)
      ∙ ap (λ (k : ℕ). part k n d) (sym split)

-- a list written over the whole of another
pub splice-whole : (w d : List ℕ) → length d ≤ length w → splice 0 w d ≡ w
unfolding splice
splice-whole w d h = ap (λ (l : List ℕ). w ++ l) (drop_of_length-le d {i = length w} h) ∙ append-nil w

-- the front of a buffer is what was written there
pub part-put : {n : ℕ} (w z x : List ℕ) → x ≡ w → length w ≡ n → n ≤ length z → take (n - 0) (drop 0 (put_mid 0 (n - 0) z x)) ≡ w
part-put {n} w z x ex h l =
    let e : n - 0 ≡ length w = omega arith in
    rw ex (ap (λ (d : List ℕ). take (n - 0) (drop 0 d)) (lent 0 n z w (omega arith))
    ∙ ap (λ (k : ℕ). part 0 k (splice 0 w z)) e ∙ splice-here 0 w z (omega arith))
