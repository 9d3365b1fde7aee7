-- The words behind a piece held, one by one. Assumes nothing.
use Rattle.std.specs.Prelude.{List, ◌≡◌, refl, ℕ, ◌+◌, ◌≤◌, ◌<◌, length, get_or, set}
use Rattle.std.proofs.Common.{ap, ◌∙◌, arith, eq-eqb, ne_eqb, length-set, get_or-set_same, get_or-set_other}
use Rattle.base.specs.Choose.{by_test, if_true, if_false}
use Rattle.handshake.specs.declared.Header.{Header}
use Rattle.assembly.specs.Spans.{most-pieces, words, expected-at, count_at, type_at, total-at, size-at, place_at, offset_at, length_at, expected_of, count_of, type_of, total_of, size_of, place_of, start_of, span_of}
use Rattle.assembly.specs.Assembly.{headed, held}

module _ (w : List ℕ) (h : Header) where
  pub headed-other : (j : ℕ) → (j ≡ type_at → ⊥) → (j ≡ total-at → ⊥) → get_or (headed w h) j 0 ≡ get_or w j 0
  headed-other j a b =
      by_test (λ (l : List ℕ). get_or l j 0 ≡ get_or w j 0)
      (λ e. get_or-set_other (set w type_at h.msg_type) total-at j h.length 0 b ∙ get_or-set_other w type_at j h.msg_type 0 a) (λ e. refl)

  pub length-headed : length (headed w h) ≡ length w
  length-headed =
      by_test (λ (l : List ℕ). length l ≡ length w) (λ e. length-set (set w type_at h.msg_type) total-at h.length ∙ length-set w type_at h.msg_type) (λ e. refl)

-- four words written: offset and length of piece n, how many there are, the place reached
module _ (v : List ℕ) (n o l next : ℕ) where
  abbrev one : List ℕ
  one = set v (offset_at n) o

  abbrev two : List ℕ
  two = set one (length_at n) l

  abbrev three : List ℕ
  three = set two count_at (n + 1)

  abbrev four : List ℕ
  four = set three place_at next

  length_two : length two ≡ length v
  length_two = length-set one (length_at n) l ∙ length-set v (offset_at n) o

  length_three : length three ≡ length v
  length_three = length-set two count_at (n + 1) ∙ length_two

  length-four : length four ≡ length v
  length-four = length-set three place_at next ∙ length_three

  four-other : (j : ℕ) → (j ≡ place_at → ⊥) → (j ≡ count_at → ⊥) → (j ≡ length_at n → ⊥) → (j ≡ offset_at n → ⊥) → get_or four j 0 ≡ get_or v j 0
  four-other j a b e f =
      get_or-set_other three place_at j next 0 a ∙ get_or-set_other two count_at j (n + 1) 0 b ∙ get_or-set_other one (length_at n) j l 0 e ∙ get_or-set_other v (offset_at n) j o 0 f

  four-place : place_at < length v → get_or four place_at 0 ≡ next
  four-place h = let e = length_three in get_or-set_same three place_at next 0 (omega arith)

  four-count : count_at < length v → get_or four count_at 0 ≡ n + 1
  four-count h = let e = length_two in get_or-set_other three place_at count_at next 0 (λ e. omega arith) ∙ get_or-set_same two count_at (n + 1) 0 (omega arith)

  four-span : length_at n < length v → get_or four (length_at n) 0 ≡ l
  four-span h =
      let e = length-set v (offset_at n) o in
      get_or-set_other three place_at (length_at n) next 0 (λ e. omega arith) ∙ get_or-set_other two count_at (length_at n) (n + 1) 0 (λ e. omega arith) ∙ get_or-set_same one (length_at n) l 0 (omega arith)

  four-start : offset_at n < length v → get_or four (offset_at n) 0 ≡ o
  four-start h =
      get_or-set_other three place_at (offset_at n) next 0 (λ e. omega arith) ∙ get_or-set_other two count_at (offset_at n) (n + 1) 0 (λ e. omega arith)
      ∙ get_or-set_other one (length_at n) (offset_at n) l 0 (λ e. omega arith) ∙ get_or-set_same v (offset_at n) o 0 h

module _ (w : List ℕ) (h : Header) (next : ℕ) where
  pub held-other : (j : ℕ) → (j ≡ place_at → ⊥) → (j ≡ count_at → ⊥) → (j ≡ length_at (count_of w) → ⊥) → (j ≡ offset_at (count_of w) → ⊥) → get_or (held w h next) j 0 ≡ get_or (headed w h) j 0
  unfolding held
  held-other = four-other (headed w h) (count_of w) h.fragment_offset h.fragment_length next

  pub held-expected : expected_of (held w h next) ≡ expected_of w
  held-expected =
      held-other expected-at (λ e. omega arith) (λ e. omega arith) (λ e. omega arith) (λ e. omega arith) ∙ headed-other w h expected-at (λ e. omega arith) (λ e. omega arith)

  pub held-size : size_of (held w h next) ≡ size_of w
  held-size =
      held-other size-at (λ e. omega arith) (λ e. omega arith) (λ e. omega arith) (λ e. omega arith) ∙ headed-other w h size-at (λ e. omega arith) (λ e. omega arith)

  pub length-held : length (held w h next) ≡ length w
  unfolding held
  length-held = length-four (headed w h) (count_of w) h.fragment_offset h.fragment_length next ∙ length-headed w h

  -- the pieces held before are as they were
  pub held_start : (k : ℕ) → k < count_of w → count_of w ≤ most-pieces → start_of (held w h next) k ≡ start_of w k
  held_start k l m =
      held-other (offset_at k) (λ e. omega arith) (λ e. omega arith) (λ e. omega arith) (λ e. omega arith) ∙ headed-other w h (offset_at k) (λ e. omega arith) (λ e. omega arith)

  pub held-span : (k : ℕ) → k < count_of w → count_of w < most-pieces → span_of (held w h next) k ≡ span_of w k
  held-span k l m =
      held-other (length_at k) (λ e. omega arith) (λ e. omega arith) (λ e. omega arith) (λ e. omega arith) ∙ headed-other w h (length_at k) (λ e. omega arith) (λ e. omega arith)

  module _ (words : length w ≡ words) (few : count_of w < most-pieces) where
    pub held_place : place_of (held w h next) ≡ next
    unfolding held
    held_place =
        let e = length-headed w h in four-place (headed w h) (count_of w) h.fragment_offset h.fragment_length next (omega arith)

    pub held-count : count_of (held w h next) ≡ count_of w + 1
    unfolding held
    held-count =
        let e = length-headed w h in four-count (headed w h) (count_of w) h.fragment_offset h.fragment_length next (omega arith)

    -- and one is added
    pub last-start : start_of (held w h next) (count_of w) ≡ h.fragment_offset
    unfolding held
    last-start =
        let e = length-headed w h in four-start (headed w h) (count_of w) h.fragment_offset h.fragment_length next (omega arith)

    pub last-span : span_of (held w h next) (count_of w) ≡ h.fragment_length
    unfolding held
    last-span =
        let e = length-headed w h in four-span (headed w h) (count_of w) h.fragment_offset h.fragment_length next (omega arith)

    -- type and total of the first piece held
    pub first-type : count_of w ≡ 0 → type_of (held w h next) ≡ h.msg_type
    first-type z =
        held-other type_at (λ e. omega arith) (λ e. omega arith) (λ e. omega arith) (λ e. omega arith)
        ∙ ap (λ (l : List ℕ). get_or l type_at 0) (if_true _ w (eq-eqb (count_of w) 0 z))
        ∙ get_or-set_other (set w type_at h.msg_type) total-at type_at h.length 0 (λ e. omega arith) ∙ get_or-set_same w type_at h.msg_type 0 (omega arith)

    pub first-total : count_of w ≡ 0 → total_of (held w h next) ≡ h.length
    first-total z =
        let e = length-set w type_at h.msg_type in
        held-other total-at (λ e. omega arith) (λ e. omega arith) (λ e. omega arith) (λ e. omega arith)
        ∙ ap (λ (l : List ℕ). get_or l total-at 0) (if_true _ w (eq-eqb (count_of w) 0 z)) ∙ get_or-set_same (set w type_at h.msg_type) total-at h.length 0 (omega arith)

    pub later-type : (count_of w ≡ 0 → ⊥) → type_of (held w h next) ≡ type_of w
    later-type z =
        held-other type_at (λ e. omega arith) (λ e. omega arith) (λ e. omega arith) (λ e. omega arith)
        ∙ ap (λ (l : List ℕ). get_or l type_at 0) (if_false _ w (ne_eqb (count_of w) 0 z))

    pub later-total : (count_of w ≡ 0 → ⊥) → total_of (held w h next) ≡ total_of w
    later-total z =
        held-other total-at (λ e. omega arith) (λ e. omega arith) (λ e. omega arith) (λ e. omega arith)
        ∙ ap (λ (l : List ℕ). get_or l total-at 0) (if_false _ w (ne_eqb (count_of w) 0 z))
