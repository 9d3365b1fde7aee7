-- Which bytes the pieces held cover, and which of a body's they share, by steps as the code takes them. Assumes nothing.
use Rattle.std.specs.Prelude.{Bool, true, false, List, ◌≡◌, leb, ltb, length, get_or}
use Rattle.std.proofs.lemmas.Bool.{false≢true}
use Rattle.std.proofs.Common.{⊎_elim, sym, ◌∙◌}
use Rattle.std.proofs.Math.Path.{refl, ap}
use Prim.Native.Nat.{ℕ, suc, ◌+◌, ◌-◌, ◌≤◌, ◌<◌}
use native.Mathlib.Omega.{arith}
use borrow.Author.Tests.{ltb-true, leb-true, lt-ltb, le-ltb, le-leb, lt-leb, eq-eqb}
use Rattle.std.proofs.Math.Dec.{eqb}
use Rattle.base.specs.Choose.{both, either, if_true, if_false, by_test, test_cases, both_left, both_right, both_true, both_false, either_true, either-false, lt-or_ge}
use Rattle.base.specs.Every.{every, each-every, every-each, every-fails, every-on, same_to, same-each, one-other}
use Rattle.base.specs.Parts.{part, part_at, length_part}
use Rattle.assembly.specs.Spans.{start_of, span_of, within, covered, all_covered, is_same, is_shared, all_shared}

either-any : (a : Bool) {b : Bool} → b ≡ true → either a b ≡ true
unfolding either
either-any true e = refl
either-any false e = e

-- ---- one piece

pub within_from : (s n i : ℕ) → within s n i ≡ true → s ≤ i
unfolding within
within_from s n i e = leb-true s i (both_left (leb s i) (ltb (i - s) n) e)

pub within_to : (s n i : ℕ) → within s n i ≡ true → i - s < n
unfolding within
within_to s n i e = ltb-true (i - s) n (both_right (leb s i) (ltb (i - s) n) e)

pub is_within : (s n i : ℕ) → s ≤ i → i - s < n → within s n i ≡ true
unfolding within
is_within s n i p q = both_true (le-leb s i p) ∙ lt-ltb (i - s) n q

pub not_from : (s n i : ℕ) → i < s → within s n i ≡ false
unfolding within
not_from s n i p = both_false (ltb (i - s) n) (lt-leb s i p)

pub not_to : (s n i : ℕ) → s ≤ i → n ≤ i - s → within s n i ≡ false
unfolding within
not_to s n i p q = both_true (le-leb s i p) ∙ le-ltb (i - s) n q

-- ---- the pieces held, the last first

module _ (w : List ℕ) (i k : ℕ) where
  covered-at : 0 < k → covered w k i ≡ either (within (start_of w (k - 1)) (span_of w (k - 1)) i) (covered w (k - 1) i)
  unfolding covered
  covered-at p = let e : k ≡ suc (k - 1) = omega arith in ap (λ (n : ℕ). covered w n i) e

  pub covered_hit : 0 < k → within (start_of w (k - 1)) (span_of w (k - 1)) i ≡ true → covered w k i ≡ true
  covered_hit p e = covered-at p ∙ either_true _ e

  pub covered_miss : 0 < k → within (start_of w (k - 1)) (span_of w (k - 1)) i ≡ false → covered w k i ≡ covered w (k - 1) i
  covered_miss p e = covered-at p ∙ either-false e

  pub covered_none : k ≤ 0 → covered w k i ≡ false
  unfolding covered
  covered_none p = let e : k ≡ 0 = omega arith in ap (λ (n : ℕ). covered w n i) e

  -- more pieces cover no less
  pub covered_more : 0 < k → covered w (k - 1) i ≡ true → covered w k i ≡ true
  covered_more p e = covered-at p ∙ either-any _ e

module _ (w : List ℕ) (o l k : ℕ) where
  same_at : 0 < k → is_same w k o l ≡ either (both (eqb (start_of w (k - 1)) o) (eqb (span_of w (k - 1)) l)) (is_same w (k - 1) o l)
  unfolding is_same
  same_at p = let e : k ≡ suc (k - 1) = omega arith in ap (λ (n : ℕ). is_same w n o l) e

  pub same_hit : 0 < k → both (eqb (start_of w (k - 1)) o) (eqb (span_of w (k - 1)) l) ≡ true → is_same w k o l ≡ true
  same_hit p e = same_at p ∙ either_true _ e

  pub same_miss : 0 < k → both (eqb (start_of w (k - 1)) o) (eqb (span_of w (k - 1)) l) ≡ false → is_same w k o l ≡ is_same w (k - 1) o l
  same_miss p e = same_at p ∙ either-false e

  pub same_none : k ≤ 0 → is_same w k o l ≡ false
  unfolding is_same
  same_none p = let e : k ≡ 0 = omega arith in ap (λ (n : ℕ). is_same w n o l) e

-- a byte that is not covered lies in no piece held
module _ (w : List ℕ) (i k : ℕ) (p : 0 < k) (e : covered w k i ≡ false) where
  not_last : within (start_of w (k - 1)) (span_of w (k - 1)) i ≡ false
  not_last = test_cases (within (start_of w (k - 1)) (span_of w (k - 1)) i) (λ q. absurd (false≢true (sym e ∙ covered_hit w i k p q))) (λ q. q)

  pub not_fewer : covered w (k - 1) i ≡ false
  not_fewer = sym (covered_miss w i k p not_last) ∙ e

  -- nor does one behind it, up to the next piece
  pub still_not : (j : ℕ) → (i < start_of w (k - 1) → i + j < start_of w (k - 1)) → within (start_of w (k - 1)) (span_of w (k - 1)) (i + j) ≡ false
  still_not j f =
      let s = start_of w (k - 1) in
      let m = span_of w (k - 1) in
      ⊎_elim (λ l. not_from s m (i + j) (f l)) (λ g. ⊎_elim (λ l. absurd (false≢true (sym not_last ∙ is_within s m i g l))) (λ l. not_to s m (i + j) (omega arith) (omega arith)) (lt-or_ge (i - s) m)) (lt-or_ge i s)

-- ---- every byte

-- covered so far and from there on
pub covered-on : (w : List ℕ) (n i r : ℕ) → ((x : ℕ) → x < i → covered w n x ≡ true) → ((x : ℕ) → i ≤ x → x < r → covered w n x ≡ true) → (x : ℕ) → x < r → covered w n x ≡ true
covered-on w n i r f g x h = ⊎_elim (λ l. f x l) (λ l. g x l h) (lt-or_ge x i)

module _ (w : List ℕ) (n t : ℕ) where
  pub all_true : ((x : ℕ) → x < t → covered w n x ≡ true) → all_covered w n t ≡ true
  unfolding all_covered
  all_true = each-every (covered w n) t

  pub all_hole : (x : ℕ) → x < t → covered w n x ≡ false → all_covered w n t ≡ false
  unfolding all_covered
  all_hole = every-fails (covered w n) t

  pub all-each : all_covered w n t ≡ true → (x : ℕ) → x < t → covered w n x ≡ true
  unfolding all_covered
  all-each = every-each (covered w n) t

-- ---- shared bytes

module _ (w : List ℕ) (n o : ℕ) (b d : List ℕ) where
  abbrev S : ℕ → Bool
  S = all_shared w n o b d

  pub shared_none : S 0 ≡ true
  unfolding all_shared every
  shared_none = refl

  -- bytes of which none is covered share none
  pub run-bare : (m g : ℕ) → ((j : ℕ) → j < g → covered w n (o + m + j) ≡ false) → S (m + g) ≡ S m
  unfolding all_shared is_shared
  run-bare m g f =
      every-on (is_shared w n o b d) m g (λ j h. let e : o + (m + j) ≡ o + m + j = omega arith in if_false _ _ (ap (covered w n) e ∙ f j h))

  pub bare_shared : ((i : ℕ) → o ≤ i → i < o + length b → covered w n i ≡ false) → S (length b) ≡ true
  bare_shared f =
      let e : length b ≡ 0 + length b = omega arith in ap S e ∙ run-bare 0 (length b) (λ j h. f (o + 0 + j) (omega arith) (omega arith)) ∙ shared_none

  -- a run of a body, i to i + g, and the bytes that d has in its place
  module _ (i g : ℕ) (inside : i + g ≤ length b) (fits : o + length b ≤ length d) where
    abbrev mine : List ℕ
    mine = part i g b

    abbrev there : List ℕ
    there = part (o + i) g d

    at-mine : (j : ℕ) → j < g → get_or mine j 0 ≡ get_or b (i + j) 0
    at-mine j h = part_at i g b j h

    at_there : (j : ℕ) → j < g → get_or there j 0 ≡ get_or d (o + (i + j)) 0
    at_there j h = let e : o + i + j ≡ o + (i + j) = omega arith in part_at (o + i) g d j h ∙ ap (λ (k : ℕ). get_or d k 0) e

    -- the two parts as code names them, by their ends
    pub by-ends : {r : Bool} → r ≡ same_to (part i (i + g - i) b) (part (o + i) (o + i + g - (o + i)) d) (length (part i (i + g - i) b)) → r ≡ same_to mine there g
    by-ends e =
        let k : i + g - i ≡ g = omega arith in
        let l : o + i + g - (o + i) ≡ g = omega arith in
        e ∙ rw (k, l) (ap (same_to mine there) (length_part i g b inside))

    -- where they are the same, all are shared or bare
    pub run-same : same_to mine there g ≡ true → S (i + g) ≡ S i
    unfolding all_shared is_shared
    run-same e =
        every-on (is_shared w n o b d) i g
        (λ j h. by_test (λ (t : Bool). t ≡ true) (λ t. eq-eqb _ _ (sym (at-mine j h) ∙ same-each mine there g e j h ∙ at_there j h)) (λ t. refl))

    -- where they are not and are covered, the body is not
    pub run-other : ((j : ℕ) → j < g → covered w n (o + i + j) ≡ true) → same_to mine there g ≡ false → S (length b) ≡ false
    unfolding all_shared is_shared
    run-other f e =
        let x = one-other mine there g e in
        let j = x.0 in
        let h = x.1 in
        let k : o + i + j ≡ o + (i + j) = omega arith in
        every-fails (is_shared w n o b d) (length b) (i + j) (omega arith)
        (if_true _ _ (ap (covered w n) (sym k) ∙ f j h) ∙ ap (λ (y : ℕ). eqb y (get_or d (o + (i + j)) 0)) (sym (at-mine j h)) ∙ ap (eqb (get_or mine j 0)) (sym (at_there j h)) ∙ x.2)
