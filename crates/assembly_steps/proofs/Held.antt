-- What a walk over the pieces held says of the bytes that they cover. Assumes nothing.
use Rattle.std.specs.Prelude.{Some, Bool, true, false, List, [], ◌∷◌, ◌++◌, ◌≡◌, refl, ℕ, zero, suc, ◌+◌, ◌-◌, ◌≤◌, ◌<◌, leb, min, length, get_or, drop}
use Rattle.std.specs.List.{fold}
use Rattle.std.proofs.lemmas.Bool.{false≢true}
use Rattle.std.proofs.lemmas.List.Sums.{sum_by_push}
use Rattle.std.proofs.Math.Seq.{take-suc}
use Rattle.std.proofs.Common.{⊎_elim, sym, ap, ◌∙◌, arith, leb-true, length-drop, get_or-drop}
use Rattle.base.specs.Choose.{both, either, by_less, test_cases, both_left, both_right, either_true, either-false, lt-or_ge}
use Rattle.base.specs.Parts.{part, length_part, part_at}
use Rattle.assembly.specs.Spans.{start_of, span_of, within, covered, offset_at, length_at}
use Rattle.assembly.proofs.Covering.{is_within, not_from, not_to}
use Rattle.assembly_steps.specs.Parts.{ahead, apart, Holder, Reach}
use Rattle.assembly_steps.specs.Sums.{sum_to, lengths_of}

-- ---- one of the pieces held

either-no : (a b : Bool) → either a b ≡ false → (a ≡ false) × (b ≡ false)
unfolding either
either-no true b e = absurd (false≢true (sym e))
either-no false b e = (refl, e)

either-any : (a : Bool) {b : Bool} → b ≡ true → either a b ≡ true
unfolding either
either-any true e = refl
either-any false e = e

module _ (w : List ℕ) where
  module _ (i : ℕ) where
    abbrev has : ℕ → Bool
    has k = within (start_of w k) (span_of w k) i

    pub covered_one : (n k : ℕ) → k < n → has k ≡ true → covered w n i ≡ true
    unfolding covered
    covered_one zero k h e = absurd (omega arith)
    covered_one (suc n) k h e =
        ⊎_elim (λ l. either-any (has n) (covered_one n k l e)) (λ l. let z : n ≡ k = omega arith in either_true (covered w n i) (ap has z ∙ e)) (lt-or_ge k n)

    pub covered-none : (n : ℕ) → ((k : ℕ) → k < n → has k ≡ false) → covered w n i ≡ false
    unfolding covered
    covered-none zero f = refl
    covered-none (suc n) f = either-false (f n (omega arith)) ∙ covered-none n (λ k h. f k (omega arith))

    pub covered-not : (n : ℕ) → covered w n i ≡ false → (k : ℕ) → k < n → has k ≡ false
    unfolding covered
    covered-not zero e k h = absurd (omega arith)
    covered-not (suc n) e k h =
        let f = either-no (has n) (covered w n i) e in
        ⊎_elim (λ l. covered-not n f.1 k l) (λ l. let z : k ≡ n = omega arith in ap has z ∙ f.0) (lt-or_ge k n)

  pub reach_some : (n i k : ℕ) → Holder w n i (Some k) → Reach w n i (Some (span_of w k - (i - start_of w k)))
  reach_some n i k e =
      let from = e.1 in
      let to = e.2 in
      (omega arith, λ j h. covered_one (i + j) n k e.0 (is_within (start_of w k) (span_of w k) (i + j) (omega arith) (omega arith)))

-- ---- bytes that lie apart

pub apart-not : (s l o e i : ℕ) → apart s l o e ≡ true → o ≤ i → i < e → within s l i ≡ false
unfolding either apart
apart-not s l o e i t p q =
    test_cases (leb e s) (λ u. let a = leb-true e s u in not_from s l i (omega arith))
    (λ u. let v : both (leb s o) (leb l (o - s)) ≡ true = sym (ap (λ (b : Bool). either b (both (leb s o) (leb l (o - s)))) u) ∙ t in
    let a = leb-true s o (both_left _ _ v) in
    let b = leb-true l (o - s) (both_right (leb s o) _ v) in
    not_to s l i (omega arith) (omega arith))

-- ---- the bytes before the next piece

ahead-most : (i r s : ℕ) → ahead i r s ≤ r
ahead-most i r s = by_less (λ (x : ℕ). x ≤ r) i s (λ h. omega arith) (λ h. omega arith)

ahead_some : (i r s : ℕ) → 0 < r → 0 < ahead i r s
ahead_some i r s p = by_less (λ (x : ℕ). 0 < x) i s (λ h. omega arith) (λ h. omega arith)

ahead-before : (i r s : ℕ) → i < s → i + ahead i r s ≤ s
ahead-before i r s p = by_less (λ (x : ℕ). i + x ≤ s) i s (λ h. omega arith) (λ h. absurd (omega arith))

pub gap-most : (i r : ℕ) (xs : List ℕ) → fold (ahead i) r xs ≤ r
gap-most i r [] = omega arith
gap-most i r (x ∷ xs) =
    let a = gap-most i (ahead i r x) xs in
    let b = ahead-most i r x in
    omega arith

pub gap_some : (i r : ℕ) (xs : List ℕ) → 0 < r → 0 < fold (ahead i) r xs
gap_some i r [] p = p
gap_some i r (x ∷ xs) p = gap_some i (ahead i r x) xs (ahead_some i r x p)

gap-before : (i r : ℕ) (xs : List ℕ) (k : ℕ) → k < length xs → i < get_or xs k 0 → i + fold (ahead i) r xs ≤ get_or xs k 0
gap-before i r [] k h l = absurd (omega arith)
gap-before i r (x ∷ xs) zero h l =
    let a = gap-most i (ahead i r x) xs in
    let b = ahead-before i r x l in
    omega arith
gap-before i r (x ∷ xs) (suc k) h l = gap-before i (ahead i r x) xs k (omega arith) l

pub gap-bare : (w : List ℕ) (n i r : ℕ) → length_at 0 + n ≤ length w → covered w n i ≡ false → (j : ℕ) → j < fold (ahead i) r (part (offset_at 0) n w) → covered w n (i + j) ≡ false
gap-bare w n i r fits e j l =
    covered-none w (i + j) n
    (λ k h. let s = start_of w k in
    let m = span_of w k in
    let g = part_at (offset_at 0) n w k h in
    let c = length_part (offset_at 0) n w (omega arith) in
    ⊎_elim (λ p. let b = gap-before i r (part (offset_at 0) n w) k (omega arith) (omega arith) in not_from s m (i + j) (omega arith))
    (λ p. ⊎_elim (λ q. absurd (false≢true (sym (covered-not w i n e k h) ∙ is_within s m i p q))) (λ q. not_to s m (i + j) (omega arith) (omega arith)) (lt-or_ge (i - s) m))
    (lt-or_ge i s))

-- ---- lengths added up

part-next : (a n : ℕ) (w : List ℕ) → a + n < length w → part a (suc n) w ≡ part a n w ++ get_or w (a + n) 0 ∷ []
part-next a n w h =
    let e = length-drop a w in
    take-suc (drop a w) n 0 (omega arith) ∙ ap (λ (x : ℕ). part a n w ++ x ∷ []) (get_or-drop a w n 0)

pub sum-lengths : (w : List ℕ) (t n : ℕ) → length_at 0 + n ≤ length w → sum_to t (part (length_at 0) n w) ≡ lengths_of w n t
unfolding lengths_of
sum-lengths w t zero h = refl
sum-lengths w t (suc n) h =
    let e = sum-lengths w t n (omega arith) in
    let f = sum_by_push (λ (l : ℕ). min l t) (part (length_at 0) n w) (span_of w n) in
    ap (sum_to t) (part-next (length_at 0) n w (omega arith)) ∙ omega arith
