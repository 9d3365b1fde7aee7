-- What `any` and `all` answer over the numbers below another, or over the front of a slice, for a test that is defined from the last one down.
-- Assumes nothing.
use Rattle.std.specs.Prelude.{Bool, true, false, ◌||◌, ◌&&◌, List, [], ◌∷◌, ◌++◌, ◌≡◌, refl, ℕ, zero, suc, ◌+◌, ◌<◌, ◌≤◌, length, get_or, take}
use Rattle.std.specs.List.{list_any, list_all, filter, range_with_len}
use Rattle.std.proofs.Common.{sym, ap, ◌∙◌, arith, add-one, length-append}
use Rattle.std.proofs.lemmas.List.Folds.{list_any-append, list_all-append, list_any_more}
use Rattle.std.proofs.lemmas.List.Elements.{filter-append}
use Rattle.base.specs.Choose.{choose, both, test_cases}

-- the numbers below another, the last apart
pub range_more : (a n : ℕ) → range_with_len a (suc n) ≡ range_with_len a n ++ ((a + n) ∷ [])
range_more a zero = ap (λ (x : ℕ). x ∷ []) (omega arith)
range_more a (suc n) = let e : a + 1 + n ≡ a + suc n = omega arith in ap (λ (l : List ℕ). a ∷ l) (range_more (a + 1) n ∙ ap (λ (x : ℕ). range_with_len (a + 1) n ++ (x ∷ [])) e)

below_more : (n : ℕ) → range_with_len 0 (suc n) ≡ range_with_len 0 n ++ (n ∷ [])
below_more n = let e : 0 + n ≡ n = omega arith in range_more 0 n ∙ ap (λ (x : ℕ). range_with_len 0 n ++ (x ∷ [])) e

or-choose : (a b : Bool) → (a || b) ≡ choose b true a
unfolding choose
or-choose true true = refl
or-choose true false = refl
or-choose false true = refl
or-choose false false = refl

or-none : (a b : Bool) → (a || (b || false)) ≡ choose b true a
unfolding choose
or-none true true = refl
or-none true false = refl
or-none false true = refl
or-none false false = refl

and-all : (a b : Bool) → (a && (b && true)) ≡ both b a
unfolding both
and-all true true = refl
and-all true false = refl
and-all false true = refl
and-all false false = refl

module _ (t F : ℕ → Bool) where
  pub any_below : F 0 ≡ false → ((i : ℕ) → F (suc i) ≡ choose (t i) true (F i)) → (n : ℕ) → list_any t (range_with_len 0 n) ≡ F n
  any_below z s zero = sym z
  any_below z s (suc n) =
      ap (list_any t) (below_more n) ∙ list_any-append t (range_with_len 0 n) (n ∷ []) ∙ or-none _ (t n)
      ∙ ap (choose (t n) true) (any_below z s n) ∙ sym (s n)

  pub all_below : F 0 ≡ true → ((i : ℕ) → F (suc i) ≡ both (t i) (F i)) → (n : ℕ) → list_all t (range_with_len 0 n) ≡ F n
  all_below z s zero = sym z
  all_below z s (suc n) =
      ap (list_all t) (below_more n) ∙ list_all-append t (range_with_len 0 n) (n ∷ []) ∙ and-all _ (t n)
      ∙ ap (both (t n)) (all_below z s n) ∙ sym (s n)

  pub any_front : (xs : List ℕ) → F 0 ≡ false → ((i : ℕ) → i < length xs → F (suc i) ≡ choose (t (get_or xs i 0)) true (F i)) → (n : ℕ) → n ≤ length xs → list_any t (take n xs) ≡ F n
  any_front xs z s zero h = sym z
  any_front xs z s (suc n) h =
      ap (λ (k : ℕ). list_any t (take k xs)) (sym (add-one n)) ∙ list_any_more t xs n 0 (omega arith) ∙ or-choose _ (t (get_or xs n 0))
      ∙ ap (choose (t (get_or xs n 0)) true) (any_front xs z s n (omega arith)) ∙ sym (s n (omega arith))

one-if : (t : ℕ → Bool) (n : ℕ) → length (filter t (n ∷ [])) ≡ choose (t n) 1 0
unfolding choose
one-if t n = test_cases (t n) (λ h. rw h) (λ h. rw h)

-- how many numbers below another pass a test
pub count_below : (t : ℕ → Bool) (F : ℕ → ℕ) → F 0 ≡ 0 → (n : ℕ) → ((i : ℕ) → i < n → F (suc i) ≡ F i + choose (t i) 1 0) → length (filter t (range_with_len 0 n)) ≡ F n
count_below t F z zero s = sym z
count_below t F z (suc n) s =
    let first : length (filter t (range_with_len 0 n)) ≡ F n = count_below t F z n (λ i h. s i (omega (arith, h))) in
    ap (λ (l : List ℕ). length (filter t l)) (below_more n) ∙ ap length (filter-append t (range_with_len 0 n) (n ∷ [])) ∙ length-append (filter t (range_with_len 0 n)) (filter t (n ∷ []))
    ∙ rw (first, one-if t n) (sym (s n (omega arith)))
