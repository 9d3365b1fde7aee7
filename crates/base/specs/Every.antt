-- A test that every number below another passes, said once for covered bytes, shared bytes and equal lists. Assumes nothing.
use Rattle.std.specs.Prelude.{Bool, true, false, List, ◌≡◌, eqb, get_or}
use Rattle.std.proofs.lemmas.Bool.{false≢true}
use Rattle.std.proofs.Math.Logic.{⊎_elim}
use Rattle.std.proofs.Math.Path.{refl, ap}
use Rattle.std.proofs.Common.{sym, ◌∙◌}
use Prim.Native.Nat.{ℕ, zero, suc, ◌+◌, ◌<◌}
use Rattle.std.proofs.Math.Numerals.{add-one}
use native.Mathlib.Omega.{arith}
use borrow.Author.Tests.{eqb-true, eq-eqb}
use Rattle.base.specs.Choose.{both, both_left, both_right, both_true, test_cases, eq-or_ne}

unfoldable pub every : (ℕ → Bool) → ℕ → Bool
every p zero = true
every p (suc i) = both (p i) (every p i)

module _ (p : ℕ → Bool) where
  pub every-next : (i : ℕ) → every p (i + 1) ≡ both (p i) (every p i)
  unfolding every
  every-next i = rw add-one refl

  pub each-every : (n : ℕ) → ((i : ℕ) → i < n → p i ≡ true) → every p n ≡ true
  unfolding every
  each-every zero f = refl
  each-every (suc n) f = both_true (f n (omega arith)) ∙ each-every n (λ i h. f i (omega arith))

  pub every-each : (n : ℕ) → every p n ≡ true → (i : ℕ) → i < n → p i ≡ true
  unfolding every
  every-each zero e i h = absurd (omega arith)
  every-each (suc n) e i h =
      ⊎_elim (λ q. ap p q ∙ both_left _ _ e) (λ q. every-each n (both_right (p n) _ e) i (omega arith)) (eq-or_ne i n)

  -- one that fails it
  pub every-fails : (n i : ℕ) → i < n → p i ≡ false → every p n ≡ false
  every-fails n i h e = test_cases (every p n) (λ t. absurd (false≢true (sym e ∙ every-each n t i h))) (λ t. t)

  pub one-fails : (n : ℕ) → every p n ≡ false → (i : ℕ) × (i < n) × (p i ≡ false)
  unfolding every
  one-fails zero e = absurd (false≢true (sym e))
  one-fails (suc n) e =
      test_cases (p n) (λ t. let h = one-fails n (sym (both_true t) ∙ e) in (h.0, omega (arith, h.1), h.2)) (λ t. (n, omega arith, t))

  -- g more that pass it
  pub every-on : (m g : ℕ) → ((j : ℕ) → j < g → p (m + j) ≡ true) → every p (m + g) ≡ every p m
  every-on m zero f = let e : m + 0 ≡ m = omega arith in ap (every p) e
  every-on m (suc g) f =
      let e : m + suc g ≡ m + g + 1 = omega arith in
      ap (every p) e ∙ every-next (m + g) ∙ both_true (f g (omega arith)) ∙ every-on m g (λ j h. f j (omega arith))

-- the first n elements of two lists are the same
unfoldable pub same_to : List ℕ → List ℕ → ℕ → Bool
same_to a b n = every (λ (i : ℕ). eqb (get_or a i 0) (get_or b i 0)) n

module _ (a b : List ℕ) where
  pub same_next : (i : ℕ) → same_to a b (i + 1) ≡ both (eqb (get_or a i 0) (get_or b i 0)) (same_to a b i)
  unfolding same_to
  same_next i = every-next _ i

  pub same_none : same_to a b 0 ≡ true
  unfolding same_to every
  same_none = refl

  pub same-each : (n : ℕ) → same_to a b n ≡ true → (i : ℕ) → i < n → get_or a i 0 ≡ get_or b i 0
  unfolding same_to
  same-each n e i h = eqb-true _ _ (every-each _ n e i h)

  pub each_same : (n : ℕ) → ((i : ℕ) → i < n → get_or a i 0 ≡ get_or b i 0) → same_to a b n ≡ true
  unfolding same_to
  each_same n f = each-every _ n (λ i h. eq-eqb _ _ (f i h))

  pub one-other : (n : ℕ) → same_to a b n ≡ false → (i : ℕ) × (i < n) × (eqb (get_or a i 0) (get_or b i 0) ≡ false)
  unfolding same_to
  one-other n e = one-fails _ n e
