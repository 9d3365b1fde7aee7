-- Small laws that the proofs share: updates, options, lists, two choices by one test. Assumes nothing.
use Rattle.std.specs.Prelude.{ℕ, ◌+◌, ◌-◌, ◌<◌, ◌≤◌, length, drop, get_or, Bool, true, false, ◌≡◌, refl}
use Rattle.std.proofs.Common.{eqb-true, eq-eqb, ne_eqb, length-drop, drop-drop, take_all, true≢false, ⊎_elim, sym, ap, ◌∙◌, subst, arith}
use Rattle.std.proofs.lemmas.Bool.{eqb-false, false≢true}
use mathlib.Core.List.Memᴰ.{cases_cons as mem-cases}
use mathlib.Core.List.Memᴰ.{head as here}
use mathlib.Core.List.{List, [], ◌∷◌, Memᴰ as Mem}
use Rattle.std.proofs.Math.Option.{Option, none, some}
use Rattle.base.specs.Choose.{choose, both, either, if_true, if_false, by_test, test_cases, lt-or_ge}
use Rattle.base.specs.Parts.{part, part_at, splice, length-splice, splice-before, splice-after}
use Rattle.history_theorem.specs.Account.{upd}

module _ {A : Type 0} (f : ℕ → A) (e : ℕ) (a : A) where
  pub upd_same : upd f e a e ≡ a
  unfolding upd
  upd_same = if_true a (f e) (eq-eqb e e refl)

  pub upd_other : (k : ℕ) → (k ≡ e → ⊥) → upd f e a k ≡ f k
  unfolding upd
  upd_other k ne = if_false a (f k) (ne_eqb k e ne)

  -- a property of the updated value at k: of a where k is e, and of the old value elsewhere
  pub upd-by : (P : ℕ → A → Type 0) (k : ℕ) → (k ≡ e → P k a) → ((k ≡ e → ⊥) → P k (f k)) → P k (upd f e a k)
  unfolding upd
  upd-by P k at-e off-e = by_test (λ v. P k v) (λ t. at-e (eqb-true k e t)) (λ t. off-e (eqb-false k e t))

pub some≢none : {A B : Type 0} {a : A} → some a ≡ none → B
some≢none {A} {B} {a} e = let z : ◌≡◌ {A = ℕ} 0 1 = cc in absurd (omega arith)

pub some_inj : {A : Type 0} {a b : A} → some a ≡ some b → a ≡ b
some_inj e = cc

-- a case split on an option that keeps the equation
pub option_cases : {A C : Type 0} (o : Option A) → (o ≡ none → C) → ((a : A) → o ≡ some a → C) → C
option_cases none f g = f refl
option_cases (some a) f g = g a refl

pub empty_list : {A : Type 0} (l : List A) → ((a : A) → Mem a l → ⊥) → l ≡ []
empty_list [] h = refl
empty_list (a ∷ l) h = absurd (h a (here refl))

pub mem-by : {A C : Type 0} {a b : A} {l : List A} → Mem a (b ∷ l) → (a ≡ b → C) → (Mem a l → C) → C
mem-by m f g = ⊎_elim f g (mem-cases m)

-- two choices by one test
pub by_both : {A B : Type 0} (P : A → B → Type 0) {t u : Bool} {x y : A} {x' y' : B} → u ≡ t → (t ≡ true → P x x') → (t ≡ false → P y y')
    → P (choose t x y) (choose u x' y')
by_both P {t} {u} {x} {y} {x'} {y'} e f g =
    test_cases t
    (λ z. subst (λ v. P v (choose u x' y')) (sym (if_true x y z)) (subst (λ v. P x v) (sym (if_true x' y' (e ∙ z))) (f z)))
    (λ z. subst (λ v. P v (choose u x' y')) (sym (if_false x y z)) (subst (λ v. P y v) (sym (if_false x' y' (e ∙ z))) (g z)))

-- ---- what lies behind a place

pub drops_on : (n m : ℕ) (d w : List ℕ) → n ≤ m → drop n d ≡ drop n w → drop m d ≡ drop m w
drops_on n m d w h e =
    let split : m ≡ n + (m - n) = omega arith in
    ap (λ (k : ℕ). drop k d) split ∙ sym (drop-drop (m - n) n d) ∙ ap (drop (m - n)) e ∙ drop-drop (m - n) n w ∙ ap (λ (k : ℕ). drop k w) (sym split)

module _ (p : ℕ) (v d : List ℕ) (fits : p + length v ≤ length d) where
  pub splice-behind : (a : ℕ) → p + length v ≤ a → drop a (splice p v d) ≡ drop a d
  splice-behind a h =
      sym (take_all (length d) (drop a (splice p v d)) (omega (arith, length-drop a (splice p v d), length-splice p v d fits)))
      ∙ splice-after p v d fits a (length d) h ∙ take_all (length d) (drop a d) (omega (arith, length-drop a d))

  -- a byte beside what is written
  pub splice-other : (j : ℕ) → (p ≤ j → j < p + length v → ⊥) → get_or (splice p v d) j 0 ≡ get_or d j 0
  splice-other j off =
      let here : j ≡ j + 0 = omega arith in
      ap (λ (n : ℕ). get_or (splice p v d) n 0) here ∙ sym (part_at j 1 (splice p v d) 0 (omega arith)) ∙ ap (λ (l : List ℕ). get_or l 0 0) same
      ∙ part_at j 1 d 0 (omega arith) ∙ ap (λ (n : ℕ). get_or d n 0) (sym here)
    where
      same : part j 1 (splice p v d) ≡ part j 1 d
      same = ⊎_elim (λ l. splice-before p v d fits j 1 (omega arith)) (λ g. splice-after p v d fits j 1 (after g)) (lt-or_ge j p)
        where
          after : p ≤ j → p + length v ≤ j
          after g = ⊎_elim (λ l. absurd (off g l)) (λ h. h) (lt-or_ge j (p + length v))

-- ---- two tests

pub either_left : (a b : Bool) → either a b ≡ false → a ≡ false
unfolding either
either_left true b e = absurd (true≢false e)
either_left false b e = refl

pub either-right : (a b : Bool) → either a b ≡ false → b ≡ false
unfolding either
either-right true b e = absurd (true≢false e)
either-right false b e = e

pub either-cases : {C : Type 0} (a b : Bool) → either a b ≡ true → (a ≡ true → C) → (a ≡ false → b ≡ true → C) → C
unfolding either
either-cases true b e f g = f refl
either-cases false b e f g = g refl e

pub both-cases : {C : Type 0} (a b : Bool) → both a b ≡ true → (a ≡ true → b ≡ true → C) → C
unfolding both
both-cases true b e f = f refl e
both-cases false b e f = absurd (false≢true e)
