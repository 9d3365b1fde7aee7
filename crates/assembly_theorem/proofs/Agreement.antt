-- When two pieces are the same and when they share their bytes (02, 7), as facts in place of the account's tests. Assumes nothing.
use Rattle.std.specs.Prelude.{Bool, false, ◌≡◌, ℕ, ◌≤◌, ◌<◌, leb, eqb, length, get_or}
use Rattle.std.proofs.Math.Bool.{true}
use Rattle.std.proofs.lemmas.Bool.{false≢true}
use mathlib.Core.List.Memᴰ.{head as here}
use mathlib.Core.List.Memᴰ.{tail as there}
use mathlib.Core.List.{List, [], ◌∷◌, Memᴰ as Mem}
use Rattle.std.proofs.Math.Path.{refl, subst}
use Rattle.std.proofs.Common.{sym, ap, ◌∙◌, arith, ext_get_or}
use borrow.Author.Tests.{ltb-true, leb-true, eqb-true, eqb-false, lt-ltb, le-leb, eq-eqb}
use Rattle.base.specs.Choose.{both, if_true, if_false, by_test, test_cases, both_left, both_right, both_true, either_true, either-false}
use Rattle.base.specs.Every.{every, each-every, every-each, one-fails, same-each, each_same}
use Rattle.history_theorem.proofs.Lists.{mem-by, either-cases}
use Rattle.assembly_theorem.specs.Account.{Fragment, end_of, has, byte_in, is_same, is_shared, covers, byte_of, oldest, is_among, shares_all}
use Rattle.assembly_theorem.specs.Agreement.{Shares}

-- two tests that pass together are one
pub alike : (a b : Bool) → (a ≡ true → b ≡ true) → (b ≡ true → a ≡ true) → a ≡ b
alike true b f g = sym (f refl)
alike false true f g = g refl
alike false false f g = refl

-- ---- the same

pub record Same (f g : Fragment) : Type 0 where
  pub number : g.number ≡ f.number
  pub kind : g.kind ≡ f.kind
  pub total : g.total ≡ f.total
  pub offset : g.offset ≡ f.offset
  pub size : length g.body ≡ length f.body
  pub byte : (i : ℕ) → i < length f.body → get_or g.body i 0 ≡ get_or f.body i 0

module _ (f g : Fragment) where
  pub is-same : is_same f g ≡ true → Same f g
  unfolding is_same
  is-same e =
      let e1 = both_right (eqb g.number f.number) _ e in
      let e2 = both_right (eqb g.kind f.kind) _ e1 in
      let e3 = both_right (eqb g.total f.total) _ e2 in
      let e4 = both_right (eqb g.offset f.offset) _ e3 in
      record {
        number = eqb-true _ _ (both_left _ _ e);
        kind = eqb-true _ _ (both_left _ _ e1);
        total = eqb-true _ _ (both_left _ _ e2);
        offset = eqb-true _ _ (both_left _ _ e3);
        size = eqb-true _ _ (both_left _ _ e4);
        byte = same-each g.body f.body (length f.body) (both_right (eqb (length g.body) (length f.body)) _ e4);
      }

  pub same-is : Same f g → is_same f g ≡ true
  unfolding is_same
  same-is s =
      both_true (eq-eqb _ _ s.number) ∙ both_true (eq-eqb _ _ s.kind) ∙ both_true (eq-eqb _ _ s.total) ∙ both_true (eq-eqb _ _ s.offset)
      ∙ both_true (eq-eqb _ _ s.size) ∙ each_same g.body f.body (length f.body) s.byte

  -- what agrees in all of these is one piece
  pub same-one : Same f g → g ≡ f
  same-one s =
      let b : g.body ≡ f.body = ext_get_or 0 g.body f.body s.size (λ i h. s.byte i (omega (arith, s.size))) in
      λ i. record { kind = s.kind i; total = s.total i; number = s.number i; offset = s.offset i; body = b i }

pub one_same : (f : Fragment) → Same f f
one_same f = record { number = refl; kind = refl; total = refl; offset = refl; size = refl; byte = λ i h. refl }

-- ---- among pieces

abbrev pub Among : Fragment → List Fragment → Type 0
Among f fs = (g : Fragment) × Mem g fs × Same f g

pub among : (f : Fragment) (fs : List Fragment) → is_among f fs ≡ true → Among f fs
unfolding is_among
among f [] e = absurd (false≢true e)
among f (g ∷ gs) e = either-cases _ _ e (λ t. (g, here refl, is-same f g t)) (λ t u. let h = among f gs u in (h.0, there h.1, h.2))

pub is-among : (f : Fragment) (fs : List Fragment) → Among f fs → is_among f fs ≡ true
unfolding is_among
is-among f [] h = absurd (elim h.1 [ ])
is-among f (g ∷ gs) (x, m, s) =
    mem-by m (λ (p : x ≡ g). either_true _ (same-is f g (subst (Same f) p s))) (λ n. test_cases (is_same f g) (λ t. either_true _ t) (λ t. either-false t ∙ is-among f gs (x, n, s)))

-- ---- bytes that pieces have

module _ (f : Fragment) (i : ℕ) where
  pub has_from : has f i ≡ true → f.offset ≤ i
  unfolding has
  has_from e = leb-true _ _ (both_left _ _ e)

  pub has_to : has f i ≡ true → i < end_of f
  unfolding has
  has_to e = ltb-true _ _ (both_right (leb f.offset i) _ e)

  pub is-has : f.offset ≤ i → i < end_of f → has f i ≡ true
  unfolding has
  is-has p q = both_true (le-leb _ _ p) ∙ lt-ltb _ _ q

pub covers_one : (fs : List Fragment) (i : ℕ) → covers fs i ≡ true → (f : Fragment) × Mem f fs × (has f i ≡ true)
unfolding covers
covers_one [] i e = absurd (false≢true e)
covers_one (f ∷ fs) i e = either-cases _ _ e (λ t. (f, here refl, t)) (λ t u. let h = covers_one fs i u in (h.0, there h.1, h.2))

pub one_covers : (fs : List Fragment) (f : Fragment) (i : ℕ) → Mem f fs → has f i ≡ true → covers fs i ≡ true
unfolding covers
one_covers [] f i m e = absurd (elim m [ ])
one_covers (g ∷ gs) f i m e =
    mem-by m (λ (p : f ≡ g). either_true _ (ap (λ (x : Fragment). has x i) (sym p) ∙ e))
    (λ n. test_cases (has g i) (λ t. either_true _ t) (λ t. either-false t ∙ one_covers gs f i n e))

-- a byte that every piece has as x, the first one has as x
pub byte-first : (fs : List Fragment) (i x : ℕ) → ((f : Fragment) → Mem f fs → has f i ≡ true → x ≡ byte_in f i) → covers fs i ≡ true → x ≡ byte_of fs i
unfolding covers byte_of
byte-first [] i x all e = absurd (false≢true e)
byte-first (f ∷ fs) i x all e =
    test_cases (covers fs i) (λ t. byte-first fs i x (λ g m. all g (there m)) t ∙ sym (if_true _ _ t))
    (λ t. all f (here refl) (either-cases _ _ e (λ p. p) (λ p q. absurd (false≢true (sym t ∙ q)))) ∙ sym (if_false _ _ t))

module _ (f : Fragment) where
  shares_with : (g : Fragment) → every (is_shared f g) (end_of f) ≡ true → Shares f g
  unfolding is_shared
  shares_with g e i p q = eqb-true _ _ (sym (if_true _ _ (both_true p ∙ q)) ∙ every-each (is_shared f g) (end_of f) e i (has_to f i p))

  with_shares : (g : Fragment) → Shares f g → every (is_shared f g) (end_of f) ≡ true
  unfolding is_shared
  with_shares g s =
      each-every (is_shared f g) (end_of f) (λ i h. by_test (λ (t : Bool). t ≡ true) (λ t. eq-eqb _ _ (s i (both_left _ _ t) (both_right (has f i) _ t))) (λ t. refl))

  pub shares_each : (gs : List Fragment) → shares_all f gs ≡ true → (g : Fragment) → Mem g gs → Shares f g
  unfolding shares_all
  shares_each [] e g m = absurd (elim m [ ])
  shares_each (x ∷ xs) e g m =
      mem-by m (λ (p : g ≡ x). subst (Shares f) (sym p) (shares_with x (both_left _ _ e))) (λ n. shares_each xs (both_right (every (is_shared f x) (end_of f)) _ e) g n)

  pub each_shares : (gs : List Fragment) → ((g : Fragment) → Mem g gs → Shares f g) → shares_all f gs ≡ true
  unfolding shares_all
  each_shares [] s = refl
  each_shares (x ∷ xs) s = both_true (with_shares x (s x (here refl))) ∙ each_shares xs (λ g m. s g (there m))

  -- one that is not equal
  pub one_differs : (gs : List Fragment) → shares_all f gs ≡ false
      → (g : Fragment) × Mem g gs × ((i : ℕ) × (has f i ≡ true) × (has g i ≡ true) × (byte_in f i ≡ byte_in g i → ⊥))
  unfolding shares_all is_shared
  one_differs [] e = absurd (false≢true (sym e))
  one_differs (x ∷ xs) e =
      test_cases (every (is_shared f x) (end_of f))
      (λ t. let h = one_differs xs (sym (both_true t) ∙ e) in (h.0, there h.1, h.2))
      (λ t. let h = one-fails (is_shared f x) (end_of f) t in
      let i = h.0 in
      let b : both (has f i) (has x i) ≡ true =
      test_cases (both (has f i) (has x i)) (λ u. u) (λ u. absurd (false≢true (sym h.2 ∙ if_false _ _ u)))
      in
      (x, here refl, (i, both_left _ _ b, both_right (has f i) _ b, eqb-false _ _ (sym (if_true _ _ b) ∙ h.2))))

-- ---- the first of them

pub oldest-in : (f : Fragment) (fs : List Fragment) → Mem (oldest f fs) (f ∷ fs)
unfolding oldest
oldest-in f [] = here refl
oldest-in f (g ∷ gs) = there (oldest-in g gs)
