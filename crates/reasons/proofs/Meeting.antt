-- The first four different epochs of the formed records are kept: which record's epoch is refused, said without the list that is kept.
-- Assumes nothing.
use Rattle.std.specs.Prelude.{Bool, false, ◌⊎◌, ◌↔◌, ◌≡◌, eqb, leb}
use Rattle.std.proofs.Math.Bool.{true}
use Rattle.std.proofs.lemmas.Bool.{false≢true}
use mathlib.Core.List.Memᴰ.{cases_cons as mem-cases}
use mathlib.Core.List.Memᴰ.{head as here}
use mathlib.Core.List.Memᴰ.{tail as there}
use mathlib.Core.List.{List, [], ◌∷◌, ◌++◌, Memᴰ as Mem}
use mathlib.Core.List.Memᴰ.{append_cases}
use mathlib.Core.List.Memᴰ.{cast as mem-cast}
use mathlib.Core.List.Memᴰ.{eq_of_singleton as mem-one}
use mathlib.Core.List.Memᴰ.{append_left}
use mathlib.Core.List.Memᴰ.{append_right}
use Rattle.std.proofs.Common.{inl, inr, ap, ◌∙◌}
use Rattle.std.proofs.Math.Logic.{⊎_elim}
use Rattle.std.proofs.Math.Path.{refl, sym, subst}
use Prim.Native.Nat.{ℕ, zero, suc, ◌<◌, ◌≤◌}
use native.Mathlib.Omega.{arith}
use borrow.Author.Tests.{eqb-true, eq-eqb, le-leb}
use Rattle.std.proofs.Math.ListN.{length, length-append}
use Rattle.base.specs.Choose.{choose, if_true, by_test, test_cases, either_true, either-false, eq-or_ne, lt-or_ge}
use Rattle.reasons.specs.Met.{most_kept, has, meet, met, Distinct, CameFirst, FourBefore}
use Rattle.reasons.proofs.Known.{meet-known, meet-new}

-- ---- what a list has

has_in : (n : ℕ) (l : List ℕ) → has n l ≡ true → Mem n l
unfolding has
has_in n [] e = absurd (false≢true e)
has_in n (k ∷ ks) e = test_cases (eqb k n) (λ t. here (sym (eqb-true k n t))) (λ t. there (has_in n ks (sym (either-false t) ∙ e)))

in_has : (n : ℕ) (l : List ℕ) → Mem n l → has n l ≡ true
unfolding has
in_has n [] m = absurd (elim m [ ])
in_has n (k ∷ ks) m =
    ⊎_elim (λ (e : n ≡ k). either_true _ (eq-eqb k n (sym e)))
    (λ (r : Mem n ks). test_cases (eqb k n) (λ t. either_true _ t) (λ t. either-false t ∙ in_has n ks r)) (mem-cases m)

pub has-mem : (n : ℕ) (l : List ℕ) → (has n l ≡ true) ↔ Mem n l
has-mem n l = (has_in n l, in_has n l)

pub hasnt : (n : ℕ) (l : List ℕ) → (has n l ≡ false) ↔ (Mem n l → ⊥)
hasnt n l = (λ e m. false≢true (sym e ∙ in_has n l m), λ f. test_cases (has n l) (λ t. absurd (f (has_in n l t))) (λ t. t))

-- ---- different numbers

distinct_append : (e : ℕ) (ms : List ℕ) → Distinct ms → (Mem e ms → ⊥) → Distinct (ms ++ (e ∷ []))
distinct_append e [] d f = (λ m. elim m [ ], tt)
distinct_append e (k ∷ ms) d f = (
  λ m. ⊎_elim (λ (r : Mem k ms). d.0 r) (λ (r : Mem k (e ∷ [])). f (here (sym (mem-one r)))) (append_cases ms m),
  distinct_append e ms d.1 (λ m. f (there m)),
)

-- a list with one x taken out
record Without (x : ℕ) (ms : List ℕ) : Type 0 where
  rest : List ℕ
  shorter : length ms ≡ suc (length rest)
  others : (y : ℕ) → (y ≡ x → ⊥) → Mem y ms → Mem y rest

without : (x : ℕ) (ms : List ℕ) → Mem x ms → Without x ms
without x [] m = absurd (elim m [ ])
without x (k ∷ ms) m = ⊎_elim first (λ l. later (without x ms l)) (mem-cases m)
  where
    first : x ≡ k → Without x (k ∷ ms)
    first e = record {
      rest = ms;
      shorter = refl;
      others = λ y d r. ⊎_elim (λ (q : y ≡ k). absurd (d (q ∙ sym e))) (λ (s : Mem y ms). s) (mem-cases r);
    }

    later : Without x ms → Without x (k ∷ ms)
    later w = record {
      rest = k ∷ w.rest;
      shorter = ap suc w.shorter;
      others = λ y d r. ⊎_elim (λ (q : y ≡ k). here q) (λ (s : Mem y ms). there (w.others y d s)) (mem-cases r);
    }

-- different numbers that all stand in a list are no more than it has
no_more : (es ms : List ℕ) → Distinct es → ((x : ℕ) → Mem x es → Mem x ms) → length es ≤ length ms
no_more [] ms d f = omega arith
no_more (x ∷ es) ms d f =
    let w = without x ms (f x (here refl)) in
    let l = no_more es w.rest d.1 (λ y m. w.others y (λ q. d.0 (mem-cast (sym q) m)) (f y (there m))) in
    omega (arith, w.shorter)

-- ---- one record more

abbrev HasOrFull : ℕ → List ℕ → Type 0
HasOrFull e ms = Mem e ms ⊎ (most_kept ≤ length ms)

module _ (e : ℕ) (ms : List ℕ) where
  pub meet_full : leb most_kept (length ms) ≡ true → meet e ms ≡ ms
  unfolding meet
  meet_full h = if_true _ _ (test_cases (has e ms) (λ t. either_true _ t) (λ t. either-false t ∙ h))

  -- the list stays as it is if it has e or is full, else e is added
  by-meet : (P : List ℕ → Type 0) → (HasOrFull e ms → P ms) → ((Mem e ms → ⊥) → length ms < most_kept → P (ms ++ (e ∷ []))) → P (meet e ms)
  by-meet P stays adds = test_cases (has e ms) (λ t. subst P (sym (meet-known e ms t)) (stays (inl (has_in e ms t)))) absent
    where
      absent : has e ms ≡ false → P (meet e ms)
      absent t =
          ⊎_elim (λ l. subst P (sym (meet-new e ms t l)) (adds ((hasnt e ms).0 t) l)) (λ l. subst P (sym (meet_full (le-leb _ _ l))) (stays (inr l)))
          (lt-or_ge (length ms) most_kept)

  -- what was kept stays
  pub meet-has : (x : ℕ) → Mem x ms → Mem x (meet e ms)
  meet-has x m = by-meet (λ (l : List ℕ). Mem x l) (λ _. m) (λ _ _. append_left (e ∷ []) m)

  -- an epoch is refused only if it was not kept and there is no room
  refused : (Mem e (meet e ms) → ⊥) → (Mem e ms → ⊥) × (most_kept ≤ length ms)
  refused =
      by-meet (λ l. (Mem e l → ⊥) → (Mem e ms → ⊥) × (most_kept ≤ length ms))
      (λ o out. (out, ⊎_elim (λ m. absurd (out m)) (λ l. l) o))
      (λ new room out. absurd (out (append_right ms (here refl))))

  kept : Mem e (meet e ms) → Mem e ms ⊎ (length ms < most_kept)
  kept = by-meet (λ l. Mem e l → Mem e ms ⊎ (length ms < most_kept)) (λ o m. inl m) (λ new room m. inr room)

-- ---- the records up to a place

module _ (formed : ℕ → Bool) (epoch : ℕ → ℕ) where
  pub met_next : (i : ℕ) → met formed epoch (suc i) ≡ choose (formed i) (meet (epoch i) (met formed epoch i)) (met formed epoch i)
  unfolding met
  met_next i = refl

  abbrev up_to : ℕ → List ℕ
  up_to i = met formed epoch i

  -- the list stays as it is if record i is not formed, its epoch is kept already or there is no room, else its epoch is added
  by_record : (P : List ℕ → Type 0) (i : ℕ) →
      ((formed i ≡ true → HasOrFull (epoch i) (up_to i)) → P (up_to i)) →
      (formed i ≡ true → (Mem (epoch i) (up_to i) → ⊥) → length (up_to i) < most_kept → P (up_to i ++ (epoch i ∷ []))) → P (up_to (suc i))
  by_record P i stays adds = subst P (sym (met_next i)) (by_test P well ill)
    where
      well : formed i ≡ true → P (meet (epoch i) (up_to i))
      well t = by-meet (epoch i) (up_to i) P (λ o. stays (λ u. o)) (adds t)

      ill : formed i ≡ false → P (up_to i)
      ill t = stays (λ u. absurd (false≢true (sym t ∙ u)))

  pub met-few : (i : ℕ) → length (met formed epoch i) ≤ most_kept
  unfolding met
  met-few zero = omega arith
  met-few (suc i) =
      by_record (λ l. length l ≤ most_kept) i (λ o. met-few i) (λ t out room. omega (arith, length-append (up_to i) (epoch i ∷ [])))

  pub met-distinct : (i : ℕ) → Distinct (met formed epoch i)
  unfolding met
  met-distinct zero = tt
  met-distinct (suc i) = by_record Distinct i (λ o. met-distinct i) (λ t out room. distinct_append _ _ (met-distinct i) out)

  -- a formed record's epoch is kept if there is room, and stays
  record_kept : (i : ℕ) → formed i ≡ true → HasOrFull (epoch i) (up_to (suc i))
  record_kept i f = by_record (HasOrFull (epoch i)) i (λ o. o f) (λ t new room. inl (append_right (up_to i) (here refl)))

  stays-kept : (x i : ℕ) → HasOrFull x (up_to i) → HasOrFull x (up_to (suc i))
  stays-kept x i h =
      by_record (HasOrFull x) i (λ o. h) (λ t new room. ⊎_elim (λ m. inl (append_left (epoch i ∷ []) m)) (λ l. absurd (omega arith)) h)

  came-or_full : (i m : ℕ) → m < i → formed m ≡ true → HasOrFull (epoch m) (up_to i)
  came-or_full zero m h f = absurd (omega arith)
  came-or_full (suc i) m h f =
      ⊎_elim (λ (q : m ≡ i). subst (λ (n : ℕ). HasOrFull (epoch m) (up_to (suc n))) q (record_kept m f))
      (λ q. stays-kept (epoch m) i (came-or_full i m (omega arith) f)) (eq-or_ne m i)

  -- no formed record of epoch e came while there is room and e is not kept
  none_came : (e i m : ℕ) → length (up_to i) < most_kept → (Mem e (up_to i) → ⊥) → m < i → formed m ≡ true → epoch m ≡ e → ⊥
  none_came e i m room out h f q = ⊎_elim (λ r. out (mem-cast (sym q) r)) (λ l. omega arith) (came-or_full i m h f)

  abbrev Earlier : ℕ → ℕ → ℕ → Type 0
  Earlier e i x = (k : ℕ) × (k < i) × CameFirst formed epoch e x k

  earlier-still : (e i x : ℕ) → Earlier e i x → Earlier e (suc i) x
  earlier-still e i x c = (c.0, omega (arith, c.1), c.2)

  added-earlier : (e i : ℕ) → formed i ≡ true → length (up_to i) < most_kept → (Mem e (up_to i ++ (epoch i ∷ [])) → ⊥) → Earlier e (suc i) (epoch i)
  added-earlier e i t room out = (i, omega arith, record { is-formed = t; its-epoch = refl; none_of_e = none })
    where
      none : (m : ℕ) → m ≤ i → formed m ≡ true → epoch m ≡ e → ⊥
      none m l f q =
          ⊎_elim (λ (s : m ≡ i). out (append_right (up_to i) (here (sym q ∙ ap epoch s))))
          (λ s. none_came e i m room (λ n. out (append_left (epoch i ∷ []) n)) (omega arith) f q) (eq-or_ne m i)

  -- while e is not kept, each epoch kept came before it
  came-first : (e i : ℕ) → (Mem e (up_to i) → ⊥) → (x : ℕ) → Mem x (up_to i) → Earlier e i x
  unfolding met
  came-first e zero = λ out x m. absurd (elim m [ ])
  came-first e (suc i) =
      by_record (λ l. (Mem e l → ⊥) → (x : ℕ) → Mem x l → Earlier e (suc i) x) i
      (λ o out x m. earlier-still e i x (came-first e i out x m))
      (λ t new room out x m. either_list t room out x (came-first e i (λ n. out (append_left (epoch i ∷ []) n)) x) (append_cases (up_to i) m))
    where
      either_list : formed i ≡ true → length (up_to i) < most_kept → (Mem e (up_to i ++ (epoch i ∷ [])) → ⊥) → (x : ℕ) →
          (Mem x (up_to i) → Earlier e i x) → Mem x (up_to i) ⊎ Mem x (epoch i ∷ []) → Earlier e (suc i) x
      either_list t room out x old (inl m) = earlier-still e i x (old m)
      either_list t room out x old (inr m) = subst (λ (y : ℕ). Earlier e (suc i) y) (sym (mem-one m)) (added-earlier e i t room out)

  -- an epoch that is kept came while there was room
  came-with-room : (e i : ℕ) → Mem e (up_to i) → (j : ℕ) × (formed j ≡ true) × (epoch j ≡ e) × (length (up_to j) < most_kept)
  unfolding met
  came-with-room e zero = λ m. absurd (elim m [ ])
  came-with-room e (suc i) =
      by_record (λ l. Mem e l → (j : ℕ) × (formed j ≡ true) × (epoch j ≡ e) × (length (up_to j) < most_kept)) i (λ o m. came-with-room e i m)
      (λ t new room m. ⊎_elim (came-with-room e i) (λ r. (i, t, sym (mem-one r), room)) (append_cases (up_to i) m))

  -- once the four have come there is no room
  four_fill : (e i j : ℕ) → FourBefore formed epoch e i → ((x : ℕ) → Earlier e i x → Earlier e j x) → most_kept ≤ length (up_to j)
  four_fill e i j b early = ⊎_elim no_fit (λ l. l) (lt-or_ge (length (up_to j)) most_kept)
    where
      inside : length (up_to j) < most_kept → (x : ℕ) → Earlier e j x → Mem x (up_to j)
      inside room x c =
          ⊎_elim (λ r. mem-cast (sym c.2.its-epoch) r) (λ l. absurd (omega arith)) (came-or_full j c.0 c.1 c.2.is-formed)

      no_fit : length (up_to j) < most_kept → most_kept ≤ length (up_to j)
      no_fit room = omega (arith, b.four, no_more b.epochs (up_to j) b.different (λ x m. inside room x (early x (b.each x m))))

  -- epoch e is refused at record i exactly if four others came before it
  pub kept_exactly : (e i : ℕ) → (has e (meet e (met formed epoch i)) ≡ false) ↔ FourBefore formed epoch e i
  kept_exactly e i = (there_are_four, λ b. (hasnt e (meet e (up_to i))).1 (λ m. ⊎_elim (too_late b) (no_place b) (kept e (up_to i) m)))
    where
      there_are_four : has e (meet e (up_to i)) ≡ false → FourBefore formed epoch e i
      there_are_four h =
          let r = refused e (up_to i) ((hasnt e (meet e (up_to i))).0 h) in
          record { epochs = up_to i; four = omega (arith, r.1, met-few i); different = met-distinct i; each = came-first e i r.0 }

      sooner : (j : ℕ) → formed j ≡ true → epoch j ≡ e → (x : ℕ) → Earlier e i x → Earlier e j x
      sooner j f q x c = (c.0, ⊎_elim (λ l. l) (λ l. absurd (c.2.none_of_e j l f q)) (lt-or_ge c.0 j), c.2)

      too_late : FourBefore formed epoch e i → Mem e (up_to i) → ⊥
      too_late b m =
          let p = came-with-room e i m in omega (arith, p.3, four_fill e i p.0 b (λ x c. sooner p.0 p.1 p.2 x c))

      no_place : FourBefore formed epoch e i → length (up_to i) < most_kept → ⊥
      no_place b l = omega (arith, four_fill e i i b (λ x c. c))
