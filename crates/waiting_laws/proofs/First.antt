-- The first record that waits, changed: sealed, or with other bytes in its part. Assumes nothing.
use Rattle.std.specs.Prelude.{true, false, List, [], ◌∷◌, ◌++◌, ◌⊎◌, ◌≡◌, refl, ℕ, suc, ◌+◌, eqb, length}
use Rattle.std.proofs.lemmas.Bool.{false≢true}
use Rattle.std.proofs.Common.{sym, ap, subst, ◌∙◌}
use Rattle.base.specs.Choose.{choose, by_test, test_cases}
use Rattle.queue.specs.Queue.{slot_of}
use Rattle.outgoing.specs.declared.Waiting.{Waiting}
use Rattle.waiting_laws.specs.Queued.{Queued, plain, waits, sealed, bytes_of, bytes, flat, numbers_of, waits_in, InOrder, oldest_in, oldest_of, Under}
use Rattle.waiting_laws.proofs.Lists.{laid-order, oldest-append, none_in, some_in}

-- sealed: the mask on its number, its part as it lies
abbrev pub seal_with : List ℕ → Queued → Queued
seal_with m (plain t n x) = plain t n x
seal_with m (waits e t n x p) = sealed e t n x m p
seal_with m (sealed e t n x o p) = sealed e t n x o p

-- the host's bytes in its part
abbrev pub put_with : List ℕ → Queued → Queued
put_with v (plain t n x) = plain t n x
put_with v (waits e t n x p) = waits e t n x v
put_with v (sealed e t n x m p) = sealed e t n x m p

-- the first that waits, changed by f; the others as they are
abbrev pub first_in : (Queued → Queued) → List Queued → List Queued
first_in f [] = []
first_in f (plain t n x ∷ rs) = plain t n x ∷ first_in f rs
first_in f (waits e t n x p ∷ rs) = f (waits e t n x p) ∷ rs
first_in f (sealed e t n x m p ∷ rs) = sealed e t n x m p ∷ first_in f rs

abbrev pub first_of : (Queued → Queued) → List (List Queued) → List (List Queued)
first_of f [] = []
first_of f (d ∷ ds) = choose (waits_in d) (first_in f d ∷ ds) (d ∷ first_of f ds)

module _ (f : Queued → Queued) where
  pub length_in : (rs : List Queued) → length (first_in f rs) ≡ length rs
  length_in [] = refl
  length_in (plain t n x ∷ rs) = ap suc (length_in rs)
  length_in (waits e t n x p ∷ rs) = refl
  length_in (sealed e t n x m p ∷ rs) = ap suc (length_in rs)

  pub length-of : (ds : List (List Queued)) → length (first_of f ds) ≡ length ds
  length-of [] = refl
  length-of (d ∷ ds) = by_test (λ (l : List (List Queued)). length l ≡ length (d ∷ ds)) (λ e. refl) (λ e. ap suc (length-of ds))

  in_first : (rs us : List Queued) → waits_in rs ≡ true → first_in f (rs ++ us) ≡ first_in f rs ++ us
  in_first [] us h = absurd (false≢true h)
  in_first (plain t n x ∷ rs) us h = ap (λ (l : List Queued). plain t n x ∷ l) (in_first rs us h)
  in_first (waits e t n x p ∷ rs) us h = refl
  in_first (sealed e t n x m p ∷ rs) us h = ap (λ (l : List Queued). sealed e t n x m p ∷ l) (in_first rs us h)

  in_later : (rs us : List Queued) → waits_in rs ≡ false → first_in f (rs ++ us) ≡ rs ++ first_in f us
  in_later [] us h = refl
  in_later (plain t n x ∷ rs) us h = ap (λ (l : List Queued). plain t n x ∷ l) (in_later rs us h)
  in_later (waits e t n x p ∷ rs) us h = absurd (false≢true (sym h))
  in_later (sealed e t n x m p ∷ rs) us h = ap (λ (l : List Queued). sealed e t n x m p ∷ l) (in_later rs us h)

  -- the same in the list of all records
  pub flat-first : (ds : List (List Queued)) → flat (first_of f ds) ≡ first_in f (flat ds)
  flat-first [] = refl
  flat-first (d ∷ ds) =
      by_test (λ (l : List (List Queued)). flat l ≡ first_in f (d ++ flat ds)) (λ e. sym (in_first d (flat ds) e))
      (λ e. ap (λ (l : List Queued). d ++ l) (flat-first ds) ∙ sym (in_later d (flat ds) e))

-- ---- which record it is

-- two places name records of one epoch, number and length
pub record Same (w v : Waiting) : Type 0 where
  pub epoch : w.epoch ≡ v.epoch
  pub number : w.number ≡ v.number
  pub length : w.length ≡ v.length

same_in : (a b c d : ℕ) (rs : List Queued) (w : Waiting) → Same (oldest_in a b rs w) (oldest_in c d rs w)
same_in a b c d [] w = record { epoch = refl; number = refl; length = refl }
same_in a b c d (plain t n x ∷ rs) w = same_in a (b + length (bytes_of (plain t n x))) c (d + length (bytes_of (plain t n x))) rs w
same_in a b c d (waits e t n x p ∷ rs) w = record { epoch = refl; number = refl; length = refl }
same_in a b c d (sealed e t n x m p ∷ rs) w = same_in a (b + length (bytes_of (sealed e t n x m p))) c (d + length (bytes_of (sealed e t n x m p))) rs w

-- the oldest of all datagrams is the first of all records
pub oldest-flat : (first limit i : ℕ) (ds : List (List Queued)) (w : Waiting) → Same (oldest_of first limit i ds w) (oldest_in 0 0 (flat ds) w)
oldest-flat first limit i [] w = record { epoch = refl; number = refl; length = refl }
oldest-flat first limit i (d ∷ ds) w =
    let slot : ℕ = slot_of first limit i in
    let later : Waiting = oldest_of first limit (i + 1) ds w in
    let other : Waiting = oldest_in 0 (0 + length (bytes d)) (flat ds) w in
    subst (Same (oldest_in slot 0 d later)) (sym (oldest-append 0 0 d (flat ds) w))
    (test_cases (waits_in d)
    (λ a. subst (Same (oldest_in slot 0 d later)) (some_in 0 0 d later other a).0 (same_in slot 0 0 0 d later))
    (λ a.
    let s = oldest-flat first limit (i + 1) ds w in
    let u = same_in 0 0 0 (0 + length (bytes d)) (flat ds) w in
    let g : Same later other = record { epoch = s.epoch ∙ u.epoch; number = s.number ∙ u.number; length = s.length ∙ u.length } in
    subst (λ (v : Waiting). Same v (oldest_in 0 0 d other)) (sym (none_in slot 0 d later a)) (subst (Same later) (sym (none_in 0 0 d other a)) g)))

-- ---- sealed

module _ (m : List ℕ) where
  pub order-sealed : (rs : List Queued) → InOrder rs → InOrder (first_in (seal_with m) rs)
  order-sealed [] o = tt
  order-sealed (plain t n x ∷ rs) o = order-sealed rs o
  order-sealed (waits e t n x p ∷ rs) o = laid-order rs o
  order-sealed (sealed e t n x u p ∷ rs) o = order-sealed rs o

  pub under-sealed : (k : ℕ) (rs : List Queued) → Under k rs → Under k (first_in (seal_with m) rs)
  under-sealed k [] u = tt
  under-sealed k (plain t n x ∷ rs) u = under-sealed k rs u
  under-sealed k (waits e t n x p ∷ rs) u = u.1
  under-sealed k (sealed e t n x o p ∷ rs) u = under-sealed k rs u

  -- under its epoch its number is the first that waits, and no more waits
  pub numbers-sealed : (k slot at : ℕ) (rs : List Queued) (w : Waiting) → waits_in rs ≡ true
      → numbers_of k rs ≡ choose (eqb (oldest_in slot at rs w).epoch k) ((oldest_in slot at rs w).number ∷ numbers_of k (first_in (seal_with m) rs)) (numbers_of k (first_in (seal_with m) rs))
  numbers-sealed k slot at [] w h = absurd (false≢true h)
  numbers-sealed k slot at (plain t n x ∷ rs) w h = numbers-sealed k slot (at + length (bytes_of (plain t n x))) rs w h
  numbers-sealed k slot at (waits e t n x p ∷ rs) w h = refl
  numbers-sealed k slot at (sealed e t n x u p ∷ rs) w h = numbers-sealed k slot (at + length (bytes_of (sealed e t n x u p))) rs w h

pub under_first : (k slot at : ℕ) (rs : List Queued) (w : Waiting) → waits_in rs ≡ true → Under k rs → ((oldest_in slot at rs w).epoch ≡ 2) ⊎ ((oldest_in slot at rs w).epoch ≡ k)
under_first k slot at [] w h u = absurd (false≢true h)
under_first k slot at (plain t n x ∷ rs) w h u = under_first k slot (at + length (bytes_of (plain t n x))) rs w h u
under_first k slot at (waits e t n x p ∷ rs) w h u = u.0
under_first k slot at (sealed e t n x m p ∷ rs) w h u = under_first k slot (at + length (bytes_of (sealed e t n x m p))) rs w h u

-- ---- with other bytes

module _ (v : List ℕ) where
  pub order-put : (rs : List Queued) → InOrder rs → InOrder (first_in (put_with v) rs)
  order-put [] o = tt
  order-put (plain t n x ∷ rs) o = order-put rs o
  order-put (waits e t n x p ∷ rs) o = o
  order-put (sealed e t n x m p ∷ rs) o = order-put rs o

  pub under-put : (k : ℕ) (rs : List Queued) → Under k rs → Under k (first_in (put_with v) rs)
  under-put k [] u = tt
  under-put k (plain t n x ∷ rs) u = under-put k rs u
  under-put k (waits e t n x p ∷ rs) u = u
  under-put k (sealed e t n x m p ∷ rs) u = under-put k rs u

  pub numbers-put : (k : ℕ) (rs : List Queued) → numbers_of k (first_in (put_with v) rs) ≡ numbers_of k rs
  numbers-put k [] = refl
  numbers-put k (plain t n x ∷ rs) = numbers-put k rs
  numbers-put k (waits e t n x p ∷ rs) = refl
  numbers-put k (sealed e t n x m p ∷ rs) = numbers-put k rs

  pub oldest_in_put : (slot at : ℕ) (rs : List Queued) (w : Waiting) → oldest_in slot at (first_in (put_with v) rs) w ≡ oldest_in slot at rs w
  oldest_in_put slot at [] w = refl
  oldest_in_put slot at (plain t n x ∷ rs) w = oldest_in_put slot (at + length (bytes_of (plain t n x))) rs w
  oldest_in_put slot at (waits e t n x p ∷ rs) w = refl
  oldest_in_put slot at (sealed e t n x m p ∷ rs) w = oldest_in_put slot (at + length (bytes_of (sealed e t n x m p))) rs w

  pub oldest-put : (first limit i : ℕ) (ds : List (List Queued)) (w : Waiting) → oldest_of first limit i (first_of (put_with v) ds) w ≡ oldest_of first limit i ds w
  oldest-put first limit i [] w = refl
  oldest-put first limit i (d ∷ ds) w =
      by_test (λ (l : List (List Queued)). oldest_of first limit i l w ≡ oldest_of first limit i (d ∷ ds) w)
      (λ e. oldest_in_put (slot_of first limit i) 0 d (oldest_of first limit (i + 1) ds w))
      (λ e. ap (oldest_in (slot_of first limit i) 0 d) (oldest-put first limit (i + 1) ds w))
