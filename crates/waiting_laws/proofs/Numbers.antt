-- What the keys know of the records that wait: kept when a number is used, when the oldest is sealed, when an epoch is keyed.
-- Assumes nothing.
use Rattle.std.proofs.Math.Bool.{true}
use mathlib.Core.List.{List, [], ◌∷◌, ◌++◌, append-nil}
use Rattle.std.proofs.Common.{inl, inr, ◌∙◌}
use Rattle.std.proofs.Math.Logic.{⊎_elim}
use Rattle.std.specs.Prelude.{◌≡◌, refl, ℕ, ◌+◌, ◌<◌, ◌≤◌, leb, eqb}
use Rattle.std.proofs.Math.Path.{sym, ap, subst}
use native.Mathlib.Omega.{arith}
use borrow.Author.Tests.{eqb-true, eqb-false, eq-eqb, ne_eqb}
use Rattle.base.specs.Choose.{both, by_test, test_cases, if_true, if_false, both_right, either-false}
use Rattle.queue.specs.Laid.{trailer_of}
use Rattle.send_keys.specs.declared.SendKeys.{SendKeys}
use Rattle.send_keys.specs.Keys.{is_usable, is_keyed, next_of, used, sealed_up_to, next-handshake, next-application}
use Rattle.outgoing.specs.declared.Waiting.{Waiting}
use Rattle.waiting_laws.specs.Queued.{Queued, plain, waits, laid_as, numbers_of, waits_in, oldest_in, Runs, Agrees}
use Rattle.waiting_laws.proofs.First.{seal_with, put_with, first_in, under-sealed, numbers-sealed, under_first, under-put, numbers-put}
use Rattle.waiting_laws.proofs.Lists.{numbers-append, under-append, runs_snoc, runs-length}

-- ---- a number used

-- one more that waits under an epoch, or under another
pub numbers_more : (k : ℕ) (rs : List Queued) (t n : ℕ) (x p : List ℕ) → numbers_of k (rs ++ waits k t n x p ∷ []) ≡ numbers_of k rs ++ n ∷ []
numbers_more k rs t n x p =
    numbers-append k rs (waits k t n x p ∷ []) ∙ ap (λ (l : List ℕ). numbers_of k rs ++ l) (if_true (n ∷ []) [] (eq-eqb k k refl))

pub numbers-same : (k : ℕ) (rs : List Queued) (e t n : ℕ) (x p : List ℕ) → (e ≡ k → ⊥) → numbers_of k (rs ++ waits e t n x p ∷ []) ≡ numbers_of k rs
numbers-same k rs e t n x p ne =
    numbers-append k rs (waits e t n x p ∷ []) ∙ ap (λ (l : List ℕ). numbers_of k rs ++ l) (if_false (n ∷ []) [] (ne_eqb e k ne)) ∙ append-nil (numbers_of k rs)

pub numbers-plain : (k : ℕ) (rs : List Queued) (t n : ℕ) (x : List ℕ) → numbers_of k (rs ++ plain t n x ∷ []) ≡ numbers_of k rs
numbers-plain k rs t n x = numbers-append k rs (plain t n x ∷ []) ∙ append-nil (numbers_of k rs)

module _ (k : SendKeys) (rs : List Queued) (a : Agrees k rs) (e t : ℕ) (x : List ℕ) where
  used-plain : e ≡ 0 → Agrees (used k e) (rs ++ plain t (next_of k e) x ∷ [])
  unfolding used
  used-plain h =
      subst (λ (u : SendKeys). Agrees u (rs ++ plain t (next_of k e) x ∷ [])) (sym (if_true _ _ (eq-eqb e 0 h)))
      (record {
        handshake = rw (numbers-plain 2 rs t (next_of k e) x) a.handshake;
        application = rw (numbers-plain k.application.epoch rs t (next_of k e) x) a.application;
        under = under-append k.application.epoch rs (plain t (next_of k e) x ∷ []) a.under tt;
        unkeyed = a.unkeyed;
        epoch = a.epoch;
        small = a.small;
      })

  used-handshake : (p : List ℕ) → e ≡ 2 → is_keyed k e ≡ true → Agrees (used k e) (rs ++ waits e t (next_of k e) x p ∷ [])
  unfolding used is_keyed
  used-handshake p h g =
      let z : e ≡ 0 → ⊥ = λ y. omega arith in
      let next : next_of k e ≡ k.handshake.next = next-handshake k z h in
      let keyed : k.handshake.epoch ≡ 2 = eqb-true k.handshake.epoch 2 (sym (if_true _ _ (eq-eqb e 2 h)) ∙ g) in
      let other : e ≡ k.application.epoch → ⊥ = λ y. ⊎_elim (λ (u : k.application.epoch ≡ 0). omega arith) (λ (u : 3 ≤ k.application.epoch). omega arith) a.epoch in
      subst (λ (u : SendKeys). Agrees u (rs ++ waits e t (next_of k e) x p ∷ [])) (sym (if_false _ _ (ne_eqb e 0 z) ∙ if_true _ _ (eq-eqb e 2 h)))
      (record {
        handshake = subst (λ (l : List ℕ). Runs k.handshake.sealed (k.handshake.next + 1) l)
            (sym (ap (λ (i : ℕ). numbers_of 2 (rs ++ waits i t (next_of k e) x p ∷ [])) h ∙ numbers_more 2 rs t (next_of k e) x p ∙ ap (λ (n : ℕ). numbers_of 2 rs ++ n ∷ []) next))
            (runs_snoc k.handshake.sealed k.handshake.next (numbers_of 2 rs) a.handshake);
        application = rw (numbers-same k.application.epoch rs e t (next_of k e) x p other) a.application;
        under = under-append k.application.epoch rs (waits e t (next_of k e) x p ∷ []) a.under (inl h, tt);
        unkeyed = λ y. absurd (y keyed);
        epoch = a.epoch;
        small = a.small;
      })

  used-application : (p : List ℕ) → (e ≡ 0 → ⊥) → (e ≡ 2 → ⊥) → e ≡ k.application.epoch → Agrees (used k e) (rs ++ waits e t (next_of k e) x p ∷ [])
  unfolding used
  used-application p z h g =
      let next : next_of k e ≡ k.application.next = next-application k z h in
      subst (λ (u : SendKeys). Agrees u (rs ++ waits e t (next_of k e) x p ∷ [])) (sym (if_false _ _ (ne_eqb e 0 z) ∙ if_false _ _ (ne_eqb e 2 h)))
      (record {
        handshake = rw (numbers-same 2 rs e t (next_of k e) x p h) a.handshake;
        application = subst (λ (l : List ℕ). Runs k.application.sealed (k.application.next + 1) l)
            (sym (ap (λ (i : ℕ). numbers_of k.application.epoch (rs ++ waits i t (next_of k e) x p ∷ [])) g
            ∙ numbers_more k.application.epoch rs t (next_of k e) x p ∙ ap (λ (n : ℕ). numbers_of k.application.epoch rs ++ n ∷ []) next))
            (runs_snoc k.application.sealed k.application.next (numbers_of k.application.epoch rs) a.application);
        under = under-append k.application.epoch rs (waits e t (next_of k e) x p ∷ []) a.under (inr g, tt);
        unkeyed = a.unkeyed;
        epoch = a.epoch;
        small = a.small;
      })

  -- a usable epoch is 0, 2 or the application epoch
  usable-application : is_usable k e ≡ true → (e ≡ 0 → ⊥) → (e ≡ 2 → ⊥) → e ≡ k.application.epoch
  unfolding is_usable
  usable-application u z h =
      let v : both (leb 3 e) (eqb e k.application.epoch) ≡ true = sym (either-false (ne_eqb e 0 z) ∙ either-false (ne_eqb e 2 h)) ∙ u in
      eqb-true e k.application.epoch (both_right (leb 3 e) _ v)

  pub used-agrees : is_usable k e ≡ true → is_keyed k e ≡ true → Agrees (used k e) (rs ++ laid_as e t (next_of k e) x ∷ [])
  used-agrees u g =
      by_test (λ (r : Queued). Agrees (used k e) (rs ++ r ∷ [])) (λ z. used-plain (eqb-true e 0 z))
      (λ z. test_cases (eqb e 2) (λ h. used-handshake (x ++ trailer_of t e (next_of k e)) (eqb-true e 2 h) g)
      (λ h. used-application (x ++ trailer_of t e (next_of k e)) (eqb-false e 0 z) (eqb-false e 2 h) (usable-application u (eqb-false e 0 z) (eqb-false e 2 h))))

  -- and it is one of 16 bits
  pub usable-small : is_usable k e ≡ true → e < 65536
  usable-small u =
      test_cases (eqb e 0) (λ z. omega (arith, eqb-true e 0 z))
      (λ z. test_cases (eqb e 2) (λ h. omega (arith, eqb-true e 2 h))
      (λ h. let g = usable-application u (eqb-false e 0 z) (eqb-false e 2 h) in omega (arith, a.small)))

-- ---- the oldest sealed

module _ (k : SendKeys) (rs : List Queued) (a : Agrees k rs) (m : List ℕ) (w : Waiting) (some : waits_in rs ≡ true) where
  abbrev oldest : Waiting
  oldest = oldest_in 0 0 rs w

  abbrev left : List Queued
  left = first_in (seal_with m) rs

  -- its number is the first of those that wait under its epoch
  own : (j lo hi : ℕ) → oldest.epoch ≡ j → Runs lo hi (numbers_of j rs) → (oldest.number ≡ lo) × Runs (oldest.number + 1) hi (numbers_of j left)
  own j lo hi e r =
      let l : numbers_of j rs ≡ oldest.number ∷ numbers_of j left = numbers-sealed m j 0 0 rs w some ∙ if_true _ _ (eq-eqb oldest.epoch j e) in
      let f : Runs lo hi (oldest.number ∷ numbers_of j left) = subst (Runs lo hi) l r in
      (f.0, subst (λ (n : ℕ). Runs (n + 1) hi (numbers_of j left)) (sym f.0) f.1)

  other : (j lo hi : ℕ) → (oldest.epoch ≡ j → ⊥) → Runs lo hi (numbers_of j rs) → Runs lo hi (numbers_of j left)
  other j lo hi e r = subst (Runs lo hi) (numbers-sealed m j 0 0 rs w some ∙ if_false _ _ (ne_eqb oldest.epoch j e)) r

  -- under epoch 2 something waits only if it is keyed
  two-keyed : oldest.epoch ≡ 2 → k.handshake.next ≡ k.handshake.sealed → ⊥
  two-keyed e h =
      let o = own 2 k.handshake.sealed k.handshake.next e a.handshake in
      omega (arith, runs-length (oldest.number + 1) k.handshake.next (numbers_of 2 left) o.1, o.0)

  pub sealed-agrees : Agrees (sealed_up_to k oldest.epoch oldest.number) left
  unfolding sealed_up_to
  sealed-agrees =
      test_cases (eqb oldest.epoch 2)
      (λ h.
      let e : oldest.epoch ≡ 2 = eqb-true oldest.epoch 2 h in
      let ne : oldest.epoch ≡ k.application.epoch → ⊥ = λ y. ⊎_elim (λ (u : k.application.epoch ≡ 0). omega arith) (λ (u : 3 ≤ k.application.epoch). omega arith) a.epoch in
      subst (λ (u : SendKeys). Agrees u left) (sym (if_true _ _ h))
      (record {
        handshake = (own 2 k.handshake.sealed k.handshake.next e a.handshake).1;
        application = other k.application.epoch k.application.sealed k.application.next ne a.application;
        under = under-sealed m k.application.epoch rs a.under;
        unkeyed = λ y. absurd (two-keyed e (a.unkeyed y));
        epoch = a.epoch;
        small = a.small;
      }))
      (λ h.
      let ne : oldest.epoch ≡ 2 → ⊥ = eqb-false oldest.epoch 2 h in
      let e : oldest.epoch ≡ k.application.epoch = ⊎_elim (λ (u : oldest.epoch ≡ 2). absurd (ne u)) (λ (u : oldest.epoch ≡ k.application.epoch). u) (under_first k.application.epoch 0 0 rs w some a.under) in
      subst (λ (u : SendKeys). Agrees u left) (sym (if_false _ _ h))
      (record {
        handshake = other 2 k.handshake.sealed k.handshake.next ne a.handshake;
        application = (own k.application.epoch k.application.sealed k.application.next e a.application).1;
        under = under-sealed m k.application.epoch rs a.under;
        unkeyed = a.unkeyed;
        epoch = a.epoch;
        small = a.small;
      }))

-- other bytes in its part change no number
pub put-agrees : (k : SendKeys) (rs : List Queued) (v : List ℕ) → Agrees k rs → Agrees k (first_in (put_with v) rs)
put-agrees k rs v a = record {
  handshake = rw (numbers-put v 2 rs) a.handshake;
  application = rw (numbers-put v k.application.epoch rs) a.application;
  under = under-put v k.application.epoch rs a.under;
  unkeyed = a.unkeyed;
  epoch = a.epoch;
  small = a.small;
}
