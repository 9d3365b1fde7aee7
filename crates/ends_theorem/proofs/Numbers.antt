-- Numbers to send: each record sent in an epoch that may still be used is below that epoch's next number, and no number was sent twice in an
-- epoch, since no epoch is keyed twice. Assumes nothing.
use Rattle.std.specs.Prelude.{ℕ, ◌<◌, ◌≤◌, eqb, leb, Bool, true, ◌⊎◌, ◌≡◌, refl}
use Rattle.std.proofs.Common.{eqb-true, eq-eqb, ne_eqb, leb-true, leb-false, ltb-false, sym, ap, subst, ◌∙◌, arith}
use Rattle.std.proofs.lemmas.Bool.{eqb-false, false≢true}
use mathlib.Core.List.{List, ◌∷◌, Memᴰ as Mem}
use Rattle.std.proofs.Math.Logic.{inl, inr, ⊎_elim}
use Rattle.base.specs.Choose.{choose, both, either, if_true, if_false, by_test, test_cases, either_true, either-false}
use Rattle.send_keys.specs.declared.SendKeys.{SendKeys}
use Rattle.send_keys.specs.Keys.{is_usable, is_keyed, next_of, used, sealed_up_to, key_answer, begun, keyed, next-plaintext, next-handshake, next-application, used-next, with_handshake, with_application}
use Rattle.history_theorem.specs.Account.{upd}
use Rattle.history_theorem.specs.Claim.{Once}
use Rattle.history_theorem.proofs.Lists.{upd_same, upd_other, upd-by, mem-by, either-cases, both-cases}
use Rattle.history_theorem.specs.Receiver.{Handed}
use Rattle.send_keys.specs.Answer.{SendAnswer, is_done}

-- at or below an epoch that was keyed
abbrev pub Reached : SendKeys → ℕ → Type 0
Reached k e = (e ≤ k.handshake.epoch) ⊎ (e ≤ k.application.epoch)

pub record Numbers (k : SendKeys) (sent : ℕ → List Handed) : Type 0 where
  pub once : (e : ℕ) → Once (sent e)
  pub below : (e : ℕ) (h : Handed) → Mem h (sent e) → is_usable k e ≡ true → h.num < next_of k e
  pub early : (e : ℕ) (h : Handed) → Mem h (sent e) → Reached k e

-- which epochs may be used
pub usable-cases : {C : Type 0} (k : SendKeys) (e : ℕ) → is_usable k e ≡ true → (e ≡ 0 → C) → (e ≡ 2 → C) → (3 ≤ e → e ≡ k.application.epoch → C) → C
unfolding is_usable
usable-cases k e h zero_one two-one other =
    either-cases _ _ h (λ a. zero_one (eqb-true _ _ a))
    (λ a b. either-cases _ _ b (λ c. two-one (eqb-true _ _ c)) (λ c d. both-cases _ _ d (λ f g. other (leb-true _ _ f) (eqb-true _ _ g))))

keyed-two : (k : SendKeys) (e : ℕ) → is_keyed k e ≡ true → e ≡ 2 → k.handshake.epoch ≡ 2
unfolding is_keyed
keyed-two k e h q = eqb-true _ _ (sym (if_true _ _ (eq-eqb e 2 q)) ∙ h)

-- ---- a record is sent

pub used-epochs : (k : SendKeys) (e : ℕ) → ((used k e).handshake.epoch ≡ k.handshake.epoch) × ((used k e).application.epoch ≡ k.application.epoch)
unfolding used
used-epochs k e =
    let P : SendKeys → Type 0 = λ l. (l.handshake.epoch ≡ k.handshake.epoch) × (l.application.epoch ≡ k.application.epoch) in
    by_test P (λ a. (refl, refl)) (λ a. by_test P (λ b. (refl, refl)) (λ b. (refl, refl)))

pub usable_same : (k l : SendKeys) (x : ℕ) → l.application.epoch ≡ k.application.epoch → is_usable l x ≡ is_usable k x
unfolding is_usable
usable_same k l x q = ap (λ (n : ℕ). either (eqb x 0) (either (eqb x 2) (both (leb 3 x) (eqb x n)))) q

-- the others' next numbers stay
pub next-other : (k : SendKeys) (e x : ℕ) → is_usable k e ≡ true → is_usable k x ≡ true → (x ≡ e → ⊥) → next_of (used k e) x ≡ next_of k x
unfolding next_of used choose
next-other k e x ue ux ne =
    test_cases (eqb e 0)
    (λ a. let z = ne_eqb x 0 (λ q. ne (q ∙ sym (eqb-true _ _ a))) in rw (a, z))
    (λ a. test_cases (eqb e 2)
    (λ b. let z = ne_eqb x 2 (λ q. ne (q ∙ sym (eqb-true _ _ b))) in rw (a, b, z))
    (λ b. test_cases (eqb x 0) (λ c. rw (a, b, c))
    (λ c. test_cases (eqb x 2) (λ d. rw (a, b, c, d))
    (λ d. absurd
    (usable-cases k e ue (eqb-false _ _ a) (eqb-false _ _ b)
    (λ l p. usable-cases k x ux (eqb-false _ _ c) (eqb-false _ _ d) (λ m r. ne (r ∙ sym p))))))))

reached-used : (k : SendKeys) (e x : ℕ) → Reached k x → Reached (used k e) x
reached-used k e x =
    ⊎_elim (λ l. inl (subst (λ (n : ℕ). x ≤ n) (sym (used-epochs k e).0) l)) (λ l. inr (subst (λ (n : ℕ). x ≤ n) (sym (used-epochs k e).1) l))

reached-new : (k : SendKeys) (e : ℕ) → is_usable k e ≡ true → is_keyed k e ≡ true → Reached k e
reached-new k e u y =
    usable-cases k e u (λ (q : e ≡ 0). inl (omega arith)) (λ (q : e ≡ 2). let z = keyed-two k e y q in inl (omega arith)) (λ l q. inr (omega arith))

pub sent-numbers : (k : SendKeys) (sent : ℕ → List Handed) → Numbers k sent → (e : ℕ) → is_usable k e ≡ true → is_keyed k e ≡ true
    → (h : Handed) → h.num ≡ next_of k e → Numbers (used k e) (upd sent e (h ∷ sent e))
sent-numbers k sent i e u y new is = record {
  once = λ x.
      upd-by sent e (new ∷ sent e) (λ x l. Once l) x
      (λ q. (λ o m z. let l : o.num < next_of k e = i.below e o m u in omega arith, i.once e)) (λ q. i.once x);
  below = λ x h.
      upd-by sent e (new ∷ sent e) (λ x l. Mem h l → is_usable (used k e) x ≡ true → h.num < next_of (used k e) x) x
      (λ q m v.
      subst (λ (n : ℕ). h.num < next_of (used k e) n) (sym q)
      (mem-by m (λ (p : h ≡ new). let s : h.num ≡ new.num = ap (λ (a : Handed). a.num) p in omega (arith, used-next k e))
      (λ o. let l : h.num < next_of k e = i.below e h o u in omega (arith, used-next k e))))
      (λ q m v.
      let ux : is_usable k x ≡ true = sym (usable_same k (used k e) x (used-epochs k e).1) ∙ v in
      let l : h.num < next_of k x = i.below x h m ux in
      omega (arith, next-other k e x u ux q));
  early = λ x h.
      upd-by sent e (new ∷ sent e) (λ x l. Mem h l → Reached (used k e) x) x
      (λ q m. reached-used k e x (subst (Reached k) (sym q) (reached-new k e u y))) (λ q m. reached-used k e x (i.early x h m));
}

-- ---- an epoch is keyed

pub record NewEpoch (k : SendKeys) (e : ℕ) : Type 0 where
  pub low : 2 ≤ e
  pub handshake : k.handshake.epoch < e
  pub application : k.application.epoch < e

pub new-epoch : (k : SendKeys) (sound : Bool) (e : ℕ) → is_done (key_answer k sound e) ≡ true → NewEpoch k e
unfolding key_answer
new-epoch k sound e =
    let P : SendAnswer → Type 0 = λ a. is_done a ≡ true → NewEpoch k e in
    by_test P
    (λ s. by_test P (λ a z. absurd (false≢true z))
    (λ a. by_test P (λ b z. absurd (false≢true z))
    (λ b. by_test P (λ c z. absurd (false≢true z))
    (λ c z. record { low = ltb-false e 2 a; handshake = leb-false e k.handshake.epoch b; application = leb-false e k.application.epoch c }))))
    (λ s z. absurd (false≢true z))

-- of an epoch that may be used behind a keying: the new one begins at 0; another could be used before, with the same next number
abbrev pub Behind : SendKeys → ℕ → ℕ → SendKeys → Type 0
Behind k e x j = ((x ≡ e) × (next_of j x ≡ 0)) ⊎ ((x ≡ e → ⊥) × (is_usable k x ≡ true) × (next_of j x ≡ next_of k x))

pub keyed-next : (k : SendKeys) (e : ℕ) (iv : List ℕ) → NewEpoch k e → (x : ℕ) → is_usable (keyed k e iv) x ≡ true → Behind k e x (keyed k e iv)
unfolding keyed is_usable next_of
keyed-next k e iv new x =
    let two : SendKeys = with_handshake k (begun e iv) in
    let later : SendKeys = with_application k (begun e iv) in
    by_test (λ j. is_usable j x ≡ true → Behind k e x j)
    (λ t u.
    let is : e ≡ 2 = eqb-true _ _ t in
    test_cases (eqb x 2) (λ a. let q : x ≡ 2 = eqb-true _ _ a in inl (q ∙ sym is, next-handshake two (λ (z : x ≡ 0). omega arith) q))
    (λ a. inr (λ q. eqb-false x 2 a (q ∙ is), u, ap (choose (eqb x 0) k.plaintext_next) (if_false _ _ a ∙ sym (if_false _ _ a)))))
    (λ t u.
    let low = new.low in
    let not-two : e ≡ 2 → ⊥ = eqb-false _ _ t in
    usable-cases later x u (λ (q : x ≡ 0). inr (λ (z : x ≡ e). omega arith, either_true _ (eq-eqb x 0 q), next-plaintext later q ∙ sym (next-plaintext k q)))
    (λ (q : x ≡ 2).
    let some : x ≡ 0 → ⊥ = λ (z : x ≡ 0). omega arith in
    inr (λ (z : x ≡ e). not-two (sym z ∙ q), either-false (ne_eqb x 0 some) ∙ either_true _ (eq-eqb x 2 q), next-handshake later some q ∙ sym (next-handshake k some q)))
    (λ (l : 3 ≤ x) q. inl (q, next-application later (λ (z : x ≡ 0). omega arith) (λ (z : x ≡ 2). omega arith))))

module _ (k : SendKeys) (sent : ℕ → List Handed) (i : Numbers k sent) (e : ℕ) (iv : List ℕ) (n : NewEpoch k e) where
  unused_yet : (h : Handed) → Mem h (sent e) → ⊥
  unused_yet h m = ⊎_elim (λ l. omega (arith, n.handshake)) (λ l. omega (arith, n.application)) (i.early e h m)

  keyed-reached : (x : ℕ) → Reached k x → Reached (keyed k e iv) x
  unfolding keyed
  keyed-reached x r =
      by_test (λ l. Reached l x) (λ t. ⊎_elim (λ l. inl (omega (arith, n.handshake))) (λ l. inr l) r) (λ t. ⊎_elim (λ l. inl l) (λ l. inr (omega (arith, n.application))) r)

  pub keyed-numbers : Numbers (keyed k e iv) sent
  keyed-numbers = record {
    once = i.once;
    below = λ x h m v.
        ⊎_elim (λ y. absurd (unused_yet h (subst (λ (z : ℕ). Mem h (sent z)) y.0 m)))
        (λ y. subst (λ (z : ℕ). h.num < z) (sym y.2) (i.below x h m y.1)) (keyed-next k e iv n x v);
    early = λ x h m. keyed-reached x (i.early x h m);
  }

-- ---- the IVs

-- each epoch that may be used has the IV that it was keyed with
pub record Ivs (k : SendKeys) (ivs : ℕ → List ℕ) : Type 0 where
  pub handshake : k.handshake.epoch ≡ 2 → k.handshake.iv ≡ ivs 2
  pub application : 3 ≤ k.application.epoch → k.application.iv ≡ ivs k.application.epoch

pub used-ivs : (k : SendKeys) (e : ℕ) (ivs : ℕ → List ℕ) → Ivs k ivs → Ivs (used k e) ivs
unfolding used
used-ivs k e ivs i =
    by_test (λ l. Ivs l ivs) (λ t. record { handshake = i.handshake; application = i.application })
    (λ t. by_test (λ l. Ivs l ivs) (λ u. record { handshake = i.handshake; application = i.application }) (λ u. record { handshake = i.handshake; application = i.application }))

pub sealed-ivs : (k : SendKeys) (e n : ℕ) (ivs : ℕ → List ℕ) → Ivs k ivs → Ivs (sealed_up_to k e n) ivs
unfolding sealed_up_to
sealed-ivs k e n ivs i =
    by_test (λ l. Ivs l ivs) (λ t. record { handshake = i.handshake; application = i.application }) (λ t. record { handshake = i.handshake; application = i.application })

pub keyed-ivs : (k : SendKeys) (e : ℕ) (iv : List ℕ) (ivs : ℕ → List ℕ) → NewEpoch k e → Ivs k ivs → Ivs (keyed k e iv) (upd ivs e iv)
unfolding keyed
keyed-ivs k e iv ivs n i =
    by_test (λ l. Ivs l (upd ivs e iv))
    (λ t. let two : e ≡ 2 = eqb-true _ _ t in
    record {
      handshake = λ z. subst (λ (x : ℕ). iv ≡ upd ivs e iv x) two (sym (upd_same ivs e iv));
      application = λ l. i.application l ∙ sym (upd_other ivs e iv k.application.epoch (λ z. omega (arith, n.application)));
    })
    (λ t. record {
      handshake = λ z. i.handshake z ∙ sym (upd_other ivs e iv 2 (λ w. eqb-false e 2 t (sym w)));
      application = λ l. sym (upd_same ivs e iv);
    })
