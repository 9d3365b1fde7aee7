-- Each call that mask keys change is calls of crate hosts_theorem whose contracts and rules are met, and the slots go on holding the keys given. Assumes nothing.
use Rattle.recv_keys.specs.Keys.{Found}
use Rattle.std.specs.Prelude.{ℕ, length, ◌⊎◌, ◌≡◌, refl, None}
use Rattle.std.proofs.Common.{ne_eqb, eqb-true, inl, inr, ⊎_elim, sym, ◌∙◌, arith}
use Rattle.std.proofs.lemmas.Bool.{eqb-false}
use Rattle.std.proofs.Math.Dec.{eqb}
use Rattle.std.proofs.Math.Bool.{true, false}
use mathlib.Core.List.{List, ◌∷◌}
use Rattle.std.proofs.Math.Option.{Option, none, some}
use Rattle.std.proofs.Math.Path.{ap, subst}
use Rattle.base.specs.Choose.{choose, if_true, if_false, by_test, test_cases}
use Rattle.answers.specs.declared.HuskTold.{HuskTold}
use Rattle.receiving.specs.declared.Receiving.{Receiving}
use Rattle.mask_keys.specs.Keys.{key_size, receive_size, filled, emptied, entry_of}
use Rattle.mask_keys.proofs.Laws.{length-filled, length-emptied}
use Rattle.mask_calls.specs.Calls.{MovesUp}
use Rattle.history_theorem.specs.Account.{upd, a_mask, Account, without, key_owed, keys}
use Rattle.history_theorem.proofs.Lists.{upd-by, some≢none}
use Rattle.history_theorem.proofs.Sound.{Sound}
use Rattle.history_theorem.specs.Receiver.{Trial, Receiver, removed_from, remove_owed, loses_owed}
use Rattle.hosts_theorem.specs.Log.{removed_to}
use Rattle.hosts_theorem.specs.Claim.{removal_told}
use Rattle.masks_theorem.specs.Hosts.{Given, gives}
use Rattle.masks_theorem.proofs.Slots.{Agree, most, agree-filled, agree-emptied}
use Rattle.masks_theorem.proofs.Quiet.{Quiet}
use Rattle.masks_theorem.proofs.Keys.{count-is, asked-keyed, key_new, agree_left}

-- ---- what holds of a receiving host and its mask keys: the slots hold the keys given, no mask is asked in an epoch with one, and they are the agreed ones

pub record HoldsIn (agreed : ℕ → Option (List ℕ)) (a : Account) (k : List ℕ) (f : Given) : Type 0 where
  pub long : length k ≡ receive_size
  pub slots : Agree a.keyed k f
  pub unasked : (e p : ℕ) → a.waits ≡ a_mask e p → f e ≡ none
  pub right : (e : ℕ) (key : List ℕ) → f e ≡ some key → agreed e ≡ some key

module _ (agreed : ℕ → Option (List ℕ)) (k : List ℕ) (f : Given) where
  -- calls that leave the epochs keyed and ask no mask
  pub quiet-holds : (a b : Account) → Quiet a b → HoldsIn agreed a k f → HoldsIn agreed b k f
  quiet-holds a b q i = record {
    long = i.long;
    slots = subst (λ (l : List ℕ). Agree l k f) (sym q.keyed) i.slots;
    unasked = λ e p z. i.unasked e p (q.asked e p z);
    right = i.right;
  }

-- ---- keying

-- the account behind it: the epoch is keyed exactly if that is owed
abbrev Keyed : Account → Account → ℕ → Type 0
Keyed a b e = (key_owed a e ≡ 0 → (b.keyed ≡ e ∷ a.keyed) × (b.waits ≡ a.waits)) × ((key_owed a e ≡ 0 → ⊥) → b ≡ a)

keyed-as : (a : Account) (e : ℕ) (iv : List ℕ) → Keyed a (keys a e iv) e
unfolding keys
keyed-as a e iv = (
  λ z. by_test (λ (b : Account). (b.keyed ≡ e ∷ a.keyed) × (b.waits ≡ a.waits)) (λ t. (refl, refl)) (λ t. absurd (eqb-false _ _ t z)),
  λ n. if_false _ _ (ne_eqb _ _ n),
)

module _ (agreed : ℕ → Option (List ℕ)) (y : Receiver) (s : Sound y) (e : ℕ) (iv : List ℕ) (r : ℕ) (owed : r ≡ key_owed y.account e) where
  -- with no mask key
  pub keys_hold : (j k : List ℕ) (f : Given) → j ≡ choose (eqb r 0) (emptied most y.state.keys.count k) k → HoldsIn agreed y.account k f
      → HoldsIn agreed (keys y.account e iv) j (gives r f e none)
  keys_hold j k f q i =
      let b = keyed-as y.account e iv in
      test_cases (eqb r 0)
      (λ t.
      let zero = eqb-true r 0 t in
      let done = b.0 (sym owed ∙ zero) in
      key_new y s e iv (sym owed ∙ zero) (λ room new.
      subst (λ (g : Given). HoldsIn agreed (keys y.account e iv) j g) (sym (if_true _ _ t))
      (subst (λ (l : List ℕ). HoldsIn agreed (keys y.account e iv) l (upd f e none)) (sym (q ∙ if_true _ _ t))
      (record {
        long = length-emptied most y.state.keys.count k (omega (arith, i.long)) ∙ i.long;
        slots =
            subst (λ (l : List ℕ). Agree l (emptied most y.state.keys.count k) (upd f e none)) (sym done.0)
            (subst (λ (n : ℕ). Agree (e ∷ y.account.keyed) (emptied most n k) (upd f e none)) (count-is y s)
            (agree-emptied y.account.keyed k f e (omega (arith, i.long)) room new i.slots));
        unasked = λ x p z.
            upd-by f e none (λ x o. y.account.waits ≡ a_mask x p → o ≡ none) x (λ same w. refl) (λ ne w. i.unasked x p w) (sym done.1 ∙ z);
        right = λ x key.
            upd-by f e none (λ x o. o ≡ some key → agreed x ≡ some key) x (λ same z. some≢none (sym z)) (λ ne z. i.right x key z);
      }))))
      (λ t.
      subst (λ (g : Given). HoldsIn agreed (keys y.account e iv) j g) (sym (if_false _ _ t))
      (subst (λ (l : List ℕ). HoldsIn agreed (keys y.account e iv) l f) (sym (q ∙ if_false _ _ t))
      (subst (λ (a : Account). HoldsIn agreed a k f) (sym (b.1 (λ z. eqb-false r 0 t (owed ∙ z)))) i)))

  -- with one, of 32 bytes, that is the agreed one where it is accepted
  pub keys-masked_hold : (j k : List ℕ) (f : Given) (key : List ℕ) → length key ≡ key_size → (r ≡ 0 → agreed e ≡ some key)
      → j ≡ choose (eqb r 0) (filled most y.state.keys.count key k) k → HoldsIn agreed y.account k f
      → HoldsIn agreed (keys y.account e iv) j (gives r f e (some key))
  keys-masked_hold j k f key size fair q i =
      let b = keyed-as y.account e iv in
      test_cases (eqb r 0)
      (λ t.
      let zero = eqb-true r 0 t in
      let done = b.0 (sym owed ∙ zero) in
      key_new y s e iv (sym owed ∙ zero) (λ room new.
      subst (λ (g : Given). HoldsIn agreed (keys y.account e iv) j g) (sym (if_true _ _ t))
      (subst (λ (l : List ℕ). HoldsIn agreed (keys y.account e iv) l (upd f e (some key))) (sym (q ∙ if_true _ _ t))
      (record {
        long = length-filled most y.state.keys.count key k (omega (arith, i.long)) size ∙ i.long;
        slots =
            subst (λ (l : List ℕ). Agree l (filled most y.state.keys.count key k) (upd f e (some key))) (sym done.0)
            (subst (λ (n : ℕ). Agree (e ∷ y.account.keyed) (filled most n key k) (upd f e (some key))) (count-is y s)
            (agree-filled y.account.keyed k f e (omega (arith, i.long)) room new i.slots key size));
        unasked = λ x p z.
            upd-by f e (some key) (λ x o. y.account.waits ≡ a_mask x p → o ≡ none) x
            (λ same w. absurd (new x (asked-keyed y s x p w) same)) (λ ne w. i.unasked x p w) (sym done.1 ∙ z);
        right = λ x m.
            upd-by f e (some key) (λ x o. o ≡ some m → agreed x ≡ some m) x
            (λ same z. subst (λ (n : ℕ). agreed n ≡ some m) (sym same) (fair zero ∙ z)) (λ ne z. i.right x m z);
      }))))
      (λ t.
      subst (λ (g : Given). HoldsIn agreed (keys y.account e iv) j g) (sym (if_false _ _ t))
      (subst (λ (l : List ℕ). HoldsIn agreed (keys y.account e iv) l f) (sym (q ∙ if_false _ _ t))
      (subst (λ (a : Account). HoldsIn agreed a k f) (sym (b.1 (λ z. eqb-false r 0 t (owed ∙ z)))) i)))

-- ---- removing

-- the account behind it: the epoch is gone, and no mask is asked that was not
record Gone (a b : Account) (e : ℕ) : Type 0 where
  keyed : b.keyed ≡ without e a.keyed
  asked : (x p : ℕ) → b.waits ≡ a_mask x p → a.waits ≡ a_mask x p

gone_from : (y : Receiver) (z : Receiving) (e : ℕ) (t : Option Trial) → Gone y.account (removed_from y z e t).account e
unfolding removed_from
gone_from y z e none = record { keyed = refl; asked = λ x p w. w }
gone_from y z e (some t) =
    by_test (λ (v : Receiver). Gone y.account v.account e)
    (λ b. record { keyed = refl; asked = λ x p w. let c : ◌≡◌ {A = ℕ} 0 1 = cc in absurd (omega arith) })
    (λ b. record { keyed = refl; asked = λ x p w. w })

refused-is : (n : ℕ) → (n ≡ 0) ⊎ (n ≡ 6) → eqb (removal_told n).refusal 0 ≡ true
refused-is n z =
    ⊎_elim (λ p. subst (λ (m : ℕ). eqb (removal_told m).refusal 0 ≡ true) (sym p) (ap (λ (x : HuskTold). eqb x.refusal 0) (if_false _ _ refl)))
    (λ p. subst (λ (m : ℕ). eqb (removal_told m).refusal 0 ≡ true) (sym p) (ap (λ (x : HuskTold). eqb x.refusal 0) (if_true _ _ refl))) z

loses-owed : (t : Option Trial) (e : ℕ) → (loses_owed t e ≡ 0) ⊎ (loses_owed t e ≡ 6)
loses-owed none e = inl refl
loses-owed (some t) e = by_test (λ (n : ℕ). (n ≡ 0) ⊎ (n ≡ 6)) (λ b. inr refl) (λ b. inl refl)

module _ (agreed : ℕ → Option (List ℕ)) (y : Receiver) (s : Sound y) (e : ℕ) (z : Receiving) (r : HuskTold) (owed : r ≡ removal_told (remove_owed y e)) where
  pub removes_hold : (j k : List ℕ) (f : Given) → MovesUp (choose (eqb r.refusal 0) (entry_of y.state.keys e) None) j k
      → HoldsIn agreed y.account k f → HoldsIn agreed (removed_to y z e).account j f
  unfolding remove_owed
  removes_hold j k f up i =
      by_test (λ (v : Receiver). HoldsIn agreed v.account j f)
      (λ t.
      let g = gone_from y z e y.trial in
      let done : eqb r.refusal 0 ≡ true =
      ap (λ (x : HuskTold). eqb x.refusal 0) (owed ∙ ap removal_told (if_true _ _ t)) ∙ refused-is (loses_owed y.trial e) (loses-owed y.trial e) in
      let moved = agree_left y s j k f e i.long i.slots t (subst (λ (p : Found). MovesUp p j k) (if_true _ _ done) up) in
      record {
        long = moved.0 ∙ i.long;
        slots = subst (λ (l : List ℕ). Agree l j f) (sym g.keyed) moved.1;
        unasked = λ x p w. i.unasked x p (g.asked x p w);
        right = i.right;
      })
      (λ t.
      let not_done : eqb r.refusal 0 ≡ false =
      ap (λ (x : HuskTold). eqb x.refusal 0) (owed ∙ ap removal_told (if_false _ _ t)) ∙ ap (λ (x : HuskTold). eqb x.refusal 0) (if_false _ _ refl) in
      subst (λ (l : List ℕ). HoldsIn agreed y.account l f) (sym (subst (λ (p : Found). MovesUp p j k) (if_false _ _ not_done) up)) i)
