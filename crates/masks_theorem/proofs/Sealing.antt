-- The slots of a sending host hold the mask keys given for epoch 2 and the application epoch, and the mask of a sealing is made of the key given for the epoch that
-- the question shows. Assumes nothing.
use Rattle.std.specs.Prelude.{ℕ, ◌*◌, ◌≤◌, ◌<◌, eqb, length, get_or, true, List, [], ◌∷◌, ◌⊎◌, ◌≡◌, refl, Some, None, Ok, Err}
use Rattle.std.proofs.Common.{eqb-true, ⊎_elim, sym, subst, ◌∙◌, arith}
use Rattle.std.proofs.lemmas.Bool.{eqb-false}
use Rattle.std.proofs.Math.Option.{Option, none, some}
use Rattle.std.proofs.Math.Path.{ap}
use Rattle.base.specs.Choose.{choose, if_true, if_false, by_test, test_cases}
use Rattle.base.specs.Parts.{part}
use Rattle.mask_keys.specs.Keys.{key_size, slot_size, send_slots, send_size, filled, emptied, send_slot, send_key}
use Rattle.mask_keys.proofs.Laws.{key_filled, other-filled, length-filled, none-emptied, other-emptied, length-emptied}
use Rattle.mask_calls.specs.Calls as masked
use Rattle.mask_calls.specs.Calls.{seal_mask, mask_by}
use Rattle.sealing.specs.Sealing.{Asked, question_of}
use Rattle.send_words.specs.Words as sendWords
use Rattle.send_calls.specs.Calls as sends
use Rattle.send_calls.specs.declared.HuskSealing.{HuskSealing}
use Rattle.waiting_laws.specs.Calls.{key_send·}
use Rattle.history_theorem.specs.Account.{upd}
use Rattle.history_theorem.specs.Claim.{Masks}
use Rattle.history_theorem.proofs.Lists.{upd_same, upd_other, upd-by, some≢none}
use Rattle.ends_theorem.specs.Ledger.{Ledger, key_number, keyed, after}
use Rattle.ends_theorem.specs.Sender.{Lent, FairSeal}
use Rattle.hosts_theorem.specs.Log.{sealing_of, shows_now}
use Rattle.masks_theorem.specs.Hosts.{Given, gives, mask_or, mask_shown}
use Rattle.masks_theorem.specs.Claim.{mask_in, Unless, FairSealing}
use Rattle.masks_theorem.proofs.Slots.{key_of, key_same, key_here, no_key}

-- ---- what holds of a sending host and its mask keys; app is its application epoch, 0 if none is keyed

pub record HoldsOut (agreed : ℕ → Option (List ℕ)) (app : ℕ) (k : List ℕ) (f : Given) : Type 0 where
  pub long : length k ≡ send_size
  pub first : key_of k 0 ≡ f 2
  pub second : key_of k 1 ≡ f app
  pub right : (e : ℕ) (key : List ℕ) → f e ≡ some key → agreed e ≡ some key

-- the epoch that the application epoch is behind a keying
abbrev app_behind : ℕ → ℕ → ℕ
app_behind app e = choose (eqb e 2) app e

keyed-app : (l : Ledger) (e : ℕ) (iv : List ℕ) → (key_number l e ≡ 0 → (after l (key_send· e iv)).application ≡ app_behind l.application e) × ((key_number l e ≡ 0 → ⊥) → (after l (key_send· e iv)).application ≡ l.application)
unfolding after keyed
keyed-app l e iv = (
  λ z. by_test (λ (x : Ledger). x.application ≡ app_behind l.application e) (λ t. refl) (λ t. absurd (eqb-false _ _ t z)),
  λ n. by_test (λ (x : Ledger). x.application ≡ l.application) (λ t. absurd (n (eqb-true _ _ t))) (λ t. refl),
)

module _ (agreed : ℕ → Option (List ℕ)) (l : Ledger) (two : l.application ≡ 2 → ⊥) (e : ℕ) (iv : List ℕ) (r : ℕ) (owed : r ≡ key_number l e) where
  abbrev app : ℕ
  app = l.application

  abbrev behind_keying : ℕ
  behind_keying = (after l (key_send· e iv)).application

  -- a slot written, for this epoch a key or none
  slots-keyed : (j k : List ℕ) (f : Given) (o : Option (List ℕ)) → length j ≡ length k → key_of j (send_slot e) ≡ o
      → ((i : ℕ) → i < send_slots → (i ≡ send_slot e → ⊥) → key_of j i ≡ key_of k i) → ((key : List ℕ) → o ≡ some key → agreed e ≡ some key)
      → HoldsOut agreed app k f → HoldsOut agreed (app_behind app e) j (upd f e o)
  slots-keyed j k f o size here other fair i = record {
    long = size ∙ i.long;
    first =
        test_cases (eqb e 2)
        (λ t. ap (key_of j) (sym (if_true _ _ t)) ∙ here ∙ sym (upd_same f e o) ∙ ap (upd f e o) (eqb-true e 2 t))
        (λ t. other 0 (omega arith) (λ z. let y : send_slot e ≡ 1 = if_false _ _ t in omega arith) ∙ i.first ∙ sym (upd_other f e o 2 (λ z. eqb-false e 2 t (sym z))));
    second =
        test_cases (eqb e 2)
        (λ t.
        other 1 (omega arith) (λ z. let y : send_slot e ≡ 0 = if_true _ _ t in omega arith) ∙ i.second
        ∙ sym (upd_other f e o app (λ z. two (z ∙ eqb-true e 2 t))) ∙ ap (upd f e o) (sym (if_true _ _ t)))
        (λ t. ap (key_of j) (sym (if_false _ _ t)) ∙ here ∙ sym (upd_same f e o) ∙ ap (upd f e o) (sym (if_false _ _ t)));
    right = λ x key.
        upd-by f e o (λ x p. p ≡ some key → agreed x ≡ some key) x
        (λ same z. subst (λ (n : ℕ). agreed n ≡ some key) (sym same) (fair key z)) (λ ne z. i.right x key z);
  }

  slot-below : send_slot e < send_slots
  slot-below = by_test (λ (n : ℕ). n < send_slots) (λ t. omega arith) (λ t. omega arith)

  -- keyed or refused
  module _ (j k : List ℕ) (f : Given) (o : Option (List ℕ)) (written : List ℕ) (q : j ≡ choose (eqb r 0) written k) (i : HoldsOut agreed app k f)
      (done : r ≡ 0 → HoldsOut agreed (app_behind app e) written (upd f e o)) where
    either_way : HoldsOut agreed behind_keying j (gives r f e o)
    either_way =
        let b = keyed-app l e iv in
        test_cases (eqb r 0)
        (λ t.
        let zero = eqb-true r 0 t in
        subst (λ (n : ℕ). HoldsOut agreed n j (gives r f e o)) (sym (b.0 (sym owed ∙ zero)))
        (subst (λ (g : Given). HoldsOut agreed (app_behind app e) j g) (sym (if_true _ _ t))
        (subst (λ (x : List ℕ). HoldsOut agreed (app_behind app e) x (upd f e o)) (sym (q ∙ if_true _ _ t)) (done zero))))
        (λ t.
        subst (λ (n : ℕ). HoldsOut agreed n j (gives r f e o)) (sym (b.1 (λ z. eqb-false r 0 t (owed ∙ z))))
        (subst (λ (g : Given). HoldsOut agreed app j g) (sym (if_false _ _ t))
        (subst (λ (x : List ℕ). HoldsOut agreed app x f) (sym (q ∙ if_false _ _ t)) i)))

  pub sends-keys_hold : (j k : List ℕ) (f : Given) → j ≡ choose (eqb r 0) (emptied send_slots (send_slot e) k) k → HoldsOut agreed app k f
      → HoldsOut agreed behind_keying j (gives r f e none)
  sends-keys_hold j k f q i =
      let room : send_slots * slot_size ≤ length k = omega (arith, i.long) in
      either_way j k f none (emptied send_slots (send_slot e) k) q i
      (λ z.
      slots-keyed (emptied send_slots (send_slot e) k) k f none (length-emptied send_slots (send_slot e) k room)
      (no_key _ (send_slot e) (none-emptied send_slots (send_slot e) k slot-below room))
      (λ n b ne. key_same _ k n n (other-emptied send_slots (send_slot e) n k slot-below b ne room)) (λ key w. some≢none (sym w)) i)

  pub sends-keys-masked_hold : (j k : List ℕ) (f : Given) (key : List ℕ) → length key ≡ key_size → (r ≡ 0 → agreed e ≡ some key)
      → j ≡ choose (eqb r 0) (filled send_slots (send_slot e) key k) k → HoldsOut agreed app k f → HoldsOut agreed behind_keying j (gives r f e (some key))
  sends-keys-masked_hold j k f key size fair q i =
      let room : send_slots * slot_size ≤ length k = omega (arith, i.long) in
      either_way j k f (some key) (filled send_slots (send_slot e) key k) q i
      (λ z.
      slots-keyed (filled send_slots (send_slot e) key k) k f (some key) (length-filled send_slots (send_slot e) key k room size)
      (key_here _ (send_slot e) key (key_filled send_slots (send_slot e) key k slot-below room size))
      (λ n b ne. key_same _ k n n (other-filled send_slots (send_slot e) n key k slot-below b ne room size)) (λ m w. fair z ∙ w) i)

-- ---- the mask of a sealing

-- the slot of an epoch that is epoch 2 or the application epoch holds the key given for it
send_key_is : (agreed : ℕ → Option (List ℕ)) (app : ℕ) (k : List ℕ) (f : Given) → HoldsOut agreed app k f → (e : ℕ) → (e ≡ 2) ⊎ (e ≡ app) → send_key k e ≡ f e
unfolding send_key
send_key_is agreed a k f i e z =
    test_cases (eqb e 2)
    (λ t. ap (key_of k) (if_true _ _ t) ∙ i.first ∙ ap f (sym (eqb-true e 2 t)))
    (λ t. ap (key_of k) (if_false _ _ t) ∙ i.second ∙ ap f (sym (⊎_elim (λ w. absurd (eqb-false e 2 t w)) (λ w. w) z)))

module _ (agreed : ℕ → Option (List ℕ)) (app : ℕ) (k : List ℕ) (f : Given) (i : HoldsOut agreed app k f) where
  -- the program's mask is that of the question shown, over any queue
  pub mask_is : (w p : List ℕ) (old : Option Lent) (lent : Option Lent) → sendWords.is_flat w ≡ true → lent ≡ shows_now (sealing_of w) p old
      → ((l : Lent) → lent ≡ some l → (l.epoch ≡ 2) ⊎ (l.epoch ≡ app)) → (q : List ℕ) (m n : ℕ) → seal_mask w k q m n ≡ mask_shown f lent q (m ∷ n ∷ [])
  unfolding seal_mask
  mask_is w p old lent flat shown under q m n =
      let x = question_of (sendWords.state_of w) in
      by-question x (shown ∙ ap (λ (r : HuskSealing). shows_now r p old) (if_true _ _ flat))
    where
      same : (a b : Option (List ℕ)) → a ≡ b → (at : ℕ) → masked.mask_or a q at (m ∷ n ∷ []) ≡ mask_or b q at (m ∷ n ∷ [])
      same a none z at = ap (λ (o : Option (List ℕ)). masked.mask_or o q at (m ∷ n ∷ [])) z
      same a (some key) z at = ap (λ (o : Option (List ℕ)). masked.mask_or o q at (m ∷ n ∷ [])) z

      by-question : (x : Asked) → lent ≡ shows_now (sends.flat_sealing x) p old → mask_by x k q (m ∷ n ∷ []) ≡ mask_shown f lent q (m ∷ n ∷ [])
      by-question (Ok None) z = sym (ap (λ (o : Option Lent). mask_shown f o q (m ∷ n ∷ [])) (z ∙ if_false _ _ refl))
      by-question (Err x) z = sym (ap (λ (o : Option Lent). mask_shown f o q (m ∷ n ∷ [])) (z ∙ if_false _ _ refl))
      by-question (Ok (Some x)) z =
          let some-lent = z ∙ if_true _ _ refl in
          same (send_key k x.epoch) (f x.epoch) (send_key_is agreed app k f i x.epoch (under _ some-lent)) x.start
          ∙ sym (ap (λ (o : Option Lent). mask_shown f o q (m ∷ n ∷ [])) some-lent)

  -- and it is the sender's: of the agreed key, or what the host brought
  pub seal_fair : (masks : Masks) (lent : Option Lent) (q : List ℕ) (len m n : ℕ)
      → FairSealing (λ e x. mask_in (agreed e) (masks e) x) f lent q len (m ∷ n ∷ [])
      → let x : List ℕ = mask_shown f lent q (m ∷ n ∷ []) in
      FairSeal (λ e y. mask_in (agreed e) (masks e) y) lent q len (get_or x 0 0 ∷ get_or x 1 0 ∷ [])
  seal_fair masks none q len m n h = tt
  seal_fair masks (some l) q len m n h = by_key (f l.epoch) refl h
    where
      by_key : (o : Option (List ℕ)) → f l.epoch ≡ o → Unless o (FairSeal (λ e x. mask_in (agreed e) (masks e) x) (some l) q len (m ∷ n ∷ []))
          → let x : List ℕ = mask_or o q l.place (m ∷ n ∷ []) in
          FairSeal (λ e y. mask_in (agreed e) (masks e) y) (some l) q len (get_or x 0 0 ∷ get_or x 1 0 ∷ [])
      by_key none z g = g
      by_key (some key) z g = λ w.
          let r = i.right l.epoch key z in (
            sym (ap (λ (o : Option (List ℕ)). get_or (mask_in o (masks l.epoch) (part l.place 16 q)) 0 0) r),
            sym (ap (λ (o : Option (List ℕ)). get_or (mask_in o (masks l.epoch) (part l.place 16 q)) 1 0) r),
          )
