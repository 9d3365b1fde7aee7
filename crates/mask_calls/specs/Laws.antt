-- From what a call's parts ensure to what the call ensures. Assumes nothing.
use Rattle.std.specs.Prelude.{Bool, true, false, ◌≡◌, ℕ, ◌<◌, ◌≤◌, ltb, leb, eqb, get_or, Some, None, Ok, Err}
use mathlib.Core.List.{List}
use Rattle.std.proofs.Math.Path.{refl, sym, ap, subst}
use Rattle.std.proofs.Common.{◌∙◌, arith, leb-true, eqb-true, eq-eqb, ne_eqb}
use Rattle.base.specs.Choose.{choose, either, if_true, if_false, by_test, test_cases, either-false}
use Rattle.recv_keys.specs.Keys.{most_epochs, find, is_full, Found}
use Rattle.recv_keys.specs.Laws.{Under, found-keyed}
use Rattle.recv_keys.specs.declared.RecvKeys.{RecvKeys}
use Rattle.receiving.specs.Receiving.{sound, key_of}
use Rattle.receiving.specs.declared.Receiving.{Receiving}
use Rattle.recv_calls.specs.Flat.{answer_of}
use Rattle.recv_calls.specs.Calls as receive
use Rattle.recv_calls.specs.declared.HuskReading.{HuskReading}
use Rattle.recv_words.specs.Words.{keys_of}
use Rattle.sealing.specs.Sealing.{Asked, question_of}
use Rattle.send_words.specs.Words.{state_of, is_flat}
use Rattle.send_calls.specs.Calls as sends
use Rattle.send_calls.specs.declared.HuskSealing.{HuskSealing}
use Rattle.mask_keys.specs.Keys.{key_size, has_key, key_at, keyed_as, key_in, entry_of, receive_key, send_slot, send_key, mask_at}
use Rattle.mask_calls.specs.Calls.{length_as, Held, asked_key, GoesOn, mask_by, mask_or, seal_mask, SealedCall}

-- ---- a slot stands for each entry

under : (n : ℕ) (f : Found) → n ≤ most_epochs → ((i : ℕ) → f ≡ Some i → i < n) → Under most_epochs f
under n (Some i) l h = omega (arith, h i refl)
under n None l h = tt

pub entry-under : (r : RecvKeys) (e : ℕ) → Under most_epochs (entry_of r e)
unfolding entry_of
entry-under r e =
    by_test (Under most_epochs)
    (λ t. under r.count (find r.entries e r.count) (leb-true _ _ t) (found-keyed r.entries e r.count))
    (λ t. tt)

pub entry-below : (r : RecvKeys) (e i : ℕ) → entry_of r e ≡ Some i → i < most_epochs
entry-below r e i q = subst (Under most_epochs) q (entry-under r e)

pub held_below : (r : RecvKeys) (e i : ℕ) (k : List ℕ) {f : Found} → f ≡ Some i → Held k (entry_of r e) f → i < most_epochs
held_below r e i k q h = entry-below r e i (subst (Held k (entry_of r e)) q h).0

-- ---- a mask key of another length

pub other_length : (size n : ℕ) → (size ≡ key_size → ⊥) → length_as n ≡ keyed_as size n
unfolding length_as keyed_as
other_length size n h = sym (if_false _ _ (ne_eqb size key_size h))

pub never_done : (t : Bool) (n : ℕ) {r : ℕ} → r ≡ choose t (length_as n) 12 → eqb r 0 ≡ false
unfolding length_as
never_done t n e =
    ap (λ (x : ℕ). eqb x 0) e
    ∙ by_test (λ (x : ℕ). eqb x 0 ≡ false)
    (λ _. by_test (λ (x : ℕ). eqb x 0 ≡ false)
    (λ q. test_cases (eqb n 12) (λ a. ap (λ (x : ℕ). eqb x 0) (eqb-true n 12 a)) (λ a. ap (λ (x : ℕ). eqb x 0) (eqb-true n 13 (sym (either-false a) ∙ q))))
    (λ _. refl))
    (λ _. refl)

module _ (s : Receiving) (epoch : ℕ) (iv : List ℕ) where
  pub bad_setting : sound s ≡ false → 12 ≡ length_as (answer_of (key_of s epoch iv).answer)
  unfolding key_of length_as choose either
  bad_setting t = rw t

  pub bad_low : sound s ≡ true → ltb epoch 2 ≡ true → 13 ≡ length_as (answer_of (key_of s epoch iv).answer)
  unfolding key_of length_as choose either
  bad_low t u = rw (t, u)

  pub bad_order : sound s ≡ true → ltb epoch 2 ≡ false → leb epoch s.keys.highest ≡ true
      → 13 ≡ length_as (answer_of (key_of s epoch iv).answer)
  unfolding key_of length_as choose either
  bad_order t u v = rw (t, u, v)

  pub bad_key : sound s ≡ true → ltb epoch 2 ≡ false → leb epoch s.keys.highest ≡ false
      → 27 ≡ length_as (answer_of (key_of s epoch iv).answer)
  unfolding key_of length_as choose either
  bad_key t u v = test_cases (is_full s.keys epoch) (λ q. rw (t, u, v, q)) (λ q. rw (t, u, v, q))

-- ---- a reading that asks for a mask

module _ (a : HuskReading) (u k : List ℕ) where
  pub with-key : {f : Found} (r : HuskReading) (v e d m : List ℕ) (i : ℕ) → a.kind ≡ 6 → f ≡ Some i → Held k (entry_of (keys_of u) a.epoch) f
      → m ≡ mask_at (key_at k i) d a.start → receive.MaskCall r v u (get_or m 0 0) (get_or m 1 0) e d → GoesOn (asked_key a u k) r v a u e d
  unfolding asked_key receive_key key_in
  with-key r v e d m i t q h p c =
      let g = subst (Held k (entry_of (keys_of u) a.epoch)) q h in
      subst (λ o. GoesOn o r v a u e d) (sym (if_true _ _ (eq-eqb _ _ t) ∙ ap (key_in k) g.0 ∙ if_true _ _ g.1))
      (subst (λ (x : List ℕ). receive.MaskCall r v u (get_or x 0 0) (get_or x 1 0) e d) p c)

  pub without_key : {f : Found} (d : List ℕ) → a.kind ≡ 6 → f ≡ None → Held k (entry_of (keys_of u) a.epoch) f
      → GoesOn (asked_key a u k) a u a u d d
  unfolding asked_key receive_key
  without_key d t q h =
      subst (λ o. GoesOn o a u a u d d) (sym (if_true _ _ (eq-eqb _ _ t) ∙ subst (Held k (entry_of (keys_of u) a.epoch)) q h)) (refl, refl, refl)

  pub not_asked : (d : List ℕ) → (a.kind ≡ 6 → ⊥) → GoesOn (asked_key a u k) a u a u d d
  unfolding asked_key
  not_asked d t = subst (λ o. GoesOn o a u a u d d) (sym (if_false _ _ (ne_eqb _ _ t))) (refl, refl, refl)

-- ---- the mask of a sealing

asked_by : (x : Asked) (k q m : List ℕ) → (sends.flat_sealing x).kind ≡ 2
    → mask_by x k q m ≡ mask_or (send_key k (sends.flat_sealing x).epoch) q (sends.flat_sealing x).start m
asked_by (Ok (Some x)) k q m t = refl
asked_by (Ok None) k q m t = absurd (omega arith)
asked_by (Err x) k q m t = absurd (omega arith)

not_asked-by : (x : Asked) (k q m : List ℕ) → ((sends.flat_sealing x).kind ≡ 2 → ⊥) → mask_by x k q m ≡ m
not_asked-by (Ok (Some x)) k q m t = absurd (t refl)
not_asked-by (Ok None) k q m t = refl
not_asked-by (Err x) k q m t = refl

module _ (w k q : List ℕ) (m n : ℕ) (z : HuskSealing) (e : sends.SealingCall z w) (flat : is_flat w ≡ true) where
  asks : z.kind ≡ 2 → seal_mask w k q m n ≡ mask_or (send_key k z.epoch) q z.start (sends.masks m n)
  unfolding seal_mask
  asks =
      subst (λ (y : HuskSealing). y.kind ≡ 2 → seal_mask w k q m n ≡ mask_or (send_key k y.epoch) q y.start (sends.masks m n))
      (sym (e ∙ if_true _ _ flat))
      (asked_by (question_of (state_of w)) k q (sends.masks m n))

  pub by_key : {r : List ℕ} (i : ℕ) → z.kind ≡ 2 → i ≡ send_slot z.epoch → has_key k i ≡ true → r ≡ mask_at (key_at k i) q z.start
      → r ≡ seal_mask w k q m n
  unfolding send_key key_in
  by_key i t p h f =
      f ∙ sym (asks t ∙ ap (λ o. mask_or o q z.start (sends.masks m n)) (ap (λ (x : ℕ). key_in k (Some x)) (sym p) ∙ if_true _ _ h))

  pub by-reply : (i : ℕ) → z.kind ≡ 2 → i ≡ send_slot z.epoch → has_key k i ≡ false → sends.masks m n ≡ seal_mask w k q m n
  unfolding send_key key_in
  by-reply i t p h =
      sym (asks t ∙ ap (λ o. mask_or o q z.start (sends.masks m n)) (ap (λ (x : ℕ). key_in k (Some x)) (sym p) ∙ if_false _ _ h))

  pub no_question : (z.kind ≡ 2 → ⊥) → sends.masks m n ≡ seal_mask w k q m n
  unfolding seal_mask
  no_question t =
      sym (not_asked-by (question_of (state_of w)) k q (sends.masks m n)
      (subst (λ (y : HuskSealing). y.kind ≡ 2 → ⊥) (e ∙ if_true _ _ flat) t))

-- no epoch has a key
no_key_by : (x : Asked) (k q m : List ℕ) → has_key k 0 ≡ false → has_key k 1 ≡ false → mask_by x k q m ≡ m
unfolding send_key key_in
no_key_by (Ok (Some x)) k q m f g =
    ap (λ o. mask_or o q x.start m) (if_false _ _ (by_test (λ (x : ℕ). has_key k x ≡ false) {t = eqb x.epoch 2} (λ _. f) (λ _. g)))
no_key_by (Ok None) k q m f g = refl
no_key_by (Err x) k q m f g = refl

pub no_key : (w k q : List ℕ) (m n : ℕ) → has_key k 0 ≡ false → has_key k 1 ≡ false → sends.masks m n ≡ seal_mask w k q m n
unfolding seal_mask
no_key w k q m n f g = sym (no_key_by (question_of (state_of w)) k q (sends.masks m n) f g)

-- words that stand for no state are refused, whatever the mask
pub seals : (r : ℕ) (v w k : List ℕ) (len m n : ℕ) (p q x : List ℕ) → (is_flat w ≡ true → x ≡ seal_mask w k q m n)
    → sends.SealedCall r v w len (get_or x 0 0) (get_or x 1 0) p q → SealedCall r v w k len m n p q
seals r v w k len m n p q x f h =
    test_cases (is_flat w)
    (λ t. subst (λ (s : List ℕ). sends.SealedCall r v w len (get_or s 0 0) (get_or s 1 0) p q) (f t) h)
    (λ t. (h.0, h.1 ∙ if_false _ _ t ∙ sym (if_false _ _ t)))
