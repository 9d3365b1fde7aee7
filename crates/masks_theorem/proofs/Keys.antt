-- What the state of a receiving end and its account say of the epochs with a mask key: an epoch in which a mask is asked is keyed; the slot of a keyed epoch holds
-- the key given for it, through keying and removing. Assumes nothing.
use Rattle.std.specs.Prelude.{ℕ, suc, ◌+◌, ◌-◌, ◌<◌, ◌≤◌, length, List, Some, None}
use Rattle.std.proofs.Common.{le-leb, ◌∙◌, arith}
use Rattle.std.proofs.lemmas.Bool.{false≢true}
use Rattle.std.proofs.Math.Bool.{true}
use Rattle.std.proofs.Math.Path.{◌≡◌, refl, sym, ap, subst}
use Rattle.base.specs.Choose.{if_true, both_right}
use Rattle.datagram.specs.Datagram.{ask_sound, ask_keyed, question_sound}
use Rattle.datagram.specs.declared.Question.TheVariants as question
use Rattle.datagram.specs.declared.Question.{Question}
use Rattle.recv_keys.specs.Keys.{most_epochs, find, was_found, is_keyed, Found}
use Rattle.recv_keys.specs.Laws.{not_full}
use Rattle.mask_keys.specs.Keys.{receive_size, key_in, entry_of, receive_key}
use Rattle.mask_calls.specs.Calls.{MovesUp}
use Rattle.history_theorem.specs.Account.{nothing, a_mask, an_opening, is_in, without, key_owed}
use Rattle.history_theorem.proofs.Calls.{key_cases}
use Rattle.history_theorem.specs.Receiver.{Receiver}
use Rattle.history_theorem.proofs.Sound.{Sound, UnderWay}
use Rattle.history_theorem.proofs.Table.{keyed_in, find_in}
use Rattle.masks_theorem.specs.Hosts.{Given}
use Rattle.masks_theorem.proofs.Slots.{Agree, most, epochs-long, found_key, Falls, falls, below_all, place_of, found-place, agree-moved}

module _ (y : Receiver) (i : Sound y) where
  -- as many epochs are keyed in the state as by the account
  pub count-is : length y.account.keyed ≡ y.state.keys.count
  count-is = ap length i.tally.keyed ∙ epochs-long y.state.keys.entries y.state.keys.count

  pub count_most : y.state.keys.count ≤ most_epochs
  count_most = i.made.ready.keys.count

  -- an epoch in which a mask is asked is keyed
  pub asked-keyed : (e p : ℕ) → y.account.waits ≡ a_mask e p → is_in e y.account.keyed ≡ true
  unfolding question_sound ask_keyed is_keyed
  asked-keyed e p w = by-question y.state.datagram.question i.under i.made.ready.question
    where
      by-question : (q : Question) → UnderWay q y.state.datagram.at y.account.waits y.trial
          → question_sound y.state.keys q (y.state.datagram.size - y.state.datagram.at) ≡ true → is_in e y.account.keyed ≡ true
      by-question question.Nothing u z = let x : nothing ≡ a_mask e p = sym u.0 ∙ w in let c : ◌≡◌ {A = ℕ} 0 1 = cc in absurd (omega arith)
      by-question (question.Mask a) u z =
          let x : a_mask a.epoch (y.state.datagram.at + a.header_len) ≡ a_mask e p = sym u.2.0 ∙ w in
          let same : a.epoch ≡ e = cc in
          rw i.tally.keyed (sym (find_in y.state.keys.entries e y.state.keys.count)
          ∙ subst (λ (n : ℕ). was_found (find y.state.keys.entries n y.state.keys.count) ≡ true) same (both_right (ask_sound a _) _ z))
      by-question (question.Opening a n) u z =
          let t = u.2 in
          let x : an_opening a.epoch n y.state.datagram.at t.0 t.1 ≡ a_mask e p = sym t.2 ∙ w in
          let c : ◌≡◌ {A = ℕ} 0 1 = cc in absurd (omega arith)

  module _ (k : List ℕ) (f : Given) (a : Agree y.account.keyed k f) where
    abbrev in_table : Type 0
    in_table = Agree (keyed_in y.state.keys) k f

    in-table : in_table
    in-table = subst (λ (l : List ℕ). Agree l k f) i.tally.keyed a

    -- the slot of an epoch that is keyed holds the key given for it
    pub key_is : (e : ℕ) → is_in e y.account.keyed ≡ true → receive_key y.state.keys k e ≡ f e
    unfolding receive_key entry_of
    key_is e m =
        ap (key_in k) (if_true _ _ (le-leb y.state.keys.count most_epochs count_most))
        ∙ found_key y.state.keys.entries y.state.keys.count e k f in-table
        ∙ if_true _ _ (sym (ap (is_in e) i.tally.keyed) ∙ m)

  -- ---- keying

  module _ (e : ℕ) (iv : List ℕ) where
    -- an epoch that is keyed finds a slot, and is none of those keyed
    pub key_new : {C : Type 0} → key_owed y.account e ≡ 0 → (length y.account.keyed < most → ((x : ℕ) → is_in x y.account.keyed ≡ true → x ≡ e → ⊥) → C) → C
    key_new owed f =
        key_cases y i e iv (λ a s w ne. absurd (ne (sym w ∙ owed)))
        (λ low new room w s.
        f (subst (λ (n : ℕ). n < most) (sym count-is) (not_full y.state.keys e room))
        (λ x m q.
        let b : x < suc y.state.keys.highest =
        below_all y.state.keys.entries y.state.keys.count (suc y.state.keys.highest) x (λ j h. let l = i.table.below j h in omega arith)
        (sym (ap (is_in x) i.tally.keyed) ∙ m) in
        omega arith))

  -- ---- removing

  pub falls-keyed : Falls y.account.keyed
  falls-keyed = subst Falls (sym i.tally.keyed) (falls y.state.keys y.used y.account.ivs i.table y.state.keys.count (omega arith))

  -- an epoch that is keyed goes with its slot
  pub agree_left : (j k : List ℕ) (f : Given) (e : ℕ) → length k ≡ receive_size → Agree y.account.keyed k f → is_in e y.account.keyed ≡ true
      → MovesUp (entry_of y.state.keys e) j k → (length j ≡ length k) × Agree (without e y.account.keyed) j f
  unfolding entry_of was_found
  agree_left j k f e long a m up =
      by-found (find y.state.keys.entries e y.state.keys.count) refl
      (subst (λ (p : Found). MovesUp p j k) (if_true _ _ (le-leb y.state.keys.count most_epochs count_most)) up)
    where
      in_keys : is_in e (keyed_in y.state.keys) ≡ true
      in_keys = sym (ap (is_in e) i.tally.keyed) ∙ m

      found_none : find y.state.keys.entries e y.state.keys.count ≡ None → ⊥
      found_none q = false≢true (sym (ap was_found q) ∙ find_in y.state.keys.entries e y.state.keys.count ∙ in_keys)

      by-found : (p : Found) → find y.state.keys.entries e y.state.keys.count ≡ p → MovesUp p j k
          → (length j ≡ length k) × Agree (without e y.account.keyed) j f
      by-found (Some n) q u = (
        u.0,
        agree-moved j k f e u.0 (omega (arith, long)) y.account.keyed n
            (found-place y.state.keys.entries y.state.keys.count e n q ∙ sym (ap (place_of e) i.tally.keyed))
            u.1 falls-keyed (omega (arith, count-is, count_most)) m a,
      )
      by-found None q u = absurd (found_none q)
