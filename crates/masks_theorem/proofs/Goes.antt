-- A reading that goes on with the mask of a key: the two calls of crate hosts_theorem that it is, their contracts and rules, and the slots behind them.
-- Assumes nothing.
use Rattle.std.specs.Prelude.{ℕ, eqb, length, get_or, ◌⊎◌, ◌≡◌, refl}
use borrow.Author.Tests.{eq-eqb, eqb-true}
use mathlib.Core.List.{List, [], ◌∷◌}
use Rattle.std.proofs.Common.{⊎_elim, subst, ◌∙◌}
use Rattle.std.proofs.Math.Option.{Option, none, some}
use Rattle.std.proofs.Math.Path.{sym, ap}
use Rattle.base.specs.Choose.{if_true, if_false, test_cases}
use Rattle.base.specs.Parts.{part}
use Rattle.receiving.specs.declared.Receiving.{Receiving}
use Rattle.recv_words.specs.Words.{keys_of}
use Rattle.recv_calls.specs.Calls as receive
use Rattle.recv_calls.specs.declared.HuskReading.{HuskReading}
use Rattle.mask_keys.specs.Keys.{receive_key}
use Rattle.mask_calls.specs.Calls.{GoesOn, asked_key}
use Rattle.history_theorem.specs.Account.{Shown, a_mask}
use Rattle.history_theorem.specs.Claim.{Masks, FairMask, Proper, Refused}
use Rattle.history_theorem.proofs.Lists.{some≢none}
use Rattle.history_theorem.specs.Receiver.{rest_of, a_mask_reply, fate_of, question_in}
use Rattle.ends_theorem.specs.World.{Side, far}
use Rattle.hosts_theorem.specs.Memory as inner
use Rattle.hosts_theorem.specs.Log.{reading_of, Host, Act, inward, Made, behind}
use Rattle.hosts_theorem.specs.Claim.{deeds_of, FairDeeds}
use Rattle.masks_theorem.specs.Hosts.{Given, key_asked, going_on, mask_under}
use Rattle.masks_theorem.specs.Claim.{Agreed, masks_of, mask_in, Stands, NotAsked}
use Rattle.masks_theorem.proofs.Slots.{Agree}
use Rattle.masks_theorem.proofs.Quiet.{NotMask, account_of, next-keyed, next-settles}
use Rattle.masks_theorem.proofs.Keys.{asked-keyed, key_is}
use Rattle.masks_theorem.proofs.ReadLaws.{asks-mask}
use Rattle.masks_theorem.proofs.Looks.{pair_of, behind_all, MadeAll, FairAll, Well, looks, stands-own, sound-own}
use Rattle.masks_theorem.proofs.Steps.{HoldsIn}

-- the key of a reading that asks for a mask, and none of any other
asked_of : (f : Given) (a : HuskReading) → a.kind ≡ 6 → key_asked f a ≡ f a.epoch
unfolding key_asked
asked_of f a k = if_true _ _ (eq-eqb _ _ k)

pub asked-six : (f : Given) (a : HuskReading) (key : List ℕ) → key_asked f a ≡ some key → a.kind ≡ 6
unfolding key_asked
asked-six f a key q = test_cases (eqb a.kind 6) (λ t. eqb-true _ _ t) (λ t. some≢none (sym q ∙ if_false _ _ t))

module _ (agreed : Agreed) (masks : Side → Masks) (s : Side) (f h : Host) (well : Well (masks_of agreed masks) (pair_of s f h)) (k : List ℕ) (g : Given)
    (holds : HoldsIn (agreed (far s)) (account_of h) k g) where
  abbrev all : Side → Masks
  all = masks_of agreed masks

  -- a reading: the call c with the answer a, the reading that waits y, the words u and the bytes d behind it
  pub record First (c : inner.InCall) (a : HuskReading) (u y d : List ℕ) : Type 0 where
    pub made : Made h (inward c y)
    pub fair : FairDeeds all s f.seen h.seen (deeds_of (inward c y))
    pub words : (behind f h (inward c y)).incoming.words ≡ u
    pub bytes : a.kind ≡ 6 → (behind f h (inward c y)).incoming.datagram ≡ d
    pub keyed : (account_of (behind f h (inward c y))).keyed ≡ (account_of h).keyed
    -- a mask asked behind it is the one that it tells, or was asked before; and the one that it tells is asked
    pub asks : (e p : ℕ) → (account_of (behind f h (inward c y))).waits ≡ a_mask e p → ((a.kind ≡ 6) × (a.epoch ≡ e)) ⊎ ((account_of h).waits ≡ a_mask e p)
    pub shows : a.kind ≡ 6 → (account_of (behind f h (inward c y))).waits ≡ a_mask a.epoch a.start

  -- what comes of it
  pub record Gone (o : Option (List ℕ)) (acts : List Act) (a r : HuskReading) (u v e d : List ℕ) : Type 0 where
    pub made : MadeAll f h acts
    pub fair : FairAll all s f h acts
    pub holding : HoldsIn (agreed (far s)) (account_of (behind_all f h acts)) k g
    pub application : (behind_all f h acts).seen.ledger.application ≡ h.seen.ledger.application
    pub owed : Stands o r a v u e d × NotAsked g r

  module _ (c : inner.InCall) (a : HuskReading) (u y d : List ℕ) (first : First c a u y d) where
    abbrev next : Host
    next = behind f h (inward c y)

    well-next : Well all (pair_of s f next)
    well-next = (looks all s f h well (inward c y) first.made first.fair).1

    slots_next : Agree (account_of next).keyed k g
    slots_next = subst (λ (l : List ℕ). Agree l k g) (sym first.keyed) holds.slots

    -- the key that the program finds is the one that the host gave
    key_same : asked_key a u k ≡ key_asked g a
    unfolding asked_key key_asked
    key_same =
        test_cases (eqb a.kind 6)
        (λ t.
        let six = eqb-true a.kind 6 t in
        let sound = sound-own all s f next well-next in
        let st = (stands-own all s f next well-next).incoming.state in
        let found = key_is next.seen.into.into sound k g slots_next a.epoch (asked-keyed next.seen.into.into sound a.epoch a.start (first.shows six)) in
        if_true _ _ t
        ∙ ap (λ (l : List ℕ). receive_key (keys_of l) k a.epoch) (sym first.words) ∙ ap (λ (x : Receiving). receive_key x.keys k a.epoch) st
        ∙ found ∙ sym (if_true _ _ t))
        (λ t. if_false _ _ t ∙ sym (if_false _ _ t))

    module _ (r : HuskReading) (v e : List ℕ) where
      by-none : key_asked g a ≡ none → GoesOn none r v a u e d → Gone none (inward c y ∷ []) a r u v e d
      by-none q m = record {
        made = (first.made, tt);
        fair = (first.fair, tt);
        holding = record {
          long = holds.long;
          slots = slots_next;
          unasked = λ x p z. ⊎_elim (λ w. ap g (sym w.1) ∙ sym (asked_of g a w.0) ∙ q) (λ w. holds.unasked x p w) (first.asks x p z);
          right = holds.right;
        };
        application = refl;
        owed = (
          m,
          λ six.
              let six' : a.kind ≡ 6 = sym (ap (λ (x : HuskReading). x.kind) m.0) ∙ six in
              ap (λ (x : HuskReading). g x.epoch) m.0 ∙ sym (asked_of g a six') ∙ q,
        );
      }

      module _ (key : List ℕ) (q : key_asked g a ≡ some key) where
        abbrev mask : List ℕ
        mask = mask_under key d a.start

        abbrev reply : Act
        reply = inward (inner.husk_receiving_mask r v (get_or mask 0 0) (get_or mask 1 0) e) y

        six : a.kind ≡ 6
        six = asked-six g a key q

        given : agreed (far s) a.epoch ≡ some key
        given = holds.right a.epoch key (sym (asked_of g a six) ∙ q)

        made-next : GoesOn (some key) r v a u e d → Made next reply
        made-next m = (
          subst (λ (l : List ℕ). receive.MaskCall r v l (get_or mask 0 0) (get_or mask 1 0) e next.incoming.datagram) (sym first.words)
              (subst (λ (l : List ℕ). receive.MaskCall r v u (get_or mask 0 0) (get_or mask 1 0) e l) (sym (first.bytes six)) m),
          refl,
        )

        -- the mask of the agreed key is the sender's
        right-mask : (i : ℕ) → get_or mask i 0 ≡ get_or (all (far s) a.epoch (part a.start 16 next.seen.into.into.datagram)) i 0
        right-mask i =
            ap (λ (l : List ℕ). get_or (mask_under key l a.start) i 0) (sym (first.bytes six) ∙ (stands-own all s f next well-next).incoming.datagram)
            ∙ ap (λ (o : Option (List ℕ)). get_or (mask_in o (masks (far s) a.epoch) (part a.start 16 next.seen.into.into.datagram)) i 0) (sym given)

        fair-next : FairDeeds all s f.seen next.seen (deeds_of reply)
        fair-next = (
          subst (λ (w : Shown). FairMask (all (far s)) w next.seen.into.into.datagram (get_or (rest_of next.seen.into.into) 0 0) (get_or mask 0 0 ∷ get_or mask 1 0 ∷ []))
              (sym (first.shows six)) (right-mask 0, λ z. right-mask 1),
          tt,
        )

        by-some : GoesOn (some key) r v a u e d → Gone (some key) (inward c y ∷ reply ∷ []) a r u v e d
        by-some m =
            let o = (looks all s f next well-next reply (made-next m) fair-next).0 in
            let proper : (Refused (reading_of r) → ⊥) × NotMask (reading_of r) =
            subst (λ (w : Shown). Proper (a_mask_reply (get_or mask 0 0 ∷ get_or mask 1 0 ∷ [])) w (reading_of r)) (first.shows six) o.0 in
            let x = next.seen.into.into in
            record {
              made = (first.made, (made-next m, tt));
              fair = (first.fair, (fair-next, tt));
              holding = record {
                long = holds.long;
                slots = subst (λ (l : List ℕ). Agree l k g)
                    (sym (next-keyed (fate_of (reading_of r)) x.account (reading_of r) (length x.arrived) x.trial (question_in (reading_of r) e))) slots_next;
                unasked = λ n p z. absurd (next-settles x.account (length x.arrived) x.trial e (reading_of r) proper.1 proper.0 n p z);
                right = holds.right;
              };
              application = refl;
              owed = (tt, λ z. absurd (proper.1 r.epoch r.start (asks-mask r z)));
            }

      -- by the key that the host gave
      pub gone : GoesOn (asked_key a u k) r v a u e d → Gone (key_asked g a) (going_on (key_asked g a) c a d r v y e) a r u v e d
      gone m = by_key (key_asked g a) refl (subst (λ (o : Option (List ℕ)). GoesOn o r v a u e d) key_same m)
        where
          by_key : (o : Option (List ℕ)) → key_asked g a ≡ o → GoesOn o r v a u e d → Gone o (going_on o c a d r v y e) a r u v e d
          by_key none q n = by-none q n
          by_key (some key) q n = by-some key q n
