-- What the program makes of the words is what the account owes. Assumes nothing.
use Rattle.std.specs.Prelude.{Bool, true, false, List, ◌≡◌, ℕ, ltb, eqb}
use Rattle.std.proofs.Math.Option.{Option, none, some}
use Rattle.std.proofs.Math.Path.{refl, ap}
use Rattle.std.proofs.Common.{sym, ◌∙◌, arith, eqb-true, eq-eqb, ne_eqb, le-ltb}
use Rattle.base.specs.Choose.{choose, both, either, by_test, if_true, if_false, test_cases, both_true, both_false, either_true, either-false}
use Rattle.datagram.specs.declared.Reading.TheVariants as says
use Rattle.datagram.specs.declared.Reading.{Reading}
use Rattle.classify.specs.Classify as program
use Rattle.classify.specs.Classify.{epoch_of, number_of, closed_of, plaintext-kind, unopened-kind, opened-kind, is_after, is_beyond, is_guarded, alert_as, by_type, class_of}
use Rattle.classify.specs.declared.Class.{Class}
use Rattle.classify.specs.declared.Class.TheVariants as class
use Rattle.history_theorem.proofs.Lists.{by_both}
use Rattle.classify_theorem.specs.Account.{Place, Verdict, is_past, first_only, alert_owed, type_owed, sealed_owed, is_dropped, plain_owed, reading_owed}
use Rattle.classify_theorem.specs.Claim.{verdict_of}
use Rattle.classify_theorem.proofs.Words.{Holds, Says, Closes}

-- ---- beyond the close

-- epoch, then number
after-past : (c p : Place) → is_after c.epoch c.number p.epoch p.number ≡ is_past (some c) p
unfolding is_after is_past
after-past c p =
    by_test (λ (b : Bool). b ≡ either (ltb c.epoch p.epoch) (both (eqb c.epoch p.epoch) (ltb c.number p.number)))
    (λ e. sym (either-false (le-ltb c.epoch p.epoch (omega (arith, eqb-true c.epoch p.epoch e))) ∙ both_true e))
    (λ e. test_cases (ltb c.epoch p.epoch) (λ t. t ∙ sym (either_true _ t)) (λ t. t ∙ sym (either-false t ∙ both_false _ e)))

beyond-is : (w : List ℕ) (close : Option Place) (p : Place) → Closes w close → epoch_of w ≡ p.epoch → number_of w ≡ p.number → is_beyond w ≡ is_past close p
unfolding is_beyond is_past
beyond-is w none p h e n = both_false _ (ne_eqb (closed_of w) 1 (λ z. omega (arith, z, h)))
beyond-is w (some c) p h e n = both_true (eq-eqb _ _ h.0) ∙ rw (h.1, h.2, e, n) (after-past c p)

-- whether a close is remembered
abbrev is_some : Option Place → Bool
is_some none = false
is_some (some c) = true

closed_is : (w : List ℕ) (close : Option Place) → Closes w close → eqb (closed_of w) 1 ≡ is_some close
closed_is w none h = ne_eqb (closed_of w) 1 (λ z. omega (arith, z, h))
closed_is w (some c) h = eq-eqb _ _ h.0

-- ---- by type and content

abbrev Agrees : Class → Verdict → Type 0
Agrees k v = verdict_of k ≡ v

first-is : (close : Option Place) → verdict_of (choose (is_some close) class.Ignored class.Close) ≡ first_only close
unfolding choose
first-is none = refl
first-is (some c) = refl

alert-is : (close : Option Place) (c : List ℕ) → verdict_of (alert_as (is_some close) c) ≡ alert_owed close c
unfolding alert_as alert_owed
alert-is close c =
    by_both Agrees refl (λ t. refl) (λ t. by_both Agrees refl (λ u. first-is close) (λ u. by_both Agrees refl (λ v. refl) (λ v. refl)))

-- what is no ACK
rest-is : (close : Option Place) (t : ℕ) (c : List ℕ)
    → Agrees (choose (eqb t program.alert) (alert_as (is_some close) c)
    (choose (eqb t program.handshake) class.Handshake
    (choose (eqb t program.application-data) class.ApplicationData (choose (eqb t program.change-cipher-spec) class.Ignored class.Other)))) (type_owed close t c)
unfolding type_owed
rest-is close t c =
    by_both Agrees refl (λ a. alert-is close c)
    (λ a. by_both Agrees refl (λ b. refl) (λ b. by_both Agrees refl (λ e. refl) (λ e. by_both Agrees refl (λ f. refl) (λ f. refl))))

sealed-is : (close : Option Place) (t : ℕ) (c : List ℕ) → verdict_of (by_type false (is_some close) t c) ≡ sealed_owed close t c
unfolding by_type sealed_owed
sealed-is close t c = by_both Agrees refl (λ a. ap verdict_of (if_false _ _ refl)) (λ a. rest-is close t c)

plain-is : (close : Option Place) (on : Bool) (t : ℕ) (c : List ℕ)
    → verdict_of (choose (both on (is_guarded t)) class.Unprotected (by_type true (is_some close) t c)) ≡ plain_owed close on t c
unfolding is_guarded is_dropped by_type plain_owed
plain-is close on t c =
    by_both Agrees refl (λ a. refl) (λ a. by_both Agrees refl (λ b. ap verdict_of (if_true _ _ refl)) (λ b. rest-is close t c))

-- ---- the reading that waits

module _ (w : List ℕ) (close : Option Place) (on : Bool) (c : List ℕ) (h : Closes w close) where
  -- the tests by the words' own fields
  abbrev by_fields : Bool → ℕ → Bool → ℕ → Class
  by_fields past kind closed t =
      choose past class.Beyond
      (choose (both (eqb kind plaintext-kind) (both on (is_guarded t))) class.Unprotected
      (choose (eqb kind unopened-kind) class.Unopened (by_type (eqb kind plaintext-kind) closed t c)))

  class_by : (k t e n s l : ℕ) → Holds k t e n s l w → class_of w on c ≡ by_fields (is_past close (record { epoch = e; number = n })) k (is_some close) t
  unfolding class_of
  class_by k t e n s l q =
      rw (beyond-is w close (record { epoch = e; number = n }) h q.epoch q.number, q.kind, closed_is w close h, q.type) refl

  -- the tests that the kind decides
  plain_fields : (past : Bool) (t : ℕ) → by_fields past plaintext-kind (is_some close) t
      ≡ choose past class.Beyond (choose (both on (is_guarded t)) class.Unprotected (by_type true (is_some close) t c))
  unfolding both choose
  plain_fields past t = refl

  unopened_fields : (past : Bool) → by_fields past unopened-kind (is_some close) 0 ≡ choose past class.Beyond class.Unopened
  unfolding both choose
  unopened_fields past = refl

  opened_fields : (past : Bool) (t : ℕ) → by_fields past opened-kind (is_some close) t ≡ choose past class.Beyond (by_type false (is_some close) t c)
  unfolding both choose
  opened_fields past t = refl

  pub reading-is : (r : Reading) → Says r w → verdict_of (class_of w on c) ≡ reading_owed close on r c
  unfolding reading_owed
  reading-is (says.Plaintext t n s l) q = ap verdict_of (class_by _ _ _ _ _ _ q ∙ plain_fields _ t) ∙ by_both Agrees refl (λ a. refl) (λ a. plain-is close on t c)
  reading-is (says.Unopened b n s l) q = ap verdict_of (class_by _ _ _ _ _ _ q ∙ unopened_fields _) ∙ by_both Agrees refl (λ a. refl) (λ a. refl)
  reading-is (says.Opened e n t s l) q = ap verdict_of (class_by _ _ _ _ _ _ q ∙ opened_fields _ t) ∙ by_both Agrees refl (λ a. refl) (λ a. sealed-is close t c)
  reading-is says.Setting q = absurd q
  reading-is says.Reply q = absurd q
  reading-is says.End q = absurd q
  reading-is says.Incomplete q = absurd q
  reading-is says.TooMany q = absurd q
  reading-is (says.Dropped r) q = absurd q
  reading-is (says.Mask e s) q = absurd q
  reading-is (says.Opening e n s g l) q = absurd q
