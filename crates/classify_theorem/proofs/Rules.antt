-- What the account owes, as conditions: what lies beyond the close, what marks, what closes, what ends a datagram; and a record that was due is handed on
-- by its type and content, but for the two exceptions of 02, 3. Assumes nothing.
use Rattle.std.specs.Prelude.{Bool, ◌⊎◌, ◌≡◌, ℕ, ◌+◌, ◌≤◌, ◌<◌, ltb, eqb}
use Rattle.std.proofs.Math.Bool.{true, false}
use Rattle.std.proofs.lemmas.Bool.{false≢true}
use mathlib.Core.List.{List, Memᴰ as Mem}
use Rattle.std.proofs.Common.{inl, inr, ⊎_elim, sym, subst, ◌∙◌, arith}
use Rattle.std.proofs.Math.Option.{Option, none, some}
use Rattle.std.proofs.Math.Path.{refl, ap}
use borrow.Author.Tests.{ltb-true, ltb-false, eqb-true, eqb-false, lt-ltb, le-ltb, eq-eqb, ne_eqb}
use Rattle.std.proofs.Math.ListN.{length, get_or}
use Rattle.base.specs.Choose.{choose, by_test, if_true, if_false, test_cases, both_true, both_false, both_left, both_right, either_true, either-false}
use Rattle.datagram.specs.declared.Reading.TheVariants as says
use Rattle.datagram.specs.declared.Reading.{Reading}
use Rattle.history_theorem.specs.Claim.{Due, SaysOpened, as_handed, Received}
use Rattle.history_theorem.proofs.Lists.{some≢none}
use Rattle.history_theorem.specs.Receiver.{Sealed, Handed, Tried, Inbound}
use Rattle.classify_theorem.specs.Account.{alert_type, ack_type, close_notify, user_canceled, Pending, Place, Verdict, turned, noneWaits, beyond, unprotected, ignored, marks, closes, tells, handshake, application_data, other, unopened, is_past, first_only, alert_owed, type_owed, sealed_owed, is_dropped, plain_owed, place_of, kind_owed, reading_owed, Reply}
use Rattle.classify_theorem.specs.Claim.{Dealt, Dealings, is_reading, Is, Kept, was-dealt, was-missed, still-waits, Classified}
use Rattle.classify_theorem.specs.Rules.{Delivered, Handled, delivered, left-behind, waits}

-- ---- beyond the close

-- a later epoch than the close's, or its epoch and a higher number
abbrev pub Past : Option Place → Place → Type 0
Past none p = ⊥
Past (some c) p = (c.epoch < p.epoch) ⊎ ((c.epoch ≡ p.epoch) × (c.number < p.number))

pub past : (o : Option Place) (p : Place) → is_past o p ≡ true → Past o p
unfolding is_past
past none p e = absurd (false≢true e)
past (some c) p e =
    test_cases (ltb c.epoch p.epoch) (λ t. inl (ltb-true _ _ t))
    (λ t. let z = sym (either-false t) ∙ e in inr (eqb-true _ _ (both_left _ _ z), ltb-true _ _ (both_right _ _ z)))

pub is-past : (o : Option Place) (p : Place) → Past o p → is_past o p ≡ true
unfolding is_past
is-past none p h = absurd h
is-past (some c) p h =
    ⊎_elim (λ l. either_true _ (lt-ltb _ _ l))
    (λ (l : (c.epoch ≡ p.epoch) × (c.number < p.number)).
    let e = l.0 in
    either-false (le-ltb c.epoch p.epoch (omega (arith, e))) ∙ both_true (eq-eqb _ _ l.0) ∙ lt-ltb _ _ l.1) h

pub not_past : (o : Option Place) (p : Place) → (Past o p → ⊥) → is_past o p ≡ false
not_past o p h = test_cases (is_past o p) (λ e. absurd (h (past o p e))) (λ e. e)

-- at the close itself nothing is past it
pub at-close : (c : Place) → Past (some c) c → ⊥
at-close c h = ⊎_elim (λ l. omega arith) (λ (l : (c.epoch ≡ c.epoch) × (c.number < c.number)). let k = l.1 in omega arith) h

opened-owed : (close : Option Place) (on : Bool) (r : Reading) (c : List ℕ) (e : ℕ) (h : Handed) → SaysOpened r c e h
    → (reading_owed close on r c ≡ choose (is_past close (record { epoch = e; number = h.num })) beyond (sealed_owed close h.type h.content))
    × (c ≡ h.content)
unfolding reading_owed
opened-owed close on (says.Opened k n t s l) c e h q =
    let z = q.1 in (
      ap (λ (x : ℕ). choose (is_past close (record { epoch = x; number = n })) beyond (sealed_owed close t c)) q.0
          ∙ ap (λ (x : Handed). choose (is_past close (record { epoch = e; number = x.num })) beyond (sealed_owed close x.type x.content)) z,
      ap (λ (x : Handed). x.content) z,
    )
opened-owed close on says.Setting c e h q = absurd q
opened-owed close on says.Reply c e h q = absurd q
opened-owed close on says.End c e h q = absurd q
opened-owed close on says.Incomplete c e h q = absurd q
opened-owed close on says.TooMany c e h q = absurd q
opened-owed close on (says.Dropped x) c e h q = absurd q
opened-owed close on (says.Plaintext t n s l) c e h q = absurd q
opened-owed close on (says.Unopened b n s l) c e h q = absurd q
opened-owed close on (says.Mask k s) c e h q = absurd q
opened-owed close on (says.Opening k n s g l) c e h q = absurd q

opened-reads : (r : Reading) (c : List ℕ) (e : ℕ) (h : Handed) → SaysOpened r c e h → is_reading r ≡ true
opened-reads (says.Opened k n t s l) c e h q = refl
opened-reads says.Setting c e h q = absurd q
opened-reads says.Reply c e h q = absurd q
opened-reads says.End c e h q = absurd q
opened-reads says.Incomplete c e h q = absurd q
opened-reads says.TooMany c e h q = absurd q
opened-reads (says.Dropped x) c e h q = absurd q
opened-reads (says.Plaintext t n s l) c e h q = absurd q
opened-reads (says.Unopened b n s l) c e h q = absurd q
opened-reads (says.Mask k s) c e h q = absurd q
opened-reads (says.Opening k n s g l) c e h q = absurd q

module _ (p : Dealings) (sealed : ℕ → List Sealed) (i : Inbound) (e : ℕ) (c : Classified p i.into) (g : Received sealed i e) where
  says_so : (d : Tried) (x : Pending) → Is d x → (h : Handed) → SaysOpened d.reading d.shown e h → SaysOpened x.reading x.shown e h
  says_so d x s h q = subst (λ (l : List ℕ). SaysOpened x.reading l e h) s.shown (subst (λ (r : Reading). SaysOpened r d.shown e h) s.reading q)

  as_due : (x : Dealt) → Mem x p.dealt → (r : Sealed) → SaysOpened x.pending.reading x.pending.shown e (as_handed r) → Delivered x e r
  as_due x m r q =
      let o = opened-owed x.close x.encryption x.pending.reading x.pending.shown e (as_handed r) q in
      let z = c.right x m in
      record { reading = q; verdict = ap (λ (v : Reply). v.verdict) z ∙ o.0; content = ap (λ (v : Reply). v.content) z ∙ o.1 }

  -- a record that was due is told as what it is unless its place is beyond the first close (`due_owed`); one behind an alert that ended its datagram was
  -- not reached, and so not due; there is no third way
  pub handed-on : (d : Tried) → Mem d i.into.tried → (r : Sealed) → Due d.trial e r → Handled p e r
  handed-on d m r due =
      let q = g.due-opened d m r due in
      by (c.none-lost d m (opened-reads d.reading d.shown e (as_handed r) q)) q
    where
      by : Kept p d → SaysOpened d.reading d.shown e (as_handed r) → Handled p e r
      by (was-dealt x n s) q = delivered x n (as_due x n r (says_so d x.pending s (as_handed r) q))
      by (was-missed x n s) q = left-behind x n (says_so d x s (as_handed r) q)
      by (still-waits x f s) q = waits x f (says_so d x s (as_handed r) q)

-- ---- what marks, what closes, what ends a datagram

abbrev is_marks : Verdict → Bool
is_marks marks = true
is_marks (turned n) = false
is_marks noneWaits = false
is_marks beyond = false
is_marks unprotected = false
is_marks ignored = false
is_marks closes = false
is_marks (tells x) = false
is_marks handshake = false
is_marks application_data = false
is_marks other = false
is_marks unopened = false

-- what only an alert is owed: a close, and each description that is told
abbrev alert_code : Verdict → ℕ
alert_code closes = 1
alert_code (tells x) = 2 + x
alert_code (turned n) = 0
alert_code noneWaits = 0
alert_code beyond = 0
alert_code unprotected = 0
alert_code ignored = 0
alert_code marks = 0
alert_code handshake = 0
alert_code application_data = 0
alert_code other = 0
alert_code unopened = 0

-- a verdict that another test tells apart proves anything
apart : {A : Type 0} {x : Bool} → x ≡ true → x ≡ false → A
apart e f = absurd (false≢true (sym f ∙ e))

module _ (close : Option Place) (c : List ℕ) where
  abbrev no_marks : Verdict → Type 0
  no_marks v = is_marks v ≡ false

  alert-marks : no_marks (alert_owed close c)
  unfolding alert_owed
  alert-marks =
      by_test no_marks (λ t. refl) (λ t. by_test no_marks (λ u. first close) (λ u. by_test no_marks (λ v. refl) (λ v. refl)))
    where
      first : (o : Option Place) → no_marks (first_only o)
      first none = refl
      first (some p) = refl

  type-marks : (t : ℕ) → no_marks (type_owed close t c)
  unfolding type_owed
  type-marks t =
      by_test no_marks (λ a. alert-marks)
      (λ a. by_test no_marks (λ b. refl) (λ b. by_test no_marks (λ e. refl) (λ e. by_test no_marks (λ f. refl) (λ f. refl))))

  plain-marks : (on : Bool) (t : ℕ) → no_marks (plain_owed close on t c)
  unfolding plain_owed
  plain-marks on t = by_test no_marks (λ a. refl) (λ a. by_test no_marks (λ b. refl) (λ b. type-marks t))

  -- "ACKs mark the flight", "A plaintext ACK never marks anything": what marks is a sealed ACK that is not past the close, and each of these does
  abbrev pub SealedAck : Reading → Type 0
  SealedAck (says.Opened e n t s l) = (t ≡ ack_type) × (Past close (record { epoch = e; number = n }) → ⊥)
  SealedAck (says.Plaintext t n s l) = ⊥
  SealedAck (says.Unopened b n s l) = ⊥
  SealedAck says.Setting = ⊥
  SealedAck says.Reply = ⊥
  SealedAck says.End = ⊥
  SealedAck says.Incomplete = ⊥
  SealedAck says.TooMany = ⊥
  SealedAck (says.Dropped r) = ⊥
  SealedAck (says.Mask e s) = ⊥
  SealedAck (says.Opening e n s h l) = ⊥

  -- a verdict that marks is not of a reading that never does
  never-marks : (t : Bool) (v : Verdict) → no_marks v → choose t beyond v ≡ marks → ⊥
  never-marks t v k e = false≢true (sym (by_test no_marks {t = t} {x = beyond} {y = v} (λ z. refl) (λ z. k)) ∙ ap is_marks e)

  pub only-sealed_acks : (on : Bool) (r : Reading) → reading_owed close on r c ≡ marks → SealedAck r
  unfolding reading_owed sealed_owed
  only-sealed_acks on (says.Opened k n t s l) e =
      let p : Place = record { epoch = k; number = n } in
      test_cases (is_past close p)
      (λ z. apart (ap is_marks e) (ap is_marks (if_true beyond _ z)))
      (λ z. test_cases (eqb t ack_type) (λ u. (eqb-true _ _ u, λ h. apart (is-past close p h) z))
      (λ u. apart (ap is_marks e) (ap is_marks (if_false beyond _ z ∙ if_false marks _ u) ∙ type-marks t)))
  only-sealed_acks on (says.Plaintext t n s l) e = never-marks _ _ (plain-marks on t) e
  only-sealed_acks on (says.Unopened b n s l) e = never-marks _ _ refl e
  only-sealed_acks on says.Setting e = never-marks _ _ refl e
  only-sealed_acks on says.Reply e = never-marks _ _ refl e
  only-sealed_acks on says.End e = never-marks _ _ refl e
  only-sealed_acks on says.Incomplete e = never-marks _ _ refl e
  only-sealed_acks on says.TooMany e = never-marks _ _ refl e
  only-sealed_acks on (says.Dropped r) e = never-marks _ _ refl e
  only-sealed_acks on (says.Mask k s) e = never-marks _ _ refl e
  only-sealed_acks on (says.Opening k n s h l) e = never-marks _ _ refl e

  pub sealed_acks_mark : (on : Bool) (r : Reading) → SealedAck r → reading_owed close on r c ≡ marks
  unfolding reading_owed sealed_owed
  sealed_acks_mark on (says.Opened k n t s l) h = if_false _ _ (not_past close _ h.1) ∙ if_true _ _ (eq-eqb _ _ h.0)
  sealed_acks_mark on (says.Plaintext t n s l) h = absurd h
  sealed_acks_mark on (says.Unopened b n s l) h = absurd h
  sealed_acks_mark on says.Setting h = absurd h
  sealed_acks_mark on says.Reply h = absurd h
  sealed_acks_mark on says.End h = absurd h
  sealed_acks_mark on says.Incomplete h = absurd h
  sealed_acks_mark on says.TooMany h = absurd h
  sealed_acks_mark on (says.Dropped r) h = absurd h
  sealed_acks_mark on (says.Mask k s) h = absurd h
  sealed_acks_mark on (says.Opening k n s g l) h = absurd h

  -- "another description is told to the host": the second byte of an alert of two bytes or more, neither 0 nor 90
  pub record Tells (x : ℕ) : Type 0 where
    pub long : 2 ≤ length c
    pub second : x ≡ get_or c 1 0
    pub no_close : x ≡ close_notify → ⊥
    pub no_cancel : x ≡ user_canceled → ⊥

  abbrev Told : ℕ → Verdict → Type 0
  Told x v = alert_code v ≡ 2 + x → Tells x

  alert-tells : (x : ℕ) → Told x (alert_owed close c)
  unfolding alert_owed
  alert-tells x =
      by_test (Told x) (λ t e. absurd (omega arith))
      (λ t. by_test (Told x) (λ u. first close)
      (λ u. by_test (Told x) (λ v e. absurd (omega arith))
      (λ v e.
      let q : x ≡ get_or c 1 0 = omega (arith, e) in
      record { long = ltb-false _ _ t; second = q; no_close = λ z. eqb-false _ _ u (sym q ∙ z); no_cancel = λ z. eqb-false _ _ v (sym q ∙ z) })))
    where
      first : (o : Option Place) → Told x (first_only o)
      first none e = absurd (omega arith)
      first (some p) e = absurd (omega arith)

  -- "the first alert 0": two bytes or more, the second 0, and no close remembered
  pub record ClosesBy : Type 0 where
    pub first : close ≡ none
    pub long : 2 ≤ length c
    pub second : get_or c 1 0 ≡ close_notify

  abbrev Closing : Verdict → Type 0
  Closing v = alert_code v ≡ 1 → ClosesBy

  alert-closing : Closing (alert_owed close c)
  unfolding alert_owed
  alert-closing =
      by_test Closing (λ t e. absurd (omega arith))
      (λ t. by_test Closing (λ u. by_first close refl (ltb-false _ _ t) (eqb-true _ _ u))
      (λ u. by_test Closing (λ v e. absurd (omega arith)) (λ v e. absurd (omega arith))))
    where
      by_first : (o : Option Place) → close ≡ o → 2 ≤ length c → get_or c 1 0 ≡ close_notify → Closing (first_only o)
      by_first none e l z f = record { first = e; long = l; second = z }
      by_first (some p) e l z f = absurd (omega arith)

  -- of a sealed record, or in plaintext before encryption
  abbrev pub AlertRead : Bool → Reading → Type 0
  AlertRead on (says.Opened k n t s l) = t ≡ alert_type
  AlertRead on (says.Plaintext t n s l) = (t ≡ alert_type) × (on ≡ false)
  AlertRead on (says.Unopened b n s l) = ⊥
  AlertRead on says.Setting = ⊥
  AlertRead on says.Reply = ⊥
  AlertRead on says.End = ⊥
  AlertRead on says.Incomplete = ⊥
  AlertRead on says.TooMany = ⊥
  AlertRead on (says.Dropped r) = ⊥
  AlertRead on (says.Mask k s) = ⊥
  AlertRead on (says.Opening k n s h l) = ⊥

  -- an alert that is not dropped in plaintext came before encryption
  before_on : (on : Bool) (t : ℕ) → t ≡ alert_type → is_dropped on t ≡ false → on ≡ false
  unfolding is_dropped
  before_on true t e f = apart (both_true refl ∙ either_true _ (eq-eqb _ _ e)) f
  before_on false t e f = refl

  -- of such a verdict: it is an alert's, and what the alert's content is owed
  abbrev ByAlert : Type 0 → Verdict → Type 0
  ByAlert T v = 1 ≤ alert_code v → T × (v ≡ alert_owed close c)

  type-by-alert : (t : ℕ) → ByAlert (t ≡ alert_type) (type_owed close t c)
  unfolding type_owed
  type-by-alert t =
      let P : Verdict → Type 0 = ByAlert (t ≡ alert_type) in
      by_test P (λ a e. (eqb-true _ _ a, refl))
      (λ a. by_test P (λ b e. absurd (omega arith))
      (λ b. by_test P (λ d e. absurd (omega arith)) (λ d. by_test P (λ f e. absurd (omega arith)) (λ f e. absurd (omega arith)))))

  kind-by-alert : (on : Bool) (r : Reading) → ByAlert (AlertRead on r) (kind_owed close on r c)
  unfolding plain_owed sealed_owed
  kind-by-alert on (says.Opened k n t s l) = by_test (ByAlert (t ≡ alert_type)) (λ a e. absurd (omega arith)) (λ a. type-by-alert t)
  kind-by-alert on (says.Plaintext t n s l) =
      let P : Verdict → Type 0 = ByAlert ((t ≡ alert_type) × (on ≡ false)) in
      by_test P (λ a e. absurd (omega arith))
      (λ a. by_test P (λ b e. absurd (omega arith)) (λ b e. let q = type-by-alert t e in ((q.0, before_on on t q.0 a), q.1)))
  kind-by-alert on (says.Unopened b n s l) = λ e. absurd (omega arith)
  kind-by-alert on says.Setting = λ e. absurd (omega arith)
  kind-by-alert on says.Reply = λ e. absurd (omega arith)
  kind-by-alert on says.End = λ e. absurd (omega arith)
  kind-by-alert on says.Incomplete = λ e. absurd (omega arith)
  kind-by-alert on says.TooMany = λ e. absurd (omega arith)
  kind-by-alert on (says.Dropped r) = λ e. absurd (omega arith)
  kind-by-alert on (says.Mask k s) = λ e. absurd (omega arith)
  kind-by-alert on (says.Opening k n s h l) = λ e. absurd (omega arith)

  by-alert : (on : Bool) (r : Reading) → ByAlert (AlertRead on r) (reading_owed close on r c)
  unfolding reading_owed
  by-alert on r =
      by_test (ByAlert (AlertRead on r)) {t = is_past close (place_of r)} {x = beyond} {y = kind_owed close on r c} (λ t e. absurd (omega arith))
      (λ t. kind-by-alert on r)

  pub only_alerts : (on : Bool) (r : Reading) (x : ℕ) → reading_owed close on r c ≡ tells x → AlertRead on r × Tells x
  only_alerts on r x e =
      let k = ap alert_code e in
      let q = by-alert on r (omega (arith, k)) in
      (q.0, alert-tells x (ap alert_code (sym q.1 ∙ e)))

  -- and nothing else closes
  pub only-closes : (on : Bool) (r : Reading) → reading_owed close on r c ≡ closes → AlertRead on r × ClosesBy
  only-closes on r e =
      let k = ap alert_code e in
      let q = by-alert on r (omega (arith, k)) in
      (q.0, alert-closing (ap alert_code (sym q.1 ∙ e)))

  -- and each of these is told
  alert-told : (x : ℕ) → Tells x → alert_owed close c ≡ tells x
  unfolding alert_owed
  alert-told x h =
      let q : x ≡ get_or c 1 0 = h.second in
      if_false _ _ (le-ltb _ _ h.long) ∙ if_false _ _ (ne_eqb _ _ (λ e. h.no_close (q ∙ e)))
      ∙ if_false _ _ (ne_eqb _ _ (λ e. h.no_cancel (q ∙ e))) ∙ ap tells (sym q)

  no_ack : (t : ℕ) → t ≡ alert_type → eqb t ack_type ≡ false
  no_ack t e = ne_eqb t ack_type (λ z. omega (arith, e, z))

  an_alert : (t : ℕ) (v : Verdict) → t ≡ alert_type → alert_owed close c ≡ v → type_owed close t c ≡ v
  unfolding type_owed
  an_alert t v e q = if_true _ _ (eq-eqb _ _ e) ∙ q

  kept : (on : Bool) (t : ℕ) → on ≡ false → is_dropped on t ≡ false
  unfolding is_dropped
  kept on t e = both_false _ e

  -- an alert that is not past the close is owed what its content says
  alert-owed : (on : Bool) (r : Reading) (v : Verdict) → AlertRead on r → (Past close (place_of r) → ⊥) → alert_owed close c ≡ v → reading_owed close on r c ≡ v
  unfolding reading_owed sealed_owed plain_owed
  alert-owed on (says.Opened k n t s l) v a h q = if_false _ _ (not_past close _ h) ∙ if_false _ _ (no_ack t a) ∙ an_alert t v a q
  alert-owed on (says.Plaintext t n s l) v a h q =
      if_false _ _ (not_past close _ h) ∙ if_false _ _ (kept on t a.1) ∙ if_false _ _ (no_ack t a.0) ∙ an_alert t v a.0 q
  alert-owed on (says.Unopened b n s l) v a h q = absurd a
  alert-owed on says.Setting v a h q = absurd a
  alert-owed on says.Reply v a h q = absurd a
  alert-owed on says.End v a h q = absurd a
  alert-owed on says.Incomplete v a h q = absurd a
  alert-owed on says.TooMany v a h q = absurd a
  alert-owed on (says.Dropped x) v a h q = absurd a
  alert-owed on (says.Mask k s) v a h q = absurd a
  alert-owed on (says.Opening k n s g l) v a h q = absurd a

  pub alerts_told : (on : Bool) (r : Reading) (x : ℕ) → AlertRead on r → Tells x → (Past close (place_of r) → ⊥) → reading_owed close on r c ≡ tells x
  alerts_told on r x a t h = alert-owed on r (tells x) a h (alert-told x t)

  -- and each first alert 0 closes
  alert-closes : 2 ≤ length c → get_or c 1 0 ≡ close_notify → alert_owed close c ≡ first_only close
  unfolding alert_owed
  alert-closes l z = if_false _ _ (le-ltb _ _ l) ∙ if_true _ _ (eq-eqb _ _ z)

  pub first-closes : (on : Bool) (r : Reading) → close ≡ none → AlertRead on r → 2 ≤ length c → get_or c 1 0 ≡ close_notify → reading_owed close on r c ≡ closes
  first-closes on r e a l z =
      alert-owed on r closes a (λ p. subst (λ (o : Option Place). Past o (place_of r)) e p) (alert-closes l z ∙ ap first_only e)

-- "the first alert 0 remembers its place": a close once remembered is not moved
pub one-close : (p : Place) (c : List ℕ) (on : Bool) (r : Reading) → reading_owed (some p) on r c ≡ closes → ⊥
one-close p c on r e = some≢none (only-closes (some p) c on r e).1.first
