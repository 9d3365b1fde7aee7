-- What the tests of a flight to be sent again tell, record by record: each may be sent, and queue and numbers reach for all. Assumes nothing.
use Rattle.std.specs.Prelude.{Bool, false, List, ◌≡◌, refl, ℕ, zero, suc, ◌+◌, ◌*◌, ◌≤◌, ◌<◌, leb, eqb, length}
use Rattle.std.proofs.Math.Bool.{true}
use Rattle.std.proofs.lemmas.Bool.{false≢true, eqb-false}
use Rattle.std.proofs.Math.Path.{sym}
use Rattle.std.proofs.Common.{ap, subst, ◌∙◌, arith, ltb-false, leb-true, eqb-true, eq-eqb, ne_eqb}
use Rattle.base.specs.Choose.{choose, both, by_test, test_cases, if_true, if_false, both_left, both_right, either-false}
use Rattle.queue.specs.declared.Tail.{Tail}
use Rattle.queue.specs.declared.Place.{Place}
use Rattle.queue.specs.Queue.{tail_of, place_of, grown, Ready, ready}
use Rattle.send_keys.specs.declared.SendKeys.{SendKeys}
use Rattle.send_keys.specs.Keys.{is_usable, is_keyed, next_of, used, used-next}
use Rattle.outgoing.specs.declared.Sending.{Sending}
use Rattle.outgoing.specs.State.{is_allowed}
use Rattle.flight.specs.declared.Entry.{Entry}
use Rattle.flight.specs.declared.Flight.{Flight}
use Rattle.flight.specs.Flight.{is_kept, entry_at}
use Rattle.resend.specs.Tests.{has_room, passes, joined, tail_after, count_after, is_over, is_spent, any_spent, closed_state, fit_answer, resend_answer, pass_at, tail-next, count_next}
use Rattle.send_keys.specs.Answer.{SendAnswer, is_done}

-- ---- what the tests found

pub record Able (s : Sending) (f : Flight) (kept q : List ℕ) : Type 0 where
  pub ready : Ready s.queue (length q)
  pub few : f.saved ≤ 12
  pub space : 12 * s.queue.mtu ≤ length kept
  pub usable : (i : ℕ) → i < f.saved → (entry_at f i).marked ≡ false → is_usable s.keys (entry_at f i).epoch ≡ true
  pub allowed : (i : ℕ) → i < f.saved → (entry_at f i).marked ≡ false
      → is_allowed s.queue.mtu (entry_at f i).epoch (entry_at f i).content_type (entry_at f i).length ≡ true
  pub keyed : (i : ℕ) → i < f.saved → (entry_at f i).marked ≡ false → is_keyed s.keys (entry_at f i).epoch ≡ true
  pub room : (i : ℕ) → i < f.saved → (entry_at f i).marked ≡ false → has_room (entry_at f i) ≡ true
  pub reach : (tail_after s.queue.mtu (tail_of (closed_state s).queue) f f.saved).count ≤ s.queue.limit
  pub unspent : any_spent s.keys f ≡ false

module _ (k : SendKeys) (mtu : ℕ) (e : Entry) (m : e.marked ≡ false) where
  pass_usable : passes 0 k mtu e ≡ true → is_usable k e.epoch ≡ true
  unfolding passes choose
  pass_usable p = rw m at p

  pass_allowed : passes 1 k mtu e ≡ true → is_allowed mtu e.epoch e.content_type e.length ≡ true
  unfolding passes choose
  pass_allowed p = rw m at p

  pass_keyed : passes 2 k mtu e ≡ true → is_keyed k e.epoch ≡ true
  unfolding passes choose
  pass_keyed p = rw m at p

  pass_room : passes 3 k mtu e ≡ true → has_room e ≡ true
  unfolding passes choose
  pass_room p = sym (if_false true (has_room e) m) ∙ p

pub able : (s : Sending) (f : Flight) (kept q : List ℕ) → is_done (resend_answer s f (length q) (length kept)) ≡ true → Able s f kept q
unfolding resend_answer fit_answer is_kept closed_state
able s f kept q =
    let P : SendAnswer → Type 0 = λ a. is_done a ≡ true → Able s f kept q in
    let k : SendKeys = s.keys in
    let mtu : ℕ = s.queue.mtu in
    by_test P
    (λ r. by_test P
    (λ h. by_test P
    (λ a. by_test P
    (λ b. by_test P
    (λ c. by_test P
    (λ d. by_test P
    (λ u z. absurd (false≢true z))
    (λ u. by_test P
    (λ v z. absurd (false≢true z))
    (λ v z. record {
      ready = ready r;
      few = leb-true f.saved 12 (both_left _ _ h);
      space = leb-true (12 * mtu) (length kept) (both_right (leb f.saved 12) _ h);
      usable = λ i l m. pass_usable k mtu (entry_at f i) m (pass_at 0 k mtu f f.saved i a l);
      allowed = λ i l m. pass_allowed k mtu (entry_at f i) m (pass_at 1 k mtu f f.saved i b l);
      keyed = λ i l m. pass_keyed k mtu (entry_at f i) m (pass_at 2 k mtu f f.saved i c l);
      room = λ i l m. pass_room k mtu (entry_at f i) m (pass_at 3 k mtu f f.saved i d l);
      reach = ltb-false s.queue.limit _ u;
      unspent = v;
    })))
    (λ d z. absurd (false≢true z)))
    (λ c z. absurd (false≢true z)))
    (λ b z. absurd (false≢true z)))
    (λ a z. absurd (false≢true z)))
    (λ h z. absurd (false≢true z)))
    (λ r z. absurd (false≢true z))

-- ---- the queue's end and the numbers only grow

joined-count : (mtu : ℕ) (t : Tail) (e : Entry) → t.count ≤ (joined mtu t e).count
unfolding joined grown place_of
joined-count mtu t e =
    by_test (λ (x : Tail). t.count ≤ x.count) (λ m. omega arith)
    (λ m. by_test (λ (p : Place). t.count ≤ p.datagram + 1) (λ j. omega arith) (λ j. omega arith))

pub tail-grows : (mtu : ℕ) (t : Tail) (f : Flight) (i n : ℕ) → i ≤ n → (tail_after mtu t f i).count ≤ (tail_after mtu t f n).count
tail-grows mtu t f i zero h = let z : i ≡ 0 = omega arith in rw z (omega arith)
tail-grows mtu t f i (suc n) h =
    test_cases (eqb i (suc n)) (λ e. subst (λ (j : ℕ). (tail_after mtu t f i).count ≤ (tail_after mtu t f j).count) (eqb-true i (suc n) e) (omega arith))
    (λ e. let z = eqb-false i (suc n) e in
    let one : tail_after mtu t f (suc n) ≡ joined mtu (tail_after mtu t f n) (entry_at f n) = tail_at mtu t f n in
    omega (arith, tail-grows mtu t f i n (omega arith), joined-count mtu (tail_after mtu t f n) (entry_at f n), ap (λ (x : Tail). x.count) one))
  where
    tail_at : (mtu : ℕ) (t : Tail) (f : Flight) (n : ℕ) → tail_after mtu t f (suc n) ≡ joined mtu (tail_after mtu t f n) (entry_at f n)
    tail_at mtu t f n = ap (tail_after mtu t f) (omega arith) ∙ tail-next mtu t f n

-- one more under an epoch
abbrev pub one_in : Entry → ℕ → ℕ
one_in e epoch = choose e.marked 0 (choose (eqb e.epoch epoch) 1 0)

pub count-grows : (f : Flight) (epoch i n : ℕ) → i ≤ n → count_after f epoch i ≤ count_after f epoch n
count-grows f epoch i zero h = let z : i ≡ 0 = omega arith in rw z (omega arith)
count-grows f epoch i (suc n) h =
    test_cases (eqb i (suc n)) (λ e. subst (λ (j : ℕ). count_after f epoch i ≤ count_after f epoch j) (eqb-true i (suc n) e) (omega arith))
    (λ e. let z = eqb-false i (suc n) e in
    let one : count_after f epoch (suc n) ≡ count_after f epoch n + one_in (entry_at f n) epoch = ap (count_after f epoch) (omega arith) ∙ count_next f epoch n in
    omega (arith, count-grows f epoch i n (omega arith), one))

pub one-marked : (e : Entry) (epoch : ℕ) → e.marked ≡ true → one_in e epoch ≡ 0
one-marked e epoch m = if_true _ _ m

pub one-own : (e : Entry) → e.marked ≡ false → one_in e e.epoch ≡ 1
one-own e m = if_false _ _ m ∙ if_true _ _ (eq-eqb e.epoch e.epoch refl)

-- ---- numbers

under-spent : (next count : ℕ) → is_over next count ≡ false → 0 < count → next + count ≤ 281474976710655
unfolding is_over
under-spent next count =
    by_test (λ (b : Bool). b ≡ false → 0 < count → next + count ≤ 281474976710655)
    (λ e z l. absurd (omega (arith, eqb-true count 0 e)))
    (λ e z l. ltb-false 281474976710655 (next + count) z)

-- a usable epoch is 0, 2 or the application epoch
pub usable-cases : (k : SendKeys) (e : ℕ) → is_usable k e ≡ true → (e ≡ 0 → ⊥) → (e ≡ 2 → ⊥) → e ≡ k.application.epoch
unfolding is_usable
usable-cases k e u z h =
    let v : both (leb 3 e) (eqb e k.application.epoch) ≡ true = sym (either-false (ne_eqb e 0 z) ∙ either-false (ne_eqb e 2 h)) ∙ u in
    eqb-true e k.application.epoch (both_right (leb 3 e) _ v)

-- 20 excluded
pub none-spent : (k : SendKeys) (f : Flight) (e : ℕ) → any_spent k f ≡ false → is_usable k e ≡ true → 0 < count_after f e f.saved → next_of k e + count_after f e f.saved ≤ 281474976710655
unfolding any_spent is_spent
none-spent k f e =
    by_test (λ (b : Bool). b ≡ false → is_usable k e ≡ true → 0 < count_after f e f.saved → next_of k e + count_after f e f.saved ≤ 281474976710655)
    (λ a z. absurd (false≢true (sym z)))
    (λ a. by_test (λ (b : Bool). b ≡ false → is_usable k e ≡ true → 0 < count_after f e f.saved → next_of k e + count_after f e f.saved ≤ 281474976710655)
    (λ b z. absurd (false≢true (sym z)))
    (λ b c u l.
    test_cases (eqb e 0) (λ y. within 0 (eqb-true e 0 y) a l)
    (λ y. test_cases (eqb e 2) (λ x. within 2 (eqb-true e 2 x) b l)
    (λ x. within k.application.epoch (usable-cases k e u (eqb-false e 0 y) (eqb-false e 2 x)) c l))))
  where
    within : (d : ℕ) → e ≡ d → is_over (next_of k d) (count_after f d f.saved) ≡ false → 0 < count_after f e f.saved → next_of k e + count_after f e f.saved ≤ 281474976710655
    within d same z l =
        under-spent (next_of k e) (count_after f e f.saved) (subst (λ (x : ℕ). is_over (next_of k x) (count_after f x f.saved) ≡ false) (sym same) z) l

module _ (k : SendKeys) (e : ℕ) where
  -- a number used changes no epoch
  pub used-epochs : ((used k e).handshake.epoch ≡ k.handshake.epoch) × ((used k e).application.epoch ≡ k.application.epoch)
  unfolding used
  used-epochs =
      let P : SendKeys → Type 0 = λ l. (l.handshake.epoch ≡ k.handshake.epoch) × (l.application.epoch ≡ k.application.epoch) in
      by_test P (λ a. (refl, refl)) (λ a. by_test P (λ b. (refl, refl)) (λ b. (refl, refl)))

  pub used-usable : (d : ℕ) → is_usable (used k e) d ≡ is_usable k d
  unfolding is_usable used choose
  used-usable d = test_cases (eqb e 0) (λ a. rw a) (λ a. test_cases (eqb e 2) (λ b. rw (a, b)) (λ b. rw (a, b)))

  pub used-keyed : (d : ℕ) → is_keyed (used k e) d ≡ is_keyed k d
  unfolding is_keyed used choose
  used-keyed d = test_cases (eqb e 0) (λ a. rw a) (λ a. test_cases (eqb e 2) (λ b. rw (a, b)) (λ b. rw (a, b)))

  -- another epoch's next number stays
  pub used-other : (d : ℕ) → is_usable k e ≡ true → is_usable k d ≡ true → (e ≡ d → ⊥) → next_of (used k e) d ≡ next_of k d
  unfolding next_of used choose
  used-other d u v ne =
      test_cases (eqb e 0)
      (λ a. test_cases (eqb d 0) (λ b. absurd (ne (eqb-true e 0 a ∙ sym (eqb-true d 0 b)))) (λ b. rw (a, b)))
      (λ a. test_cases (eqb e 2)
      (λ c. test_cases (eqb d 0) (λ b. rw (a, c, b)) (λ b. test_cases (eqb d 2) (λ g. absurd (ne (eqb-true e 2 c ∙ sym (eqb-true d 2 g)))) (λ g. rw (a, c, b, g))))
      (λ c. test_cases (eqb d 0) (λ b. rw (a, c, b))
      (λ b. test_cases (eqb d 2) (λ g. rw (a, c, b, g))
      (λ g. absurd (ne (usable-cases k e u (eqb-false e 0 a) (eqb-false e 2 c) ∙ sym (usable-cases k d v (eqb-false d 0 b) (eqb-false d 2 g))))))))

  pub used-count : (d : ℕ) → is_usable k e ≡ true → is_usable k d ≡ true → next_of (used k e) d ≡ next_of k d + choose (eqb e d) 1 0
  used-count d u v =
      test_cases (eqb e d)
      (λ h. let one : choose {A = ℕ} (eqb e d) 1 0 ≡ 1 = if_true _ _ h in
      subst (λ (x : ℕ). next_of (used k e) x ≡ next_of k x + 1) (eqb-true e d h) (used-next k e) ∙ omega arith)
      (λ h. let none : choose {A = ℕ} (eqb e d) 1 0 ≡ 0 = if_false _ _ h in omega (arith, used-other d u v (eqb-false e d h)))
