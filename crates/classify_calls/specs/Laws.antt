-- From what a call's parts ensure to what the call ensures. Assumes nothing.
use Rattle.std.specs.Prelude.{Bool, false, List, ◌≡◌, ℕ, ◌≤◌, ◌<◌, leb, eqb, Ok, Err}
use Rattle.std.proofs.Math.Bool.{true}
use Rattle.std.proofs.Math.Path.{refl, sym, ap, subst}
use Rattle.std.proofs.Common.{◌∙◌, arith}
use borrow.Author.Tests.{leb-true, leb-false, eqb-false, lt-ltb, le-ltb, eq-eqb, ne_eqb}
use Rattle.std.proofs.Math.ListN.{get_or}
use Rattle.base.specs.Choose.{choose, both, if_true, if_false, by_test, test_cases, both_left, both_right, both_true}
use Rattle.datagram.specs.Datagram.{moved}
use Rattle.datagram.specs.declared.Datagram.{Datagram}
use Rattle.datagram.specs.declared.Question.{Question}
use Rattle.datagram.specs.declared.Question.TheVariants as question
use Rattle.datagram.specs.declared.Reading.{Reading}
use Rattle.datagram.specs.declared.Reading.TheVariants as says
use Rattle.send_keys.specs.declared.SendError.TheVariants.{OutOfRange}
use Rattle.send_keys.specs.Answer.{is_done}
use Rattle.process_ack.specs.Ack.{acked}
use Rattle.flight.specs.declared.Acted.{Acted}
use Rattle.process_ack.specs.Status.{newly_marked}
use Rattle.flight_words.specs.Words.{saved-at, flight_of, flat_to}
use Rattle.recv_words.specs.Words.{question-at, size-at, readings-at, question_of, datagram_of, keys_of, is_flat}
use Rattle.recv_words.specs.Laws.{Lies}
use Rattle.recv_key_steps.specs.Kept.{state_of}
use Rattle.recv_calls.specs.Flat.{flat_reading}
use Rattle.recv_calls.specs.Laws.{state-by}
use Rattle.recv_calls.specs.declared.HuskReading.{HuskReading}
use Rattle.ack_calls.specs.Calls.{acked_told, ProcessAckCall}
use Rattle.ack_calls.specs.declared.HuskAcked.{HuskAcked}
use Rattle.classify.specs.declared.Class.{Class}
use Rattle.classify.specs.declared.Class.TheVariants as class
use Rattle.classify.specs.Classify.{plaintext-kind, opened-kind, noted, cleared, waiting, content_of, classified, words_after, left_at, finished, tells_alert, state_after, acts_on}
use Rattle.classify_calls.specs.Calls.{noted_by, in_range, heeded, class_in, told, acted_on, flat_class, Dealt, ClassifyCall}
use Rattle.classify_calls.specs.declared.HuskClass.{HuskClass}

-- ---- what is noted of a reading as it is told is what is noted of the reading

pub noted-flat : (g : Reading) (v w : List ℕ) → noted_by (flat_reading g v) w ≡ noted g w
unfolding noted_by choose both
noted-flat says.Setting v w = refl
noted-flat says.Reply v w = refl
noted-flat says.End v w = refl
noted-flat says.Incomplete v w = refl
noted-flat says.TooMany v w = refl
noted-flat (says.Dropped r) v w = refl
noted-flat (says.Plaintext t n s l) v w = refl
noted-flat (says.Unopened b n s l) v w = refl
noted-flat (says.Opened e n t s l) v w = refl
noted-flat (says.Mask e s) v w = refl
noted-flat (says.Opening e n s h l) v w = refl

-- noted word by word
module _ (r : HuskReading) (x : List ℕ) {k : ℕ} (p : k ≡ r.kind) where
  pub notes-nothing : k ≡ 0 → x ≡ noted_by r x
  unfolding noted_by
  notes-nothing z = sym (if_true _ _ (eq-eqb _ _ (sym p ∙ z)))

  module _ (z : k ≡ 0 → ⊥) where
    known : eqb r.kind 0 ≡ false
    known = ne_eqb _ _ (λ u. z (p ∙ u))

    kinds : {t : Bool} → both (leb plaintext-kind k) (leb k opened-kind) ≡ t → both (leb plaintext-kind r.kind) (leb r.kind opened-kind) ≡ t
    kinds b = sym (ap (λ (n : ℕ). both (leb plaintext-kind n) (leb n opened-kind)) p) ∙ b

    pub notes : {t e : ℕ} → t ≡ r.content_type → e ≡ r.epoch → both (leb plaintext-kind k) (leb k opened-kind) ≡ true
        → waiting k t e r.number r.start r.length x ≡ noted_by r x
    unfolding noted_by
    notes q s b = (λ i. waiting (p i) (q i) (s i) r.number r.start r.length x) ∙ sym (if_false _ _ known ∙ if_true _ _ (kinds b))

    pub notes-none : both (leb plaintext-kind k) (leb k opened-kind) ≡ false → cleared x ≡ noted_by r x
    unfolding noted_by
    notes-none b = sym (if_false _ _ known ∙ if_false _ _ (kinds b))

-- ---- the datagram ends

-- no question waits: the cursor is moved
pub ends : (v w : List ℕ) → is_flat w ≡ true → get_or w question-at 0 ≡ 0 → Lies (moved (datagram_of w) (get_or w size-at 0) (get_or w readings-at 0)) w v
    → (state_of v ≡ finished (state_of w)) × (is_flat v ≡ is_flat w)
unfolding question_of
ends v w f z l =
    let none : question_of w ≡ question.Nothing = if_false _ _ (ap (λ (n : ℕ). eqb n 1) z) ∙ if_false _ _ (ap (λ (n : ℕ). eqb n 2) z) in
    (state-by v l.keys (l.datagram ∙ sym (ap (λ (q : Question). left_at q (datagram_of w)) none)), l.flat f ∙ sym f)

-- a question waits: nothing is moved
pub waits : (w : List ℕ) → is_flat w ≡ true → (get_or w question-at 0 ≡ 0 → ⊥) → state_of w ≡ finished (state_of w)
unfolding question_of is_flat
waits w f z =
    let l : get_or w question-at 0 ≤ 2 = leb-true (get_or w question-at 0) 2 (both_left _ _ (both_right _ _ (both_right _ _ f))) in
    ap (λ (b : Datagram). record { keys = keys_of w; datagram = b })
    (by_test (λ (q : Question). datagram_of w ≡ left_at q (datagram_of w)) (λ e. refl)
    (λ e. by_test (λ (q : Question). datagram_of w ≡ left_at q (datagram_of w)) (λ u. refl)
    (λ u. absurd (omega (arith, eqb-false (get_or w question-at 0) 1 e, eqb-false (get_or w question-at 0) 2 u, z)))))

-- ---- a reading that is no ACK

pub dealt : (r : HuskClass) (v w y x f n d : List ℕ) (ok : Bool) (k j : Class) → k ≡ j → acts_on j ≡ false
    → r ≡ flat_class j x (acked_told (acked (flight_of f n) (content_of x d)) (newly_marked (flight_of f n) (content_of x d)))
    → state_of v ≡ state_after j (state_of w) → is_flat v ≡ is_flat w → y ≡ words_after j x
    → Dealt r v w y x f f n n d (heeded k ok)
unfolding heeded
dealt r v w y x f n d ok k j e a p s i q =
    subst (Dealt r v w y x f f n n d) (sym (ap (λ (z : Class). heeded z ok) e ∙ if_false _ _ a)) (p, s, i, q, sym (if_false _ _ a), refl)

-- and no alert: the state stays
pub rests : (r : HuskClass) (w y x f n d : List ℕ) (ok : Bool) {k : Class} (j : Class) → k ≡ j → acts_on j ≡ false → tells_alert j ≡ false
    → r ≡ flat_class j x (acked_told (acked (flight_of f n) (content_of x d)) (newly_marked (flight_of f n) (content_of x d))) → y ≡ words_after j x
    → Dealt r w w y x f f n n d (heeded k ok)
rests r w y x f n d ok {k} j e a t p q = dealt r w w y x f n d ok k j e a p (sym (if_false _ _ t)) refl q

-- ---- an ACK

module _ (a : HuskAcked) (g f m n c : List ℕ) (h : ProcessAckCall a g f m n c) where
  in-range : in_range f ≡ true
      → (a ≡ acked_told (acked (flight_of f n) c) (newly_marked (flight_of f n) c)) × (a.refusal ≡ 0) × (flight_of g m ≡ (acked (flight_of f n) c).flight)
  unfolding acked
  in-range e =
      let q : flat_to f 12 ≡ true = both_left _ _ e in
      let l : get_or f saved-at 0 ≤ 12 = leb-true (get_or f saved-at 0) 12 (both_right _ _ e) in
      let d : (acked (flight_of f n) c).answer ≡ Ok tt = ap (λ (t : Acted). t.answer) (if_false _ _ (le-ltb _ _ l)) in
      (h.0 ∙ if_true _ _ q, ap (λ (z : HuskAcked). z.refusal) (h.0 ∙ if_true _ _ q ∙ if_true _ _ (ap is_done d)), h.1 ∙ if_true _ _ q)

  out_of_range : in_range f ≡ false → (a.refusal ≡ 12) × (flight_of g m ≡ flight_of f n)
  unfolding acked
  out_of_range e =
      test_cases (flat_to f 12)
      (λ q. let l : 12 < get_or f saved-at 0 = leb-false (get_or f saved-at 0) 12 (sym (both_true q) ∙ e) in
      let k : acked (flight_of f n) c ≡ record { answer = Err OutOfRange; flight = flight_of f n } = if_true _ _ (lt-ltb _ _ l) in (
        ap (λ (z : HuskAcked). z.refusal) (h.0 ∙ if_true _ _ q ∙ ap (λ (z : Acted). acked_told z (newly_marked (flight_of f n) c)) k ∙ if_false _ _ refl),
        h.1 ∙ if_true _ _ q ∙ ap (λ (z : Acted). z.flight) k,
      ))
      (λ q. (ap (λ (z : HuskAcked). z.refusal) (h.0 ∙ if_false _ _ q), h.1 ∙ if_false _ _ q))

-- acted on with content c
module _ (r : HuskClass) (a : HuskAcked) (y x g f m n d c : List ℕ) (s : c ≡ content_of x d) (u : ProcessAckCall a g f m n c) where
  content : ProcessAckCall a g f m n (content_of x d)
  content = subst (ProcessAckCall a g f m n) s u

  pub acts : a.refusal ≡ 0 → r ≡ acted_on x a → y ≡ cleared x → (w : List ℕ) → Dealt r w w y x g f m n d (heeded class.Ack (in_range f))
  unfolding heeded
  acts z p q w =
      test_cases (in_range f)
      (λ e. let b = in-range a g f m n (content_of x d) content e in
      subst (Dealt r w w y x g f m n d) (sym (if_true _ _ refl ∙ if_true _ _ e))
      (p ∙ ap (acted_on x) b.0, sym (if_false _ _ refl), refl, q, b.2 ∙ sym (if_true _ _ refl), u.2))
      (λ e. absurd (omega (arith, (out_of_range a g f m n (content_of x d) content e).0, z)))

  pub refuses : (a.refusal ≡ 0 → ⊥) → r ≡ told 0 12 → y ≡ x → (w : List ℕ) → Dealt r w w y x g f m n d (heeded class.Ack (in_range f))
  unfolding heeded
  refuses z p q w =
      test_cases (in_range f)
      (λ e. absurd (z (in-range a g f m n (content_of x d) content e).1))
      (λ e. subst (Dealt r w w y x g f m n d) (sym (if_true _ _ refl ∙ if_false _ _ e))
      (p, sym (if_false _ _ refl), refl, q, (out_of_range a g f m n (content_of x d) content e).1 ∙ sym (if_false _ _ refl), u.2))

-- an ACK alone looks at the flight: over one out of its range any other reading is dealt with
pub others-heeded : (k : Class) (ok : Bool) → acts_on k ≡ false → heeded k ok ≡ k
unfolding heeded
others-heeded k ok a = if_false _ _ a

pub acted : (r : HuskClass) (w y x g f m n d : List ℕ) (ok : Bool) {k : Class} → k ≡ class.Ack → Dealt r w w y x g f m n d (heeded class.Ack ok)
    → Dealt r w w y x g f m n d (heeded k ok)
acted r w y x g f m n d ok e h = subst (λ (z : Class). Dealt r w w y x g f m n d (heeded z ok)) (sym e) h

-- ---- the call

pub by_class : (r : HuskClass) (v w y x g f m n d : List ℕ) (k : Class) → is_flat w ≡ true → k ≡ classified x (state_of w) d → Dealt r v w y x g f m n d (heeded k (in_range f))
    → ClassifyCall r v w y x g f m n d
unfolding class_in
by_class r v w y x g f m n d k t e h =
    subst (Dealt r v w y x g f m n d) (ap (λ (z : Class). heeded z (in_range f)) e ∙ sym (if_true _ _ t)) h

pub no_state : (r : HuskClass) (w x f n d : List ℕ) → is_flat w ≡ false → r ≡ told 0 12 → ClassifyCall r w w x x f f n n d
unfolding class_in
no_state r w x f n d t p =
    subst (Dealt r w w x x f f n n d) (sym (if_false _ _ t)) (p, sym (if_false _ _ refl), refl, refl, sym (if_false _ _ refl), refl)
