-- Keying an epoch to send in (01, refusals 12, 13, 23): the queue means the same; 23 exactly if a sealing under the application epoch waits.
-- Assumes nothing.
use Rattle.std.specs.Prelude.{true, List, [], ◌∷◌, ◌++◌, ◌≡◌, refl, ℕ, ◌+◌, ◌*◌, ◌<◌, ◌≤◌, ltb, leb, eqb, length, Ok, Err}
use Rattle.std.proofs.lemmas.Bool.{false≢true}
use Rattle.std.proofs.Common.{inl, inr, ⊎_elim, subst, ◌∙◌, arith}
use Rattle.std.proofs.Math.Path.{sym, ap}
use borrow.Author.Tests.{ltb-true, ltb-false, leb-false, eqb-true, eqb-false, ne_eqb, lt-ltb, le-ltb}
use Rattle.base.specs.Choose.{choose, by_test, test_cases, if_true, if_false}
use Rattle.queue.specs.declared.Queue.{Queue}
use Rattle.queue.specs.Queue.{slot_of, is_sound, sound-again}
use Rattle.send_keys.specs.declared.SendKeys.{SendKeys}
use Rattle.send_keys.specs.declared.SendError.TheVariants as key
use Rattle.send_keys.specs.Keys.{key_answer, keyed}
use Rattle.outgoing.specs.declared.Sending.{Sending}
use Rattle.outgoing.specs.State.{keying_state}
use Rattle.send_keys.specs.Answer.{SendAnswer, is_done}
use Rattle.waiting_laws.specs.Queued.{Queued, plain, waits, sealed, bytes_of, flat, numbers_of, Lies, Rows, Runs, Under, Agrees, Holds}
use Rattle.waiting_laws.proofs.Lists.{numbers-append, runs-length}

-- ---- which numbers wait

pub empty : (l : List ℕ) → length l ≡ 0 → l ≡ []
empty [] h = refl
empty (n ∷ l) h = absurd (omega arith)

-- none waits under an epoch that is neither 2 nor the application epoch
none-under : (a k : ℕ) (rs : List Queued) → Under a rs → (k ≡ 2 → ⊥) → (k ≡ a → ⊥) → numbers_of k rs ≡ []
none-under a k [] u p q = refl
none-under a k (plain t n x ∷ rs) u p q = none-under a k rs u p q
none-under a k (waits e t n x v ∷ rs) u p q =
    let ne : e ≡ k → ⊥ = λ z. ⊎_elim (λ (y : e ≡ 2). p (sym z ∙ y)) (λ (y : e ≡ a). q (sym z ∙ y)) u.0 in
    if_false _ _ (ne_eqb e k ne) ∙ none-under a k rs u.1 p q
none-under a k (sealed e t n x m v ∷ rs) u p q = none-under a k rs u p q

-- where none waits under the application epoch, another may take its place
under-again : (a k : ℕ) (rs : List Queued) → Under a rs → numbers_of a rs ≡ [] → Under k rs
under-again a k [] u h = tt
under-again a k (plain t n x ∷ rs) u h = under-again a k rs u h
under-again a k (waits e t n x v ∷ rs) u h =
    test_cases (eqb e a)
    (λ y. absurd (let g : n ∷ numbers_of a rs ≡ [] = sym (if_true _ _ y) ∙ h in let z : ◌≡◌ {A = ℕ} 0 1 = cc in omega arith))
    (λ y.
    let ne : e ≡ a → ⊥ = eqb-false e a y in
    (⊎_elim (λ (z : e ≡ 2). inl z) (λ (z : e ≡ a). absurd (ne z)) u.0, under-again a k rs u.1 (sym (if_false _ _ y) ∙ h)))
under-again a k (sealed e t n x m v ∷ rs) u h = under-again a k rs u h

-- none waits under epoch 0
lies-zero : (mem : List ℕ) (base at : ℕ) (rs : List Queued) → Lies mem base at rs → numbers_of 0 rs ≡ []
lies-zero mem base at [] l = refl
lies-zero mem base at (plain t n x ∷ rs) l = lies-zero mem base (at + length (bytes_of (plain t n x))) rs l.1
lies-zero mem base at (waits e t n x p ∷ rs) l =
    if_false _ _ (ne_eqb e 0 (λ z. omega (arith, l.0.sound.some))) ∙ lies-zero mem base (at + length (bytes_of (waits e t n x p))) rs l.1
lies-zero mem base at (sealed e t n x m p ∷ rs) l = lies-zero mem base (at + length (bytes_of (sealed e t n x m p))) rs l.1

rows-zero : (q : Queue) (mem : List ℕ) (i : ℕ) (ds : List (List Queued)) → Rows q mem i ds → numbers_of 0 (flat ds) ≡ []
rows-zero q mem i [] r = refl
rows-zero q mem i (d ∷ ds) r =
    numbers-append 0 d (flat ds) ∙ ap (λ (l : List ℕ). l ++ numbers_of 0 (flat ds)) (lies-zero mem (slot_of q.first q.limit i * q.mtu) 0 d r.0.lies) ∙ rows-zero q mem (i + 1) ds r.1

-- ---- the keys

keyed-agrees : (k : SendKeys) (rs : List Queued) (e : ℕ) (iv : List ℕ) → Agrees k rs → 2 ≤ e → e < 65536 → k.handshake.epoch < e → k.application.epoch < e
    → numbers_of k.application.epoch rs ≡ [] → Agrees (keyed k e iv) rs
unfolding keyed
keyed-agrees k rs e iv a low small hs app none =
    test_cases (eqb e 2)
    (λ h.
    let two : e ≡ 2 = eqb-true e 2 h in
    let same : k.handshake.next ≡ k.handshake.sealed = a.unkeyed (λ z. omega arith) in
    let nil : numbers_of 2 rs ≡ [] = empty (numbers_of 2 rs) (omega (arith, runs-length k.handshake.sealed k.handshake.next (numbers_of 2 rs) a.handshake)) in
    subst (λ (u : SendKeys). Agrees u rs) (sym (if_true _ _ h))
    (record {
      handshake = subst (Runs 0 0) (sym nil) refl;
      application = a.application;
      under = a.under;
      unkeyed = λ z. refl;
      epoch = a.epoch;
      small = a.small;
    }))
    (λ h.
    let ne : e ≡ 2 → ⊥ = eqb-false e 2 h in
    subst (λ (u : SendKeys). Agrees u rs) (sym (if_false _ _ h))
    (record {
      handshake = a.handshake;
      application = subst (Runs 0 0) (sym (none-under k.application.epoch e rs a.under ne (λ z. omega arith))) refl;
      under = under-again k.application.epoch e rs a.under none;
      unkeyed = a.unkeyed;
      epoch = inr (omega (arith, ne));
      small = small;
    }))

module _ (s : Sending) (mem : List ℕ) (ds : List (List Queued)) (h : Holds s mem ds) where
  abbrev k : SendKeys
  k = s.keys

  -- how many sealings wait under the application epoch
  abbrev waiting_under : ℕ
  waiting_under = length (numbers_of k.application.epoch (flat ds))

  counted : k.application.sealed + waiting_under ≡ k.application.next
  counted = runs-length k.application.sealed k.application.next (numbers_of k.application.epoch (flat ds)) h.keys.application

  none-zero : k.application.epoch ≡ 0 → waiting_under ≡ 0
  none-zero e = ap (λ (j : ℕ). length (numbers_of j (flat ds))) e ∙ ap length (rows-zero s.queue mem 0 ds h.rows)

  -- 12 never; 13; 23: "a sending application epoch replaced while a sealing under it waits", exactly then
  pub keying-told : (e : ℕ) → key_answer k (is_sound s.queue) e
      ≡ choose (ltb e 2) (Err key.BadEpoch)
      (choose (leb e k.handshake.epoch) (Err key.BadEpoch)
      (choose (leb e k.application.epoch) (Err key.BadEpoch)
      (choose (ltb 0 (length (numbers_of k.application.epoch (flat ds)))) (Err key.SealingWaits) (Ok tt))))
  unfolding key_answer
  keying-told e =
      if_true _ _ (sound-again h.range)
      ∙ ap (λ (a : SendAnswer). choose (ltb e 2) (Err key.BadEpoch) (choose (leb e k.handshake.epoch) (Err key.BadEpoch) (choose (leb e k.application.epoch) (Err key.BadEpoch) a))) last
    where
      last : choose {A = SendAnswer} (eqb k.application.epoch 0) (Ok tt) (choose (ltb k.application.sealed k.application.next) (Err key.SealingWaits) (Ok tt))
          ≡ choose {A = SendAnswer} (ltb 0 waiting_under) (Err key.SealingWaits) (Ok tt)
      last =
          test_cases (eqb k.application.epoch 0)
          (λ z. if_true _ _ z ∙ sym (if_false _ _ (le-ltb 0 waiting_under (omega (arith, none-zero (eqb-true k.application.epoch 0 z))))))
          (λ z. if_false _ _ z ∙ test_cases (ltb 0 waiting_under)
          (λ y. if_true _ _ (lt-ltb k.application.sealed k.application.next (omega (arith, counted, ltb-true 0 waiting_under y))) ∙ sym (if_true _ _ y))
          (λ y. if_false _ _ (le-ltb k.application.sealed k.application.next (omega (arith, counted, ltb-false 0 waiting_under y))) ∙ sym (if_false _ _ y)))

  keyed_tests : (e : ℕ) → is_done (key_answer k (is_sound s.queue) e) ≡ true
      → (2 ≤ e) × (k.handshake.epoch < e) × (k.application.epoch < e) × (waiting_under ≡ 0)
  keyed_tests e y =
      let P : SendAnswer → Type 0 = λ a. is_done a ≡ true → (2 ≤ e) × (k.handshake.epoch < e) × (k.application.epoch < e) × (waiting_under ≡ 0) in
      by_test P (λ a z. absurd (false≢true z))
      (λ a. by_test P (λ b z. absurd (false≢true z))
      (λ b. by_test P (λ c z. absurd (false≢true z))
      (λ c. by_test P (λ w z. absurd (false≢true z))
      (λ w z.
      (ltb-false e 2 a, leb-false e k.handshake.epoch b, leb-false e k.application.epoch c, omega (arith, ltb-false 0 waiting_under w))))))
      (subst (λ (a : SendAnswer). is_done a ≡ true) (keying-told e) y)

  -- the queue means the same, keyed or refused; an epoch is one of 16 bits
  pub keying-holds : (e : ℕ) (iv : List ℕ) → e < 65536 → Holds (keying_state s e iv).state mem ds
  unfolding keying_state
  keying-holds e iv small =
      by_test (λ (u : Sending). Holds u mem ds)
      (λ y.
      let t = keyed_tests e y in
      record {
        range = h.range;
        room = h.room;
        table = h.table;
        count = h.count;
        rows = h.rows;
        order = h.order;
        oldest = h.oldest;
        keys = keyed-agrees k (flat ds) e iv h.keys t.0 small t.1 t.2 (empty (numbers_of k.application.epoch (flat ds)) t.3);
      })
      (λ y. h)
