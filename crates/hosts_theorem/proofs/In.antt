-- Each receiving call of the C library, entered in the host's log, is the claim's call. Assumes nothing.
use Rattle.opening_reply.specs.Opening.{Opening}
use Prim.Native.Nat.{ℕ, suc, ◌+◌, ◌≤◌}
use Rattle.std.proofs.Math.Dec.{eqb}
use Rattle.std.specs.Prelude.{leb, ltb, length, Bool, List, [], ◌∷◌, ◌≡◌, Ok, Err}
use Rattle.std.proofs.Math.Bool.{true, false}
use Rattle.std.proofs.Math.Option.{Option, none, some}
use Rattle.std.proofs.Math.Path.{refl, sym, ap}
use Rattle.std.proofs.Common.{subst, ◌∙◌}
use Rattle.base.specs.Choose.{choose, if_true, if_false, by_test, test_cases, both_true, both_false}
use Rattle.base.specs.Parts.{splice}
use Rattle.datagram.specs.declared.Question.TheVariants as question
use Rattle.datagram.specs.declared.Question.{Question}
use Rattle.receiving.specs.Receiving.{answer_number, key_of, remove_of, encrypt_of, release_of, begin_of, read_of, mask_of, opened_of, Answer}
use Rattle.receiving.specs.declared.Done.TheVariants as done
use Rattle.receiving.specs.declared.Refusal.TheVariants as refusal
use Rattle.receiving.specs.declared.Kept.{Kept}
use Rattle.receiving.specs.declared.Receiving.{Receiving}
use Rattle.recv_keys.specs.declared.RecvKeys.{RecvKeys}
use Rattle.answers.specs.declared.HuskTold.{HuskTold}
use Rattle.recv_words.specs.Words.{is_flat}
use Rattle.recv_key_steps.specs.Kept.{state_of}
use Rattle.recv_calls.specs.Flat.{bare, opening_of}
use Rattle.recv_calls.specs.Calls as receive
use Rattle.recv_calls.specs.Removed.{removed_told}
use Rattle.recv_calls.specs.declared.HuskReading.{HuskReading}
use Rattle.history_theorem.specs.Account.{Shown, key_owed, keys}
use Rattle.history_theorem.proofs.Calls.{begin_told}
use Rattle.history_theorem.specs.Receiver.{Sealed, Trial, Receiver, Out, with_state, flagged, removed_from, removed, remove_owed, begun, starts_on, begin_owed, begins, written_in, mask_by, open_by, read_out, mask_out, open_out, after_read, after_mask, after_open, use_of, fate_of, unused, logs, strays, Inbound, takes, tells, Call, begin·, read·, mask·, write·, open·, open_over·, does}
use Rattle.history_theorem.proofs.Sound.{UnderWay, Sound}
use Rattle.hosts_theorem.specs.Memory.{Incoming, InCall, husk_receiving_key, husk_receiving_remove, husk_receiving_enable_encryption, husk_receiving_release_application_data, husk_receiving_begin, husk_receiving_begin_read, husk_receiving_read, husk_receiving_mask, husk_receiving_opened, husk_receiving_read_over, husk_receiving_mask_over, husk_receiving_opened_over, host_writes, MadeIn, behind_in}
use Rattle.hosts_theorem.specs.Log.{flat_read, reading_of, Whole, out_by, number_told, removed_to, begins_to, accepted, refused, reads, rewords, with_bytes, entered_in}
use Rattle.hosts_theorem.proofs.Answers.{writes_in, read_names, mask-nonce, open_nonce, entered, whole}
use Rattle.hosts_theorem.specs.Claim.{StandsIn, calls_of, AnsweredIn, removal_told}

abbrev pub does_all : (ℕ → List Sealed) → Inbound → List Call → Inbound
does_all sealed i [] = i
does_all sealed i (c ∷ cs) = does_all sealed (does sealed i c) cs

-- ---- removing

removed-state : (y : Receiver) (s : Receiving) (k : ℕ) (t : Option Trial) → ((removed_from y s k t).state ≡ s) × ((removed_from y s k t).datagram ≡ y.datagram)
unfolding removed_from
removed-state y s k none = (refl, refl)
removed-state y s k (some t) = by_test (λ (z : Receiver). (z.state ≡ s) × (z.datagram ≡ y.datagram)) (λ a. (refl, refl)) (λ a. (refl, refl))

removed-to : (y : Receiver) (s : Receiving) (k : ℕ) → ((removed_to y s k).state ≡ s) × ((removed_to y s k).datagram ≡ y.datagram)
removed-to y s k = by_test (λ (z : Receiver). (z.state ≡ s) × (z.datagram ≡ y.datagram)) (λ a. removed-state y s k y.trial) (λ a. (refl, refl))

removes_as : (y : Receiver) (s : Receiving) (k : ℕ) → s ≡ (remove_of y.state k).state → removed_to y s k ≡ removed y k
unfolding removed
removes_as y s k e = ap (λ x. removed_to y x k) e

-- 01's number of the answer
number-told : (a : Answer) → number_told (removed_told a) ≡ answer_number a
unfolding number_told choose
number-told (Ok done.Asked) = refl
number-told (Ok done.Dropped) = refl
number-told (Err refusal.Setting) = refl
number-told (Err refusal.TooLong) = refl
number-told (Err refusal.Unusable) = refl
number-told (Err refusal.Full) = refl

-- and back
told_back : (a : Answer) → removed_told a ≡ removal_told (number_told (removed_told a))
unfolding number_told choose
told_back (Ok done.Asked) = refl
told_back (Ok done.Dropped) = refl
told_back (Err refusal.Setting) = refl
told_back (Err refusal.TooLong) = refl
told_back (Err refusal.Unusable) = refl
told_back (Err refusal.Full) = refl

-- ---- beginning

begin_keys : (s : Receiving) (n : ℕ) → (begin_of s n).state.keys ≡ s.keys
unfolding begin_of
begin_keys s n =
    let P : Kept → Type 0 = λ k. k.state.keys ≡ s.keys in by_test P (λ o. by_test P (λ t. refl) (λ t. refl)) (λ o. refl)

module _ (i : Inbound) (d : List ℕ) where
  abbrev s₀ : Receiving
  s₀ = (begin_of i.into.state (length d)).state

  begins-long : (r : ℕ) → r ≡ answer_number (begin_of i.into.state (length d)).answer → ltb 16384 (length d) ≡ true → refused i s₀ r d ≡ begins i d
  unfolding begun
  begins-long r e t =
      let p : with_state i.into s₀ i.into.account ≡ begun i.into d = sym (if_true _ _ t) in
      let q : i.serial ≡ choose (ltb 16384 (length d)) i.serial (suc i.last_serial) = sym (if_true _ _ t) in
      λ j. begins_to i (p j) (q j) (e j) d

  begins-fits : (r : ℕ) → r ≡ answer_number (begin_of i.into.state (length d)).answer → ltb 16384 (length d) ≡ false → accepted i s₀ r d ≡ begins i d
  unfolding begun
  begins-fits r e t =
      let p : starts_on i.into s₀ d ≡ begun i.into d = sym (if_false _ _ t) in
      let q : suc i.last_serial ≡ choose (ltb 16384 (length d)) i.serial (suc i.last_serial) = sym (if_false _ _ t) in
      λ j. begins_to i (p j) (q j) (e j) d

-- ---- one call

-- 12 is a reading's too
no_reply-whole : (r : HuskReading) → r ≡ bare 0 12 → Whole r
unfolding reading_of choose
no_reply-whole r e = subst Whole (sym e) refl

module _ (h : Incoming) (i : Inbound) (a : StandsIn h i) where
  abbrev w : List ℕ
  w = h.words

  abbrev y : Receiver
  y = i.into

  -- the state behind a call that reads nothing, and its answer, by the definition f
  behind-state : (f : Receiving → Kept) (r : ℕ) (v : List ℕ) → receive.Does r v w (f (state_of w)) → state_of v ≡ (f y.state).state
  behind-state f r v m = m.1 ∙ if_true _ _ a.flat ∙ ap (λ (s : Receiving). (f s).state) a.state

  behind-answer : (f : Receiving → Kept) (r : ℕ) (v : List ℕ) → receive.Does r v w (f (state_of w)) → r ≡ answer_number (f y.state).answer
  behind-answer f r v m = m.0 ∙ if_true _ _ a.flat ∙ ap (λ (s : Receiving). answer_number (f s).answer) a.state

  -- a beginning is answered 0 exactly up to 16,384 bytes
  begun-told : Sound y → (d : List ℕ) (r : ℕ) → r ≡ answer_number (begin_of y.state (length d)).answer → eqb r 0 ≡ eqb (begin_owed d) 0
  begun-told o d r e = ap (λ (n : ℕ). eqb n 0) (e ∙ begin_told y o d)

  begin_square : Sound y → (r : ℕ) (v d : List ℕ) → receive.BeginCall r v w (length d)
      → choose (eqb r 0) (accepted i (state_of v) r d) (refused i (state_of v) r d) ≡ begins i d
  unfolding begin_owed
  begin_square o r v d m =
      let e = behind-answer (λ s. begin_of s (length d)) r v m in
      let s = behind-state (λ s. begin_of s (length d)) r v m in
      test_cases (ltb 16384 (length d))
      (λ t.
      if_false _ _ (begun-told o d r e ∙ ap (λ (n : ℕ). eqb n 0) (if_true _ _ t)) ∙ ap (λ x. refused i x r d) s ∙ begins-long i d r e t)
      (λ t.
      if_true _ _ (begun-told o d r e ∙ ap (λ (n : ℕ). eqb n 0) (if_false _ _ t)) ∙ ap (λ x. accepted i x r d) s ∙ begins-fits i d r e t)

  -- ---- calls that read

  read-out : (r : HuskReading) (v d : List ℕ) → receive.ReadCall r v w d → out_by r v d ≡ read_out y.state d
  read-out r v d m =
      entered r v d (read_of y.state d) d (read_names y.state.keys y.state.datagram d []).0
      (m.0 ∙ if_true _ _ a.flat ∙ ap (λ (s : Receiving). flat_read (read_of s d)) a.state)
      (m.1 ∙ if_true _ _ a.flat ∙ ap (λ (s : Receiving). (read_of s d).state) a.state) refl

  mask-out : (r : HuskReading) (v : List ℕ) (n₀ n₁ : ℕ) (e d : List ℕ) → receive.MaskCall r v w n₀ n₁ e d → out_by r v e ≡ mask_out y.state (receive.masks n₀ n₁) d
  mask-out r v n₀ n₁ e d m =
      let k = receive.masks n₀ n₁ in
      entered r v e (mask_of y.state k d).0 (mask_of y.state k d).1 (mask-nonce y.state.keys y.state.datagram k d)
      (m.0.0 ∙ if_true _ _ a.flat ∙ ap (λ (s : Receiving). flat_read (mask_of s k d).0) a.state)
      (m.0.1 ∙ if_true _ _ a.flat ∙ ap (λ (s : Receiving). (mask_of s k d).0.state) a.state)
      (m.1 ∙ if_true _ _ a.flat ∙ ap (λ (s : Receiving). (mask_of s k d).1) a.state)

  open-out : (r : HuskReading) (v : List ℕ) (o len : ℕ) (d : List ℕ) → receive.OpenedCall r v w o len d → leb o 1 ≡ true → out_by r v d ≡ open_out y.state (opening_of o len) d
  open-out r v o len d m t =
      let k = opening_of o len in
      entered r v d (opened_of y.state k d) d (open_nonce y.state.keys y.state.datagram k d)
      (m.0 ∙ if_true _ _ (both_true t ∙ a.flat) ∙ ap (λ (s : Receiving). flat_read (opened_of s k d)) a.state)
      (m.1 ∙ if_true _ _ (both_true t ∙ a.flat) ∙ ap (λ (s : Receiving). (opened_of s k d).state) a.state) refl

  -- over the begun datagram
  at_own : {A : Type 0} (f : List ℕ → A) → f h.datagram ≡ f y.datagram
  at_own f = ap f a.datagram

  read-square : (sealed : ℕ → List Sealed) (r : HuskReading) (v : List ℕ) → receive.ReadCall r v w h.datagram → reads sealed i (out_by r v y.datagram) ≡ does sealed i read·
  unfolding after_read
  read-square sealed r v m = ap (reads sealed i) (sym (at_own (out_by r v)) ∙ read-out r v h.datagram m ∙ at_own (read_out y.state))

  mask-square : (sealed : ℕ → List Sealed) (r : HuskReading) (v : List ℕ) (n₀ n₁ : ℕ) (e : List ℕ) → receive.MaskCall r v w n₀ n₁ e h.datagram
      → logs i (mask_by y (receive.masks n₀ n₁) (out_by r v e)) i.serial unused ≡ does sealed i (mask· (receive.masks n₀ n₁))
  unfolding after_mask
  mask-square sealed r v n₀ n₁ e m =
      ap (λ (o : Out). logs i (mask_by y (receive.masks n₀ n₁) o) i.serial unused) (mask-out r v n₀ n₁ e h.datagram m ∙ at_own (mask_out y.state (receive.masks n₀ n₁)))

  abbrev opens_to : Opening → Out → Inbound
  opens_to p o = logs i (open_by y p o) i.serial (use_of y.account.waits p (fate_of o.reading))

  open_square : (sealed : ℕ → List Sealed) (r : HuskReading) (v : List ℕ) (o len : ℕ) → receive.OpenedCall r v w o len h.datagram → leb o 1 ≡ true
      → opens_to (opening_of o len) (out_by r v y.datagram) ≡ does sealed i (open· (opening_of o len))
  unfolding after_open
  open_square sealed r v o len m t =
      ap (opens_to (opening_of o len)) (sym (at_own (out_by r v)) ∙ open-out r v o len h.datagram m t ∙ at_own (open_out y.state (opening_of o len)))

  -- a reply neither 0 nor 1 changes nothing
  no_open : (r : HuskReading) (v : List ℕ) (o len : ℕ) (d : List ℕ) → receive.OpenedCall r v w o len d → leb o 1 ≡ false → rewords i v ≡ i
  no_open r v o len d m t = ap (λ (s : Receiving). takes i (with_state y s y.account)) (m.1 ∙ if_false _ _ (both_false _ t) ∙ a.state)

  -- ---- the host writes: where the words ask an opening, the log's question lends the same part

  writes-same : Sound y → (p : List ℕ) (q : Question) → y.state.datagram.question ≡ q
      → writes_in q y.state.datagram.at y.datagram p ≡ written_in y.account.waits y.datagram p
  writes-same o p q e = go q (subst (λ x. UnderWay x y.state.datagram.at y.account.waits y.trial) e o.under)
    where
      go : (q : Question) → UnderWay q y.state.datagram.at y.account.waits y.trial
          → writes_in q y.state.datagram.at y.datagram p ≡ written_in y.account.waits y.datagram p
      go question.Nothing u = sym (ap (λ (x : Shown). written_in x y.datagram p) u.0)
      go (question.Mask k) u = sym (ap (λ (x : Shown). written_in x y.datagram p) u.2.0)
      go (question.Opening k n) u =
          ap (λ (x : ℕ). choose (leb (length p) k.length) (splice (y.state.datagram.at + x) p y.datagram) y.datagram) (sym u.2.3)
          ∙ ap (λ (x : ℕ). choose (leb (length p) x) (splice (y.state.datagram.at + length u.2.0) p y.datagram) y.datagram) (sym u.2.4)
          ∙ sym (ap (λ (x : Shown). written_in x y.datagram p) u.2.2)

  read_answer : (r : HuskReading) (v : List ℕ) → receive.ReadCall r v w h.datagram → r ≡ flat_read (read_of y.state y.datagram)
  read_answer r v m =
      m.0 ∙ if_true _ _ a.flat ∙ ap (λ (s : Receiving). flat_read (read_of s h.datagram)) a.state ∙ at_own (λ (d : List ℕ). flat_read (read_of y.state d))

  write_square : (sealed : ℕ → List Sealed) → Sound y → (r : HuskReading) (p : List ℕ) → MadeIn h (host_writes r p)
      → takes i (with_bytes y (splice (r.start + r.header_len) p y.datagram)) ≡ does sealed i (write· p)
  write_square sealed o r p m =
      let e = read_answer r m.0.0 m.0.1 in
      ap (λ (d : List ℕ). takes i (with_bytes y d))
      (ap (λ (x : HuskReading). splice (x.start + x.header_len) p y.datagram) e
      ∙ (read_names y.state.keys y.state.datagram y.datagram p).1 (subst (λ (x : HuskReading). x.kind ≡ 7) e m.1) (subst (λ (x : HuskReading). length p ≤ x.length) e m.2)
      ∙ writes-same o p y.state.datagram.question refl)

  -- ---- a beginning, and behind it the first record read

  -- the words before it stand in for those between: only the keys are entered of them
  with-keys : (sealed : ℕ → List Sealed) (d : List ℕ) (o : Out) (s : Receiving) → s.keys ≡ y.state.keys → reads sealed (accepted i y.state 0 d) o ≡ reads sealed (accepted i s 0 d) o
  with-keys sealed d o s e = ap (λ (k : RecvKeys). reads sealed (accepted i (record { keys = k; datagram = s.datagram }) 0 d) o) (sym e)

  first-square : (sealed : ℕ → List Sealed) → Sound y → (r : HuskReading) (v d : List ℕ) → receive.BeginReadCall r v w d → ltb 16384 (length d) ≡ false
      → reads sealed (accepted i y.state 0 d) (out_by r v d) ≡ does sealed (begins i d) read·
  unfolding receive.first_reading receive.first_state after_read begin_owed
  first-square sealed o r v d m t =
      let s = (begin_of y.state (length d)).state in
      let z : 0 ≡ answer_number (begin_of y.state (length d)).answer = sym (if_false _ _ t) ∙ sym (begin_told y o d) in
      let q : eqb (answer_number (begin_of y.state (length d)).answer) 0 ≡ true = ap (λ (n : ℕ). eqb n 0) (sym z) in
      ap (reads sealed (accepted i y.state 0 d))
      (entered r v d (read_of s d) d (read_names s.keys s.datagram d []).0
      (m.0 ∙ if_true _ _ a.flat ∙ ap (λ (x : Receiving). receive.first_reading (begin_of x (length d)) d) a.state ∙ if_true _ _ q)
      (m.1 ∙ if_true _ _ a.flat ∙ ap (λ (x : Receiving). receive.first_state (begin_of x (length d)) d) a.state ∙ if_true _ _ q) refl)
      ∙ with-keys sealed d (read_out s d) s (begin_keys y.state (length d))
      ∙ ap (λ (j : Inbound). does sealed j read·) (begins-fits i d 0 z t)

  -- refused: nothing is read
  pub long-answer : Sound y → (r : HuskReading) (v d : List ℕ) → receive.BeginReadCall r v w d → ltb 16384 (length d) ≡ true → r ≡ bare 0 1
  unfolding receive.first_reading begin_owed
  long-answer o r v d m t =
      let z : answer_number (begin_of y.state (length d)).answer ≡ 1 = begin_told y o d ∙ if_true _ _ t in
      m.0 ∙ if_true _ _ a.flat ∙ ap (λ (x : Receiving). receive.first_reading (begin_of x (length d)) d) a.state
      ∙ if_false _ _ (ap (λ (n : ℕ). eqb n 0) z) ∙ ap (bare 0) z

  -- not refused: the first record's reading
  pub first-whole : Sound y → (r : HuskReading) (v d : List ℕ) → receive.BeginReadCall r v w d → ltb 16384 (length d) ≡ false → Whole r
  unfolding receive.first_reading begin_owed
  first-whole o r v d m t =
      let q : eqb (answer_number (begin_of y.state (length d)).answer) 0 ≡ true = ap (λ (n : ℕ). eqb n 0) (begin_told y o d ∙ if_false _ _ t) in
      whole r (read_of (begin_of y.state (length d)).state d)
      (m.0 ∙ if_true _ _ a.flat ∙ ap (λ (x : Receiving). receive.first_reading (begin_of x (length d)) d) a.state ∙ if_true _ _ q)

  long-square : Sound y → (r : HuskReading) (v d : List ℕ) → receive.BeginReadCall r v w d → ltb 16384 (length d) ≡ true
      → refused i (state_of v) r.refusal d ≡ begins i d
  unfolding receive.first_state begin_owed
  long-square o r v d m t =
      let z : answer_number (begin_of y.state (length d)).answer ≡ 1 = begin_told y o d ∙ if_true _ _ t in
      ap (λ (s : Receiving). refused i s r.refusal d)
      (m.1 ∙ if_true _ _ a.flat ∙ ap (λ (x : Receiving). receive.first_state (begin_of x (length d)) d) a.state
      ∙ if_false _ _ (ap (λ (n : ℕ). eqb n 0) z))
      ∙ begins-long i d r.refusal (ap (λ (x : HuskReading). x.refusal) (long-answer o r v d m t) ∙ sym z) t

  -- ---- every receiving call

  chosen : (sealed : ℕ → List Sealed) (t : Bool) (g l : Inbound) (cs ds : List Call) → (t ≡ true → g ≡ does_all sealed i cs) → (t ≡ false → l ≡ does_all sealed i ds)
      → choose t g l ≡ does_all sealed i (choose t cs ds)
  unfolding choose
  chosen sealed true g l cs ds f k = f refl
  chosen sealed false g l cs ds f k = k refl

  pub in_square : (sealed : ℕ → List Sealed) → Sound y → (c : InCall) → MadeIn h c → entered_in sealed i c ≡ does_all sealed i (calls_of c)
  in_square sealed o (husk_receiving_key r v k iv) m =
      let s = behind-state (λ s. key_of s k iv) r v m in
      let e = behind-answer (λ s. key_of s k iv) r v m in
      λ j. tells i (with_state y (s j) (keys y.account k iv)) (e j) (key_owed y.account k)
  in_square sealed o (husk_receiving_remove r v k) m =
      let s = removes_as y (state_of v) k (m.1 ∙ if_true _ _ a.flat ∙ ap (λ (s : Receiving). (remove_of s k).state) a.state) in
      let e = ap number_told (m.0 ∙ if_true _ _ a.flat ∙ ap (λ (s : Receiving). removed_told (remove_of s k).answer) a.state) ∙ number-told (remove_of y.state k).answer in
      λ j. tells i (s j) (e j) (remove_owed y k)
  in_square sealed o (husk_receiving_enable_encryption r v) m =
      let s = behind-state encrypt_of r v m in
      let e = behind-answer encrypt_of r v m in
      λ j. tells i (with_state y (s j) (flagged y.account true y.account.released)) (e j) 0
  in_square sealed o (husk_receiving_release_application_data r v) m =
      let s = behind-state release_of r v m in
      let e = behind-answer release_of r v m in
      λ j. tells i (with_state y (s j) (flagged y.account y.account.encryption true)) (e j) 0
  in_square sealed o (husk_receiving_begin r v d) m = begin_square o r v d m
  in_square sealed o (husk_receiving_begin_read r v d) m =
      chosen sealed (ltb 16384 (length d)) _ _ (begin· d ∷ []) (begin· d ∷ read· ∷ []) (λ t. long-square o r v d m t) (λ t. first-square sealed o r v d m t)
  in_square sealed o (husk_receiving_read r v) m = read-square sealed r v m
  in_square sealed o (husk_receiving_mask r v n₀ n₁ e) m = mask-square sealed r v n₀ n₁ e m
  in_square sealed o (husk_receiving_opened r v k len) m =
      chosen sealed (leb k 1) _ _ (open· (opening_of k len) ∷ []) [] (λ t. open_square sealed r v k len m t) (λ t. no_open r v k len h.datagram m t)
  in_square sealed o (husk_receiving_read_over r v d) m = ap (strays i d) (read-out r v d m)
  in_square sealed o (husk_receiving_mask_over r v n₀ n₁ e d) m = ap (strays i d) (mask-out r v n₀ n₁ e d m)
  in_square sealed o (husk_receiving_opened_over r v k len d) m =
      chosen sealed (leb k 1) _ _ (open_over· (opening_of k len) d ∷ []) [] (λ t. ap (strays i d) (open-out r v k len d m t)) (λ t. no_open r v k len d m t)
  in_square sealed o (host_writes r p) m = write_square sealed o r p m

  -- ---- the words stand for the log's state

  by_answer : (t : Bool) (x d₀ d₁ : List ℕ) (g l : Inbound) → is_flat x ≡ true → (state_of x ≡ g.into.state) × (d₀ ≡ g.into.datagram) → (state_of x ≡ l.into.state) × (d₁ ≡ l.into.datagram)
      → StandsIn (record { words = x; datagram = choose t d₀ d₁ }) (choose t g l)
  unfolding choose
  by_answer true x d₀ d₁ g l f p q = record { flat = f; state = p.0; datagram = p.1 }
  by_answer false x d₀ d₁ g l f p q = record { flat = f; state = q.0; datagram = q.1 }

  -- the same bytes either way
  by-reply : (t : Bool) (x d : List ℕ) (g l : Inbound) → is_flat x ≡ true → (state_of x ≡ g.into.state) × (d ≡ g.into.datagram) → (state_of x ≡ l.into.state) × (d ≡ l.into.datagram)
      → StandsIn (record { words = x; datagram = d }) (choose t g l)
  unfolding choose
  by-reply true x d g l f p q = record { flat = f; state = p.0; datagram = p.1 }
  by-reply false x d g l f p q = record { flat = f; state = q.0; datagram = q.1 }

  pub in_stands : (sealed : ℕ → List Sealed) (c : InCall) → MadeIn h c → StandsIn (behind_in h c) (entered_in sealed i c)
  in_stands sealed (husk_receiving_key r v k iv) m = record { flat = m.2 ∙ a.flat; state = refl; datagram = a.datagram }
  in_stands sealed (husk_receiving_remove r v k) m =
      let z = removed-to y (state_of v) k in record { flat = m.2 ∙ a.flat; state = sym z.0; datagram = a.datagram ∙ sym z.1 }
  in_stands sealed (husk_receiving_enable_encryption r v) m = record { flat = m.2 ∙ a.flat; state = refl; datagram = a.datagram }
  in_stands sealed (husk_receiving_release_application_data r v) m = record { flat = m.2 ∙ a.flat; state = refl; datagram = a.datagram }
  in_stands sealed (husk_receiving_begin r v d) m = by_answer (eqb r 0) v d h.datagram _ _ (m.2 ∙ a.flat) (refl, refl) (refl, a.datagram)
  in_stands sealed (husk_receiving_begin_read r v d) m =
      by_answer (ltb 16384 (length d)) v h.datagram d _ _ (m.2 ∙ a.flat) (refl, a.datagram) (refl, refl)
  in_stands sealed (husk_receiving_read r v) m = record { flat = m.2 ∙ a.flat; state = refl; datagram = a.datagram }
  in_stands sealed (husk_receiving_mask r v n₀ n₁ e) m = record { flat = m.0.2 ∙ a.flat; state = refl; datagram = refl }
  in_stands sealed (husk_receiving_opened r v k len) m = by-reply (leb k 1) v h.datagram _ _ (m.2 ∙ a.flat) (refl, a.datagram) (refl, a.datagram)
  in_stands sealed (husk_receiving_read_over r v d) m = record { flat = m.2 ∙ a.flat; state = refl; datagram = a.datagram }
  in_stands sealed (husk_receiving_mask_over r v n₀ n₁ e d) m = record { flat = m.0.2 ∙ a.flat; state = refl; datagram = a.datagram }
  in_stands sealed (husk_receiving_opened_over r v k len d) m = by-reply (leb k 1) v h.datagram _ _ (m.2 ∙ a.flat) (refl, a.datagram) (refl, a.datagram)
  in_stands sealed (host_writes r p) m = record { flat = a.flat; state = a.state; datagram = at_own (splice (r.start + r.header_len) p) }

  -- ---- the answers

  pub opened-answer : (r : HuskReading) (v : List ℕ) (o len : ℕ) (d : List ℕ) → receive.OpenedCall r v w o len d
      → r ≡ choose (leb o 1) (flat_read (opened_of (state_of w) (opening_of o len) d)) (bare 0 12)
  opened-answer r v o len d m =
      test_cases (leb o 1) (λ t. m.0 ∙ if_true _ _ (both_true t ∙ a.flat) ∙ sym (if_true _ _ t)) (λ t. m.0 ∙ if_false _ _ (both_false _ t) ∙ sym (if_false _ _ t))

  -- every field of a reading is as told
  pub read_whole : (r : HuskReading) (v d : List ℕ) → receive.ReadCall r v w d → Whole r
  read_whole r v d m = whole r (read_of (state_of w) d) (m.0 ∙ if_true _ _ a.flat)

  -- of a mask reply
  pub mask-whole : (r : HuskReading) (v : List ℕ) (n₀ n₁ : ℕ) (e d : List ℕ) → receive.MaskCall r v w n₀ n₁ e d → Whole r
  mask-whole r v n₀ n₁ e d m = whole r (mask_of (state_of w) (receive.masks n₀ n₁) d).0 (m.0.0 ∙ if_true _ _ a.flat)

  -- of an opening reply, one neither 0 nor 1 too
  pub opened-whole : (r : HuskReading) (v : List ℕ) (o len : ℕ) (d : List ℕ) → receive.OpenedCall r v w o len d → Whole r
  opened-whole r v o len d m =
      test_cases (leb o 1) (λ t. whole r (opened_of (state_of w) (opening_of o len) d) (opened-answer r v o len d m ∙ if_true _ _ t))
      (λ t. no_reply-whole r (opened-answer r v o len d m ∙ if_false _ _ t))

  -- a removal's answer is told by its number
  pub remove_answer : (r : HuskTold) (v : List ℕ) (k : ℕ) → receive.RemoveReceiveCall r v w k → r ≡ removal_told (number_told r)
  remove_answer r v k m =
      let e = m.0 ∙ if_true _ _ a.flat in
      e ∙ told_back (remove_of (state_of w) k).answer ∙ sym (ap (λ (x : HuskTold). removal_told (number_told x)) e)

  pub in_answer : (c : InCall) → MadeIn h c → AnsweredIn h c
  in_answer (husk_receiving_key r v k iv) m = m.0 ∙ if_true _ _ a.flat
  in_answer (husk_receiving_remove r v k) m = m.0 ∙ if_true _ _ a.flat
  in_answer (husk_receiving_enable_encryption r v) m = m.0 ∙ if_true _ _ a.flat
  in_answer (husk_receiving_release_application_data r v) m = m.0 ∙ if_true _ _ a.flat
  in_answer (husk_receiving_begin r v d) m = m.0 ∙ if_true _ _ a.flat
  in_answer (husk_receiving_begin_read r v d) m = m.0 ∙ if_true _ _ a.flat
  in_answer (husk_receiving_read r v) m = m.0 ∙ if_true _ _ a.flat
  in_answer (husk_receiving_mask r v n₀ n₁ e) m = m.0.0 ∙ if_true _ _ a.flat
  in_answer (husk_receiving_opened r v k len) m = opened-answer r v k len h.datagram m
  in_answer (husk_receiving_read_over r v d) m = m.0 ∙ if_true _ _ a.flat
  in_answer (husk_receiving_mask_over r v n₀ n₁ e d) m = m.0.0 ∙ if_true _ _ a.flat
  in_answer (husk_receiving_opened_over r v k len d) m = opened-answer r v k len d m
  in_answer (host_writes r p) m = m.0.1.0 ∙ if_true _ _ a.flat
