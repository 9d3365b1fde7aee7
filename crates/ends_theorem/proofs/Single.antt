-- One record sent, saved or noted, and the ACK: each call does what the account says. Assumes nothing.
use Prim.Native.Nat.{ℕ, zero, suc, ◌+◌, ◌*◌, ◌≤◌, ◌<◌}
use Rattle.std.proofs.Common.{ltb-true, le-ltb, length-append, length-set, get_or-set_same, get_or-set_other, true≢false, subst, ◌∙◌, arith}
use Rattle.std.proofs.Math.Dec.{eqb}
use Rattle.std.specs.Prelude.{leb, ltb, set, ◌≡◌, Ok, Err}
use Rattle.std.proofs.Math.ListN.{length}
use Rattle.std.proofs.Math.Bool.{true, false}
use mathlib.Core.List.{List, [], ◌∷◌, ◌++◌}
use Rattle.std.proofs.Math.Path.{refl, sym, ap}
use Rattle.base.specs.Bytes.{be}
use Rattle.base.specs.Choose.{choose, if_true, if_false, test_cases}
use Rattle.send_keys.specs.declared.SendKeys.{SendKeys}
use Rattle.send_keys.specs.Keys.{is_usable, is_keyed}
use Rattle.send_keys.specs.declared.SendError.TheVariants as send
use Rattle.outgoing.specs.declared.Sending.{Sending}
use Rattle.outgoing.specs.Send.{laid_state, laid_memory, send_answer, send_state, send_memory}
use Rattle.outgoing.specs.State.{is_allowed}
use Rattle.flight.specs.Save.{save_answer, save_state, save_queue, save_kept, save_safe}
use Rattle.acks.specs.declared.Notes.{Notes}
use Rattle.acks.specs.declared.Noting.{Noting}
use Rattle.acks.specs.Acks.{noted, forgotten, ack_epoch, pair_of, pairs_of, ack_content, ack_len, ack_answer, notice_state, notice_memory, ack_sent, sent_ack, ack_memory}
use Rattle.acks.proofs.Acks.{length-content, pairs_next}
use Rattle.waiting_laws.specs.Answers.{note_reply}
use Rattle.waiting_laws.specs.Calls.{Stores, send·, save·, note·, send_ack·, only}
use Rattle.waiting_laws.proofs.Sends.{Sent, sent, saved}
use Rattle.history_theorem.proofs.Lists.{by_both}
use Rattle.send_keys.specs.Answer.{SendAnswer, is_done, refusal}
use Rattle.ends_theorem.proofs.Books as books
use Rattle.ends_theorem.proofs.Books.{written, ack_books}
use Rattle.ends_theorem.proofs.Laws.{Told, done-by}
use Rattle.ends_theorem.specs.Ledger as ledger
use Rattle.ends_theorem.specs.Ledger.{
  Kept,
  Name,
  Ledger,
  with_noted,
  lays,
  queue_number,
  flight_number,
  send_number,
  saves,
  save_number,
  Going,
  names_bytes,
  ack_bytes,
  acking,
  after,
  sent_by,
}
use Rattle.ends_theorem.proofs.Matches.{KeysAre, Listed, Matches, Does}
use Rattle.ends_theorem.proofs.Matching.{usable-is, keyed-is, allowed-is, ready-is, kept-is, over-is, queue-number, laid_stores, laid-matches, beside, saved-matches, wholly}
use Rattle.ends_theorem.specs.Sender.{Books, enters, enters_all}

-- ---- the answer, and its number

-- 13, 14, 17, and what comes behind them
tests_number : (w : Stores) (l : Ledger) → Matches w l → (e t n : ℕ) (x : SendAnswer) (m : ℕ) → (is_usable w.state.keys e ≡ true → refusal x ≡ m)
    → refusal (choose (is_usable w.state.keys e) (choose (is_allowed w.state.queue.mtu e t n) (choose (is_keyed w.state.keys e) x (Err send.KeysAbsent)) (Err send.BadRecord)) (Err send.BadEpoch))
    ≡ choose (ledger.is_usable l e) (choose (ledger.is_allowed l e t n) (choose (ledger.has_keys l e) m 17) 14) 13
tests_number w l i e t n x m h =
    by_both Told (sym (usable-is i.keys e))
    (λ u. by_both Told (sym (allowed-is w.state.queue.mtu l i.mtu e t n)) (λ a. by_both Told (sym (keyed-is i.keys e)) (λ k. h u) (λ k. refl)) (λ a. refl))
    (λ u. refl)

send-number : (w : Stores) (l : Ledger) → Matches w l → (e t n : ℕ) → refusal (send_answer w.state (length w.queue) e t n) ≡ send_number l e t n
unfolding send_answer send_number
send-number w l i e t n =
    ap refusal (if_true _ _ (ready-is w l i)) ∙ tests_number w l i e t n _ (queue_number (lays l e n) e) (queue-number w l i e n)

save-number : (w : Stores) (l : Ledger) → Matches w l → (e t : ℕ) (x : List ℕ)
    → refusal (save_answer w.state w.flight (length w.queue) (length w.kept) e t (length x)) ≡ save_number l e t x
unfolding save_answer save_number flight_number queue_number saves lays
save-number w l i e t x =
    let new : Kept = record { epoch = e; type = t; content = x; sendings = l.next e ∷ []; acked = false } in
    let full : leb 12 w.flight.saved ≡ ltb 12 (length (saves l e t x).saved) =
    over-is 12 w.flight.saved ∙ ap (ltb 12) (ap (λ (n : ℕ). n + 1) (sym i.flight.count) ∙ sym (length-append l.saved (new ∷ []))) in
    ap refusal (if_true _ _ (ready-is w l i))
    ∙ by_both Told (sym (kept-is w l i))
    (λ r. tests_number w l i e t (length x) _ (flight_number (saves l e t x) e) (λ u. by_both Told (sym full) (λ f. refl) (λ f. queue-number w l i e (length x) u))) (λ r. refl)

-- the books have the record as the account has it
written_is : (w : Stores) (l : Ledger) → Matches w l → (e t : ℕ) (x : List ℕ) (b : Books) → is_usable w.state.keys e ≡ true
    → written w.state e t x b ≡ enters (record { epoch = e; num = l.next e; type = t; content = x }) b
written_is w l i e t x b u = ap (λ (n : ℕ). enters (record { epoch = e; num = n; type = t; content = x }) b) (i.keys.next e u)

-- ---- a record sent

pub send_does : (w : Stores) (l : Ledger) → Matches w l → (e t : ℕ) (x : List ℕ) → Does w l (send· e t x)
unfolding send_state send_memory books.lays choose
send_does w l i e t x =
    let a : SendAnswer = send_answer w.state (length w.queue) e t (length x) in
    let number = send-number w l i e t (length x) in
    let tests = sent w.state (length w.queue) e t (length x) in
    wholly w l i (send· e t x) (is_done a) (ap only number) (done-by a number)
    (λ d. rw d (laid-matches w l i e t x (tests d))) (λ d. rw d) (λ d b. rw d (written_is w l i e t x b (tests d).usable)) (λ d b. rw d)

-- ---- and saved

pub save_does : (w : Stores) (l : Ledger) → Matches w l → (e t : ℕ) (x : List ℕ) → Does w l (save· e t x)
unfolding save_state save_queue save_kept books.lays choose
save_does w l i e t x =
    let a : SendAnswer = save_answer w.state w.flight (length w.queue) (length w.kept) e t (length x) in
    let number = save-number w l i e t x in
    let tests = saved w.state w.flight (length w.queue) (length w.kept) e t (length x) in
    let safe = save_safe w.state w.flight (length w.queue) (length w.kept) e t (length x) in
    wholly w l i (save· e t x) (is_done a) (ap only number) (done-by a number)
    (λ d. rw d (saved-matches w l i e t x (tests d) (safe d).keeps)) (λ d. rw d) (λ d b. rw d (written_is w l i e t x b (tests d).usable)) (λ d b. rw d)

-- ---- a record noted

names_more : (ks : List Name) (e n : ℕ) → names_bytes (ks ++ (record { epoch = e; num = n } ∷ [])) ≡ names_bytes ks ++ pair_of e n
unfolding pair_of
names_more [] e n = refl
names_more (k ∷ ks) e n = ap (λ (l : List ℕ). be 8 k.epoch ++ (be 8 k.num ++ l)) (names_more ks e n)

-- the notes with one more
abbrev one_more : Notes → ℕ → ℕ → Notes
one_more s e n = record { count = s.count + 1; epochs = set s.epochs s.count e; numbers = set s.numbers s.count n }

pairs-older : (s : Notes) (e n k : ℕ) → k ≤ s.count → pairs_of (one_more s e n) k ≡ pairs_of s k
unfolding pairs_of
pairs-older s e n zero h = refl
pairs-older s e n (suc k) h =
    let a = pairs-older s e n k (omega arith) in
    let b = get_or-set_other s.epochs s.count k e 0 (λ q. omega arith) in
    let c = get_or-set_other s.numbers s.count k n 0 (λ q. omega arith) in
    λ i. a i ++ pair_of (b i) (c i)

more-listed : (s : Notes) (ks : List Name) (e n : ℕ) → Listed s ks → length ks < 32 → Listed (one_more s e n) (ks ++ (record { epoch = e; num = n } ∷ []))
more-listed s ks e n i few =
    let new : Name = record { epoch = e; num = n } in
    record {
      count = ap (λ (x : ℕ). x + 1) i.count ∙ sym (length-append ks (new ∷ []));
      most = omega (arith, length-append ks (new ∷ []));
      epochs = length-set s.epochs s.count e ∙ i.epochs;
      numbers = length-set s.numbers s.count n ∙ i.numbers;
      pairs = pairs_next (one_more s e n) s.count
          ∙ (λ j. pairs-older s e n s.count (omega arith) j
          ++ pair_of (get_or-set_same s.epochs s.count e 0 (omega (arith, i.count, i.epochs)) j) (get_or-set_same s.numbers s.count n 0 (omega (arith, i.count, i.numbers)) j))
          ∙ ap (λ (v : List ℕ). v ++ pair_of e n) i.pairs ∙ sym (names_more ks e n);
    }

pub note_does : (w : Stores) (l : Ledger) → Matches w l → (e n : ℕ) → Does w l (note· e n)
unfolding noted after sent_by choose
note_does w l i e n =
    let s : Notes = w.notes in
    let h = i.noted in
    let few : ltb 32 s.count ≡ false = le-ltb 32 s.count (omega (arith, h.count, h.most)) in
    let same_test : ltb (length l.noted) 32 ≡ ltb s.count 32 = ap (λ (x : ℕ). ltb x 32) (sym h.count) in
    let P : Noting → ℕ → Type 0 = λ r told. note_reply r.answer ≡ record { number = 0; told = told } in
    let Q : Noting → List Name → Type 0 = λ r ks. Listed r.notes ks in
    record {
      reply = rw few (by_both P same_test (λ z. refl) (λ z. refl));
      leaves = beside w l i w.flight w.kept _ l.saved _ refl i.flight
          (rw few (by_both Q same_test (λ z. more-listed s l.noted e n h (ltb-true _ _ (same_test ∙ z))) (λ z. h)));
      books = λ b. refl;
    }

-- ---- the ACK

forget_listed : (s : Notes) (ks : List Name) → Listed s ks → Listed (forgotten s) []
unfolding forgotten pairs_of
forget_listed s ks i = record { count = refl; most = omega arith; epochs = i.epochs; numbers = i.numbers; pairs = refl }

content-is : (s : Notes) (ks : List Name) → Listed s ks → ack_content s ≡ ack_bytes ks
unfolding ack_content
content-is s ks i = λ j. be 2 (i.count j * 16) ++ i.pairs j

epoch-is : {k : SendKeys} {l : Ledger} → KeysAre k l → ack_epoch k ≡ ledger.ack_epoch l
unfolding ack_epoch
epoch-is i = ap (λ (a : ℕ). choose (eqb a 0) 2 a) i.application

module _ (w : Stores) (l : Ledger) (i : Matches w l) where
  -- 12 cannot come
  in-range : ack_answer w.state w.notes (length w.queue) ≡ Ok tt
  unfolding ack_answer
  in-range = if_false _ _ (le-ltb 32 w.notes.count (omega (arith, i.noted.count, i.noted.most))) ∙ if_true _ _ (ready-is w l i)

  -- the test that none is noted
  none_test : eqb (length l.noted) 0 ≡ eqb w.notes.count 0
  none_test = ap (λ (n : ℕ). eqb n 0) (sym i.noted.count)

  none-does : eqb w.notes.count 0 ≡ true → Does w l send_ack·
  unfolding sent_ack ack_memory ack_books ledger.ack_reply acking after sent_by choose
  none-does y =
      let z : eqb (length l.noted) 0 ≡ true = none_test ∙ y in
      let none : acking l ≡ record { ledger = l; sent = [] } = if_true _ _ z in
      wholly w l i send_ack· true (rw (in-range, y, z)) (rw z) (λ d. rw (in-range, y) (subst (Matches w) (ap (λ (g : Going). g.ledger) (sym none)) i)) (λ d. absurd (true≢false d))
      (λ d b. rw (in-range, y) (ap (λ (g : Going). enters_all g.sent b) (sym none))) (λ d. absurd (true≢false d))

  some-does : eqb w.notes.count 0 ≡ false → Does w l send_ack·
  unfolding sent_ack ack_sent notice_state send_state ack_memory notice_memory send_memory ack_books books.lays ledger.ack_reply acking lays choose
  some-does y =
      let s : Sending = w.state in
      let room : ℕ = length w.queue in
      let z : eqb (length l.noted) 0 ≡ false = none_test ∙ y in
      let e : ℕ = ack_epoch s.keys in
      let x : List ℕ = ack_content w.notes in
      let a : SendAnswer = send_answer s room e 26 (ack_len w.notes) in
      let epoch = epoch-is i.keys in
      let size : ack_len w.notes ≡ 2 + length l.noted * 16 = ap (λ (c : ℕ). 2 + c * 16) i.noted.count in
      let number : refusal a ≡ send_number l (ledger.ack_epoch l) 26 (2 + length l.noted * 16) =
      send-number w l i e 26 (ack_len w.notes) ∙ λ j. send_number l (epoch j) 26 (size j) in
      let tests = sent s room e 26 (ack_len w.notes) in
      let at : ℕ → Stores =
      λ m. record { state = laid_state s e m; queue = laid_memory s e 26 x w.queue; flight = w.flight; kept = w.kept; notes = forgotten w.notes } in
      let long = length-content w.notes in
      let goes : record {
        ledger = with_noted (lays l (ledger.ack_epoch l) (2 + length l.noted * 16)) [];
        sent = record { epoch = ledger.ack_epoch l; num = l.next (ledger.ack_epoch l); type = 26; content = ack_bytes l.noted } ∷ [];
      } ≡ acking l =
      sym (if_false _ _ z) in
      wholly w l i send_ack· (is_done a) (rw (in-range, y, z) (λ j. record { number = number j; told = choose (sym (done-by a number) j) 1 0 })) (rw z (done-by a number))
      (λ d.
      rw (in-range, y, d)
      (subst (Matches (at (ack_len w.notes))) ((λ j. with_noted (lays l (epoch j) (size j)) []) ∙ ap (λ (g : Going). g.ledger) goes)
      (subst (λ (m : ℕ). Matches (at m) (with_noted (lays l e m) [])) long
      (beside (laid_stores w e 26 x) (lays l e (length x)) (laid-matches w l i e 26 x (subst (Sent s room e 26) (sym long) (tests d)))
      w.flight w.kept (forgotten w.notes) l.saved [] refl i.flight (forget_listed w.notes l.noted i.noted)))))
      (λ d. rw (in-range, y, d))
      (λ d b.
      rw (in-range, y, d)
      (written_is w l i e 26 x b (tests d).usable
      ∙ (λ j. enters (record { epoch = epoch j; num = l.next (epoch j); type = 26; content = content-is w.notes l.noted i.noted j }) b)
      ∙ ap (λ (g : Going). enters_all g.sent b) goes))
      (λ d b. rw (in-range, y, d))

  pub send_ack_does : Does w l send_ack·
  send_ack_does = test_cases (eqb w.notes.count 0) none-does some-does
