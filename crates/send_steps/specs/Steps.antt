-- What a record sent reads and writes of the words, and that its steps are the definition's. Assumes nothing.
use Rattle.std.specs.Prelude.{Bool, true, false, ◌≡◌, refl, is_ok, Result, Ok, Err, ⊤, ℕ, zero, suc, ◌+◌, ◌*◌, ◌≤◌, ◌<◌, ◌%◌, leb, eqb, length, get_or, set}
use Rattle.std.proofs.lemmas.Bool.{false≢true}
use mathlib.Core.List.{List}
use Rattle.std.proofs.Math.Path.{sym, ap}
use Rattle.std.proofs.Common.{◌∙◌, arith, eq-eqb, ne_eqb}
use Rattle.base.specs.Choose.{choose, by_test, both, either, both_left, both_right, both_true, if_true, if_false}
use Rattle.queue.specs.declared.Place.{Place}
use Rattle.queue.specs.Queue.{is_ready, slot_of, laid, slot_lt, Fits, spot, with_end}
use Rattle.queue.specs.Laid.{record_len}
use Rattle.send_keys.specs.declared.SendKeys.{SendKeys}
use Rattle.send_keys.specs.Keys.{is_usable, is_keyed, next_of, used, with_next, next-plaintext, next-handshake, next-application, with_plaintext, with_handshake, with_application}
use Rattle.outgoing.specs.declared.Sending.{Sending}
use Rattle.outgoing.specs.declared.Waiting.{Waiting}
use Rattle.outgoing.specs.State.{is_allowed, with_keys, with_queue, with_waiting}
use Rattle.outgoing.specs.Send.{spot_of, is_full, is_spent, send_answer, waits_behind, laid_state, Clear}
use Rattle.outgoing.proofs.Send.{clear-short, clear-fits}
use Rattle.words.specs.Fields.{first_of, by-words, low_bit, low-back}
use Rattle.send_words.specs.Words.{words, count_at, closed_at, sealing-at, plaintext-next-at, handshake-next-at, application-next-at, length_at, lows_from, state_of, is_flat, put_waiting}
use Rattle.send_words.specs.Partly.{Partly, low-waiting, waiting-back}
use Rattle.std.specs.Result.{result_and, result_unwrap_or}
use Rattle.send_keys.specs.Answer.{SendAnswer}
use Rattle.send_keys.specs.declared.SendError.{SendError}
use Rattle.send_keys.specs.declared.SendError.TheVariants.{OutOfRange, BadEpoch, BadRecord, KeysAbsent, QueueFull, NumbersSpent}

-- ---- the answer in its steps

-- the place, where the answer is done
abbrev pub placed : SendAnswer → Place → Result Place SendError
placed a p = result_and a (Ok p)

-- the tests of epoch and type, and what comes behind them
abbrev pub epoch_tests : Bool → Bool → Bool → SendAnswer → SendAnswer
epoch_tests u l y a = choose u (choose l (choose y a (Err KeysAbsent)) (Err BadRecord)) (Err BadEpoch)

-- 13, 14, 17
unfoldable pub epoch_answer : Sending → ℕ → ℕ → ℕ → SendAnswer
epoch_answer s e t n = epoch_tests (is_usable s.keys e) (is_allowed s.queue.mtu e t n) (is_keyed s.keys e) (Ok tt)

-- 19, 20
unfoldable pub room_answer : Sending → ℕ → ℕ → SendAnswer
room_answer s e n = choose (is_full s e n) (Err QueueFull) (choose (is_spent s e) (Err NumbersSpent) (Ok tt))

abbrev pub behind : SendAnswer → SendAnswer → SendAnswer
behind a b = result_and a b

pub tests-behind : (u l y : Bool) (a : SendAnswer) → behind (epoch_tests u l y (Ok tt)) a ≡ epoch_tests u l y a
unfolding choose
tests-behind true true true a = refl
tests-behind true true false a = refl
tests-behind true false y a = refl
tests-behind false l y a = refl

in-turn : (s : Sending) (room e t n : ℕ) → is_ready s.queue room ≡ true → send_answer s room e t n ≡ behind (epoch_answer s e t n) (room_answer s e n)
unfolding send_answer epoch_answer room_answer
in-turn s room e t n r = if_true _ _ r ∙ sym (tests-behind (is_usable s.keys e) (is_allowed s.queue.mtu e t n) (is_keyed s.keys e) (room_answer s e n))

-- what a place, or none, tells of the answer
pub placed-done : (a : SendAnswer) {p x : Place} → placed a p ≡ Ok x → (a ≡ Ok tt) × (x ≡ p)
placed-done (Ok tt) {p} h = (refl, sym (ap (λ (r : Result Place SendError). result_unwrap_or r p) h))
placed-done (Err e) h = absurd (false≢true (ap is_ok h))

pub placed-refused : (a : SendAnswer) (p : Place) {e : SendError} → placed a p ≡ Err e → a ≡ Err e
placed-refused (Ok tt) p h = absurd (false≢true (sym (ap is_ok h)))
placed-refused (Err e) p h = ap (λ (r : Result Place SendError). result_and {U = ⊤} r (Ok tt)) h

module _ (s : Sending) (e n : ℕ) (p : Place) where
  pub no-room : is_full s e n ≡ true → Err QueueFull ≡ placed (room_answer s e n) p
  unfolding room_answer
  no-room f = ap (λ (a : SendAnswer). placed a p) (sym (if_true _ _ f))

  module _ (f : is_full s e n ≡ false) where
    pub no-number : is_spent s e ≡ true → Err NumbersSpent ≡ placed (room_answer s e n) p
    unfolding room_answer
    no-number x = ap (λ (a : SendAnswer). placed a p) (sym (if_false _ _ f ∙ if_true _ _ x))

    pub has-room : is_spent s e ≡ false → Ok p ≡ placed (room_answer s e n) p
    unfolding room_answer
    has-room x = ap (λ (a : SendAnswer). placed a p) (sym (if_false _ _ f ∙ if_false _ _ x))

module _ (s : Sending) (room e t n : ℕ) (p : Place) where
  pub not_ready : is_ready s.queue room ≡ false → Err OutOfRange ≡ placed (send_answer s room e t n) p
  unfolding send_answer
  not_ready r = ap (λ (a : SendAnswer). placed a p) (sym (if_false _ _ r))

  module _ (r : is_ready s.queue room ≡ true) where
    answer-by : {a : SendAnswer} → epoch_answer s e t n ≡ a → send_answer s room e t n ≡ behind a (room_answer s e n)
    answer-by h = in-turn s room e t n r ∙ ap (λ (a : SendAnswer). behind a (room_answer s e n)) h

    pub not_sent : {x : SendError} → epoch_answer s e t n ≡ Err x → Err x ≡ placed (send_answer s room e t n) p
    not_sent h = ap (λ (a : SendAnswer). placed a p) (sym (answer-by h))

    pub then_placed : {v : Result Place SendError} → epoch_answer s e t n ≡ Ok tt → v ≡ placed (room_answer s e n) p → v ≡ placed (send_answer s room e t n) p
    then_placed h v = v ∙ ap (λ (a : SendAnswer). placed a p) (sym (answer-by h))

pub allowed : (s : Sending) (e t n : ℕ) → epoch_answer s e t n ≡ Ok tt → is_allowed s.queue.mtu e t n ≡ true
unfolding epoch_answer
allowed s e t n =
    by_test (λ (a : SendAnswer). a ≡ Ok tt → is_allowed s.queue.mtu e t n ≡ true)
    (λ u. by_test (λ (a : SendAnswer). a ≡ Ok tt → is_allowed s.queue.mtu e t n ≡ true) (λ l h. l) (λ l h. absurd (false≢true (ap is_ok h))))
    (λ u h. absurd (false≢true (ap is_ok h)))

-- ---- what is written

abbrev pub waiting_at : ℕ → ℕ → ℕ → ℕ → ℕ → Waiting
waiting_at e n slot start number = record { any = true; slot = slot; start = start; length = n + 17; epoch = e; number = number }

-- the sealing that waits behind a record laid
abbrev pub waits : Waiting → ℕ → ℕ → ℕ → ℕ → ℕ → Waiting
waits x e n slot start number =
    choose (either x.any (eqb e 0)) x (waiting_at e n slot start number)

-- so many datagrams, the last, in this slot, that long and open
abbrev pub end_at : Sending → ℕ → ℕ → ℕ → Sending
end_at s slot count len = with_queue s (with_end s.queue count false (set s.queue.lengths slot len))

-- a record can be laid in this slot under this number
pub record Lays (s : Sending) (p : Place) (i e n x : ℕ) : Type 0 where
  pub place : p ≡ spot_of s e n
  pub slot_is : i ≡ slot_of s.queue.first s.queue.limit p.datagram
  pub number_is : x ≡ next_of s.keys e
  pub slot : i < 16
  pub nth : p.datagram < 16
  pub short : n ≤ 1500
  pub end : p.offset + record_len e n ≤ 1500
  pub number : x < 281474976710655

pub lays : {s : Sending} {p : Place} {room e slot n number : ℕ} → Clear s room e n → p ≡ spot_of s e n → slot ≡ slot_of s.queue.first s.queue.limit p.datagram
    → number ≡ next_of s.keys e → Lays s p slot e n number
lays {s} {p} {room} {e} {slot} {n} {number} c h i j =
    let f = clear-fits c in
    let b : p.datagram < s.queue.limit = rw h c.datagram in
    let g : p.offset + record_len e n ≤ s.queue.mtu = rw h f.inside in
    let l = slot_lt s.queue.first s.queue.limit p.datagram c.ready.range.first b in
    let r = c.ready.range in
    record {
      place = h;
      slot_is = i;
      number_is = j;
      slot = omega (arith, r.limit);
      nth = omega (arith, r.limit);
      short = clear-short c;
      end = omega (arith, r.high);
      number = rw j c.number;
    }

-- its bytes lie in the buffer
pub at_slot : {s : Sending} {p : Place} {room e i n : ℕ} → Clear s room e n → p ≡ spot_of s e n → i ≡ slot_of s.queue.first s.queue.limit p.datagram
    → (i * s.queue.mtu + p.offset + record_len e n ≤ room) × (i * s.queue.mtu + p.offset + record_len e n ≤ 24000)
at_slot {s} {p} {room} {e} {i} {n} c h j =
    let f : Fits s.queue p (record_len e n) = rw h (clear-fits c) in
    let t = spot c.ready f in
    rw j (t.space, t.small)

-- number, sealing and end, one after the other
pub laid_by : {s : Sending} {p : Place} {slot e n number : ℕ} → Lays s p slot e n number
    → end_at (with_waiting (with_keys s (used s.keys e)) (waits s.waiting e n slot p.offset number)) slot (p.datagram + 1) (p.offset + record_len e n) ≡ laid_state s e n
unfolding laid_state waits_behind laid
laid_by l = rw (l.slot_is, l.number_is, l.place)

pub all_laid : (w a b v : List ℕ) {p : Place} {slot e n number : ℕ} → Lays (state_of w) p slot e n number
    → Partly (with_keys (state_of w) (used (state_of w).keys e)) w a
    → Partly (with_waiting (state_of a) (waits (state_of a).waiting e n slot p.offset number)) a b
    → Partly (end_at (state_of b) slot (p.datagram + 1) (p.offset + record_len e n)) b v
    → Partly (laid_state (state_of w) e n) w v
all_laid w a b v {p} {slot} {e} {n} {number} l x y z = (
  z.0
      ∙ ap (λ (s : Sending). end_at s slot (p.datagram + 1) (p.offset + record_len e n))
      (y.0 ∙ ap (λ (s : Sending). with_waiting s (waits s.waiting e n slot p.offset number)) x.0)
      ∙ laid_by l,
  λ f. z.1 (y.1 (x.1 f)),
)

-- ---- words written

abbrev Next : SendKeys → ℕ → ℕ → List ℕ → Type 0
Next k i x w = (state_of (set w i x) ≡ with_keys (state_of w) k) × (is_flat (set w i x) ≡ is_flat w)

abbrev next_handshake : SendKeys → ℕ → SendKeys
next_handshake k x = with_handshake k (with_next k.handshake x)

abbrev next_application : SendKeys → ℕ → SendKeys
next_application k x = with_application k (with_next k.application x)

module _ (w : List ℕ) (h : length w ≡ words) (x : ℕ) where
  plaintext-put : Next (with_plaintext (state_of w).keys x) plaintext-next-at x w
  unfolding first_of lows_from is_flat
  plaintext-put = by-words words (λ (v : List ℕ). Next (with_plaintext (state_of v).keys x) plaintext-next-at x v) w h (refl, refl)

  handshake-put : Next (next_handshake (state_of w).keys x) handshake-next-at x w
  unfolding first_of lows_from is_flat
  handshake-put = by-words words (λ (v : List ℕ). Next (next_handshake (state_of v).keys x) handshake-next-at x v) w h (refl, refl)

  application-put : Next (next_application (state_of w).keys x) application-next-at x w
  unfolding first_of lows_from is_flat
  application-put = by-words words (λ (v : List ℕ). Next (next_application (state_of v).keys x) application-next-at x v) w h (refl, refl)

-- the number behind an epoch's next one is the next
module _ (k : SendKeys) {e x : ℕ} (j : x ≡ next_of k e) where
  used-plaintext : e ≡ 0 → with_plaintext k (x + 1) ≡ used k e
  unfolding used
  used-plaintext g = ap (λ (y : ℕ). with_plaintext k (y + 1)) (j ∙ next-plaintext k g) ∙ sym (if_true _ _ (eq-eqb _ _ g))

  used-handshake : (e ≡ 0 → ⊥) → e ≡ 2 → next_handshake k (x + 1) ≡ used k e
  unfolding used
  used-handshake f g =
      ap (λ (y : ℕ). next_handshake k (y + 1)) (j ∙ next-handshake k f g)
      ∙ sym (if_false _ _ (ne_eqb _ _ f) ∙ if_true _ _ (eq-eqb _ _ g))

  used-application : (e ≡ 0 → ⊥) → (e ≡ 2 → ⊥) → next_application k (x + 1) ≡ used k e
  unfolding used
  used-application f g =
      ap (λ (y : ℕ). next_application k (y + 1)) (j ∙ next-application k f g)
      ∙ sym (if_false _ _ (ne_eqb _ _ f) ∙ if_false _ _ (ne_eqb _ _ g))

abbrev Uses : List ℕ → ℕ → List ℕ → Type 0
Uses w e v = Partly (with_keys (state_of w) (used (state_of w).keys e)) w v

uses : {k : SendKeys} (w : List ℕ) (e i x : ℕ) → Next k i x w → k ≡ used (state_of w).keys e → Uses w e (set w i x)
uses w e i x p q = (p.0 ∙ ap (with_keys (state_of w)) q, λ f. p.1 ∙ f)

module _ (w : List ℕ) (h : length w ≡ words) (e x : ℕ) (j : x ≡ next_of (state_of w).keys e) where
  pub plaintext-uses : e ≡ 0 → Uses w e (set w plaintext-next-at (x + 1))
  plaintext-uses g = uses w e plaintext-next-at (x + 1) (plaintext-put w h (x + 1)) (used-plaintext (state_of w).keys j g)

  pub handshake-uses : (e ≡ 0 → ⊥) → e ≡ 2 → Uses w e (set w handshake-next-at (x + 1))
  handshake-uses f g = uses w e handshake-next-at (x + 1) (handshake-put w h (x + 1)) (used-handshake (state_of w).keys j f g)

  pub application-uses : (e ≡ 0 → ⊥) → (e ≡ 2 → ⊥) → Uses w e (set w application-next-at (x + 1))
  application-uses f g = uses w e application-next-at (x + 1) (application-put w h (x + 1)) (used-application (state_of w).keys j f g)

abbrev Waits : List ℕ → ℕ → ℕ → ℕ → ℕ → ℕ → List ℕ → Type 0
Waits w e n slot start number v = Partly (with_waiting (state_of w) (waits (state_of w).waiting e n slot start number)) w v

waiting-put : (x : Waiting) (w : List ℕ) → length w ≡ words → state_of (put_waiting x w) ≡ with_waiting (state_of w) (low-waiting x)
unfolding first_of lows_from low-waiting
waiting-put x w h = by-words words (λ (v : List ℕ). state_of (put_waiting x v) ≡ with_waiting (state_of v) (low-waiting x)) w h refl

waiting-flat : (x : Waiting) (w : List ℕ) → length w ≡ words → is_flat w ≡ true → is_flat (put_waiting x w) ≡ true
unfolding first_of is_flat
waiting-flat x w h = by-words words (λ (v : List ℕ). is_flat v ≡ true → is_flat (put_waiting x v) ≡ true) w h (λ f. both_true (both_left _ _ f) ∙ low_bit x.any)

module _ (w : List ℕ) (e n slot start number : ℕ) where
  pub waits-still : either (state_of w).waiting.any (eqb e 0) ≡ true → Waits w e n slot start number w
  waits-still t = (ap (with_waiting (state_of w)) (sym (if_true _ _ t)), λ f. f)

  pub waits-now : (v : List ℕ) → length w ≡ words → either (state_of w).waiting.any (eqb e 0) ≡ false
      → (v ≡ put_waiting (waiting_at e n slot start number) w) × (e ≤ 65535)
      → Waits w e n slot start number v
  waits-now v h t p =
      rw p.0
      (waiting-put (waiting_at e n slot start number) w h ∙ ap (with_waiting (state_of w)) (waiting-back (waiting_at e n slot start number) p.1 ∙ sym (if_false _ _ t)), waiting-flat (waiting_at e n slot start number) w h)

abbrev put_end : ℕ → ℕ → ℕ → List ℕ → List ℕ
put_end i c x w = set (set (set w (length_at i) x) count_at c) closed_at 0

abbrev Ends : ℕ → ℕ → ℕ → List ℕ → Type 0
Ends i c x w = (state_of (put_end i c x w) ≡ end_at (state_of w) i c (x % 65536)) × (is_flat (put_end i c x w) ≡ both (leb 0 1) (leb (get_or w sealing-at 0) 1))

ends : (i : ℕ) (w : List ℕ) (c x : ℕ) → i < 16 → length w ≡ words → Ends i c x w
unfolding first_of lows_from is_flat
ends zero w c x l h = by-words words (Ends 0 c x) w h (refl, refl)
ends (suc zero) w c x l h = by-words words (Ends 1 c x) w h (refl, refl)
ends (suc (suc zero)) w c x l h = by-words words (Ends 2 c x) w h (refl, refl)
ends (suc (suc (suc zero))) w c x l h = by-words words (Ends 3 c x) w h (refl, refl)
ends (suc (suc (suc (suc zero)))) w c x l h = by-words words (Ends 4 c x) w h (refl, refl)
ends (suc (suc (suc (suc (suc zero))))) w c x l h = by-words words (Ends 5 c x) w h (refl, refl)
ends (suc (suc (suc (suc (suc (suc zero)))))) w c x l h = by-words words (Ends 6 c x) w h (refl, refl)
ends (suc (suc (suc (suc (suc (suc (suc zero))))))) w c x l h = by-words words (Ends 7 c x) w h (refl, refl)
ends (suc (suc (suc (suc (suc (suc (suc (suc zero)))))))) w c x l h = by-words words (Ends 8 c x) w h (refl, refl)
ends (suc (suc (suc (suc (suc (suc (suc (suc (suc zero))))))))) w c x l h = by-words words (Ends 9 c x) w h (refl, refl)
ends (suc (suc (suc (suc (suc (suc (suc (suc (suc (suc zero)))))))))) w c x l h = by-words words (Ends 10 c x) w h (refl, refl)
ends (suc (suc (suc (suc (suc (suc (suc (suc (suc (suc (suc zero))))))))))) w c x l h = by-words words (Ends 11 c x) w h (refl, refl)
ends (suc (suc (suc (suc (suc (suc (suc (suc (suc (suc (suc (suc zero)))))))))))) w c x l h = by-words words (Ends 12 c x) w h (refl, refl)
ends (suc (suc (suc (suc (suc (suc (suc (suc (suc (suc (suc (suc (suc zero))))))))))))) w c x l h = by-words words (Ends 13 c x) w h (refl, refl)
ends (suc (suc (suc (suc (suc (suc (suc (suc (suc (suc (suc (suc (suc (suc zero)))))))))))))) w c x l h = by-words words (Ends 14 c x) w h (refl, refl)
ends (suc (suc (suc (suc (suc (suc (suc (suc (suc (suc (suc (suc (suc (suc (suc zero))))))))))))))) w c x l h = by-words words (Ends 15 c x) w h (refl, refl)
ends (suc (suc (suc (suc (suc (suc (suc (suc (suc (suc (suc (suc (suc (suc (suc (suc i)))))))))))))))) w c x l h = absurd (omega arith)

pub end-put : (w : List ℕ) (i nth x : ℕ) → i < 16 → x ≤ 65535 → length w ≡ words → Partly (end_at (state_of w) i (nth + 1) x) w (put_end i (nth + 1) x w)
unfolding is_flat
end-put w i nth x l b h =
    ((ends i w (nth + 1) x l h).0 ∙ ap (end_at (state_of w) i (nth + 1)) (low-back b), λ f. (ends i w (nth + 1) x l h).1 ∙ both_true refl ∙ both_right _ _ f)
