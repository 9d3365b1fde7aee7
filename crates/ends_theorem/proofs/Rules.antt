-- When a call to send is refused, read off the account alone: each number exactly if its own test refuses and none before it does. Assumes
-- nothing.
use Rattle.std.specs.Prelude.{ℕ, zero, suc, ◌+◌, ◌<◌, ◌≤◌, eqb, leb, ltb, length, Bool, true, false, List, [], ◌∷◌, ◌↔◌, ◌⊎◌, ◌≡◌, refl}
use Rattle.std.proofs.Common.{eqb-true, eq-eqb, ne_eqb, ltb-true, ltb-false, le-leb, lt-ltb, le-ltb, length-append, true≢false, inl, inr, ⊎_elim, sym, subst, ◌∙◌, arith}
use Rattle.std.proofs.lemmas.Bool.{eqb-false, false≢true}
use Rattle.base.specs.Choose.{choose, either, if_true, if_false, by_test, test_cases, both_true, either-false}
use Rattle.history_theorem.specs.Account.{sealed_over, is_in}
use Rattle.history_theorem.proofs.Lists.{upd_same, either_left, either-right}
use Rattle.ends_theorem.proofs.Laws.{off_parts}
use Rattle.ends_theorem.specs.Ledger.{application_data, longest_body, most_saved, most_remembered, last_number, last_message, Item, Ledger, Going, size_of, waits_under, items, on_last, lays, is_old, key_number, is_usable, is_type, is_allowed, has_keys, has_room, queue_number, flight_number, send_number, saves, save_number, epoch_for, saves_on, pieces, posted, message_number, known, resent, all, is_spent, resend_number}

-- ---- tests one after the other

-- what a call needs, and what stops it, each with the number that it is refused by
pub data Test : Type 0 where
  needs : Bool → ℕ → Test
  stops : Bool → ℕ → Test

-- the first that refuses; 0 where none does
abbrev pub first : List Test → ℕ
first [] = 0
first (needs b n ∷ ts) = choose b (first ts) n
first (stops b n ∷ ts) = choose b n (first ts)

-- a choice of two statements, so that a rule of a given number reads as its conditions
abbrev pub statement : Bool → Type 0 → Type 0 → Type 0
statement true here later = here
statement false here later = later

-- a number's own test refuses, and none before it does; for 0 none does
abbrev pub By : ℕ → List Test → Type 0
By k [] = k ≡ 0
By k (needs b n ∷ ts) = statement (eqb n k) (b ≡ false) ((b ≡ true) × By k ts)
By k (stops b n ∷ ts) = statement (eqb n k) (b ≡ true) ((b ≡ false) × By k ts)

-- each test has a number of its own, not 0
abbrev pub numbers : List Test → List ℕ
numbers [] = []
numbers (needs b n ∷ ts) = n ∷ numbers ts
numbers (stops b n ∷ ts) = n ∷ numbers ts

abbrev pub is_apart : List ℕ → Bool
is_apart [] = true
is_apart (n ∷ ns) = choose (is_in n (0 ∷ ns)) false (is_apart ns)

without : (a b c : Bool) → either a (either b c) ≡ false → either a c ≡ false
without a b c h = either-false (either_left a _ h) ∙ either-right b c (either-right a _ h)

-- a number that no test has is not the answer
not_first : (ts : List Test) (n : ℕ) → is_in n (0 ∷ numbers ts) ≡ false → first ts ≡ n → ⊥
not_first [] n h = eqb-false 0 n (either_left _ _ h)
not_first (needs b m ∷ ts) n h =
    by_test (λ (v : ℕ). v ≡ n → ⊥) (λ z. not_first ts n (without _ _ _ h)) (λ z. eqb-false m n (either_left _ _ (either-right _ _ h)))
not_first (stops b m ∷ ts) n h =
    by_test (λ (v : ℕ). v ≡ n → ⊥) (λ z. eqb-false m n (either_left _ _ (either-right _ _ h))) (λ z. not_first ts n (without _ _ _ h))

-- one test: refused as P tells, or passed as Q tells, and then as the rest R tells
module _ {P Q R : Type 0} (n k rest v : ℕ) (case : (P × (v ≡ n)) ⊎ (Q × (v ≡ rest))) (never : P → Q → ⊥) (apart : rest ≡ n → ⊥) (later : (rest ≡ k) ↔ R) where
  one : (same : Bool) → (same ≡ true → n ≡ k) → (same ≡ false → n ≡ k → ⊥) → (v ≡ k) ↔ statement same P (Q × R)
  one true eq ne = (
    λ e. ⊎_elim (λ p. p.0) (λ q. absurd (apart (sym q.1 ∙ e ∙ sym (eq refl)))) case,
    λ h. ⊎_elim (λ p. p.1 ∙ eq refl) (λ q. absurd (never h q.0)) case,
  )
  one false eq ne = (
    λ e. ⊎_elim (λ p. absurd (ne refl (sym p.1 ∙ e))) (λ q. (q.0, later.0 (sym q.1 ∙ e))) case,
    λ h. ⊎_elim (λ p. absurd (never p.0 h.0)) (λ q. q.1 ∙ later.1 h.1) case,
  )

-- the answer is a number exactly if its own test refuses and none before it does
pub refused-by : (ts : List Test) → is_apart (numbers ts) ≡ true → (k : ℕ) → (first ts ≡ k) ↔ By k ts
refused-by [] h k = (λ e. sym e, λ e. sym e)
refused-by (needs b n ∷ ts) h k =
    let a = off_parts _ _ h in
    one n k (first ts) (choose b (first ts) n) (test_cases b (λ z. inr (z, if_true _ _ z)) (λ z. inl (z, if_false _ _ z)))
    (λ p q. false≢true (sym p ∙ q)) (not_first ts n a.0) (refused-by ts a.1 k) (eqb n k) (eqb-true n k) (eqb-false n k)
refused-by (stops b n ∷ ts) h k =
    let a = off_parts _ _ h in
    one n k (first ts) (choose b n (first ts)) (test_cases b (λ z. inl (z, if_true _ _ z)) (λ z. inr (z, if_false _ _ z)))
    (λ p q. true≢false (sym p ∙ q)) (not_first ts n a.0) (refused-by ts a.1 k) (eqb n k) (eqb-true n k) (eqb-false n k)

-- ---- the calls

-- 13, 23
abbrev pub key_tests : Ledger → ℕ → List Test
key_tests l e = stops (is_old l e) 13 ∷ stops (waits_under l.application (items l.queue)) 23 ∷ []

pub key_rule : (l : Ledger) (e k : ℕ) → (key_number l e ≡ k) ↔ By k (key_tests l e)
unfolding key_number choose either
key_rule l e k = refused-by (key_tests l e) refl k

-- 19, 20, of what a record leaves in the queue and of the numbers used
abbrev pub queue_tests : Ledger → ℕ → Ledger → List Test
queue_tests l e then = stops (ltb l.limit (length then.queue)) 19 ∷ stops (ltb last_number (then.next e)) 20 ∷ []

-- 13, 14, 17, 19, 20
abbrev pub send_tests : Ledger → ℕ → ℕ → ℕ → List Test
send_tests l e t n = needs (is_usable l e) 13 ∷ needs (is_allowed l e t n) 14 ∷ needs (has_keys l e) 17 ∷ queue_tests l e (lays l e n)

pub send_rule : (l : Ledger) (e t n k : ℕ) → (send_number l e t n ≡ k) ↔ By k (send_tests l e t n)
unfolding send_number queue_number lays choose either
send_rule l e t n k = refused-by (send_tests l e t n) refl k

-- 12, 13, 14, 17, 18, 19, 20
abbrev pub save_tests : Ledger → ℕ → ℕ → List ℕ → List Test
save_tests l e t x =
    needs (has_room l) 12 ∷ needs (is_usable l e) 13 ∷ needs (is_allowed l e t (length x)) 14 ∷ needs (has_keys l e) 17
    ∷ stops (ltb most_saved (length (saves l e t x).saved)) 18 ∷ queue_tests l e (saves l e t x)

pub save_rule : (l : Ledger) (e t : ℕ) (x : List ℕ) (k : ℕ) → (save_number l e t x ≡ k) ↔ By k (save_tests l e t x)
unfolding save_number flight_number queue_number saves lays choose either
save_rule l e t x k = refused-by (save_tests l e t x) refl k

-- 12, 14, 17, 21, 18, 19, 20
abbrev pub message_tests : Ledger → ℕ → List ℕ → List Test
message_tests l kind body =
    let then = (posted l kind body).ledger in
    needs (has_room l) 12 ∷ stops (ltb longest_body (length body)) 14 ∷ needs (has_keys l (epoch_for kind)) 17 ∷ stops (leb last_message l.messages) 21
    ∷ stops (ltb most_saved (length then.saved)) 18 ∷ queue_tests l (epoch_for kind) then

-- no piece changes the settings
pieces-limit : (k kind number : ℕ) (body : List ℕ) (at : ℕ) (g : Going) → (pieces k kind number body at g).ledger.limit ≡ g.ledger.limit
unfolding pieces saves_on saves lays
pieces-limit zero kind number body at g = refl
pieces-limit (suc k) kind number body at g =
    by_test (λ (v : Going). v.ledger.limit ≡ g.ledger.limit) (λ z. refl) (λ z. pieces-limit k kind number body _ _)

pub posted-limit : (l : Ledger) (kind : ℕ) (body : List ℕ) → (posted l kind body).ledger.limit ≡ l.limit
unfolding posted
posted-limit l kind body = pieces-limit 13 kind l.messages body 0 _

message-tests : (l : Ledger) (kind : ℕ) (body : List ℕ) → message_number l kind body ≡ first (message_tests l kind body)
unfolding message_number flight_number queue_number
message-tests l kind body = rw (posted-limit l kind body)

pub message-rule : (l : Ledger) (kind : ℕ) (body : List ℕ) (k : ℕ) → (message_number l kind body ≡ k) ↔ By k (message_tests l kind body)
unfolding choose either
message-rule l kind body k = rw (message-tests l kind body) (refused-by (message_tests l kind body) refl k)

-- 12, 13, 14, 17, 22, 19, 20, each over all records not acknowledged
abbrev pub resend_tests : Ledger → List Test
resend_tests l =
    needs (has_room l) 12 ∷ needs (all (λ k. is_usable l k.epoch) l.saved) 13
    ∷ needs (all (λ k. is_allowed l k.epoch k.type (length k.content)) l.saved) 14 ∷ needs (all (λ k. has_keys l k.epoch) l.saved) 17
    ∷ needs (all (λ k. leb (length (known k)) most_remembered) l.saved) 22 ∷ stops (ltb l.limit (length (resent l).ledger.queue)) 19
    ∷ stops (is_spent (resent l).ledger) 20 ∷ []

pub resend_rule : (l : Ledger) (k : ℕ) → (resend_number l ≡ k) ↔ By k (resend_tests l)
unfolding resend_number choose either
resend_rule l k = refused-by (resend_tests l) refl k

-- ---- sending one record, written out

pub record Sendable (l : Ledger) (e t n : ℕ) : Type 0 where
  pub usable : is_usable l e ≡ true
  pub allowed : is_allowed l e t n ≡ true
  pub keyed : has_keys l e ≡ true

pub record SendRefused (l : Ledger) (e t n : ℕ) : Type 0 where
  pub by_13 : (send_number l e t n ≡ 13) ↔ (is_usable l e ≡ false)
  pub by_14 : (send_number l e t n ≡ 14) ↔ ((is_usable l e ≡ true) × (is_allowed l e t n ≡ false))
  pub by_17 : (send_number l e t n ≡ 17) ↔ ((is_usable l e ≡ true) × (is_allowed l e t n ≡ true) × (has_keys l e ≡ false))
  pub by_19 : (send_number l e t n ≡ 19) ↔ (Sendable l e t n × (l.limit < length (lays l e n).queue))
  pub by_20 : (send_number l e t n ≡ 20) ↔ (Sendable l e t n × (length (lays l e n).queue ≤ l.limit) × (last_number < (lays l e n).next e))
  pub done : (send_number l e t n ≡ 0) ↔ (Sendable l e t n × (length (lays l e n).queue ≤ l.limit) × ((lays l e n).next e ≤ last_number))

pub send_refused : (l : Ledger) (e t n : ℕ) → SendRefused l e t n
send_refused l e t n =
    let r = send_rule l e t n in
    record {
      by_13 = r 13;
      by_14 = r 14;
      by_17 = (λ z. let h = (r 17).0 z in (h.0, h.1.0, h.1.1), λ h. (r 17).1 (h.0, (h.1, h.2)));
      by_19 = (
        λ z. let h = (r 19).0 z in (record { usable = h.0; allowed = h.1.0; keyed = h.1.1.0 }, ltb-true _ _ h.1.1.1),
        λ h. (r 19).1 (h.0.usable, (h.0.allowed, (h.0.keyed, lt-ltb _ _ h.1))),
      );
      by_20 = (
        λ z. let h = (r 20).0 z in (record { usable = h.0; allowed = h.1.0; keyed = h.1.1.0 }, ltb-false _ _ h.1.1.1.0, ltb-true _ _ h.1.1.1.1),
        λ h. (r 20).1 (h.0.usable, (h.0.allowed, (h.0.keyed, (le-ltb _ _ h.1, lt-ltb _ _ h.2)))),
      );
      done = (
        λ z. let h = (r 0).0 z in (record { usable = h.0; allowed = h.1.0; keyed = h.1.1.0 }, ltb-false _ _ h.1.1.1.0, ltb-false _ _ h.1.1.1.1.0),
        λ h. (r 0).1 (h.0.usable, (h.0.allowed, (h.0.keyed, (le-ltb _ _ h.1, (le-ltb _ _ h.2, refl))))),
      );
    }

-- ---- the stop order

-- a record more is at most one datagram more
last-length : (ds : List (List Item)) (i : Item) → length (on_last ds i) ≤ length ds + 1
last-length [] i = omega arith
last-length (d ∷ []) i = omega arith
last-length (d ∷ e ∷ ds) i = omega (arith, last-length (e ∷ ds) i)

lays-length : (l : Ledger) (e n : ℕ) → length (lays l e n).queue ≤ length l.queue + 1
unfolding lays
lays-length l e n =
    by_test (λ (ds : List (List Item)). length ds ≤ length l.queue + 1) (λ z. last-length l.queue _) (λ z. simp length-append (omega arith))

lays-next : (l : Ledger) (e n : ℕ) → (lays l e n).next e ≡ l.next e + 1
unfolding lays
lays-next l e n = upd_same l.next e (l.next e + 1)

fitting_sendable : (l : Ledger) (n : ℕ) → 3 ≤ l.application → n + sealed_over ≤ l.mtu → l.mtu ≤ 1500 → Sendable l l.application application_data n
unfolding is_usable is_allowed is_type has_keys either
fitting_sendable l n keyed fits mtu =
    let e : ℕ = l.application in
    let not-zero : eqb e 0 ≡ false = ne_eqb e 0 (λ z. omega arith) in
    let not-two : eqb e 2 ≡ false = ne_eqb e 2 (λ z. omega arith) in
    let size : size_of e n ≤ l.mtu = subst (λ (k : ℕ). k ≤ l.mtu) (sym (if_false _ _ not-zero)) fits in
    record {
      usable = either-false not-zero ∙ either-false not-two ∙ both_true (le-leb 3 e keyed) ∙ eq-eqb e e refl;
      allowed = both_true (if_false _ _ not-zero) ∙ both_true (le-leb n longest_body (omega arith)) ∙ le-leb (size_of e n) l.mtu size;
      keyed = if_false _ _ not-two;
    }

-- application data that fits a datagram goes out while the queue has a place and numbers are left
pub stop_order : (l : Ledger) (x : List ℕ) → 3 ≤ l.application → length x + sealed_over ≤ l.mtu → l.mtu ≤ 1500 → length l.queue < l.limit
    → l.next l.application < last_number → send_number l l.application application_data (length x) ≡ 0
stop_order l x keyed fits mtu place left =
    let e : ℕ = l.application in
    (send_refused l e application_data (length x)).done.1 (
      fitting_sendable l (length x) keyed fits mtu,
      omega (arith, lays-length l e (length x)),
      omega (arith, lays-next l e (length x)),
    )
