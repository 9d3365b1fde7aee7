-- Whether a flight can be sent again, by the words. Assumes nothing.
use Rattle.std.specs.Prelude.{Bool, true, false, List, ◌≡◌, refl, ℕ, ◌+◌, ◌≤◌, ◌<◌, Ok, Err}
use Rattle.std.proofs.lemmas.Bool.{false≢true}
use Rattle.std.proofs.Math.Path.{sym, ap}
use Rattle.std.proofs.Common.{◌∙◌, lt-ltb, le-ltb}
use Rattle.base.specs.Choose.{choose, if_true, if_false, test_cases}
use Rattle.queue.specs.declared.Tail.{Tail}
use Rattle.queue.specs.Queue.{last_len, tail_of, is_ready}
use Rattle.send_keys.specs.declared.SendKeys.{SendKeys}
use Rattle.send_keys.specs.Keys.{is_usable, is_keyed, next_of}
use Rattle.outgoing.specs.declared.Sending.{Sending}
use Rattle.outgoing.specs.State.{is_allowed}
use Rattle.flight.specs.declared.Entry.{Entry}
use Rattle.flight.specs.declared.Flight.{Flight}
use Rattle.flight.specs.Flight.{is_kept}
use Rattle.flight_words.specs.Words.{entry_at as row_at, flight_of}
use Rattle.flight_words.specs.Entries.{entry-at}
use Rattle.resend.specs.declared.Passed.{Passed}
use Rattle.resend.specs.declared.Survey.{Survey}
use Rattle.send_keys.specs.declared.SendError.TheVariants.{OutOfRange, BadEpoch, BadRecord, KeysAbsent, HistoryFull, QueueFull, NumbersSpent}
use Rattle.resend.specs.Tests.{remembers, has_room, passes, passed_with, passed_after, surveyed_with, surveyed_after, is_over, is_spent, any_spent, closed_state, fit_answer, resend_answer, passed-next, surveyed_next}
use Rattle.send_keys.specs.Answer.{SendAnswer, is_done}

-- the first test that is not passed, else a
abbrev pub refused_by : Passed → SendAnswer → SendAnswer
refused_by p a = choose p.usable (choose p.allowed (choose p.keyed (choose p.room a (Err HistoryFull)) (Err KeysAbsent)) (Err BadRecord)) (Err BadEpoch)

-- all are passed, or what refuses does not depend on a
pub record Cleared (p : Passed) : Type 0 where
  pub allowed : p.allowed ≡ true
  pub same : (a : SendAnswer) → refused_by p a ≡ a

pub cleared : (p : Passed) → is_done (refused_by p (Ok tt)) ≡ true → Cleared p
unfolding choose
cleared p =
    test_cases p.usable
    (λ a. test_cases p.allowed
    (λ b. test_cases p.keyed
    (λ c. test_cases p.room (λ d e. record { allowed = b; same = λ x. rw (a, b, c, d) }) (λ d e. absurd (false≢true (rw (a, b, c, d) at e))))
    (λ c e. absurd (false≢true (rw (a, b, c) at e))))
    (λ b e. absurd (false≢true (rw (a, b) at e))))
    (λ a e. absurd (false≢true (rw a at e)))

pub refused : (p : Passed) (x : SendAnswer) → is_done (refused_by p (Ok tt)) ≡ false → refused_by p (Ok tt) ≡ refused_by p x
unfolding choose
refused p x =
    test_cases p.usable
    (λ a. test_cases p.allowed
    (λ b. test_cases p.keyed
    (λ c. test_cases p.room (λ d e. absurd (false≢true (sym (rw (a, b, c, d) at e)))) (λ d e. rw (a, b, c, d)))
    (λ c e. rw (a, b, c)))
    (λ b e. rw (a, b)))
    (λ a e. rw a)

-- ---- one record more, by its words

-- a marked one changes nothing
pub passed-marked : (p : Passed) (k : SendKeys) (mtu : ℕ) (e : Entry) → e.marked ≡ true → p ≡ passed_with p k mtu e
unfolding passed_with passes choose
passed-marked p k mtu e m = rw m

pub passed-unmarked : (p : Passed) (k : SendKeys) (mtu : ℕ) (e : Entry) {a b c d : Bool} → e.marked ≡ false
    → a ≡ choose (is_usable k e.epoch) p.usable false → b ≡ choose (is_allowed mtu e.epoch e.content_type e.length) p.allowed false
    → c ≡ choose (is_keyed k e.epoch) p.keyed false → d ≡ choose (has_room e) p.room false
    → record { usable = a; allowed = b; keyed = c; room = d } ≡ passed_with p k mtu e
unfolding passed_with passes choose has_room remembers
passed-unmarked p k mtu e m x y z w = rw (m, x, y, z, w)

pub passed-more : (k : SendKeys) (mtu i : ℕ) (f n : List ℕ) {p : Passed} → i < 12 → p ≡ passed_after k mtu (flight_of f n) i → passed_with p k mtu (row_at f i) ≡ passed_after k mtu (flight_of f n) (i + 1)
passed-more k mtu i f n l h =
    ap (λ (x : Passed). passed_with x k mtu (row_at f i)) h ∙ ap (passed_with (passed_after k mtu (flight_of f n) i) k mtu) (sym (entry-at f i l)) ∙ sym (passed-next k mtu (flight_of f n) i)

pub surveyed_more : (mtu epoch i : ℕ) (t : Tail) (f n : List ℕ) {d : Survey} → i < 12 → d ≡ surveyed_after mtu epoch t (flight_of f n) i
    → surveyed_with d mtu epoch (row_at f i) ≡ surveyed_after mtu epoch t (flight_of f n) (i + 1)
surveyed_more mtu epoch i t f n l h =
    ap (λ (x : Survey). surveyed_with x mtu epoch (row_at f i)) h ∙ ap (surveyed_with (surveyed_after mtu epoch t (flight_of f n) i) mtu epoch) (sym (entry-at f i l))
    ∙ sym (surveyed_next mtu epoch t (flight_of f n) i)

-- the end of a closed queue
pub closed-end : (s : Sending) → tail_of (closed_state s).queue ≡ record { used = (tail_of s.queue).used; joinable = false; count = (tail_of s.queue).count }
unfolding tail_of closed_state last_len choose
closed-end s = refl

-- the dry run decides
module _ (s : Sending) (f : Flight) (d : Survey) (e : d ≡ surveyed_after s.queue.mtu s.keys.application.epoch (tail_of (closed_state s).queue) f f.saved) where
  pub fit_full : s.queue.limit < d.tail.count → Err QueueFull ≡ fit_answer (closed_state s) f
  unfolding fit_answer surveyed_after closed_state
  fit_full h = sym (if_true _ _ (lt-ltb _ _ (rw e at h)))

  module _ (h : d.tail.count ≤ s.queue.limit) {x : Bool}
      (y : x ≡ choose (is_over (next_of s.keys 0) d.plaintext) true (choose (is_over (next_of s.keys 2) d.handshake) true (is_over (next_of s.keys s.keys.application.epoch) d.application))) where
    pub fit-spent : x ≡ true → Err NumbersSpent ≡ fit_answer (closed_state s) f
    unfolding fit_answer surveyed_after closed_state is_spent any_spent
    fit-spent t = sym (if_false _ _ (le-ltb _ _ (rw e at h)) ∙ if_true _ _ (sym (rw e at y) ∙ t))

    pub fit-done : x ≡ false → Ok tt ≡ fit_answer (closed_state s) f
    unfolding fit_answer surveyed_after closed_state is_spent any_spent
    fit-done t = sym (if_false _ _ (le-ltb _ _ (rw e at h)) ∙ if_false _ _ (sym (rw e at y) ∙ t))

-- ---- the answer

module _ (s : Sending) (f : Flight) (room kept : ℕ) where
  pub answer-unready : is_ready s.queue room ≡ false → Err OutOfRange ≡ resend_answer s f room kept
  unfolding resend_answer
  answer-unready r = sym (if_false _ _ r)

  module _ (r : is_ready s.queue room ≡ true) where
    pub answer-unkept : is_kept f s.queue.mtu kept ≡ false → Err OutOfRange ≡ resend_answer s f room kept
    unfolding resend_answer
    answer-unkept k = sym (if_true _ _ r ∙ if_false _ _ k)

    module _ (k : is_kept f s.queue.mtu kept ≡ true) (p : Passed) (e : p ≡ passed_after s.keys s.queue.mtu f f.saved) where
      pub answer-tested : refused_by p (fit_answer (closed_state s) f) ≡ resend_answer s f room kept
      unfolding resend_answer passed_after
      answer-tested = ap (λ (x : Passed). refused_by x (fit_answer (closed_state s) f)) e ∙ sym (if_true _ _ r ∙ if_true _ _ k)
