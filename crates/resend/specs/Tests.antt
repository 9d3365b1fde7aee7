-- Whether a flight can be sent again (01, refusals 12, 13, 14, 17, 22, 19, 20), each number tested over all records before the next. Assumes nothing.
use Rattle.std.specs.Prelude.{Bool, false, ◌≡◌, ltb, leb, eqb, Ok, Err}
use Rattle.std.proofs.Math.Bool.{true}
use Rattle.std.proofs.lemmas.Bool.{false≢true}
use Rattle.std.proofs.Math.Path.{ap}
use Rattle.std.proofs.Common.{◌∙◌, add-one, arith}
use Prim.Native.Nat.{ℕ, zero, suc, ◌+◌, ◌≤◌, ◌<◌}
use borrow.Author.Tests.{leb-true, eqb-true, eqb-false}
use Rattle.base.specs.Choose.{choose, both, by_test, test_cases, both_left}
use Rattle.queue.specs.declared.Tail.{Tail}
use Rattle.queue.specs.Queue.{is_ready, tail_of, place_of, grown, placed, Tailed, InRange, Ready, ready, with_end}
use Rattle.queue.specs.Laid.{record_len}
use Rattle.send_keys.specs.declared.SendKeys.{SendKeys}
use Rattle.send_keys.specs.Answer.{SendAnswer, is_done}
use Rattle.send_keys.specs.Keys.{is_usable, is_keyed, next_of}
use Rattle.outgoing.specs.declared.Sending.{Sending}
use Rattle.outgoing.specs.State.{is_allowed, allowed-short, with_queue}
use Rattle.outgoing.proofs.Send.{allowed-fits}
use Rattle.flight.specs.declared.Entry.{Entry}
use Rattle.flight.specs.declared.Flight.{Flight}
use Rattle.flight.specs.Flight.{is_kept, entry_at}
use Rattle.resend.specs.declared.Passed.{Passed}
use Rattle.resend.specs.declared.Survey.{Survey}
use Rattle.send_keys.specs.declared.SendError.TheVariants.{OutOfRange, BadEpoch, BadRecord, KeysAbsent, HistoryFull, QueueFull, NumbersSpent}

-- "the old number is remembered for handshake records of epoch 2 and above"
unfoldable pub remembers : Entry → Bool
remembers e = both (eqb e.content_type 22) (leb 2 e.epoch)

-- 22: "an unmarked handshake record of epoch 2 or above remembers 32"
unfoldable pub has_room : Entry → Bool
has_room e = choose (remembers e) (ltb e.remembered 32) true

-- 13, 14, 17, 22 of one record; an acknowledged one is skipped
unfoldable pub passes : ℕ → SendKeys → ℕ → Entry → Bool
passes test k mtu e =
    choose e.marked true
    (choose (eqb test 0) (is_usable k e.epoch)
    (choose (eqb test 1) (is_allowed mtu e.epoch e.content_type e.length)
    (choose (eqb test 2) (is_keyed k e.epoch)
    (has_room e))))

-- of the first n saved records
unfoldable pub all_pass : ℕ → SendKeys → ℕ → Flight → ℕ → Bool
all_pass test k mtu f zero = true
all_pass test k mtu f (suc n) = choose (passes test k mtu (entry_at f n)) (all_pass test k mtu f n) false

-- all four tests at once, a record more and of the first n
unfoldable pub passed_with : Passed → SendKeys → ℕ → Entry → Passed
passed_with p k mtu e = record {
  usable = choose (passes 0 k mtu e) p.usable false;
  allowed = choose (passes 1 k mtu e) p.allowed false;
  keyed = choose (passes 2 k mtu e) p.keyed false;
  room = choose (passes 3 k mtu e) p.room false;
}

unfoldable pub passed_after : SendKeys → ℕ → Flight → ℕ → Passed
passed_after k mtu f n = record { usable = all_pass 0 k mtu f n; allowed = all_pass 1 k mtu f n; keyed = all_pass 2 k mtu f n; room = all_pass 3 k mtu f n }

-- the queue's end with a saved record sent again
unfoldable pub joined : ℕ → Tail → Entry → Tail
joined mtu t e =
    choose e.marked t
    (grown (place_of mtu t (record_len e.epoch e.length)) (record_len e.epoch e.length))

-- with the first n of them
unfoldable pub tail_after : ℕ → Tail → Flight → ℕ → Tail
tail_after mtu t f zero = t
tail_after mtu t f (suc n) = joined mtu (tail_after mtu t f n) (entry_at f n)

-- how many of the first n are sent again in an epoch
unfoldable pub count_after : Flight → ℕ → ℕ → ℕ
count_after f epoch zero = 0
count_after f epoch (suc n) = count_after f epoch n + choose (entry_at f n).marked 0 (choose (eqb (entry_at f n).epoch epoch) 1 0)

-- both at once, a record more and of the first n
unfoldable pub surveyed_with : Survey → ℕ → ℕ → Entry → Survey
surveyed_with d mtu epoch e = record {
  tail = joined mtu d.tail e;
  plaintext = d.plaintext + choose e.marked 0 (choose (eqb e.epoch 0) 1 0);
  handshake = d.handshake + choose e.marked 0 (choose (eqb e.epoch 2) 1 0);
  application = d.application + choose e.marked 0 (choose (eqb e.epoch epoch) 1 0);
}

unfoldable pub surveyed_after : ℕ → ℕ → Tail → Flight → ℕ → Survey
surveyed_after mtu epoch t f n = record { tail = tail_after mtu t f n; plaintext = count_after f 0 n; handshake = count_after f 2 n; application = count_after f epoch n }

-- 20: "2^48 - 1 would be used"
unfoldable pub is_over : ℕ → ℕ → Bool
is_over next count = choose (eqb count 0) false (ltb 281474976710655 (next + count))

unfoldable pub is_spent : SendKeys → Flight → ℕ → Bool
is_spent k f epoch = is_over (next_of k epoch) (count_after f epoch f.saved)

-- in each of the epochs that can be sent in
unfoldable pub any_spent : SendKeys → Flight → Bool
any_spent k f = choose (is_spent k f 0) true (choose (is_spent k f 2) true (is_spent k f k.application.epoch))

-- "closes the datagram"
unfoldable pub closed_state : Sending → Sending
closed_state s = with_queue s (with_end s.queue s.queue.count true s.queue.lengths)

-- 19, 20
unfoldable pub fit_answer : Sending → Flight → SendAnswer
fit_answer s f =
    choose (ltb s.queue.limit (tail_after s.queue.mtu (tail_of s.queue) f f.saved).count) (Err QueueFull)
    (choose (any_spent s.keys f) (Err NumbersSpent) (Ok tt))

-- 12, 13, 14, 17, 22, 19, 20
unfoldable pub resend_answer : Sending → Flight → ℕ → ℕ → SendAnswer
resend_answer s f room kept =
    choose (is_ready s.queue room)
    (choose (is_kept f s.queue.mtu kept)
    (choose (all_pass 0 s.keys s.queue.mtu f f.saved)
    (choose (all_pass 1 s.keys s.queue.mtu f f.saved)
    (choose (all_pass 2 s.keys s.queue.mtu f f.saved)
    (choose (all_pass 3 s.keys s.queue.mtu f f.saved)
    (fit_answer (closed_state s) f)
    (Err HistoryFull))
    (Err KeysAbsent))
    (Err BadRecord))
    (Err BadEpoch))
    (Err OutOfRange))
    (Err OutOfRange)

-- ---- laws

-- a saved record that is sent again lies in a datagram
pub record Joins (mtu : ℕ) (e : Entry) : Type 0 where
  pub fits : e.marked ≡ false → record_len e.epoch e.length ≤ mtu
  pub short : e.marked ≡ false → e.length ≤ 16384

pub passed-next : (k : SendKeys) (mtu : ℕ) (f : Flight) (n : ℕ) → passed_after k mtu f (n + 1) ≡ passed_with (passed_after k mtu f n) k mtu (entry_at f n)
unfolding passed_after passed_with all_pass
passed-next k mtu f n = rw add-one

module _ (test : ℕ) (k : SendKeys) (mtu : ℕ) (f : Flight) where
  -- each of them passes if all do
  pub pass_at : (n i : ℕ) → all_pass test k mtu f n ≡ true → i < n → passes test k mtu (entry_at f i) ≡ true
  unfolding all_pass
  pass_at zero i = λ a h. absurd (omega arith)
  pass_at (suc n) i =
      by_test (λ (b : Bool). b ≡ true → i < suc n → passes test k mtu (entry_at f i) ≡ true)
      (λ p a h. test_cases (eqb i n) (λ e. ap (λ (j : ℕ). passes test k mtu (entry_at f j)) (eqb-true i n e) ∙ p) (λ e. let z = eqb-false i n e in pass_at n i a (omega arith)))
      (λ p a h. absurd (false≢true a))

pub allowed-joins : (k : SendKeys) (mtu : ℕ) (e : Entry) → passes 1 k mtu e ≡ true → Joins mtu e
unfolding passes choose
allowed-joins k mtu e p = record {
  fits = λ m. allowed-fits mtu e.epoch e.content_type e.length (rw m at p);
  short = λ m. allowed-short mtu e.epoch e.content_type e.length (rw m at p);
}

pub record Fitting (mtu : ℕ) (f : Flight) : Type 0 where
  pub each : (i : ℕ) → i < f.saved → Joins mtu (entry_at f i)

-- 14 excluded
pub fitting : (k : SendKeys) (mtu : ℕ) (f : Flight) → all_pass 1 k mtu f f.saved ≡ true → Fitting mtu f
fitting k mtu f a = record { each = λ i h. allowed-joins k mtu (entry_at f i) (pass_at 1 k mtu f f.saved i a h) }

pub tail-next : (mtu : ℕ) (t : Tail) (f : Flight) (n : ℕ) → tail_after mtu t f (n + 1) ≡ joined mtu (tail_after mtu t f n) (entry_at f n)
unfolding tail_after
tail-next mtu t f n = rw add-one

pub count_next : (f : Flight) (epoch n : ℕ) → count_after f epoch (n + 1) ≡ count_after f epoch n + choose (entry_at f n).marked 0 (choose (eqb (entry_at f n).epoch epoch) 1 0)
unfolding count_after
count_next f epoch n = rw add-one

pub surveyed_next : (mtu epoch : ℕ) (t : Tail) (f : Flight) (n : ℕ) → surveyed_after mtu epoch t f (n + 1) ≡ surveyed_with (surveyed_after mtu epoch t f n) mtu epoch (entry_at f n)
unfolding surveyed_after surveyed_with tail_after count_after
surveyed_next mtu epoch t f n = rw add-one

-- one record more is at most one datagram more
pub joined-tail : {mtu : ℕ} {t : Tail} {e : Entry} → mtu ≤ 1500 → Tailed t → Joins mtu e → Tailed (joined mtu t e) × ((joined mtu t e).count ≤ t.count + 1)
unfolding joined grown
joined-tail {mtu} {t} {e} m h j =
    by_test (λ (x : Tail). Tailed x × (x.count ≤ t.count + 1)) (λ y. (h, omega arith))
    (λ y. let p = placed mtu t (record_len e.epoch e.length) (j.fits y) in (record { used = omega (arith, p.0); counted = λ z. omega arith }, omega (arith, p.1)))

-- 12 excluded
pub resend_safe : (s : Sending) (f : Flight) (room kept : ℕ) → is_done (resend_answer s f room kept) ≡ true → Ready s.queue room × (is_kept f s.queue.mtu kept ≡ true)
unfolding resend_answer
resend_safe s f room kept =
    by_test (λ (a : SendAnswer). is_done a ≡ true → Ready s.queue room × (is_kept f s.queue.mtu kept ≡ true))
    (λ r. by_test (λ (a : SendAnswer). is_done a ≡ true → Ready s.queue room × (is_kept f s.queue.mtu kept ≡ true))
    (λ k d. (ready r, k))
    (λ k d. absurd (false≢true d)))
    (λ r d. absurd (false≢true d))

pub kept-few : (f : Flight) (mtu room : ℕ) → is_kept f mtu room ≡ true → f.saved ≤ 12
unfolding is_kept
kept-few f mtu room e = leb-true f.saved 12 (both_left _ _ e)

pub closed-range : (s : Sending) → InRange s.queue → InRange (closed_state s).queue
unfolding closed_state
closed-range s r = record { low = r.low; high = r.high; some = r.some; limit = r.limit; first = r.first; count = r.count }
