-- A sending call over memory that is too short is answered 12, and state, flight and notes stay. Assumes nothing.
use Rattle.std.specs.Prelude.{ℕ, ◌*◌, ◌<◌, leb, length, Bool, false, ◌⊎◌, ◌≡◌, refl, Err}
use Rattle.std.proofs.lemmas.Bool.{lt-leb}
use mathlib.Core.List.{List, ◌∷◌, Memᴰ as Mem}
use Rattle.std.proofs.Common.{inl, inr, ⊎_elim, sym, subst, ◌∙◌}
use Rattle.std.proofs.Math.Path.{ap}
use Rattle.base.specs.Choose.{choose, if_false, by_test, test_cases, both_true, both_false}
use Rattle.queue.specs.declared.Queue.{Queue}
use Rattle.queue.specs.Queue.{is_sound, is_ready}
use Rattle.send_keys.specs.Keys.{next_of}
use Rattle.send_keys.specs.declared.SendError.TheVariants as send
use Rattle.outgoing.specs.declared.Sending.{Sending}
use Rattle.outgoing.specs.Send.{laid_state, send_answer, send_state, send_memory}
use Rattle.sealing.specs.declared.SealError.TheVariants as seal
use Rattle.sealing.specs.Sealing as sealing
use Rattle.sealing.specs.Sealing.{seal_answer, is_sealed, sealed_state, sealed_memory}
use Rattle.taking.specs.declared.TakeError.TheVariants as took
use Rattle.taking.specs.Take.{take_answer, is_taken, take_state}
use Rattle.flight.specs.declared.Flight.{Flight}
use Rattle.flight.specs.declared.Saved.{Saved}
use Rattle.flight.specs.Status.{unacknowledged}
use Rattle.flight.specs.Flight.{is_kept, saved_with}
use Rattle.flight.specs.Save.{save_answer, save_state, save_queue, save_kept}
use Rattle.messages.specs.Message.{message_answer, message_state, message_queue, message_kept}
use Rattle.acks.specs.declared.AckSent.{AckSent}
use Rattle.acks.specs.declared.Notes.{Notes}
use Rattle.acks.specs.Acks.{ack_answer, nothing_sent, sent_ack, ack_memory}
use Rattle.resend.specs.Resend.{resend_state, resend_queue}
use Rattle.resend.specs.Tests.{resend_answer}
use Rattle.waiting_laws.specs.Answers.{ack_reply, resend_reply, take_reply, answered}
use Rattle.waiting_laws.specs.Calls.{Stores, SendCall, key_send·, send·, save·, message·, begin_flight·, resend·, note·, send_ack·, ack·, fill·, sealed·, take·, stored, lending, Short, only}
use Rattle.history_theorem.proofs.Lists.{mem-by}
use Rattle.send_keys.specs.Answer.{SendAnswer, is_done, refusal}
use Rattle.ends_theorem.specs.Ledger.{short_reply}
use Rattle.ends_theorem.specs.World.{Over, overs_by}

unready : (q : Queue) (room : ℕ) → room < q.limit * q.mtu → is_ready q room ≡ false
unfolding is_ready
unready q room h = test_cases (is_sound q) (λ z. both_true z ∙ lt-leb (q.limit * q.mtu) room h) (λ z. both_false _ z)

unkept : (f : Flight) (mtu room : ℕ) → room < 12 * mtu → is_kept f mtu room ≡ false
unfolding is_kept
unkept f mtu room h = test_cases (leb f.saved 12) (λ z. both_true z ∙ lt-leb (12 * mtu) room h) (λ z. both_false _ z)

-- ---- a call that takes the queue

module _ (s : Sending) (q : List ℕ) (h : length q < s.queue.limit * s.queue.mtu) where
  send_short : (e t n : ℕ) → send_answer s (length q) e t n ≡ Err send.OutOfRange
  unfolding send_answer
  send_short e t n = if_false _ _ (unready s.queue (length q) h)

  seal_short : (n : ℕ) → seal_answer s (length q) n ≡ (Err seal.OutOfRange)
  unfolding seal_answer
  seal_short n = if_false _ _ (unready s.queue (length q) h)

  take_short : (have : ℕ) → take_answer s (length q) have ≡ Err took.OutOfRange
  unfolding take_answer
  take_short have = if_false _ _ (unready s.queue (length q) h)

  ack-short : (n : Notes) → ack_answer s n (length q) ≡ Err send.OutOfRange
  unfolding ack_answer
  ack-short n = by_test (λ (a : SendAnswer). a ≡ Err send.OutOfRange) (λ z. refl) (λ z. if_false _ _ (unready s.queue (length q) h))

  ack-told : (n : Notes) → ack_reply (sent_ack s n (length q)) ≡ only 12
  unfolding sent_ack choose
  ack-told n = ap ack_reply (if_false _ _ (ap is_done (ack-short n))) ∙ ap (λ (a : SendAnswer). ack_reply (nothing_sent a s n)) (ack-short n)

-- ---- a call that takes the flight's memory besides: either is enough

refuses : {A : Type 0} (ready kept : Bool) (x out : A) → (ready ≡ false) ⊎ (kept ≡ false) → choose ready (choose kept x out) out ≡ out
refuses ready kept x out h = ⊎_elim (λ r. if_false _ _ r) (λ k. by_test (λ a. a ≡ out) (λ z. if_false _ _ k) (λ z. refl)) h

module _ (s : Sending) (f : Flight) (q k : List ℕ) (h : (length q < s.queue.limit * s.queue.mtu) ⊎ (length k < 12 * s.queue.mtu)) where
  one-fails : (is_ready s.queue (length q) ≡ false) ⊎ (is_kept f s.queue.mtu (length k) ≡ false)
  one-fails = ⊎_elim (λ a. inl (unready s.queue (length q) a)) (λ b. inr (unkept f s.queue.mtu (length k) b)) h

  save_short : (e t n : ℕ) → save_answer s f (length q) (length k) e t n ≡ Err send.OutOfRange
  unfolding save_answer
  save_short e t n = refuses _ _ _ _ one-fails

  message-short : (kind n : ℕ) → message_answer s f (length q) (length k) kind n ≡ Err send.OutOfRange
  unfolding message_answer
  message-short kind n = refuses _ _ _ _ one-fails

  resend_short : resend_answer s f (length q) (length k) ≡ Err send.OutOfRange
  unfolding resend_answer
  resend_short = refuses _ _ _ _ one-fails

-- ---- every call; the host's own writing has no answer

pub short-answered : (w : Stores) (q k : List ℕ) (c : SendCall) → Short w.state.queue.mtu w.state.queue.limit q k c
    → answered (lending w q k) c ≡ short_reply c
short-answered w q k (key_send· e iv) h = absurd h
short-answered w q k (send· e t x) h = ap (λ a. only (refusal a)) (send_short w.state q h e t (length x))
short-answered w q k (save· e t x) h = ap (λ a. only (refusal a)) (save_short w.state w.flight q k h e t (length x))
short-answered w q k (message· kind body) h = ap (λ a. only (refusal a)) (message-short w.state w.flight q k h kind (length body))
short-answered w q k begin_flight· h = absurd h
short-answered w q k resend· h =
    ap (λ a. resend_reply a (unacknowledged w.flight)) (resend_short w.state w.flight q k h) ∙ ap (λ (n : ℕ). record { number = 12; told = n }) (if_false _ _ refl)
short-answered w q k (note· e n) h = absurd h
short-answered w q k send_ack· h = ack-told w.state q h w.notes
short-answered w q k (ack· d) h = absurd h
short-answered w q k (fill· v) h = refl
short-answered w q k (sealed· n m) h = ap (λ a. only (sealing.refusal a)) (seal_short w.state q h n)
short-answered w q k (take· buffer) h = ap take_reply (take_short w.state q h (length buffer))

-- ---- and nothing changes

abbrev with : Stores → Sending → Flight → Notes → Stores
with w s f n = record { state = s; queue = w.queue; flight = f; kept = w.kept; notes = n }

pub short-stays : (w : Stores) (q k : List ℕ) (c : SendCall) → Short w.state.queue.mtu w.state.queue.limit q k c
    → lending (stored (lending w q k) c) w.queue w.kept ≡ w
unfolding send_state save_state message_state resend_state sent_ack sealed_state take_state
short-stays w q k (key_send· e iv) h = absurd h
short-stays w q k (send· e t x) h = ap (λ (s : Sending). with w s w.flight w.notes) (if_false _ _ (ap is_done (send_short w.state q h e t (length x))))
short-stays w q k (save· e t x) h =
    let d = ap is_done (save_short w.state w.flight q k h e t (length x)) in
    λ i. with w (if_false (laid_state w.state e (length x)) w.state d i) (if_false (saved_with w.flight t e (next_of w.state.keys e) (length x)) w.flight d i) w.notes
short-stays w q k (message· kind body) h =
    ap (λ (r : Saved). with w r.state r.flight w.notes) (if_false _ _ (ap is_done (message-short w.state w.flight q k h kind (length body))))
short-stays w q k begin_flight· h = absurd h
short-stays w q k resend· h =
    ap (λ (r : Saved). with w r.state r.flight w.notes) (if_false _ _ (ap is_done (resend_short w.state w.flight q k h)))
short-stays w q k (note· e n) h = absurd h
short-stays w q k send_ack· h = ap (λ (r : AckSent). with w r.state w.flight r.notes) (if_false _ _ (ap is_done (ack-short w.state q h w.notes)))
short-stays w q k (ack· d) h = absurd h
short-stays w q k (fill· v) h = refl
short-stays w q k (sealed· n m) h = ap (λ (s : Sending). with w s w.flight w.notes) (if_false _ _ (ap is_sealed (seal_short w.state q h n)))
short-stays w q k (take· buffer) h = ap (λ (s : Sending). with w s w.flight w.notes) (if_false _ _ (ap is_taken (take_short w.state q h (length buffer))))

-- nor of the memory

abbrev OverKept : Over → Type 0
OverKept o = (o.queue' ≡ o.queue) × (o.kept' ≡ o.kept)

more-over : (new : Over) (os : List Over) → ((o : Over) → Mem o os → OverKept o) → OverKept new → (o : Over) → Mem o (new ∷ os) → OverKept o
more-over new os old h o m = mem-by m (λ (p : o ≡ new). subst OverKept (sym p) h) (λ n. old o n)

pub over-all : (w : Stores) (q k : List ℕ) (c : SendCall) (os : List Over) → Short w.state.queue.mtu w.state.queue.limit q k c → ((o : Over) → Mem o os → OverKept o)
    → (o : Over) → Mem o (overs_by w q k c os) → OverKept o
unfolding send_memory save_queue save_kept message_queue message_kept resend_queue ack_memory sealed_memory
over-all w q k (key_send· e iv) os h old = absurd h
over-all w q k (send· e t x) os h old = more-over _ os old (if_false _ _ (ap is_done (send_short w.state q h e t (length x))), refl)
over-all w q k (save· e t x) os h old =
    let d = ap is_done (save_short w.state w.flight q k h e t (length x)) in
    more-over _ os old (if_false _ _ d, if_false _ _ d)
over-all w q k (message· kind body) os h old =
    let d = ap is_done (message-short w.state w.flight q k h kind (length body)) in
    more-over _ os old (if_false _ _ d, if_false _ _ d)
over-all w q k begin_flight· os h old = absurd h
over-all w q k resend· os h old = more-over _ os old (if_false _ _ (ap is_done (resend_short w.state w.flight q k h)), refl)
over-all w q k (note· e n) os h old = absurd h
over-all w q k send_ack· os h old = more-over _ os old (if_false _ _ (ap is_done (ack-short w.state q h w.notes)), refl)
over-all w q k (ack· d) os h old = absurd h
over-all w q k (fill· v) os h old = old
over-all w q k (sealed· n m) os h old = more-over _ os old (if_false _ _ (ap is_sealed (seal_short w.state q h n)), refl)
over-all w q k (take· buffer) os h old = more-over _ os old (refl, refl)
