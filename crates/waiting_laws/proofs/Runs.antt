-- Any list of calls that send, on a fresh state: the queue's memory means the datagrams that the calls made, and each call does one of the
-- five things to them. Assumes nothing.
use Rattle.std.specs.Prelude.{true, List, [], ◌∷◌, ◌≡◌, refl, ℕ, ◌*◌, ◌<◌, ◌≤◌, length}
use Rattle.base.specs.Choose.{by_test}
use Rattle.queue.specs.Queue.{is_setting}
use Rattle.outgoing.specs.Send.{send_answer}
use Rattle.flight.specs.Save.{save_answer}
use Rattle.messages.specs.Message.{message_answer}
use Rattle.resend.specs.Tests.{resend_answer}
use Rattle.sealing.specs.Sealing.{is_put, seal_answer}
use Rattle.taking.specs.Take.{take_answer}
use Rattle.waiting_laws.specs.Calls.{Stores, SendCall, key_send·, send·, save·, message·, begin_flight·, resend·, note·, send_ack·, ack·, fill·, sealed·, take·, stored, fresh}
use Rattle.waiting_laws.specs.Queued.{Queued, flat, Holds}
use Rattle.waiting_laws.proofs.Fresh.{fresh_holds}
use Rattle.waiting_laws.proofs.Sends.{after_send, send_holds, save_holds}
use Rattle.waiting_laws.proofs.First.{seal_with, put_with, flat-first}
use Rattle.waiting_laws.proofs.Seals.{after_put, after_reply, seal_holds}
use Rattle.waiting_laws.proofs.Oldest.{fill_holds}
use Rattle.waiting_laws.specs.Takes.{after_taken}
use Rattle.waiting_laws.proofs.Takes.{taken-settled, take-holds}
use Rattle.waiting_laws.proofs.Keying.{keying-holds}
use Rattle.waiting_laws.proofs.Pieces.{after_message, message-holds, Behind, behind_send, behind-message}
use Rattle.waiting_laws.proofs.Resends.{after_resend, resend_holds, behind_resend, after_ack, ack-holds, behind-ack}
use Rattle.waiting_laws.proofs.Effects.{Effect, stays, adds, writes, seals, takes}

-- what the queue means behind a call
abbrev pub after : Stores → SendCall → List (List Queued) → List (List Queued)
after w (key_send· e iv) ds = ds
after w (send· e t x) ds = after_send (send_answer w.state (length w.queue) e t (length x)) w.state e t x ds
after w (save· e t x) ds = after_send (save_answer w.state w.flight (length w.queue) (length w.kept) e t (length x)) w.state e t x ds
after w (message· kind body) ds =
    after_message (message_answer w.state w.flight (length w.queue) (length w.kept) kind (length body)) w.state w.flight w.queue w.kept kind body ds
after w begin_flight· ds = ds
after w resend· ds = after_resend (resend_answer w.state w.flight (length w.queue) (length w.kept)) w.state w.flight w.kept w.queue ds
after w (note· e n) ds = ds
after w send_ack· ds = after_ack w.state w.notes w.queue ds
after w (ack· d) ds = ds
after w (fill· v) ds = after_put (is_put w.state (length v) (length w.queue)) v ds
after w (sealed· n m) ds = after_reply (seal_answer w.state (length w.queue) n) m ds
after w (take· buffer) ds = after_taken (take_answer w.state (length w.queue) (length buffer)) ds

-- an epoch to key is one of 16 bits
abbrev pub Narrow : SendCall → Type 0
Narrow c = (e : ℕ) (iv : List ℕ) → c ≡ key_send· e iv → e < 65536

-- ---- one call

pub call_holds : (w : Stores) (c : SendCall) (ds : List (List Queued)) → Narrow c → Holds w.state w.queue ds → Holds (stored w c).state (stored w c).queue (after w c ds)
call_holds w (key_send· e iv) ds l h = keying-holds w.state w.queue ds h e iv (l e iv refl)
call_holds w (send· e t x) ds l h = send_holds w.state w.queue ds h e t x
call_holds w (save· e t x) ds l h = save_holds w.state w.queue ds h e t x w.flight (length w.kept)
call_holds w (message· kind body) ds l h =
    message-holds (message_answer w.state w.flight (length w.queue) (length w.kept) kind (length body)) w.state w.flight w.queue w.kept kind body ds h
call_holds w begin_flight· ds l h = h
call_holds w resend· ds l h = resend_holds (resend_answer w.state w.flight (length w.queue) (length w.kept)) w.state w.flight w.kept w.queue ds h
call_holds w (note· e n) ds l h = h
call_holds w send_ack· ds l h = ack-holds w.state w.notes w.queue ds h
call_holds w (ack· d) ds l h = h
call_holds w (fill· v) ds l h = fill_holds w.state w.queue ds h v
call_holds w (sealed· n m) ds l h = seal_holds w.state w.queue ds h n m
call_holds w (take· buffer) ds l h = take-holds w.state w.queue ds h (length buffer)

abbrev effect-behind : {rs us : List Queued} → Behind rs us → Effect rs us
effect-behind b = adds b.more b.laid b.all

unfoldable pub call_effect : (w : Stores) (c : SendCall) (ds : List (List Queued)) → Holds w.state w.queue ds → Effect (flat ds) (flat (after w c ds))
call_effect w (key_send· e iv) ds h = stays refl
call_effect w (send· e t x) ds h = effect-behind (behind_send (send_answer w.state (length w.queue) e t (length x)) w.state e t x ds)
call_effect w (save· e t x) ds h =
    effect-behind (behind_send (save_answer w.state w.flight (length w.queue) (length w.kept) e t (length x)) w.state e t x ds)
call_effect w (message· kind body) ds h =
    effect-behind
    (behind-message (message_answer w.state w.flight (length w.queue) (length w.kept) kind (length body)) w.state w.flight w.queue w.kept kind body ds)
call_effect w begin_flight· ds h = stays refl
call_effect w resend· ds h =
    effect-behind (behind_resend (resend_answer w.state w.flight (length w.queue) (length w.kept)) w.state w.flight w.kept w.queue ds)
call_effect w (note· e n) ds h = stays refl
call_effect w send_ack· ds h = effect-behind (behind-ack w.state w.notes w.queue ds)
call_effect w (ack· d) ds h = stays refl
call_effect w (fill· v) ds h = by_test (λ (us : List (List Queued)). Effect (flat ds) (flat us)) (λ d. writes v (flat-first (put_with v) ds)) (λ d. stays refl)
call_effect w (sealed· n m) ds h = by_test (λ (us : List (List Queued)). Effect (flat ds) (flat us)) (λ d. seals m (flat-first (seal_with m) ds)) (λ d. stays refl)
call_effect w (take· buffer) [] h = stays refl
call_effect w (take· buffer) (d ∷ ds) h =
    by_test (λ (us : List (List Queued)). Effect (flat (d ∷ ds)) (flat us)) (λ t. takes d (taken-settled w.state w.queue d ds h (length buffer) t) refl) (λ t. stays refl)

-- ---- any list of calls

abbrev pub run : Stores → List SendCall → Stores
run w [] = w
run w (c ∷ cs) = run (stored w c) cs

-- what the queue means in the end
abbrev pub meant : Stores → List SendCall → List (List Queued) → List (List Queued)
meant w [] ds = ds
meant w (c ∷ cs) ds = meant (stored w c) cs (after w c ds)

abbrev pub AllNarrow : List SendCall → Type 0
AllNarrow [] = Unit {0}
AllNarrow (c ∷ cs) = Narrow c × AllNarrow cs

pub run_holds : (w : Stores) (cs : List SendCall) (ds : List (List Queued)) → AllNarrow cs → Holds w.state w.queue ds → Holds (run w cs).state (run w cs).queue (meant w cs ds)
run_holds w [] ds l h = h
run_holds w (c ∷ cs) ds l h = run_holds (stored w c) cs (after w c ds) l.1 (call_holds w c ds l.0 h)

-- a lent queue of any bytes, long enough
pub always_holds : (mtu limit : ℕ) (queue kept : List ℕ) → is_setting mtu limit ≡ true → limit * mtu ≤ length queue → (cs : List SendCall) → AllNarrow cs
    → Holds (run (fresh mtu limit queue kept) cs).state (run (fresh mtu limit queue kept) cs).queue (meant (fresh mtu limit queue kept) cs [])
always_holds mtu limit queue kept s l cs n = run_holds (fresh mtu limit queue kept) cs [] n (fresh_holds mtu limit queue s l)
