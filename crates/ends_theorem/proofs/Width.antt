-- No call changes the MTU or the queue's limit. Assumes nothing.
use Rattle.std.specs.Prelude.{ℕ, zero, suc, length, List, ◌≡◌, refl}
use Rattle.std.proofs.Common.{ap, ◌∙◌}
use Rattle.base.specs.Choose.{by_test}
use Rattle.queue.specs.Queue.{laid}
use Rattle.send_keys.specs.Answer.{SendAnswer}
use Rattle.outgoing.specs.declared.Sending.{Sending}
use Rattle.outgoing.specs.Send.{laid_state, send_state}
use Rattle.outgoing.specs.State.{keying_state}
use Rattle.sealing.specs.Sealing.{sealed_state}
use Rattle.taking.specs.Take.{take_state}
use Rattle.flight.specs.declared.Flight.{Flight}
use Rattle.flight.specs.declared.Saved.{Saved as SavedState}
use Rattle.flight.specs.Save.{save_state}
use Rattle.messages.specs.Message.{Laid, piece_of, send_all, beginning, message_state}
use Rattle.acks.specs.declared.AckSent.{AckSent}
use Rattle.acks.specs.Acks.{notice_state, ack_sent, sent_ack}
use Rattle.resend.specs.Resend.{Laying as Again, sent_again, again_answer, again_at, again_after, resend_state}
use Rattle.resend.specs.Tests.{closed_state}
use Rattle.waiting_laws.specs.Calls.{Stores, SendCall, key_send·, send·, save·, message·, begin_flight·, resend·, note·, send_ack·, ack·, fill·, sealed·, take·, stored}
use Rattle.ends_theorem.proofs.Books.{piece, closing}

-- the MTU and the limit
abbrev width_of : Sending → ℕ × ℕ
width_of s = (s.queue.mtu, s.queue.limit)

send_width : (a : SendAnswer) (s : Sending) (e n : ℕ) → width_of (send_state a s e n).state ≡ width_of s
unfolding send_state laid_state laid
send_width a s e n = by_test (λ (u : Sending). width_of u ≡ width_of s) (λ z. refl) (λ z. refl)

save_width : (s : Sending) (f : Flight) (room kept e t n : ℕ) → width_of (save_state s f room kept e t n).state ≡ width_of s
unfolding save_state laid_state laid
save_width s f room kept e t n = by_test (λ (u : Sending). width_of u ≡ width_of s) (λ z. refl) (λ z. refl)

piece-size : (kind : ℕ) (body : List ℕ) (at : ℕ) (l : Laid) → width_of (piece kind body at l).saved.state ≡ width_of l.saved.state
unfolding piece_of
piece-size kind body at l = save_width l.saved.state l.saved.flight (length l.queue) (length l.kept) _ 22 _

all-width : (k kind : ℕ) (body : List ℕ) (at : ℕ) (l : Laid) → width_of (send_all k kind body at l).saved.state ≡ width_of l.saved.state
unfolding send_all
all-width zero kind body at l = refl
all-width (suc k) kind body at l =
    by_test (λ (v : Laid). width_of v.saved.state ≡ width_of l.saved.state) (λ z. piece-size kind body at l)
    (λ z. all-width k kind body _ (piece kind body at l) ∙ piece-size kind body at l)

message-width : (a : SendAnswer) (s : Sending) (f : Flight) (q m : List ℕ) (kind : ℕ) (body : List ℕ) → width_of (message_state a s f q m kind body).state ≡ width_of s
unfolding message_state
message-width a s f q m kind body =
    by_test (λ (r : SavedState). width_of r.state ≡ width_of s) (λ z. all-width 13 kind body 0 (beginning s f q m)) (λ z. refl)

again-width : (kept : List ℕ) (l : Again) (n : ℕ) → width_of (again_after kept l n).state ≡ width_of l.state
unfolding again_after again_at sent_again
again-width kept l zero = refl
again-width kept l (suc n) =
    by_test (λ (v : Again). width_of v.state ≡ width_of l.state) (λ z. again-width kept l n)
    (λ z. send_width (again_answer kept n (again_after kept l n)) (again_after kept l n).state _ _ ∙ again-width kept l n)

ack-width : (w : Stores) → width_of (sent_ack w.state w.notes (length w.queue)).state ≡ width_of w.state
unfolding sent_ack ack_sent notice_state
ack-width w =
    let P : AckSent → Type 0 = λ r. width_of r.state ≡ width_of w.state in
    by_test P (λ z. by_test P (λ y. refl) (λ y. send_width _ w.state _ _)) (λ z. refl)

resend_width : (w : Stores) → width_of (stored w resend·).state ≡ width_of w.state
unfolding resend_state closed_state
resend_width w = by_test (λ (r : SavedState). width_of r.state ≡ width_of w.state) (λ z. unfold closed_state in (again-width w.kept (closing w) w.flight.saved)) (λ z. refl)

key_width : (s : Sending) (e : ℕ) (iv : List ℕ) → width_of (keying_state s e iv).state ≡ width_of s
unfolding keying_state
key_width s e iv = by_test (λ (u : Sending). width_of u ≡ width_of s) (λ z. refl) (λ z. refl)

seal_width : (w : Stores) (k : ℕ) (m : List ℕ) → width_of (stored w (sealed· k m)).state ≡ width_of w.state
unfolding sealed_state
seal_width w k m = by_test (λ (u : Sending). width_of u ≡ width_of w.state) (λ z. refl) (λ z. refl)

take-width : (w : Stores) (b : List ℕ) → width_of (stored w (take· b)).state ≡ width_of w.state
unfolding take_state
take-width w b = by_test (λ (u : Sending). width_of u ≡ width_of w.state) (λ z. refl) (λ z. refl)

same_size : (w : Stores) (c : SendCall) → width_of (stored w c).state ≡ width_of w.state
same_size w (key_send· e iv) = key_width w.state e iv
same_size w (send· e t x) = send_width _ w.state e (length x)
same_size w (save· e t x) = save_width w.state w.flight (length w.queue) (length w.kept) e t (length x)
same_size w (message· kind body) = message-width _ w.state w.flight w.queue w.kept kind body
same_size w begin_flight· = refl
same_size w resend· = resend_width w
same_size w (note· e n) = refl
same_size w send_ack· = ack-width w
same_size w (ack· d) = refl
same_size w (fill· v) = refl
same_size w (sealed· k m) = seal_width w k m
same_size w (take· b) = take-width w b

pub same_width : (w : Stores) (c : SendCall) → (stored w c).state.queue.mtu ≡ w.state.queue.mtu
same_width w c = ap (λ (p : ℕ × ℕ). p.0) (same_size w c)

pub same-limit : (w : Stores) (c : SendCall) → (stored w c).state.queue.limit ≡ w.state.queue.limit
same-limit w c = ap (λ (p : ℕ × ℕ). p.1) (same_size w c)
