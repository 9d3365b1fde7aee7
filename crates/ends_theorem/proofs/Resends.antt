-- A flight sent again and an ACK sent: each record is laid as any other. Assumes nothing.
use Prim.Native.Nat.{ℕ, zero, suc}
use Rattle.std.specs.Prelude.{eqb, length, refl}
use mathlib.Core.List.{List}
use Rattle.std.proofs.Math.Path.{subst}
use Rattle.outgoing.specs.declared.Sending.{Sending}
use Rattle.outgoing.specs.Send.{send_answer, send_state, send_memory}
use Rattle.flight.specs.Flight.{entry_at}
use Rattle.acks.specs.declared.AckSent.{AckSent}
use Rattle.acks.specs.Acks.{ack_epoch, ack_content, ack_len, notice_state, notice_memory, ack_answer, ack_sent, sent_ack, ack_memory}
use Rattle.acks.proofs.Acks.{length-content}
use Rattle.flight.specs.declared.Saved.{Saved}
use Rattle.resend.specs.Resend.{Laying as Again, content_at, sent_again, again_at, again_after, resend_state, resend_queue}
use Rattle.resend.specs.Tests.{closed_state}
use Rattle.waiting_laws.specs.Calls.{Stores}
use Rattle.waiting_laws.specs.Queued.{Queued}
use Rattle.waiting_laws.proofs.Resends.{closed-holds, again_sent, after_resend, after_ack}
use Rattle.waiting_laws.proofs.Sends.{after_send}
use Rattle.history_theorem.specs.Receiver.{Sealed}
use Rattle.send_keys.specs.Answer.{SendAnswer, is_done}
use Rattle.ends_theorem.proofs.Books.{lays, again_books, closing, resend_books, ack_books}
use Rattle.ends_theorem.proofs.Laws.{by_three, by-four}
use Rattle.ends_theorem.proofs.Laying.{Laying, alike-lays, send_lays}
use Rattle.ends_theorem.specs.Sender.{Line, Books}

module _ (log : ℕ → List Sealed) (gone : List Line) (ivs : ℕ → List ℕ) where
  again-lays : (kept : List ℕ) (l : Again) (n : ℕ) (ds : List (List Queued)) (b : Books) → Laying log gone ivs l.state l.queue ds b
      → Laying log gone ivs (again_after kept l n).state (again_after kept l n).queue (again_sent kept l n ds) (again_books kept l n b)
  unfolding again_after again_at sent_again again_sent again_books
  again-lays kept l zero ds b i = i
  again-lays kept l (suc n) ds b i =
      let r : Again = again_after kept l n in
      let ih = again-lays kept l n ds b i in
      by_three (λ (a : Again) (us : List (List Queued)) (c : Books). Laying log gone ivs a.state a.queue us c) (entry_at r.flight n).marked
      (λ m. ih) (λ m. send_lays ih (entry_at r.flight n).epoch (entry_at r.flight n).content_type (content_at kept n r))

  pub resend_lays : (a : SendAnswer) (w : Stores) (ds : List (List Queued)) (b : Books) → Laying log gone ivs w.state w.queue ds b
      → Laying log gone ivs (resend_state a w.state w.flight w.kept w.queue).state (resend_queue a w.state w.flight w.kept w.queue)
      (after_resend a w.state w.flight w.kept w.queue ds) (resend_books a w b)
  unfolding resend_state resend_queue resend_books closed_state
  resend_lays a w ds b i =
      by-four (λ (r : Saved) (q : List ℕ) (us : List (List Queued)) (c : Books). Laying log gone ivs r.state q us c) (is_done a)
      (λ z. again-lays w.kept (closing w) w.flight.saved ds b (alike-lays i (closed-holds w.state w.queue ds i.holds) refl)) (λ z. i)

  -- ---- an ACK

  notice_lays : (w : Stores) (ds : List (List Queued)) (b : Books) → Laying log gone ivs w.state w.queue ds b
      → let k = ack_epoch w.state.keys in
      let a = send_answer w.state (length w.queue) k 26 (ack_len w.notes) in
      Laying log gone ivs (notice_state w.state w.notes (length w.queue)).state (notice_memory w.state w.notes w.queue)
      (after_send a w.state k 26 (ack_content w.notes) ds) (lays a w.state k 26 (ack_content w.notes) b)
  unfolding notice_state notice_memory
  notice_lays w ds b i =
      let k : ℕ = ack_epoch w.state.keys in
      let s : Sending = w.state in
      let x : List ℕ = ack_content w.notes in
      subst (λ (n : ℕ). Laying log gone ivs (send_state (send_answer s (length w.queue) k 26 n) s k n).state (send_memory (send_answer s (length w.queue) k 26 n) s k 26 x w.queue)
      (after_send (send_answer s (length w.queue) k 26 n) s k 26 x ds) (lays (send_answer s (length w.queue) k 26 n) s k 26 x b))
      (length-content w.notes) (send_lays i k 26 x)

  pub ack-lays : (w : Stores) (ds : List (List Queued)) (b : Books) → Laying log gone ivs w.state w.queue ds b
      → Laying log gone ivs (sent_ack w.state w.notes (length w.queue)).state (ack_memory w.state w.notes w.queue) (after_ack w.state w.notes w.queue ds) (ack_books w b)
  unfolding sent_ack ack_sent ack_memory ack_books
  ack-lays w ds b i =
      let P : AckSent → List ℕ → List (List Queued) → Books → Type 0 = λ r q us c. Laying log gone ivs r.state q us c in
      by-four P (is_done (ack_answer w.state w.notes (length w.queue)))
      (λ z. by-four P (eqb w.notes.count 0) (λ y. i) (λ y. notice_lays w ds b i)) (λ z. i)
