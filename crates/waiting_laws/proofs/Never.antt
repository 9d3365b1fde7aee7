-- No list of calls that send, on a fresh state with buffers long enough, meets 12. Assumes nothing.
use Rattle.std.specs.Prelude.{true, ◌≡◌, refl, ℕ, zero, suc, ◌+◌, ◌-◌, ◌*◌, ◌≤◌, Ok}
use mathlib.Core.List.{List, [], ◌∷◌}
use Rattle.std.proofs.Common.{sym, subst, ◌∙◌, arith, le-leb, le-ltb, ltb-true}
use Rattle.std.proofs.Math.ListN.{length}
use Rattle.base.specs.Choose.{choose, by_test, test_cases, if_true, if_false, both_true}
use Rattle.base.specs.Parts.{length-splice}
use Rattle.queue.specs.Queue.{is_setting, is_ready, last_len, laid}
use Rattle.outgoing.specs.declared.Sending.{Sending}
use Rattle.outgoing.specs.State.{fresh_sending, keying_state}
use Rattle.outgoing.specs.Send.{laid_state, send_answer, send_state}
use Rattle.flight.specs.declared.Flight.{Flight}
use Rattle.flight.specs.declared.Acted.{Acted}
use Rattle.flight.specs.declared.Saved.{Saved}
use Rattle.flight.specs.Flight.{is_kept, fresh_flight, begun, saved_with, saved_memory}
use Rattle.flight.specs.Save.{save_answer, save_state, save_kept, save_safe, kept-fits}
use Rattle.messages.specs.Cut.{epoch_of, overhead, size-rest}
use Rattle.messages.specs.Message.{content_of, Laid, piece_of, size_now, send_all, beginning, message_answer, message_state, message_kept, length-content}
use Rattle.sealing.specs.Sealing as seals
use Rattle.sealing.specs.Sealing.{SealAnswer, seal_answer, sealed_state}
use Rattle.taking.specs.Take.{TakeAnswer, take_state}
use Rattle.process_ack.specs.Ack.{pairs_in, marks_after, emptied, acked}
use Rattle.process_ack.proofs.Ack.{marks-saved}
use Rattle.acks.specs.declared.Notes.{Notes}
use Rattle.acks.specs.declared.Noting.{Noting}
use Rattle.acks.specs.declared.AckSent.{AckSent}
use Rattle.acks.specs.Acks.{fresh_notes, noted, forgotten, ack_epoch, ack_len, notice_state, ack_answer, ack_sent, sent_ack}
use Rattle.resend.specs.Tests.{closed_state, fit_answer, resend_answer}
use Rattle.resend.specs.Resend.{renewed, renewed_if, Laying, again_at, sent_again, again_after, resend_state}
use Rattle.resend_laws.specs.Steps as again
use Rattle.send_keys.specs.Answer.{SendAnswer, is_done, refusal}
use Rattle.waiting_laws.specs.Calls.{Stores, SendCall, key_send·, send·, save·, message·, begin_flight·, resend·, note·, send_ack·, ack·, fill·, sealed·, take·, stored, fresh}
use Rattle.waiting_laws.specs.Answers.{note_reply, take_reply, answered}
use Rattle.waiting_laws.specs.Queued.{Queued, Holds}
use Rattle.waiting_laws.proofs.Seals.{ready_always, seal_told}
use Rattle.waiting_laws.specs.Takes.{take_told}
use Rattle.waiting_laws.proofs.Takes.{take-told}
use Rattle.waiting_laws.proofs.Keying.{keying-told}
use Rattle.waiting_laws.proofs.Runs.{AllNarrow, run, meant, always_holds}

-- ---- the flight

-- at most 12 saved, and a buffer for 12 records of the MTU
pub record Saves (f : Flight) (mtu room : ℕ) : Type 0 where
  pub few : f.saved ≤ 12
  pub space : 12 * mtu ≤ room

saves-kept : {f : Flight} {mtu room : ℕ} → Saves f mtu room → is_kept f mtu room ≡ true
unfolding is_kept
saves-kept s = both_true (le-leb _ _ s.few) ∙ le-leb _ _ s.space

-- a saved send keeps that; the MTU is as it was
module _ (s : Sending) (f : Flight) (q m : List ℕ) (e t : ℕ) (x : List ℕ) (h : Saves f s.queue.mtu (length m)) where
  save_keeps : Saves (save_state s f (length q) (length m) e t (length x)).flight (save_state s f (length q) (length m) e t (length x)).state.queue.mtu (length (save_kept s f (length q) e t x m))
  unfolding save_state save_kept laid_state laid saved_with saved_memory
  save_keeps =
      let a : SendAnswer = save_answer s f (length q) (length m) e t (length x) in
      let mtu : (choose (is_done a) (laid_state s e (length x)) s).queue.mtu ≡ s.queue.mtu = by_test (λ (u : Sending). u.queue.mtu ≡ s.queue.mtu) (λ d. refl) (λ d. refl) in
      rw mtu (record {
        few = by_test (λ (g : Flight). g.saved ≤ 12) (λ d. omega (arith, (save_safe s f (length q) (length m) e t (length x) d).keeps.saved)) (λ d. h.few);
        space = by_test (λ (l : List ℕ). 12 * s.queue.mtu ≤ length l)
            (λ d. omega (arith, h.space, length-splice (f.saved * s.queue.mtu) x m (kept-fits (save_safe s f (length q) (length m) e t (length x) d).keeps).0)) (λ d. h.space);
      })

-- so does each piece of a message
piece-keeps : (kind : ℕ) (body : List ℕ) (at n : ℕ) (s : Sending) (f : Flight) (q m : List ℕ) → at + n ≤ length body → Saves f s.queue.mtu (length m)
    → Saves (piece_of kind body at n s f q m).saved.flight (piece_of kind body at n s f q m).saved.state.queue.mtu (length (piece_of kind body at n s f q m).kept)
unfolding piece_of
piece-keeps kind body at n s f q m l h =
    let x : List ℕ = content_of kind s.message_seq body at n in
    let e : ℕ = epoch_of kind in
    subst (λ (k : ℕ). Saves (save_state s f (length q) (length m) e 22 k).flight (save_state s f (length q) (length m) e 22 k).state.queue.mtu (length (save_kept s f (length q) e 22 x m)))
    (length-content kind s.message_seq body at n l) (save_keeps s f q m e 22 x h)

all-keeps : (k kind : ℕ) (body : List ℕ) (at : ℕ) (l : Laid) → at ≤ length body → Saves l.saved.flight l.saved.state.queue.mtu (length l.kept)
    → Saves (send_all k kind body at l).saved.flight (send_all k kind body at l).saved.state.queue.mtu (length (send_all k kind body at l).kept)
unfolding send_all
all-keeps zero kind body at l h g = g
all-keeps (suc k) kind body at l h g =
    let n : ℕ = size_now kind l.saved.state (length body - at) in
    let low : at + n ≤ length body = omega (arith, size-rest l.saved.state.queue.mtu (overhead (epoch_of kind)) (last_len l.saved.state.queue) (length body - at)) in
    let p : Laid = piece_of kind body at n l.saved.state l.saved.flight l.queue l.kept in
    let o = piece-keeps kind body at n l.saved.state l.saved.flight l.queue l.kept low g in
    by_test (λ (u : Laid). Saves u.saved.flight u.saved.state.queue.mtu (length u.kept)) (λ z. o) (λ z. all-keeps k kind body (at + n) p low o)

message-keeps : (a : SendAnswer) (s : Sending) (f : Flight) (q m : List ℕ) (kind : ℕ) (body : List ℕ) → Saves f s.queue.mtu (length m)
    → Saves (message_state a s f q m kind body).flight (message_state a s f q m kind body).state.queue.mtu (length (message_kept a s f q m kind body))
unfolding message_state message_kept
message-keeps a s f q m kind body h =
    let l : Laid = send_all 13 kind body 0 (beginning s f q m) in
    let all = all-keeps 13 kind body 0 (beginning s f q m) (omega arith) h in
    test_cases (is_done a)
    (λ d.
    subst (λ (k : List ℕ). Saves (message_state a s f q m kind body).flight (message_state a s f q m kind body).state.queue.mtu (length k)) (sym (if_true l.kept m d))
    (subst (λ (u : Saved). Saves u.flight u.state.queue.mtu (length l.kept)) (sym (if_true _ _ d)) all))
    (λ d.
    subst (λ (k : List ℕ). Saves (message_state a s f q m kind body).flight (message_state a s f q m kind body).state.queue.mtu (length k)) (sym (if_false l.kept m d))
    (subst (λ (u : Saved). Saves u.flight u.state.queue.mtu (length m)) (sym (if_false _ _ d)) h))

-- a resend saves and forgets no record
again-same : (kept : List ℕ) (i : ℕ) (l : Laying) → ((again_at kept i l).flight.saved ≡ l.flight.saved) × ((again_at kept i l).state.queue.mtu ≡ l.state.queue.mtu)
unfolding again_at sent_again renewed_if renewed send_state laid_state laid
again-same kept i l =
    by_test (λ (u : Laying). (u.flight.saved ≡ l.flight.saved) × (u.state.queue.mtu ≡ l.state.queue.mtu)) (λ m. (refl, refl))
    (λ m. (
      by_test (λ (g : Flight). g.saved ≡ l.flight.saved) (λ d. by_test (λ (g : Flight). g.saved ≡ l.flight.saved) (λ c. refl) (λ c. refl)) (λ d. refl),
      by_test (λ (u : Sending). u.queue.mtu ≡ l.state.queue.mtu) (λ d. refl) (λ d. refl),
    ))

again-all-same : (kept : List ℕ) (l : Laying) (n : ℕ) → ((again_after kept l n).flight.saved ≡ l.flight.saved) × ((again_after kept l n).state.queue.mtu ≡ l.state.queue.mtu)
unfolding again_after
again-all-same kept l zero = (refl, refl)
again-all-same kept l (suc n) =
    let one = again-same kept n (again_after kept l n) in
    let all = again-all-same kept l n in
    (one.0 ∙ all.0, one.1 ∙ all.1)

resend_keeps : (a : SendAnswer) (s : Sending) (f : Flight) (q m : List ℕ) → Saves f s.queue.mtu (length m)
    → Saves (resend_state a s f m q).flight (resend_state a s f m q).state.queue.mtu (length m)
unfolding resend_state closed_state
resend_keeps a s f q m h =
    by_test (λ (r : Saved). Saves r.flight r.state.queue.mtu (length m))
    (λ d.
    let all = again-all-same m (again.beginning s f q) f.saved in
    record { few = omega (arith, all.0, h.few); space = subst (λ (k : ℕ). 12 * k ≤ length m) (sym all.1) h.space })
    (λ d. h)

-- acting on an ACK saves no record
emptied-few : (f : Flight) → (emptied f).saved ≤ f.saved
unfolding emptied
emptied-few f =
    by_test (λ (g : Flight). g.saved ≤ f.saved) (λ y. by_test (λ (g : Flight). g.saved ≤ f.saved) (λ z. omega arith) (λ z. omega arith)) (λ y. omega arith)

act-few : (f : Flight) (d : List ℕ) → (acked f d).flight.saved ≤ f.saved
unfolding acked
act-few f d =
    by_test (λ (a : Acted). a.flight.saved ≤ f.saved) (λ l. omega arith)
    (λ l. by_test (λ (g : Flight). g.saved ≤ f.saved)
    (λ y. omega (arith, emptied-few (marks_after d (pairs_in d) f f.saved), marks-saved d (pairs_in d) f f.saved)) (λ y. omega arith))

ack-mtu : (s : Sending) (n : Notes) (room : ℕ) → (sent_ack s n room).state.queue.mtu ≡ s.queue.mtu
unfolding sent_ack ack_sent notice_state send_state laid_state laid
ack-mtu s n room =
    by_test (λ (r : AckSent). r.state.queue.mtu ≡ s.queue.mtu)
    (λ d. by_test (λ (r : AckSent). r.state.queue.mtu ≡ s.queue.mtu) (λ z. refl)
    (λ z. by_test (λ (u : Sending). u.queue.mtu ≡ s.queue.mtu) (λ y. refl) (λ y. refl)))
    (λ d. refl)

-- notes are at most 32: fresh, behind noting, and behind sending the ACK
pub fresh-notes-few : fresh_notes.count ≤ 32
unfolding fresh_notes
fresh-notes-few = omega arith

pub noted-few : (n : Notes) (e k : ℕ) → n.count ≤ 32 → (noted n e k).notes.count ≤ 32
unfolding noted
noted-few n e k h =
    by_test (λ (r : Noting). r.notes.count ≤ 32) (λ l. h)
    (λ l. by_test (λ (r : Noting). r.notes.count ≤ 32) (λ m. omega (arith, ltb-true n.count 32 m)) (λ m. h))

pub sent-notes-few : (s : Sending) (n : Notes) (room : ℕ) → n.count ≤ 32 → (sent_ack s n room).notes.count ≤ 32
unfolding sent_ack ack_sent forgotten
sent-notes-few s n room h =
    by_test (λ (r : AckSent). r.notes.count ≤ 32)
    (λ d. by_test (λ (r : AckSent). r.notes.count ≤ 32) (λ z. h) (λ z. by_test (λ (m : Notes). m.count ≤ 32) (λ y. omega arith) (λ y. h))) (λ d. h)

-- every call keeps both
abbrev pub Small : Stores → Type 0
Small w = Saves w.flight w.state.queue.mtu (length w.kept) × (w.notes.count ≤ 32)

same-mtu : {f : Flight} {a b room : ℕ} → a ≡ b → Saves f b room → Saves f a room
same-mtu {f} {a} {b} {room} e s = subst (λ (k : ℕ). Saves f k room) (sym e) s

pub call_keeps : (w : Stores) (c : SendCall) → Small w → Small (stored w c)
unfolding keying_state send_state laid_state laid sealed_state take_state begun
call_keeps w (key_send· e iv) h = (same-mtu (by_test (λ (u : Sending). u.queue.mtu ≡ w.state.queue.mtu) (λ d. refl) (λ d. refl)) h.0, h.1)
call_keeps w (send· e t x) h = (same-mtu (by_test (λ (u : Sending). u.queue.mtu ≡ w.state.queue.mtu) (λ d. refl) (λ d. refl)) h.0, h.1)
call_keeps w (save· e t x) h = (save_keeps w.state w.flight w.queue w.kept e t x h.0, h.1)
call_keeps w (message· kind body) h = (
  message-keeps (message_answer w.state w.flight (length w.queue) (length w.kept) kind (length body)) w.state w.flight w.queue w.kept kind body h.0,
  h.1,
)
call_keeps w begin_flight· h = (
  by_test (λ (b : Acted). Saves b.flight w.state.queue.mtu (length w.kept)) (λ d. record { few = omega arith; space = h.0.space }) (λ d. h.0),
  h.1,
)
call_keeps w resend· h = (
  resend_keeps (resend_answer w.state w.flight (length w.queue) (length w.kept)) w.state w.flight w.queue w.kept h.0,
  h.1,
)
call_keeps w (note· e n) h = (h.0, noted-few w.notes e n h.1)
call_keeps w send_ack· h = (same-mtu (ack-mtu w.state w.notes (length w.queue)) h.0, sent-notes-few w.state w.notes (length w.queue) h.1)
call_keeps w (ack· d) h = (record { few = omega (arith, act-few w.flight d, h.0.few); space = h.0.space }, h.1)
call_keeps w (fill· v) h = h
call_keeps w (sealed· n m) h = (same-mtu (by_test (λ (u : Sending). u.queue.mtu ≡ w.state.queue.mtu) (λ d. refl) (λ d. refl)) h.0, h.1)
call_keeps w (take· buffer) h = (same-mtu (by_test (λ (u : Sending). u.queue.mtu ≡ w.state.queue.mtu) (λ d. refl) (λ d. refl)) h.0, h.1)

-- ---- no call is refused by 12

send_not : (s : Sending) (room e t n : ℕ) → is_ready s.queue room ≡ true → refusal (send_answer s room e t n) ≡ 12 → ⊥
unfolding send_answer
send_not s room e t n r =
    let P : SendAnswer → Type 0 = λ a. refusal a ≡ 12 → ⊥ in
    subst P (sym (if_true _ _ r))
    (by_test P (λ u. by_test P (λ l. by_test P (λ k. by_test P (λ f z. omega arith) (λ f. by_test P (λ p z. omega arith) (λ p z. omega arith))) (λ k z. omega arith)) (λ l z. omega arith))
    (λ u z. omega arith))

save_not : (s : Sending) (f : Flight) (room kept e t n : ℕ) → is_ready s.queue room ≡ true → is_kept f s.queue.mtu kept ≡ true → refusal (save_answer s f room kept e t n) ≡ 12 → ⊥
unfolding save_answer
save_not s f room kept e t n r k =
    let P : SendAnswer → Type 0 = λ a. refusal a ≡ 12 → ⊥ in
    subst P (sym (if_true _ _ r ∙ if_true _ _ k))
    (by_test P (λ u. by_test P (λ l. by_test P (λ i. by_test P (λ v z. omega arith) (λ v. by_test P (λ g z. omega arith) (λ g. by_test P (λ p z. omega arith) (λ p z. omega arith)))) (λ i z. omega arith))
    (λ l z. omega arith))
    (λ u z. omega arith))

message_not : (s : Sending) (f : Flight) (room kept kind n : ℕ) → is_ready s.queue room ≡ true → is_kept f s.queue.mtu kept ≡ true → refusal (message_answer s f room kept kind n) ≡ 12 → ⊥
unfolding message_answer
message_not s f room kept kind n r k =
    let P : SendAnswer → Type 0 = λ a. refusal a ≡ 12 → ⊥ in
    subst P (sym (if_true _ _ r ∙ if_true _ _ k))
    (by_test P (λ l z. omega arith)
    (λ l. by_test P
    (λ i. by_test P (λ v z. omega arith) (λ v. by_test P (λ g z. omega arith) (λ g. by_test P (λ p z. omega arith) (λ p. by_test P (λ j z. omega arith) (λ j z. omega arith)))))
    (λ i z. omega arith)))

begin_not : (f : Flight) → f.saved ≤ 12 → refusal (begun f).answer ≡ 12 → ⊥
unfolding begun
begin_not f h = subst (λ (b : Acted). refusal b.answer ≡ 12 → ⊥) (sym (if_true _ _ (le-leb f.saved 12 h))) (λ z. omega arith)

key_not : (s : Sending) (mem : List ℕ) (ds : List (List Queued)) → Holds s mem ds → (e : ℕ) (iv : List ℕ) → refusal (keying_state s e iv).answer ≡ 12 → ⊥
unfolding keying_state
key_not s mem ds h e iv =
    let P : SendAnswer → Type 0 = λ a. refusal a ≡ 12 → ⊥ in
    subst P (sym (keying-told s mem ds h e))
    (by_test P (λ a z. omega arith) (λ a. by_test P (λ b z. omega arith) (λ b. by_test P (λ c z. omega arith) (λ c. by_test P (λ d z. omega arith) (λ d z. omega arith)))))

reply_not : (s : Sending) (mem : List ℕ) (ds : List (List Queued)) → Holds s mem ds → (n : ℕ) → seals.refusal (seal_answer s (length mem) n) ≡ 12 → ⊥
reply_not s mem ds h n =
    let P : SealAnswer → Type 0 = λ a. seals.refusal a ≡ 12 → ⊥ in
    subst P (sym (seal_told s mem ds h n)) (by_test P (λ a. by_test P (λ b z. omega arith) (λ b z. omega arith)) (λ a z. omega arith))

told_not : (ds : List (List Queued)) (have : ℕ) → (take_reply (take_told ds have)).number ≡ 12 → ⊥
told_not [] have = λ z. omega arith
told_not (d ∷ ds) have =
    let P : TakeAnswer → Type 0 = λ a. (take_reply a).number ≡ 12 → ⊥ in
    by_test P (λ a z. omega arith) (λ a. by_test P (λ b z. omega arith) (λ b z. omega arith))

fit_not : (s : Sending) (f : Flight) → refusal (fit_answer s f) ≡ 12 → ⊥
unfolding fit_answer
fit_not s f =
    let P : SendAnswer → Type 0 = λ a. refusal a ≡ 12 → ⊥ in by_test P (λ u z. omega arith) (λ u. by_test P (λ v z. omega arith) (λ v z. omega arith))

resend_not : (s : Sending) (f : Flight) (room kept : ℕ) → is_ready s.queue room ≡ true → is_kept f s.queue.mtu kept ≡ true → refusal (resend_answer s f room kept) ≡ 12 → ⊥
unfolding resend_answer
resend_not s f room kept r k =
    let P : SendAnswer → Type 0 = λ a. refusal a ≡ 12 → ⊥ in
    subst P (sym (if_true _ _ r ∙ if_true _ _ k))
    (by_test P (λ a. by_test P (λ b. by_test P (λ c. by_test P (λ d. fit_not (closed_state s) f) (λ d z. omega arith)) (λ c z. omega arith)) (λ b z. omega arith)) (λ a z. omega arith))

act_not : (f : Flight) (d : List ℕ) → f.saved ≤ 12 → refusal (acked f d).answer ≡ 12 → ⊥
unfolding acked
act_not f d h = subst (λ (a : Acted). refusal a.answer ≡ 12 → ⊥) (sym (if_false _ _ (le-ltb 12 f.saved h))) (λ z. omega arith)

ack-done : (s : Sending) (n : Notes) (room : ℕ) → is_ready s.queue room ≡ true → n.count ≤ 32 → ack_answer s n room ≡ Ok tt
unfolding ack_answer
ack-done s n room r h = if_false _ _ (le-ltb 32 n.count h) ∙ if_true _ _ r

ack_not : (s : Sending) (n : Notes) (room : ℕ) → is_ready s.queue room ≡ true → n.count ≤ 32 → refusal (sent_ack s n room).answer ≡ 12 → ⊥
unfolding sent_ack ack_sent notice_state send_state
ack_not s n room r h =
    let P : AckSent → Type 0 = λ a. refusal a.answer ≡ 12 → ⊥ in
    let done : ack_answer s n room ≡ Ok tt = ack-done s n room r h in
    let none : refusal (ack_answer s n room) ≡ 12 → ⊥ = subst (λ (a : SendAnswer). refusal a ≡ 12 → ⊥) (sym done) (λ z. omega arith) in
    by_test P (λ d. by_test P (λ z. none) (λ z. send_not s room (ack_epoch s.keys) 26 (ack_len n) r)) (λ d. none)

note_not : (n : Notes) (e k : ℕ) → n.count ≤ 32 → (note_reply (noted n e k).answer).number ≡ 12 → ⊥
unfolding noted
note_not n e k h =
    let P : Noting → Type 0 = λ r. (note_reply r.answer).number ≡ 12 → ⊥ in
    subst P (sym (if_false _ _ (le-ltb 32 n.count h))) (by_test P (λ l z. omega arith) (λ l z. omega arith))

pub call_not : (w : Stores) (c : SendCall) (ds : List (List Queued)) → Holds w.state w.queue ds → Small w → (answered w c).number ≡ 12 → ⊥
call_not w (key_send· e iv) ds h s z = key_not w.state w.queue ds h e iv z
call_not w (send· e t x) ds h s z = send_not w.state (length w.queue) e t (length x) (ready_always w.state w.queue ds h) z
call_not w (save· e t x) ds h s z =
    save_not w.state w.flight (length w.queue) (length w.kept) e t (length x) (ready_always w.state w.queue ds h) (saves-kept s.0) z
call_not w (message· kind body) ds h s z =
    message_not w.state w.flight (length w.queue) (length w.kept) kind (length body) (ready_always w.state w.queue ds h) (saves-kept s.0) z
call_not w begin_flight· ds h s z = begin_not w.flight s.0.few z
call_not w resend· ds h s z = resend_not w.state w.flight (length w.queue) (length w.kept) (ready_always w.state w.queue ds h) (saves-kept s.0) z
call_not w (note· e n) ds h s z = note_not w.notes e n s.1 z
call_not w send_ack· ds h s z = ack_not w.state w.notes (length w.queue) (ready_always w.state w.queue ds h) s.1 z
call_not w (ack· d) ds h s z = act_not w.flight d s.0.few z
call_not w (fill· v) ds h s z = omega arith
call_not w (sealed· n m) ds h s z = reply_not w.state w.queue ds h n z
call_not w (take· buffer) ds h s z =
    told_not ds (length buffer) (subst (λ (a : TakeAnswer). (take_reply a).number ≡ 12) (take-told w.state w.queue ds h (length buffer)) z)

-- ---- any list of calls

run_small : (w : Stores) (cs : List SendCall) → Small w → Small (run w cs)
run_small w [] s = s
run_small w (c ∷ cs) s = run_small (stored w c) cs (call_keeps w c s)

-- a call behind any list of calls on a fresh state is never refused by 12
pub never_twelve : (mtu limit : ℕ) (queue kept : List ℕ) → is_setting mtu limit ≡ true → limit * mtu ≤ length queue → 12 * mtu ≤ length kept → (cs : List SendCall) → AllNarrow cs → (c : SendCall)
    → (answered (run (fresh mtu limit queue kept) cs) c).number ≡ 12 → ⊥
unfolding fresh_flight fresh_sending
never_twelve mtu limit queue kept s l k cs n c =
    call_not (run (fresh mtu limit queue kept) cs) c (meant (fresh mtu limit queue kept) cs []) (always_holds mtu limit queue kept s l cs n)
    (run_small (fresh mtu limit queue kept) cs (record { few = omega arith; space = k }, fresh-notes-few))
