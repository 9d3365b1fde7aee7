-- Each sending call of the C library, those of flights, resends and ACKs with it, entered in the host's log, is the claim's call. Assumes nothing.
use Rattle.std.specs.Prelude.{ℕ, ◌*◌, eqb, ltb, length, true, ◌≡◌, Some, None, Ok, Err, false}
use Rattle.std.proofs.Common.{arith, sym, ◌∙◌}
use borrow.Author.Tests.{leb-true, ltb-false, eqb-false}
use Rattle.std.proofs.lemmas.List.{length-replicate}
use mathlib.Core.List.{List, [], ◌∷◌, ◌++◌}
use Rattle.std.proofs.Math.Option.{Option, none, some}
use Rattle.std.proofs.Math.Path.{refl, ap, subst}
use Rattle.base.specs.Choose.{choose, both, if_true, if_false, by_test, test_cases, both_true}
use Rattle.base.specs.Parts.{part, splice, length_part, splice-here}
use Rattle.queue.specs.Queue.{ready}
use Rattle.outgoing.specs.State.{keying_state}
use Rattle.outgoing.specs.Send.{send_state}
use Rattle.outgoing.specs.declared.Sending.{Sending}
use Rattle.send_keys.specs.Answer.{SendAnswer, is_done, refusal}
use Rattle.send_keys.specs.declared.SendError.TheVariants as answer
use Rattle.sealing.specs.Sealing as sealings
use Rattle.sealing.specs.declared.SealError.TheVariants as reply
use Rattle.sealing.specs.Sealing.{SealAnswer, Asked}
use Rattle.taking.specs.Take.{TakeAnswer, take_answer, take_state, take_buffer, front_len, Takes, front_fits}
use Rattle.taking.specs.Take as taking
use Rattle.taking.specs.declared.TakeError.TheVariants as took
use Rattle.flight.specs.declared.Flight.{Flight}
use Rattle.flight.specs.declared.Saved.{Saved as SavedState}
use Rattle.flight.specs.Save.{save_state}
use Rattle.flight.specs.Status.{unacknowledged}
use Rattle.messages.specs.Message.{message_answer, message_state}
use Rattle.resend.specs.Resend.{resend_state}
use Rattle.resend.specs.Tests.{resend_answer}
use Rattle.process_ack.specs.Ack.{acked}
use Rattle.process_ack.specs.Status.{newly_marked}
use Rattle.flight.specs.declared.Acted.{Acted}
use Rattle.acks.specs.Acks as noting
use Rattle.acks.specs.Acks.{NoteAnswer}
use Rattle.acks.specs.declared.Notes.{Notes}
use Rattle.send_words.specs.Words.{state_of, is_flat}
use Rattle.flight_words.specs.Words.{flat_to}
use Rattle.send_calls.specs.Calls as sends
use Rattle.send_calls.specs.declared.HuskSealing.{HuskSealing}
use Rattle.send_calls.specs.declared.HuskTake.{HuskTake}
use Rattle.send_calls.specs.declared.HuskPart.{HuskPart}
use Rattle.ack_calls.specs.Calls as acks
use Rattle.waiting_laws.specs.Answers.{note_reply, take_reply, answered}
use Rattle.waiting_laws.specs.Calls.{Stores, fill·, written_in, stored, lending, Reply, only}
use Rattle.history_theorem.specs.Account.{upd}
use Rattle.history_theorem.specs.Receiver.{Sealed}
use Rattle.ends_theorem.proofs.Laws.{done-by}
use Rattle.ends_theorem.specs.Ledger.{owed, short_reply}
use Rattle.ends_theorem.specs.Sender as world
use Rattle.ends_theorem.specs.Sender.{Books, Lent, Sender, taken_by, sealed_by, finished_by}
use Rattle.ends_theorem.specs.World.{Took, End, sending, over, given_in, given_by, took_by, over_of, overs_by, acts}
use Rattle.hosts_theorem.specs.Memory.{Outgoing, OutCall, husk_sending_key, husk_sending_send, husk_sending_sealed, husk_sending_take, husk_sending_take_in_place, husk_flight_begin, husk_flight_send, husk_flight_message, husk_flight_resend, husk_flight_ack, husk_notes_add, husk_notes_send, MadeOut, behind_out, lends}
use Rattle.hosts_theorem.specs.Log.{stores_of, zeros_of, send_of, told_reply, acked_reply, reply_of, sealing_of, shows_now, turns_to, seals_now, finishes_now, takes_one, takes_part, took_now, enters, sender_to, given_now, sent_to, entered_out, entered_fill, entered_over, sealed_in, returns}
use Rattle.hosts_theorem.proofs.Answers.{sealing-names}
use Rattle.hosts_theorem.specs.Claim.{StandsOut, AnsweredOut, Shows}

pub wide : (n : ℕ) → length (zeros_of n) ≡ n
unfolding zeros_of
wide n = length-replicate n 0

-- ---- the stores behind each call

module _ (h : Outgoing) (f : is_flat h.words ≡ true) (g : flat_to h.flight 12 ≡ true) where
  both-flat : both (is_flat h.words) (flat_to h.flight 12) ≡ true
  both-flat = both_true f ∙ g

  pub stores-square : (c : OutCall) → MadeOut h c → stores_of (behind_out h c) ≡ stored (stores_of h) (send_of c)
  unfolding take_state
  stores-square (husk_sending_key r v e iv) m =
      ap (λ (s : Sending). record { state = s; queue = h.queue; flight = (stores_of h).flight; kept = h.kept; notes = (stores_of h).notes }) (m.1.0 ∙ if_true _ _ f)
  stores-square (husk_sending_send r v e t c p) m =
      let s = m.0.1.0 ∙ if_true _ _ f in
      let q = m.1 ∙ if_true _ _ f in
      λ i. record { state = s i; queue = q i; flight = (stores_of h).flight; kept = h.kept; notes = (stores_of h).notes }
  stores-square (husk_sending_sealed r v len n₀ n₁ p) m =
      let s = m.0.1.0 ∙ if_true _ _ f in
      let q = m.1 ∙ if_true _ _ f in
      λ i. record { state = s i; queue = q i; flight = (stores_of h).flight; kept = h.kept; notes = (stores_of h).notes }
  stores-square (husk_sending_take r v b c) m =
      ap (λ (s : Sending). record { state = s; queue = h.queue; flight = (stores_of h).flight; kept = h.kept; notes = (stores_of h).notes }) (m.0.1.0 ∙ if_true _ _ f)
  stores-square (husk_sending_take_in_place r v) m =
      ap (λ (s : Sending). record { state = s; queue = h.queue; flight = (stores_of h).flight; kept = h.kept; notes = (stores_of h).notes })
      (m.1.0 ∙ if_true _ _ f ∙ ap (λ (n : ℕ). (take_state (take_answer (state_of h.words) (length h.queue) n) (state_of h.words)).state) (sym (wide 65535)))
  stores-square (husk_flight_begin r k) m =
      let x = (m h.numbers).1 ∙ if_true _ _ g in
      λ i. record { state = (stores_of h).state; queue = h.queue; flight = x i; kept = h.kept; notes = (stores_of h).notes }
  stores-square (husk_flight_send r v k l e t c p j) m =
      let s = m.0.1 ∙ if_true _ _ both-flat in
      let q = m.1.0 ∙ if_true _ _ both-flat in
      let x = m.0.3 ∙ if_true _ _ both-flat in
      let y = m.1.1 ∙ if_true _ _ both-flat in
      λ i. record { state = s i; queue = q i; flight = x i; kept = y i; notes = (stores_of h).notes }
  stores-square (husk_flight_message r v k l t b p j) m =
      let s = m.0.1 ∙ if_true _ _ both-flat in
      let q = m.1.0 ∙ if_true _ _ both-flat in
      let x = m.0.3 ∙ if_true _ _ both-flat in
      let y = m.1.1 ∙ if_true _ _ both-flat in
      λ i. record { state = s i; queue = q i; flight = x i; kept = y i; notes = (stores_of h).notes }
  stores-square (husk_flight_resend r v k l p) m =
      let s = m.0.1 ∙ if_true _ _ both-flat in
      let q = m.1 ∙ if_true _ _ both-flat in
      let x = m.0.3 ∙ if_true _ _ both-flat in
      λ i. record { state = s i; queue = q i; flight = x i; kept = h.kept; notes = (stores_of h).notes }
  stores-square (husk_flight_ack r k l c) m =
      let x = m.1 ∙ if_true _ _ g in
      λ i. record { state = (stores_of h).state; queue = h.queue; flight = x i; kept = h.kept; notes = (stores_of h).notes }
  stores-square (husk_notes_add r x y z e n) m =
      ap (λ (n : Notes). record { state = (stores_of h).state; queue = h.queue; flight = (stores_of h).flight; kept = h.kept; notes = n }) m.1
  stores-square (husk_notes_send r v x y z p) m =
      let s = m.0.1 ∙ if_true _ _ f in
      let q = m.1 ∙ if_true _ _ f in
      let n = m.0.3 ∙ if_true _ _ f in
      λ i. record { state = s i; queue = q i; flight = (stores_of h).flight; kept = h.kept; notes = n i }

  pub stays-flat : (c : OutCall) → MadeOut h c → (is_flat (behind_out h c).words ≡ true) × (flat_to (behind_out h c).flight 12 ≡ true)
  stays-flat (husk_sending_key r v e iv) m = (m.1.1 ∙ f, g)
  stays-flat (husk_sending_send r v e t c p) m = (m.0.1.1 ∙ f, g)
  stays-flat (husk_sending_sealed r v len n₀ n₁ p) m = (m.0.1.1 ∙ f, g)
  stays-flat (husk_sending_take r v b c) m = (m.0.1.1 ∙ f, g)
  stays-flat (husk_sending_take_in_place r v) m = (m.1.1 ∙ f, g)
  stays-flat (husk_flight_begin r k) m = (f, (m h.numbers).2 ∙ g)
  stays-flat (husk_flight_send r v k l e t c p j) m = (m.0.2 ∙ f, m.0.4 ∙ g)
  stays-flat (husk_flight_message r v k l t b p j) m = (m.0.2 ∙ f, m.0.4 ∙ g)
  stays-flat (husk_flight_resend r v k l p) m = (m.0.2 ∙ f, m.0.4 ∙ g)
  stays-flat (husk_flight_ack r k l c) m = (f, m.2 ∙ g)
  stays-flat (husk_notes_add r x y z e n) m = (f, g)
  stays-flat (husk_notes_send r v x y z p) m = (m.0.2 ∙ f, g)

  -- ---- the answers

  pub out-answer : (c : OutCall) → MadeOut h c → AnsweredOut (stores_of h) c
  unfolding take_state
  out-answer (husk_sending_key r v e iv) m = m.0 ∙ if_true _ _ f
  out-answer (husk_sending_send r v e t c p) m = m.0.0 ∙ if_true _ _ f
  out-answer (husk_sending_sealed r v len n₀ n₁ p) m = m.0.0 ∙ if_true _ _ f
  out-answer (husk_sending_take r v b c) m = m.0.0 ∙ if_true _ _ f
  out-answer (husk_sending_take_in_place r v) m = m.0 ∙ if_true _ _ f
  out-answer (husk_flight_begin r k) m = (m h.numbers).0 ∙ if_true _ _ g
  out-answer (husk_flight_send r v k l e t c p j) m = m.0.0 ∙ if_true _ _ both-flat
  out-answer (husk_flight_message r v k l t b p j) m = m.0.0 ∙ if_true _ _ both-flat
  out-answer (husk_flight_resend r v k l p) m = m.0.0 ∙ if_true _ _ both-flat
  out-answer (husk_flight_ack r k l c) m = m.0 ∙ if_true _ _ g
  out-answer (husk_notes_add r x y z e n) m = m.0
  out-answer (husk_notes_send r v x y z p) m = m.0.0 ∙ if_true _ _ f

-- ---- what the host sees of them

abbrev took-reply : HuskTake → Reply
took-reply r = record { number = r.refusal; told = r.length }

take-told : (k : TakeAnswer) → took-reply (sends.flat_take k) ≡ take_reply k
take-told (Ok (Some n)) = refl
take-told (Err took.OutOfRange) = refl
take-told (Ok None) = refl
take-told (Err took.Unsealed) = refl
take-told (Err (took.Short n)) = refl

-- in place none is too short
part-told : (k : TakeAnswer) (start : ℕ) → (taking.refusal k ≡ 16 → ⊥) → record { number = (sends.flat_part k start).refusal; told = (sends.flat_part k start).length } ≡ take_reply k
part-told (Ok (Some n)) start never = refl
part-told (Err took.OutOfRange) start never = refl
part-told (Ok None) start never = refl
part-told (Err took.Unsealed) start never = refl
part-told (Err (took.Short n)) start never = absurd (never refl)

-- noted or not
note-told : (k : NoteAnswer) → told_reply (acks.note_told k) ≡ note_reply k
note-told (Ok true) = refl
note-told (Ok false) = refl
note-told (Err e) = refl

-- an ACK over too many saved records is refused and marks nothing
ack-told : (f : Flight) (d : List ℕ) → acked_reply (acks.acked_told (acked f d) (newly_marked f d)) ≡ record { number = refusal (acked f d).answer; told = newly_marked f d }
unfolding acked newly_marked
ack-told f d =
    let P : Acted → ℕ → Type 0 = λ k n. acked_reply (acks.acked_told k n) ≡ record { number = refusal k.answer; told = n } in
    test_cases (ltb 12 f.saved)
    (λ t.
    let k : Acted = record { answer = Err answer.OutOfRange; flight = f } in
    let e : acked f d ≡ k = if_true _ _ t in
    let z : newly_marked f d ≡ 0 = if_true _ _ t in
    subst (λ (x : Acted). P x (newly_marked f d)) (sym e) (subst (P k) (sym z) (ap acked_reply (if_false _ _ refl))))
    (λ t.
    let e : (acked f d).answer ≡ Ok tt = ap (λ (x : Acted). x.answer) (if_false _ _ t) in
    ap acked_reply (if_true _ _ (ap is_done e)) ∙ ap (λ (x : SendAnswer). record { number = refusal x; told = newly_marked f d }) (sym e))

message-answers : (a : SendAnswer) (s : Sending) (f : Flight) (q k : List ℕ) (t : ℕ) (b : List ℕ) → (message_state a s f q k t b).answer ≡ a
unfolding message_state
message-answers a s f q k t b = by_test (λ (r : SavedState). r.answer ≡ a) (λ z. refl) (λ z. refl)

resend_answers : (a : SendAnswer) (s : Sending) (f : Flight) (k q : List ℕ) → (resend_state a s f k q).answer ≡ a
unfolding resend_state
resend_answers a s f k q = by_test (λ (r : SavedState). r.answer ≡ a) (λ z. refl) (λ z. refl)

module _ (h : Outgoing) (f : is_flat h.words ≡ true) (g : flat_to h.flight 12 ≡ true) where
  pub reply-is : (c : OutCall) → MadeOut h c → reply_of c ≡ answered (stores_of h) (send_of c)
  unfolding send_state save_state sealings.sealed_state
  reply-is (husk_sending_key r v e iv) m = ap only (out-answer h f g (husk_sending_key r v e iv) m)
  reply-is (husk_sending_send r v e t c p) m = ap only (out-answer h f g (husk_sending_send r v e t c p) m)
  reply-is (husk_sending_sealed r v len n₀ n₁ p) m = ap only (out-answer h f g (husk_sending_sealed r v len n₀ n₁ p) m)
  reply-is (husk_sending_take r v b c) m = ap took-reply (out-answer h f g (husk_sending_take r v b c) m) ∙ take-told (take_answer (state_of h.words) (length h.queue) (length b))
  reply-is (husk_sending_take_in_place r v) m =
      ap (λ (x : HuskPart). record { number = x.refusal; told = x.length }) (out-answer h f g (husk_sending_take_in_place r v) m)
      ∙ part-told (sends.place_answer h.words (length h.queue)) ((state_of h.words).queue.first * (state_of h.words).queue.mtu) (sends.never-short h.words (length h.queue))
      ∙ ap (λ (n : ℕ). take_reply (take_answer (state_of h.words) (length h.queue) n)) (sym (wide 65535))
  reply-is (husk_flight_begin r k) m = ap only (out-answer h f g (husk_flight_begin r k) m)
  reply-is (husk_flight_send r v k l e t c p j) m = ap only (out-answer h f g (husk_flight_send r v k l e t c p j) m)
  reply-is (husk_flight_message r v k l t b p j) m = ap only (out-answer h f g (husk_flight_message r v k l t b p j) m ∙ ap refusal (message-answers (message_answer (state_of h.words) (stores_of h).flight (length h.queue) (length h.kept) t (length b)) (state_of h.words) (stores_of h).flight h.queue h.kept t b))
  reply-is (husk_flight_resend r v k l p) m =
      let a = resend_answer (state_of h.words) (stores_of h).flight (length h.queue) (length h.kept) in
      ap told_reply
      (out-answer h f g (husk_flight_resend r v k l p) m
      ∙ ap (λ (x : SendAnswer). acks.resent_told x (unacknowledged (stores_of h).flight)) (resend_answers a (state_of h.words) (stores_of h).flight h.kept h.queue))
  reply-is (husk_flight_ack r k l c) m = ap acked_reply (out-answer h f g (husk_flight_ack r k l c) m) ∙ ack-told (stores_of h).flight c
  reply-is (husk_notes_add r x y z e n) m = ap told_reply (out-answer h f g (husk_notes_add r x y z e n) m) ∙ note-told (noting.noted (stores_of h).notes e n).answer
  reply-is (husk_notes_send r v x y z p) m = ap told_reply (out-answer h f g (husk_notes_send r v x y z p) m)

  -- a take: the host's buffer behind it
  pub took-is : (c : OutCall) → MadeOut h c → (ts : List Took) → took_now h c ts ≡ took_by (stores_of h) (send_of c) ts
  took-is (husk_sending_take r v b c) m ts =
      let a = reply-is (husk_sending_take r v b c) m in
      let d = m.1 ∙ if_true _ _ f in
      λ i. record { reply = a i; before = b; behind = d i } ∷ ts
  took-is (husk_sending_take_in_place r v) m ts =
      let a = reply-is (husk_sending_take_in_place r v) m in
      let d = m.2 (zeros_of 65535) (wide 65535) ∙ if_true _ _ f in
      λ i. record { reply = a i; before = zeros_of 65535; behind = d i } ∷ ts
  took-is (husk_sending_key r v e iv) m ts = refl
  took-is (husk_sending_send r v e t c p) m ts = refl
  took-is (husk_sending_sealed r v len n₀ n₁ p) m ts = refl
  took-is (husk_flight_begin r k) m ts = refl
  took-is (husk_flight_send r v k l e t c p j) m ts = refl
  took-is (husk_flight_message r v k l t b p j) m ts = refl
  took-is (husk_flight_resend r v k l p) m ts = refl
  took-is (husk_flight_ack r k l c) m ts = refl
  took-is (husk_notes_add r x y z e n) m ts = refl
  took-is (husk_notes_send r v x y z p) m ts = refl

-- ---- what was shown, sealed and taken

lent_same : (k : Asked) (q : List ℕ) (old : Option Lent) → shows_now (sends.flat_sealing k) q old ≡ world.lent_by k old q
unfolding choose
lent_same (Ok (Some x)) q old = refl
lent_same (Ok None) q old = refl
lent_same (Err x) q old = refl

-- the question shown behind a call
pub shows-now : (h : Outgoing) → is_flat h.words ≡ true → (old : Option Lent) → shows_now (sealing_of h.words) h.queue old ≡ world.lends (state_of h.words) h.queue old
unfolding world.lends
shows-now h f old =
    let k = sealings.question_of (state_of h.words) in
    ap (λ (r : HuskSealing). shows_now r h.queue old) (if_true _ _ f) ∙ lent_same k h.queue old

turns_as : (x : Sender) (h : Outgoing) (w : Stores) {b b' : Books} {i i' : ℕ → List ℕ} {s s' : ℕ → List Sealed} {t t' : List (List ℕ)} → is_flat h.words ≡ true → stores_of h ≡ w → b ≡ b'
    → i ≡ i' → s ≡ s' → t ≡ t' → turns_to x h b i s t ≡ world.turns x w b' i' s' t'
turns_as x h w {b} {b'} {i} {i'} {s} {s'} {t} {t'} f p c k l m =
    let q = shows-now h f x.lent in
    (λ j. record { stores = stores_of h; books = b; ivs = i; lent = q j; sealed = s; taken = t })
    ∙ (λ j. world.turns x (p j) (c j) (k j) (l j) (m j))

shows_same : (k : Asked) (q : List ℕ) (old : Option Lent) → Shows (world.lent_by k old q) (sends.flat_sealing k)
shows_same (Ok (Some x)) q old = refl
shows_same (Ok None) q old = λ e. omega arith
shows_same (Err x) q old = λ e. omega arith

-- a sealing reply answered 0
seals-same : (k : SealAnswer) (l : Option Lent) (before behind : List ℕ) (f : ℕ → List Sealed) → seals_now (sealings.refusal k) l before behind f ≡ sealed_by k l before behind f
unfolding choose
seals-same k none before behind f = refl
seals-same (Ok u) (some l) before behind f = refl
seals-same (Err reply.OutOfRange) (some l) before behind f = refl
seals-same (Err reply.NoQuestion) (some l) before behind f = refl

finishes-same : (k : SealAnswer) (l : Option Lent) (before behind : List ℕ) (b : Books) → finishes_now (sealings.refusal k) l before behind b ≡ finished_by k l before behind b
unfolding choose
finishes-same k none before behind b = refl
finishes-same (Ok u) (some l) before behind b = refl
finishes-same (Err reply.OutOfRange) (some l) before behind b = refl
finishes-same (Err reply.NoQuestion) (some l) before behind b = refl

take_same : (k : TakeAnswer) (c : List ℕ) (ts : List (List ℕ)) → takes_one (sends.flat_take k) c ts ≡ taken_by k c ts
unfolding choose
take_same (Ok (Some n)) c ts = refl
take_same (Err took.OutOfRange) c ts = refl
take_same (Ok None) c ts = refl
take_same (Err took.Unsealed) c ts = refl
take_same (Err (took.Short n)) c ts = refl

-- in place, where the buffer would hold it
module _ (s : Sending) (q b : List ℕ) (ts : List (List ℕ)) where
  abbrev start : ℕ
  start = s.queue.first * s.queue.mtu

  abbrev Same : TakeAnswer → Type 0
  Same k = takes_part (sends.flat_part k start) q ts ≡ taken_by k (take_buffer k s q b) ts

  lies-there : Takes s (length q) (length b) → Same (Ok (Some (front_len s)))
  unfolding take_buffer
  lies-there t =
      let size = length_part start (front_len s) q (front_fits t).0 in
      if_true _ _ refl
      ∙ ap (λ (x : List ℕ). ts ++ (x ∷ []))
      (sym (ap (part 0 (front_len s)) (if_true _ _ refl)
      ∙ ap (λ (n : ℕ). part 0 n (splice 0 (part start (front_len s) q) b)) (sym size)
      ∙ splice-here 0 (part start (front_len s) q) b (omega (arith, size, t.fits))))

  part_same : Same (take_answer s (length q) (length b))
  unfolding take_answer
  part_same =
      by_test Same
      (λ r. by_test Same (λ n. if_false _ _ refl)
      (λ n. by_test Same
      (λ l. by_test Same (λ x. if_false _ _ refl)
      (λ x. by_test Same (λ f. if_false _ _ refl)
      (λ f.
      let e : s.queue.count ≡ 0 → ⊥ = eqb-false s.queue.count 0 n in
      lies-there (record { ready = ready r; some = omega arith; short = leb-true (front_len s) s.queue.mtu l; fits = ltb-false (length b) (front_len s) f }))))
      (λ l. if_false _ _ refl)))
      (λ r. if_false _ _ refl)

-- ---- every sending call, at an end e whose stores the memory stands for

module _ (h : Outgoing) (e : End) (a : StandsOut h e) where
  abbrev x : Sender
  x = e.out

  abbrev w : Stores
  w = x.stores

  -- what is made of the memory is what is made of the stores
  of_stores : {A : Type 0} (f : Stores → A) → f (stores_of h) ≡ f w
  of_stores f = ap f a.stores

  pub sealing-answer : (r : HuskSealing) → sends.SealingCall r h.words → Shows x.lent r
  unfolding world.lends
  sealing-answer r m =
      let k = sealings.question_of (state_of h.words) in
      let l = a.shown in
      subst (λ (o : Option Lent). Shows o r) (sym (l.1 ∙ shows-now h a.flat l.0))
      (subst (Shows (world.lent_by k l.0 h.queue)) (sym (m ∙ if_true _ _ a.flat))
      (shows_same k h.queue l.0))

  module _ (c : OutCall) (m : MadeOut h c) where
    behind-flat : is_flat (behind_out h c).words ≡ true
    behind-flat = (stays-flat h a.flat a.flat-flight c m).0

    behind-stores : stores_of (behind_out h c) ≡ stored w (send_of c)
    behind-stores = stores-square h a.flat a.flat-flight c m ∙ of_stores (λ s. stored s (send_of c))

    pub out-reply : reply_of c ≡ answered w (send_of c)
    out-reply = reply-is h a.flat a.flat-flight c m ∙ of_stores (λ s. answered s (send_of c))

    out-took : took_now h c e.took ≡ took_by w (send_of c) e.took
    out-took = took-is h a.flat a.flat-flight c m e.took ∙ of_stores (λ s. took_by s (send_of c) e.took)

  -- ---- the logs of what was sent

  key_done : (r : ℕ) (v : List ℕ) (u : ℕ) (iv : List ℕ) → MadeOut h (husk_sending_key r v u iv) → eqb r 0 ≡ is_done (keying_state w.state u iv).answer
  key_done r v u iv m =
      done-by (keying_state w.state u iv).answer
      (sym (out-answer h a.flat a.flat-flight (husk_sending_key r v u iv) m ∙ of_stores (λ s. refusal (keying_state s.state u iv).answer)))

  seal_number : (r : ℕ) (v : List ℕ) (len n₀ n₁ : ℕ) (p : List ℕ) → MadeOut h (husk_sending_sealed r v len n₀ n₁ p)
      → r ≡ sealings.refusal (sealings.seal_answer w.state (length w.queue) len)
  unfolding sealings.sealed_state
  seal_number r v len n₀ n₁ p m =
      out-answer h a.flat a.flat-flight (husk_sending_sealed r v len n₀ n₁ p) m ∙ of_stores (λ s. sealings.refusal (sealings.seal_answer s.state (length s.queue) len))

  sender_as : (b : Books) (c : OutCall) → MadeOut h c → sender_to x h (behind_out h c) b c ≡ world.sends_with x b (send_of c)
  sender_as b (husk_sending_key r v u iv) m =
      let c = husk_sending_key r v u iv in
      turns_as x (behind_out h c) (stored w (send_of c)) (behind-flat c m) (behind-stores c m) refl (ap (λ t. choose t (upd x.ivs u iv) x.ivs) (key_done r v u iv m)) refl refl
  sender_as b (husk_sending_sealed r v len n₀ n₁ p) m =
      let c = husk_sending_sealed r v len n₀ n₁ p in
      let n = seal_number r v len n₀ n₁ p m in
      let q = of_stores (λ s. s.queue) in
      let d = ap (λ (s : Stores). s.queue) (behind-stores c m) in
      let k = sealings.seal_answer w.state (length w.queue) len in
      turns_as x (behind_out h c) (stored w (send_of c)) (behind-flat c m) (behind-stores c m)
      ((λ i. finishes_now (n i) x.lent (q i) (d i) b) ∙ finishes-same k x.lent w.queue (stored w (send_of c)).queue b) refl
      ((λ i. seals_now (n i) x.lent (q i) (d i) x.sealed) ∙ seals-same k x.lent w.queue (stored w (send_of c)).queue x.sealed) refl
  sender_as b (husk_sending_take r v y z) m =
      let c = husk_sending_take r v y z in
      let k = take_answer w.state (length w.queue) (length y) in
      let n = out-answer h a.flat a.flat-flight c m ∙ of_stores (λ s. sends.flat_take (take_answer s.state (length s.queue) (length y))) in
      let d = m.1 ∙ if_true _ _ a.flat ∙ of_stores (λ s. take_buffer (take_answer s.state (length s.queue) (length y)) s.state s.queue y) in
      turns_as x (behind_out h c) (stored w (send_of c)) (behind-flat c m) (behind-stores c m) refl refl refl
      ((λ i. takes_one (n i) (d i) x.taken) ∙ take_same k (take_buffer k w.state w.queue y) x.taken)
  sender_as b (husk_sending_take_in_place r v) m =
      let c = husk_sending_take_in_place r v in
      let n = out-answer h a.flat a.flat-flight c m
      ∙ of_stores (λ s. sends.flat_part (take_answer s.state (length s.queue) 65535) (s.state.queue.first * s.state.queue.mtu))
      ∙ ap (λ (k : ℕ). sends.flat_part (take_answer w.state (length w.queue) k) (w.state.queue.first * w.state.queue.mtu)) (sym (wide 65535)) in
      let q = of_stores (λ s. s.queue) in
      turns_as x (behind_out h c) (stored w (send_of c)) (behind-flat c m) (behind-stores c m) refl refl refl
      ((λ i. takes_part (n i) (q i) x.taken) ∙ part_same w.state w.queue (zeros_of 65535) x.taken)
  sender_as b (husk_sending_send r v u t z p) m =
      turns_as x (behind_out h (husk_sending_send r v u t z p)) _ (behind-flat (husk_sending_send r v u t z p) m) (behind-stores (husk_sending_send r v u t z p) m) refl refl refl refl
  sender_as b (husk_flight_begin r k) m =
      turns_as x (behind_out h (husk_flight_begin r k)) _ (behind-flat (husk_flight_begin r k) m) (behind-stores (husk_flight_begin r k) m) refl refl refl refl
  sender_as b (husk_flight_send r v k l u t z p j) m =
      turns_as x (behind_out h (husk_flight_send r v k l u t z p j)) _ (behind-flat (husk_flight_send r v k l u t z p j) m) (behind-stores (husk_flight_send r v k l u t z p j) m) refl refl refl refl
  sender_as b (husk_flight_message r v k l t z p j) m =
      turns_as x (behind_out h (husk_flight_message r v k l t z p j)) _ (behind-flat (husk_flight_message r v k l t z p j) m) (behind-stores (husk_flight_message r v k l t z p j) m) refl refl refl refl
  sender_as b (husk_flight_resend r v k l p) m =
      turns_as x (behind_out h (husk_flight_resend r v k l p)) _ (behind-flat (husk_flight_resend r v k l p) m) (behind-stores (husk_flight_resend r v k l p) m) refl refl refl refl
  sender_as b (husk_flight_ack r k l z) m =
      turns_as x (behind_out h (husk_flight_ack r k l z)) _ (behind-flat (husk_flight_ack r k l z) m) (behind-stores (husk_flight_ack r k l z) m) refl refl refl refl
  sender_as b (husk_notes_add r y₀ y₁ y₂ u n) m =
      turns_as x (behind_out h (husk_notes_add r y₀ y₁ y₂ u n)) _ (behind-flat (husk_notes_add r y₀ y₁ y₂ u n) m) (behind-stores (husk_notes_add r y₀ y₁ y₂ u n) m) refl refl refl refl
  sender_as b (husk_notes_send r v y₀ y₁ y₂ p) m =
      turns_as x (behind_out h (husk_notes_send r v y₀ y₁ y₂ p)) _ (behind-flat (husk_notes_send r v y₀ y₁ y₂ p) m) (behind-stores (husk_notes_send r v y₀ y₁ y₂ p) m) refl refl refl refl

  -- the reply to a sealing ends what the host gave, by the account's answer
  given_as : (c : OutCall) → MadeOut h c → answered w (send_of c) ≡ owed e.ledger (send_of c) → given_now c e.given ≡ given_by w (owed e.ledger (send_of c)) (send_of c) e.given
  given_as (husk_sending_sealed r v len n₀ n₁ p) m d =
      ap (λ (k : Reply). choose (eqb k.number 0) none e.given) (out-reply (husk_sending_sealed r v len n₀ n₁ p) m ∙ d)
  given_as (husk_sending_key r v u iv) m d = refl
  given_as (husk_sending_send r v u t z p) m d = refl
  given_as (husk_sending_take r v y z) m d = refl
  given_as (husk_sending_take_in_place r v) m d = refl
  given_as (husk_flight_begin r k) m d = refl
  given_as (husk_flight_send r v k l u t z p j) m d = refl
  given_as (husk_flight_message r v k l t z p j) m d = refl
  given_as (husk_flight_resend r v k l p) m d = refl
  given_as (husk_flight_ack r k l z) m d = refl
  given_as (husk_notes_add r y₀ y₁ y₂ u n) m d = refl
  given_as (husk_notes_send r v y₀ y₁ y₂ p) m d = refl

  pub out-square : (f : End) (c : OutCall) → MadeOut h c → answered w (send_of c) ≡ owed e.ledger (send_of c) → entered_out e h (behind_out h c) c ≡ acts f e (sending (send_of c))
  out-square f c m d =
      let r = out-reply c m in
      let s = sender_as (sent_to e (send_of c)) c m in
      let t = out-took c m in
      let g = given_as c m d in
      λ i. enters e (send_of c) (r i) (s i) (t i) (g i)

  -- ---- over other memory

  module _ (c : OutCall) (q k : List ℕ) (m : MadeOut (lends h q k) c) where
    abbrev lent : Outgoing
    lent = lends h q k

    abbrev left : Outgoing
    left = behind_out lent c

    left-stores : stores_of left ≡ stored (lending w q k) (send_of c)
    left-stores = stores-square lent a.flat a.flat-flight c m ∙ of_stores (λ s. stored (lending s q k) (send_of c))

    pub over-reply : reply_of c ≡ answered (lending w q k) (send_of c)
    over-reply = reply-is lent a.flat a.flat-flight c m ∙ of_stores (λ s. answered (lending s q k) (send_of c))

    overs_as : overs_by w q k (send_of c) e.overs ≡ over_of w q k (send_of c) ∷ e.overs
    overs_as = all-calls c
      where
        all-calls : (c : OutCall) → overs_by w q k (send_of c) e.overs ≡ over_of w q k (send_of c) ∷ e.overs
        all-calls (husk_sending_key r v u iv) = refl
        all-calls (husk_sending_send r v u t z p) = refl
        all-calls (husk_sending_sealed r v len n₀ n₁ p) = refl
        all-calls (husk_sending_take r v y z) = refl
        all-calls (husk_sending_take_in_place r v) = refl
        all-calls (husk_flight_begin r k₀) = refl
        all-calls (husk_flight_send r v k₀ l u t z p j) = refl
        all-calls (husk_flight_message r v k₀ l t z p j) = refl
        all-calls (husk_flight_resend r v k₀ l p) = refl
        all-calls (husk_flight_ack r k₀ l z) = refl
        all-calls (husk_notes_add r y₀ y₁ y₂ u n) = refl
        all-calls (husk_notes_send r v y₀ y₁ y₂ p) = refl

    pub over-square : (f : End) → entered_over e lent left (returns h left) c ≡ acts f e (over (send_of c) q k)
    over-square f =
        let own : stores_of (returns h left) ≡ lending (stored (lending w q k) (send_of c)) w.queue w.kept =
        (λ i. lending (left-stores i) (a.stores i).queue (a.stores i).kept) in
        let x' = turns_as x (returns h left) _ (stays-flat lent a.flat a.flat-flight c m).0 own refl refl refl refl in
        let r = over-reply in
        let t = took-is lent a.flat a.flat-flight c m e.took ∙ of_stores (λ s. took_by (lending s q k) (send_of c) e.took) in
        let o : record { queue = q; queue' = left.queue; kept = k; kept' = left.kept } ∷ e.overs ≡ overs_by w q k (send_of c) e.overs =
        (λ i. record { queue = q; queue' = (left-stores i).queue; kept = k; kept' = (left-stores i).kept } ∷ e.overs) ∙ sym overs_as in
        λ i. record {
          mtu = e.mtu;
          limit = e.limit;
          out = x' i;
          ledger = e.ledger;
          said = record { reply = r i; owed = short_reply (send_of c) } ∷ e.said;
          took = t i;
          overs = o i;
          given = e.given;
          cleared = e.cleared;
          into = e.into;
          counts = e.counts;
          dealings = e.dealings;
          pieces = e.pieces;
        }

    pub over-stands : StandsOut (returns h left) (entered_over e lent left (returns h left) c)
    over-stands =
        let z = stays-flat lent a.flat a.flat-flight c m in
        record { flat = z.0; flat-flight = z.1; stores = refl; shown = (x.lent, refl) }

  -- ---- the host writes sealed bytes

  module _ (r : HuskSealing) (bytes : List ℕ) (m : sends.SealingCall r h.words) (z : r.kind ≡ 2) (l : length bytes ≡ r.length) where
    named : (splice r.start bytes h.queue ≡ written_in (sealings.question_of (state_of h.words)) bytes h.queue)
        × (some bytes ≡ given_in (sealings.question_of (state_of h.words)) bytes e.given)
    named =
        let s = m ∙ if_true _ _ a.flat in
        let n = sealing-names (state_of h.words) h.queue bytes e.given (subst (λ (k : HuskSealing). k.kind ≡ 2) s z) (subst (λ (k : HuskSealing). length bytes ≡ k.length) s l) in
        (ap (λ (k : HuskSealing). splice k.start bytes h.queue) s ∙ n.0, n.1)

    pub fill_square : (f : End) → entered_fill e (sealed_in h r bytes) bytes ≡ acts f e (sending (fill· bytes))
    fill_square f =
        let q : stores_of (sealed_in h r bytes) ≡ stored w (fill· bytes) =
        ap (λ (p : List ℕ). lending (stores_of h) p h.kept) named.0 ∙ of_stores (λ s. stored s (fill· bytes)) in
        let s = turns_as x (sealed_in h r bytes) (stored w (fill· bytes)) {b = sent_to e (fill· bytes)} a.flat q refl refl refl refl in
        let g = named.1 ∙ of_stores (λ s. given_in (sealings.question_of s.state) bytes e.given) in
        λ i. enters e (fill· bytes) (only 0) (s i) e.took (g i)

    pub fill_stands : StandsOut (sealed_in h r bytes) (entered_fill e (sealed_in h r bytes) bytes)
    fill_stands = record { flat = a.flat; flat-flight = a.flat-flight; stores = refl; shown = (x.lent, refl) }

  -- ---- the words stand for the log's state

  sender-stands : (g : Outgoing) (b : Books) (c : OutCall)
      → (stores_of g ≡ (sender_to x h g b c).stores) × ((sender_to x h g b c).lent ≡ shows_now (sealing_of g.words) g.queue x.lent)
  sender-stands g b (husk_sending_key r v u iv) = (refl, refl)
  sender-stands g b (husk_sending_send r v u t z p) = (refl, refl)
  sender-stands g b (husk_sending_sealed r v len n₀ n₁ p) = (refl, refl)
  sender-stands g b (husk_sending_take r v y z) = (refl, refl)
  sender-stands g b (husk_sending_take_in_place r v) = (refl, refl)
  sender-stands g b (husk_flight_begin r k) = (refl, refl)
  sender-stands g b (husk_flight_send r v k l u t z p j) = (refl, refl)
  sender-stands g b (husk_flight_message r v k l t z p j) = (refl, refl)
  sender-stands g b (husk_flight_resend r v k l p) = (refl, refl)
  sender-stands g b (husk_flight_ack r k l z) = (refl, refl)
  sender-stands g b (husk_notes_add r y₀ y₁ y₂ u n) = (refl, refl)
  sender-stands g b (husk_notes_send r v y₀ y₁ y₂ p) = (refl, refl)

  pub out-stands : (c : OutCall) → MadeOut h c → StandsOut (behind_out h c) (entered_out e h (behind_out h c) c)
  out-stands c m =
      let z = stays-flat h a.flat a.flat-flight c m in
      let k = sender-stands (behind_out h c) (sent_to e (send_of c)) c in
      record { flat = z.0; flat-flight = z.1; stores = k.0; shown = (x.lent, k.1) }
