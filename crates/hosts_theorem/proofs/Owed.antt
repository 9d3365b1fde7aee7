-- Each answer is the one that the host's account owes: by what holds of the log behind the call, in which the answer stands first. Assumes nothing.
use Rattle.std.specs.Prelude.{ℕ, ◌+◌, ◌*◌, ◌≤◌, min, eqb, leb, ltb, length, true, ◌≡◌, refl, Some, None, Ok, Err}
use Rattle.std.proofs.Common.{le-leb, le-ltb, lt-ltb, arith, sym, ap, subst, ◌∙◌}
use Rattle.std.proofs.lemmas.Bool.{lt-leb, false≢true}
use mathlib.Core.List.Memᴰ.{head as here}
use mathlib.Core.List.{List, [], ◌∷◌, Memᴰ as Mem}
use Rattle.std.proofs.Math.Option.{Option, none, some}
use Rattle.base.specs.Choose.{choose, by_test, if_true, if_false, both_true}
use Rattle.datagram.specs.declared.Reading.TheVariants as says
use Rattle.recv_calls.specs.Flat.{opening_of}
use Rattle.record.specs.Record.{unified_header}
use Rattle.queue.specs.Queue.{is_sound}
use Rattle.outgoing.specs.declared.Sending.{Sending}
use Rattle.outgoing.specs.Status.{to_seal}
use Rattle.sealing.specs.Sealing.{Asked, question_of}
use Rattle.flight.specs.declared.Flight.{Flight}
use Rattle.process_ack.specs.Ack.{acked}
use Rattle.process_ack.specs.Status.{newly_marked}
use Rattle.flight_words.specs.Words.{flight_of, flat_to}
use Rattle.send_words.specs.Words as sendWords
use Rattle.status_calls.specs.Calls as status
use Rattle.status_calls.specs.declared.HuskSaved.{HuskSaved}
use Rattle.status_calls.specs.declared.HuskQueued.{HuskQueued}
use Rattle.ack_calls.specs.Calls.{acked_told, left_behind}
use Rattle.ack_calls.specs.declared.HuskAcked.{HuskAcked}
use Rattle.send_calls.specs.Calls.{flat_sealing, flat_take, flat_part, SealingCall}
use Rattle.send_calls.specs.declared.HuskSealing.{HuskSealing}
use Rattle.send_calls.specs.declared.HuskTake.{HuskTake}
use Rattle.send_calls.specs.declared.HuskPart.{HuskPart}
use Rattle.taking.specs.Take.{TakeAnswer, take_answer}
use Rattle.taking.specs.declared.TakeError.TheVariants as taken
use Rattle.waiting_laws.specs.Calls.{Stores, ack·, Reply, stored}
use Rattle.waiting_laws.specs.Queued.{Queued, Holds}
use Rattle.waiting_laws.proofs.Seals.{question-told}
use Rattle.waiting_laws.specs.Takes.{take_told}
use Rattle.waiting_laws.proofs.Takes.{take-told}
use Rattle.history_theorem.specs.Account.{sealed_head, Shown, nothing, a_mask, an_opening}
use Rattle.history_theorem.specs.Claim.{Masks, Proper, Judged, Turned, OtherLength, nonce_for}
use Rattle.history_theorem.specs.Receiver.{Sealed, Spoken, Stray, Told, a_read, a_mask_reply, an_open_reply, rest_of, resolved_in, begin_owed, Inbound}
use Rattle.history_theorem.proofs.Sound.{Judges, Sound}
use Rattle.assembly_theorem.specs.Claim.{Assembled}
use Rattle.ends_theorem.specs.Ledger.{Item, Ledger, waiting, items, oldest, unacked, owed, after, short_reply}
use Rattle.ends_theorem.proofs.Matches.{items_of, Matches, Does}
use Rattle.ends_theorem.proofs.Theorem.{Good, holds}
use Rattle.ends_theorem.proofs.Status.{StatusIs, status_is}
use Rattle.ends_theorem.specs.Sender.{Lent, AskedFor, sealed_header}
use Rattle.ends_theorem.specs.World.{Side, post, gateway, Said, Over, End, World, class_of, content_in}
use Rattle.hosts_theorem.specs.Memory.{Incoming, Outgoing, InCall, husk_receiving_key, husk_receiving_remove, husk_receiving_enable_encryption, husk_receiving_release_application_data, husk_receiving_begin, husk_receiving_begin_read, husk_receiving_read, husk_receiving_mask, husk_receiving_opened, husk_receiving_read_over, husk_receiving_mask_over, husk_receiving_opened_over, host_writes, OutCall, husk_sending_key, husk_sending_send, husk_sending_sealed, husk_sending_take, husk_sending_take_in_place, husk_flight_begin, husk_flight_send, husk_flight_message, husk_flight_resend, husk_flight_ack, husk_notes_add, husk_notes_send, MadeIn, MadeOut, behind_out, lends}
use Rattle.classify.specs.Classify as program
use Rattle.classify.specs.Classify.{classified}
use Rattle.classify.specs.declared.Class.{Class}
use Rattle.classify.specs.declared.Class.TheVariants as class
use Rattle.classify_calls.specs.Calls.{flat_class, ClassifyCall}
use Rattle.classify_calls.specs.declared.HuskClass.{HuskClass}
use Rattle.classify_theorem.specs.Account as account
use Rattle.classify_theorem.specs.Claim.{verdict_of}
use Rattle.classify_theorem.proofs.Words.{Says}
use Rattle.classify_theorem.proofs.Story as classify
use Rattle.classify_theorem.proofs.Dealing.{over_class, none_class, says-x, shown-x, verdict-x}
use Rattle.datagram.specs.declared.Reading.{Reading}
use Rattle.opening_reply.specs.Opening.{start_of, length_of}
use Rattle.waiting_laws.specs.Answers as sends
use Rattle.hosts_theorem.proofs.Dealings.{ack-done, own, ack-told, turned}
use Rattle.hosts_theorem.specs.Log.{reading_of, Whole, entered_in, stores_of, send_of, reply_of, entered_out, Host, Act, inward, husk_sending_sealing, husk_flight_status, husk_sending_status, outward, outward_over, host_seals, husk_assembly_begin, husk_assembly_take, husk_receiving_classify, husk_receiving_classify_over, Made, behind}
use Rattle.hosts_theorem.proofs.Pieces.{begin-owed, take-owed}
use Rattle.hosts_theorem.specs.Claim.{Stands, StandsIn, StandsOut, Shows, removal_told, OwedLate, OwedIn, OwedSealing, nothing_to_seal, kind_owed, OwedMore, OwedOver, class_told, class_owed, Owed}
use Rattle.recv_calls.specs.declared.HuskReading.{HuskReading}
use Rattle.hosts_theorem.proofs.Answers.{nine_told, old-told}
use Rattle.hosts_theorem.proofs.In.{long-answer, first-whole, opened-answer, read_whole, mask-whole, opened-whole, remove_answer}
use Rattle.hosts_theorem.proofs.Out.{out-answer, sealing-answer}

-- ---- what the sealing question says: 01's header of the record that it names, or nothing

abbrev shown_by : Asked → HuskSealing
shown_by k = flat_sealing k

abbrev Plain : HuskSealing → Type 0
Plain r = (r.kind ≡ 2 → r.header ≡ sealed_header r.epoch r.number r.length) × ((r.kind ≡ 2 → ⊥) → r ≡ nothing_to_seal)

plain : (s : Sending) (q : List ℕ) (ds : List (List Queued)) → Holds s q ds → Plain (shown_by (question_of s))
unfolding unified_header
plain s q ds h =
    subst (λ (k : Asked). Plain (shown_by k)) (sym (question-told s q ds h))
    (by_test (λ (k : Asked). Plain (shown_by k)) (λ t. (λ z. refl, λ n. absurd (n refl))) (λ t. (λ z. absurd (omega arith), λ n. refl)))

-- ---- what holds of a log

record FineIn (i : Inbound) : Type 0 where
  told : (a : Told) → Mem a i.told → a.answer ≡ a.owed
  proper : (c : Spoken) → Mem c i.into.spoken → Proper c.deed c.waited c.reading
  judged : (c : Spoken) → Mem c i.into.spoken → Judges c
  strays : (t : Stray) → Mem t i.strays → Turned t

pub record Fine (e : End) : Type 0 where
  into : FineIn e.into
  said : (a : Said) → Mem a e.said → a.reply ≡ a.owed
  overs : (o : Over) → Mem o e.overs → (o.queue' ≡ o.queue) × (o.kept' ≡ o.kept)
  asked : AskedFor e.out.lent (oldest (items e.ledger.queue))
  nonce : (l : Lent) → e.out.lent ≡ some l → l.nonce ≡ nonce_for (e.out.ivs l.epoch) l.num
  shown : Plain (shown_by (question_of e.out.stores.state))
  matches : Matches e.out.stores e.ledger
  pieces : Assembled e.pieces
  pub dealings : classify.Story e.dealings e.into.into

asked-at : (masks : Side → Masks) (w : World) → Good masks w → (s : Side)
    → AskedFor (w s).out.lent (oldest (items (w s).ledger.queue)) × ((l : Lent) → (w s).out.lent ≡ some l → l.nonce ≡ nonce_for ((w s).out.ivs l.epoch) l.num)
asked-at masks w g post = let h = holds masks w g gateway 0 in (h.seal-asked, h.seal_nonce)
asked-at masks w g gateway = let h = holds masks w g post 0 in (h.seal-asked, h.seal_nonce)

pub fine : (masks : Side → Masks) (w : World) → Good masks w → (s : Side) → Fine (w s)
fine masks w g s = record {
  into = record { told = (g.link s).told; proper = (g.link s).sound.proper; judged = (g.link s).sound.judged; strays = (g.link s).strays };
  said = g.said s;
  overs = g.overs s;
  asked = (asked-at masks w g s).0;
  nonce = (asked-at masks w g s).1;
  shown = plain (w s).out.stores.state (w s).out.stores.queue (g.out s).ds (g.out s).laying.holds;
  matches = g.matches s;
  pieces = (g.pieces s).0.holds;
  dealings = g.dealings s;
}

-- ---- receiving

late-owed : (q : Shown) (to : Option ℕ) (used : ℕ → List ℕ) (rest m : List ℕ) (r : HuskReading) → Whole r → Judged (a_mask_reply m) q to rest used (reading_of r)
    → OwedLate q used rest m r
late-owed nothing to used rest m r w j = tt
late-owed (an_opening e n at head body) to used rest m r w j = tt
late-owed (a_mask e p) to used rest m r w j = λ n near.
    let l = (j.1 n near).late in
    let nine = nine_told r w in
    let old = old-told r w in (
      (λ x. l.0.0 (nine.0 x), λ s. nine.1 (l.0.1 s)),
      (λ x. l.1.0 (old.0 x), λ s. old.1 (l.1.1 s)),
    )

module _ (h : Incoming) (i : Inbound) (a : StandsIn h i) (z : Sound i.into) (sealed : ℕ → List Sealed) where
  in_owed : (c : InCall) → MadeIn h c → FineIn (entered_in sealed i c) → OwedIn i c
  in_owed (husk_receiving_key r v k iv) m f = f.told _ (here refl)
  in_owed (husk_receiving_remove r v k) m f = remove_answer h i a r v k m ∙ ap removal_told (f.told _ (here refl))
  in_owed (husk_receiving_enable_encryption r v) m f = f.told _ (here refl)
  in_owed (husk_receiving_release_application_data r v) m f = f.told _ (here refl)
  in_owed (husk_receiving_begin r v d) m f =
      by_test (λ (j : Inbound). FineIn j → r ≡ begin_owed d) {t = eqb r 0} (λ t k. k.told _ (here refl)) (λ t k. k.told _ (here refl)) f
  in_owed (husk_receiving_begin_read r v d) m f = (
    λ l. long-answer h i a z r v d m (lt-ltb _ _ l),
    λ l. (
      by_test (λ (j : Inbound). FineIn j → Proper a_read nothing (reading_of r)) {t = ltb 16384 (length d)} (λ t k. absurd (false≢true (sym (le-ltb _ _ l) ∙ t)))
          (λ t k. k.proper _ (here refl)) f,
      first-whole h i a z r v d m (le-ltb _ _ l),
    ),
  )
  in_owed (husk_receiving_read r v) m f = (f.proper _ (here refl), read_whole h i a r v h.datagram m)
  in_owed (husk_receiving_mask r v n₀ n₁ e) m f =
      let w = mask-whole h i a r v n₀ n₁ e h.datagram m in
      (f.proper _ (here refl), w, late-owed i.into.account.waits (resolved_in i.into.trial) i.into.used (rest_of i.into) (n₀ ∷ n₁ ∷ []) r w (f.judged _ (here refl)))
  in_owed (husk_receiving_opened r v o len) m f = (
    λ l.
        by_test (λ (j : Inbound). FineIn j → Proper (an_open_reply (opening_of o len)) i.into.account.waits (reading_of r)) {t = leb o 1}
        (λ t k. k.proper _ (here refl)) (λ t k. absurd (false≢true (sym t ∙ le-leb _ _ l))) f,
    λ l. opened-answer h i a r v o len h.datagram m ∙ if_false _ _ (lt-leb _ _ l),
    opened-whole h i a r v o len h.datagram m,
  )
  in_owed (husk_receiving_read_over r v d) m f =
      ((f.strays _ (here refl)).answer, read_whole h i a r v d m)
  in_owed (husk_receiving_mask_over r v n₀ n₁ e d) m f = ((f.strays _ (here refl)).answer, (f.strays _ (here refl)).bytes, mask-whole h i a r v n₀ n₁ e d m)
  in_owed (husk_receiving_opened_over r v o len d) m f = (
    λ l.
        by_test (λ (j : Inbound). FineIn j → reading_of r ≡ says.Reply) {t = leb o 1} (λ t k. (k.strays _ (here refl)).answer)
        (λ t k. absurd (false≢true (sym t ∙ le-leb _ _ l))) f,
    λ l. opened-answer h i a r v o len d m ∙ if_false _ _ (lt-leb _ _ l),
    opened-whole h i a r v o len d m,
  )
  in_owed (host_writes r p) m f = tt

-- ---- a sealing

module _ (ivs : ℕ → List ℕ) (r : HuskSealing) (p : Plain r) where
  sealing-owed : (o : Option Lent) (k : Option Item) → AskedFor o k → ((l : Lent) → o ≡ some l → l.nonce ≡ nonce_for (ivs l.epoch) l.num) → Shows o r → OwedSealing ivs k r
  sealing-owed none none q n s = p.1 s
  sealing-owed none (some i) q n s = absurd q
  sealing-owed (some l) none q n s = absurd q
  sealing-owed (some l) (some i) q n s =
      let kind : r.kind ≡ 2 = ap (λ (x : HuskSealing). x.kind) s in
      let e : r.epoch ≡ i.epoch = ap (λ (x : HuskSealing). x.epoch) s ∙ q.0 in
      let m : r.number ≡ i.num = ap (λ (x : HuskSealing). x.number) s ∙ q.1 in
      record {
        kind = kind;
        refusal = ap (λ (x : HuskSealing). x.refusal) s;
        epoch = e;
        number = m;
        size = ap (λ (x : HuskSealing). x.length + sealed_head) s ∙ q.2;
        nonce = ap (λ (x : HuskSealing). x.nonce) s ∙ n l refl ∙ (λ j. nonce_for (ivs (q.0 j)) (q.1 j));
        header = p.0 kind ∙ (λ j. sealed_header (e j) (m j) r.length);
      }

-- over the host's words
sealing-now : (h : Host) → Stands h → Fine h.seen → (r : HuskSealing) → SealingCall r h.outgoing.words → OwedSealing h.seen.out.ivs (oldest (items h.seen.ledger.queue)) r
sealing-now h o g r m =
    let e : r ≡ shown_by (question_of h.seen.out.stores.state) =
    m ∙ if_true _ _ o.outgoing.flat ∙ ap (λ (w : Stores). shown_by (question_of w.state)) o.outgoing.stores in
    sealing-owed h.seen.out.ivs r (subst Plain (sym e) g.shown) h.seen.out.lent (oldest (items h.seen.ledger.queue)) g.asked g.nonce
    (sealing-answer h.outgoing h.seen o.outgoing r m)

-- ---- what is told besides: the kind of a take, what an ACK leaves

kind-told : (ds : List (List Queued)) (have start : ℕ)
    → ((flat_take (take_told ds have)).kind ≡ kind_owed (items_of ds) (flat_take (take_told ds have)).refusal)
    × ((flat_part (take_told ds have) start).kind ≡ kind_owed (items_of ds) (flat_part (take_told ds have) start).refusal)
kind-told [] have start = (refl, refl)
kind-told (d ∷ ds) have start =
    let P : TakeAnswer → Type 0 = λ a.
    ((flat_take a).kind ≡ choose (eqb (flat_take a).refusal 0) 2 0) × ((flat_part a start).kind ≡ choose (eqb (flat_part a start).refusal 0) 2 0) in
    by_test P (λ t. (sym (if_false _ _ refl), sym (if_false _ _ refl)))
    (λ t. by_test P (λ u. (sym (if_false _ _ refl), sym (if_false _ _ refl))) (λ u. (sym (if_true _ _ refl), sym (if_true _ _ refl))))

module _ (h : Outgoing) (e : End) (o : StandsOut h e) (i : Matches e.out.stores e.ledger) where
  abbrev s : Sending
  s = e.out.stores.state

  abbrev start : ℕ
  start = s.queue.first * s.queue.mtu

  told-by : (have : ℕ) → take_answer s (length e.out.stores.queue) have ≡ take_told i.ds have
  told-by have = take-told s e.out.stores.queue i.ds i.holds have

  -- by the account behind the call too
  more-owed : (c : OutCall) → MadeOut h c → Matches (entered_out e h (behind_out h c) c).out.stores (after e.ledger (send_of c)) → OwedMore e.ledger c
  more-owed (husk_sending_take r v b c) m b' =
      let a : r ≡ flat_take (take_told i.ds (length b)) =
      out-answer h o.flat o.flat-flight (husk_sending_take r v b c) m
      ∙ ap (λ (w : Stores). flat_take (take_answer w.state (length w.queue) (length b))) o.stores ∙ ap flat_take (told-by (length b)) in
      subst (λ (x : HuskTake). x.kind ≡ kind_owed e.ledger.queue x.refusal) (sym a)
      (subst (λ (q : List (List Item)). (flat_take (take_told i.ds (length b))).kind ≡ kind_owed q (flat_take (take_told i.ds (length b))).refusal) i.queue
      (kind-told i.ds (length b) start).0)
  more-owed (husk_sending_take_in_place r v) m b' =
      let a : r ≡ flat_part (take_told i.ds 65535) start =
      out-answer h o.flat o.flat-flight (husk_sending_take_in_place r v) m
      ∙ ap (λ (w : Stores). flat_part (take_answer w.state (length w.queue) 65535) (w.state.queue.first * w.state.queue.mtu)) o.stores
      ∙ ap (λ (k : TakeAnswer). flat_part k start) (told-by 65535) in
      subst (λ (x : HuskPart). x.kind ≡ kind_owed e.ledger.queue x.refusal) (sym a)
      (subst (λ (q : List (List Item)). (flat_part (take_told i.ds 65535) start).kind ≡ kind_owed q (flat_part (take_told i.ds 65535) start).refusal) i.queue
      (kind-told i.ds 65535 start).1)
  more-owed (husk_sending_key r v u iv) m b' = tt
  more-owed (husk_sending_send r v u t z p) m b' = tt
  more-owed (husk_sending_sealed r v len n₀ n₁ p) m b' = tt
  more-owed (husk_flight_begin r k) m b' = tt
  more-owed (husk_flight_send r v k l u t z p j) m b' = tt
  more-owed (husk_flight_message r v k l t z p j) m b' = tt
  more-owed (husk_flight_resend r v k l p) m b' = tt
  more-owed (husk_flight_ack r k l z) m b' =
      let was = status_is e.out.stores e.ledger i in
      let is = status_is (stores_of (behind_out h (husk_flight_ack r k l z))) (after e.ledger (ack· z)) b' in
      let now : flight_of k l ≡ (acked (flight_of h.flight h.numbers) z).flight = m.1 ∙ if_true _ _ o.flat-flight in
      let few : (flight_of h.flight h.numbers).saved ≤ 12 = omega (arith, was.few, ap (λ (w : Stores). w.flight.saved) o.stores) in
      let a : r ≡ left_behind (newly_marked (flight_of h.flight h.numbers) z) (flight_of k l) =
      out-answer h o.flat o.flat-flight (husk_flight_ack r k l z) m ∙ if_true _ _ (ack-done (flight_of h.flight h.numbers) z few)
      ∙ ap (left_behind (newly_marked (flight_of h.flight h.numbers) z)) (sym now) in
      (ap (λ (x : HuskAcked). x.unacknowledged) a ∙ is.unacked, ap (λ (x : HuskAcked). x.saved) a ∙ is.saved)
  more-owed (husk_notes_add r y₀ y₁ y₂ u n) m b' = tt
  more-owed (husk_notes_send r v y₀ y₁ y₂ p) m b' = tt

-- ---- over memory that is too short

-- 12 is a take that is refused
take-refused : (a : TakeAnswer) → (flat_take a).refusal ≡ 12 → (flat_take a).kind ≡ 0
take-refused (Ok (Some n)) z = absurd (omega arith)
take-refused (Err taken.OutOfRange) z = refl
take-refused (Ok None) z = absurd (omega arith)
take-refused (Err taken.Unsealed) z = refl
take-refused (Err (taken.Short n)) z = refl

-- in place: and it is nowhere
part-refused : (a : TakeAnswer) (start : ℕ) → (flat_part a start).refusal ≡ 12 → ((flat_part a start).kind ≡ 0) × ((flat_part a start).start ≡ 0)
part-refused (Ok (Some n)) start z = absurd (omega arith)
part-refused (Err taken.OutOfRange) start z = (refl, refl)
part-refused (Ok None) start z = absurd (omega arith)
part-refused (Err taken.Unsealed) start z = (refl, refl)
part-refused (Err (taken.Short n)) start z = (refl, refl)

-- h the memory with what was lent in its place
module _ (h : Outgoing) (f : sendWords.is_flat h.words ≡ true) (g : flat_to h.flight 12 ≡ true) where
  -- what a take into so many bytes is answered
  abbrev answered : ℕ → TakeAnswer
  answered have = take_answer (stores_of h).state (length h.queue) have

  -- answered 12, it tells what is owed besides
  over-owed : (c : OutCall) → MadeOut h c → reply_of c ≡ short_reply (send_of c) → OwedOver c
  over-owed (husk_sending_take r v b c) m e =
      subst (λ (x : HuskTake). x.refusal ≡ 12 → x.kind ≡ 0) (sym (out-answer h f g (husk_sending_take r v b c) m)) (take-refused (answered (length b)))
      (ap (λ (x : Reply). x.number) e)
  over-owed (husk_sending_take_in_place r v) m e =
      subst (λ (x : HuskPart). x.refusal ≡ 12 → (x.kind ≡ 0) × (x.start ≡ 0)) (sym (out-answer h f g (husk_sending_take_in_place r v) m))
      (part-refused (answered 65535) ((stores_of h).state.queue.first * (stores_of h).state.queue.mtu))
      (ap (λ (x : Reply). x.number) e)
  over-owed (husk_sending_key r v u iv) m e = tt
  over-owed (husk_sending_send r v u t z p) m e = tt
  over-owed (husk_sending_sealed r v len n₀ n₁ p) m e = tt
  over-owed (husk_flight_begin r k) m e = tt
  over-owed (husk_flight_send r v k l u t z p j) m e = tt
  over-owed (husk_flight_message r v k l t z p j) m e = tt
  over-owed (husk_flight_resend r v k l p) m e = tt
  over-owed (husk_flight_ack r k l z) m e = tt
  over-owed (husk_notes_add r y₀ y₁ y₂ u n) m e = tt
  over-owed (husk_notes_send r v y₀ y₁ y₂ p) m e = tt

-- ---- what only asks

module _ (h : Outgoing) (e : End) (o : StandsOut h e) (i : Matches e.out.stores e.ledger) where
  -- what the account has
  abbrev is : StatusIs e.out.stores e.ledger
  is = status_is e.out.stores e.ledger i

  -- the definition's answer: the saved count is in its range
  pub saved-answer : (r : HuskSaved) → status.FlightStatusCall r h.flight → r ≡ status.saved_of (stores_of h).flight
  saved-answer r m =
      let few : (stores_of h).flight.saved ≤ 12 = omega (arith, is.few, ap (λ (w : Stores). w.flight.saved) o.stores) in
      m h.numbers ∙ if_true _ _ (both_true o.flat-flight ∙ le-leb _ _ few)

  -- and the ring in its
  pub queued-answer : (r : HuskQueued) → status.SendingStatusCall r h.words → r ≡ status.queued_of (stores_of h).state
  queued-answer r m = m ∙ if_true _ _ (both_true o.flat ∙ ap (λ (w : Stores). is_sound w.state.queue) o.stores ∙ is.sound)

  -- and the account's
  saved-owed : (r : HuskSaved) → status.FlightStatusCall r h.flight → r ≡ record { refusal = 0; saved = length e.ledger.saved; unacknowledged = unacked e.ledger.saved }
  saved-owed r m =
      saved-answer r m ∙ ap (λ (w : Stores). status.saved_of w.flight) o.stores ∙ (λ j. record { refusal = 0; saved = is.saved j; unacknowledged = is.unacked j })

  -- no more wait than a word can tell
  queued-owed : (r : HuskQueued) → status.SendingStatusCall r h.words → r ≡ record { refusal = 0; queued = length e.ledger.queue; waiting = waiting (items e.ledger.queue) }
  queued-owed r m =
      let w : min (to_seal e.out.stores.state) status.most ≡ waiting (items e.ledger.queue) = omega (arith, is.to-seal, is.most) in
      queued-answer r m ∙ ap (λ (w : Stores). status.queued_of w.state) o.stores ∙ (λ j. record { refusal = 0; queued = is.queued j; waiting = w j })

-- ---- a reading dealt with

-- told by the claim's table as the library answers it: w the words of the reading, p the reading, c its bytes
told_class : (k : Class) (w : List ℕ) (x : HuskAcked) (l : Ledger) (c : List ℕ) (p : Reading) → program.start_of w ≡ start_of p → program.length_of w ≡ length_of p
    → (k ≡ class.Ack → x ≡ record { refusal = 0; marked = (owed l (ack· c)).told; unacknowledged = unacked (after l (ack· c)).saved; saved = length (after l (ack· c)).saved })
    → flat_class k w x ≡ class_told l (verdict_of k) c p
told_class class.Setting w x l c p a b d = refl
told_class class.Reply w x l c p a b d = refl
told_class class.Nothing w x l c p a b d = refl
told_class class.Beyond w x l c p a b d = λ j. record { kind = 2; refusal = 0; description = 0; marked = 0; unacknowledged = 0; saved = 0; start = a j; length = b j }
told_class class.Unprotected w x l c p a b d = λ j. record { kind = 3; refusal = 0; description = 0; marked = 0; unacknowledged = 0; saved = 0; start = a j; length = b j }
told_class class.Ignored w x l c p a b d = λ j. record { kind = 4; refusal = 0; description = 0; marked = 0; unacknowledged = 0; saved = 0; start = a j; length = b j }
told_class class.Ack w x l c p a b d =
    let q = d refl in
    λ j. record {
      kind = 5;
      refusal = 0;
      description = 0;
      marked = (q j).marked;
      unacknowledged = (q j).unacknowledged;
      saved = (q j).saved;
      start = a j;
      length = b j;
    }
told_class class.Close w x l c p a b d = λ j. record { kind = 6; refusal = 0; description = 0; marked = 0; unacknowledged = 0; saved = 0; start = a j; length = b j }
told_class (class.Alert e) w x l c p a b d = λ j. record { kind = 7; refusal = 0; description = e; marked = 0; unacknowledged = 0; saved = 0; start = a j; length = b j }
told_class class.Handshake w x l c p a b d = λ j. record { kind = 8; refusal = 0; description = 0; marked = 0; unacknowledged = 0; saved = 0; start = a j; length = b j }
told_class class.ApplicationData w x l c p a b d = λ j. record { kind = 9; refusal = 0; description = 0; marked = 0; unacknowledged = 0; saved = 0; start = a j; length = b j }
told_class class.Other w x l c p a b d = λ j. record { kind = 10; refusal = 0; description = 0; marked = 0; unacknowledged = 0; saved = 0; start = a j; length = b j }
told_class class.Unopened w x l c p a b d = λ j. record { kind = 11; refusal = 0; description = 0; marked = 0; unacknowledged = 0; saved = 0; start = a j; length = b j }

-- where the words have its content
place-told : (p : Reading) (w : List ℕ) → Says p w → (program.start_of w ≡ start_of p) × (program.length_of w ≡ length_of p)
place-told (says.Plaintext t n s l) w q = (q.start, q.size)
place-told (says.Unopened b n s l) w q = (q.start, q.size)
place-told (says.Opened e n t s l) w q = (q.start, q.size)
place-told says.Setting w q = absurd q
place-told says.Reply w q = absurd q
place-told says.End w q = absurd q
place-told says.Incomplete w q = absurd q
place-told says.TooMany w q = absurd q
place-told (says.Dropped r) w q = absurd q
place-told (says.Mask e s) w q = absurd q
place-told (says.Opening e n s g l) w q = absurd q

-- what is told of an ACK acted on is what the sending account says
abbrev pub ActsAsOwed : End → Type 0
ActsAsOwed e = class_of e ≡ class.Ack → Does e.out.stores e.ledger (ack· (content_in e))

module _ (h : Host) (o : Stands h) (z : Sound h.seen.into.into) (g : Fine h.seen) where
  abbrev e : End
  e = h.seen

  pub few : e.out.stores.flight.saved ≤ 12
  few = (status_is e.out.stores e.ledger g.matches).few

  abbrev own-flight : Flight
  own-flight = flight_of h.outgoing.flight h.outgoing.numbers

  -- the counts of an ACK
  counts-told : Does e.out.stores e.ledger (ack· (content_in e))
      → acked_told (acked own-flight (content_in e)) (newly_marked own-flight (content_in e))
      ≡ record {
        refusal = 0;
        marked = (owed e.ledger (ack· (content_in e))).told;
        unacknowledged = unacked (after e.ledger (ack· (content_in e))).saved;
        saved = length (after e.ledger (ack· (content_in e))).saved;
      }
  counts-told d =
      let c = content_in e in
      let s = status_is (stored e.out.stores (ack· c)) (after e.ledger (ack· c)) d.leaves in
      let n : newly_marked e.out.stores.flight c ≡ (owed e.ledger (ack· c)).told = ap (λ (r : Reply). r.told) d.reply in
      ack-told h o few
      ∙ ap (λ (w : Stores). left_behind (newly_marked w.flight c) (acked w.flight c).flight) o.outgoing.stores
      ∙ (λ j. record { refusal = 0; marked = n j; unacknowledged = s.unacked j; saved = s.saved j })

  class-owed : (r : HuskClass) (v y g m : List ℕ)
      → ClassifyCall r v h.incoming.words y h.pending g h.outgoing.flight m h.outgoing.numbers h.incoming.datagram
      → ActsAsOwed e → (p : Option account.Pending) → e.dealings.account.pending ≡ p
      → r ≡ class_owed e.ledger e.dealings.account.close e.into.into.account.encryption p
  class-owed r v y f m q d none n =
      (own h o few r v y f m q).0
      ∙ ap (λ (k : Class). flat_class k e.dealings.words (acked_told (acked own-flight (content_in e)) (newly_marked own-flight (content_in e))))
      (none_class e.dealings e.into.into z g.dealings n)
  class-owed r v y f m q d (some x) n =
      let w = place-told x.reading e.dealings.words (says-x e.dealings e.into.into z g.dealings x n) in
      let t = verdict-x e.dealings e.into.into z g.dealings x n in
      let c = shown-x e.dealings e.into.into z g.dealings x n in
      (own h o few r v y f m q).0
      ∙ told_class (class_of e) e.dealings.words _ e.ledger (content_in e) x.reading w.0 w.1 (λ k. counts-told (d k))
      ∙ (λ j. class_told e.ledger (t j) (c j) x.reading)

-- ---- every call: g holds of the log before it, k of the log behind it

-- what is known of a call that meets what is asked: a sending call, and an ACK dealt with, are answered as owed; other bytes have another length
abbrev pub Owes : End → Act → Type 0
Owes e (inward c y) = Unit {0}
Owes e (husk_sending_sealing r) = Unit {0}
Owes e (husk_flight_status r) = Unit {0}
Owes e (husk_sending_status r) = Unit {0}
Owes e (outward c) = sends.answered e.out.stores (send_of c) ≡ owed e.ledger (send_of c)
Owes e (outward_over c q k) = Unit {0}
Owes e (host_seals r bytes) = Unit {0}
Owes e (husk_assembly_begin r v n) = Unit {0}
Owes e (husk_assembly_take r v c d x) = Unit {0}
Owes e (husk_receiving_classify r v y g m) = ActsAsOwed e
Owes e (husk_receiving_classify_over r v y g m d) = OtherLength e.into.into d

-- over bytes of another length
pub turned-back : (h : Host) → Stands h → Sound h.seen.into.into → Fine h.seen → (d : List ℕ) → OtherLength h.seen.into.into d
    → classified h.seen.dealings.words h.seen.into.into.state d ≡ class.Reply
turned-back h o z g d ne = over_class h.seen.dealings h.seen.into.into z g.dealings d ne

pub owed-now : (f h : Host) → Stands h → Sound h.seen.into.into → Fine h.seen → (a : Act) → Made h a → Owes h.seen a → Fine (behind f h a).seen → Owed h a
owed-now f h o z g (inward c y) m d k = in_owed h.incoming h.seen.into o.incoming z f.seen.out.sealed c m.0 k.into
owed-now f h o z g (husk_sending_sealing r) m d k = sealing-now h o g r m
owed-now f h o z g (husk_flight_status r) m d k = saved-owed h.outgoing h.seen o.outgoing g.matches r m
owed-now f h o z g (husk_sending_status r) m d k = queued-owed h.outgoing h.seen o.outgoing g.matches r m
owed-now f h o z g (outward c) m d k = (k.said _ (here refl), more-owed h.outgoing h.seen o.outgoing g.matches c m k.matches)
owed-now f h o z g (outward_over c q j) m d k = (
  k.said _ (here refl),
  (k.overs _ (here refl)).0,
  (k.overs _ (here refl)).1,
  over-owed (lends h.outgoing q j) o.outgoing.flat o.outgoing.flat-flight c m (k.said _ (here refl)),
)
owed-now f h o z g (host_seals r bytes) m d k = sealing-now h o g r m.0
owed-now f h o z g (husk_assembly_begin r v n) m d k = begin-owed r (k.pieces.answers _ (here refl))
owed-now f h o z g (husk_assembly_take r v c b e) m d k = take-owed h.assembly h.seen.pieces o.assembly r v c b e m (k.pieces.answers _ (here refl))
owed-now f h o z g (husk_receiving_classify r v y j m) q d k = class-owed h o z g r v y j m q d h.seen.dealings.account.pending refl
owed-now f h o z g (husk_receiving_classify_over r v y j m b) q d k = (turned h o (few h o z g) v y j m b r q (turned-back h o z g b d)).0
