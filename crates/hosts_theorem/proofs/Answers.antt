-- What an answer of the library says and where it points: the reading that it was made of, the protected part that husk_receiving_read names, the
-- part of the queue that husk_sending_sealing names. Assumes nothing.
use Prim.Native.Nat.{ℕ, ◌+◌, ◌≤◌}
use Rattle.std.proofs.Common.{arith, le-leb, eq-eqb, ap, subst, ◌∙◌}
use Rattle.std.specs.Prelude.{leb, length, drop, ◌↔◌, ◌≡◌, Some, None}
use mathlib.Core.List.{List}
use Rattle.std.proofs.Math.Option.{Option, some}
use Rattle.std.proofs.Math.Path.{refl, sym}
use Rattle.base.specs.Choose.{choose, if_true, by_test}
use Rattle.base.specs.Parts.{splice}
use Rattle.std.specs.declared.option.Option as code
use Rattle.incoming.specs.declared.Inner.{Inner}
use Rattle.record.specs.declared.Parsed.TheVariants as parse
use Rattle.record.specs.declared.Parsed.{Parsed}
use Rattle.record.specs.declared.Ciphertext.{Ciphertext}
use Rattle.record.specs.Record.{parsed}
use Rattle.datagram.specs.Datagram.{counted, reason_number}
use Rattle.datagram.specs.declared.Ask.{Ask}
use Rattle.datagram.specs.declared.Datagram.{Datagram}
use Rattle.datagram.specs.declared.Question.TheVariants as question
use Rattle.datagram.specs.declared.Question.{Question}
use Rattle.datagram.specs.declared.Reading.TheVariants as says
use Rattle.datagram.specs.declared.Reading.{Reading}
use Rattle.datagram.specs.declared.Reason.TheVariants as reason
use Rattle.datagram.specs.declared.Reason.{Reason}
use Rattle.datagram.specs.declared.Step.{Step}
use Rattle.recv_keys.specs.Keys.{resolve, find, entry_at, Found}
use Rattle.recv_keys.specs.declared.RecvEpochEntry.{RecvEpochEntry}
use Rattle.recv_keys.specs.declared.RecvKeys.{RecvKeys}
use Rattle.records.specs.Records.{locked_step, sealed_step, step_of, opening_asked, asked_again, asking, read_step}
use Rattle.mask_reply.proofs.Leads.{by-judged}
use Rattle.mask_reply.specs.Mask.{judged, masked_at, masked_by, masking, mask_step}
use Rattle.opening_reply.specs.Opening.{typed, opened_at, opened_by, openings, opened_step, Opening}
use Rattle.opening_reply.specs.declared.Marked.{Marked}
use Rattle.receiving.specs.declared.Read.{Read}
use Rattle.outgoing.specs.declared.Sending.{Sending}
use Rattle.sealing.specs.Sealing.{Asked, question_of}
use Rattle.waiting_laws.specs.Calls.{written_in}
use Rattle.recv_key_steps.specs.Kept.{state_of}
use Rattle.recv_calls.specs.Flat.{bare, flat_reading}
use Rattle.recv_calls.specs.declared.HuskReading.{HuskReading}
use Rattle.send_calls.specs.Calls.{flat_sealing}
use Rattle.send_calls.specs.declared.HuskSealing.{HuskSealing}
use Rattle.history_theorem.specs.Receiver.{out_of}
use Rattle.ends_theorem.specs.World.{given_in}
use Rattle.hosts_theorem.specs.Log.{flat_read, reason_in, reading_of, reason_told, dropped_told, told, Whole, out_by}

-- ---- the reading

reason-back : (r : Reason) → reason_in (reason_number r) ≡ r
unfolding reason_in choose
reason-back reason.Invalid = refl
reason-back reason.EarlyBits = refl
reason-back reason.NoKeys = refl
reason-back reason.TooShort = refl
reason-back reason.TooHigh = refl
reason-back reason.Seen = refl
reason-back reason.TooOld = refl
reason-back reason.NotOpened = refl
reason-back reason.NoContentType = refl

pub reading-back : (r : Reading) (v : List ℕ) → reading_of (flat_reading r v) ≡ r
unfolding reading_of choose
reading-back says.Setting v = refl
reading-back says.Reply v = refl
reading-back says.End v = refl
reading-back says.Incomplete v = refl
reading-back says.TooMany v = refl
reading-back (says.Dropped r) v = ap says.Dropped (reason-back r)
reading-back (says.Plaintext t n s l) v = refl
reading-back (says.Unopened b n s l) v = refl
reading-back (says.Opened e n t s l) v = refl
reading-back (says.Mask e s) v = refl
reading-back (says.Opening e n s h l) v = refl

-- ---- told by the claim's table as the library answers it

-- the library's number of a reason is the claim's
reason-same : (r : Reason) → reason_number r ≡ reason_told r
reason-same reason.Invalid = refl
reason-same reason.EarlyBits = refl
reason-same reason.NoKeys = refl
reason-same reason.TooShort = refl
reason-same reason.TooHigh = refl
reason-same reason.Seen = refl
reason-same reason.TooOld = refl
reason-same reason.NotOpened = refl
reason-same reason.NoContentType = refl

-- the library's answer is the table's, with the nonce that it has
reading-told : (r : Reading) (v : List ℕ) → flat_reading r v ≡ told r (flat_reading r v).nonce
reading-told says.Setting v = refl
reading-told says.Reply v = refl
reading-told says.End v = refl
reading-told says.Incomplete v = refl
reading-told says.TooMany v = refl
reading-told (says.Dropped r) v = ap (bare 2) (reason-same r)
reading-told (says.Plaintext t n s l) v = refl
reading-told (says.Unopened b n s l) v = refl
reading-told (says.Opened e n t s l) v = refl
reading-told (says.Mask e s) v = refl
reading-told (says.Opening e n s h l) v = refl

-- so every answer made of a reading has every field as told
pub whole : (r : HuskReading) (k : Read) → r ≡ flat_read k → Whole r
whole r k e =
    subst Whole (sym e)
    (reading-told k.reading k.nonce ∙ sym (ap (λ (x : Reading). told x (flat_read k).nonce) (reading-back k.reading k.nonce)))

-- so 9 tells that a record was seen, and 26 that it is too old
pub nine_told : (r : HuskReading) → Whole r → (r ≡ dropped_told 9) ↔ (reading_of r ≡ says.Dropped reason.Seen)
unfolding reading_of reason_in choose
nine_told r w = (λ e. ap reading_of e, λ e. w ∙ ap (λ (x : Reading). told x r.nonce) e)

pub old-told : (r : HuskReading) → Whole r → (r ≡ dropped_told 26) ↔ (reading_of r ≡ says.Dropped reason.TooOld)
unfolding reading_of reason_in choose
old-told r w = (λ e. ap reading_of e, λ e. w ∙ ap (λ (x : Reading). told x r.nonce) e)

-- ---- the nonce of a reply's answer: that of an opening question, else zeros

abbrev Shown : Step → Type 0
Shown t = (flat_reading t.reading t.nonce).nonce ≡ t.nonce

module _ (k : RecvKeys) (b : Datagram) where
  nonce-judged : (e : RecvEpochEntry) (a : Ask) (n : ℕ) → Shown (judged e b a n)
  unfolding opening_asked
  nonce-judged e a n = by-judged e b a n Shown (λ r. refl) (λ small fresh. refl)

  nonce-masked : (f : Found) (a : Ask) (m d : List ℕ) → Shown (masked_by f k b a m d).0
  unfolding masked_by masked_at
  nonce-masked None a m d = refl
  nonce-masked (Some i) a m d = nonce-judged (entry_at k i) a _

  nonce-masking : (q : Question) (m d : List ℕ) → Shown (masking q k b m d).0
  unfolding masking
  nonce-masking question.Nothing m d = refl
  nonce-masking (question.Mask a) m d = nonce-masked (find k.entries a.epoch k.count) a m d
  nonce-masking (question.Opening a n) m d = refl

  pub mask-nonce : (m d : List ℕ) → Shown (mask_step k b m d).0
  unfolding mask_step
  mask-nonce m d =
      let P : Step × List ℕ → Type 0 = λ t. Shown t.0 in by_test P (λ s. by_test P (λ t. nonce-masking b.question m d) (λ t. refl)) (λ s. refl)

  nonce-typed : (a : Ask) (n : ℕ) (x : code.Option Inner) → Shown (typed b a n x)
  unfolding typed counted
  nonce-typed a n None = refl
  nonce-typed a n (Some held) = by_test Shown (λ u. refl) (λ u. refl)

  abbrev Opened : Marked → Type 0
  Opened m = Shown m.step

  nonce-opened : (i : ℕ) (o : Opening) (a : Ask) (n : ℕ) (d : List ℕ) → Opened (opened_at i o k b a n d)
  unfolding opened_at
  nonce-opened i None a n d = refl
  nonce-opened i (Some len) a n d = by_test Opened (λ t. nonce-typed a n _) (λ t. refl)

  nonce-by : (f : Found) (o : Opening) (a : Ask) (n : ℕ) (d : List ℕ) → Opened (opened_by f o k b a n d)
  unfolding opened_by
  nonce-by None o a n d = refl
  nonce-by (Some i) o a n d = nonce-opened i o a n d

  nonce-openings : (q : Question) (o : Opening) (d : List ℕ) → Opened (openings q o k b d)
  unfolding openings
  nonce-openings question.Nothing o d = refl
  nonce-openings (question.Mask a) o d = refl
  nonce-openings (question.Opening a n) o d = nonce-by (find k.entries a.epoch k.count) o a n d

  pub open_nonce : (o : Opening) (d : List ℕ) → Opened (opened_step k b o d)
  unfolding opened_step
  open_nonce o d = by_test Opened (λ s. by_test Opened (λ t. nonce-openings b.question o d) (λ t. refl)) (λ s. refl)

-- an answer entered is what the definition makes: k the reading, d its bytes
pub entered : (r : HuskReading) (v c : List ℕ) (k : Read) (d : List ℕ) → (flat_read k).nonce ≡ k.nonce → r ≡ flat_read k → state_of v ≡ k.state → c ≡ d → out_by r v c ≡ out_of k d
entered r v c k d n e s b =
    let p : reading_of r ≡ k.reading = ap reading_of e ∙ reading-back k.reading k.nonce in
    let q : r.nonce ≡ k.nonce = ap (λ (x : HuskReading). x.nonce) e ∙ n in
    λ i. record { state = s i; datagram = b i; reading = p i; nonce = q i }

-- ---- the protected part

-- bytes written where the state's question asks an opening
abbrev pub writes_in : Question → ℕ → List ℕ → List ℕ → List ℕ
writes_in question.Nothing at d p = d
writes_in (question.Mask a) at d p = d
writes_in (question.Opening a n) at d p = choose (leb (length p) a.length) (splice (at + a.header_len) p d) d

module _ (k : RecvKeys) (b : Datagram) (d p : List ℕ) where
  abbrev flat : Step → HuskReading
  flat t = flat_reading t.reading t.nonce

  -- an answer of kind 7 names the part that the question lends; and an answer has the nonce of its step
  abbrev Names : Question → Step → Type 0
  Names q t = Shown t × ((flat t).kind ≡ 7 → length p ≤ (flat t).length → splice ((flat t).start + (flat t).header_len) p d ≡ writes_in q b.at d p)

  -- a record that the cut comes to shows no opening
  locked : (f : Found) (c : Ciphertext) → Names question.Nothing (locked_step f k b c)
  unfolding locked_step
  locked None c = (refl, λ z l. absurd (omega arith))
  locked (Some i) c =
      by_test (Names question.Nothing) (λ t. (refl, λ z l. absurd (omega arith)))
      (λ t. by_test (Names question.Nothing) (λ u. (refl, λ z l. absurd (omega arith))) (λ u. (refl, λ z l. absurd (omega arith))))

  new_record : (x : Parsed) → Names question.Nothing (step_of x k b)
  unfolding step_of sealed_step counted
  new_record parse.End = (refl, λ z l. absurd (omega arith))
  new_record parse.Incomplete = (refl, λ z l. absurd (omega arith))
  new_record (parse.Invalid n) = (refl, λ z l. absurd (omega arith))
  new_record (parse.Plaintext c) =
      by_test (Names question.Nothing) (λ t. (refl, λ z l. absurd (omega arith))) (λ t. (refl, λ z l. absurd (omega arith)))
  new_record (parse.Ciphertext c) =
      by_test (Names question.Nothing) (λ e. locked (resolve k c.epoch_bits) c)
      (λ e. by_test (Names question.Nothing) (λ t. (refl, λ z l. absurd (omega arith)))
      (λ t. by_test (Names question.Nothing) (λ u. (refl, λ z l. absurd (omega arith))) (λ u. (refl, λ z l. absurd (omega arith)))))

  by-question : (q : Question) → Names q (asking q k b d)
  unfolding asking asked_again opening_asked
  by-question question.Nothing = new_record (parsed (drop b.at d))
  by-question (question.Mask a) = (refl, λ z l. absurd (omega arith))
  by-question (question.Opening a n) = go (find k.entries a.epoch k.count)
    where
      go : (f : Found) → Names (question.Opening a n) (asked_again f k b a n)
      go None = (refl, λ z l. absurd (omega arith))
      go (Some i) = (refl, λ z l. sym (if_true _ _ (le-leb _ _ l)))

  pub read_names : Names b.question (read_step k b d)
  unfolding read_step
  read_names =
      by_test (Names b.question)
      (λ s. by_test (Names b.question) (λ t. by-question b.question) (λ t. (refl, λ z l. absurd (omega arith))))
      (λ s. (refl, λ z l. absurd (omega arith)))

-- ---- the part of the queue

module _ (s : Sending) (q bytes : List ℕ) (o : Option (List ℕ)) where
  abbrev shown : Asked → HuskSealing
  shown k = flat_sealing k

  -- an answer of kind 2 names the part that the host writes and gives
  abbrev Puts : Asked → Type 0
  Puts k =
      (shown k).kind ≡ 2 → length bytes ≡ (shown k).length
      → (splice (shown k).start bytes q ≡ written_in k bytes q) × (some bytes ≡ given_in k bytes o)

  pub sealing-names : Puts (question_of s)
  unfolding question_of
  sealing-names =
      by_test Puts
      (λ u. by_test Puts
      (λ h. by_test Puts (λ a z l. (sym (if_true _ _ (eq-eqb _ _ l)), sym (if_true _ _ (eq-eqb _ _ l)))) (λ a z l. absurd (omega arith)))
      (λ h z l. absurd (omega arith)))
      (λ u z l. absurd (omega arith))
