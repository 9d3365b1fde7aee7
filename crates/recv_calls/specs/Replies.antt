-- The replies to a question: in what state they are met, and what they leave. Assumes nothing.
use Rattle.std.specs.Prelude.{true, List, ◌≡◌, refl, ℕ, ◌+◌, ◌-◌, ◌≤◌, ◌<◌, leb, get_or, Some, None, Option}
use Rattle.std.proofs.Common.{sym, ◌∙◌, arith, eq-eqb, ne_eqb, le-leb, lt-ltb}
use Rattle.std.proofs.Math.Path.{ap, subst}
use Rattle.std.proofs.lemmas.Bool.{lt-leb}
use Rattle.base.specs.Choose.{by_test, if_true, if_false, both_true}
use Rattle.base.specs.Parts.{part}
use Rattle.datagram.specs.Datagram.{is_sound, zeros, told, moved, passed, counted, end_asked}
use Rattle.datagram.specs.Sound.{Held, Ready, held-mask, held_open, ready}
use Rattle.datagram.specs.declared.Ask.{Ask}
use Rattle.datagram.specs.declared.Datagram.{Datagram}
use Rattle.datagram.specs.declared.Question.TheVariants as question
use Rattle.datagram.specs.declared.Question.{Question}
use Rattle.datagram.specs.declared.Reading.TheVariants as says
use Rattle.datagram.specs.declared.Reading.{Reading}
use Rattle.datagram.specs.declared.Reason.TheVariants as reason
use Rattle.datagram.specs.declared.Reason.{Reason}
use Rattle.datagram.specs.declared.Step.{Step}
use Rattle.dtls_aead.specs.Nonce.{nonce_of}
use Rattle.incoming.specs.Inner.{inner_of, holding}
use Rattle.incoming.specs.declared.Inner.{Inner}
use Rattle.mask_reply.proofs.Leads.{judged-by}
use Rattle.mask_reply.specs.Mask.{judged, masking, mask_step}
use Rattle.opening_reply.specs.Opening.{still, typed, opened_at, openings, opened_step, Opening}
use Rattle.opening_reply.specs.declared.Marked.{Marked}
use Rattle.record.specs.Record.{tag_size}
use Rattle.records.specs.Records.{opening_asked}
use Rattle.recv_keys.specs.Keys.{entry_at}
use Rattle.recv_keys.specs.declared.RecvEpochEntry.{RecvEpochEntry}
use Rattle.recv_keys.specs.declared.RecvKeys.{RecvKeys}
use Rattle.recv_words.specs.Laws.{Marks, Lies, skipped, opening, entry-at}
use Rattle.recv_words.specs.Words.{question-at, iv_at, keys_of, ask_of, ask_number, question_of, datagram_of, is_flat}
use Rattle.window.specs.Window.{verdict}
use Rattle.window.specs.declared.Verdict.TheVariants as number
use Rattle.words.specs.Packed.{iv_of}
use Rattle.recv_calls.specs.Calls.{Stepped, masks, MaskCall, OpenedCall}
use Rattle.recv_calls.specs.Flat.{reason_of, bare, shown, asked, flat_reading, opening_of}
use Rattle.recv_calls.specs.Laws.{state-by}
use Rattle.recv_calls.specs.declared.HuskReading.{HuskReading}
use Rattle.recv_calls.specs.declared.Reply.{Reply}

-- ---- the state in which a reply is met

-- a mask question waits
pub record MaskWaits (w : List ℕ) : Type 0 where
  pub flat : is_flat w ≡ true
  pub sound : is_sound (keys_of w) (datagram_of w) ≡ true
  pub asks : question_of w ≡ question.Mask (ask_of w)

-- an opening question
pub record OpeningWaits (w : List ℕ) : Type 0 where
  pub flat : is_flat w ≡ true
  pub sound : is_sound (keys_of w) (datagram_of w) ≡ true
  pub asks : question_of w ≡ question.Opening (ask_of w) (ask_number w)

-- the record at the cursor ends within a datagram
abbrev pub Fits : List ℕ → Type 0
Fits w = end_asked (datagram_of w) (ask_of w) ≤ 16384

pub kind-mask : (w : List ℕ) → get_or w question-at 0 ≡ 1 → question_of w ≡ question.Mask (ask_of w)
unfolding question_of
kind-mask w e = if_true _ _ (eq-eqb _ _ e)

pub kind-opening : (w : List ℕ) → get_or w question-at 0 ≡ 2 → question_of w ≡ question.Opening (ask_of w) (ask_number w)
unfolding question_of
kind-opening w e = if_false _ _ (ne_eqb (get_or w question-at 0) 1 (λ f. omega arith)) ∙ if_true _ _ (eq-eqb _ _ e)

module _ (w : List ℕ) (k : RecvKeys) (b : Datagram) where
  -- no mask question: 15
  pub mask_not_asked : (m d : List ℕ) → (get_or w question-at 0 ≡ 1 → ⊥) → masking (question_of w) k b m d ≡ (told b says.Reply, d)
  unfolding question_of masking
  mask_not_asked m d e =
      ap (λ (q : Question). masking q k b m d) (if_false _ _ (ne_eqb _ _ e))
      ∙ by_test (λ (q : Question). masking q k b m d ≡ (told b says.Reply, d)) (λ t. refl) (λ t. refl)

  -- no opening question: 15
  pub opening_not_asked : (o : Opening) (d : List ℕ) → (get_or w question-at 0 ≡ 2 → ⊥) → openings (question_of w) o k b d ≡ still k (told b says.Reply)
  unfolding question_of openings
  opening_not_asked o d e =
      by_test (λ (q : Question). openings q o k b d ≡ still k (told b says.Reply)) (λ t. refl)
      (λ t. ap (λ (q : Question). openings q o k b d) (if_false _ _ (ne_eqb _ _ e)))

module _ {w : List ℕ} (q : MaskWaits w) where
  pub mask-ready : Ready (keys_of w) (datagram_of w)
  mask-ready = ready _ _ q.sound

  pub mask-held : Held (keys_of w) (ask_of w) ((datagram_of w).size - (datagram_of w).at)
  mask-held = held-mask _ _ q.sound _ q.asks

  pub mask_fits : Fits w
  mask_fits = omega (arith, mask-held.head, mask-held.fits, mask-ready.at, mask-ready.size)

module _ {w : List ℕ} (q : OpeningWaits w) where
  pub open_ready : Ready (keys_of w) (datagram_of w)
  open_ready = ready _ _ q.sound

  pub open_held : Held (keys_of w) (ask_of w) ((datagram_of w).size - (datagram_of w).at)
  open_held = (held_open _ _ q.sound _ _ q.asks).1

  pub open_fits : Fits w
  open_fits = omega (arith, open_held.head, open_held.fits, open_ready.at, open_ready.size)

-- ---- the reply to a mask question

abbrev pub laid : Reply → HuskReading
laid r = record {
  kind = r.kind;
  refusal = r.refusal;
  content_type = 0;
  epoch = r.epoch;
  number = r.number;
  start = r.start;
  header_len = r.header_len;
  length = r.length;
  nonce = nonce_of (iv_of r.front r.back) r.number;
}

-- the opening question of the record at the cursor, under the entry at i
abbrev pub asked_at : List ℕ → ℕ → ℕ → HuskReading
asked_at w i n =
    asked (ask_of w).epoch n (datagram_of w).at (ask_of w).header_len (ask_of w).length (nonce_of (iv_at w i) n)

pub asked_entry : (w : List ℕ) (i n : ℕ) → i < 5
    → asked_at w i n ≡ asked (ask_of w).epoch n (datagram_of w).at (ask_of w).header_len (ask_of w).length (nonce_of (entry_at (keys_of w) i).iv n)
asked_entry w i n l =
    ap (λ (e : RecvEpochEntry). asked (ask_of w).epoch n (datagram_of w).at (ask_of w).header_len (ask_of w).length (nonce_of e.iv n))
    (sym (entry-at w i l))

-- ---- what a reply leaves: the reading, flat, and the words behind it

abbrev pub Marked-as : HuskReading → List ℕ → Marked → Type 0
Marked-as r v m =
    (r ≡ flat_reading m.step.reading m.step.nonce) × (keys_of v ≡ m.keys) × (datagram_of v ≡ m.step.datagram) × (is_flat v ≡ true)

-- what a call ensures

pub masks_as : (r : HuskReading) (v w : List ℕ) (m n : ℕ) (e d : List ℕ) → is_flat w ≡ true
    → Stepped r v w (mask_step (keys_of w) (datagram_of w) (masks m n) d).0 × (e ≡ (mask_step (keys_of w) (datagram_of w) (masks m n) d).1) → MaskCall r v w m n e d
masks_as r v w m n e d f h = (
  (h.0.0 ∙ sym (if_true _ _ f), state-by v h.0.1 h.0.2 ∙ sym (if_true _ _ f), h.0.3 ∙ sym f),
  h.1 ∙ sym (if_true _ _ f),
)

pub opens_as : (r : HuskReading) (v w : List ℕ) (o len : ℕ) (d : List ℕ) → leb o 1 ≡ true → is_flat w ≡ true
    → Marked-as r v (opened_step (keys_of w) (datagram_of w) (opening_of o len) d) → OpenedCall r v w o len d
opens_as r v w o len d l f h = (
  h.0 ∙ sym (if_true _ _ (both_true l ∙ f)),
  state-by v h.1 h.2 ∙ sym (if_true _ _ (both_true l ∙ f)),
  h.3 ∙ sym f,
)

-- ---- the number judged

module _ (w v : List ℕ) (r : HuskReading) (i n : ℕ) (l : i < 5) (f : is_flat w ≡ true) where
  abbrev Judges : Type 0
  Judges = Stepped r v w (judged (entry_at (keys_of w) i) (datagram_of w) (ask_of w) n)

  -- what a dropped record leaves, with the refusal told
  abbrev Left : ℕ → Type 0
  Left refusal = (r ≡ bare 2 refusal) × Lies (skipped w) w v

  left-by : (x : Reason) → judged (entry_at (keys_of w) i) (datagram_of w) (ask_of w) n ≡ passed (datagram_of w) (end_asked (datagram_of w) (ask_of w)) x
      → Left (reason_of x) → Judges
  left-by x q s = subst (Stepped r v w) (sym q) (s.0, s.1.keys, s.1.datagram, s.1.flat f)

  pub judged-high : 0xFFFF_FFFF_FFFF < n → Left 8 → Judges
  judged-high h s = left-by reason.TooHigh (unfold judged in (if_true _ _ (lt-ltb _ _ h))) s

  module _ (h : n ≤ 0xFFFF_FFFF_FFFF) where
    pub judged-seen : verdict (entry_at (keys_of w) i).replay n ≡ number.Seen → Left 9 → Judges
    judged-seen t s = left-by reason.Seen (judged-by _ _ _ n number.Seen h t) s

    pub judged-old : verdict (entry_at (keys_of w) i).replay n ≡ number.TooOld → Left 26 → Judges
    judged-old t s = left-by reason.TooOld (judged-by _ _ _ n number.TooOld h t) s

    -- the opening question
    pub judged-fresh : verdict (entry_at (keys_of w) i).replay n ≡ number.Fresh → (r ≡ asked_at w i n) × Lies (opening w n) w v → Judges
    judged-fresh t s =
        subst (Stepped r v w) (sym (judged-by _ _ _ n number.Fresh h t))
        (unfold opening_asked in (s.0 ∙ asked_entry w i n l, s.1.keys, s.1.datagram, s.1.flat f))

-- refused: the words and the bytes as they were
pub mask-refused : (r : HuskReading) (w m d : List ℕ) (g : Reading) → is_flat w ≡ true → r ≡ flat_reading g zeros
    → mask_step (keys_of w) (datagram_of w) m d ≡ (told (datagram_of w) g, d)
    → Stepped r w w (mask_step (keys_of w) (datagram_of w) m d).0 × (d ≡ (mask_step (keys_of w) (datagram_of w) m d).1)
mask-refused r w m d g f e q = subst (λ (p : Step × List ℕ). Stepped r w w p.0 × (d ≡ p.1)) (sym q) ((e, refl, refl, f), refl)

pub mask_leads : (r : HuskReading) (w v m d e : List ℕ) (p : Step × List ℕ) → mask_step (keys_of w) (datagram_of w) m d ≡ p → Stepped r v w p.0 × (e ≡ p.1)
    → Stepped r v w (mask_step (keys_of w) (datagram_of w) m d).0 × (e ≡ (mask_step (keys_of w) (datagram_of w) m d).1)
mask_leads r w v m d e p q h = subst (λ (x : Step × List ℕ). Stepped r v w x.0 × (e ≡ x.1)) (sym q) h

-- ---- the record opened

module _ (w v : List ℕ) (r : HuskReading) (t l : ℕ) (f : is_flat w ≡ true) where
  abbrev Read : Type 0
  Read = Stepped r v w (typed (datagram_of w) (ask_of w) (ask_number w) (holding t l))

  -- one reading too many: 3
  pub counts-over : 16 ≤ (datagram_of w).readings → r ≡ bare 1 3 → Lies (moved (datagram_of w) (datagram_of w).size (datagram_of w).readings) w v → Read
  unfolding typed counted
  counts-over h e s = subst (Stepped r v w) (sym (if_true _ _ (le-leb 16 _ h))) (e, s.keys, s.datagram, s.flat f)

  pub counts : (datagram_of w).readings < 16 → r ≡ shown 5 t (ask_of w).epoch (ask_number w) ((datagram_of w).at + (ask_of w).header_len) l
      → Lies (moved (datagram_of w) (end_asked (datagram_of w) (ask_of w)) ((datagram_of w).readings + 1)) w v → Read
  unfolding typed counted
  counts h e s = subst (Stepped r v w) (sym (if_false _ _ (lt-leb 16 _ h))) (e, s.keys, s.datagram, s.flat f)

module _ {i n : ℕ} {w u : List ℕ} (m : Marks i n w u) where
  pub marks-fit : Fits w → Fits u
  marks-fit h =
      omega (arith, h, ap (λ (b : Datagram). b.at) m.datagram, ap (λ (a : Ask). a.header_len) m.ask, ap (λ (a : Ask). a.length) m.ask)

-- a yes of the right length: the number is marked, and the record told
pub yes_opens : (w u v : List ℕ) (r : HuskReading) (i len : ℕ) (x : Option Inner) (d : List ℕ) → len ≡ (ask_of w).length - tag_size → Marks i (ask_number w) w u
    → x ≡ inner_of (part ((datagram_of w).at + (ask_of w).header_len) len d) → Stepped r v u (typed (datagram_of u) (ask_of u) (ask_number u) x)
    → Marked-as r v (opened_at i (Some len) (keys_of w) (datagram_of w) (ask_of w) (ask_number w) d)
unfolding opened_at
yes_opens w u v r i len x d e m q s =
    let same = ap (λ (b : Datagram). typed b (ask_of u) (ask_number u) x) m.datagram
    ∙ ap (λ (a : Ask). typed (datagram_of w) a (ask_number u) x) m.ask
    ∙ ap (λ (n : ℕ). typed (datagram_of w) (ask_of w) n x) m.number
    ∙ ap (typed (datagram_of w) (ask_of w) (ask_number w)) q in
    let t = subst (Stepped r v u) same s in
    subst (Marked-as r v) (sym (if_true _ _ (eq-eqb _ _ e))) (t.0, t.1 ∙ m.keys, t.2, t.3)

-- another length: 15
pub yes_refused : (w : List ℕ) (r : HuskReading) (i len : ℕ) (d : List ℕ) → is_flat w ≡ true → (len ≡ (ask_of w).length - tag_size → ⊥) → r ≡ bare 0 15
    → Marked-as r w (opened_at i (Some len) (keys_of w) (datagram_of w) (ask_of w) (ask_number w) d)
unfolding opened_at
yes_refused w r i len d f e q = subst (Marked-as r w) (sym (if_false _ _ (ne_eqb _ _ e))) (q, refl, refl, f)

pub opening_yes : (o len : ℕ) → o ≡ 1 → opening_of o len ≡ Some len
unfolding opening_of
opening_yes o len e = if_true _ _ (eq-eqb _ _ e)

pub opening_no : (o len : ℕ) → (o ≡ 1 → ⊥) → opening_of o len ≡ None
unfolding opening_of
opening_no o len e = if_false _ _ (ne_eqb _ _ e)

pub opened-refused : (r : HuskReading) (w : List ℕ) (m : Marked) (g : Reading) → is_flat w ≡ true → r ≡ flat_reading g zeros → m ≡ still (keys_of w) (told (datagram_of w) g)
    → Marked-as r w m
opened-refused r w m g f e q = subst (Marked-as r w) (sym q) (e, refl, refl, f)
