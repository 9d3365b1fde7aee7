-- Every receiving call keeps what holds between the words, the account and the history. Assumes nothing.
use Rattle.recv_keys.specs.Keys.{Found}
use Rattle.std.specs.Prelude.{Bool, ◌≡◌, ℕ, ◌≤◌, length, Some, None}
use Rattle.std.proofs.Math.Bool.{true, false}
use Rattle.std.proofs.lemmas.Bool.{false≢true}
use mathlib.Core.List.Memᴰ.{head as here}
use mathlib.Core.List.Memᴰ.{tail as there}
use mathlib.Core.List.{List, Memᴰ as Mem}
use Rattle.std.proofs.Math.Option.{Option, none, some}
use Rattle.std.proofs.Math.Path.{refl, ap, subst}
use Rattle.std.proofs.Common.{sym, ◌∙◌, arith}
use Rattle.std.proofs.Math.Dec.{eqb}
use Rattle.base.specs.Choose.{choose, by_test, if_true, if_false}
use Rattle.datagram.specs.Keeps.{refused}
use Rattle.datagram.specs.declared.Datagram.{Datagram}
use Rattle.datagram.specs.declared.Question.TheVariants as question
use Rattle.datagram.specs.declared.Question.{Question}
use Rattle.datagram.specs.declared.Ask.{Ask}
use Rattle.datagram.specs.declared.Reading.TheVariants as says
use Rattle.datagram.specs.declared.Reading.{Reading}
use Rattle.datagram.specs.declared.Step.{Step}
use Rattle.mask_reply.proofs.Leads.{by-judged}
use Rattle.mask_reply.specs.Mask.{judged, masked_at, masked_by, masking, mask_step}
use Rattle.opening_reply.specs.Opening.{shown_by, Opening}
use Rattle.receiving.specs.Laws.{mask-writes_not}
use Rattle.receiving.specs.Receiving.{answer_number, key_of, begin_of, mask_of}
use Rattle.receiving.specs.Within.{Within, read-within, opened-within}
use Rattle.receiving.specs.declared.Receiving.{Receiving}
use Rattle.records.specs.Records.{opening_asked}
use Rattle.recv_keys.specs.declared.RecvEpochEntry.{RecvEpochEntry}
use Rattle.recv_keys.specs.declared.RecvKeys.{RecvKeys}
use Rattle.classify.specs.Classify.{plaintext-kind, unopened-kind, opened-kind, cleared, noted}
use Rattle.history_theorem.specs.Account.{Shown, nothing, a_mask, an_opening, Account, keys}
use Rattle.history_theorem.proofs.Calls.{begin_told}
use Rattle.history_theorem.specs.Claim.{Masks, Proper, FairCall}
use Rattle.history_theorem.proofs.Lists.{mem-by}
use Rattle.history_theorem.proofs.Reading.{read-sound, mask-sound, open_sound}
use Rattle.history_theorem.specs.Receiver.{Sealed, Trial, Tried, Deed, a_read, a_mask_reply, an_open_reply, Receiver, Out, Use, unused, use_in, fate_of, next_account, with_state, removed_from, removed, begun, begin_owed, leaves_rest, finishes, written_in, wrote, after, after_read, after_mask, after_open, comes_to, reached, read_out, open_out, readings_by, question_in, settled_as, settled_at, Inbound, Call, key·, remove·, encrypt·, release·, begin·, read·, mask·, write·, open·, read_over·, mask_over·, open_over·, finish·, does}
use Rattle.history_theorem.proofs.Sound.{UnderWay, Sound}
use Rattle.history_theorem.proofs.Verdicts.{read-turned, open_turned}
use Rattle.classify_theorem.specs.Account.{Pending, forgets, begins}
use Rattle.classify_theorem.specs.Claim.{Dealings, leaves_behind, notes, starts, strays, listens, is_reading}
use Rattle.classify_theorem.proofs.Words.{noting, clear-spares, clear-waits}
use Rattle.classify_theorem.proofs.Story.{Idle, Story, Same, Quiet, quiet_story, left_story, told_story}

-- ---- what a reply with a mask says is no reading

abbrev NoReading : Step → Type 0
NoReading t = is_reading t.reading ≡ false

judged-none : (e : RecvEpochEntry) (b : Datagram) (a : Ask) (n : ℕ) → NoReading (judged e b a n)
unfolding opening_asked
judged-none e b a n = by-judged e b a n NoReading (λ r. refl) (λ small fresh. refl)

masked-none : (f : Found) (k : RecvKeys) (b : Datagram) (a : Ask) (m d : List ℕ) → NoReading (masked_by f k b a m d).0
unfolding masked_by masked_at
masked-none None k b a m d = refl
masked-none (Some i) k b a m d = judged-none _ b a _

masking-none : (q : Question) (k : RecvKeys) (b : Datagram) (m d : List ℕ) → NoReading (masking q k b m d).0
unfolding masking
masking-none question.Nothing k b m d = refl
masking-none (question.Mask a) k b m d = masked-none _ k b a m d
masking-none (question.Opening a n) k b m d = refl

mask-none : (s : Receiving) (m d : List ℕ) → is_reading (mask_of s m d).0.reading ≡ false
unfolding mask_step
mask-none s m d =
    let P : Step × List ℕ → Type 0 = λ x. NoReading x.0 in
    by_test P (λ t. by_test P (λ u. masking-none s.datagram.question s.keys s.datagram m d) (λ u. refl)) (λ t. refl)

-- ---- a reading call, by what it says

-- a record settled by what is no reading
settled_only : (r : Reading) (c : List ℕ) (t : Option Trial) (ts : List Tried) → is_reading r ≡ false → (d : Tried) → Mem d (settled_as r c t ts) → is_reading d.reading ≡ true → Mem d ts
settled_only r c none ts e d m q = m
settled_only r c (some t) ts e d m q =
    mem-by m (λ (z : d ≡ record { trial = t; reading = r; shown = c }). absurd (false≢true (sym e ∙ sym (ap (λ (x : Tried). is_reading x.reading) z) ∙ q))) (λ o. o)

settled-more : (r : Reading) (c : List ℕ) (t : Option Trial) (ts : List Tried) (d : Tried) → Mem d ts → Mem d (settled_as r c t ts)
settled-more r c none ts d m = m
settled-more r c (some t) ts d m = there m

module _ (p : Dealings) (y : Receiver) (s : Story p y) where
  -- a reading that waits has no question beside it
  pub asks_nothing : (x : Pending) → p.account.pending ≡ some x → y.account.waits ≡ nothing
  asks_nothing x e = subst (λ (o : Option Pending). Idle o y.account.waits) e s.stands.idle

  few : p.account.turns ≤ y.account.readings
  few = let l = s.stands.turns in omega arith

  module _ (st : Receiving) (nonce : List ℕ) (t : Option Trial) (u : Use) (q : Shown) (deed : Deed) where
    abbrev out_as : Reading → Out
    out_as r = record { state = st; datagram = y.datagram; reading = r; nonce = nonce }

    abbrev z : Reading → Option Trial → Receiver
    z r v = after y (out_as r) v u q deed

    abbrev Kept : Reading → Type 0
    Kept r = Story (notes p (out_as r)) (z r t)

    abbrev c : Reading → List ℕ
    c r = shown_by r y.datagram

    -- no reading: none waits then
    ends : (r : Reading) → is_reading r ≡ false → y.account.readings ≡ (z r t).account.readings → (z r t).tried ≡ settled_as r (c r) t y.tried
        → Story (record { words = cleared p.words; account = forgets p.account; told = p.told; dealt = p.dealt; missed = leaves_behind p.account.pending p.missed }) (z r t)
    ends r e readings tried =
        let l = few in
        left_story p y s (cleared p.words) (forgets p.account) (z r t)
        (record {
          more = λ d m. subst (Mem d) (sym tried) (settled-more r (c r) t y.tried d m);
          only = λ d m x. settled_only r (c r) t y.tried e d (subst (Mem d) tried m) x;
        })
        (clear-spares p.words s.stands.long) (clear-waits p.words s.stands.long) refl refl refl (omega arith)

    -- a question: the record stays under way
    asks : (r : Reading) → y.account.readings ≡ (z r t).account.readings → (z r t).tried ≡ y.tried
        → Story (record { words = cleared p.words; account = forgets p.account; told = p.told; dealt = p.dealt; missed = leaves_behind p.account.pending p.missed }) (z r t)
    asks r readings tried =
        let l = few in
        left_story p y s (cleared p.words) (forgets p.account) (z r t)
        (record { more = λ d m. subst (Mem d) (sym tried) m; only = λ d m x. subst (Mem d) tried m })
        (clear-spares p.words s.stands.long) (clear-waits p.words s.stands.long) refl refl refl (omega arith)

    -- refused: nothing has changed
    stays : (r : Reading) → (z r t).account ≡ y.account → (z r t).tried ≡ y.tried → Story p (z r t)
    stays r account tried = quiet_story p y s (z r t) (record {
      same = record { more = λ d m. subst (Mem d) (sym tried) m; only = λ d m x. subst (Mem d) tried m };
      readings = let e = ap (λ (a : Account). a.readings) account in omega (arith, e);
      bytes = λ x e. refl;
      idle = λ x e. ap (λ (a : Account). a.waits) account ∙ asks_nothing x e;
    })

    -- a record settled by what is no reading counts none
    counts-none : (r : Reading) (v : Option Trial) → ((k : ℕ) → k ≡ readings_by r k) → y.account.readings ≡ (settled_at y.account r (length y.arrived) v).readings
    counts-none r none e = refl
    counts-none r (some x) e = e y.account.readings

    abbrev Settles : Reading → Type 0
    Settles r = is_reading r ≡ true → (x : Trial) × (t ≡ some x)

    pub notes_story : (r : Reading) → Within (length y.datagram) r → Settles r → Kept r
    notes_story (says.Plaintext k n f l) within e =
        let x = e refl in
        let w = noting plaintext-kind k 0 n f l p.words s.stands.long in
        subst (λ (v : Option Trial). Story (notes p (out_as (says.Plaintext k n f l))) (z (says.Plaintext k n f l) v)) (sym x.1)
        (told_story p y s _ (z (says.Plaintext k n f l) (some x.0)) (says.Plaintext k n f l) x.0 w.spares w.holds within refl refl refl)
    notes_story (says.Unopened b n f l) within e =
        let x = e refl in
        let w = noting unopened-kind 0 b n f l p.words s.stands.long in
        subst (λ (v : Option Trial). Story (notes p (out_as (says.Unopened b n f l))) (z (says.Unopened b n f l) v)) (sym x.1)
        (told_story p y s _ (z (says.Unopened b n f l) (some x.0)) (says.Unopened b n f l) x.0 w.spares w.holds within refl refl refl)
    notes_story (says.Opened k n h f l) within e =
        let x = e refl in
        let w = noting opened-kind h k n f l p.words s.stands.long in
        subst (λ (v : Option Trial). Story (notes p (out_as (says.Opened k n h f l))) (z (says.Opened k n h f l) v)) (sym x.1)
        (told_story p y s _ (z (says.Opened k n h f l) (some x.0)) (says.Opened k n h f l) x.0 w.spares w.holds within refl refl refl)
    notes_story says.Setting within e = stays says.Setting refl refl
    notes_story says.Reply within e = stays says.Reply refl refl
    notes_story says.End within e = ends says.End refl (counts-none says.End t (λ k. refl)) refl
    notes_story says.Incomplete within e = ends says.Incomplete refl (counts-none says.Incomplete t (λ k. refl)) refl
    notes_story says.TooMany within e = ends says.TooMany refl (counts-none says.TooMany t (λ k. refl)) refl
    notes_story (says.Dropped r) within e = ends (says.Dropped r) refl (counts-none (says.Dropped r) t (λ k. refl)) refl
    notes_story (says.Mask k f) within e = asks (says.Mask k f) refl refl
    notes_story (says.Opening k n f h l) within e = asks (says.Opening k n f h l) refl refl

-- ---- the calls

module _ (masks : Masks) (sealed : ℕ → List Sealed) (i : Inbound) (h : Sound i.into) (p : Dealings) (s : Story p i.into) where
  abbrev y : Receiver
  y = i.into

  abbrev Waiting : Pending → Type 0
  Waiting x = p.account.pending ≡ some x

  -- state and account alone change
  state-quiet : (st : Receiving) (a : Account) → a.readings ≡ y.account.readings → (y.account.waits ≡ nothing → a.waits ≡ nothing) → Quiet p y s (with_state y st a)
  state-quiet st a readings waits = record {
    same = record { more = λ d m. m; only = λ d m x. m };
    readings = omega (arith, readings);
    bytes = λ x e. refl;
    idle = λ x e. waits (asks_nothing p y s x e);
  }

  -- ---- keying and removing

  key_story : (k : ℕ) (iv : List ℕ) → Story p (with_state y (key_of y.state k iv).state (keys y.account k iv))
  unfolding keys
  key_story k iv =
      quiet_story p y s _
      (state-quiet _ _ (by_test (λ (a : Account). a.readings ≡ y.account.readings) (λ t. refl) (λ t. refl))
      (λ e. by_test (λ (a : Account). a.waits ≡ nothing) (λ t. e) (λ t. e)))

  removed-quiet : (st : Receiving) (k : ℕ) (t : Option Trial) → Quiet p y s (removed_from y st k t)
  unfolding removed_from
  removed-quiet st k none = state-quiet _ _ refl (λ e. e)
  removed-quiet st k (some t) =
      by_test (Quiet p y s)
      (λ u. record { same = record { more = λ d m. m; only = λ d m x. m }; readings = omega arith; bytes = λ x e. refl; idle = λ x e. refl })
      (λ u. state-quiet _ _ refl (λ e. e))

  remove_story : (k : ℕ) → Story p (removed y k)
  unfolding removed
  remove_story k = quiet_story p y s _ (by_test (Quiet p y s) (λ t. removed-quiet _ k y.trial) (λ t. state-quiet _ _ refl (λ e. e)))

  -- ---- a datagram begun

  done-is : (d : List ℕ) → eqb (answer_number (begin_of y.state (length d)).answer) 0 ≡ eqb (begin_owed d) 0
  done-is d = ap (λ (n : ℕ). eqb n 0) (begin_told y h d)

  begun-by : (d : List ℕ) (z : Receiver) (done owes : Bool) → done ≡ owes → (owes ≡ false → Quiet p y s z)
      → (owes ≡ true → Same y z) → Story (starts p done owes) z
  unfolding choose
  begun-by d z true true e quiet same =
      left_story p y s (cleared p.words) (begins p.account) z (same refl) (clear-spares p.words s.stands.long)
      (clear-waits p.words s.stands.long) refl refl refl (omega arith)
  begun-by d z false false e quiet same = quiet_story p y s z (quiet refl)
  begun-by d z true false e quiet same = absurd (false≢true (sym e))
  begun-by d z false true e quiet same = absurd (false≢true e)

  begin_story : (d : List ℕ) → Story (listens i (begin· d) p) (begun y d)
  unfolding begun begin_owed
  begin_story d =
      by_test (λ (z : Receiver). Story (listens i (begin· d) p) z)
      (λ t.
      begun-by d _ _ _ (done-is d) (λ e. state-quiet _ _ refl (λ w. w)) (λ e. absurd (false≢true (sym (ap (λ (n : ℕ). eqb n 0) (if_true 1 0 t)) ∙ e))))
      (λ t.
      begun-by d _ _ _ (done-is d) (λ e. absurd (false≢true (sym e ∙ ap (λ (n : ℕ). eqb n 0) (if_false 1 0 t))))
      (λ e. record { more = λ x m. m; only = λ x m q. m }))

  -- ---- reading

  -- a read that shows the question again makes no reading
  comes : (w : Shown) (r : Reading) → Proper a_read w r → is_reading r ≡ true → (x : Trial) × (comes_to w y.trial (reached y sealed) ≡ some x)
  comes nothing r q e = (reached y sealed, refl)
  comes (a_mask k f) r q e = absurd (false≢true (sym (ap is_reading q) ∙ e))
  comes (an_opening k n at head body) r q e = absurd (false≢true (sym (ap is_reading q) ∙ e))

  read_story : Story (listens i read· p) (after_read y sealed)
  unfolding after_read
  read_story =
      notes_story p y s _ _ _ unused _ _ _ (read-within y.state y.datagram)
      (λ e. comes y.account.waits _ ((read-sound y h sealed).proper _ (here refl)) e)

  -- no reading without a question about a record
  opens : (o : Opening) (r : Reading) (q : Question) → UnderWay q y.state.datagram.at y.account.waits y.trial → Proper (an_open_reply o) y.account.waits r
      → is_reading r ≡ true → (x : Trial) × (y.trial ≡ some x)
  opens o r question.Nothing u f e =
      absurd (false≢true (sym (ap is_reading (subst (λ (w : Shown). Proper (an_open_reply o) w r) u.0 f)) ∙ e))
  opens o r (question.Mask a) u f e = (u.0, u.1)
  opens o r (question.Opening a n) u f e = (u.0, u.1)

  open_story : (o : Opening) → Story (listens i (open· o) p) (after_open y o)
  unfolding after_open
  open_story o =
      notes_story p y s _ _ _ (use_in y o) _ _ _ (opened-within y.state o y.datagram)
      (λ e. opens o _ y.state.datagram.question h.under ((open_sound y h o).proper _ (here refl)) e)

  -- ---- a mask, and the host's writing

  -- what is no reading makes none
  module _ (st : Receiving) (d nonce : List ℕ) (t : Option Trial) (u : Use) (q : Shown) (deed : Deed) where
    abbrev behind : Reading → Receiver
    behind r = after y (record { state = st; datagram = d; reading = r; nonce = nonce }) t u q deed

    abbrev Calm : Reading → Type 0
    Calm r = Same y (behind r) × ((behind r).account.readings ≡ y.account.readings)

    settles : (r : Reading) → is_reading r ≡ false → (behind r).tried ≡ settled_as r (shown_by r d) t y.tried → (behind r).account.readings ≡ y.account.readings → Calm r
    settles r e tried readings = (
      record {
        more = λ x m. subst (Mem x) (sym tried) (settled-more r (shown_by r d) t y.tried x m);
        only = λ x m f. settled_only r (shown_by r d) t y.tried e x (subst (Mem x) tried m) f;
      },
      readings,
    )

    none-counted : (r : Reading) (v : Option Trial) → ((k : ℕ) → readings_by r k ≡ k) → (settled_at y.account r (length y.arrived) v).readings ≡ y.account.readings
    none-counted r none e = refl
    none-counted r (some x) e = e y.account.readings

    calm : (r : Reading) → is_reading r ≡ false → Calm r
    calm (says.Plaintext k n f l) e = absurd (false≢true (sym e))
    calm (says.Unopened b n f l) e = absurd (false≢true (sym e))
    calm (says.Opened k n x f l) e = absurd (false≢true (sym e))
    calm says.Setting e = (record { more = λ x m. m; only = λ x m f. m }, refl)
    calm says.Reply e = (record { more = λ x m. m; only = λ x m f. m }, refl)
    calm (says.Mask k f) e = (record { more = λ x m. m; only = λ x m f. m }, refl)
    calm (says.Opening k n f x l) e = (record { more = λ x m. m; only = λ x m f. m }, refl)
    calm says.End e = settles says.End e refl (none-counted says.End t (λ k. refl))
    calm says.Incomplete e = settles says.Incomplete e refl (none-counted says.Incomplete t (λ k. refl))
    calm says.TooMany e = settles says.TooMany e refl (none-counted says.TooMany t (λ k. refl))
    calm (says.Dropped r) e = settles (says.Dropped r) e refl (none-counted (says.Dropped r) t (λ k. refl))

  -- with a reading that waits no question does, and the mask is refused
  mask_down : (m : List ℕ) (x : Pending) → Waiting x → (mask_of y.state m y.datagram).0.reading ≡ says.Reply
  unfolding after_mask
  mask_down m x e = subst (λ (w : Shown). Proper (a_mask_reply m) w (mask_of y.state m y.datagram).0.reading) (asks_nothing p y s x e) ((mask-sound y h m).proper _ (here refl))

  mask-quiet : (m : List ℕ) → Quiet p y s (after_mask y m)
  unfolding after_mask
  mask-quiet m =
      let r = mask_of y.state m y.datagram in
      let k = calm r.0.state r.1 r.0.nonce y.trial unused _ (a_mask_reply m) r.0.reading (mask-none y.state m y.datagram) in
      record {
        same = k.0;
        readings = omega (arith, k.1);
        bytes = λ x e. mask-writes_not y.state m y.datagram (ap refused (mask_down m x e));
        idle = λ x e. ap (λ (v : Reading). (next_account (fate_of v) y.account v (length y.arrived) y.trial (question_in v r.1)).waits) (mask_down m x e) ∙ asks_nothing p y s x e;
      }

  write_story : (b : List ℕ) → Story p (wrote y b)
  write_story b = quiet_story p y s _ (record {
    same = record { more = λ d m. m; only = λ d m x. m };
    readings = omega arith;
    bytes = λ x e. ap (λ (w : Shown). written_in w y.datagram b) (asks_nothing p y s x e);
    idle = λ x e. asks_nothing p y s x e;
  })

  -- ---- the rest of the datagram left

  left-readings : (w : Shown) → (leaves_rest y.account (length y.arrived) w).readings ≡ y.account.readings
  left-readings nothing = refl
  left-readings (a_mask k f) = refl
  left-readings (an_opening k n at head body) = refl

  finish_story : Story p (finishes y)
  finish_story =
      quiet_story p y s _
      (state-quiet _ _ (left-readings y.account.waits)
      (λ e. ap (λ (w : Shown). (leaves_rest y.account (length y.arrived) w).waits) e))

  -- ---- over bytes of another length

  stray_story : (o : Out) → o.reading ≡ says.Reply → Story (strays p o) (with_state y o.state y.account)
  stray_story o e =
      subst (λ (r : Reading). Story (record { words = noted r p.words; account = p.account; told = p.told; dealt = p.dealt; missed = p.missed }) (with_state y o.state y.account))
      (sym e) (quiet_story p y s _ (state-quiet _ _ refl (λ w. w)))

  -- ---- each of them

  pub hears_story : (c : Call) → FairCall masks sealed i c → Story (listens i c p) (does sealed i c).into
  hears_story (key· k iv) f = key_story k iv
  hears_story (remove· k) f = remove_story k
  hears_story encrypt· f = quiet_story p y s _ (state-quiet _ _ refl (λ w. w))
  hears_story release· f = quiet_story p y s _ (state-quiet _ _ refl (λ w. w))
  hears_story (begin· d) f = begin_story d
  hears_story read· f = read_story
  hears_story (mask· m) f = quiet_story p y s _ (mask-quiet m)
  hears_story (write· b) f = write_story b
  hears_story (open· o) f = open_story o
  hears_story (read_over· d) f = stray_story (read_out y.state d) (read-turned y h 0 d f).answer
  hears_story (mask_over· m d) f = quiet_story p y s _ (state-quiet _ _ refl (λ w. w))
  hears_story (open_over· o d) f = stray_story (open_out y.state o d) (open_turned y h 0 o d f).answer
  hears_story finish· f = finish_story
