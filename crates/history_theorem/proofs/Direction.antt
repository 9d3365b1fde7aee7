-- One direction: what an end hands over against what the far end sealed, and a record that is due through its questions. Assumes nothing.
use Rattle.std.specs.Prelude.{ℕ, ◌+◌, ◌-◌, ◌/◌, ◌%◌, ◌≤◌, ◌<◌, eqb, take, get_or, ◌⊎◌, ◌≡◌, Some, None}
use borrow.Author.Tests.{eqb-true, eqb-false, eq-eqb, ne_eqb, lt-leb, le-leb}
use Rattle.std.proofs.Math.ListN.{length}
use Rattle.std.proofs.Common.{length-append, length-take, inl, inr, ◌∙◌, arith}
use Rattle.std.proofs.Math.Seq.{take-append_seam}
use Rattle.std.proofs.Math.Bool.{true}
use mathlib.Core.List.Memᴰ.{head as here}
use mathlib.Core.List.Memᴰ.{tail as there}
use mathlib.Core.List.{List, [], ◌∷◌, ◌++◌, Memᴰ as Mem}
use Rattle.std.proofs.Math.Logic.{⊎_elim}
use Rattle.std.proofs.Math.Option.{Option, none, some}
use Rattle.std.proofs.Math.Path.{refl, sym, ap, subst}
use Rattle.base.specs.Choose.{if_true, if_false, by_test, test_cases, lt-or_ge}
use Rattle.base.specs.Parts.{part, part-first}
use Rattle.datagram.specs.Datagram.{is_sound, told, questioned, counted}
use Rattle.datagram.specs.Sound.{held-mask, held_open}
use Rattle.datagram.specs.declared.Ask.{Ask}
use Rattle.datagram.specs.declared.Datagram.{Datagram}
use Rattle.datagram.specs.declared.Question.TheVariants as question
use Rattle.datagram.specs.declared.Question.{Question}
use Rattle.datagram.specs.declared.Reading.TheVariants as says
use Rattle.datagram.specs.declared.Reading.{Reading}
use Rattle.datagram.specs.declared.Reason.TheVariants as reason
use Rattle.datagram.specs.declared.Reason.{Reason}
use Rattle.datagram.specs.declared.Step.{Step}
use Rattle.incoming.specs.Inner.{inner_of, inner_type, holding}
use Rattle.std.specs.declared.option.Option as code
use Rattle.incoming.specs.declared.Inner.{Inner}
use Rattle.mask_reply.specs.Mask.{unmasked, ruled}
use Rattle.opening_reply.specs.Opening.{still, typed, opened_at, opened_step, shown_by, Opening}
use Rattle.opening_reply.specs.declared.Marked.{Marked}
use Rattle.datagram.specs.Keeps.{refused}
use Rattle.receiving.specs.Calls.Call.{masking as answering, opening}
use Rattle.receiving.specs.Laws.{made-sound, refused-stays}
use Rattle.record.specs.Record.{sealed_head, tag_size, unified_header}
use Rattle.records.specs.Records.{opening_asked}
use Rattle.recv_keys.specs.Keeps.{found-epoch}
use Rattle.recv_keys.specs.Keys.{entry_at, find, marked}
use Rattle.recv_keys.specs.Laws.{found-keyed}
use Rattle.recv_keys.specs.declared.RecvKeys.{RecvKeys}
use Rattle.window.specs.Used.{above, Agrees}
use Rattle.window.proofs.Used.{tells}
use Rattle.window.specs.Window.{verdict}
use Rattle.window.specs.declared.Verdict.TheVariants as number
use Rattle.window.specs.declared.Verdict.{Verdict}
use Rattle.history_theorem.specs.Account.{upd, Shown, nothing, a_mask, an_opening}
use Rattle.history_theorem.proofs.Calls.{Leaves, as_was, no_more}
use Rattle.history_theorem.specs.Claim.{Masks, FairMask, FairOpen, as_handed, window_marks, Due, Known, IsSeen, IsOld, Tells, SaysOpened}
use Rattle.history_theorem.specs.Half.{Shape}
use Rattle.history_theorem.proofs.Lists.{upd_same, upd-by, some≢none, some_inj, option_cases, mem-by}
use Rattle.history_theorem.proofs.Reading.{same_again, is_found, mask-opening, mask-refused, open_idle, open_masked, masks-again, again-is, rest-masked, idle-quiet, opened-is, use_down}
use Rattle.history_theorem.proofs.Reached.{rest-idle, reached_to}
use Rattle.history_theorem.proofs.ReadLaws.{out_by, reads_out, masked_out}
use Rattle.history_theorem.specs.Receiver.{Sealed, Handed, Trial, Tried, Deed, a_read, a_mask_reply, an_open_reply, Receiver, written_in, wrote, Out, Fate, turnedDown, underway, settled, fate_of, handed_by, question_in, Use, unused, use_of, spent, next_trial, next_tried, next_account, spoken_by, after, rest_of, reached, read_by, read_out, after_read, mask_out, after_mask, open_out, after_open}
use Rattle.history_theorem.proofs.Sound.{UnderWay, Sound, moves-on, settled≢down, underway≢down, underway≢settled}
use Rattle.history_theorem.proofs.Undamaged.{ask_for, flag-set, read_is, sample-is, header_is, cipher-is, mask_is}

abbrev pub Shaped : Masks → (ℕ → List Sealed) → Type 0
Shaped masks sealed = (e : ℕ) (r : Sealed) → Mem r (sealed e) → Shape masks e r

abbrev pub AsSealed : (ℕ → List Sealed) → (ℕ → List Handed) → Type 0
AsSealed sealed handed = (e : ℕ) (h : Handed) → Mem h (handed e) → (r : Sealed) × Mem r (sealed e) × (h ≡ as_handed r)

-- ---- what was handed over stays so

pub handed-grows : (r : Reading) (shown : List ℕ) (f : ℕ → List Handed) (e : ℕ) (h : Handed) → Mem h (f e) → Mem h (handed_by r shown f e)
handed-grows says.Setting shown f e h m = m
handed-grows says.Reply shown f e h m = m
handed-grows says.End shown f e h m = m
handed-grows says.Incomplete shown f e h m = m
handed-grows says.TooMany shown f e h m = m
handed-grows (says.Dropped r) shown f e h m = m
handed-grows (says.Plaintext t n s l) shown f e h m = m
handed-grows (says.Unopened b n s l) shown f e h m = m
handed-grows (says.Mask k s) shown f e h m = m
handed-grows (says.Opening k n s x l) shown f e h m = m
handed-grows (says.Opened k n t s l) shown f e h m =
    upd-by f k (record { num = n; type = t; content = shown } ∷ f k) (λ e l. Mem h (f e) → Mem h l) e
    (λ same m. there (subst (λ (x : ℕ). Mem h (f x)) same m)) (λ other m. m) m

-- a reading that says opened hands over
says-handed : (r : Reading) (shown : List ℕ) (f : ℕ → List Handed) (e : ℕ) (h : Handed) → SaysOpened r shown e h → Mem h (handed_by r shown f e)
says-handed says.Setting shown f e h z = absurd z
says-handed says.Reply shown f e h z = absurd z
says-handed says.End shown f e h z = absurd z
says-handed says.Incomplete shown f e h z = absurd z
says-handed says.TooMany shown f e h z = absurd z
says-handed (says.Dropped r) shown f e h z = absurd z
says-handed (says.Plaintext t n s l) shown f e h z = absurd z
says-handed (says.Unopened b n s l) shown f e h z = absurd z
says-handed (says.Mask k s) shown f e h z = absurd z
says-handed (says.Opening k n s x l) shown f e h z = absurd z
says-handed (says.Opened k n t s l) shown f e h z =
    let new : Handed = record { num = n; type = t; content = shown } in
    subst (λ (x : ℕ). Mem h (upd f k (new ∷ f k) x)) z.0
    (subst (λ (a : List Handed). Mem h a) (sym (upd_same f k (new ∷ f k))) (here (sym z.1)))

-- ---- the record that the cut came to

-- neither seen nor too old
abbrev pub IsNew : Trial → ℕ → Sealed → Type 0
IsNew t e x = (Mem x.num (t.used e) → ⊥) × (above (t.used e) ≤ x.num + window_marks)

-- what is said in the end of a record whose number is brought back: 9, 26, or opened, and 3 after sixteen readings
pub data Ending (t : Trial) (e : ℕ) (x : Sealed) (r : Reading) (shown : List ℕ) : Type 0 where
  as_seen : IsSeen (t.used e) x.num → r ≡ says.Dropped reason.Seen → Ending t e x r shown
  as_old : IsOld (t.used e) x.num → r ≡ says.Dropped reason.TooOld → Ending t e x r shown
  as_new : IsNew t e x → (t.count ≤ 15 → SaysOpened r shown e (as_handed x)) → (15 < t.count → r ≡ says.TooMany) → Ending t e x r shown

-- so one that is due is opened, and 9 and 26 are said exactly where they should be
pub due-known : (t : Trial) (e : ℕ) (x : Sealed) → Due t e x → Known t e x
due-known t e x due = record {
  sealed-then = due.sealed-then;
  undamaged = due.undamaged;
  encryption-on = due.encryption-on;
  resolved = due.resolved;
  in_reach = due.in_reach;
  near_enough = omega (arith, due.not_old);
}

module _ (t : Trial) (e : ℕ) (x : Sealed) (r : Reading) (shown : List ℕ) where
  pub ending_opened : Due t e x → Ending t e x r shown → SaysOpened r shown e (as_handed x)
  ending_opened due (as_seen s q) = absurd (due.not_used s.0)
  ending_opened due (as_old s q) = absurd (omega (arith, due.not_old))
  ending_opened due (as_new s opened over) = opened due.among_16

  -- an opened record is not said to be dropped, nor is 3
  not_dropped : (w : Reason) → (t.count ≤ 15 → SaysOpened r shown e (as_handed x)) → (15 < t.count → r ≡ says.TooMany) → r ≡ says.Dropped w → ⊥
  not_dropped w opened over q =
      ⊎_elim (λ (l : t.count < 16). subst (λ v. SaysOpened v shown e (as_handed x)) q (opened (omega arith)))
      (λ l. many (sym (over (omega arith)) ∙ q)) (lt-or_ge t.count 16)
    where
      many : says.TooMany ≡ says.Dropped w → ⊥
      many p = let z : ◌≡◌ {A = ℕ} 0 1 = cc in omega arith

  one-reason : r ≡ says.Dropped reason.Seen → r ≡ says.Dropped reason.TooOld → ⊥
  one-reason p q = let z : ◌≡◌ {A = ℕ} 0 1 = cc in omega arith

  pub ending_told : Ending t e x r shown → Tells r (t.used e) x.num
  ending_told (as_seen s q) = ((λ p. s, λ p. q), (λ p. absurd (one-reason q p), λ p. absurd (omega (arith, s.1))))
  ending_told (as_old s q) = ((λ p. absurd (one-reason p q), λ p. absurd (omega (arith, p.1))), (λ p. s, λ p. q))
  ending_told (as_new s opened over) = (
    (λ p. absurd (not_dropped reason.Seen opened over p), λ p. absurd (s.0 p.0)),
    (λ p. absurd (not_dropped reason.TooOld opened over p), λ p. absurd (omega (arith, s.1))),
  )

pub data Ongoing (t : Trial) (e : ℕ) (x : Sealed) (b : Datagram) (d : List ℕ) (used : ℕ → List ℕ) (w : Shown) : Type 0 where
  at-mask : b.question ≡ question.Mask (ask_for e x) → part b.at (length x.wire) d ≡ x.wire → used e ≡ t.used e → w ≡ a_mask e (b.at + sealed_head)
      → Ongoing t e x b d used w
  at_open : b.question ≡ question.Opening (ask_for e x) x.num → w ≡ an_opening e x.num b.at x.header x.cipher → IsNew t e x
      → Ongoing t e x b d used w

pub record Under (sealed : ℕ → List Sealed) (t : Trial) (e : ℕ) (x : Sealed) (b : Datagram) (d : List ℕ) (used : ℕ → List ℕ) (w : Shown) : Type 0 where
  pub count : b.readings ≡ t.count
  pub mem : Mem x (sealed e)
  pub ongoing : Ongoing t e x b d used w

abbrev pub UnderIn : (ℕ → List Sealed) → Trial → ℕ → Sealed → Receiver → Type 0
UnderIn sealed t e x y = Under sealed t e x y.state.datagram y.datagram y.used y.account.waits

pub record Trials (sealed : ℕ → List Sealed) (y : Receiver) : Type 0 where
  pub under : (t : Trial) → y.trial ≡ some t → (e : ℕ) (x : Sealed) → Known t e x → UnderIn sealed t e x y
  pub says : (d : Tried) → Mem d y.tried → (e : ℕ) (x : Sealed) → Known d.trial e x → Ending d.trial e x d.reading d.shown
  pub handed : (d : Tried) → Mem d y.tried → (e : ℕ) (x : Sealed) → Due d.trial e x → Mem (as_handed x) (y.handed e)

-- more sealed records change nothing of this
module _ (f g : ℕ → List Sealed) (up : (e : ℕ) (x : Sealed) → Mem x (f e) → Mem x (g e)) where
  pub trials_grow : (y : Receiver) → Trials f y → Trials g y
  trials_grow y i = record {
    under = λ t q e x due.
        let u = i.under t q e x due in record { count = u.count; mem = up e x u.mem; ongoing = u.ongoing };
    says = i.says;
    handed = i.handed;
  }

  pub as_sealed-grows : (handed : ℕ → List Handed) → AsSealed f handed → AsSealed g handed
  as_sealed-grows handed i e h m = let r = i e h m in (r.0, up e r.0 r.1, r.2)

-- ---- calls that read nothing

pub leaves-trials : (sealed : ℕ → List Sealed) (y z : Receiver) → Leaves y z → Trials sealed y → Trials sealed z
leaves-trials sealed y z (as_was s a p q) i = record {
  under = λ t w e x due.
      subst (λ b. Under sealed t e x b y.datagram y.used a.waits) (sym p)
      (subst (λ v. Under sealed t e x y.state.datagram y.datagram y.used v) (sym q) (i.under t w e x due));
  says = i.says;
  handed = i.handed;
}
leaves-trials sealed y z (no_more v n h t) i = record {
  under = λ a w. some≢none (sym w ∙ n);
  says = λ d m. i.says d (subst (λ l. Mem d l) t m);
  handed = λ d m e x due. subst (λ f. Mem (as_handed x) (f e)) (sym h) (i.handed d (subst (λ l. Mem d l) t m) e x due);
}

pub leaves-handed : {y z : Receiver} → Leaves y z → z.handed ≡ y.handed
leaves-handed (as_was s a p q) = refl
leaves-handed (no_more v n h t) = h

-- the host writes only where an opening is asked, and then the datagram's bytes no longer matter
pub write_trials : (sealed : ℕ → List Sealed) (y : Receiver) → Trials sealed y → (p : List ℕ) → Trials sealed (wrote y p)
write_trials sealed y i p = record {
  under = λ t q e x due.
      let u : UnderIn sealed t e x y = i.under t q e x due in record { count = u.count; mem = u.mem; ongoing = go t e x u.ongoing };
  says = i.says;
  handed = i.handed;
}
  where
    go : (t : Trial) (e : ℕ) (x : Sealed) → Ongoing t e x y.state.datagram y.datagram y.used y.account.waits
        → Ongoing t e x y.state.datagram (written_in y.account.waits y.datagram p) y.used y.account.waits
    go t e x (at-mask z same n w) =
        at-mask z (subst (λ v. part y.state.datagram.at (length x.wire) (written_in v y.datagram p) ≡ x.wire) (sym w) same) n w
    go t e x (at_open z w n) = at_open z w n

-- ---- a reading call, by its fate

module _ (sealed : ℕ → List Sealed) (y : Receiver) (o : Out) (t : Option Trial) (u : Use) (w : Shown) (deed : Deed) (i : Trials sealed y)
    (still-so : fate_of o.reading ≡ turnedDown → (o.state ≡ y.state) × (o.datagram ≡ y.datagram) × (spent u y.used ≡ y.used))
    (next : fate_of o.reading ≡ underway → (a : Trial) → t ≡ some a → (e : ℕ) (x : Sealed) → Known a e x
    → Under sealed a e x o.state.datagram o.datagram (spent u y.used) w)
    (last : fate_of o.reading ≡ settled → (a : Trial) → t ≡ some a → (e : ℕ) (x : Sealed) → Known a e x
    → Ending a e x o.reading (shown_by o.reading o.datagram)) where
  shown : List ℕ
  shown = shown_by o.reading o.datagram

  grows : (e : ℕ) (h : Handed) → Mem h (y.handed e) → Mem h (handed_by o.reading (shown_by o.reading o.datagram) y.handed e)
  grows e h m = handed-grows o.reading (shown_by o.reading o.datagram) y.handed e h m

  fate-trials : (f : Fate) → fate_of o.reading ≡ f → Trials sealed (record {
    state = o.state;
    datagram = o.datagram;
    arrived = y.arrived;
    account = next_account f y.account o.reading (length y.arrived) t w;
    used = spent u y.used;
    handed = handed_by o.reading (shown_by o.reading o.datagram) y.handed;
    trial = next_trial f y.trial t;
    tried = next_tried f o.reading (shown_by o.reading o.datagram) t y.tried;
    spoken = spoken_by y deed o ∷ y.spoken;
    lost = y.lost;
  })
  fate-trials turnedDown q = record {
    under = λ a z e x due.
        let s = still-so q in
        subst (λ v. Under sealed a e x v.datagram o.datagram (spent u y.used) y.account.waits) (sym s.0)
        (subst (λ v. Under sealed a e x y.state.datagram v (spent u y.used) y.account.waits) (sym s.1)
        (subst (λ v. Under sealed a e x y.state.datagram y.datagram v y.account.waits) (sym s.2) (i.under a z e x due)));
    says = i.says;
    handed = λ d m e x due. grows e (as_handed x) (i.handed d m e x due);
  }
  fate-trials underway q = record {
    under = λ a z e x due. next q a z e x due;
    says = i.says;
    handed = λ d m e x due. grows e (as_handed x) (i.handed d m e x due);
  }
  fate-trials settled q = record {
    under = λ a z. some≢none (sym z);
    says = λ d m e x due.
        option_cases t (λ z. i.says d (settled-none z d m) e x due)
        (λ a z. mem-by (settled-some a z d m)
        (λ (p : d ≡ record { trial = a; reading = o.reading; shown = shown_by o.reading o.datagram }).
        subst (λ v. Ending v.trial e x v.reading v.shown) (sym p) (last q a z e x (subst (λ v. Known v.trial e x) p due)))
        (λ m'. i.says d m' e x due));
    handed = λ d m e x due.
        option_cases t (λ z. grows e (as_handed x) (i.handed d (settled-none z d m) e x due))
        (λ a z. mem-by (settled-some a z d m)
        (λ (p : d ≡ record { trial = a; reading = o.reading; shown = shown_by o.reading o.datagram }).
        let due' : Due a e x = subst (λ v. Due v.trial e x) p due in
        says-handed o.reading (shown_by o.reading o.datagram) y.handed e (as_handed x)
        (ending_opened a e x o.reading (shown_by o.reading o.datagram) due' (last q a z e x (due-known a e x due'))))
        (λ m'. grows e (as_handed x) (i.handed d m' e x due)));
  }
    where
      settled-none : t ≡ none → (d : Tried) → Mem d (next_tried settled o.reading (shown_by o.reading o.datagram) t y.tried) → Mem d y.tried
      settled-none z d m = subst (λ v. Mem d (next_tried settled o.reading (shown_by o.reading o.datagram) v y.tried)) z m

      settled-some : (a : Trial) → t ≡ some a → (d : Tried) → Mem d (next_tried settled o.reading (shown_by o.reading o.datagram) t y.tried)
          → Mem d (record { trial = a; reading = o.reading; shown = shown_by o.reading o.datagram } ∷ y.tried)
      settled-some a z d m = subst (λ v. Mem d (next_tried settled o.reading (shown_by o.reading o.datagram) v y.tried)) z m

  pub after-trials : Trials sealed (after y o t u w deed)
  after-trials = fate-trials (fate_of o.reading) refl

-- ---- refused means unchanged

down_refused : (r : Reading) → fate_of r ≡ turnedDown → refused r ≡ true
down_refused says.Setting e = refl
down_refused says.Reply e = refl
down_refused says.End e = settled≢down e
down_refused says.Incomplete e = settled≢down e
down_refused says.TooMany e = settled≢down e
down_refused (says.Dropped r) e = settled≢down e
down_refused (says.Plaintext t n s l) e = settled≢down e
down_refused (says.Unopened b n s l) e = settled≢down e
down_refused (says.Mask k s) e = underway≢down e
down_refused (says.Opening k n s x l) e = underway≢down e
down_refused (says.Opened k n t s l) e = settled≢down e

-- what says opened is settled
says-settled : (shown : List ℕ) (e : ℕ) (h : Handed) (r : Reading) → SaysOpened r shown e h → fate_of r ≡ settled
says-settled w e h says.Setting z = absurd z
says-settled w e h says.Reply z = absurd z
says-settled w e h says.End z = absurd z
says-settled w e h says.Incomplete z = absurd z
says-settled w e h says.TooMany z = absurd z
says-settled w e h (says.Dropped r) z = absurd z
says-settled w e h (says.Plaintext t n s l) z = absurd z
says-settled w e h (says.Unopened b n s l) z = absurd z
says-settled w e h (says.Mask k s) z = absurd z
says-settled w e h (says.Opening k n s x l) z = absurd z
says-settled w e h (says.Opened k n t s l) z = refl

down≢ : {A : Type 0} → turnedDown ≡ underway → A
down≢ e = underway≢down (sym e)

down≢settled : {A : Type 0} → turnedDown ≡ settled → A
down≢settled e = settled≢down (sym e)

module _ (masks : Masks) (sealed : ℕ → List Sealed) (shaped : Shaped masks sealed) (y : Receiver) (i : Sound y) where
  abbrev k : RecvKeys
  k = y.state.keys

  abbrev b : Datagram
  b = y.state.datagram

  abbrev d : List ℕ
  d = y.datagram

  in-range : is_sound k b ≡ true
  in-range = made-sound y.state i.made

  -- ---- a read

  abbrev asks_mask : ℕ → Sealed → Out
  asks_mask e x = reads_out k (told (questioned b (question.Mask (ask_for e x))) (says.Mask e (b.at + sealed_head))) d

  -- the cut that comes to a record whose number can be brought back asks for its mask
  known-asks : b.question ≡ question.Nothing → (e : ℕ) (x : Sealed) → Known (reached y sealed) e x
      → (part b.at (length x.wire) d ≡ x.wire) × (read_out y.state d ≡ asks_mask e x)
  known-asks q e x due =
      let lie : part b.at (length x.wire) d ≡ x.wire =
      ap (take (length x.wire)) (sym (rest-idle y i q)) ∙ due.undamaged in (
        lie,
        ap (λ (t : Step). reads_out k t d)
            (read_is masks e x (shaped e x due.sealed-then) k b d in-range i.whole lie (sym (reached_to y i sealed q) ∙ due.resolved) q
            (sym i.tally.encryption ∙ due.encryption-on)),
      )

  idle-trials : Trials sealed y → b.question ≡ question.Nothing → Trials sealed (read_by y sealed nothing (read_out y.state d))
  idle-trials j q =
      let o = read_out y.state d in
      after-trials sealed y o (some (reached y sealed)) unused (question_in o.reading o.datagram) a_read j
      (λ f. absurd (moves-on (idle-quiet y i sealed q).moves f))
      (λ f a p e x due.
      subst (λ v. Known v e x → Under sealed v e x o.state.datagram o.datagram y.used (question_in o.reading o.datagram)) (some_inj p)
      (λ due.
      let z = known-asks q e x due in
      subst (λ v. Under sealed (reached y sealed) e x v.state.datagram v.datagram y.used (question_in v.reading v.datagram)) (sym z.1)
      (record {
        count = sym i.tally.readings;
        mem = due.sealed-then;
        ongoing = at-mask refl z.0 refl refl;
      })) due)
      (λ f a p e x due.
      let z = known-asks q e x (subst (λ v. Known v e x) (sym (some_inj p)) due) in
      underway≢settled (sym (ap (λ (v : Out). fate_of v.reading) z.1) ∙ f))

  again-trials : Trials sealed y → (r : Reading) (v : List ℕ) (w : Shown) → fate_of r ≡ underway → w ≡ y.account.waits
      → Trials sealed (after y (same_again y r v) y.trial unused w a_read)
  again-trials j r v w f q =
      after-trials sealed y (same_again y r v) y.trial unused w a_read j (λ g. underway≢down (sym f ∙ g))
      (λ g a p e x due. subst (λ u. Under sealed a e x b d y.used u) (sym q) (j.under a p e x due)) (λ g. underway≢settled (sym f ∙ g))

  reads : Trials sealed y → (q : Question) → b.question ≡ q → UnderWay q b.at y.account.waits y.trial
      → Trials sealed (read_by y sealed y.account.waits (read_out y.state d))
  reads j question.Nothing q z =
      subst (λ w. Trials sealed (read_by y sealed w (read_out y.state d))) (sym z.0) (idle-trials j q)
  reads j (question.Mask a) q z =
      subst (λ w. Trials sealed (read_by y sealed w (read_out y.state d))) (sym z.2.0)
      (subst (λ o. Trials sealed (read_by y sealed (a_mask a.epoch (b.at + a.header_len)) o)) (sym (masks-again y i a q))
      (again-trials j _ _ (a_mask a.epoch (b.at + a.header_len)) refl (sym z.2.0)))
  reads j (question.Opening a n) q z =
      let u = z.2 in
      is_found k a.epoch _ refl (held_open k b in-range a n q).1.installed λ h f.
      subst (λ w. Trials sealed (read_by y sealed w (read_out y.state d))) (sym u.2)
      (subst (λ o. Trials sealed (read_by y sealed (an_opening a.epoch n b.at u.0 u.1) o)) (sym (again-is y i a n h q f))
      (again-trials j _ _ (an_opening a.epoch n b.at u.0 u.1) refl (sym u.2)))

  pub read-trials : Trials sealed y → Trials sealed (after_read y sealed)
  unfolding after_read
  read-trials j = reads j b.question refl i.under

  -- ---- a mask reply

  -- what a reply comes to for the record under way: refused, a question that leaves it under way, or its end
  data Next (a : Trial) (e : ℕ) (x : Sealed) (o : Out) : Type 0 where
    refused_so : fate_of o.reading ≡ turnedDown → Next a e x o
    goes_on : fate_of o.reading ≡ underway → Under sealed a e x o.state.datagram o.datagram y.used (question_in o.reading o.datagram) → Next a e x o
    ends : fate_of o.reading ≡ settled → Ending a e x o.reading (shown_by o.reading o.datagram) → Next a e x o

  next_under : {a : Trial} {e : ℕ} {x : Sealed} {o : Out} → Next a e x o → fate_of o.reading ≡ underway
      → Under sealed a e x o.state.datagram o.datagram y.used (question_in o.reading o.datagram)
  next_under (refused_so f) g = down≢ (sym f ∙ g)
  next_under (goes_on f u) g = u
  next_under (ends f z) g = underway≢settled (sym g ∙ f)

  next-ends : {a : Trial} {e : ℕ} {x : Sealed} {o : Out} → Next a e x o → fate_of o.reading ≡ settled
      → Ending a e x o.reading (shown_by o.reading o.datagram)
  next-ends (refused_so f) g = down≢settled (sym f ∙ g)
  next-ends (goes_on f u) g = underway≢settled (sym f ∙ g)
  next-ends (ends f z) g = z

  -- the record ruled on by the window's verdict on its number
  ruled-next : (a : Trial) (e : ℕ) (x : Sealed) (u : UnderIn sealed a e x y) (m : List ℕ) (h : ℕ) → Agrees (entry_at k h).replay (a.used e)
      → part b.at sealed_head (unmasked d b.at true m) ≡ x.header
      → part (b.at + sealed_head) (length x.cipher) (unmasked d b.at true m) ≡ x.cipher
      → (v : Verdict) → verdict (entry_at k h).replay x.num ≡ v
      → Next a e x (masked_out k (ruled v (entry_at k h) b (ask_for e x) x.num, unmasked d b.at true m))
  ruled-next a e x u m h agrees p r number.Fresh is = unfold opening_asked in (
      goes_on refl (record {
        count = u.count;
        mem = u.mem;
        ongoing = at_open refl
            (ap (λ (l : List ℕ). an_opening e x.num b.at l (part (b.at + sealed_head) (length x.cipher) (unmasked d b.at true m))) p
            ∙ ap (an_opening e x.num b.at x.header) r)
            ((tells agrees x.num number.Fresh).0 is);
      }))
  ruled-next a e x u m h agrees p r number.Seen is = ends refl (as_seen ((tells agrees x.num number.Seen).0 is) refl)
  ruled-next a e x u m h agrees p r number.TooOld is = ends refl (as_old ((tells agrees x.num number.TooOld).0 is) refl)

  mask-known : (m : List ℕ) → FairMask masks y.account.waits d (get_or (rest_of y) 0 0) m → (a : Trial) (e : ℕ) (x : Sealed) → Known a e x
      → UnderIn sealed a e x y → Next a e x (mask_out y.state m d)
  mask-known m fair a e x known u = go u.ongoing
    where
      shape : Shape masks e x
      shape = shaped e x u.mem

      go : Ongoing a e x b d y.used y.account.waits → Next a e x (mask_out y.state m d)
      go (at_open q w n) =
          refused_so (ap (λ (p : Step × List ℕ). fate_of p.0.reading) (mask-opening y i m (ask_for e x) x.num q))
      go (at-mask q same z w) =
          is_found k e _ refl (held-mask k b in-range (ask_for e x) q).installed λ h f.
          let fair' : FairMask masks (a_mask e (b.at + sealed_head)) d (get_or (rest_of y) 0 0) m =
          subst (λ v. FairMask masks v d (get_or (rest_of y) 0 0) m) w fair in
          let sample : masks e (part (b.at + sealed_head) 16 d) ≡ masks e (take 16 x.cipher) =
          ap (masks e) (sample-is masks e x shape k b d in-range i.whole same) in
          let flag : get_or (rest_of y) 0 0 / 8 % 2 ≡ 1 =
          ap (λ (l : List ℕ). get_or l 0 0 / 8 % 2) (rest-masked y i (ask_for e x) q) ∙ flag-set masks e x shape k b d in-range i.whole same in
          let one = fair'.0 ∙ ap (λ (l : List ℕ). get_or l 0 0) sample in
          let two = fair'.1 flag ∙ ap (λ (l : List ℕ). get_or l 1 0) sample in
          let agrees : Agrees (entry_at k h).replay (a.used e) =
          subst (λ l. Agrees (entry_at k h).replay l) (ap y.used (found-epoch k.entries e k.count h f) ∙ z)
          (i.table.agrees h (found-keyed k.entries e k.count h f)) in
          subst (λ p. Next a e x (masked_out k p))
          (sym (mask_is masks e x shape k b d in-range i.whole same m one two h q f (a.used e) agrees known.near_enough known.in_reach _ refl))
          (ruled-next a e x u m h agrees (header_is masks e x shape k b d in-range i.whole same m one two) (cipher-is masks e x shape k b d in-range i.whole same m one two) _ refl)

  pub mask-trials : Trials sealed y → (m : List ℕ) → FairMask masks y.account.waits d (get_or (rest_of y) 0 0) m → Trials sealed (after_mask y m)
  unfolding after_mask
  mask-trials j m fair =
      let o = mask_out y.state m d in
      after-trials sealed y o y.trial unused (question_in o.reading o.datagram) (a_mask_reply m) j
      (λ f. (
        refused-stays (answering m d) y.state (down_refused o.reading f),
        mask-refused y i m f,
        refl,
      ))
      (λ f a p e x known. next_under (mask-known m fair a e x known (j.under a p e x known)) f)
      (λ f a p e x known. next-ends (mask-known m fair a e x known (j.under a p e x known)) f)

  -- ---- an opening reply

  abbrev opens_to : Marked → Out
  opens_to x = out_by x.keys x.step d

  -- a yes of another length
  open_wrong : (a : Ask) (n len h : ℕ) → b.question ≡ question.Opening a n → find k.entries a.epoch k.count ≡ Some h
      → (len + tag_size ≡ a.length → ⊥) → opened_step k b (Some len) d ≡ still k (told b says.Reply)
  unfolding opened_at
  open_wrong a n len h q f ne =
      opened-is y i a n q (subst (λ v. UnderWay v b.at y.account.waits y.trial) q i.under) (Some len) h f
      ∙ if_false _ _ (ne_eqb len (a.length - tag_size) (λ z. ne (omega (arith, (held_open k b in-range a n q).1.tag))))

  -- a yes of the right length, over a plaintext that was sealed
  open_right : (a : Ask) (n len h : ℕ) → b.question ≡ question.Opening a n → find k.entries a.epoch k.count ≡ Some h
      → len + tag_size ≡ a.length → (c : List ℕ) (t : ℕ) → part (b.at + a.header_len) len d ≡ c ++ (t ∷ []) → (t ≡ 0 → ⊥)
      → opened_step k b (Some len) d ≡ still (marked k h n) (typed b a n (holding t (length c)))
  unfolding opened_at
  open_right a n len h q f right c t plain Typed-Byte =
      opened-is y i a n q (subst (λ v. UnderWay v b.at y.account.waits y.trial) q i.under) (Some len) h f
      ∙ if_true _ _ (eq-eqb len (a.length - tag_size) (omega arith))
      ∙ ap (λ (v : code.Option Inner). still (marked k h n) (typed b a n v)) (ap inner_of plain ∙ inner_type c t Typed-Byte)

  -- the content that is then shown
  content-is : (at len : ℕ) (c : List ℕ) (t : ℕ) → part at len d ≡ c ++ (t ∷ []) → part at (length c) d ≡ c
  content-is at len c t plain =
      sym (part-first at (length c) len d (omega (arith, fits))) ∙ ap (take (length c)) plain ∙ take-append_seam c (t ∷ [])
    where
      fits : length c + 1 ≤ len
      fits = omega (arith, simp length-append at (ap length plain), short)
        where
          short : length (part at len d) ≤ len
          short = simp length-take (omega arith)

  -- ---- what is handed over was sealed so

  abbrev Kept : Out → Type 0
  Kept o = AsSealed sealed (handed_by o.reading (shown_by o.reading o.datagram) y.handed)

  handed-more : AsSealed sealed y.handed → (e : ℕ) (r : Sealed) → Mem r (sealed e) → (h : Handed) → h ≡ as_handed r
      → AsSealed sealed (upd y.handed e (h ∷ y.handed e))
  handed-more j e r m new is n x =
      upd-by y.handed e (new ∷ y.handed e) (λ n l. Mem x l → (r : Sealed) × Mem r (sealed n) × (x ≡ as_handed r)) n
      (λ same o.
      mem-by o (λ (p : x ≡ new). (r, subst (λ (v : ℕ). Mem r (sealed v)) (sym same) m, p ∙ is))
      (λ o'. subst (λ (v : ℕ). (r : Sealed) × Mem r (sealed v) × (x ≡ as_handed r)) (sym same) (j e x o')))
      (λ other o. j n x o)

  typed-sealed : AsSealed sealed y.handed → (l : RecvKeys) (a : Ask) (n : ℕ) (r : Sealed) → Mem r (sealed a.epoch) → r.num ≡ n
      → part (b.at + a.header_len) (length r.content) d ≡ r.content
      → Kept (out_by l (typed b a n (holding r.type (length r.content))) d)
  unfolding typed counted
  typed-sealed j l a n r m num c =
      by_test (λ (t : Step). AsSealed sealed (handed_by t.reading (shown_by t.reading d) y.handed)) (λ f. j)
      (λ f. handed-more j a.epoch r m (record { num = n; type = r.type; content = part (b.at + a.header_len) (length r.content) d })
      (ap (λ (x : ℕ). record { num = x; type = r.type; content = part (b.at + a.header_len) (length r.content) d }) (sym num)
      ∙ ap (λ (x : List ℕ). record { num = r.num; type = r.type; content = x }) c))

  module _ (j : AsSealed sealed y.handed) where
    open-by : (p : Opening) (a : Ask) (n : ℕ) → b.question ≡ question.Opening a n
        → (z : UnderWay (question.Opening a n) b.at y.account.waits y.trial) → FairOpen sealed y.account.waits d p
        → (h : ℕ) → find k.entries a.epoch k.count ≡ Some h → Kept (open_out y.state p d)
    open-by None a n q z fair h f =
        subst (λ x. Kept (opens_to x)) (sym (opened-is y i a n q z None h f)) (unfold opened_at in j)
    open-by (Some len) a n q z fair h f =
        let u = z.2 in
        test_cases (eqb (len + tag_size) a.length)
        (λ t.
        let right : len + tag_size ≡ a.length = eqb-true _ _ t in
        let fair' : FairOpen sealed (an_opening a.epoch n b.at u.0 u.1) d (Some len) =
        subst (λ w. FairOpen sealed w d (Some len)) u.2 fair in
        let g = (fair' (right ∙ sym u.4) (part (b.at + length u.0) len d)).0 refl in
        let r = g.0 in
        let plain : part (b.at + a.header_len) len d ≡ r.content ++ (r.type ∷ []) =
        ap (λ (v : ℕ). part (b.at + v) len d) (sym u.3) ∙ g.2.plaintext in
        subst (λ x. Kept (opens_to x)) (sym (open_right a n len h q f right r.content r.type plain (shaped a.epoch r g.1).typed))
        (typed-sealed j (marked k h n) a n r g.1 g.2.number (content-is (b.at + a.header_len) len r.content r.type plain)))
        (λ t. subst (λ x. Kept (opens_to x)) (sym (open_wrong a n len h q f (eqb-false _ _ t))) j)

    opens-sealed : (p : Opening) (q : Question) → b.question ≡ q → UnderWay q b.at y.account.waits y.trial
        → FairOpen sealed y.account.waits d p → Kept (open_out y.state p d)
    opens-sealed p question.Nothing q z fair = subst (λ x. Kept (opens_to x)) (sym (open_idle y i p q)) j
    opens-sealed p (question.Mask a) q z fair = subst (λ x. Kept (opens_to x)) (sym (open_masked y i p a q)) j
    opens-sealed p (question.Opening a n) q z fair =
        is_found k a.epoch _ refl (held_open k b in-range a n q).1.installed (λ h f. open-by p a n q z fair h f)

    pub open_sealed : (p : Opening) → FairOpen sealed y.account.waits d p → AsSealed sealed (after_open y p).handed
    unfolding after_open
    open_sealed p fair = opens-sealed p b.question refl i.under fair

  -- ---- a record that is due is handed over

  typed-opened : (l : RecvKeys) (a : Ask) (n : ℕ) (c : List ℕ) (t : ℕ) → b.readings ≤ 15 → part (b.at + a.header_len) (length c) d ≡ c
      → let o = out_by l (typed b a n (holding t (length c))) d in
      SaysOpened o.reading (shown_by o.reading o.datagram) a.epoch (record { num = n; type = t; content = c })
  unfolding typed counted
  typed-opened l a n c t low shown =
      subst (λ (s : Step). SaysOpened s.reading (shown_by s.reading d) a.epoch (record { num = n; type = t; content = c }))
      (sym (if_false _ _ (lt-leb 16 b.readings (omega arith)))) (refl, ap (λ (x : List ℕ). record { num = n; type = t; content = x }) shown)

  typed-over : (l : RecvKeys) (a : Ask) (n t len : ℕ) → 15 < b.readings → (out_by l (typed b a n (holding t len)) d).reading ≡ says.TooMany
  unfolding typed counted
  typed-over l a n t len high = ap (λ (s : Step). s.reading) (if_true _ _ (le-leb 16 b.readings (omega arith)))

  typed-fate : (l : RecvKeys) (a : Ask) (n : ℕ) (v : code.Option Inner) → fate_of (out_by l (typed b a n v) d).reading ≡ settled
  unfolding typed counted
  typed-fate l a n None = refl
  typed-fate l a n (Some held) = by_test (λ (s : Step). fate_of s.reading ≡ settled) (λ f. refl) (λ f. refl)

  abbrev Last : Trial → ℕ → Sealed → Out → Type 0
  Last a e x o =
      (fate_of o.reading ≡ turnedDown) ⊎ ((fate_of o.reading ≡ settled) × Ending a e x o.reading (shown_by o.reading o.datagram))

  open_known : (p : Opening) → FairOpen sealed y.account.waits d p → (a : Trial) (e : ℕ) (x : Sealed) → UnderIn sealed a e x y
      → Last a e x (open_out y.state p d)
  open_known p fair a e x u = go u.ongoing
    where
      inside : List ℕ
      inside = x.content ++ (x.type ∷ [])

      five : length x.header ≡ sealed_head
      five = ap length (shaped e x u.mem).header ∙ (unfold unified_header in refl)

      low : a.count ≤ 15 → b.readings ≤ 15
      low h = omega (arith, u.count)

      high : 15 < a.count → 15 < b.readings
      high h = omega (arith, u.count)

      by : (p : Opening) → b.question ≡ question.Opening (ask_for e x) x.num → IsNew a e x
          → FairOpen sealed (an_opening e x.num b.at x.header x.cipher) d p → Last a e x (open_out y.state p d)
      by None q new fair =
          some≢none (sym ((fair tt inside).1 (x, u.mem, record { number = refl; header = refl; cipher = refl; plaintext = refl })))
      by (Some len) q new fair =
          is_found k e _ refl (held_open k b in-range (ask_for e x) x.num q).1.installed λ h f.
          test_cases (eqb (len + tag_size) (length x.cipher))
          (λ t.
          let right : len + tag_size ≡ length x.cipher = eqb-true _ _ t in
          let plain : part (b.at + sealed_head) len d ≡ inside =
          ap (λ (n : ℕ). part (b.at + n) len d) (sym five)
          ∙ some_inj ((fair right inside).1 (x, u.mem, record { number = refl; header = refl; cipher = refl; plaintext = refl })) in
          subst (λ m. Last a e x (opens_to m))
          (sym (open_right (ask_for e x) x.num len h q f right x.content x.type plain (shaped e x u.mem).typed))
          (inr (
            typed-fate (marked k h x.num) (ask_for e x) x.num (holding x.type (length x.content)),
            as_new new
                (λ l. typed-opened (marked k h x.num) (ask_for e x) x.num x.content x.type (low l) (content-is (b.at + sealed_head) len x.content x.type plain))
                (λ l. typed-over (marked k h x.num) (ask_for e x) x.num x.type (length x.content) (high l)),
          )))
          (λ t. inl (ap (λ (m : Marked). fate_of m.step.reading) (open_wrong (ask_for e x) x.num len h q f (eqb-false _ _ t))))

      go : Ongoing a e x b d y.used y.account.waits → Last a e x (open_out y.state p d)
      go (at-mask q same z w) = inl (ap (λ (m : Marked). fate_of m.step.reading) (open_masked y i p (ask_for e x) q))
      go (at_open q w new) = by p q new (subst (λ v. FairOpen sealed v d p) w fair)

  pub open_trials : Trials sealed y → (p : Opening) → FairOpen sealed y.account.waits d p → Trials sealed (after_open y p)
  unfolding after_open
  open_trials j p fair =
      let o = open_out y.state p d in
      after-trials sealed y o y.trial (use_of y.account.waits p (fate_of o.reading)) (question_in o.reading o.datagram) (an_open_reply p) j
      (λ f. (
        refused-stays (opening p d) y.state (down_refused o.reading f),
        refl,
        ap (λ (g : Fate). spent (use_of y.account.waits p g) y.used) f ∙ ap (λ (u : Use). spent u y.used) (use_down y.account.waits p),
      ))
      (λ f a q e x known. ⊎_elim (λ z. down≢ (sym z ∙ f)) (λ z. underway≢settled (sym f ∙ z.0)) (open_known p fair a e x (j.under a q e x known)))
      (λ f a q e x known. ⊎_elim (λ z. down≢settled (sym z ∙ f)) (λ z. z.1) (open_known p fair a e x (j.under a q e x known)))
