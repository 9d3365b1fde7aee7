-- A read, a mask reply and an opening reply keep what holds between state, account and history. Assumes nothing.
use Rattle.std.specs.Prelude.{ℕ, ◌+◌, ◌-◌, ◌/◌, ◌%◌, ◌≤◌, eqb, length, get_or, drop, Bool, false, ◌≡◌, Some, None}
use borrow.Author.Tests.{eqb-true, eqb-false}
use Rattle.std.proofs.Math.Bool.{true}
use Rattle.std.proofs.Common.{sym, ◌∙◌, arith}
use Rattle.std.proofs.lemmas.Bool.{false≢true}
use mathlib.Core.List.{List}
use Rattle.std.proofs.Math.Option.{Option, none, some}
use Rattle.std.proofs.Math.Path.{refl, ap, subst}
use Rattle.base.specs.Choose.{if_true, if_false, test_cases}
use Rattle.base.specs.Parts.{part}
use Rattle.datagram.specs.Datagram.{zeros, told, questioned, passed, end_asked}
use Rattle.datagram.specs.Sound.{Held, held-mask, held_open}
use Rattle.datagram.specs.declared.Ask.{Ask}
use Rattle.datagram.specs.declared.Datagram.{Datagram}
use Rattle.datagram.specs.declared.Question.TheVariants as question
use Rattle.datagram.specs.declared.Question.{Question}
use Rattle.datagram.specs.declared.Reading.TheVariants as says
use Rattle.datagram.specs.declared.Reading.{Reading}
use Rattle.datagram.specs.declared.Reason.TheVariants as reason
use Rattle.datagram.specs.declared.Step.{Step}
use Rattle.dtls_aead.specs.Nonce.{nonce_of}
use Rattle.incoming.specs.Inner.{inner_of}
use Rattle.mask_reply.proofs.Leads.{by-judged, mask-asks}
use Rattle.mask_reply.specs.Mask.{unmasked, judged, masked_at, masked_by, masking, mask_step}
use Rattle.opening_reply.proofs.Leads.{opened-asks}
use Rattle.opening_reply.specs.Opening.{still, typed, opened_at, opened_by, openings, opened_step, shown_by, Opening}
use Rattle.opening_reply.specs.declared.Marked.{Marked}
use Rattle.receiving.specs.Calls.Call.{masking as answering, opening}
use Rattle.receiving.specs.Laws.{Made, after-made}
use Rattle.record.specs.Record.{tag_size, parsed}
use Rattle.records.proofs.Leads.{read-asks}
use Rattle.records.specs.Records.{step_of, opening_asked, asked_again, asking}
use Rattle.recv_keys.specs.Keeps.{found-epoch}
use Rattle.recv_keys.specs.Keys.{entry_at, find, was_found, is_keyed, marked, Found}
use Rattle.recv_keys.specs.Laws.{found-keyed, window-at}
use Rattle.recv_keys.specs.declared.RecvEpochEntry.{RecvEpochEntry}
use Rattle.recv_keys.specs.declared.RecvKeys.{RecvKeys}
use Rattle.sequence.specs.Laws.{Nearest}
use Rattle.window.specs.Used.{above, Agrees}
use Rattle.window.proofs.Used.{expects}
use Rattle.window.specs.Window.{verdict}
use Rattle.window.specs.declared.Verdict.TheVariants.{Fresh}
use Rattle.history_theorem.specs.Account.{Shown, nothing, a_mask, an_opening, record_size, good_plain}
use Rattle.history_theorem.specs.Claim.{Shows, There, Ends, Proper, RightNonce, NumberByte, Spares, Rules, TellsNeither, bits_under, block_in, Judged}
use Rattle.history_theorem.proofs.Judging.{is_ruled, neither, read_unruled, typed_unruled, judged-told, stands_for}
use Rattle.history_theorem.proofs.Cut.{cut, finds, nonce-own}
use Rattle.history_theorem.proofs.Lists.{drops_on}
use Rattle.history_theorem.proofs.Opening.{Settles, typed-settles, typed-hands, yes_keys, yes_table, yes_new}
use Rattle.history_theorem.proofs.ReadLaws.{out_by, reads_out, masked_out, Quiet, passed-quiet, read-quiet, read-flag, read-shows, read-stops, plain-says, unopened-says, masked-long, masked-behind, masked-other, mask-quiet}
use Rattle.history_theorem.specs.Receiver.{Sealed, Trial, Deed, a_read, a_mask_reply, an_open_reply, Receiver, Out, Fate, turnedDown, underway, settled, fate_of, handed_by, question_in, Use, unused, uses, use_by, use_of, spent, resolved_in, spoken_by, after, rest_of, reached, read_by, read_out, after_read, mask_by, mask_out, after_mask, open_by, open_out, after_open}
use Rattle.history_theorem.proofs.Sound.{UnderWay, FreshAsked, Hands, intact_from, FlagAsked, Intact, Said, Sound, Moves, moves-on, same_keys, more-proper, more-nonces, more-spared, more-judged, none_written, step-intact, settle_intact, step-sound}
use Rattle.history_theorem.proofs.Table.{Table}
use Rattle.history_theorem.proofs.Reached.{in-range, rest_from, rest-idle, reached_to, read_made, mask-idle}

-- ---- a call that is refused, and a question asked again

abbrev pub refusal : Receiver → Out
refusal y = record { state = y.state; datagram = y.datagram; reading = says.Reply; nonce = zeros }

pub down_sound : (y : Receiver) → Sound y → (t : Option Trial) (w : Shown) (deed : Deed) → Proper deed y.account.waits says.Reply
    → Judged deed y.account.waits (resolved_in y.trial) (rest_of y) y.used says.Reply
    → Sound (after y (refusal y) t unused w deed)
down_sound y i t w deed p j = record {
  made = i.made;
  table = i.table;
  asked = i.asked;
  hands = i.hands;
  tally = i.tally;
  whole = i.whole;
  intact = i.intact;
  under = i.under;
  proper = more-proper y i deed (refusal y) p;
  nonces = more-nonces y i deed (refusal y) tt;
  spared = more-spared y i deed (refusal y) (none_written y deed (refusal y) refl);
  judged = more-judged y i deed (refusal y) j;
  lost = i.lost;
  real = i.real;
  shows = i.shows;
  said = i.said;
  later = i.later;
  stops = i.stops;
  waits = i.waits;
}

abbrev pub same_again : Receiver → Reading → List ℕ → Out
same_again y x v = record { state = y.state; datagram = y.datagram; reading = x; nonce = v }

again-sound : (y : Receiver) → Sound y → (x : Reading) (v : List ℕ) (w : Shown) → fate_of x ≡ underway
    → handed_by x (shown_by x y.datagram) y.handed ≡ y.handed → w ≡ y.account.waits → Proper a_read y.account.waits x
    → RightNonce x y.account.ivs v → is_ruled x ≡ false → Sound (after y (same_again y x v) y.trial unused w a_read)
again-sound y i x v w f h q p n j = rw (f, q) (record {
  made = i.made;
  table = i.table;
  asked = i.asked;
  hands = rw h i.hands;
  tally = i.tally;
  whole = i.whole;
  intact = i.intact;
  under = i.under;
  proper = more-proper y i a_read (same_again y x v) p;
  nonces = more-nonces y i a_read (same_again y x v) n;
  spared = more-spared y i a_read (same_again y x v) (none_written y a_read (same_again y x v) refl);
  judged = more-judged y i a_read (same_again y x v) (neither x j);
  lost = i.lost;
  real = i.real;
  shows = i.shows;
  said = i.said;
  later = i.later;
  stops = i.stops;
  waits = i.waits;
})

-- the epoch of a question is found
pub is_found : {C : Type 0} (k : RecvKeys) (x : ℕ) (f : Found) → find k.entries x k.count ≡ f → is_keyed k x ≡ true
    → ((j : ℕ) → f ≡ Some j → C) → C
unfolding is_keyed was_found
is_found k x (Some j) q t g = g j refl
is_found k x None q t g = absurd (false≢true (ap was_found (sym q) ∙ t))

-- a mask reply asks no mask
judged-next : (e : RecvEpochEntry) (b : Datagram) (a : Ask) (n x s : ℕ) → (judged e b a n).reading ≡ says.Mask x s → ⊥
unfolding opening_asked
judged-next e b a n x s =
    by-judged e b a n (λ (t : Step). t.reading ≡ says.Mask x s → ⊥) (λ r g. let z : ◌≡◌ {A = ℕ} 0 1 = cc in omega arith)
    (λ small fresh g. let z : ◌≡◌ {A = ℕ} 0 1 = cc in omega arith)

masked-next : (j x s : ℕ) (k : RecvKeys) (b : Datagram) (a : Ask) (m d : List ℕ) → (masked_by (Some j) k b a m d).0.reading ≡ says.Mask x s → ⊥
unfolding masked_by masked_at
masked-next j x s k b a m d = judged-next (entry_at k j) b a _ x s

judged_quits : (e : RecvEpochEntry) (b : Datagram) (a : Ask) (n : ℕ) (x : Ask) → (judged e b a n).datagram.question ≡ question.Mask x → ⊥
unfolding opening_asked
judged_quits e b a n x =
    by-judged e b a n (λ (t : Step). t.datagram.question ≡ question.Mask x → ⊥) (λ r g. let z : ◌≡◌ {A = ℕ} 0 1 = cc in omega arith)
    (λ small fresh g. let z : ◌≡◌ {A = ℕ} 0 1 = cc in omega arith)

masked_quits : (j : ℕ) (x : Ask) (k : RecvKeys) (b : Datagram) (a : Ask) (m d : List ℕ) → (masked_by (Some j) k b a m d).0.datagram.question ≡ question.Mask x → ⊥
unfolding masked_by masked_at
masked_quits j x k b a m d = judged_quits (entry_at k j) b a _ x

not_mask-flag : (q : Question) (first : ℕ) → ((x : Ask) → q ≡ question.Mask x → ⊥) → FlagAsked q first
not_mask-flag question.Nothing first h = tt
not_mask-flag (question.Mask a) first h = absurd (h a refl)
not_mask-flag (question.Opening a n) first h = tt

masked-flag : (j first : ℕ) (k : RecvKeys) (b : Datagram) (a : Ask) (m d : List ℕ) → FlagAsked (masked_by (Some j) k b a m d).0.datagram.question first
masked-flag j first k b a m d = not_mask-flag _ first (λ x. masked_quits j x k b a m d)

-- nor does it read
judged-shows : (e : RecvEpochEntry) (b : Datagram) (a : Ask) (n : ℕ) (rest shown : List ℕ) → Shows (judged e b a n).reading rest shown
unfolding opening_asked
judged-shows e b a n rest shown = by-judged e b a n (λ (t : Step). Shows t.reading rest shown) (λ r. tt) (λ small fresh. tt)

masked-shows : (j : ℕ) (k : RecvKeys) (b : Datagram) (a : Ask) (m d rest shown : List ℕ) → Shows (masked_by (Some j) k b a m d).0.reading rest shown
unfolding masked_by masked_at
masked-shows j k b a m d rest shown = judged-shows (entry_at k j) b a _ rest shown

-- nor does it end the datagram
judged-stops : (e : RecvEpochEntry) (b : Datagram) (a : Ask) (n : ℕ) (rest : List ℕ) (m : ℕ) → There rest → Ends (judged e b a n).reading rest m
unfolding opening_asked
judged-stops e b a n rest m w = by-judged e b a n (λ (t : Step). Ends t.reading rest m) (λ r. w) (λ small fresh. w)

masked-stops : (j : ℕ) (k : RecvKeys) (b : Datagram) (a : Ask) (m d rest : List ℕ) (n : ℕ) → There rest → Ends (masked_by (Some j) k b a m d).0.reading rest n
unfolding masked_by masked_at
masked-stops j k b a m d rest n w = judged-stops (entry_at k j) b a _ rest n w

-- a refused reply uses nothing
pub use_down : (w : Shown) (p : Opening) → use_of w p turnedDown ≡ unused
use_down w None = refl
use_down nothing (Some l) = refl
use_down (a_mask e q) (Some l) = refl
use_down (an_opening e n at head body) (Some l) = refl

module _ (y : Receiver) (i : Sound y) where
  abbrev k : RecvKeys
  k = y.state.keys

  abbrev b : Datagram
  b = y.state.datagram

  abbrev d : List ℕ
  d = y.datagram

  pub rest-masked : (a : Ask) → b.question ≡ question.Mask a → rest_of y ≡ drop b.at d
  rest-masked a q = rest_from y i (ap (λ (x : Question). intact_from x b.at) q)

  -- and so where the host is shown no question
  pub unasked : (q : Question) → b.question ≡ q → UnderWay q b.at y.account.waits y.trial → y.account.waits ≡ nothing → b.question ≡ question.Nothing
  unasked question.Nothing q z w = q
  unasked (question.Mask a) q z w =
      let p : a_mask a.epoch (b.at + a.header_len) ≡ nothing = sym z.2.0 ∙ w in let n : ◌≡◌ {A = ℕ} 0 1 = cc in absurd (omega arith)
  unasked (question.Opening a n) q z w =
      let p : an_opening a.epoch n b.at z.2.0 z.2.1 ≡ nothing = sym z.2.2 ∙ w in let m : ◌≡◌ {A = ℕ} 0 1 = cc in absurd (omega arith)

  pub rest-unasked : y.account.waits ≡ nothing → rest_of y ≡ drop y.account.place d
  rest-unasked w =
      (rest-idle y i) (unasked b.question refl i.under w) ∙ ap (λ (n : ℕ). drop n d) (sym i.tally.place)

  -- ---- a read

  pub idle-quiet : (sealed : ℕ → List Sealed) → b.question ≡ question.Nothing
      → let t = reached y sealed in
      Quiet k y.account.ivs b d t.resolved t.ends t.plain t.encrypted (read_out y.state d)
  idle-quiet sealed q =
      let t = reached y sealed in
      subst (λ s. Quiet k y.account.ivs b d t.resolved t.ends t.plain t.encrypted (reads_out k s d))
      (sym (read-asks k b d question.Nothing (in-range y i) i.whole q))
      (unfold asking in
      (read-quiet k y.used y.account.ivs i.table b d i.made.ready i.whole _ _ _ _ (drop b.at d) refl (parsed (drop b.at d))
      (record_size (drop b.at d)) (cut (drop b.at d))
      (ap (λ (n : ℕ). n + record_size (rest_of y)) i.tally.place ∙ ap (λ (l : List ℕ). b.at + record_size l) (rest-idle y i q)) (reached_to y i sealed q)
      i.tally.encryption (ap good_plain (rest-idle y i q))))

  idle-intact : (sealed : ℕ → List Sealed) → b.question ≡ question.Nothing → Intact (read_out y.state d).state.datagram d y.arrived
  idle-intact sealed q =
      step-intact (idle-quiet sealed q).moves y.arrived i.intact.long b.at
      (subst (λ (x : Question). drop (intact_from x b.at) d ≡ drop (intact_from x b.at) y.arrived) q i.intact.lies)
      (omega (arith, i.tally.place)) (omega (arith, i.whole, i.made.ready.at)) (λ a e. omega arith)
      (subst (λ (s : Step). FlagAsked s.datagram.question (get_or (drop b.at y.arrived) 0 0)) (sym (read-asks k b d question.Nothing (in-range y i) i.whole q))
      (subst (λ (l : List ℕ). FlagAsked (asking question.Nothing k b d).datagram.question (get_or l 0 0))
      (sym (rest-idle y i q) ∙ ap (λ (n : ℕ). drop n y.arrived) i.tally.place)
      (unfold asking in
      (read-flag k y.used y.account.ivs i.table b d i.made.ready i.whole none 0 true true (drop b.at d) (parsed (drop b.at d))
      (record_size (drop b.at d)) (cut (drop b.at d))))))

  idle-shows : (sealed : ℕ → List Sealed) → b.question ≡ question.Nothing
      → let o = read_out y.state d in Shows o.reading (reached y sealed).rest (shown_by o.reading d)
  idle-shows sealed q =
      subst (λ (s : Step). Shows (reads_out k s d).reading (rest_of y) (shown_by (reads_out k s d).reading d)) (sym (read-asks k b d question.Nothing (in-range y i) i.whole q))
      (subst (λ (l : List ℕ). let o = reads_out k (asking question.Nothing k b d) d in Shows o.reading l (shown_by o.reading d)) (sym (rest-idle y i q))
      (unfold asking in
      (read-shows k y.used y.account.ivs i.table b d i.made.ready i.whole none 0 true true (drop b.at d) refl (parsed (drop b.at d))
      (cut (drop b.at d)))))

  idle-said : (sealed : ℕ → List Sealed) → b.question ≡ question.Nothing → Said (reached y sealed) (read_out y.state d).reading
  unfolding asking
  idle-said sealed q =
      let few : y.account.readings ≤ 15 → b.readings ≤ 15 = λ h. omega (arith, i.tally.readings) in
      subst (λ (s : Step). Said (reached y sealed) (reads_out k s d).reading) (sym (read-asks k b d question.Nothing (in-range y i) i.whole q))
      (subst (λ (l : List ℕ). Said (reached y sealed) (reads_out k (step_of (parsed l) k b) d).reading) (rest-idle y i q) (record {
        plain = λ p. plain-says k y.used y.account.ivs i.table b d i.made.ready i.whole none 0 true true (rest_of y) p.in_order p.whole (few p.among_16);
        unopened = λ p. unopened-says k y.used y.account.ivs i.table b d i.made.ready i.whole none 0 true true (rest_of y)
            p.sealed_form p.goes_on p.header p.whole p.bits (sym i.tally.encryption ∙ p.encryption_off) (few p.among_16);
      }))

  idle-stops : (sealed : ℕ → List Sealed) → b.question ≡ question.Nothing → Ends (read_out y.state d).reading (rest_of y) y.account.readings
  unfolding asking
  idle-stops sealed q =
      subst (λ (n : ℕ). Ends (read_out y.state d).reading (rest_of y) n) (sym i.tally.readings)
      (subst (λ (s : Step). Ends (reads_out k s d).reading (rest_of y) b.readings) (sym (read-asks k b d question.Nothing (in-range y i) i.whole q))
      (subst (λ (l : List ℕ). Ends (reads_out k (step_of (parsed l) k b) d).reading (rest_of y) b.readings) (rest-idle y i q)
      (read-stops k y.used y.account.ivs i.table b d i.made.ready i.whole none 0 true true (rest_of y) (parsed (rest_of y)) (finds (rest_of y)))))

  idle-judged : (sealed : ℕ → List Sealed) → b.question ≡ question.Nothing → TellsNeither (read_out y.state d).reading
  unfolding asking
  idle-judged sealed q =
      subst (λ (s : Step). TellsNeither (reads_out k s d).reading) (sym (read-asks k b d question.Nothing (in-range y i) i.whole q))
      (neither _ (read_unruled k b (parsed (drop b.at d))))

  idle-sound : (sealed : ℕ → List Sealed) → b.question ≡ question.Nothing → y.account.waits ≡ nothing
      → Sound (read_by y sealed nothing (read_out y.state d))
  idle-sound sealed q z =
      let c = idle-quiet sealed q in
      let o = read_out y.state d in
      step-sound y i o (reached y sealed) unused a_read c.moves same_keys (read_made y i) i.table c.asked
      (subst (λ f. Hands y.used f) (sym (c.hands (shown_by o.reading d) y.handed)) i.hands)
      (subst (λ w. Proper a_read w o.reading) (sym z) (moves-on c.moves)) c.nonce c.real (idle-intact sealed q) (none_written y a_read o refl)
      (idle-judged sealed q) (idle-shows sealed q) (idle-said sealed q) (idle-stops sealed q) refl

  -- the mask question again
  pub masks-again : (a : Ask) → b.question ≡ question.Mask a
      → read_out y.state d ≡ same_again y (says.Mask a.epoch (b.at + a.header_len)) zeros
  unfolding asking
  masks-again a q = ap (λ (s : Step). reads_out k s d) (read-asks k b d (question.Mask a) (in-range y i) i.whole q)

  mask-again : (sealed : ℕ → List Sealed) (a : Ask) → b.question ≡ question.Mask a → UnderWay (question.Mask a) b.at y.account.waits y.trial
      → Sound (read_by y sealed y.account.waits (read_out y.state d))
  mask-again sealed a q z =
      let w : y.account.waits ≡ a_mask a.epoch (b.at + a.header_len) = z.2.0 in
      subst (λ v. Sound (read_by y sealed v (read_out y.state d))) (sym w)
      (subst (λ o. Sound (read_by y sealed (a_mask a.epoch (b.at + a.header_len)) o)) (sym (masks-again a q))
      (again-sound y i (says.Mask a.epoch (b.at + a.header_len)) zeros (a_mask a.epoch (b.at + a.header_len)) refl refl (sym w)
      (subst (λ v. Proper a_read v (says.Mask a.epoch (b.at + a.header_len))) (sym w) refl) tt refl))

  -- the opening question again
  pub again-is : (a : Ask) (n j : ℕ) → b.question ≡ question.Opening a n → find k.entries a.epoch k.count ≡ Some j
      → read_out y.state d
      ≡ same_again y (says.Opening a.epoch n b.at a.header_len a.length) (nonce_of (entry_at k j).iv n)
  again-is a n j q f =
      ap (λ (s : Step). reads_out k s d) (read-asks k b d (question.Opening a n) (in-range y i) i.whole q)
      ∙ (unfold asking asked_again opening_asked in
      (ap (λ (g : Found). reads_out k (asked_again g k b a n) d) f
      ∙ ap (λ (u : Question). reads_out k (record {
        reading = says.Opening a.epoch n b.at a.header_len a.length;
        nonce = nonce_of (entry_at k j).iv n;
        datagram = questioned b u;
      }) d) (sym q)))

  open_again : (sealed : ℕ → List Sealed) (a : Ask) (n : ℕ) → b.question ≡ question.Opening a n
      → UnderWay (question.Opening a n) b.at y.account.waits y.trial → Sound (read_by y sealed y.account.waits (read_out y.state d))
  open_again sealed a n q z =
      let u = z.2 in
      let w : y.account.waits ≡ an_opening a.epoch n b.at u.0 u.1 = u.2 in
      let x : Reading = says.Opening a.epoch n b.at a.header_len a.length in
      is_found k a.epoch _ refl (held_open k b (in-range y i) a n q).1.installed λ j f.
      subst (λ v. Sound (read_by y sealed v (read_out y.state d))) (sym w)
      (subst (λ o. Sound (read_by y sealed (an_opening a.epoch n b.at u.0 u.1) o)) (sym (again-is a n j q f))
      (again-sound y i x (nonce_of (entry_at k j).iv n) (an_opening a.epoch n b.at u.0 u.1) refl refl (sym w)
      (subst (λ v. Proper a_read v x) (sym w)
      (ap (λ (h : ℕ). says.Opening a.epoch n b.at h a.length) (sym u.3)
      ∙ ap (λ (l : ℕ). says.Opening a.epoch n b.at (length u.0) l) (sym u.4)))
      (ap (λ (v : List ℕ). nonce_of v n)
      (i.table.iv j (found-keyed k.entries a.epoch k.count j f)
      ∙ ap y.account.ivs (found-epoch k.entries a.epoch k.count j f))
      ∙ nonce-own (y.account.ivs a.epoch) n) refl))

  reads : (sealed : ℕ → List Sealed) (q : Question) → b.question ≡ q → UnderWay q b.at y.account.waits y.trial
      → Sound (read_by y sealed y.account.waits (read_out y.state d))
  reads sealed question.Nothing q z =
      subst (λ w. Sound (read_by y sealed w (read_out y.state d))) (sym z.0) (idle-sound sealed q z.0)
  reads sealed (question.Mask a) q z = mask-again sealed a q z
  reads sealed (question.Opening a n) q z = open_again sealed a n q z

  pub read-sound : (sealed : ℕ → List Sealed) → Sound (after_read y sealed)
  unfolding after_read
  read-sound sealed = reads sealed b.question refl i.under

  -- ---- a mask reply

  pub mask-opening : (m : List ℕ) (a : Ask) (n : ℕ) → b.question ≡ question.Opening a n → mask_step k b m d ≡ (told b says.Reply, d)
  unfolding masking
  mask-opening m a n q = mask-asks k b m d (question.Opening a n) (in-range y i) i.whole q

  mask_down : (m : List ℕ) → mask_step k b m d ≡ (told b says.Reply, d) → Proper (a_mask_reply m) y.account.waits says.Reply
      → Judged (a_mask_reply m) y.account.waits (resolved_in y.trial) (rest_of y) y.used says.Reply → Sound (mask_by y m (mask_out y.state m d))
  mask_down m e p j = subst (λ x. Sound (mask_by y m (masked_out k x))) (sym e) (down_sound y i y.trial nothing (a_mask_reply m) p j)

  module _ (m : List ℕ) (a : Ask) (q : b.question ≡ question.Mask a) where
    masked-is : mask_step k b m d ≡ masked_by (find k.entries a.epoch k.count) k b a m d
    unfolding masking
    masked-is = mask-asks k b m d (question.Mask a) (in-range y i) i.whole q

    pub masked-quiet : (to : Option ℕ) (end : ℕ) (good on : Bool) → to ≡ some a.epoch → end ≡ end_asked b a
        → Quiet k y.account.ivs b d to end good on (mask_out y.state m d)
    masked-quiet to end good on z e =
        subst (λ x. Quiet k y.account.ivs b d to end good on (masked_out k x)) (sym masked-is)
        (mask-quiet k y.used y.account.ivs i.table b d i.made.ready i.whole to end good on a m (held-mask k b (in-range y i) a q) z e _ refl)

    masked-by : (P : Step × List ℕ → Type 0) → ((j : ℕ) → P (masked_by (Some j) k b a m d)) → P (mask_step k b m d)
    masked-by P g =
        subst P (sym masked-is)
        (is_found k a.epoch _ refl (held-mask k b (in-range y i) a q).installed λ j f. subst (λ x. P (masked_by x k b a m d)) (sym f) (g j))

    -- no mask is asked again
    no_mask : (x s : ℕ) → (mask_out y.state m d).reading ≡ says.Mask x s → ⊥
    no_mask x s = masked-by (λ p. p.0.reading ≡ says.Mask x s → ⊥) (λ j. masked-next j x s k b a m d)

    -- the number is unmasked, and nothing else
    bytes_are : (mask_out y.state m d).datagram ≡ unmasked d b.at a.s_flag m
    bytes_are = masked-by (λ p. (masked_out k p).datagram ≡ unmasked d b.at a.s_flag m) (λ j. unfold masked_by masked_at in refl)

    behind : drop (end_asked b a) (mask_out y.state m d).datagram ≡ drop (end_asked b a) y.arrived
    behind =
        ap (drop (end_asked b a)) bytes_are
        ∙ masked-behind k y.used y.account.ivs i.table b d i.made.ready i.whole none 0 true true a m (held-mask k b (in-range y i) a q)
        ∙ drops_on b.at (end_asked b a) d y.arrived (omega arith)
        (subst (λ (x : Question). drop (intact_from x b.at) d ≡ drop (intact_from x b.at) y.arrived) q i.intact.lies)

    flagged : a.s_flag ≡ eqb (get_or (rest_of y) 0 0 / 8 % 2) 1
    flagged =
        subst (λ (n : ℕ). a.s_flag ≡ eqb (get_or (drop n y.arrived) 0 0 / 8 % 2) 1) (sym i.tally.place)
        (subst (λ (x : Question). FlagAsked x (get_or (drop b.at y.arrived) 0 0)) q i.intact.flag)

    mask-spares : y.account.waits ≡ a_mask a.epoch (b.at + a.header_len) → Spares (spoken_by y (a_mask_reply m) (mask_out y.state m d))
    mask-spares w = record {
      long = ap length bytes_are ∙ masked-long k y.used y.account.ivs i.table b d i.made.ready i.whole none 0 true true a m (held-mask k b (in-range y i) a q);
      bytes = λ j off.
          ap (λ (l : List ℕ). get_or l j 0) bytes_are
          ∙ masked-other k y.used y.account.ivs i.table b d i.made.ready i.whole none 0 true true a m (held-mask k b (in-range y i) a q)
          (get_or (rest_of y) 0 0) flagged j
          (λ l u.
          off (subst (λ v. NumberByte (a_mask_reply m) v y.account.place (get_or (rest_of y) 0 0) j) (sym w) (omega (arith, i.tally.place), omega (arith, i.tally.place))));
    }

    -- it is told 9 or 26 by the number that its bits stand for
    mask-judged : (n : ℕ) → Nearest (block_in (rest_of y)) (bits_under m (rest_of y)) (above (y.used a.epoch)) n
        → Rules (mask_out y.state m d).reading a.epoch (y.used a.epoch) n
    unfolding masked_by masked_at
    mask-judged n near =
        let h = held-mask k b (in-range y i) a q in
        is_found k a.epoch _ refl h.installed λ j f.
        let within = found-keyed k.entries a.epoch k.count j f in
        let agrees : Agrees (entry_at k j).replay (y.used a.epoch) =
        subst (λ l. Agrees (entry_at k j).replay l) (ap y.used (found-epoch k.entries a.epoch k.count j f)) (i.table.agrees j within) in
        let low = window-at k.entries k.count j i.made.ready.keys.windows within in
        let is = stands_for d m (rest_of y) b.at (above (y.used a.epoch)) n (omega (arith, h.head, h.tag, h.fits, h.two, i.whole, i.made.ready.at))
        (rest-masked a q) (entry_at k j).replay a.s_flag flagged (expects (y.used a.epoch) agrees) (omega (arith, agrees.highest, low)) near in
        subst (λ p. Rules p.0.reading a.epoch (y.used a.epoch) n) (sym (masked-is ∙ ap (λ (x : Found). masked_by x k b a m d) f))
        (subst (λ x. Rules (judged (entry_at k j) b a x).reading a.epoch (y.used a.epoch) n) is (judged-told (entry_at k j) b a n (y.used a.epoch) agrees low))

    mask-on : UnderWay (question.Mask a) b.at y.account.waits y.trial → Sound (mask_by y m (mask_out y.state m d))
    mask-on z =
        let t = z.0 in
        let c = masked-quiet t.resolved t.ends t.plain t.encrypted z.2.1 z.2.2 in
        let o = mask_out y.state m d in
        subst (λ v. Sound (after y o v unused (question_in o.reading o.datagram) (a_mask_reply m))) (sym z.1)
        (step-sound y i o t unused (a_mask_reply m) c.moves same_keys (after-made (answering m d) y.state i.made) i.table c.asked
        (subst (λ f. Hands y.used f) (sym (c.hands (shown_by o.reading o.datagram) y.handed)) i.hands)
        (subst (λ w. Proper (a_mask_reply m) w o.reading) (sym z.2.0) (moves-on c.moves, no_mask)) c.nonce c.real
        (step-intact c.moves y.arrived i.intact.long (end_asked b a) behind (omega (arith, z.2.2))
        (let h = held-mask k b (in-range y i) a q in omega (arith, h.head, h.fits, i.whole, i.made.ready.at))
        (λ x e. absurd (masked-by (λ p. p.0.datagram.question ≡ question.Mask x → ⊥) (λ j. masked_quits j x k b a m d) e))
        (masked-by (λ p. FlagAsked p.0.datagram.question (get_or (drop b.at y.arrived) 0 0)) (λ j. masked-flag j _ k b a m d)))
        (mask-spares z.2.0) (subst (λ w. Judged (a_mask_reply m) w (resolved_in y.trial) (rest_of y) y.used o.reading) (sym z.2.0) (ap resolved_in z.1 ∙ z.2.1, mask-judged))
        (masked-by (λ p. Shows p.0.reading t.rest (shown_by p.0.reading (masked_out k p).datagram)) (λ j. masked-shows j k b a m d t.rest _))
        (i.later t z.1 o.reading)
        (masked-by (λ p. Ends p.0.reading t.rest t.count) (λ j. masked-stops j k b a m d t.rest t.count (i.waits t z.1).there))
        (i.waits t z.1).count)

  masks : (m : List ℕ) (q : Question) → b.question ≡ q → UnderWay q b.at y.account.waits y.trial → Sound (mask_by y m (mask_out y.state m d))
  masks m question.Nothing q z =
      mask_down m (mask-idle y i m q)
      (subst (λ w. Proper (a_mask_reply m) w says.Reply) (sym z.0) refl)
      (subst (λ w. Judged (a_mask_reply m) w (resolved_in y.trial) (rest_of y) y.used says.Reply) (sym z.0) (neither says.Reply refl))
  masks m (question.Mask a) q z = mask-on m a q z
  masks m (question.Opening a n) q z =
      mask_down m (mask-opening m a n q)
      (subst (λ w. Proper (a_mask_reply m) w says.Reply) (sym z.2.2) refl)
      (subst (λ w. Judged (a_mask_reply m) w (resolved_in y.trial) (rest_of y) y.used says.Reply) (sym z.2.2) (neither says.Reply refl))

  -- one that is refused writes nothing
  refused-bytes : (m : List ℕ) (q : Question) → b.question ≡ q → UnderWay q b.at y.account.waits y.trial
      → fate_of (mask_out y.state m d).reading ≡ turnedDown → (mask_out y.state m d).datagram ≡ d
  refused-bytes m question.Nothing q z f = ap (λ (p : Step × List ℕ). (masked_out k p).datagram) (mask-idle y i m q)
  refused-bytes m (question.Mask a) q z f =
      absurd (moves-on (masked-quiet m a q z.0.resolved z.0.ends true true z.2.1 z.2.2).moves f)
  refused-bytes m (question.Opening a n) q z f = ap (λ (p : Step × List ℕ). (masked_out k p).datagram) (mask-opening m a n q)

  pub mask-refused : (m : List ℕ) → fate_of (mask_out y.state m d).reading ≡ turnedDown → (mask_out y.state m d).datagram ≡ d
  mask-refused m f = refused-bytes m b.question refl i.under f

  pub mask-sound : (m : List ℕ) → Sound (after_mask y m)
  unfolding after_mask
  mask-sound m = masks m b.question refl i.under

  -- ---- an opening reply

  abbrev opens_to : Marked → Out
  opens_to x = out_by x.keys x.step d

  pub open_idle : (p : Opening) → b.question ≡ question.Nothing → opened_step k b p d ≡ still k (told b says.Reply)
  unfolding openings
  open_idle p q = opened-asks k b p d question.Nothing (in-range y i) i.whole q

  pub open_masked : (p : Opening) (a : Ask) → b.question ≡ question.Mask a → opened_step k b p d ≡ still k (told b says.Reply)
  unfolding openings
  open_masked p a q = opened-asks k b p d (question.Mask a) (in-range y i) i.whole q

  open_down : (p : Opening) → opened_step k b p d ≡ still k (told b says.Reply) → Proper (an_open_reply p) y.account.waits says.Reply
      → Sound (open_by y p (open_out y.state p d))
  open_down p e x =
      subst (λ m. Sound (open_by y p (opens_to m))) (sym e)
      (subst (λ u. Sound (after y (refusal y) y.trial u nothing (an_open_reply p))) (sym (use_down y.account.waits p))
      (down_sound y i y.trial nothing (an_open_reply p) x (neither says.Reply refl)))

  module _ (a : Ask) (n : ℕ) (q : b.question ≡ question.Opening a n) (z : UnderWay (question.Opening a n) b.at y.account.waits y.trial) where
    abbrev pub t : Trial
    t = z.0

    waits-is : y.account.waits ≡ an_opening a.epoch n b.at z.2.0 z.2.1
    waits-is = z.2.2

    held : Held k a (b.size - b.at)
    held = (held_open k b (in-range y i) a n q).1

    -- behind the record nothing was written
    settled-intact : (o : Out) → Moves b d t.resolved t.ends o → fate_of o.reading ≡ settled → o.datagram ≡ d
        → Intact o.state.datagram o.datagram y.arrived
    settled-intact o st f e =
        settle_intact st f y.arrived i.intact.long (end_asked b a)
        (ap (drop (end_asked b a)) e
        ∙ subst (λ (x : Question). drop (intact_from x b.at) d ≡ drop (intact_from x b.at) y.arrived) q i.intact.lies)
        (omega (arith, z.2.6)) (omega (arith, held.head, held.fits, i.whole, i.made.ready.at))

    pub opened-is : (p : Opening) (j : ℕ) → find k.entries a.epoch k.count ≡ Some j → opened_step k b p d ≡ opened_at j p k b a n d
    unfolding openings opened_by
    opened-is p j f =
        opened-asks k b p d (question.Opening a n) (in-range y i) i.whole q ∙ ap (λ (g : Found). opened_by g p k b a n d) f

    opened-made : (p : Opening) (m : Marked) → opened_step k b p d ≡ m → Made (opens_to m).state
    opened-made p m e = subst (λ x. Made (opens_to x).state) e (after-made (opening p d) y.state i.made)

    open_no : (j : ℕ) → find k.entries a.epoch k.count ≡ Some j → Sound (open_by y None (open_out y.state None d))
    unfolding opened_at
    open_no j f =
        let e = opened-is None j f in
        let m : Marked = still k (passed b (end_asked b a) reason.NotOpened) in
        let c = passed-quiet k y.used y.account.ivs i.table b d i.made.ready i.whole t.resolved t.ends t.plain t.encrypted d refl
        (end_asked b a) reason.NotOpened z.2.6 in
        subst (λ x. Sound (open_by y None (opens_to x))) (sym e)
        (subst (λ v. Sound (after y (opens_to m) v unused nothing (an_open_reply None))) (sym z.1)
        (step-sound y i (opens_to m) t unused (an_open_reply None) c.moves same_keys (opened-made None m e) i.table tt i.hands
        (subst (λ w. Proper (an_open_reply None) w (says.Dropped reason.NotOpened)) (sym waits-is) refl) tt tt
        (settled-intact (opens_to m) c.moves refl refl) (none_written y (an_open_reply None) (opens_to m) refl) (neither (says.Dropped reason.NotOpened) refl) tt
        (i.later t z.1 (says.Dropped reason.NotOpened)) (i.waits t z.1).there (i.waits t z.1).count))

    module _ (len j : ℕ) (f : find k.entries a.epoch k.count ≡ Some j) where
      abbrev pub o : Out
      o = out_by (marked k j n) (typed b a n (inner_of (part (b.at + a.header_len) len d))) d

      abbrev m : Marked
      m = still (marked k j n) (typed b a n (inner_of (part (b.at + a.header_len) len d)))

      abbrev pub used-by : Use
      used-by = use_of y.account.waits (Some len) (fate_of o.reading)

      pub settles : Settles (marked k j n) y.account.ivs b d t.resolved t.ends o
      settles = typed-settles (marked k j n) y.account.ivs b a n d i.whole t.resolved t.ends z.2.6 _

      pub uses_it : used-by ≡ uses a.epoch n
      uses_it =
          ap (λ (w : Shown). use_of w (Some len) (fate_of o.reading)) waits-is ∙ ap (λ (g : Fate). use_by g (uses a.epoch n)) settles.fate

      fresh-one : FreshAsked k (question.Opening a n)
      fresh-one = subst (FreshAsked k) q i.asked

      same_place : fresh-one.0 ≡ j
      same_place = let g = fresh-one.1 in let e : Some fresh-one.0 ≡ Some j = sym g ∙ f in cc

      pub still-fresh : verdict (entry_at k j).replay n ≡ Fresh
      still-fresh = subst (λ (x : ℕ). verdict (entry_at k x).replay n ≡ Fresh) same_place fresh-one.2

      yes_sound : opened_step k b (Some len) d ≡ m → len + tag_size ≡ a.length → Sound (open_by y (Some len) (open_out y.state (Some len) d))
      yes_sound e right =
          let long = i.made.long in
          let count = i.made.ready.keys.count in
          let new = yes_new k y.used y.account.ivs i.table a.epoch j n long count f still-fresh in
          subst (λ x. Sound (open_by y (Some len) (opens_to x))) (sym e)
          (subst (λ v. Sound (after y o v used-by (question_in o.reading o.datagram) (an_open_reply (Some len)))) (sym z.1)
          (step-sound y i o t used-by (an_open_reply (Some len)) settles.moves
          (yes_keys k y.used y.account.ivs i.table a.epoch j n long count f) (opened-made (Some len) m e)
          (subst (λ u. Table (marked k j n) (spent u y.used) y.account.ivs) (sym uses_it)
          (yes_table k y.used y.account.ivs i.table a.epoch j n long count f))
          settles.asked
          (subst (λ u. Hands (spent u y.used) (handed_by o.reading (shown_by o.reading o.datagram) y.handed)) (sym uses_it)
          (typed-hands (marked k j n) y.account.ivs b a n d i.whole t.resolved t.ends z.2.6 y.used y.handed i.hands new _))
          (subst (λ w. Proper (an_open_reply (Some len)) w o.reading) (sym waits-is)
          (λ r. settles.fate, λ wrong. absurd (wrong (right ∙ sym z.2.4))))
          settles.nonce (settles.real t.plain t.encrypted) (settled-intact o settles.moves settles.fate refl)
          (none_written y (an_open_reply (Some len)) o refl) (neither o.reading (typed_unruled k b a n _)) (settles.shows t.rest _) (i.later t z.1 o.reading)
          (subst (λ (x : ℕ). Ends o.reading t.rest x) (sym ((i.waits t z.1).count ∙ i.tally.readings)) (settles.stops t.rest (i.waits t z.1).there))
          (i.waits t z.1).count))

      open-yes : Sound (open_by y (Some len) (open_out y.state (Some len) d))
      unfolding opened_at
      open-yes =
          let e = opened-is (Some len) j f in
          test_cases (eqb len (a.length - tag_size))
          (λ u. let r : len ≡ a.length - tag_size = eqb-true _ _ u in yes_sound (e ∙ if_true _ _ u) (omega (arith, held.tag)))
          (λ u.
          let ne = eqb-false len (a.length - tag_size) u in
          open_down (Some len) (e ∙ if_false _ _ u)
          (subst (λ w. Proper (an_open_reply (Some len)) w says.Reply) (sym waits-is)
          (λ r. absurd (ne (omega (arith, z.2.4))), λ w. refl)))

    opens_by : (p : Opening) (j : ℕ) → find k.entries a.epoch k.count ≡ Some j → Sound (open_by y p (open_out y.state p d))
    opens_by None j f = open_no j f
    opens_by (Some len) j f = open-yes len j f

  opens : (p : Opening) (q : Question) → b.question ≡ q → UnderWay q b.at y.account.waits y.trial → Sound (open_by y p (open_out y.state p d))
  opens p question.Nothing q z =
      open_down p (open_idle p q)
      (subst (λ w. Proper (an_open_reply p) w says.Reply) (sym z.0) refl)
  opens p (question.Mask a) q z =
      open_down p (open_masked p a q)
      (subst (λ w. Proper (an_open_reply p) w says.Reply) (sym z.2.0) refl)
  opens p (question.Opening a n) q z =
      is_found k a.epoch _ refl (held_open k b (in-range y i) a n q).1.installed (λ j f. opens_by a n q z p j f)

  pub open_sound : (p : Opening) → Sound (after_open y p)
  unfolding after_open
  open_sound p = opens p b.question refl i.under

  -- ---- a read and a mask reply hand nothing over

  quiet-reads : (sealed : ℕ → List Sealed) (q : Question) → b.question ≡ q
      → let o = read_out y.state d in handed_by o.reading (shown_by o.reading o.datagram) y.handed ≡ y.handed
  quiet-reads sealed question.Nothing q = (idle-quiet sealed q).hands _ y.handed
  quiet-reads sealed (question.Mask a) q =
      ap (λ (o : Out). handed_by o.reading (shown_by o.reading o.datagram) y.handed) (masks-again a q)
  quiet-reads sealed (question.Opening a n) q =
      is_found k a.epoch _ refl (held_open k b (in-range y i) a n q).1.installed
      (λ j f. ap (λ (o : Out). handed_by o.reading (shown_by o.reading o.datagram) y.handed) (again-is a n j q f))

  pub read-hands : (sealed : ℕ → List Sealed) → (after_read y sealed).handed ≡ y.handed
  unfolding after_read
  read-hands sealed = quiet-reads sealed b.question refl

  quiet-masks : (m : List ℕ) (q : Question) → b.question ≡ q → UnderWay q b.at y.account.waits y.trial
      → let o = mask_out y.state m d in handed_by o.reading (shown_by o.reading o.datagram) y.handed ≡ y.handed
  quiet-masks m question.Nothing q z =
      ap (λ (p : Step × List ℕ). handed_by p.0.reading (shown_by p.0.reading (masked_out k p).datagram) y.handed) (mask-idle y i m q)
  quiet-masks m (question.Mask a) q z =
      (masked-quiet m a q z.0.resolved z.0.ends true true z.2.1 z.2.2).hands _ y.handed
  quiet-masks m (question.Opening a n) q z =
      ap (λ (p : Step × List ℕ). handed_by p.0.reading (shown_by p.0.reading (masked_out k p).datagram) y.handed) (mask-opening m a n q)

  pub mask-hands : (m : List ℕ) → (after_mask y m).handed ≡ y.handed
  unfolding after_mask
  mask-hands m = quiet-masks m b.question refl i.under
