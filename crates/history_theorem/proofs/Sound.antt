-- What holds between the real state, the claim's account and the history at a receiving end; a reading call that is not refused keeps it.
-- Assumes nothing.
use Rattle.std.specs.Prelude.{ℕ, ◌+◌, ◌/◌, ◌%◌, ◌≤◌, eqb, length, get_or, drop, ◌≡◌, refl, Some}
use mathlib.Core.List.Memᴰ.{head as here}
use mathlib.Core.List.Memᴰ.{tail as there}
use mathlib.Core.List.{List, ◌∷◌, Memᴰ as Mem}
use Rattle.std.proofs.Math.Option.{Option, none, some}
use Rattle.std.proofs.Common.{sym, ap, subst, ◌∙◌, arith}
use Rattle.base.specs.Choose.{by_test}
use Rattle.datagram.specs.declared.Ask.{Ask}
use Rattle.datagram.specs.declared.Datagram.{Datagram}
use Rattle.datagram.specs.declared.Question.TheVariants as question
use Rattle.datagram.specs.declared.Question.{Question}
use Rattle.datagram.specs.declared.Reading.TheVariants as says
use Rattle.datagram.specs.declared.Reading.{Reading}
use Rattle.opening_reply.specs.Opening.{shown_by}
use Rattle.receiving.specs.Laws.{Made}
use Rattle.receiving.specs.declared.Receiving.{Receiving}
use Rattle.recv_keys.specs.Keys.{entry_at, find}
use Rattle.recv_keys.specs.declared.RecvKeys.{RecvKeys}
use Rattle.window.specs.Window.{verdict}
use Rattle.window.specs.declared.Verdict.TheVariants.{Fresh}
use Rattle.history_theorem.specs.Account.{upd, Shown, nothing, a_mask, an_opening, Account}
use Rattle.history_theorem.specs.Claim.{Once, Real, PlainDue, UnopenedDue, SaysPlaintext, SaysUnopened, Shows, There, Ends, Proper, RightNonce, Spares, Judged}
use Rattle.history_theorem.proofs.Lists.{upd_same, upd_other, upd-by, some_inj, some≢none, mem-by, drops_on}
use Rattle.history_theorem.specs.Receiver.{Handed, Trial, Tried, Deed, Spoken, Lost, Receiver, Out, Fate, turnedDown, underway, settled, fate_of, handed_by, question_in, readings_by, place_by, Use, spent, next_trial, next_tried, next_account, spoken_by, after}
use Rattle.history_theorem.proofs.Table.{keyed_in, Table}

-- ---- the account against the state

pub record Tally (s : Receiving) (a : Account) : Type 0 where
  pub keyed : a.keyed ≡ keyed_in s.keys
  pub highest : a.highest ≡ s.keys.highest
  pub encryption : a.encryption ≡ s.keys.peer_encryption
  pub released : a.released ≡ s.keys.released
  pub place : a.place ≡ s.datagram.at
  pub readings : a.readings ≡ s.datagram.readings

-- the question shown is the one that waits, of a record at the cursor that resolved to the epoch `to` and ends at `end`
abbrev pub Asked : Question → ℕ → Shown → Option ℕ → ℕ → Type 0
Asked question.Nothing at w to end = ⊥
Asked (question.Mask a) at w to end =
    (w ≡ a_mask a.epoch (at + a.header_len)) × (to ≡ some a.epoch) × (end ≡ at + a.header_len + a.length)
Asked (question.Opening a n) at w to end =
    (head : List ℕ) × (body : List ℕ) × (w ≡ an_opening a.epoch n at head body) × (length head ≡ a.header_len) × (length body ≡ a.length)
    × (to ≡ some a.epoch) × (end ≡ at + a.header_len + a.length)

abbrev pub UnderWay : Question → ℕ → Shown → Option Trial → Type 0
UnderWay question.Nothing at w t = (w ≡ nothing) × (t ≡ none)
UnderWay (question.Mask a) at w t = (x : Trial) × (t ≡ some x) × Asked (question.Mask a) at w x.resolved x.ends
UnderWay (question.Opening a n) at w t = (x : Trial) × (t ≡ some x) × Asked (question.Opening a n) at w x.resolved x.ends

-- the number whose opening is asked is fresh
abbrev pub FreshAsked : RecvKeys → Question → Type 0
FreshAsked k question.Nothing = Unit {0}
FreshAsked k (question.Mask a) = Unit {0}
FreshAsked k (question.Opening a n) =
    (i : ℕ) × (find k.entries a.epoch k.count ≡ Some i) × (verdict (entry_at k i).replay n ≡ Fresh)

-- what was handed over has a number that was used, and no two have one
pub record Hands (used : ℕ → List ℕ) (handed : ℕ → List Handed) : Type 0 where
  pub counted : (e : ℕ) (h : Handed) → Mem h (handed e) → Mem h.num (used e)
  pub once : (e : ℕ) → Once (handed e)

-- ---- the bytes against those that arrived

-- from where on they are the same: from the record at the cursor on; behind it while its opening is asked, the number unmasked and the host at
-- work in its protected part
abbrev pub intact_from : Question → ℕ → ℕ
intact_from question.Nothing at = at
intact_from (question.Mask a) at = at
intact_from (question.Opening a n) at = at + a.header_len + a.length

-- a mask question knows whether the number has two bytes
abbrev pub FlagAsked : Question → ℕ → Type 0
FlagAsked question.Nothing first = Unit {0}
FlagAsked (question.Mask a) first = a.s_flag ≡ eqb (first / 8 % 2) 1
FlagAsked (question.Opening a n) first = Unit {0}

pub record Intact (b : Datagram) (d arrived : List ℕ) : Type 0 where
  pub long : length arrived ≡ length d
  pub lies : drop (intact_from b.question b.at) d ≡ drop (intact_from b.question b.at) arrived
  pub flag : FlagAsked b.question (get_or (drop b.at arrived) 0 0)

-- the reading that is due of a record, where one is
pub record Said (t : Trial) (r : Reading) : Type 0 where
  pub plain : PlainDue t → SaysPlaintext r
  pub unopened : UnopenedDue t → SaysUnopened r

-- a record under way is there, and the readings before it are those made
pub record Waits (t : Trial) (readings : ℕ) : Type 0 where
  pub there : There t.rest
  pub count : t.count ≡ readings

abbrev pub Judges : Spoken → Type 0
Judges c = Judged c.deed c.waited c.resolved c.rest c.used c.reading

pub record Sound (y : Receiver) : Type 0 where
  pub made : Made y.state
  pub table : Table y.state.keys y.used y.account.ivs
  pub asked : FreshAsked y.state.keys y.state.datagram.question
  pub hands : Hands y.used y.handed
  pub tally : Tally y.state y.account
  pub whole : length y.datagram ≡ y.state.datagram.size
  pub intact : Intact y.state.datagram y.datagram y.arrived
  pub under : UnderWay y.state.datagram.question y.state.datagram.at y.account.waits y.trial
  pub proper : (c : Spoken) → Mem c y.spoken → Proper c.deed c.waited c.reading
  pub nonces : (c : Spoken) → Mem c y.spoken → RightNonce c.reading c.ivs c.nonce
  pub spared : (c : Spoken) → Mem c y.spoken → Spares c
  pub judged : (c : Spoken) → Mem c y.spoken → Judges c
  pub lost : (l : Lost) → Mem l y.lost → l.trial.resolved ≡ some l.epoch
  pub real : (d : Tried) → Mem d y.tried → Real d.reading d.trial.plain d.trial.encrypted
  pub shows : (d : Tried) → Mem d y.tried → Shows d.reading d.trial.rest d.shown
  pub said : (d : Tried) → Mem d y.tried → Said d.trial d.reading
  -- of a record under way none is due, so whatever settles it is right
  pub later : (t : Trial) → y.trial ≡ some t → (r : Reading) → Said t r
  pub stops : (d : Tried) → Mem d y.tried → Ends d.reading d.trial.rest d.trial.count
  pub waits : (t : Trial) → y.trial ≡ some t → Waits t y.account.readings

-- ---- handing over

pub spend_hands : {used : ℕ → List ℕ} {handed : ℕ → List Handed} → Hands used handed → (e n : ℕ) → Hands (upd used e (n ∷ used e)) handed
spend_hands {used} {handed} i e n = record {
  counted = λ k h m.
      upd-by used e (n ∷ used e) (λ k l. Mem h (handed k) → Mem h.num l) k
      (λ same o. there (i.counted e h (subst (λ (x : ℕ). Mem h (handed x)) same o))) (λ other o. i.counted k h o) m;
  once = i.once;
}

pub hand_hands : {used : ℕ → List ℕ} {handed : ℕ → List Handed} → Hands used handed → (e : ℕ) (h : Handed) → (Mem h.num (used e) → ⊥)
    → Hands (upd used e (h.num ∷ used e)) (upd handed e (h ∷ handed e))
hand_hands {used} {handed} i e x new = record {
  counted = λ k h.
      upd-by handed e (x ∷ handed e) (λ k l. Mem h l → Mem h.num (upd used e (x.num ∷ used e) k)) k
      (λ same m.
      subst (λ (j : ℕ). Mem h.num (upd used e (x.num ∷ used e) j)) (sym same)
      (subst (λ (l : List ℕ). Mem h.num l) (sym (upd_same used e (x.num ∷ used e)))
      (mem-by m (λ (p : h ≡ x). here (ap (λ (a : Handed). a.num) p)) (λ o. there (i.counted e h o)))))
      (λ other m. subst (λ (l : List ℕ). Mem h.num l) (sym (upd_other used e (x.num ∷ used e) k other)) (i.counted k h m));
  once = λ k.
      upd-by handed e (x ∷ handed e) (λ k l. Once l) k
      (λ same. (λ h m z. new (subst (λ (j : ℕ). Mem j (used e)) z (i.counted e h m)), i.once e)) (λ other. i.once k);
}

-- ---- fates are apart

pub settled≢down : {A : Type 0} → settled ≡ turnedDown → A
settled≢down e = let z : ◌≡◌ {A = ℕ} 0 1 = cc in absurd (omega arith)

pub underway≢down : {A : Type 0} → underway ≡ turnedDown → A
underway≢down e = let z : ◌≡◌ {A = ℕ} 0 1 = cc in absurd (omega arith)

pub underway≢settled : {A : Type 0} → underway ≡ settled → A
underway≢settled e = let z : ◌≡◌ {A = ℕ} 0 1 = cc in absurd (omega arith)

-- ---- a question is no plaintext or unopened reading

asks-neither : (r : Reading) → fate_of r ≡ underway → (SaysPlaintext r → ⊥) × (SaysUnopened r → ⊥)
asks-neither (says.Plaintext t n s l) e = (λ z. underway≢settled (sym e), λ z. z)
asks-neither (says.Unopened b n s l) e = (λ z. z, λ z. underway≢settled (sym e))
asks-neither says.Setting e = (λ z. z, λ z. z)
asks-neither says.Reply e = (λ z. z, λ z. z)
asks-neither says.End e = (λ z. z, λ z. z)
asks-neither says.Incomplete e = (λ z. z, λ z. z)
asks-neither says.TooMany e = (λ z. z, λ z. z)
asks-neither (says.Dropped r) e = (λ z. z, λ z. z)
asks-neither (says.Opened k n t s l) e = (λ z. z, λ z. z)
asks-neither (says.Mask k s) e = (λ z. z, λ z. z)
asks-neither (says.Opening k n s h l) e = (λ z. z, λ z. z)

asked-said : (t : Trial) (r : Reading) → fate_of r ≡ underway → Said t r → (x : Reading) → Said t x
asked-said t r e s x = record {
  plain = λ p. absurd ((asks-neither r e).0 (s.plain p));
  unopened = λ p. absurd ((asks-neither r e).1 (s.unopened p));
}

-- ---- and is asked of a record that is there

asks-there : (r : Reading) (rest : List ℕ) (n : ℕ) → fate_of r ≡ underway → Ends r rest n → There rest
asks-there (says.Mask k s) rest n e z = z
asks-there (says.Opening k m s h l) rest n e z = z
asks-there says.Setting rest n e z = underway≢down (sym e)
asks-there says.Reply rest n e z = underway≢down (sym e)
asks-there says.End rest n e z = underway≢settled (sym e)
asks-there says.Incomplete rest n e z = underway≢settled (sym e)
asks-there says.TooMany rest n e z = underway≢settled (sym e)
asks-there (says.Dropped r) rest n e z = underway≢settled (sym e)
asks-there (says.Plaintext t m s l) rest n e z = underway≢settled (sym e)
asks-there (says.Unopened b m s l) rest n e z = underway≢settled (sym e)
asks-there (says.Opened k m t s l) rest n e z = underway≢settled (sym e)

-- ---- a reading call that is not refused

abbrev pub Goes : Datagram → ℕ → Option ℕ → ℕ → Fate → Out → Type 0
Goes b size to end turnedDown o = ⊥
Goes b size to end underway o =
    (o.state.datagram.at ≡ b.at) × (o.state.datagram.readings ≡ b.readings)
    × Asked o.state.datagram.question b.at (question_in o.reading o.datagram) to end
Goes b size to end settled o =
    (o.state.datagram.question ≡ question.Nothing) × (o.state.datagram.at ≡ place_by o.reading b.readings size end)
    × (o.state.datagram.readings ≡ readings_by o.reading b.readings)

-- where the record ends and what it resolved to are the account's; the bytes keep their number
pub record Moves (b : Datagram) (d : List ℕ) (to : Option ℕ) (end : ℕ) (o : Out) : Type 0 where
  pub size : o.state.datagram.size ≡ b.size
  pub long : length o.datagram ≡ length d
  pub goes : Goes b (length d) to end (fate_of o.reading) o

pub moves-on : {b : Datagram} {d : List ℕ} {to : Option ℕ} {end : ℕ} {o : Out} → Moves b d to end o → fate_of o.reading ≡ turnedDown → ⊥
moves-on {b} {d} {to} {end} {o} s f = subst (λ z. Goes b (length d) to end z o) f s.goes

-- the keys but for marks
pub record SameKeys (k l : RecvKeys) : Type 0 where
  pub keyed : keyed_in l ≡ keyed_in k
  pub highest : l.highest ≡ k.highest
  pub encryption : l.peer_encryption ≡ k.peer_encryption
  pub released : l.released ≡ k.released

pub same_keys : {k : RecvKeys} → SameKeys k k
same_keys = record { keyed = refl; highest = refl; encryption = refl; released = refl }

asked-under : (q : Question) (at : ℕ) (w : Shown) (x : Trial) → Asked q at w x.resolved x.ends → UnderWay q at w (some x)
asked-under question.Nothing at w x z = absurd z
asked-under (question.Mask a) at w x z = (x, refl, z)
asked-under (question.Opening a n) at w x z = (x, refl, z)

-- one more reading call
pub more-spoken : (P : Spoken → Type 0) (s : Spoken) (l : List Spoken) → P s → ((c : Spoken) → Mem c l → P c) → (c : Spoken) → Mem c (s ∷ l) → P c
more-spoken P s l new old c m = mem-by m (λ (q : c ≡ s). subst P (sym q) new) (λ o. old c o)

module _ (y : Receiver) (i : Sound y) (deed : Deed) (o : Out) where
  pub more-proper : Proper deed y.account.waits o.reading → (c : Spoken) → Mem c (spoken_by y deed o ∷ y.spoken) → Proper c.deed c.waited c.reading
  more-proper p = more-spoken (λ c. Proper c.deed c.waited c.reading) (spoken_by y deed o) y.spoken p i.proper

  pub more-nonces : RightNonce o.reading y.account.ivs o.nonce
      → (c : Spoken) → Mem c (spoken_by y deed o ∷ y.spoken) → RightNonce c.reading c.ivs c.nonce
  more-nonces p = more-spoken (λ c. RightNonce c.reading c.ivs c.nonce) (spoken_by y deed o) y.spoken p i.nonces

  pub more-spared : Spares (spoken_by y deed o) → (c : Spoken) → Mem c (spoken_by y deed o ∷ y.spoken) → Spares c
  more-spared p = more-spoken Spares (spoken_by y deed o) y.spoken p i.spared

  pub more-judged : Judges (spoken_by y deed o) → (c : Spoken) → Mem c (spoken_by y deed o ∷ y.spoken) → Judges c
  more-judged p = more-spoken Judges (spoken_by y deed o) y.spoken p i.judged

-- a call that writes nothing
pub none_written : (y : Receiver) (deed : Deed) (o : Out) → o.datagram ≡ y.datagram → Spares (spoken_by y deed o)
none_written y deed o e = record { long = ap length e; bytes = λ j off. ap (λ (l : List ℕ). get_or l j 0) e }

-- ---- what a step leaves as it arrived

place-behind : (r : Reading) (n size end from : ℕ) → from ≤ size → from ≤ end → from ≤ place_by r n size end
place-behind says.TooMany n size end from s h = by_test (λ (x : ℕ). from ≤ x) (λ t. s) (λ t. h)
place-behind (says.Plaintext t m p l) n size end from s h = h
place-behind (says.Unopened b m p l) n size end from s h = h
place-behind (says.Opened e m t p l) n size end from s h = h
place-behind says.Setting n size end from s h = h
place-behind says.Reply n size end from s h = h
place-behind says.End n size end from s h = h
place-behind says.Incomplete n size end from s h = h
place-behind (says.Dropped r) n size end from s h = h
place-behind (says.Mask e p) n size end from s h = h
place-behind (says.Opening e m p k l) n size end from s h = h

-- a step that writes only in front of `from`, within the record or at its end; it asks a mask only where it writes nothing
module _ {b : Datagram} {d : List ℕ} {to : Option ℕ} {end : ℕ} {o : Out} (st : Moves b d to end o) (w : List ℕ) (long : length w ≡ length d) (from : ℕ)
    (lies : drop from o.datagram ≡ drop from w) (low : from ≤ end) (inside : from ≤ length d)
    (front : (a : Ask) → o.state.datagram.question ≡ question.Mask a → from ≤ b.at) where
  asked-behind : (q : Question) → o.state.datagram.question ≡ q → (at : ℕ) → at ≡ b.at → (v : Shown) → Asked q b.at v to end → from ≤ intact_from q at
  asked-behind question.Nothing e at same v z = absurd z
  asked-behind (question.Mask a) e at same v z = omega (arith, front a e)
  asked-behind (question.Opening a n) e at same v z = omega (arith, z.6)

  goes-behind : (f : Fate) → Goes b (length d) to end f o → from ≤ intact_from o.state.datagram.question o.state.datagram.at
  goes-behind turnedDown g = absurd g
  goes-behind underway g = asked-behind o.state.datagram.question refl o.state.datagram.at g.0 (question_in o.reading o.datagram) g.2
  goes-behind settled g =
      subst (λ (q : Question). from ≤ intact_from q o.state.datagram.at) (sym g.0)
      (subst (λ (n : ℕ). from ≤ n) (sym g.1) (place-behind o.reading b.readings (length d) end from inside low))

  goes-flag : FlagAsked o.state.datagram.question (get_or (drop b.at w) 0 0) → (f : Fate) → Goes b (length d) to end f o
      → FlagAsked o.state.datagram.question (get_or (drop o.state.datagram.at w) 0 0)
  goes-flag z turnedDown g = absurd g
  goes-flag z underway g = subst (λ (n : ℕ). FlagAsked o.state.datagram.question (get_or (drop n w) 0 0)) (sym g.0) z
  goes-flag z settled g = subst (λ (q : Question). FlagAsked q (get_or (drop o.state.datagram.at w) 0 0)) (sym g.0) tt

  pub step-intact : FlagAsked o.state.datagram.question (get_or (drop b.at w) 0 0) → Intact o.state.datagram o.datagram w
  step-intact flag = record {
    long = long ∙ sym st.long;
    lies = drops_on from (intact_from o.state.datagram.question o.state.datagram.at) o.datagram w (goes-behind (fate_of o.reading) st.goes) lies;
    flag = goes-flag flag (fate_of o.reading) st.goes;
  }

-- one that settles the record
module _ {b : Datagram} {d : List ℕ} {to : Option ℕ} {end : ℕ} {o : Out} (st : Moves b d to end o) (f : fate_of o.reading ≡ settled) where
  asks_none : o.state.datagram.question ≡ question.Nothing
  asks_none = (subst (λ z. Goes b (length d) to end z o) f st.goes).0

  pub settle_intact : (w : List ℕ) → length w ≡ length d → (from : ℕ) → drop from o.datagram ≡ drop from w → from ≤ end → from ≤ length d
      → Intact o.state.datagram o.datagram w
  settle_intact w long from lies low inside =
      step-intact st w long from lies low inside
      (λ a e. let p : question.Nothing ≡ question.Mask a = sym asks_none ∙ e in let z : ◌≡◌ {A = ℕ} 0 1 = cc in absurd (omega arith))
      (subst (λ (q : Question). FlagAsked q (get_or (drop b.at w) 0 0)) (sym asks_none) tt)

module _ (y : Receiver) (i : Sound y) (o : Out) (t : Trial) (u : Use) (deed : Deed)
    (st : Moves y.state.datagram y.datagram t.resolved t.ends o) (same : SameKeys y.state.keys o.state.keys)
    (made : Made o.state) (tab : Table o.state.keys (spent u y.used) y.account.ivs)
    (ask : FreshAsked o.state.keys o.state.datagram.question)
    (han : Hands (spent u y.used) (handed_by o.reading (shown_by o.reading o.datagram) y.handed))
    (pro : Proper deed y.account.waits o.reading) (non : RightNonce o.reading y.account.ivs o.nonce)
    (rea : Real o.reading t.plain t.encrypted) (int : Intact o.state.datagram o.datagram y.arrived)
    (spa : Spares (spoken_by y deed o)) (jud : Judges (spoken_by y deed o)) (sho : Shows o.reading t.rest (shown_by o.reading o.datagram))
    (sai : Said t o.reading) (sto : Ends o.reading t.rest t.count) (cou : t.count ≡ y.account.readings) where
  fate-sound : (f : Fate) → fate_of o.reading ≡ f → Goes y.state.datagram (length y.datagram) t.resolved t.ends f o → Sound (record {
    state = o.state;
    datagram = o.datagram;
    arrived = y.arrived;
    account = next_account f y.account o.reading (length y.arrived) (some t) (question_in o.reading o.datagram);
    used = spent u y.used;
    handed = handed_by o.reading (shown_by o.reading o.datagram) y.handed;
    trial = next_trial f y.trial (some t);
    tried = next_tried f o.reading (shown_by o.reading o.datagram) (some t) y.tried;
    spoken = spoken_by y deed o ∷ y.spoken;
    lost = y.lost;
  })
  fate-sound turnedDown q g = absurd g
  fate-sound underway q g = record {
    made = made;
    table = tab;
    asked = ask;
    hands = han;
    whole = st.long ∙ i.whole ∙ sym st.size;
    intact = int;
    tally = record {
      keyed = i.tally.keyed ∙ sym same.keyed;
      highest = i.tally.highest ∙ sym same.highest;
      encryption = i.tally.encryption ∙ sym same.encryption;
      released = i.tally.released ∙ sym same.released;
      place = i.tally.place ∙ sym g.0;
      readings = i.tally.readings ∙ sym g.1;
    };
    under = subst (λ n. UnderWay o.state.datagram.question n (question_in o.reading o.datagram) (some t)) (sym g.0)
        (asked-under o.state.datagram.question y.state.datagram.at (question_in o.reading o.datagram) t g.2);
    proper = more-proper y i deed o pro;
    nonces = more-nonces y i deed o non;
    spared = more-spared y i deed o spa;
    judged = more-judged y i deed o jud;
    lost = i.lost;
    real = i.real;
    shows = i.shows;
    said = i.said;
    later = λ a p r. subst (λ x. Said x r) (some_inj p) (asked-said t o.reading q sai r);
    stops = i.stops;
    waits = λ a p.
        subst (λ x. Waits x y.account.readings) (some_inj p) (record { there = asks-there o.reading t.rest t.count q sto; count = cou });
  }
  fate-sound settled q g = record {
    made = made;
    table = tab;
    asked = ask;
    hands = han;
    whole = st.long ∙ i.whole ∙ sym st.size;
    intact = int;
    tally = record {
      keyed = i.tally.keyed ∙ sym same.keyed;
      highest = i.tally.highest ∙ sym same.highest;
      encryption = i.tally.encryption ∙ sym same.encryption;
      released = i.tally.released ∙ sym same.released;
      place = ap (λ (n : ℕ). place_by o.reading n (length y.arrived) t.ends) i.tally.readings
          ∙ ap (λ (n : ℕ). place_by o.reading y.state.datagram.readings n t.ends) i.intact.long ∙ sym g.1;
      readings = ap (readings_by o.reading) i.tally.readings ∙ sym g.2;
    };
    under = subst (λ q. UnderWay q o.state.datagram.at nothing none) (sym g.0) (refl, refl);
    proper = more-proper y i deed o pro;
    nonces = more-nonces y i deed o non;
    spared = more-spared y i deed o spa;
    judged = more-judged y i deed o jud;
    lost = i.lost;
    real = λ d m.
        mem-by m
        (λ (p : d ≡ record { trial = t; reading = o.reading; shown = shown_by o.reading o.datagram }).
        subst (λ x. Real x.reading x.trial.plain x.trial.encrypted) (sym p) rea)
        (λ m'. i.real d m');
    shows = λ d m.
        mem-by m
        (λ (p : d ≡ record { trial = t; reading = o.reading; shown = shown_by o.reading o.datagram }).
        subst (λ x. Shows x.reading x.trial.rest x.shown) (sym p) sho)
        (λ m'. i.shows d m');
    said = λ d m.
        mem-by m
        (λ (p : d ≡ record { trial = t; reading = o.reading; shown = shown_by o.reading o.datagram }).
        subst (λ x. Said x.trial x.reading) (sym p) sai)
        (λ m'. i.said d m');
    later = λ a p. some≢none (sym p);
    stops = λ d m.
        mem-by m
        (λ (p : d ≡ record { trial = t; reading = o.reading; shown = shown_by o.reading o.datagram }).
        subst (λ x. Ends x.reading x.trial.rest x.trial.count) (sym p) sto)
        (λ m'. i.stops d m');
    waits = λ a p. some≢none (sym p);
  }

  pub step-sound : Sound (after y o (some t) u (question_in o.reading o.datagram) deed)
  step-sound = fate-sound (fate_of o.reading) refl st.goes
