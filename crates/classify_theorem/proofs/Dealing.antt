-- A call that deals with a reading tells what the account owes, and leaves what the account has. Assumes nothing.
use Rattle.std.specs.Prelude.{Bool, true, false, ◌≡◌, refl, ℕ, ◌+◌, ◌≤◌, leb, eqb, length}
use Rattle.std.proofs.lemmas.Bool.{false≢true}
use mathlib.Core.List.Memᴰ.{head as here}
use mathlib.Core.List.Memᴰ.{tail as there}
use mathlib.Core.List.{List, ◌∷◌, Memᴰ as Mem}
use Rattle.std.proofs.Math.Option.{Option, none, some}
use Rattle.std.proofs.Math.Path.{sym, ap}
use Rattle.std.proofs.Common.{subst, ◌∙◌, arith, eq-eqb, ne_eqb, le-leb}
use Rattle.base.specs.Choose.{both, either, by_test, if_true, if_false, both_true, either_true, either-false}
use Rattle.base.specs.Parts.{part}
use Rattle.datagram.specs.declared.Reading.TheVariants as says
use Rattle.datagram.specs.declared.Reading.{Reading}
use Rattle.opening_reply.specs.Opening as told
use Rattle.receiving.specs.Laws.{made-sound}
use Rattle.receiving.specs.Receiving.{sound}
use Rattle.receiving.specs.Within.{Within}
use Rattle.classify.specs.Classify as program
use Rattle.classify.specs.Classify.{words, kind_of, plaintext-kind, opened-kind, is_inside, is_sound, alert_as, by_type, class_of, content_of, classified, words_after}
use Rattle.classify.specs.declared.Class.{Class}
use Rattle.classify.specs.declared.Class.TheVariants as class
use Rattle.history_theorem.proofs.Lists.{some_inj, some≢none, mem-by}
use Rattle.history_theorem.specs.Receiver.{Tried, Receiver}
use Rattle.history_theorem.proofs.Sound.{Sound}
use Rattle.classify_theorem.specs.Account.{Pending, Place, Account, Verdict, turned, place_of, reading_owed, Reply, bare, owed_by, owed, close_by, deals_by}
use Rattle.classify_theorem.proofs.Answers.{reading-is}
use Rattle.classify_theorem.specs.Claim.{Told, Dealt, Dealings, verdict_of, reply_of, class_at, enters_as, classifies, classifies_over, turn_by, turns_told, one_waits, Is, Kept, was-dealt, was-missed, still-waits}
use Rattle.classify_theorem.proofs.Words.{Holds, Says, Waits, Closes, same-close, clear-spares, clear-waits, closings}
use Rattle.classify_theorem.proofs.Story.{Lies, Newest, one, Story}

-- ---- one thing more in a list

more : {A : Type 0} (P : A → Type 0) (x : A) (xs : List A) → P x → ((z : A) → Mem z xs → P z) → (z : A) → Mem z (x ∷ xs) → P z
more P x xs new old z m = mem-by m (λ (e : z ≡ x). subst P (sym e) new) (λ o. old z o)

-- ---- a reading that waits is dealt with

abbrev is_dealt : Class → Bool
is_dealt class.Setting = false
is_dealt class.Reply = false
is_dealt class.Nothing = false
is_dealt class.Beyond = true
is_dealt class.Unprotected = true
is_dealt class.Ignored = true
is_dealt class.Ack = true
is_dealt class.Close = true
is_dealt (class.Alert x) = true
is_dealt class.Handshake = true
is_dealt class.ApplicationData = true
is_dealt class.Other = true
is_dealt class.Unopened = true

abbrev Deals : Class → Type 0
Deals k = is_dealt k ≡ true

alert-deals : (closed : Bool) (c : List ℕ) → Deals (alert_as closed c)
unfolding alert_as
alert-deals closed c =
    by_test Deals (λ t. refl) (λ t. by_test Deals (λ u. by_test Deals (λ v. refl) (λ v. refl)) (λ u. by_test Deals (λ v. refl) (λ v. refl)))

type-deals : (plain closed : Bool) (t : ℕ) (c : List ℕ) → Deals (by_type plain closed t c)
unfolding by_type
type-deals plain closed t c =
    by_test Deals (λ a. by_test Deals (λ b. refl) (λ b. refl))
    (λ a. by_test Deals (λ b. alert-deals closed c)
    (λ b. by_test Deals (λ e. refl) (λ e. by_test Deals (λ f. refl) (λ f. by_test Deals (λ g. refl) (λ g. refl)))))

class_deals : (w : List ℕ) (on : Bool) (c : List ℕ) → Deals (class_of w on c)
unfolding class_of
class_deals w on c =
    by_test Deals (λ a. refl) (λ a. by_test Deals (λ b. refl) (λ b. by_test Deals (λ e. refl) (λ e. type-deals _ _ _ c)))

-- and counts as one
counts : (k : Class) (c : List ℕ) → Deals k → turn_by (reply_of k c).verdict ≡ 1
counts class.Setting c e = absurd (false≢true e)
counts class.Reply c e = absurd (false≢true e)
counts class.Nothing c e = absurd (false≢true e)
counts class.Beyond c e = refl
counts class.Unprotected c e = refl
counts class.Ignored c e = refl
counts class.Ack c e = refl
counts class.Close c e = refl
counts (class.Alert x) c e = refl
counts class.Handshake c e = refl
counts class.ApplicationData c e = refl
counts class.Other c e = refl
counts class.Unopened c e = refl

-- its answer shows its bytes
shows : (k : Class) (c : List ℕ) → Deals k → reply_of k c ≡ record { verdict = verdict_of k; content = c }
shows class.Setting c e = absurd (false≢true e)
shows class.Reply c e = absurd (false≢true e)
shows class.Nothing c e = absurd (false≢true e)
shows class.Beyond c e = refl
shows class.Unprotected c e = refl
shows class.Ignored c e = refl
shows class.Ack c e = refl
shows class.Close c e = refl
shows (class.Alert x) c e = refl
shows class.Handshake c e = refl
shows class.ApplicationData c e = refl
shows class.Other c e = refl
shows class.Unopened c e = refl

-- ---- the words behind it

pub record After (w v : List ℕ) (o : Option Place) : Type 0 where
  pub long : length v ≡ words
  pub waits : kind_of v ≡ 0
  pub close : Closes v o

module _ (w : List ℕ) (close : Option Place) (h : length w ≡ words) (q : Closes w close) where
  clears : After w (program.cleared w) close
  clears = record { long = (clear-spares w h).long ∙ h; waits = clear-waits w h; close = same-close (clear-spares w h) close q }

  place_is : (r : Reading) → Says r w → (program.epoch_of w ≡ (place_of r).epoch) × (program.number_of w ≡ (place_of r).number)
  place_is (says.Plaintext t n s l) x = (x.epoch, x.number)
  place_is (says.Unopened b n s l) x = (x.epoch, x.number)
  place_is (says.Opened e n t s l) x = (x.epoch, x.number)
  place_is says.Setting x = absurd x
  place_is says.Reply x = absurd x
  place_is says.End x = absurd x
  place_is says.Incomplete x = absurd x
  place_is says.TooMany x = absurd x
  place_is (says.Dropped r) x = absurd x
  place_is (says.Mask e s) x = absurd x
  place_is (says.Opening e n s g l) x = absurd x

  remembers : (r : Reading) → Says r w → After w (program.closing w) (some (place_of r))
  remembers r x =
      let z = closings w h in
      let p = place_is r x in
      record { long = z.long ∙ h; waits = z.waits; close = (z.closed, z.epoch ∙ p.0, z.number ∙ p.1) }

  after-words : (k : Class) (r : Reading) → Deals k → Says r w → After w (words_after k w) (close_by (verdict_of k) r close)
  after-words class.Setting r e x = absurd (false≢true e)
  after-words class.Reply r e x = absurd (false≢true e)
  after-words class.Nothing r e x = absurd (false≢true e)
  after-words class.Beyond r e x = clears
  after-words class.Unprotected r e x = clears
  after-words class.Ignored r e x = clears
  after-words class.Ack r e x = clears
  after-words class.Close r e x = remembers r x
  after-words (class.Alert d) r e x = clears
  after-words class.Handshake r e x = clears
  after-words class.ApplicationData r e x = clears
  after-words class.Other r e x = clears
  after-words class.Unopened r e x = clears

-- ---- words that stand for an account are in range

flag-fits : (w : List ℕ) (close : Option Place) → Closes w close → leb (program.closed_of w) 1 ≡ true
flag-fits w none h = le-leb (program.closed_of w) 1 (omega (arith, h))
flag-fits w (some c) h = let z = h.0 in le-leb (program.closed_of w) 1 (omega (arith, z))

-- the test of the reading that waits, over n bytes
abbrev reading-fits : ℕ → List ℕ → Bool
reading-fits n w = either (eqb (kind_of w) 0) (both (both (leb plaintext-kind (kind_of w)) (leb (kind_of w) opened-kind)) (is_inside n w))

reading-of : (k t e m s l n : ℕ) (w : List ℕ) → Holds k t e m s l w → plaintext-kind ≤ k → k ≤ opened-kind → s + l ≤ n → reading-fits n w ≡ true
unfolding is_inside
reading-of k t e m s l n w q low high within =
    let z = q.kind in
    let f = q.start in
    let g = q.size in
    either-false (ne_eqb (kind_of w) 0 (λ x. omega (arith, x, z, low)))
    ∙ both_true (both_true (le-leb plaintext-kind (kind_of w) (omega (arith, z, low))) ∙ le-leb (kind_of w) opened-kind (omega (arith, z, high)))
    ∙ both_true (le-leb (program.start_of w) n (omega (arith, f, within))) ∙ le-leb (program.length_of w) _ (omega (arith, f, g, within))

waits-fits : (w d : List ℕ) (o : Option Pending) → Waits w o → Lies o d → reading-fits (length d) w ≡ true
waits-fits w d none h l = either_true _ (eq-eqb _ _ h)
waits-fits w d (some p) h l = by p.reading h l.1
  where
    by : (r : Reading) → Says r w → Within (length d) r → reading-fits (length d) w ≡ true
    by (says.Plaintext t n s l) x f = reading-of _ _ _ _ s l _ w x (omega arith) (omega arith) f
    by (says.Unopened b n s l) x f = reading-of _ _ _ _ s l _ w x (omega arith) (omega arith) f
    by (says.Opened e n t s l) x f = reading-of _ _ _ _ s l _ w x (omega arith) (omega arith) f
    by says.Setting x f = absurd x
    by says.Reply x f = absurd x
    by says.End x f = absurd x
    by says.Incomplete x f = absurd x
    by says.TooMany x f = absurd x
    by (says.Dropped r) x f = absurd x
    by (says.Mask e s) x f = absurd x
    by (says.Opening e n s g l) x f = absurd x

pub in-range : (w d : List ℕ) (a : Account) → Waits w a.pending → Closes w a.close → Lies a.pending d → is_sound (length d) w ≡ true
unfolding is_sound
in-range w d a h q l = both_true (waits-fits w d a.pending h l) ∙ flag-fits w a.close q

-- what the words show of the datagram is what the reading showed
content-is : (w d : List ℕ) (r : Reading) → Says r w → content_of w d ≡ told.shown_by r d
content-is w d (says.Plaintext t n s l) x = ap (λ (i : ℕ). part i (program.length_of w) d) x.start ∙ ap (λ (i : ℕ). part s i d) x.size
content-is w d (says.Unopened b n s l) x = ap (λ (i : ℕ). part i (program.length_of w) d) x.start ∙ ap (λ (i : ℕ). part s i d) x.size
content-is w d (says.Opened e n t s l) x = ap (λ (i : ℕ). part i (program.length_of w) d) x.start ∙ ap (λ (i : ℕ). part s i d) x.size
content-is w d says.Setting x = absurd x
content-is w d says.Reply x = absurd x
content-is w d says.End x = absurd x
content-is w d says.Incomplete x = absurd x
content-is w d says.TooMany x = absurd x
content-is w d (says.Dropped r) x = absurd x
content-is w d (says.Mask e s) x = absurd x
content-is w d (says.Opening e n s g l) x = absurd x

-- ---- the call

module _ (p : Dealings) (y : Receiver) (i : Sound y) (s : Story p y) where
  abbrev a : Account
  a = p.account

  abbrev on : Bool
  on = y.account.encryption

  abbrev w : List ℕ
  w = p.words

  fits : both (sound y.state) (is_sound y.state.datagram.size w) ≡ true
  fits =
      both_true (made-sound y.state i.made)
      ∙ ap (λ (n : ℕ). is_sound n w) (sym i.whole) ∙ in-range w y.datagram a s.stands.waits s.stands.close s.stands.lies

  -- over a datagram of another length: 15
  pub over_class : (d : List ℕ) → (length d ≡ length y.datagram → ⊥) → classified w y.state d ≡ class.Reply
  unfolding classified
  over_class d ne = if_true _ _ fits ∙ if_false _ _ (ne_eqb _ _ (λ e. ne (e ∙ sym i.whole)))

  -- none waits
  pub none_class : a.pending ≡ none → class_at p y ≡ class.Nothing
  unfolding classified
  none_class e =
      if_true _ _ fits ∙ if_true _ _ (eq-eqb _ _ i.whole) ∙ if_true _ _ (eq-eqb _ _ (subst (Waits w) e s.stands.waits))

  abbrev c : List ℕ
  c = content_of w y.datagram

  -- one waits
  some_class : (x : Pending) → a.pending ≡ some x → class_at p y ≡ class_of w on c
  unfolding classified
  some_class x e =
      if_true _ _ fits ∙ if_true _ _ (eq-eqb _ _ i.whole)
      ∙ if_false _ _ (ne_eqb _ _ (λ z. busy x.reading (subst (Waits w) e s.stands.waits) z))
      ∙ ap (λ (b : Bool). class_of w b c) (sym i.tally.encryption)
    where
      busy : (r : Reading) → Says r w → kind_of w ≡ 0 → ⊥
      busy (says.Plaintext t n f l) q z = omega (arith, q.kind, z)
      busy (says.Unopened b n f l) q z = omega (arith, q.kind, z)
      busy (says.Opened k n t f l) q z = omega (arith, q.kind, z)
      busy says.Setting q z = q
      busy says.Reply q z = q
      busy says.End q z = q
      busy says.Incomplete q z = q
      busy says.TooMany q z = q
      busy (says.Dropped r) q z = q
      busy (says.Mask k f) q z = q
      busy (says.Opening k n f g l) q z = q

  -- ---- what follows where one waits

  module _ (x : Pending) (e : a.pending ≡ some x) where
    pub says-x : Says x.reading w
    says-x = subst (Waits w) e s.stands.waits

    pub shown-x : c ≡ x.shown
    shown-x = content-is w y.datagram x.reading says-x ∙ sym (subst (λ (o : Option Pending). Lies o y.datagram) e s.stands.lies).0

    dealt-x : Deals (class_at p y)
    dealt-x = subst Deals (sym (some_class x e)) (class_deals w on c)

    pub verdict-x : verdict_of (class_at p y) ≡ reading_owed a.close on x.reading x.shown
    verdict-x =
        ap verdict_of (some_class x e) ∙ reading-is w a.close on c s.stands.close x.reading says-x
        ∙ ap (reading_owed a.close on x.reading) shown-x

    abbrev due : Reply
    due = record { verdict = reading_owed a.close on x.reading x.shown; content = x.shown }

    pub reply-x : reply_of (class_at p y) c ≡ due
    reply-x =
        shows (class_at p y) c dealt-x
        ∙ ap (λ (v : Verdict). record { verdict = v; content = c }) verdict-x
        ∙ ap (λ (l : List ℕ). record { verdict = reading_owed a.close on x.reading x.shown; content = l }) shown-x

    after-x : After w (words_after (class_at p y) w) (close_by due.verdict x.reading a.close)
    after-x =
        subst (λ (v : Verdict). After w (words_after (class_at p y) w) (close_by v x.reading a.close)) verdict-x
        (after-words w a.close s.stands.long s.stands.close (class_at p y) x.reading dealt-x says-x)

    -- the account behind it, by the reading
    abbrev b : Account
    b = deals_by a (some x) due.verdict

    abbrev entry : Dealt
    entry = record { pending = x; close = a.close; encryption = on; reply = reply_of (class_at p y) c }

    abbrev z : Dealings
    z = record {
      words = words_after (class_at p y) w;
      account = b;
      told = record { reply = reply_of (class_at p y) c; owed = due } ∷ p.told;
      dealt = entry ∷ p.dealt;
      missed = p.missed;
    }

    kept-x : (d : Tried) → Kept p d → Kept z d
    kept-x d (was-dealt v m j) = was-dealt v (there m) j
    kept-x d (was-missed v m j) = was-missed v m j
    kept-x d (still-waits v f j) =
        let same : v ≡ x = some_inj (sym f ∙ e) in
        was-dealt entry (here refl) (record { reading = j.reading ∙ ap (λ (u : Pending). u.reading) same; shown = j.shown ∙ ap (λ (u : Pending). u.shown) same })

    one-more : a.turns + 1 ≤ y.account.readings
    one-more = subst (λ (o : Option Pending). a.turns + one o ≤ y.account.readings) e s.stands.turns

    counted-x : turns_told p.told + length p.missed + 1 ≡ a.made
    counted-x = subst (λ (o : Option Pending). turns_told p.told + length p.missed + one_waits o ≡ a.made) e s.counted

    newest-x : Newest (some x) a.made p.dealt
    newest-x = subst (λ (o : Option Pending). Newest o a.made p.dealt) e s.newest

    dealt_story : Story z y
    dealt_story =
        let l = one-more in
        let n = newest-x.0 in
        record {
          stands = record { long = after-x.long; waits = after-x.waits; close = after-x.close; lies = tt; idle = tt; turns = omega arith };
          newest = tt;
          answers = more (λ (t : Told). t.reply ≡ t.owed) _ p.told reply-x s.answers;
          right =
              more (λ (v : Dealt). v.reply ≡ record { verdict = reading_owed v.close v.encryption v.pending.reading v.pending.shown; content = v.pending.shown })
              entry p.dealt reply-x s.right;
          once = (omega arith, newest-x.1);
          counted = omega (arith, counts (class_at p y) c dealt-x, counted-x);
          none-lost = λ d m r. kept-x d (s.none-lost d m r);
          from_read = more (λ (v : Dealt). (d : Tried) × Mem d y.tried × Is d v.pending) entry p.dealt (s.waits-read x e) s.from_read;
          waits-read = λ v f. some≢none (sym f);
        }

  -- ---- any call

  abbrev Behind : Option Pending → Dealings
  Behind o = record {
    words = words_after (class_at p y) w;
    account = deals_by a o (owed_by a.close on o).verdict;
    told = record { reply = reply_of (class_at p y) c; owed = owed_by a.close on o } ∷ p.told;
    dealt = enters_as a on (reply_of (class_at p y) c) o p.dealt;
    missed = p.missed;
  }

  -- one more told, and nothing else
  abbrev telling : List ℕ → Reply → Reply → Dealings
  telling v r o = record { words = v; account = a; told = record { reply = r; owed = o } ∷ p.told; dealt = p.dealt; missed = p.missed }

  kept-told : (v : List ℕ) (r o : Reply) (d : Tried) → Kept p d → Kept (telling v r o) d
  kept-told v r o d (was-dealt x m j) = was-dealt x m j
  kept-told v r o d (was-missed x m j) = was-missed x m j
  kept-told v r o d (still-waits x f j) = still-waits x f j

  told_same : (r o : Reply) → turn_by r.verdict ≡ 0 → r ≡ o → Story (telling w r o) y
  told_same r o t q = record {
    stands = s.stands;
    newest = s.newest;
    answers = more (λ (t : Told). t.reply ≡ t.owed) _ p.told q s.answers;
    right = s.right;
    once = s.once;
    counted = omega (arith, t, s.counted);
    none-lost = λ d m z. kept-told w r o d (s.none-lost d m z);
    from_read = s.from_read;
    waits-read = s.waits-read;
  }

  idle_story : a.pending ≡ none → Story (Behind none) y
  idle_story e =
      subst (λ (k : Class). Story (telling (words_after k w) (reply_of k c) (owed_by a.close on none)) y) (sym (none_class e)) (told_same _ _ refl refl)

  by-waiting : (o : Option Pending) → a.pending ≡ o → Story (Behind o) y
  by-waiting none e = idle_story e
  by-waiting (some x) e = dealt_story x e

  pub classify_story : Story (classifies p y) y
  classify_story = by-waiting a.pending refl

  -- over bytes of another length
  pub over_story : (d : List ℕ) → (length d ≡ length y.datagram → ⊥) → Story (classifies_over p y d) y
  over_story d ne =
      subst (λ (k : Class). Story (telling (words_after k w) (reply_of k (content_of w d)) (bare (turned 15))) y) (sym (over_class d ne)) (told_same _ _ refl refl)

  -- what is told is what is owed
  pub classify_reply : reply_of (class_at p y) c ≡ owed a on
  classify_reply = reply-by a.pending refl
    where
      reply-by : (o : Option Pending) → a.pending ≡ o → reply_of (class_at p y) c ≡ owed_by a.close on o
      reply-by none e = ap (λ (k : Class). reply_of k c) (none_class e)
      reply-by (some x) e = reply-x x e
