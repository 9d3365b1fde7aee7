-- Keying, removing, the flags, beginning, leaving the rest of a datagram, the host's writing and calls over other bytes keep what holds between
-- state, account and history, and are told the numbers that the account owes them; a fresh end has it. Assumes nothing.
use Rattle.std.specs.Prelude.{ℕ, zero, suc, ◌+◌, ◌-◌, ◌<◌, ◌≤◌, eqb, leb, ltb, length, get_or, Bool, true, false, ◌≡◌, Some, None, Ok, Err}
use borrow.Author.Tests.{eqb-true, eqb-false, leb-true, leb-false, ltb-false, eq-eqb, ne_eqb}
use mathlib.Core.List.{List, ◌∷◌}
use Rattle.std.proofs.Math.Option.{Option, none, some}
use Rattle.std.proofs.Math.Path.{refl, sym, ap, subst}
use Rattle.std.proofs.Common.{◌∙◌, add-one, arith}
use Rattle.base.specs.Choose.{choose, if_true, if_false, by_test, test_cases, either_true, either-false}
use Rattle.base.specs.Parts.{length-splice}
use Rattle.classify.specs.Classify.{finished}
use Rattle.classify.proofs.Laws.{finished-idle, finished-masked, finished-opening, finished-made, finished-ends}
use Rattle.datagram.specs.Datagram.{begun as started, moved, end_asked}
use Rattle.datagram.specs.Sound.{held_open}
use Rattle.datagram.specs.declared.Ask.{Ask}
use Rattle.datagram.specs.declared.Datagram.{Datagram}
use Rattle.datagram.specs.declared.Question.TheVariants as question
use Rattle.datagram.specs.declared.Question.{Question}
use Rattle.datagram.specs.declared.Reading.TheVariants as says
use Rattle.opening_reply.specs.Opening.{cancelled_ask, cancelled}
use Rattle.opening_reply.specs.declared.Cancelled.{Cancelled}
use Rattle.receiving.specs.Calls.Call.{keying, removing, encrypting, releasing, beginning}
use Rattle.receiving.specs.Laws.{Made, fresh-made, after-made, made-sound}
use Rattle.receiving.specs.Leads.{remove_none, remove_at}
use Rattle.receiving.specs.Receiving.{answer_number, sound, kept, made, fresh_of, key_of, leaving, remove_of, encrypt_of, release_of, begin_of, Answer}
use Rattle.receiving.specs.declared.Done.TheVariants as done
use Rattle.receiving.specs.declared.Refusal.TheVariants as refusal
use Rattle.receiving.specs.declared.Kept.{Kept}
use Rattle.receiving.specs.declared.Receiving.{Receiving}
use Rattle.recv_keys.specs.Keeps.{found-epoch, installed-other, installed-last, left-keyed}
use Rattle.recv_keys.specs.Keys.{no_entry, entry_at, find, was_found, is_keyed, fresh, is_full, installed, left, Found}
use Rattle.recv_keys.specs.Laws.{found-keyed}
use Rattle.recv_keys.specs.declared.RecvEpochEntry.{RecvEpochEntry}
use Rattle.recv_keys.specs.declared.RecvKeys.{RecvKeys}
use Rattle.window.specs.Window.{verdict}
use Rattle.window.specs.declared.Verdict.TheVariants.{Fresh}
use Rattle.history_theorem.specs.Account.{Shown, nothing, Account, is_in, without, owed_by, key_owed, with_key, keys}
use Rattle.history_theorem.proofs.Lists.{by_both, some≢none, mem-by, drops_on, splice-behind}
use Rattle.history_theorem.proofs.Reading.{is_found, unasked}
use Rattle.history_theorem.specs.Receiver.{Trial, Receiver, with_state, flagged, unkeyed, loses, is_the, removed_from, removed, loses_owed, remove_owed, starts_on, begun, begin_owed, leaves_rest, finishes, written_in, wrote, read_out, new_inbound}
use Rattle.history_theorem.proofs.Sound.{UnderWay, FreshAsked, intact_from, Intact, Sound}
use Rattle.history_theorem.proofs.Table.{keyed_in, find_in, full_same, keyed-installed, installed-table, keyed-left, left-table, one_place, was, stood}
use Rattle.history_theorem.proofs.Ends.{ends-sound}

-- what such a call leaves of the record under way: all, or nothing
pub data Leaves (y : Receiver) : Receiver → Type 0 where
  as_was : (s : Receiving) (a : Account) → s.datagram ≡ y.state.datagram → a.waits ≡ y.account.waits → Leaves y (with_state y s a)
  no_more : (z : Receiver) → z.trial ≡ none → z.handed ≡ y.handed → z.tried ≡ y.tried → Leaves y z

abbrev pub Fine : Receiver → Receiver → Type 0
Fine y z = Sound z × Leaves y z

-- the fresh number under an opening question, in a table that keeps its window
pub fresh_keeps : (k l : RecvKeys) → ((x j : ℕ) → find k.entries x k.count ≡ Some j
    → (m : ℕ) × (find l.entries x l.count ≡ Some m) × (entry_at l m ≡ entry_at k j)) → (q : Question) → FreshAsked k q → FreshAsked l q
fresh_keeps k l f question.Nothing a = tt
fresh_keeps k l f (question.Mask x) a = tt
fresh_keeps k l f (question.Opening x n) a =
    let g = f x.epoch a.0 a.1 in
    (g.0, g.1, subst (λ (e : RecvEpochEntry). verdict e.replay n ≡ Fresh) (sym g.2) a.2)

-- ---- keying

find-same : (l m : List RecvEpochEntry) (x n : ℕ) → ((j : ℕ) → j < n → get_or l j no_entry ≡ get_or m j no_entry) → find l x n ≡ find m x n
unfolding find
find-same l m x zero f = refl
find-same l m x (suc n) f =
    ap (λ (e : RecvEpochEntry). choose (eqb e.epoch x) (Some n) (find l x n)) (f n (omega arith))
    ∙ ap (λ (r : Found). choose (eqb (get_or m n no_entry).epoch x) (Some n) r) (find-same l m x n (λ j h. f j (omega arith)))

find-step : (l : List RecvEpochEntry) (x n : ℕ) → ((get_or l n no_entry).epoch ≡ x → ⊥) → find l x (suc n) ≡ find l x n
unfolding find
find-step l x n ne = if_false _ _ (ne_eqb _ _ ne)

module _ (y : Receiver) (i : Sound y) where
  abbrev k : RecvKeys
  k = y.state.keys

  abbrev b : Datagram
  b = y.state.datagram

  in-range : sound y.state ≡ true
  in-range = made-sound y.state i.made

  same-sound : (s : Receiving) (a : Account) → s ≡ y.state → a ≡ y.account → Sound (with_state y s a)
  same-sound s a p q = subst (λ x. Sound (with_state y x a)) (sym p) (subst (λ x. Sound (with_state y y.state x)) (sym q) i)

  module _ (e : ℕ) (iv : List ℕ) where
    -- the number owed, over the table's epochs
    owed-is : (n : ℕ) → owed_by k.highest (keyed_in k) e ≡ n → key_owed y.account e ≡ n
    unfolding key_owed
    owed-is n h = rw (i.tally.keyed, i.tally.highest) h

    -- refused with a number that is owed, or done
    pub key_cases : {C : Type 0}
        → ((a : Answer) → key_of y.state e iv ≡ kept y.state a → key_owed y.account e ≡ answer_number a → (answer_number a ≡ 0 → ⊥) → C)
        → (2 ≤ e → k.highest < e → is_full k e ≡ false → key_owed y.account e ≡ 0
        → key_of y.state e iv ≡ made (Ok done.Asked) (installed k e iv) b → C)
        → C
    unfolding key_of
    key_cases refuses keyed =
        test_cases (ltb e 2)
        (λ t. refuses (Err refusal.Unusable) (if_true _ _ in-range ∙ if_true _ _ t) (owed-is 13 (if_true _ _ (either_true _ t))) (λ z. omega arith))
        (λ t. test_cases (leb e k.highest)
        (λ u.
        refuses (Err refusal.Unusable) (if_true _ _ in-range ∙ if_false _ _ t ∙ if_true _ _ u) (owed-is 13 (if_true _ _ (either-false t ∙ u))) (λ z. omega arith))
        (λ u.
        let new = leb-false e k.highest u in
        let full = full_same k y.used y.account.ivs i.table e new in
        test_cases (is_full k e)
        (λ v.
        refuses (Err refusal.Full) (if_true _ _ in-range ∙ if_false _ _ t ∙ if_false _ _ u ∙ if_true _ _ v)
        (owed-is 23 (if_false _ _ (either-false t ∙ u) ∙ if_true _ _ (sym full ∙ v))) (λ z. omega arith))
        (λ v.
        keyed (ltb-false e 2 t) new v (owed-is 0 (if_false _ _ (either-false t ∙ u) ∙ if_false _ _ (sym full ∙ v)))
        (if_true _ _ in-range ∙ if_false _ _ t ∙ if_false _ _ u ∙ if_false _ _ v))))

    pub key_told : answer_number (key_of y.state e iv).answer ≡ key_owed y.account e
    key_told =
        key_cases (λ a s owed ne. ap (λ (r : Kept). answer_number r.answer) s ∙ sym owed)
        (λ low new room owed s. ap (λ (r : Kept). answer_number r.answer) s ∙ sym owed)

    refused_key : eqb (key_owed y.account e) 0 ≡ false → (key_of y.state e iv).state ≡ y.state → Sound (with_state y (key_of y.state e iv).state (keys y.account e iv))
    unfolding keys
    refused_key u s = same-sound _ _ s (if_false _ _ u)

    find-new : k.highest < e → is_full k e ≡ false → (x j : ℕ) → find k.entries x k.count ≡ Some j
        → (m : ℕ) × (find (installed k e iv).entries x (installed k e iv).count ≡ Some m) × (entry_at (installed k e iv) m ≡ entry_at k j)
    unfolding installed
    find-new new room x j f =
        let long = i.made.long in
        let within = found-keyed k.entries x k.count j f in (
          j,
          ap (find (installed k e iv).entries x) (add-one k.count)
              ∙ find-step (installed k e iv).entries x k.count
              (λ z.
              omega (arith, ap (λ (r : RecvEpochEntry). r.epoch) (installed-last k e iv long room), z, i.table.below j within, found-epoch k.entries x k.count j f))
              ∙ find-same (installed k e iv).entries k.entries x k.count (λ m h. installed-other k e iv long room m h) ∙ f,
          installed-other k e iv long room j within,
        )

    new_key : 2 ≤ e → k.highest < e → is_full k e ≡ false → eqb (key_owed y.account e) 0 ≡ true
        → (key_of y.state e iv).state ≡ record { keys = installed k e iv; datagram = b }
        → Sound (with_state y (key_of y.state e iv).state (keys y.account e iv))
    unfolding keys
    new_key low new room u s =
        subst (λ x. Sound (with_state y (key_of y.state e iv).state x)) (sym (if_true _ _ u))
        (subst (λ x. Sound (with_state y x (with_key y.account e iv))) (sym s) (record {
          made = subst Made s (after-made (keying e iv) y.state i.made);
          table = installed-table k y.used y.account.ivs i.table e iv i.made.long room new low;
          asked = fresh_keeps k (installed k e iv) (find-new new room) b.question i.asked;
          hands = i.hands;
          tally = record {
            keyed = ap (λ (l : List ℕ). e ∷ l) i.tally.keyed ∙ sym (keyed-installed k y.used y.account.ivs i.table e iv i.made.long room);
            highest = unfold installed in refl;
            encryption = unfold installed in i.tally.encryption;
            released = unfold installed in i.tally.released;
            place = i.tally.place;
            readings = i.tally.readings;
          };
          whole = i.whole;
          intact = i.intact;
          under = i.under;
          proper = i.proper;
          nonces = i.nonces;
          spared = i.spared;
          judged = i.judged;
          lost = i.lost;
          real = i.real;
          shows = i.shows;
          said = i.said;
          later = i.later;
          stops = i.stops;
          waits = i.waits;
        }))

    pub key_sound : Sound (with_state y (key_of y.state e iv).state (keys y.account e iv))
    key_sound =
        key_cases (λ a s owed ne. refused_key (ne_eqb _ 0 (λ z. ne (sym owed ∙ z))) (state s))
        (λ low new room owed s. new_key low new room (eq-eqb _ 0 owed) (state s))
      where
        state : {x z : Kept} → x ≡ z → x.state ≡ z.state
        state p = ap (λ (r : Kept). r.state) p

    key_datagram : (key_of y.state e iv).state.datagram ≡ b
    unfolding key_of
    key_datagram =
        by_test (λ (r : Kept). r.state.datagram ≡ b)
        (λ t. by_test (λ (r : Kept). r.state.datagram ≡ b) (λ u. refl)
        (λ u. by_test (λ (r : Kept). r.state.datagram ≡ b) (λ v. refl) (λ v. by_test (λ (r : Kept). r.state.datagram ≡ b) (λ x. refl) (λ x. refl))))
        (λ t. refl)

    key_waits : (keys y.account e iv).waits ≡ y.account.waits
    unfolding keys
    key_waits = by_test (λ (r : Account). r.waits ≡ y.account.waits) (λ t. refl) (λ t. refl)

    pub key_fine : Fine y (with_state y (key_of y.state e iv).state (keys y.account e iv))
    key_fine = (key_sound, as_was _ _ key_datagram key_waits)

  -- ---- peer encryption and release

  abbrev flags : Bool → Bool → RecvKeys
  flags on out = record {
    entries = k.entries;
    count = k.count;
    highest = k.highest;
    peer_encryption = on;
    released = out;
    min_protected = k.min_protected;
  }

  flags-fine : (on out on' out' : Bool) (s : Receiving) → s ≡ record { keys = flags on out; datagram = b } → Made s → on' ≡ on → out' ≡ out
      → Fine y (with_state y s (flagged y.account on' out'))
  flags-fine on out on' out' s e m p q = (
    subst (λ x. Sound (with_state y x (flagged y.account on' out'))) (sym e) (record {
      made = subst Made e m;
      table = record {
        agrees = i.table.agrees;
        iv = i.table.iv;
        rising = i.table.rising;
        lowest = i.table.lowest;
        below = i.table.below;
        early = i.table.early;
      };
      asked = fresh_keeps k (flags on out) (λ x j f. (j, f, refl)) b.question i.asked;
      hands = i.hands;
      tally = record {
        keyed = i.tally.keyed;
        highest = i.tally.highest;
        encryption = p;
        released = q;
        place = i.tally.place;
        readings = i.tally.readings;
      };
      whole = i.whole;
      intact = i.intact;
      under = i.under;
      proper = i.proper;
      nonces = i.nonces;
      spared = i.spared;
      judged = i.judged;
      lost = i.lost;
      real = i.real;
      shows = i.shows;
      said = i.said;
      later = i.later;
      stops = i.stops;
      waits = i.waits;
    }),
    as_was s _ (ap (λ (x : Receiving). x.datagram) e) refl,
  )

  pub encrypt_fine : Fine y (with_state y (encrypt_of y.state).state (flagged y.account true y.account.released))
  encrypt_fine =
      flags-fine true k.released true y.account.released (encrypt_of y.state).state
      (unfold encrypt_of in (ap (λ (r : Kept). r.state) (if_true _ _ in-range))) (after-made encrypting y.state i.made) refl i.tally.released

  pub encrypt_told : answer_number (encrypt_of y.state).answer ≡ 0
  unfolding encrypt_of
  encrypt_told = ap (λ (r : Kept). answer_number r.answer) (if_true _ _ in-range)

  pub release_told : answer_number (release_of y.state).answer ≡ 0
  unfolding release_of
  release_told = ap (λ (r : Kept). answer_number r.answer) (if_true _ _ in-range)

  pub release_fine : Fine y (with_state y (release_of y.state).state (flagged y.account y.account.encryption true))
  release_fine =
      flags-fine k.peer_encryption true y.account.encryption true (release_of y.state).state
      (unfold release_of in (ap (λ (r : Kept). r.state) (if_true _ _ in-range))) (after-made releasing y.state i.made) i.tally.encryption refl

  -- ---- beginning a datagram

  begin_long : (d : List ℕ) → ltb 16384 (length d) ≡ true → (begin_of y.state (length d)).state ≡ y.state
  unfolding begin_of
  begin_long d t = ap (λ (r : Kept). r.state) (if_true _ _ in-range ∙ if_true _ _ t)

  begin_is : (d : List ℕ) → ltb 16384 (length d) ≡ false → (begin_of y.state (length d)).state ≡ record { keys = k; datagram = started (length d) }
  unfolding begin_of
  begin_is d t = ap (λ (r : Kept). r.state) (if_true _ _ in-range ∙ if_false _ _ t)

  starts-sound : (s : Receiving) (d : List ℕ) → s ≡ record { keys = k; datagram = started (length d) } → Made s → Sound (starts_on y s d)
  starts-sound s d e m = subst (λ x. Sound (starts_on y x d)) (sym e) (record {
    made = subst Made e m;
    table = i.table;
    asked = tt;
    hands = i.hands;
    tally = record {
      keyed = i.tally.keyed;
      highest = i.tally.highest;
      encryption = i.tally.encryption;
      released = i.tally.released;
      place = refl;
      readings = refl;
    };
    whole = refl;
    intact = record { long = refl; lies = refl; flag = tt };
    under = (refl, refl);
    proper = i.proper;
    nonces = i.nonces;
    spared = i.spared;
    judged = i.judged;
    lost = i.lost;
    real = i.real;
    shows = i.shows;
    said = i.said;
    later = λ x p. some≢none (sym p);
    stops = i.stops;
    waits = λ x p. some≢none (sym p);
  })

  pub begin_fine : (d : List ℕ) → Fine y (begun y d)
  unfolding begun
  begin_fine d =
      by_test (Fine y)
      (λ t. (same-sound _ _ (begin_long d t) refl, as_was _ _ (ap (λ (x : Receiving). x.datagram) (begin_long d t)) refl))
      (λ t. (starts-sound _ d (begin_is d t) (after-made (beginning (length d)) y.state i.made), no_more _ refl refl refl))

  pub begin_told : (d : List ℕ) → answer_number (begin_of y.state (length d)).answer ≡ begin_owed d
  unfolding begin_of begin_owed
  begin_told d =
      ap (λ (r : Kept). answer_number r.answer) (if_true _ _ in-range)
      ∙ by_both (λ (r : Kept) (n : ℕ). answer_number r.answer ≡ n) refl (λ t. refl) (λ t. refl)

  -- ---- leaving the rest of a datagram

  -- the question that waits is the one shown: nothing moves
  stays-asked : (w : Shown) → y.account.waits ≡ w → leaves_rest y.account (length y.arrived) w ≡ y.account → finished y.state ≡ y.state
      → Fine y (finishes y)
  stays-asked w shown kept e =
      let same : leaves_rest y.account (length y.arrived) y.account.waits ≡ y.account =
      ap (leaves_rest y.account (length y.arrived)) shown ∙ kept in
      (same-sound _ _ e same, as_was _ _ (ap (λ (x : Receiving). x.datagram) e) (ap (λ (a : Account). a.waits) same))

  finish-by : (q : Question) → b.question ≡ q → UnderWay q b.at y.account.waits y.trial → Fine y (finishes y)
  finish-by question.Nothing q z = (
    (ends-sound y i) _ _ (finished-idle y.state q) (ap (leaves_rest y.account (length y.arrived)) z.0) (finished-made y.state i.made) q z.1,
    no_more _ z.1 refl refl,
  )
  finish-by (question.Mask a) q z = stays-asked _ z.2.0 refl (finished-masked y.state a q)
  finish-by (question.Opening a n) q z = stays-asked _ z.2.2 refl (finished-opening y.state a n q)

  pub finish-fine : Fine y (finishes y)
  finish-fine = finish-by b.question refl i.under

  -- where the host was shown no question the next read finds the end
  pub finish-ends : y.account.waits ≡ nothing → (read_out (finishes y).state (finishes y).datagram).reading ≡ says.End
  finish-ends w = finished-ends y.state y.datagram in-range i.whole (unasked y i b.question refl i.under w)

  -- ---- removing

  module _ (e j : ℕ) (f : find k.entries e k.count ≡ Some j) where
    count : k.count ≤ 5
    count = i.made.ready.keys.count

    within : j < k.count
    within = found-keyed k.entries e k.count j f

    is-e : (entry_at k j).epoch ≡ e
    is-e = found-epoch k.entries e k.count j f

    keyed-on : without e y.account.keyed ≡ keyed_in (left k j)
    keyed-on =
        ap (without e) i.tally.keyed ∙ ap (λ (x : ℕ). without x (keyed_in k)) (sym is-e)
        ∙ sym (keyed-left k y.used y.account.ivs i.table j count within)

    -- the other epochs are found with their windows
    find-left : (x h : ℕ) → (x ≡ e → ⊥) → find k.entries x k.count ≡ Some h
        → (m : ℕ) × (find (left k j).entries x (left k j).count ≡ Some m) × (entry_at (left k j) m ≡ entry_at k h)
    find-left x h ne g =
        is_found (left k j) x _ refl
        (left-keyed k j count within x (λ z. ne (sym z ∙ is-e)) (unfold is_keyed was_found in (ap was_found g)))
        (λ m q.
        let s = stood k y.used y.account.ivs i.table j count within m (less m (found-keyed (left k j).entries x (left k j).count m q)) in
        let was-x : (entry_at k (was j m)).epoch ≡ (entry_at k h).epoch =
        ap (λ (r : RecvEpochEntry). r.epoch) (sym s.1) ∙ found-epoch (left k j).entries x (left k j).count m q
        ∙ sym (found-epoch k.entries x k.count h g) in (
          m,
          q,
          s.1 ∙ ap (entry_at k)
              (one_place k y.used y.account.ivs i.table h 0 i.made.long count (found-keyed k.entries x k.count h g) (was j m) s.0 was-x),
        ))
      where
        less : (m : ℕ) → m < (left k j).count → m < k.count - 1
        less m h = unfold left in h

    fresh-left : (q : Question) → FreshAsked k q → ((a : Ask) (n : ℕ) → q ≡ question.Opening a n → a.epoch ≡ e → ⊥) → FreshAsked (left k j) q
    fresh-left question.Nothing a ne = tt
    fresh-left (question.Mask x) a ne = tt
    fresh-left (question.Opening x n) a ne =
        let g = find-left x.epoch a.0 (ne x n refl) a.1 in
        (g.0, g.1, subst (λ (r : RecvEpochEntry). verdict r.replay n ≡ Fresh) (sym g.2) a.2)

    -- another epoch's removal: the question stays
    stays : (s : Receiving) → s ≡ record { keys = left k j; datagram = b } → Made s → FreshAsked (left k j) b.question
        → Fine y (with_state y s (unkeyed y.account e))
    stays s is m a = (
      subst (λ x. Sound (with_state y x (unkeyed y.account e))) (sym is) (record {
        made = subst Made is m;
        table = left-table k y.used y.account.ivs i.table j count within;
        asked = a;
        hands = i.hands;
        tally = record {
          keyed = keyed-on;
          highest = unfold left in i.tally.highest;
          encryption = unfold left in i.tally.encryption;
          released = unfold left in i.tally.released;
          place = i.tally.place;
          readings = i.tally.readings;
        };
        whole = i.whole;
        intact = i.intact;
        under = i.under;
        proper = i.proper;
        nonces = i.nonces;
        spared = i.spared;
        judged = i.judged;
        lost = i.lost;
        real = i.real;
        shows = i.shows;
        said = i.said;
        later = i.later;
        stops = i.stops;
        waits = i.waits;
      }),
      as_was s _ (ap (λ (x : Receiving). x.datagram) is) refl,
    )

    -- the question's epoch is removed: the cut goes on behind its record
    passes : (s : Receiving) (a : Ask) (t : Trial) → s ≡ record { keys = left k j; datagram = moved b (end_asked b a) b.readings } → Made s
        → t.ends ≡ end_asked b a → t.resolved ≡ some e → intact_from b.question b.at ≤ end_asked b a → Fine y (loses y s e t)
    passes s a t is m ends to low = (
      subst (λ x. Sound (loses y x e t)) (sym is) (record {
        made = subst Made is m;
        table = left-table k y.used y.account.ivs i.table j count within;
        asked = tt;
        hands = i.hands;
        tally = record {
          keyed = keyed-on;
          highest = unfold left in i.tally.highest;
          encryption = unfold left in i.tally.encryption;
          released = unfold left in i.tally.released;
          place = ends;
          readings = i.tally.readings;
        };
        whole = i.whole;
        intact = record {
          long = i.intact.long;
          lies = drops_on (intact_from b.question b.at) (end_asked b a) y.datagram y.arrived low i.intact.lies;
          flag = tt;
        };
        under = (refl, refl);
        proper = i.proper;
        nonces = i.nonces;
        spared = i.spared;
        judged = i.judged;
        lost = λ l o. mem-by o (λ (p : l ≡ record { trial = t; epoch = e }). subst (λ x. x.trial.resolved ≡ some x.epoch) (sym p) to) (λ o'. i.lost l o');
        real = i.real;
        shows = i.shows;
        said = i.said;
        later = λ x p. some≢none (sym p);
        stops = i.stops;
        waits = λ x p. some≢none (sym p);
      }),
      no_more _ refl refl refl,
    )

    -- the state behind it
    leaves-state : (q : Question) → b.question ≡ q → (remove_of y.state e).state ≡ record { keys = left k j; datagram = (cancelled q b e).datagram }
    unfolding leaving
    leaves-state q w =
        ap (λ (r : Kept). r.state) (remove_at y.state e j in-range f)
        ∙ by_test (λ (r : Kept). r.state ≡ record { keys = left k j; datagram = (cancelled q b e).datagram })
        (λ t. ap (λ (x : Question). record { keys = left k j; datagram = (cancelled x b e).datagram }) w)
        (λ t. ap (λ (x : Question). record { keys = left k j; datagram = (cancelled x b e).datagram }) w)

    -- a question about a record of the epoch of a
    asked-removed : (a : Ask) (t : Trial) → y.trial ≡ some t → t.resolved ≡ some a.epoch → t.ends ≡ end_asked b a
        → (remove_of y.state e).state ≡ record { keys = left k j; datagram = (cancelled_ask a b e).datagram }
        → ((a.epoch ≡ e → ⊥) → FreshAsked (left k j) b.question) → intact_from b.question b.at ≤ end_asked b a
        → Fine y (removed_from y (remove_of y.state e).state e y.trial)
    unfolding removed_from cancelled_ask
    asked-removed a t tri to ends is asked low =
        let m = after-made (removing e) y.state i.made in
        let keep : Datagram → Receiving = λ x. record { keys = left k j; datagram = x } in
        subst (λ x. Fine y (removed_from y (remove_of y.state e).state e x)) (sym tri)
        (test_cases (eqb a.epoch e)
        (λ u.
        subst (Fine y) (sym (if_true _ _ (ap (λ (o : Option ℕ). is_the o e) to ∙ u)))
        (passes _ a t (is ∙ ap (λ (c : Cancelled). keep c.datagram) (if_true _ _ u)) m ends (to ∙ ap some (eqb-true _ _ u)) low))
        (λ u.
        subst (Fine y) (sym (if_false _ _ (ap (λ (o : Option ℕ). is_the o e) to ∙ u)))
        (stays _ (is ∙ ap (λ (c : Cancelled). keep c.datagram) (if_false _ _ u)) m (asked (eqb-false _ _ u)))))

    under-removed : (q : Question) → b.question ≡ q → UnderWay q b.at y.account.waits y.trial
        → Fine y (removed_from y (remove_of y.state e).state e y.trial)
    unfolding cancelled
    under-removed question.Nothing q z =
        subst (λ x. Fine y (removed_from y (remove_of y.state e).state e x)) (sym z.1)
        (unfold removed_from in
        (stays _ (leaves-state question.Nothing q) (after-made (removing e) y.state i.made) (subst (FreshAsked (left k j)) (sym q) tt)))
    under-removed (question.Mask a) q z =
        asked-removed a z.0 z.1 z.2.1 z.2.2 (leaves-state (question.Mask a) q) (λ ne. subst (FreshAsked (left k j)) (sym q) tt)
        (subst (λ (x : Question). intact_from x b.at ≤ end_asked b a) (sym q) (omega arith))
    under-removed (question.Opening a n) q z =
        asked-removed a z.0 z.1 z.2.5 z.2.6 (leaves-state (question.Opening a n) q)
        (λ ne.
        fresh-left b.question i.asked
        (λ x m w same. ne (let p : question.Opening a n ≡ question.Opening x m = sym q ∙ w in let s : a ≡ x = cc in ap (λ (r : Ask). r.epoch) s ∙ same)))
        (subst (λ (x : Question). intact_from x b.at ≤ end_asked b a) (sym q) (omega arith))

    -- the number that it is told: 6 exactly where the record under way is lost
    abbrev six_if : Bool → ℕ
    six_if lost = choose lost 6 0

    leaves-number : (c : Cancelled) → answer_number (leaving c (left k j)).answer ≡ six_if c.dropped
    unfolding leaving
    leaves-number c = by_both (λ (r : Kept) (n : ℕ). answer_number r.answer ≡ n) refl (λ t. refl) (λ t. refl)

    asked-number : (a : Ask) (o : Option ℕ) → o ≡ some a.epoch → six_if (cancelled_ask a b e).dropped ≡ six_if (is_the o e)
    unfolding cancelled_ask
    asked-number a o to =
        by_both (λ (c : Cancelled) (n : ℕ). six_if c.dropped ≡ n) (ap (λ (x : Option ℕ). is_the x e) to) (λ t. if_true _ _ refl)
        (λ t. if_false _ _ refl)

    under-number : (q : Question) → UnderWay q b.at y.account.waits y.trial → six_if (cancelled q b e).dropped ≡ loses_owed y.trial e
    unfolding cancelled
    under-number question.Nothing z = if_false _ _ refl ∙ ap (λ (x : Option Trial). loses_owed x e) (sym z.1)
    under-number (question.Mask a) z = asked-number a z.0.resolved z.2.1 ∙ ap (λ (x : Option Trial). loses_owed x e) (sym z.1)
    under-number (question.Opening a n) z = asked-number a z.0.resolved z.2.5 ∙ ap (λ (x : Option Trial). loses_owed x e) (sym z.1)

  -- the account's keyed epochs are the table's
  keyed-is : (e : ℕ) (f : Found) → find k.entries e k.count ≡ f → is_in e y.account.keyed ≡ was_found f
  keyed-is e f q = ap (is_in e) i.tally.keyed ∙ sym (find_in k.entries e k.count) ∙ ap was_found q

  told-by : (e : ℕ) (f : Found) → find k.entries e k.count ≡ f → answer_number (remove_of y.state e).answer ≡ remove_owed y e
  unfolding remove_owed was_found
  told-by e None f =
      ap (λ (r : Kept). answer_number r.answer) (remove_none y.state e in-range f) ∙ sym (if_false _ _ (keyed-is e None f))
  told-by e (Some j) f =
      ap (λ (r : Kept). answer_number r.answer) (remove_at y.state e j in-range f) ∙ leaves-number e j f _
      ∙ under-number e j f b.question i.under ∙ sym (if_true _ _ (keyed-is e (Some j) f))

  pub remove_told : (e : ℕ) → answer_number (remove_of y.state e).answer ≡ remove_owed y e
  remove_told e = told-by e _ refl

  removed-by : (e : ℕ) (f : Found) → find k.entries e k.count ≡ f → Fine y (removed y e)
  unfolding removed was_found
  removed-by e None f =
      let is : (remove_of y.state e).state ≡ y.state = ap (λ (r : Kept). r.state) (remove_none y.state e in-range f) in
      subst (Fine y)
      (sym (if_false _ _ (keyed-is e None f)))
      (same-sound _ _ is refl, as_was _ _ (ap (λ (x : Receiving). x.datagram) is) refl)
  removed-by e (Some j) f =
      subst (Fine y)
      (sym (if_true _ _ (keyed-is e (Some j) f)))
      (under-removed e j f b.question refl i.under)

  pub remove_fine : (e : ℕ) → Fine y (removed y e)
  remove_fine e = removed-by e _ refl

  -- ---- the host's writing, and calls that change nothing

  -- the bytes keep their number, and what lies behind the record stays
  abbrev Writes : List ℕ → Type 0
  Writes l = (length l ≡ length y.datagram) × Intact b l y.arrived

  written : (p : List ℕ) (q : Question) → b.question ≡ q → UnderWay q b.at y.account.waits y.trial
      → Writes (written_in y.account.waits y.datagram p)
  written p question.Nothing q z = subst (λ (w : Shown). Writes (written_in w y.datagram p)) (sym z.0) (refl, i.intact)
  written p (question.Mask a) q z = subst (λ (w : Shown). Writes (written_in w y.datagram p)) (sym z.2.0) (refl, i.intact)
  written p (question.Opening a n) q z =
      let h = (held_open k b in-range a n q).1 in
      subst (λ (w : Shown). Writes (written_in w y.datagram p)) (sym z.2.2)
      (by_test Writes
      (λ t.
      let short = leb-true (length p) (length z.2.1) t in
      let fits : b.at + length z.2.0 + length p ≤ length y.datagram =
      omega (arith, z.2.3, z.2.4, h.head, h.fits, i.whole, i.made.ready.at) in
      let long = length-splice (b.at + length z.2.0) p y.datagram fits in (
        long,
        record {
          long = i.intact.long ∙ sym long;
          lies = splice-behind (b.at + length z.2.0) p y.datagram fits (intact_from b.question b.at)
              (subst (λ (x : Question). b.at + length z.2.0 + length p ≤ intact_from x b.at) (sym q) (omega (arith, z.2.3, z.2.4)))
              ∙ i.intact.lies;
          flag = i.intact.flag;
        },
      ))
      (λ t. (refl, i.intact)))

  pub write_sound : (p : List ℕ) → Sound (wrote y p)
  write_sound p = record {
    made = i.made;
    table = i.table;
    asked = i.asked;
    hands = i.hands;
    tally = i.tally;
    whole = (written p b.question refl i.under).0 ∙ i.whole;
    intact = (written p b.question refl i.under).1;
    under = i.under;
    proper = i.proper;
    nonces = i.nonces;
    spared = i.spared;
    judged = i.judged;
    lost = i.lost;
    real = i.real;
    shows = i.shows;
    said = i.said;
    later = i.later;
    stops = i.stops;
    waits = i.waits;
  }

  pub unchanged : (s : Receiving) → s ≡ y.state → Fine y (with_state y s y.account)
  unchanged s e = (same-sound s y.account e refl, as_was s _ (ap (λ (x : Receiving). x.datagram) e) refl)

-- ---- a fresh end

fresh-is : (min : ℕ) → (fresh_of min).state ≡ record { keys = fresh min; datagram = started 0 }
unfolding fresh_of
fresh-is min = by_test (λ (r : Kept). r.state ≡ record { keys = fresh min; datagram = started 0 }) (λ t. refl) (λ t. refl)

pub new-sound : (min : ℕ) → min ≤ 17 → Sound (new_inbound min).into
new-sound min h = subst (λ s. Sound (with_state (new_inbound min).into s (new_inbound min).into.account)) (sym (fresh-is min)) (record {
  made = subst Made (fresh-is min) (fresh-made min h);
  table = record {
    agrees = λ j l. absurd (omega arith);
    iv = λ j l. absurd (omega arith);
    rising = λ j m u l. absurd (omega arith);
    lowest = λ j l. absurd (omega arith);
    below = λ j l. absurd (omega arith);
    early = λ e n m. elim m [ ];
  };
  asked = tt;
  hands = record { counted = λ e x m. elim m [ ]; once = λ e. tt };
  tally = record { keyed = refl; highest = refl; encryption = refl; released = refl; place = refl; readings = refl };
  whole = refl;
  intact = record { long = refl; lies = refl; flag = tt };
  under = (refl, refl);
  proper = λ c m. elim m [ ];
  nonces = λ c m. elim m [ ];
  spared = λ c m. elim m [ ];
  judged = λ c m. elim m [ ];
  lost = λ l m. elim m [ ];
  real = λ d m. elim m [ ];
  shows = λ d m. elim m [ ];
  said = λ d m. elim m [ ];
  later = λ t p. some≢none (sym p);
  stops = λ d m. elim m [ ];
  waits = λ t p. some≢none (sym p);
})
