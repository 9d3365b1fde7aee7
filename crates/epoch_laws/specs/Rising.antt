-- The epochs keyed to receive rise in the order of their entries and are at most the last keyed; every call keeps this. Assumes nothing.
use Rattle.opening_reply.specs.Opening.{Opening}
use Rattle.std.specs.Prelude.{true, false, List, [], ◌∷◌, ◌⊎◌, ◌≡◌, refl, ℕ, zero, suc, ◌+◌, ◌-◌, ◌<◌, ◌≤◌, length, get_or, Some, None}
use Rattle.std.proofs.lemmas.Bool.{false≢true}
use Rattle.std.proofs.Math.Logic.{⊎_elim}
use Rattle.std.proofs.Common.{sym, ap, subst, ◌∙◌, ltb-false, leb-false}
use native.Mathlib.Omega.{arith}
use Rattle.base.specs.Choose.{by_test, lt-or_ge}
use Rattle.datagram.specs.declared.Datagram.{Datagram}
use Rattle.opening_reply.proofs.Keeps.{opened-effect}
use Rattle.opening_reply.specs.Keeps.{Marks}
use Rattle.recv_keys.specs.Keeps.{installed-other, installed-last, left-front, left-behind, marked-epoch}
use Rattle.recv_keys.specs.Keys.{no_entry, entry_at, fits, last_fit, find, fresh, is_full, installed, left, marked, Found}
use Rattle.recv_keys.specs.Laws.{found-keyed}
use Rattle.recv_keys.specs.declared.RecvEpochEntry.{RecvEpochEntry}
use Rattle.recv_keys.specs.declared.RecvKeys.{RecvKeys}
use Rattle.receiving.specs.Calls.Call.{keying, removing, encrypting, releasing, beginning, reading, masking, opening}
use Rattle.receiving.specs.Calls.{Call, after, run}
use Rattle.receiving.specs.Laws.{Made, fresh-made, after-made}
use Rattle.receiving.specs.Receiving.{answer_number, fresh_of, key_of, leaving, removed_by, remove_of, encrypt_of, release_of, begin_of}
use Rattle.receiving.specs.declared.Kept.{Kept}
use Rattle.receiving.specs.declared.Receiving.{Receiving}

pub record Rising (k : RecvKeys) : Type 0 where
  pub order : (i j : ℕ) → i < j → j < k.count → (entry_at k i).epoch < (entry_at k j).epoch
  pub last : (i : ℕ) → i < k.count → (entry_at k i).epoch ≤ k.highest
  pub usable : (i : ℕ) → i < k.count → 2 ≤ (entry_at k i).epoch

-- ---- what each change of the table keeps

fresh-rising : (min : ℕ) → Rising (fresh min)
fresh-rising min = record { order = λ i j h l. absurd (omega arith); last = λ i h. absurd (omega arith); usable = λ i h. absurd (omega arith) }

-- tables with the same epochs
same-rising : (k l : RecvKeys) → l.count ≡ k.count → l.highest ≡ k.highest → ((i : ℕ) → (entry_at l i).epoch ≡ (entry_at k i).epoch) → Rising k → Rising l
same-rising k l c h e r = record {
  order = λ i j a b. rw (e i, e j) (r.order i j a (omega arith));
  last = λ i a. rw (e i, h) (r.last i (omega arith));
  usable = λ i a. rw (e i) (r.usable i (omega arith));
}

module _ (k : RecvKeys) (epoch : ℕ) (iv : List ℕ) (long : length k.entries ≡ 5) (room : is_full k epoch ≡ false) (two : 2 ≤ epoch) (above : k.highest < epoch) (r : Rising k) where
  old : (i : ℕ) → i < k.count → (entry_at (installed k epoch iv) i).epoch ≡ (entry_at k i).epoch
  old i h = ap (λ (x : RecvEpochEntry). x.epoch) (installed-other k epoch iv long room i h)

  new : (i : ℕ) → i ≡ k.count → (entry_at (installed k epoch iv) i).epoch ≡ epoch
  new i e = ap (λ (n : ℕ). (entry_at (installed k epoch iv) n).epoch) e ∙ ap (λ (x : RecvEpochEntry). x.epoch) (installed-last k epoch iv long room)

  installed-rising : Rising (installed k epoch iv)
  unfolding installed
  installed-rising = record {
    order = λ i j a b.
        ⊎_elim (λ m. rw (old i (omega arith), old j m) (r.order i j a m))
        (λ m. let e : j ≡ k.count = omega arith in rw (old i (omega arith), new j e) (omega (arith, r.last i (omega arith))))
        (lt-or_ge j k.count);
    last = λ i a.
        ⊎_elim (λ m. rw (old i m) (omega (arith, r.last i m)))
        (λ (m : k.count ≤ i). let e : i ≡ k.count = omega arith in rw (new i e) (omega arith))
        (lt-or_ge i k.count);
    usable = λ i a.
        ⊎_elim (λ m. rw (old i m) (r.usable i m))
        (λ m. let e : i ≡ k.count = omega arith in rw (new i e) two)
        (lt-or_ge i k.count);
  }

module _ (k : RecvKeys) (i : ℕ) (count : k.count ≤ 5) (within : i < k.count) (r : Rising k) where
  front : (j : ℕ) → j < i → (entry_at (left k i) j).epoch ≡ (entry_at k j).epoch
  front j h = ap (λ (x : RecvEpochEntry). x.epoch) (left-front k i count within j h)

  back : (j : ℕ) → i ≤ j → j + 1 < k.count → (entry_at (left k i) j).epoch ≡ (entry_at k (j + 1)).epoch
  back j h l =
      let e : j ≡ j + 1 - 1 = omega arith in
      ap (λ (n : ℕ). (entry_at (left k i) n).epoch) e ∙ ap (λ (x : RecvEpochEntry). x.epoch) (left-behind k i count within (j + 1) (omega arith) l)

  left_rising : Rising (left k i)
  unfolding left
  left_rising = record {
    order = λ a b h l.
        ⊎_elim (λ m. rw (front a (omega arith), front b m) (r.order a b h (omega arith)))
        (λ m.
        ⊎_elim (λ n. rw (front a n, back b m (omega arith)) (r.order a (b + 1) (omega arith) (omega arith)))
        (λ n. rw (back a n (omega arith), back b m (omega arith)) (r.order (a + 1) (b + 1) (omega arith) (omega arith)))
        (lt-or_ge a i))
        (lt-or_ge b i);
    last = λ a l.
        ⊎_elim (λ m. rw (front a m) (r.last a (omega arith))) (λ m. rw (back a m (omega arith)) (r.last (a + 1) (omega arith))) (lt-or_ge a i);
    usable = λ a l.
        ⊎_elim (λ m. rw (front a m) (r.usable a (omega arith))) (λ m. rw (back a m (omega arith)) (r.usable (a + 1) (omega arith))) (lt-or_ge a i);
  }

-- ---- every call

abbrev Rises : Kept → Type 0
Rises x = Rising x.state.keys

key_rising : (s : Receiving) (epoch : ℕ) (iv : List ℕ) → Made s → Rising s.keys → Rising (key_of s epoch iv).state.keys
unfolding key_of
key_rising s epoch iv m r =
    by_test Rises
    (λ t. by_test Rises (λ u. r)
    (λ u. by_test Rises (λ v. r)
    (λ v. by_test Rises (λ w. r)
    (λ w. installed-rising s.keys epoch iv m.long w (ltb-false epoch 2 u) (leb-false epoch s.keys.highest v) r))))
    (λ t. r)

removed-rising : (s : Receiving) (epoch : ℕ) → Made s → Rising s.keys → (f : Found) → find s.keys.entries epoch s.keys.count ≡ f
    → Rising (removed_by f s epoch).state.keys
unfolding removed_by leaving
removed-rising s epoch m r None q = r
removed-rising s epoch m r (Some i) q =
    let l = left_rising s.keys i m.ready.keys.count (found-keyed s.keys.entries epoch s.keys.count i q) r in
    by_test Rises (λ t. l) (λ t. l)

remove_rising : (s : Receiving) (epoch : ℕ) → Made s → Rising s.keys → Rising (remove_of s epoch).state.keys
unfolding remove_of
remove_rising s epoch m r = by_test Rises (λ t. removed-rising s epoch m r _ refl) (λ t. r)

encrypt_rising : (s : Receiving) → Rising s.keys → Rising (encrypt_of s).state.keys
unfolding encrypt_of
encrypt_rising s r = by_test Rises (λ t. record { order = r.order; last = r.last; usable = r.usable }) (λ t. r)

release_rising : (s : Receiving) → Rising s.keys → Rising (release_of s).state.keys
unfolding release_of
release_rising s r = by_test Rises (λ t. record { order = r.order; last = r.last; usable = r.usable }) (λ t. r)

begin_rising : (s : Receiving) (n : ℕ) → Rising s.keys → Rising (begin_of s n).state.keys
unfolding begin_of
begin_rising s n r = by_test Rises (λ t. by_test Rises (λ u. r) (λ u. r)) (λ t. r)

-- a yes marks, and marks no epoch
marks-rising : (k l : RecvKeys) (b : Datagram) (o : Opening) → length k.entries ≡ 5 → k.count ≤ 5 → (l ≡ k) ⊎ Marks k b o l → Rising k → Rising l
unfolding marked
marks-rising k l b o long count c r =
    ⊎_elim (λ e. subst Rising (sym e) r)
    (λ w. subst Rising (sym w.keys) (same-rising k (marked k w.place w.number) refl refl (marked-epoch k w.place w.number long count (found-keyed k.entries w.ask.epoch k.count w.place w.found)) r)) c

-- every call keeps the order
pub after-rising : (c : Call) (s : Receiving) → Made s → Rising s.keys → Rising (after c s).state.keys
after-rising (keying e iv) s m r = key_rising s e iv m r
after-rising (removing e) s m r = remove_rising s e m r
after-rising encrypting s m r = encrypt_rising s r
after-rising releasing s m r = release_rising s r
after-rising (beginning n) s m r = begin_rising s n r
after-rising (reading d) s m r = r
after-rising (masking x d) s m r = r
after-rising (opening o d) s m r =
    marks-rising s.keys _ s.datagram o m.long m.ready.keys.count (opened-effect s.keys s.datagram o d).moves r

pub run-rising : (cs : List Call) (s : Receiving) → Made s → Rising s.keys → Rising (run cs s).keys
run-rising [] s m r = r
run-rising (c ∷ cs) s m r = run-rising cs (after c s).state (after-made c s m) (after-rising c s m r)

begun-rising : (min : ℕ) → Rising (fresh_of min).state.keys
unfolding fresh_of
begun-rising min = by_test Rises (λ t. fresh-rising min) (λ t. fresh-rising min)

-- the epochs keyed rise after any list of calls from a fresh state
pub ever_rising : (min : ℕ) (cs : List Call) → min ≤ 17 → Rising (run cs (fresh_of min).state).keys
ever_rising min cs h = run-rising cs (fresh_of min).state (fresh-made min h) (begun-rising min)

-- ---- what it tells

-- an epoch has one entry
pub one_entry : (k : RecvKeys) → Rising k → (i j : ℕ) → i < k.count → j < k.count → (entry_at k i).epoch ≡ (entry_at k j).epoch → i ≡ j
one_entry k r i j hi hj e =
    ⊎_elim (λ l. absurd (omega (arith, r.order i j l hj)))
    (λ l. ⊎_elim (λ m. absurd (omega (arith, r.order j i m hi))) (λ m. omega arith) (lt-or_ge j i)) (lt-or_ge i j)

-- the application epoch that bits mean is the highest keyed one with those bits
abbrev Highest : List RecvEpochEntry → ℕ → ℕ → Found → Type 0
Highest l bits n (Some i) = (i < n) × (fits (get_or l i no_entry).epoch bits ≡ true) × ((j : ℕ) → j < n → fits (get_or l j no_entry).epoch bits ≡ true → j ≤ i)
Highest l bits n None = (j : ℕ) → j < n → fits (get_or l j no_entry).epoch bits ≡ true → ⊥

further : (l : List RecvEpochEntry) (bits n : ℕ) → fits (get_or l n no_entry).epoch bits ≡ false → (f : Found) → Highest l bits n f → Highest l bits (suc n) f
further l bits n t (Some i) h =
    (omega (arith, h.0), h.1, λ j m g. ⊎_elim (λ a. h.2 j a g) (λ a. let e : j ≡ n = omega arith in absurd (false≢true (sym t ∙ rw e at g))) (lt-or_ge j n))
further l bits n t None h = λ j m g. ⊎_elim (λ a. h j a g) (λ a. let e : j ≡ n = omega arith in false≢true (sym t ∙ rw e at g)) (lt-or_ge j n)

last-highest : (l : List RecvEpochEntry) (bits n : ℕ) → Highest l bits n (last_fit l bits n)
unfolding last_fit
last-highest l bits zero = λ j h g. omega arith
last-highest l bits (suc n) =
    by_test (Highest l bits (suc n)) (λ t. (omega arith, t, λ j h g. omega arith)) (λ t. further l bits n t (last_fit l bits n) (last-highest l bits n))

pub last-is-highest : (k : RecvKeys) → Rising k → (bits i j : ℕ) → last_fit k.entries bits k.count ≡ Some i
    → j < k.count → fits (entry_at k j).epoch bits ≡ true → (entry_at k j).epoch ≤ (entry_at k i).epoch
last-is-highest k r bits i j q h g =
    let w = subst (Highest k.entries bits k.count) q (last-highest k.entries bits k.count) in
    let below = w.2 j h g in
    ⊎_elim (λ l. omega (arith, r.order j i l w.0)) (λ (l : i ≤ j). let e : j ≡ i = omega arith in rw e (omega arith)) (lt-or_ge j i)

-- ---- no epoch is keyed twice

abbrev NotBelow : ℕ → Kept → Type 0
NotBelow n x = n ≤ x.state.keys.highest

key_not_below : (s : Receiving) (epoch : ℕ) (iv : List ℕ) → NotBelow s.keys.highest (key_of s epoch iv)
unfolding key_of installed
key_not_below s epoch iv =
    by_test (NotBelow s.keys.highest)
    (λ t. by_test (NotBelow s.keys.highest) (λ u. omega arith)
    (λ u. by_test (NotBelow s.keys.highest) (λ v. omega arith)
    (λ v. by_test (NotBelow s.keys.highest) (λ w. omega arith) (λ w. omega (arith, leb-false epoch s.keys.highest v)))))
    (λ t. omega arith)

removed_not_below : (s : Receiving) (epoch : ℕ) (f : Found) → NotBelow s.keys.highest (removed_by f s epoch)
unfolding removed_by leaving left
removed_not_below s epoch None = omega arith
removed_not_below s epoch (Some i) = by_test (NotBelow s.keys.highest) (λ t. omega arith) (λ t. omega arith)

remove_not_below : (s : Receiving) (epoch : ℕ) → NotBelow s.keys.highest (remove_of s epoch)
unfolding remove_of
remove_not_below s epoch = by_test (NotBelow s.keys.highest) (λ t. removed_not_below s epoch _) (λ t. omega arith)

encrypt_not_below : (s : Receiving) → NotBelow s.keys.highest (encrypt_of s)
unfolding encrypt_of
encrypt_not_below s = by_test (NotBelow s.keys.highest) (λ t. omega arith) (λ t. omega arith)

release_not_below : (s : Receiving) → NotBelow s.keys.highest (release_of s)
unfolding release_of
release_not_below s = by_test (NotBelow s.keys.highest) (λ t. omega arith) (λ t. omega arith)

begin_not_below : (s : Receiving) (n : ℕ) → NotBelow s.keys.highest (begin_of s n)
unfolding begin_of
begin_not_below s n = by_test (NotBelow s.keys.highest) (λ t. by_test (NotBelow s.keys.highest) (λ u. omega arith) (λ u. omega arith)) (λ t. omega arith)

marks_not_below : (k l : RecvKeys) (b : Datagram) (o : Opening) → (l ≡ k) ⊎ Marks k b o l → k.highest ≤ l.highest
unfolding marked
marks_not_below k l b o c =
    ⊎_elim (λ e. rw e (omega arith)) (λ w. subst (λ (x : RecvKeys). k.highest ≤ x.highest) (sym w.keys) (omega arith)) c

-- the last keyed never falls
pub after_not_below : (c : Call) (s : Receiving) → s.keys.highest ≤ (after c s).state.keys.highest
after_not_below (keying e iv) s = key_not_below s e iv
after_not_below (removing e) s = remove_not_below s e
after_not_below encrypting s = encrypt_not_below s
after_not_below releasing s = release_not_below s
after_not_below (beginning n) s = begin_not_below s n
after_not_below (reading d) s = omega arith
after_not_below (masking x d) s = omega arith
after_not_below (opening o d) s = marks_not_below s.keys _ s.datagram o (opened-effect s.keys s.datagram o d).moves

pub run_not_below : (cs : List Call) (s : Receiving) → s.keys.highest ≤ (run cs s).keys.highest
run_not_below [] s = omega arith
run_not_below (c ∷ cs) s = omega (arith, after_not_below c s, run_not_below cs (after c s).state)

-- an epoch not above the last keyed is refused
pub not_above : (s : Receiving) (epoch : ℕ) (iv : List ℕ) → epoch ≤ s.keys.highest → answer_number (key_of s epoch iv).answer ≡ 0 → ⊥
unfolding key_of
not_above s epoch iv h =
    by_test (λ (x : Kept). answer_number x.answer ≡ 0 → ⊥)
    (λ t. by_test (λ (x : Kept). answer_number x.answer ≡ 0 → ⊥) (λ u z. omega arith)
    (λ u. by_test (λ (x : Kept). answer_number x.answer ≡ 0 → ⊥) (λ v z. omega arith)
    (λ v. absurd (omega (arith, leb-false epoch s.keys.highest v)))))
    (λ t z. omega arith)

-- an epoch that was keyed is then the last keyed
pub keyed-last : (s : Receiving) (epoch : ℕ) (iv : List ℕ) → answer_number (key_of s epoch iv).answer ≡ 0 → (key_of s epoch iv).state.keys.highest ≡ epoch
unfolding key_of installed
keyed-last s epoch iv =
    by_test (λ (x : Kept). answer_number x.answer ≡ 0 → x.state.keys.highest ≡ epoch)
    (λ t. by_test (λ (x : Kept). answer_number x.answer ≡ 0 → x.state.keys.highest ≡ epoch) (λ u z. absurd (omega arith))
    (λ u. by_test (λ (x : Kept). answer_number x.answer ≡ 0 → x.state.keys.highest ≡ epoch) (λ v z. absurd (omega arith))
    (λ v. by_test (λ (x : Kept). answer_number x.answer ≡ 0 → x.state.keys.highest ≡ epoch) (λ w z. absurd (omega arith)) (λ w z. refl))))
    (λ t z. absurd (omega arith))

-- so that no later call keys it again, though it be removed
pub never-again : (s : Receiving) (epoch : ℕ) (iv : List ℕ) → answer_number (key_of s epoch iv).answer ≡ 0 → (cs : List Call) (later : List ℕ)
    → answer_number (key_of (run cs (key_of s epoch iv).state) epoch later).answer ≡ 0 → ⊥
never-again s epoch iv done cs later =
    not_above (run cs (key_of s epoch iv).state) epoch later (omega (arith, keyed-last s epoch iv done, run_not_below cs (key_of s epoch iv).state))
