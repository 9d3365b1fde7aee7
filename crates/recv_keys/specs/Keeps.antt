-- Keying, removing and marking keep the ranges of the table, and leave the other epochs keyed. Assumes nothing.
use Rattle.std.specs.Prelude.{Bool, List, ◌⊎◌, ◌≡◌, length, Some, None}
use Rattle.std.proofs.Math.Bool.{true, false}
use Rattle.std.proofs.lemmas.Bool.{false≢true}
use Rattle.std.proofs.Math.Logic.{inl, inr, ⊎_elim}
use Rattle.std.proofs.Math.Path.{refl, sym, ap}
use Rattle.std.proofs.Common.{subst, ◌∙◌, add-one}
use Prim.Native.Nat.{ℕ, zero, suc, ◌+◌, ◌-◌, ◌<◌, ◌≤◌}
use native.Mathlib.Omega.{arith}
use borrow.Author.Tests.{leb-true, leb-false, le-leb, lt-ltb, le-ltb, eq-eqb, eqb-true}
use Rattle.std.proofs.Math.Dec.{leb}
use Rattle.std.proofs.Math.ListN.{get_or}
use Rattle.std.proofs.Math.Seq.{get_or-set_same, get_or-set_other}
use Rattle.base.specs.Choose.{if_true, if_false, by_test, lt-or_ge, eq-or_ne, both_left, both_right, both_true}
use Rattle.window.proofs.Laws.{after}
use Rattle.window.specs.Window.{unmarked}
use Rattle.recv_keys.specs.declared.RecvEpochEntry.{RecvEpochEntry}
use Rattle.recv_keys.specs.declared.RecvKeys.{RecvKeys}
use Rattle.recv_keys.specs.Keys.{
  no_entry,
  entry_at,
  find,
  was_found,
  is_keyed,
  app_one,
  apps,
  windows_sound,
  keys_sound,
  fresh,
  marked_entry,
  marked,
  is_full,
  installed,
  left_at,
  left,
  Found,
}
use Rattle.recv_keys.specs.Laws.{not_full, found-keyed, window-at, windows-all}

-- what the range test asks
pub record InRange (k : RecvKeys) : Type 0 where
  pub count : k.count ≤ 5
  pub min : k.min_protected ≤ 17
  pub apps : apps k.entries k.count ≤ 4
  pub windows : windows_sound k.entries k.count ≡ true

pub in-range : (k : RecvKeys) → keys_sound k ≡ true → InRange k
unfolding keys_sound
in-range k t =
    let t1 = both_right _ _ t in
    let t2 = both_right _ _ t1 in
    record {
      count = leb-true _ _ (both_left _ _ t);
      min = leb-true _ _ (both_left _ _ t1);
      apps = leb-true _ _ (both_left _ _ t2);
      windows = both_right _ _ t2;
    }

pub is_in_range : (k : RecvKeys) → InRange k → keys_sound k ≡ true
unfolding keys_sound
is_in_range k r = both_true (le-leb _ _ r.count) ∙ both_true (le-leb _ _ r.min) ∙ both_true (le-leb _ _ r.apps) ∙ r.windows

-- ---- an empty table

pub fresh_in_range : (min : ℕ) → min ≤ 17 → InRange (fresh min)
unfolding apps windows_sound
fresh_in_range min h = record { count = omega arith; min = h; apps = omega arith; windows = refl }

-- ---- epochs found

-- what is found is the epoch
pub found-epoch : (l : List RecvEpochEntry) (x n i : ℕ) → find l x n ≡ Some i → (get_or l i no_entry).epoch ≡ x
unfolding find
found-epoch l x zero i q = let z : ◌≡◌ {A = ℕ} 0 1 = cc in absurd (omega arith)
found-epoch l x (suc n) i q =
    by_test (λ (f : Found). f ≡ Some i → (get_or l i no_entry).epoch ≡ x)
    (λ e p. let s : n ≡ i = cc in rw (sym s) (eqb-true _ _ e)) (λ e p. found-epoch l x n i p) q

-- an epoch that stands among the first n is found
pub found_if : (l : List RecvEpochEntry) (x n i : ℕ) → i < n → (get_or l i no_entry).epoch ≡ x → was_found (find l x n) ≡ true
unfolding find was_found
found_if l x zero i h e = absurd (omega arith)
found_if l x (suc n) i h e =
    by_test (λ (f : Found). was_found f ≡ true) (λ t. refl)
    (λ t.
    ⊎_elim (λ m. found_if l x n i m e)
    (λ m. let s : i ≡ n = omega arith in absurd (false≢true (sym t ∙ eq-eqb _ _ (rw s at e))))
    (lt-or_ge i n))

-- one that was found stands somewhere
pub record Stands (l : List RecvEpochEntry) (x n : ℕ) : Type 0 where
  pub place : ℕ
  pub within : place < n
  pub epoch : (get_or l place no_entry).epoch ≡ x

stands_by : (l : List RecvEpochEntry) (x n : ℕ) (f : Found) → find l x n ≡ f → was_found f ≡ true → Stands l x n
unfolding was_found
stands_by l x n (Some i) q t = record { place = i; within = found-keyed l x n i q; epoch = found-epoch l x n i q }
stands_by l x n None q t = absurd (false≢true t)

pub stands : (k : RecvKeys) (x : ℕ) → is_keyed k x ≡ true → Stands k.entries x k.count
unfolding is_keyed
stands k x t = stands_by k.entries x k.count _ refl t

pub is-standing : (k : RecvKeys) (x i : ℕ) → i < k.count → (entry_at k i).epoch ≡ x → is_keyed k x ≡ true
unfolding is_keyed
is-standing k x i h e = found_if k.entries x k.count i h e

-- ---- application epochs counted

one_at_most : (x : ℕ) → app_one x ≤ 1
unfolding app_one
one_at_most x = by_test (λ (n : ℕ). n ≤ 1) (λ t. omega arith) (λ t. omega arith)

pub apps-le : (l : List RecvEpochEntry) (n : ℕ) → apps l n ≤ n
unfolding apps
apps-le l zero = omega arith
apps-le l (suc n) = omega (arith, apps-le l n, one_at_most (get_or l n no_entry).epoch)

apps-same : (l m : List RecvEpochEntry) (n : ℕ) → ((i : ℕ) → i < n → (get_or l i no_entry).epoch ≡ (get_or m i no_entry).epoch) → apps l n ≡ apps m n
unfolding apps
apps-same l m zero f = refl
apps-same l m (suc n) f =
    ap (λ (x : ℕ). x + app_one (get_or l n no_entry).epoch) (apps-same l m n (λ i h. f i (omega arith)))
    ∙ ap (λ (x : ℕ). apps m n + app_one x) (f n (omega arith))

apps-last : (l : List RecvEpochEntry) (n : ℕ) → apps l (suc n) ≡ apps l n + app_one (get_or l n no_entry).epoch
unfolding apps
apps-last l n = refl

-- ---- keying

low-at : {y z : RecvEpochEntry} → y ≡ z → z.replay.max_seq ≤ 0xFFFF_FFFF_FFFF → y.replay.max_seq ≤ 0xFFFF_FFFF_FFFF
low-at p h = subst (λ (x : RecvEpochEntry). x.replay.max_seq ≤ 0xFFFF_FFFF_FFFF) (sym p) h

module _ (k : RecvKeys) (epoch : ℕ) (iv : List ℕ) (long : length k.entries ≡ 5) (room : is_full k epoch ≡ false) where
  -- others stay where they are, and the new one stands behind them
  pub installed-other : (i : ℕ) → i < k.count → entry_at (installed k epoch iv) i ≡ entry_at k i
  unfolding installed
  installed-other i h = get_or-set_other k.entries k.count i (record { epoch = epoch; iv = iv; replay = unmarked }) no_entry (λ e. omega arith)

  pub installed-last : entry_at (installed k epoch iv) k.count ≡ record { epoch = epoch; iv = iv; replay = unmarked }
  unfolding installed
  installed-last =
      get_or-set_same k.entries k.count (record { epoch = epoch; iv = iv; replay = unmarked }) no_entry (omega (arith, not_full k epoch room))

  fits_one : apps k.entries k.count ≤ 4 → apps k.entries k.count + app_one epoch ≤ 4
  unfolding is_full app_one
  fits_one h =
      by_test (λ (n : ℕ). apps k.entries k.count + n ≤ 4)
      (λ t. omega (arith, leb-false 4 (apps k.entries k.count) (sym (if_true _ _ t) ∙ sym (if_false _ _ (not_five t)) ∙ room)))
      (λ t. omega arith)
    where
      not_five : leb 3 epoch ≡ true → leb 5 k.count ≡ false
      not_five t = ⊎_elim (λ h. absurd (omega (arith, not_full k epoch room))) (λ h. h) (five (leb 5 k.count) refl)
        where
          five : (b : Bool) → leb 5 k.count ≡ b → (5 ≤ k.count) ⊎ (leb 5 k.count ≡ false)
          five true e = inl (leb-true 5 k.count e)
          five false e = inr e

  pub installed_in_range : InRange k → InRange (installed k epoch iv)
  unfolding installed
  installed_in_range r = record {
    count = omega (arith, not_full k epoch room);
    min = r.min;
    apps = rw (add-one k.count) (omega (arith, count-one, fits_one r.apps));
    windows = windows-all _ (k.count + 1) λ i h.
        ⊎_elim (λ m. rw (installed-other i m) (window-at k.entries k.count i r.windows m))
        (λ m. low-at (ap (entry_at (installed k epoch iv)) (last-place m h) ∙ installed-last) (omega arith))
        (lt-or_ge i k.count);
  }
    where
      last-place : {i : ℕ} → k.count ≤ i → i < k.count + 1 → i ≡ k.count
      last-place h l = omega arith

      count-one : apps (installed k epoch iv).entries (suc k.count) ≡ apps k.entries k.count + app_one epoch
      count-one =
          apps-last (installed k epoch iv).entries k.count
          ∙ ap (λ (x : ℕ). x + app_one (entry_at (installed k epoch iv) k.count).epoch)
          (apps-same (installed k epoch iv).entries k.entries k.count (λ i h. ap (λ (x : RecvEpochEntry). x.epoch) (installed-other i h)))
          ∙ ap (λ (x : RecvEpochEntry). apps k.entries k.count + app_one x.epoch) installed-last

  -- the epochs keyed before are keyed
  pub installed-keyed : (x : ℕ) → is_keyed k x ≡ true → is_keyed (installed k epoch iv) x ≡ true
  unfolding installed
  installed-keyed x t =
      let w = stands k x t in
      is-standing (installed k epoch iv) x w.place (omega (arith, w.within))
      (ap (λ (y : RecvEpochEntry). y.epoch) (installed-other w.place w.within) ∙ w.epoch)

-- ---- removing

module _ (k : RecvKeys) (i : ℕ) (count : k.count ≤ 5) (within : i < k.count) where
  pub left_is : (j : ℕ) → j < 4 → entry_at (left k i) j ≡ left_at k.entries i j
  unfolding left
  left_is zero h = refl
  left_is (suc zero) h = refl
  left_is (suc (suc zero)) h = refl
  left_is (suc (suc (suc zero))) h = refl
  left_is (suc (suc (suc (suc j)))) h = absurd (omega arith)

  -- those in front of i stay, those behind it move up
  pub left-front : (j : ℕ) → j < i → entry_at (left k i) j ≡ entry_at k j
  unfolding left_at
  left-front j h = left_is j (omega arith) ∙ if_true _ _ (lt-ltb _ _ h)

  pub left-behind : (j : ℕ) → i < j → j < k.count → entry_at (left k i) (j - 1) ≡ entry_at k j
  unfolding left_at
  left-behind j h l =
      let e : j - 1 + 1 ≡ j = omega arith in
      left_is (j - 1) (omega arith) ∙ if_false _ _ (le-ltb (j - 1) i (omega arith)) ∙ ap (λ (n : ℕ). get_or k.entries n no_entry) e

  pub left_in_range : InRange k → InRange (left k i)
  unfolding left
  left_in_range r = record {
    count = omega arith;
    min = r.min;
    apps = omega (arith, apps-le (left k i).entries (k.count - 1));
    windows = windows-all _ (k.count - 1) λ j h.
        ⊎_elim (λ m. rw (left-front j m) (window-at k.entries k.count j r.windows (omega arith)))
        (λ m.
        let e : j + 1 - 1 ≡ j = omega arith in
        rw (sym (ap (λ (n : ℕ). entry_at (left k i) n) e) ∙ left-behind (j + 1) (omega arith) (omega arith))
        (window-at k.entries k.count (j + 1) r.windows (omega arith)))
        (lt-or_ge j i);
  }

  -- the other epochs stay keyed
  pub left-keyed : (x : ℕ) → ((entry_at k i).epoch ≡ x → ⊥) → is_keyed k x ≡ true → is_keyed (left k i) x ≡ true
  unfolding left
  left-keyed x ne t =
      let w = stands k x t in
      ⊎_elim
      (λ m. is-standing (left k i) x w.place (omega (arith, w.within)) (ap (λ (y : RecvEpochEntry). y.epoch) (left-front w.place m) ∙ w.epoch))
      (λ m.
      ⊎_elim (λ e. absurd (ne (ap (λ (n : ℕ). (entry_at k n).epoch) e ∙ w.epoch)))
      (λ e.
      is-standing (left k i) x (w.place - 1) (omega (arith, w.within))
      (ap (λ (y : RecvEpochEntry). y.epoch) (left-behind w.place (omega arith) w.within) ∙ w.epoch))
      (eq-or_ne i w.place))
      (lt-or_ge w.place i)

-- ---- marking

module _ (k : RecvKeys) (i n : ℕ) (long : length k.entries ≡ 5) (count : k.count ≤ 5) (within : i < k.count) where
  pub marked-here : entry_at (marked k i n) i ≡ marked_entry n (entry_at k i)
  unfolding marked
  marked-here = get_or-set_same k.entries i (marked_entry n (entry_at k i)) no_entry (omega arith)

  pub marked_other : (j : ℕ) → (j ≡ i → ⊥) → entry_at (marked k i n) j ≡ entry_at k j
  unfolding marked
  marked_other j ne = get_or-set_other k.entries i j (marked_entry n (entry_at k i)) no_entry ne

  pub marked-epoch : (j : ℕ) → (entry_at (marked k i n) j).epoch ≡ (entry_at k j).epoch
  marked-epoch j =
      ⊎_elim (λ e. rw e (ap (λ (y : RecvEpochEntry). y.epoch) marked-here)) (λ e. ap (λ (y : RecvEpochEntry). y.epoch) (marked_other j e)) (eq-or_ne j i)

  pub marked_in_range : n ≤ 0xFFFF_FFFF_FFFF → InRange k → InRange (marked k i n)
  unfolding marked
  marked_in_range low r = record {
    count = r.count;
    min = r.min;
    apps = rw (apps-same (marked k i n).entries k.entries k.count (λ j h. marked-epoch j)) r.apps;
    windows = windows-all _ k.count λ j h.
        ⊎_elim
        (λ e.
        low-at (ap (entry_at (marked k i n)) e ∙ marked-here)
        (omega (arith, (after (entry_at k i).replay n).highest, window-at k.entries k.count i r.windows within)))
        (λ e. low-at (marked_other j e) (window-at k.entries k.count j r.windows h))
        (eq-or_ne j i);
  }
