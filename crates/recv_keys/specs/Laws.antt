-- Laws of the table of epochs keyed to receive. Assumes nothing.
use Rattle.std.specs.Option.{option_or}
use Rattle.std.specs.Prelude.{Bool, true, false, List, ◌≡◌, refl, get_or, Some, None}
use Rattle.std.proofs.lemmas.Bool.{false≢true}
use Rattle.std.proofs.Common.{⊎_elim, ◌∙◌, add-one, eq-eqb, ne_eqb, leb-false, ltb-false, lt-ltb, le-ltb}
use Rattle.std.proofs.Math.Path.{ap}
use Prim.Native.Nat.{ℕ, zero, suc, ◌+◌, ◌-◌, ◌<◌, ◌≤◌}
use native.Mathlib.Omega.{arith}
use Rattle.base.specs.Choose.{if_true, if_false, by_test, lt-or_ge}
use Rattle.recv_keys.specs.declared.RecvEpochEntry.{RecvEpochEntry}
use Rattle.recv_keys.specs.declared.RecvKeys.{RecvKeys}
use Rattle.recv_keys.specs.Keys.{no_entry, fits, last_fit, find, two, resolve, app_one, apps, windows_sound, is_full, Found}

-- ---- one step of each search

module _ (l : List RecvEpochEntry) (x i : ℕ) (some : 0 < i) where
  back : i ≡ suc (i - 1)
  back = omega arith

  pub fit_hit : fits (get_or l (i - 1) no_entry).epoch x ≡ true → last_fit l x i ≡ Some (i - 1)
  unfolding last_fit
  fit_hit e = ap (last_fit l x) back ∙ if_true _ _ e

  pub fit_miss : fits (get_or l (i - 1) no_entry).epoch x ≡ false → last_fit l x i ≡ last_fit l x (i - 1)
  unfolding last_fit
  fit_miss e = ap (last_fit l x) back ∙ if_false _ _ e

  pub find_hit : (get_or l (i - 1) no_entry).epoch ≡ x → find l x i ≡ Some (i - 1)
  unfolding find
  find_hit e = ap (find l x) back ∙ if_true _ _ (eq-eqb _ _ e)

  pub find_miss : ((get_or l (i - 1) no_entry).epoch ≡ x → ⊥) → find l x i ≡ find l x (i - 1)
  unfolding find
  find_miss e = ap (find l x) back ∙ if_false _ _ (ne_eqb _ _ e)

module _ (l : List RecvEpochEntry) (x i : ℕ) (none : i ≤ 0) where
  start : i ≡ 0
  start = omega arith

  pub fit_none : last_fit l x i ≡ None
  unfolding last_fit
  fit_none = ap (last_fit l x) start

  pub find_none : find l x i ≡ None
  unfolding find
  find_none = ap (find l x) start

-- ---- what is found is keyed

abbrev pub Under : ℕ → Found → Type 0
Under n (Some i) = i < n
Under n None = Unit {0}

weaker : {m n : ℕ} → m ≤ n → (f : Found) → Under m f → Under n f
weaker h (Some i) u = omega arith
weaker h None u = tt

fit-under : (l : List RecvEpochEntry) (x n : ℕ) → Under n (last_fit l x n)
unfolding last_fit
fit-under l x zero = tt
fit-under l x (suc n) = by_test (Under (suc n)) (λ e. omega arith) (λ e. weaker {m = n} {n = suc n} (omega arith) (last_fit l x n) (fit-under l x n))

find-under : (l : List RecvEpochEntry) (x n : ℕ) → Under n (find l x n)
unfolding find
find-under l x zero = tt
find-under l x (suc n) = by_test (Under (suc n)) (λ e. omega arith) (λ e. weaker {m = n} {n = suc n} (omega arith) (find l x n) (find-under l x n))

or-under : (n : ℕ) (f g : Found) → Under n f → Under n g → Under n (option_or f g)
or-under n (Some i) g u v = u
or-under n None g u v = v

two-under : (k : RecvKeys) (bits : ℕ) → Under k.count (two k bits)
unfolding two
two-under k bits = by_test (Under k.count) (λ t. find-under k.entries 2 k.count) (λ t. tt)

resolve-under : (k : RecvKeys) (bits : ℕ) → Under k.count (resolve k bits)
unfolding resolve
resolve-under k bits =
    let f = fit-under k.entries bits k.count in
    let t = two-under k bits in
    by_test (Under k.count) (λ e. or-under k.count _ _ f t) (λ e. or-under k.count _ _ t f)

-- `resolve` answers only keyed epochs
pub resolve-keyed : (k : RecvKeys) (bits i : ℕ) → resolve k bits ≡ Some i → i < k.count
resolve-keyed k bits i q = rw q at (resolve-under k bits)

pub found-keyed : (l : List RecvEpochEntry) (x n i : ℕ) → find l x n ≡ Some i → i < n
found-keyed l x n i q = rw q at (find-under l x n)

-- ---- counting application epochs

pub apps-more : (l : List RecvEpochEntry) (i n : ℕ) → n ≡ apps l i → n + app_one (get_or l i no_entry).epoch ≡ apps l (i + 1)
unfolding apps
apps-more l i n e = rw (e, add-one i)

pub apps-none : (l : List RecvEpochEntry) → 0 ≡ apps l 0
unfolding apps
apps-none l = refl

pub apps-all : (l : List RecvEpochEntry) (i j n : ℕ) → n ≡ apps l i → i ≡ j → n ≡ apps l j
apps-all l i j n e p = e ∙ ap (apps l) p

pub not_full : (k : RecvKeys) (epoch : ℕ) → is_full k epoch ≡ false → k.count < 5
unfolding is_full
not_full k epoch = by_test (λ (b : Bool). b ≡ false → k.count < 5) (λ t f. let z : ◌≡◌ {A = ℕ} 0 1 = cc in omega arith) (λ t f. leb-false 5 k.count t)

-- ---- the windows' range

module _ (l : List RecvEpochEntry) (i : ℕ) where
  pub windows-out : 0 < i → 0xFFFF_FFFF_FFFF < (get_or l (i - 1) no_entry).replay.max_seq → windows_sound l i ≡ false
  unfolding windows_sound
  windows-out h e = let p : i ≡ suc (i - 1) = omega arith in ap (windows_sound l) p ∙ if_true _ _ (lt-ltb _ _ e)

  pub windows_in : 0 < i → (get_or l (i - 1) no_entry).replay.max_seq ≤ 0xFFFF_FFFF_FFFF → windows_sound l i ≡ windows_sound l (i - 1)
  unfolding windows_sound
  windows_in h e = let p : i ≡ suc (i - 1) = omega arith in ap (windows_sound l) p ∙ if_false _ _ (le-ltb _ _ e)

  pub windows-none : i ≤ 0 → windows_sound l i ≡ true
  unfolding windows_sound
  windows-none h = let p : i ≡ 0 = omega arith in ap (windows_sound l) p

-- every window of the first n is in range, and only then
pub windows-last : (l : List RecvEpochEntry) (n : ℕ) → windows_sound l (suc n) ≡ true
    → ((get_or l n no_entry).replay.max_seq ≤ 0xFFFF_FFFF_FFFF) × (windows_sound l n ≡ true)
unfolding windows_sound
windows-last l n =
    by_test (λ (b : Bool). b ≡ true → ((get_or l n no_entry).replay.max_seq ≤ 0xFFFF_FFFF_FFFF) × (windows_sound l n ≡ true))
    (λ e t. absurd (false≢true t)) (λ e t. (ltb-false _ _ e, t))

pub window-at : (l : List RecvEpochEntry) (n i : ℕ) → windows_sound l n ≡ true → i < n → (get_or l i no_entry).replay.max_seq ≤ 0xFFFF_FFFF_FFFF
window-at l zero i t h = absurd (omega arith)
window-at l (suc n) i t h =
    let w = windows-last l n t in
    ⊎_elim (λ m. window-at l n i w.1 m) (λ m. let e : i ≡ n = omega arith in rw e w.0) (lt-or_ge i n)

pub windows-all : (l : List RecvEpochEntry) (n : ℕ) → ((i : ℕ) → i < n → (get_or l i no_entry).replay.max_seq ≤ 0xFFFF_FFFF_FFFF)
    → windows_sound l n ≡ true
unfolding windows_sound
windows-all l zero f = refl
windows-all l (suc n) f = if_false _ _ (le-ltb _ _ (f n (omega arith))) ∙ windows-all l n (λ i h. f i (omega arith))
