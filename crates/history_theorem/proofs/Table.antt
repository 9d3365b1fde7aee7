-- The table of receive epochs, as the claim's account and the numbers used know it: its epochs as a list, the last keyed first, its windows
-- against the numbers used, its IVs; what keying, removing and marking do to it. Assumes nothing.
use Prim.Native.Nat.{ℕ, zero, suc, ◌+◌, ◌-◌, ◌%◌, ◌<◌, ◌≤◌}
use borrow.Author.Tests.{eq-eqb, ne_eqb, leb-true, le-leb, ltb-true, ltb-false}
use Rattle.std.specs.Option.{option_or}
use Rattle.std.specs.Prelude.{ltb, leb, eqb, length, get_or, Bool, Some, None}
use Rattle.std.proofs.Math.Bool.{true, false, not}
use Rattle.std.proofs.Common.{◌∙◌, add-one}
use mathlib.Core.List.{List, [], ◌∷◌, Memᴰ as Mem}
use Rattle.std.proofs.Math.Logic.{⊎_elim}
use Rattle.std.proofs.Math.Option.{Option, none, some}
use Rattle.std.proofs.Math.Path.{◌≡◌, refl, sym, ap, subst}
use native.Mathlib.Omega.{arith}
use Rattle.base.specs.Choose.{choose, both, either, if_true, if_false, by_test, test_cases, lt-or_ge, eq-or_ne, both_true, both_false, either_true, either-false}
use Rattle.recv_keys.specs.Keeps.{
  found-epoch,
  installed-other,
  installed-last,
  left-front,
  left-behind,
  marked-here,
  marked_other,
  marked-epoch,
}
use Rattle.recv_keys.specs.Keys.{no_entry, entry_at, fits, last_fit, find, two, resolve, was_found, marked_entry, marked, app_one, apps, is_full, installed, left, Found}
use Rattle.recv_keys.specs.declared.RecvEpochEntry.{RecvEpochEntry}
use Rattle.recv_keys.specs.declared.RecvKeys.{RecvKeys}
use Rattle.window.specs.Used.{Agrees}
use Rattle.window.proofs.Used.{agrees-new, agrees-marked}
use Rattle.window.specs.Window.{unmarked}
use Rattle.history_theorem.specs.Account.{upd, Account, is_in, without, applications, fifth, last_with, or_two, resolves_to}
use Rattle.history_theorem.proofs.Lists.{upd_same, upd_other, upd-by, empty_list}

-- ---- the epochs as a list

-- the first n, the last first
abbrev pub epochs_in : List RecvEpochEntry → ℕ → List ℕ
epochs_in l zero = []
epochs_in l (suc n) = (get_or l n no_entry).epoch ∷ epochs_in l n

abbrev pub keyed_in : RecvKeys → List ℕ
keyed_in k = epochs_in k.entries k.count

pub epochs-same : (l m : List RecvEpochEntry) (n : ℕ) → ((i : ℕ) → i < n → (get_or l i no_entry).epoch ≡ (get_or m i no_entry).epoch)
    → epochs_in l n ≡ epochs_in m n
epochs-same l m zero f = refl
epochs-same l m (suc n) f =
    let a = f n (omega arith) in let b = epochs-same l m n (λ i h. f i (omega arith)) in cc

-- what is searched in the table is searched in the list
pub find_in : (l : List RecvEpochEntry) (e n : ℕ) → was_found (find l e n) ≡ is_in e (epochs_in l n)
unfolding find was_found
find_in l e zero = refl
find_in l e (suc n) =
    by_test (λ (f : Found). was_found f ≡ either (eqb (get_or l n no_entry).epoch e) (is_in e (epochs_in l n)))
    (λ t. sym (either_true _ t)) (λ t. find_in l e n ∙ sym (either-false t))

apps_in : (l : List RecvEpochEntry) (n : ℕ) → apps l n ≡ applications (epochs_in l n)
unfolding apps app_one
apps_in l zero = refl
apps_in l (suc n) =
    test_cases (leb 3 (get_or l n no_entry).epoch)
    (λ t. ap (λ (x : ℕ). apps l n + x) (if_true 1 0 t) ∙ add-one (apps l n) ∙ ap suc (apps_in l n) ∙ sym (if_true _ _ t))
    (λ t. ap (λ (x : ℕ). apps l n + x) (if_false 1 0 t) ∙ nothing-more (apps l n) ∙ apps_in l n ∙ sym (if_false _ _ t))
  where
    nothing-more : (x : ℕ) → x + 0 ≡ x
    nothing-more x = omega arith

abbrev pub epoch_at : List RecvEpochEntry → Found → Option ℕ
epoch_at l (Some i) = some (get_or l i no_entry).epoch
epoch_at l None = none

same-fit : (e bits : ℕ) → fits e bits ≡ both (leb 3 e) (eqb (e % 4) bits)
unfolding fits both
same-fit e bits = test_cases (leb 3 e) (λ t. if_true _ _ t ∙ rw t) (λ t. if_false _ _ t ∙ rw t)

fit_in : (l : List RecvEpochEntry) (bits n : ℕ) → epoch_at l (last_fit l bits n) ≡ last_with bits (epochs_in l n)
unfolding last_fit
fit_in l bits zero = refl
fit_in l bits (suc n) =
    let e : ℕ = (get_or l n no_entry).epoch in
    by_test (λ (f : Found). epoch_at l f ≡ choose (both (leb 3 e) (eqb (e % 4) bits)) (some e) (last_with bits (epochs_in l n)))
    (λ t. sym (if_true _ _ (sym (same-fit e bits) ∙ t)))
    (λ t. fit_in l bits n ∙ sym (if_false _ _ (sym (same-fit e bits) ∙ t)))

-- ---- which epoch

or-two-none : (o : Option ℕ) → or_two false o ≡ o
or-two-none none = refl
or-two-none (some e) = refl

-- the tests that the account makes, by their values
abbrev resolves_by : Bool → Bool → Bool → Option ℕ → Option ℕ
resolves_by is-two has-two out last = choose (both is-two (both has-two (not out))) (some 2) (or_two (both is-two has-two) last)

no_two : (b out : Bool) (last : Option ℕ) → resolves_by b false out last ≡ last
unfolding both choose
no_two true out last = or-two-none last
no_two false out last = or-two-none last

not_bits : (h out : Bool) (last : Option ℕ) → resolves_by false h out last ≡ last
unfolding both choose
not_bits h out last = or-two-none last

-- with no epoch 2 to mean, the last application epoch that fits
fit-alone : (l : List RecvEpochEntry) (out : Bool) (f : Found) → epoch_at l (choose out (option_or f None) (option_or None f)) ≡ epoch_at l f
unfolding choose
fit-alone l true (Some i) = refl
fit-alone l true None = refl
fit-alone l false f = refl

with_two : (l : List RecvEpochEntry) (out : Bool) (f : Found) (i : ℕ) (last : Option ℕ) → (get_or l i no_entry).epoch ≡ 2 → epoch_at l f ≡ last
    → epoch_at l (choose out (option_or f (Some i)) (option_or (Some i) f)) ≡ resolves_by true true out last
unfolding choose both
with_two l true (Some j) i last e q = rw (sym q)
with_two l true None i last e q = rw (sym q, e)
with_two l false f i last e q = ap some e

module _ (k : RecvKeys) (bits : ℕ) where
  abbrev by-found : Found → Found
  by-found f =
      choose k.released (option_or (last_fit k.entries bits k.count) f) (option_or f (last_fit k.entries bits k.count))

  two-known : (f : Found) → find k.entries 2 k.count ≡ f
      → epoch_at k.entries (by-found f) ≡ resolves_by true (was_found f) k.released (last_with bits (keyed_in k))
  unfolding was_found
  two-known (Some i) q =
      with_two k.entries k.released _ i _ (found-epoch k.entries 2 k.count i q) (fit_in k.entries bits k.count)
  two-known None q =
      fit-alone k.entries k.released _ ∙ fit_in k.entries bits k.count ∙ sym (no_two true k.released _)

  by_bits : (b : Bool) → epoch_at k.entries (by-found (choose b (find k.entries 2 k.count) None))
      ≡ resolves_by b (is_in 2 (keyed_in k)) k.released (last_with bits (keyed_in k))
  unfolding choose
  by_bits true =
      two-known _ refl ∙ ap (λ (x : Bool). resolves_by true x k.released (last_with bits (keyed_in k))) (find_in k.entries 2 k.count)
  by_bits false =
      fit-alone k.entries k.released _ ∙ fit_in k.entries bits k.count ∙ sym (not_bits (is_in 2 (keyed_in k)) k.released _)

  -- the account resolves the bits as the table does
  pub resolves : (a : Account) → a.keyed ≡ keyed_in k → a.released ≡ k.released → resolves_to a bits ≡ epoch_at k.entries (resolve k bits)
  unfolding resolves_to resolve two
  resolves a keyed out = rw (keyed, out) (sym (by_bits (eqb bits 2)))

-- ---- the table against the numbers used and the IVs

pub record Table (k : RecvKeys) (used ivs : ℕ → List ℕ) : Type 0 where
  -- each window holds the numbers used, each entry the IV that its epoch was keyed with
  pub agrees : (i : ℕ) → i < k.count → Agrees (entry_at k i).replay (used (entry_at k i).epoch)
  pub iv : (i : ℕ) → i < k.count → (entry_at k i).iv ≡ ivs (entry_at k i).epoch
  -- the epochs rise, from 2 to the highest ever keyed; no number was used above that
  pub rising : (i j : ℕ) → i < j → j < k.count → (entry_at k i).epoch < (entry_at k j).epoch
  pub lowest : (i : ℕ) → i < k.count → 2 ≤ (entry_at k i).epoch
  pub below : (i : ℕ) → i < k.count → (entry_at k i).epoch ≤ k.highest
  pub early : (e n : ℕ) → Mem n (used e) → e ≤ k.highest

-- ---- keying

module _ (k : RecvKeys) (used ivs : ℕ → List ℕ) (t : Table k used ivs) where
  -- all but one are application epochs
  nearly_all : (n : ℕ) → n ≤ k.count → n ≤ apps k.entries n + 1
  unfolding apps app_one
  nearly_all zero h = omega arith
  nearly_all (suc zero) h = omega arith
  nearly_all (suc (suc n)) h =
      let ih = nearly_all (suc n) (omega arith) in
      let up = t.rising 0 (suc n) (omega arith) (omega arith) in
      let low = t.lowest 0 (omega arith) in
      let one : ◌≡◌ {A = ℕ} (choose (leb 3 (get_or k.entries (suc n) no_entry).epoch) 1 0) 1 = if_true _ _ (le-leb 3 (get_or k.entries (suc n) no_entry).epoch (omega arith)) in
      omega arith

  -- no place is left exactly where a fifth application epoch would be keyed
  pub full_same : (e : ℕ) → k.highest < e → is_full k e ≡ fifth e (keyed_in k)
  unfolding is_full
  full_same e new =
      by_test (λ (b : Bool). b ≡ fifth e (keyed_in k))
      (λ f. sym (both_true (le-leb 3 e (three (leb-true _ _ f))) ∙ le-leb 4 (applications (keyed_in k)) (four (leb-true _ _ f))))
      (λ f. by_test (λ (b : Bool). b ≡ fifth e (keyed_in k))
      (λ g. ap (leb 4) (apps_in k.entries k.count) ∙ sym (both_true g)) (λ g. sym (both_false _ g)))
    where
      three : 5 ≤ k.count → 3 ≤ e
      three h = omega (arith, t.rising 0 4 (omega arith) (omega arith), t.lowest 0 (omega arith), t.below 4 (omega arith))

      four : 5 ≤ k.count → 4 ≤ applications (keyed_in k)
      four h = omega (arith, nearly_all k.count (omega arith), apps_in k.entries k.count)

  module _ (e : ℕ) (iv : List ℕ) (long : length k.entries ≡ 5) (room : is_full k e ≡ false) where
    pub keyed-installed : keyed_in (installed k e iv) ≡ e ∷ keyed_in k
    unfolding installed
    keyed-installed =
        let last = installed-last k e iv long room in
        ap (epochs_in (installed k e iv).entries) (add-one k.count)
        ∙ let a = ap (λ (x : RecvEpochEntry). x.epoch) last in
        let b = epochs-same (installed k e iv).entries k.entries k.count
        (λ i h. ap (λ (x : RecvEpochEntry). x.epoch) (installed-other k e iv long room i h)) in
        cc

    -- a place in the new table: one of the others, or the new one
    at_place : (P : ℕ → RecvEpochEntry → Type 0) → ((i : ℕ) → i < k.count → P i (entry_at k i))
        → P k.count (record { epoch = e; iv = iv; replay = unmarked }) → (i : ℕ) → i < (installed k e iv).count → P i (entry_at (installed k e iv) i)
    unfolding installed
    at_place P old new i h =
        ⊎_elim (λ l. subst (P i) (sym (installed-other k e iv long room i l)) (old i l))
        (λ l.
        let here : i ≡ k.count = omega arith in
        subst (λ (j : ℕ). P j (entry_at (installed k e iv) j)) (sym here) (subst (P k.count) (sym (installed-last k e iv long room)) new))
        (lt-or_ge i k.count)

    pub installed-table : k.highest < e → 2 ≤ e → Table (installed k e iv) used (upd ivs e iv)
    unfolding installed
    installed-table new low = record {
      agrees = at_place (λ i x. Agrees x.replay (used x.epoch)) t.agrees
          (subst (λ (l : List ℕ). Agrees unmarked l) (sym unused_yet) (agrees-new));
      iv = at_place (λ i x. x.iv ≡ upd ivs e iv x.epoch)
          (λ i h. t.iv i h ∙ sym (upd_other ivs e iv (entry_at k i).epoch (λ q. omega (arith, t.below i h)))) (sym (upd_same ivs e iv));
      rising = λ i j up h.
          at_place (λ j x. i < j → (entry_at (installed k e iv) i).epoch < x.epoch)
          (λ j l m.
          subst (λ (x : RecvEpochEntry). x.epoch < (entry_at k j).epoch) (sym (installed-other k e iv long room i (omega arith))) (t.rising i j m l))
          (λ m. subst (λ (x : RecvEpochEntry). x.epoch < e) (sym (installed-other k e iv long room i m)) (omega (arith, t.below i m))) j h up;
      lowest = at_place (λ i x. 2 ≤ x.epoch) t.lowest low;
      below = at_place (λ i x. x.epoch ≤ e) (λ i h. omega (arith, t.below i h)) (omega arith);
      early = λ x n m. let l : x ≤ k.highest = t.early x n m in omega arith;
    }
      where
        unused_yet : used e ≡ []
        unused_yet = empty_list (used e) (λ n m. let l : e ≤ k.highest = t.early e n m in omega arith)

-- ---- removing

-- where the entry stood that comes to j when the one at i goes
abbrev pub was : ℕ → ℕ → ℕ
was i j = choose (ltb j i) j (j + 1)

without-none : (x : ℕ) (l : List RecvEpochEntry) (n : ℕ) → ((j : ℕ) → j < n → (get_or l j no_entry).epoch ≡ x → ⊥)
    → without x (epochs_in l n) ≡ epochs_in l n
without-none x l zero ne = refl
without-none x l (suc n) ne =
    if_false _ _ (ne_eqb _ _ (ne n (omega arith)))
    ∙ ap (λ (z : List ℕ). (get_or l n no_entry).epoch ∷ z) (without-none x l n (λ j h. ne j (omega arith)))

module _ (k : RecvKeys) (used ivs : ℕ → List ℕ) (t : Table k used ivs) (i : ℕ) (count : k.count ≤ 5) (within : i < k.count) where
  left_list : (m : ℕ) → i ≤ m → m < k.count → epochs_in (left k i).entries m ≡ without (entry_at k i).epoch (epochs_in k.entries (suc m))
  left_list m low high = ⊎_elim (λ l. later m l high) (λ l. last m (omega arith)) (lt-or_ge i m)
    where
      last : (m : ℕ) → m ≡ i → epochs_in (left k i).entries m ≡ without (entry_at k i).epoch (epochs_in k.entries (suc m))
      last m q =
          epochs-same (left k i).entries k.entries m (λ j h. ap (λ (x : RecvEpochEntry). x.epoch) (left-front k i count within j (omega arith)))
          ∙ sym (without-none (entry_at k i).epoch k.entries m (λ j h z. omega (arith, t.rising j i (omega arith) within)))
          ∙ sym (if_true _ _ (eq-eqb _ _ (ap (λ (j : ℕ). (entry_at k j).epoch) q)))

      later : (m : ℕ) → i < m → m < k.count → epochs_in (left k i).entries m ≡ without (entry_at k i).epoch (epochs_in k.entries (suc m))
      later zero l h = absurd (omega arith)
      later (suc m) l h =
          let back : suc m - 1 ≡ m = omega arith in
          let top : entry_at (left k i) m ≡ entry_at k (suc m) =
          ap (entry_at (left k i)) (sym back) ∙ left-behind k i count within (suc m) l h in
          let a = ap (λ (x : RecvEpochEntry). x.epoch) top in
          let rest : epochs_in (left k i).entries m ≡ without (entry_at k i).epoch (epochs_in k.entries (suc m)) =
          ⊎_elim (λ u. later m u (omega arith)) (λ u. last m (omega arith)) (lt-or_ge i m) in
          ap (λ (x : ℕ). x ∷ epochs_in (left k i).entries m) a ∙ ap (λ (z : List ℕ). (entry_at k (suc m)).epoch ∷ z) rest
          ∙ sym (if_false _ _ (ne_eqb _ _ (λ (z : (entry_at k (suc m)).epoch ≡ (entry_at k i).epoch). omega (arith, t.rising i (suc m) l h))))

  pub keyed-left : keyed_in (left k i) ≡ without (entry_at k i).epoch (keyed_in k)
  unfolding left
  keyed-left =
      let more : suc (k.count - 1) ≡ k.count = omega arith in
      left_list (k.count - 1) (omega arith) (omega arith) ∙ ap (λ (n : ℕ). without (entry_at k i).epoch (epochs_in k.entries n)) more

  pub stood : (j : ℕ) → j < k.count - 1 → (was i j < k.count) × (entry_at (left k i) j ≡ entry_at k (was i j))
  stood j h =
      by_test (λ (n : ℕ). (n < k.count) × (entry_at (left k i) j ≡ entry_at k n))
      (λ e. (omega arith, left-front k i count within j (ltb-true j i e)))
      (λ e. let back : j + 1 - 1 ≡ j = omega arith in
      let high = ltb-false j i e in
      (omega arith, ap (entry_at (left k i)) (sym back) ∙ left-behind k i count within (j + 1) (omega arith) (omega arith)))

  was_up : (j m : ℕ) → j < m → was i j < was i m
  was_up j m h =
      by_test (λ (x : ℕ). x < was i m)
      (λ e. by_test (λ (y : ℕ). j < y) (λ f. h) (λ f. omega arith))
      (λ e. by_test (λ (y : ℕ). j + 1 < y) (λ f. absurd (omega (arith, ltb-true m i f, ltb-false j i e))) (λ f. omega arith))

  pub left-table : Table (left k i) used ivs
  unfolding left
  left-table = record {
    agrees = λ j h. let w = stood j h in subst (λ (x : RecvEpochEntry). Agrees x.replay (used x.epoch)) (sym w.1) (t.agrees (was i j) w.0);
    iv = λ j h. let w = stood j h in subst (λ (x : RecvEpochEntry). x.iv ≡ ivs x.epoch) (sym w.1) (t.iv (was i j) w.0);
    rising = λ j m up h.
        let v = stood j (omega arith) in
        let w = stood m h in
        subst (λ (x : RecvEpochEntry). x.epoch < (entry_at (left k i) m).epoch) (sym v.1)
        (subst (λ (x : RecvEpochEntry). (entry_at k (was i j)).epoch < x.epoch) (sym w.1) (t.rising (was i j) (was i m) (was_up j m up) w.0));
    lowest = λ j h. let w = stood j h in subst (λ (x : RecvEpochEntry). 2 ≤ x.epoch) (sym w.1) (t.lowest (was i j) w.0);
    below = λ j h. let w = stood j h in subst (λ (x : RecvEpochEntry). x.epoch ≤ k.highest) (sym w.1) (t.below (was i j) w.0);
    early = t.early;
  }

-- ---- marking

module _ (k : RecvKeys) (used ivs : ℕ → List ℕ) (t : Table k used ivs) (i n : ℕ) (long : length k.entries ≡ 5) (count : k.count ≤ 5)
    (within : i < k.count) where
  pub keyed-marked : keyed_in (marked k i n) ≡ keyed_in k
  unfolding marked
  keyed-marked = epochs-same (marked k i n).entries k.entries k.count (λ j h. marked-epoch k i n long count within j)

  abbrev more : ℕ → List ℕ
  more = upd used (entry_at k i).epoch (n ∷ used (entry_at k i).epoch)

  -- two places of one epoch are one
  pub one_place : (j : ℕ) → j < k.count → (entry_at k j).epoch ≡ (entry_at k i).epoch → j ≡ i
  one_place j h q =
      ⊎_elim (λ l. absurd (omega (arith, t.rising j i l within)))
      (λ l. ⊎_elim (λ u. absurd (omega (arith, t.rising i j u h))) (λ u. omega arith) (lt-or_ge i j)) (lt-or_ge j i)

  pub marked-table : Table (marked k i n) more ivs
  unfolding marked
  marked-table = record {
    agrees = λ j h.
        ⊎_elim
        (λ (q : j ≡ i).
        subst (λ (m : ℕ). Agrees (entry_at (marked k i n) m).replay (more (entry_at (marked k i n) m).epoch)) (sym q)
        (subst (λ (x : RecvEpochEntry). Agrees x.replay (more x.epoch)) (sym (marked-here k i n long count within))
        (subst (λ (l : List ℕ). Agrees (marked_entry n (entry_at k i)).replay l) (sym (upd_same used (entry_at k i).epoch (n ∷ used (entry_at k i).epoch)))
        (agrees-marked (t.agrees i within) n))))
        (λ q.
        subst (λ (x : RecvEpochEntry). Agrees x.replay (more x.epoch)) (sym (marked_other k i n long count within j q))
        (subst (λ (l : List ℕ). Agrees (entry_at k j).replay l)
        (sym (upd_other used (entry_at k i).epoch (n ∷ used (entry_at k i).epoch) (entry_at k j).epoch (λ z. q (one_place j h z)))) (t.agrees j h)))
        (eq-or_ne j i);
    iv = λ j h. other_field (λ (x : RecvEpochEntry). x.iv ≡ ivs x.epoch) (λ x e. e) j (t.iv j h);
    rising = λ j m up h.
        subst (λ (x : ℕ). x < (entry_at (marked k i n) m).epoch) (sym (marked-epoch k i n long count within j))
        (subst (λ (x : ℕ). (entry_at k j).epoch < x) (sym (marked-epoch k i n long count within m)) (t.rising j m up h));
    lowest = λ j h. subst (λ (x : ℕ). 2 ≤ x) (sym (marked-epoch k i n long count within j)) (t.lowest j h);
    below = λ j h. subst (λ (x : ℕ). x ≤ k.highest) (sym (marked-epoch k i n long count within j)) (t.below j h);
    early = λ e m.
        upd-by used (entry_at k i).epoch (n ∷ used (entry_at k i).epoch) (λ e l. Mem m l → e ≤ k.highest) e
        (λ q o. subst (λ (x : ℕ). x ≤ k.highest) (sym q) (t.below i within)) (λ q o. t.early e m o);
  }
    where
      -- what does not look at the window
      other_field : (P : RecvEpochEntry → Type 0) → ((x : RecvEpochEntry) → P x → P (marked_entry n x)) → (j : ℕ) → P (entry_at k j) → P (entry_at (marked k i n) j)
      other_field P f j p =
          ⊎_elim
          (λ (q : j ≡ i).
          subst (λ (m : ℕ). P (entry_at (marked k i n) m)) (sym q)
          (subst P (sym (marked-here k i n long count within)) (f (entry_at k i) (subst (λ (m : ℕ). P (entry_at k m)) q p))))
          (λ q. subst P (sym (marked_other k i n long count within j q)) p) (eq-or_ne j i)
