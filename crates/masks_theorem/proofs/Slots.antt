-- The slots for mask keys hold the keys that the host gave, for each epoch keyed to receive: keying, removing and searching. Assumes nothing.
use Rattle.std.specs.Prelude.{ℕ, zero, suc, ◌+◌, ◌*◌, ◌<◌, ◌≤◌, eqb, length, get_or, Bool, true, false, List, [], ◌∷◌, ◌≡◌, refl, Some}
use Rattle.std.proofs.Common.{eqb-true, eq-eqb, true≢false, sym, ap, subst, ◌∙◌, arith}
use Rattle.std.proofs.lemmas.Bool.{false≢true}
use Rattle.std.proofs.Math.Option.{Option, none, some}
use Rattle.base.specs.Choose.{choose, if_true, if_false, by_test, test_cases, either_true, either-false}
use Rattle.recv_keys.specs.Keys.{no_entry, entry_at, find, Found}
use Rattle.recv_keys.specs.declared.RecvEpochEntry.{RecvEpochEntry}
use Rattle.recv_keys.specs.declared.RecvKeys.{RecvKeys}
use Rattle.mask_keys.specs.Keys.{key_size, slot_size, has_key, key_at, filled, emptied, moved_up, key_in}
use Rattle.mask_keys.proofs.Laws.{key_filled, other-filled, none-emptied, other-emptied, moved_before, moved-behind}
use Rattle.history_theorem.specs.Account.{upd, is_in, without}
use Rattle.history_theorem.proofs.Lists.{upd_same, upd_other}
use Rattle.history_theorem.proofs.Table.{epochs_in, Table}
use Rattle.masks_theorem.specs.Hosts.{Given}

-- ---- the slots of the keyed epochs, the last keyed first

abbrev pub key_of : List ℕ → ℕ → Option (List ℕ)
key_of k i = key_in k (Some i)

abbrev pub Agree : List ℕ → List ℕ → Given → Type 0
Agree [] k f = Unit {0}
Agree (e ∷ es) k f = (key_of k (length es) ≡ f e) × Agree es k f

-- a slot with its flag and key as another's has the same key
pub key_same : (j k : List ℕ) (i n : ℕ) → (has_key j i ≡ has_key k n) × (key_at j i ≡ key_at k n) → key_of j i ≡ key_of k n
unfolding key_in
key_same j k i n h = ap (λ (b : Bool). choose b (some (key_at j i)) none) h.0 ∙ ap (λ (x : List ℕ). choose (has_key k n) (some x) none) h.1

pub key_here : (k : List ℕ) (i : ℕ) (key : List ℕ) → (has_key k i ≡ true) × (key_at k i ≡ key) → key_of k i ≡ some key
unfolding key_in
key_here k i key h = if_true _ _ h.0 ∙ ap some h.1

pub no_key : (k : List ℕ) (i : ℕ) → has_key k i ≡ false → key_of k i ≡ none
unfolding key_in
no_key k i h = if_false _ _ h

-- other slots and other keys that are the same for these epochs
agree_same : (es j k : List ℕ) (f g : Given) → ((i : ℕ) → i < length es → key_of j i ≡ key_of k i) → ((e : ℕ) → is_in e es ≡ true → g e ≡ f e) → Agree es k f → Agree es j g
agree_same [] j k f g same given a = tt
agree_same (e ∷ es) j k f g same given a = (
  same (length es) (omega arith) ∙ a.0 ∙ sym (given e (either_true _ (eq-eqb e e refl))),
  agree_same es j k f g (λ i h. same i (omega arith)) (λ x m. given x (in_rest e x es m)) a.1,
)
  where
    in_rest : (y x : ℕ) (l : List ℕ) → is_in x l ≡ true → is_in x (y ∷ l) ≡ true
    in_rest y x l m = test_cases (eqb y x) (λ t. either_true _ t) (λ t. either-false t ∙ m)

-- ---- searching

pub epochs-long : (l : List RecvEpochEntry) (n : ℕ) → length (epochs_in l n) ≡ n
epochs-long l zero = refl
epochs-long l (suc n) = ap suc (epochs-long l n)

-- the key in the slot of the entry that is found is the one given for the epoch, if it is keyed
pub found_key : (l : List RecvEpochEntry) (n e : ℕ) (k : List ℕ) (f : Given) → Agree (epochs_in l n) k f → key_in k (find l e n) ≡ choose (is_in e (epochs_in l n)) (f e) none
unfolding find key_in
found_key l zero e k f a = sym (if_false _ _ refl)
found_key l (suc n) e k f a =
    let x : ℕ = (get_or l n no_entry).epoch in
    by_test (λ (p : Found). key_in k p ≡ choose (is_in e (x ∷ epochs_in l n)) (f e) none)
    (λ t.
    ap (key_of k) (sym (epochs-long l n)) ∙ a.0 ∙ ap f (eqb-true x e t) ∙ sym (if_true _ _ (either_true _ t)))
    (λ t. found_key l n e k f a.1 ∙ ap (λ (b : Bool). choose b (f e) none) (sym (either-false t)))

-- ---- keying

-- slots for five
abbrev pub most : ℕ
most = 5

module _ (es k : List ℕ) (f : Given) (e : ℕ) (long : most * slot_size ≤ length k) (room : length es < most) (new : (x : ℕ) → is_in x es ≡ true → x ≡ e → ⊥) (a : Agree es k f) where
  pub agree-filled : (key : List ℕ) → length key ≡ key_size → Agree (e ∷ es) (filled most (length es) key k) (upd f e (some key))
  agree-filled key n = (
    key_here _ (length es) key (key_filled most (length es) key k room long n) ∙ sym (upd_same f e (some key)),
    agree_same es (filled most (length es) key k) k f (upd f e (some key))
        (λ i h. key_same _ k i i (other-filled most (length es) i key k room (omega arith) (λ z. omega arith) long n))
        (λ x m. upd_other f e (some key) x (new x m)) a,
  )

  pub agree-emptied : Agree (e ∷ es) (emptied most (length es) k) (upd f e none)
  agree-emptied = (
    no_key _ (length es) (none-emptied most (length es) k room long) ∙ sym (upd_same f e none),
    agree_same es (emptied most (length es) k) k f (upd f e none)
        (λ i h. key_same _ k i i (other-emptied most (length es) i k room (omega arith) (λ z. omega arith) long))
        (λ x m. upd_other f e none x (new x m)) a,
  )

-- ---- removing

-- the epochs fall, so none stands twice
abbrev pub Falls : List ℕ → Type 0
Falls [] = Unit {0}
Falls (e ∷ es) = ((x : ℕ) → is_in x es ≡ true → x < e) × Falls es

pub below_all : (l : List RecvEpochEntry) (n x y : ℕ) → ((j : ℕ) → j < n → (get_or l j no_entry).epoch < x) → is_in y (epochs_in l n) ≡ true → y < x
below_all l zero x y h m = absurd (false≢true m)
below_all l (suc n) x y h m =
    test_cases (eqb (get_or l n no_entry).epoch y)
    (λ t. subst (λ (z : ℕ). z < x) (eqb-true (get_or l n no_entry).epoch y t) (h n (omega arith)))
    (λ t. below_all l n x y (λ j i. h j (omega arith)) (sym (either-false t) ∙ m))

pub falls : (k : RecvKeys) (used ivs : ℕ → List ℕ) → Table k used ivs → (n : ℕ) → n ≤ k.count → Falls (epochs_in k.entries n)
falls k used ivs t zero h = tt
falls k used ivs t (suc n) h = (
  λ x m. below_all k.entries n (entry_at k n).epoch x (λ j i. t.rising j n i (omega arith)) m,
  falls k used ivs t n (omega arith),
)

without-absent : (e : ℕ) (es : List ℕ) → is_in e es ≡ false → without e es ≡ es
without-absent e [] h = refl
without-absent e (x ∷ es) h =
    test_cases (eqb x e) (λ t. absurd (true≢false (sym (either_true _ t) ∙ h)))
    (λ t. if_false _ _ t ∙ ap (λ (l : List ℕ). x ∷ l) (without-absent e es (sym (either-false t) ∙ h)))

-- the place of an epoch: how many were keyed before it
abbrev pub place_of : ℕ → List ℕ → ℕ
place_of e [] = 0
place_of e (x ∷ es) = choose (eqb x e) (length es) (place_of e es)

pub found-place : (l : List RecvEpochEntry) (n e i : ℕ) → find l e n ≡ Some i → i ≡ place_of e (epochs_in l n)
unfolding find
found-place l zero e i q = let z : ◌≡◌ {A = ℕ} 0 1 = cc in absurd (omega arith)
found-place l (suc n) e i q =
    by_test (λ (p : Found). p ≡ Some i → i ≡ place_of e (epochs_in l (suc n)))
    (λ t r. let s : n ≡ i = cc in sym s ∙ sym (epochs-long l n) ∙ sym (if_true _ _ t))
    (λ t r. found-place l n e i r ∙ sym (if_false _ _ t)) q

place-below : (e : ℕ) (es : List ℕ) → is_in e es ≡ true → place_of e es < length es
place-below e [] m = absurd (false≢true m)
place-below e (x ∷ es) m =
    by_test (λ (n : ℕ). n < suc (length es)) (λ t. omega arith)
    (λ t. omega (arith, place-below e es (sym (either-false t) ∙ m)))

one_less : (e : ℕ) (es : List ℕ) → Falls es → is_in e es ≡ true → length (without e es) + 1 ≡ length es
one_less e [] h m = absurd (false≢true m)
one_less e (x ∷ es) h m =
    by_test (λ (l : List ℕ). length l + 1 ≡ suc (length es))
    (λ t. ap (λ (l : List ℕ). length l + 1) (without-absent e es (absent t)) ∙ add)
    (λ t. let r = one_less e es h.1 (sym (either-false t) ∙ m) in omega arith)
  where
    add : length es + 1 ≡ suc (length es)
    add = omega arith

    absent : eqb x e ≡ true → is_in e es ≡ false
    absent t = test_cases (is_in e es) (λ i. absurd (let b = h.0 e i in let q = eqb-true x e t in omega arith)) (λ i. i)

module _ (j k : List ℕ) (f : Given) (e : ℕ) (long : length j ≡ length k) (full : most * slot_size ≤ length k) where
  pub agree-moved : (es : List ℕ) (i : ℕ) → i ≡ place_of e es → ((n : ℕ) → get_or j n 0 ≡ moved_up i k n) → Falls es → length es ≤ most → is_in e es ≡ true → Agree es k f → Agree (without e es) j f
  agree-moved [] i q up h few m a = absurd (false≢true m)
  agree-moved (x ∷ es) i q up h few m a =
      by_test (λ (l : List ℕ). Agree l j f)
      (λ t.
      let here : i ≡ length es = q ∙ if_true _ _ t in
      subst (λ (l : List ℕ). Agree l j f) (sym (without-absent e es (absent t)))
      (agree_same es j k f f (λ n b. key_same j k n n (moved_before i n j k long up (omega arith))) (λ y z. refl) a.1))
      (λ t.
      let in-es : is_in e es ≡ true = sym (either-false t) ∙ m in
      let less = one_less e es h.1 in-es in
      let low = place-below e es in-es in
      let at : i ≡ place_of e es = q ∙ if_false _ _ t in
      let up_one : length (without e es) + 1 ≡ length es = less in (
        key_same j k (length (without e es)) (length (without e es) + 1) (moved-behind i (length (without e es)) j k long up (omega arith) (omega arith)) ∙ ap (key_of k) up_one ∙ a.0,
        agree-moved es i at up h.1 (omega arith) in-es a.1,
      ))
    where
      absent : eqb x e ≡ true → is_in e es ≡ false
      absent t = test_cases (is_in e es) (λ i. absurd (let b = h.0 e i in let q = eqb-true x e t in omega arith)) (λ i. i)
