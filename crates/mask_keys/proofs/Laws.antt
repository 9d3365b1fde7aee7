-- What a slot holds once it, or another, is filled or emptied, or one goes. Assumes nothing.
use Rattle.std.specs.Prelude.{true, false, List, [], ◌∷◌, ◌≡◌, refl, ℕ, zero, suc, ◌+◌, ◌*◌, ◌<◌, ◌≤◌, ltb, eqb, length, take, drop, get_or, set, replicate}
use Rattle.std.proofs.Common.{⊎_elim, sym, ap, ◌∙◌, add-zero, arith, length-take, length-drop, length-set, drop-drop, get_or-set_same, get_or-set_other, ext_get_or, lt-ltb, le-ltb}
use Rattle.std.proofs.lemmas.List.{get_or-replicate, get_or_append_left, get_or-append-add}
use Rattle.std.specs.List.{SameBelow, CopiedTo}
use Prim.Native.Nat.{◌-◌}
use mathlib.Core.List.{◌++◌}
use Rattle.std.proofs.Common.{get_or-drop}
use Rattle.std.proofs.Math.ListN.{get_or-eq_default}
use Rattle.base.specs.Choose.{choose, if_true, if_false, by_less, lt-or_ge, eq-or_ne}
use Rattle.base.specs.Parts.{part, splice, length_part, part_at, length-splice, splice_at, splice_front, splice-here, splice-before, splice-after}
use Rattle.mask_keys.specs.Keys.{key_size, slot_size, sample_size, slot_at, has_key, key_at, filled, emptied, moved_up}

-- ---- a slot's 33 bytes

abbrev slot : List ℕ → ℕ → List ℕ
slot k i = part (slot_at i) slot_size k

behind-first : (n : ℕ) (l : List ℕ) → take n (drop 1 l) ≡ drop 1 (take (suc n) l)
behind-first zero [] = refl
behind-first (suc n) [] = refl
behind-first n (x ∷ l) = refl

-- they say all of it
pub by-slot : (k : List ℕ) (i : ℕ) {s : List ℕ} → slot k i ≡ s → (has_key k i ≡ eqb (get_or s 0 0) 1) × (key_at k i ≡ drop 1 s)
unfolding has_key key_at
by-slot k i e = (
  ap (λ (n : ℕ). eqb n 1) (ap (λ (n : ℕ). get_or k n 0) (sym (add-zero (slot_at i))) ∙ sym (part_at (slot_at i) slot_size k 0 (omega arith)) ∙ ap (λ (s : List ℕ). get_or s 0 0) e),
  ap (take key_size) (sym (drop-drop 1 (slot_at i) k)) ∙ behind-first key_size (drop (slot_at i) k) ∙ ap (drop 1) e,
)

same-slot : (m k : List ℕ) (j i : ℕ) → slot m j ≡ slot k i → (has_key m j ≡ has_key k i) × (key_at m j ≡ key_at k i)
same-slot m k j i e = let a = by-slot m j e in let b = by-slot k i refl in (a.0 ∙ sym b.0, a.1 ∙ sym b.1)

-- ---- 33 bytes written over slot i of n

module _ (n i : ℕ) (v k : List ℕ) (size : length v ≡ slot_size) (room : n * slot_size ≤ length k) where
  written : i < n → slot (splice (slot_at i) v k) i ≡ v
  written h = ap (λ (x : ℕ). part (slot_at i) x (splice (slot_at i) v k)) (sym size) ∙ splice-here (slot_at i) v k (omega arith)

  beside : (j : ℕ) → i < n → (j ≡ i → ⊥) → slot (splice (slot_at i) v k) j ≡ slot k j
  beside j h d =
      ⊎_elim
      (λ l. splice-before (slot_at i) v k (omega arith) (slot_at j) slot_size (omega arith))
      (λ l. splice-after (slot_at i) v k (omega arith) (slot_at j) slot_size (omega arith))
      (lt-or_ge j i)

  length-written : i < n → length (splice (slot_at i) v k) ≡ length k
  length-written h = length-splice (slot_at i) v k (omega arith)

-- ---- filled

pub filled_at : (n i : ℕ) (key k : List ℕ) → i < n → splice (slot_at i) (1 ∷ key) k ≡ filled n i key k
unfolding filled
filled_at n i key k h = sym (if_true _ _ (lt-ltb i n h))

pub filled-out : (n i : ℕ) (key k : List ℕ) → n ≤ i → k ≡ filled n i key k
unfolding filled
filled-out n i key k h = sym (if_false _ _ (le-ltb i n h))

pub key_filled : (n i : ℕ) (key k : List ℕ) → i < n → n * slot_size ≤ length k → length key ≡ key_size
    → (has_key (filled n i key k) i ≡ true) × (key_at (filled n i key k) i ≡ key)
unfolding filled
key_filled n i key k h room size = rw (if_true _ _ (lt-ltb i n h)) (by-slot _ i (written n i (1 ∷ key) k (ap suc size) room h))

pub other-filled : (n i j : ℕ) (key k : List ℕ) → i < n → j < n → (j ≡ i → ⊥) → n * slot_size ≤ length k → length key ≡ key_size
    → (has_key (filled n i key k) j ≡ has_key k j) × (key_at (filled n i key k) j ≡ key_at k j)
unfolding filled
other-filled n i j key k h l d room size =
    rw (if_true _ _ (lt-ltb i n h)) (same-slot _ k j j (beside n i (1 ∷ key) k (ap suc size) room j h d))

pub length-filled : (n i : ℕ) (key k : List ℕ) → n * slot_size ≤ length k → length key ≡ key_size → length (filled n i key k) ≡ length k
unfolding filled
length-filled n i key k room size =
    by_less (λ (x : List ℕ). length x ≡ length k) i n (length-written n i (1 ∷ key) k (ap suc size) room) (λ h. refl)

-- ---- emptied

pub emptied-at : (n i : ℕ) (k : List ℕ) → i < n → splice (slot_at i) (replicate slot_size 0) k ≡ emptied n i k
unfolding emptied
emptied-at n i k h = sym (if_true _ _ (lt-ltb i n h))

pub emptied-out : (n i : ℕ) (k : List ℕ) → n ≤ i → k ≡ emptied n i k
unfolding emptied
emptied-out n i k h = sym (if_false _ _ (le-ltb i n h))

pub none-emptied : (n i : ℕ) (k : List ℕ) → i < n → n * slot_size ≤ length k → has_key (emptied n i k) i ≡ false
unfolding emptied
none-emptied n i k h room = rw (if_true _ _ (lt-ltb i n h)) (by-slot _ i (written n i (replicate slot_size 0) k refl room h)).0

pub other-emptied : (n i j : ℕ) (k : List ℕ) → i < n → j < n → (j ≡ i → ⊥) → n * slot_size ≤ length k
    → (has_key (emptied n i k) j ≡ has_key k j) × (key_at (emptied n i k) j ≡ key_at k j)
unfolding emptied
other-emptied n i j k h l d room =
    rw (if_true _ _ (lt-ltb i n h)) (same-slot _ k j j (beside n i (replicate slot_size 0) k refl room j h d))

pub length-emptied : (n i : ℕ) (k : List ℕ) → n * slot_size ≤ length k → length (emptied n i k) ≡ length k
unfolding emptied
length-emptied n i k room =
    by_less (λ (x : List ℕ). length x ≡ length k) i n (length-written n i (replicate slot_size 0) k refl room) (λ h. refl)

-- ---- moved up

-- two slots are the same byte by byte
slots_same : (m k : List ℕ) (j i : ℕ) → length (slot m j) ≡ length (slot k i)
    → ((x : ℕ) → x < slot_size → get_or m (slot_at j + x) 0 ≡ get_or k (slot_at i + x) 0) → slot m j ≡ slot k i
slots_same m k j i e f =
    ext_get_or 0 (slot m j) (slot k i) e
    (λ x h. let l : x < slot_size = omega (arith, length-take slot_size (drop (slot_at j) m)) in
    part_at (slot_at j) slot_size m x l ∙ f x l ∙ sym (part_at (slot_at i) slot_size k x l))

module _ (i j : ℕ) (m k : List ℕ) (size : length m ≡ length k) (moved : (n : ℕ) → get_or m n 0 ≡ moved_up i k n) where
  pub moved_before : j < i → (has_key m j ≡ has_key k j) × (key_at m j ≡ key_at k j)
  moved_before h =
      same-slot m k j j
      (slots_same m k j j (simp (length-take, length-drop, size))
      (λ x l. moved (slot_at j + x) ∙ if_true _ _ (lt-ltb (slot_at j + x) (slot_at i) (omega arith))))

  pub moved-behind : i ≤ j → (j + 2) * slot_size ≤ length k → (has_key m j ≡ has_key k (j + 1)) × (key_at m j ≡ key_at k (j + 1))
  moved-behind h r =
      same-slot m k j (j + 1)
      (slots_same m k j (j + 1)
      (length_part (slot_at j) slot_size m (omega arith) ∙ sym (length_part (slot_at (j + 1)) slot_size k (omega arith)))
      (λ x l. let e : slot_at j + x + slot_size ≡ slot_at (j + 1) + x = omega arith in
      moved (slot_at j + x) ∙ if_false _ _ (le-ltb (slot_at j + x) (slot_at i) (omega arith)) ∙ ap (λ (n : ℕ). get_or k n 0) e))

pub moved-last : (i : ℕ) (m k : List ℕ) (j : ℕ) → ((n : ℕ) → get_or m n 0 ≡ moved_up i k n) → i ≤ j → length k ≤ (j + 1) * slot_size
    → has_key m j ≡ false
unfolding has_key
moved-last i m k j moved h r =
    ap (λ (n : ℕ). eqb n 1)
    (moved (slot_at j) ∙ if_false _ _ (le-ltb (slot_at j) (slot_at i) (omega arith)) ∙ get_or-eq_default k 0 (omega arith))

-- bytes copied one slot down, and zeros in the last
module _ (i : ℕ) (k m z : List ℕ) (inside : (i + 1) * slot_size ≤ length k) (size : length m ≡ length k) (zeros : z ≡ replicate slot_size 0)
    (below : SameBelow k m (slot_at i)) (copied : CopiedTo k m (slot_at i + slot_size) (slot_at i) (length k - (slot_at i + slot_size))) where
  abbrev last : ℕ
  last = length m - slot_size

  fits : last + length z ≤ length m
  fits = omega (arith, ap length zeros)

  kept : (n : ℕ) → n < last → get_or m n 0 ≡ moved_up i k n
  kept n h =
      by_less (λ (x : ℕ). get_or m n 0 ≡ x) n (slot_at i) (λ l. below n 0 l)
      (λ g. let e : slot_at i + slot_size + (n - slot_at i) ≡ n + slot_size = omega arith in
      copied n 0 g (omega arith) ∙ ap (λ (j : ℕ). get_or k j 0) e)

  gone : (n : ℕ) → last ≤ n → moved_up i k n ≡ 0
  gone n h = if_false _ _ (le-ltb n (slot_at i) (omega arith)) ∙ get_or-eq_default k 0 (omega arith)

  none : (n : ℕ) → last ≤ n → get_or (splice last z m) n 0 ≡ 0
  none n h =
      ⊎_elim
      (λ (l : n < length m). let e : n ≡ last + (n - last) = omega arith in
      ap (λ (j : ℕ). get_or (splice last z m) j 0) e ∙ splice_at last z m fits (n - last) (omega (arith, ap length zeros))
      ∙ ap (λ (l : List ℕ). get_or l (n - last) 0) zeros ∙ get_or-replicate slot_size (n - last) 0 0 (omega arith))
      (λ (g : length m ≤ n). get_or-eq_default (splice last z m) 0 (omega (arith, length-splice last z m fits))) (lt-or_ge n (length m))

  pub moved_all : (length (splice last z m) ≡ length k) × ((n : ℕ) → get_or (splice last z m) n 0 ≡ moved_up i k n)
  moved_all = (
    length-splice last z m fits ∙ size,
    λ n. ⊎_elim (λ (l : n < last). splice_front last z m fits n l ∙ kept n l) (λ (g : last ≤ n). none n g ∙ sym (gone n g)) (lt-or_ge n last),
  )

-- the bytes of a slice put at the front of zeros
pub padded : (s : List ℕ) (i : ℕ) → get_or (s ++ drop (length s) (replicate sample_size 0)) i 0 ≡ get_or s i 0
padded s i =
    ⊎_elim (λ (l : i < length s). get_or_append_left s _ 0 i l)
    (λ (g : length s ≤ i).
    let e : i ≡ length s + (i - length s) = omega arith in
    let zeros : get_or (replicate sample_size 0) i 0 ≡ 0 =
    ⊎_elim (λ h. get_or-replicate sample_size i 0 0 h) (λ h. get_or-eq_default (replicate sample_size 0) 0 h) (lt-or_ge i sample_size) in
    ap (λ (j : ℕ). get_or (s ++ drop (length s) (replicate sample_size 0)) j 0) e ∙ get_or-append-add s _ (i - length s) 0
    ∙ get_or-drop (length s) (replicate sample_size 0) (i - length s) 0 ∙ ap (λ (j : ℕ). get_or (replicate sample_size 0) j 0) (sym e) ∙ zeros
    ∙ sym (get_or-eq_default s 0 g))
    (lt-or_ge i (length s))

-- ---- byte by byte: what holds of a slot moved up, and of a sample laid, at each place in between

-- the bytes of k before place j moved up, in m
abbrev pub Moving : ℕ → List ℕ → ℕ → List ℕ → Type 0
Moving i k j m = (slot_at i ≤ j) × (length m ≡ length k) × ((n : ℕ) → get_or m n 0 ≡ choose (ltb n j) (moved_up i k n) (get_or k n 0))

pub moving_none : (i : ℕ) (k : List ℕ) → Moving i k (slot_at i) k
moving_none i k = (
  omega arith,
  refl,
  λ n. by_less (λ (x : ℕ). get_or k n 0 ≡ x) n (slot_at i) (λ h. sym (if_true _ _ (lt-ltb n (slot_at i) h))) (λ h. refl),
)

pub moving_next : (i j b : ℕ) (m k : List ℕ) → j < length m → b ≡ get_or m (j + slot_size) 0 → Moving i k j m → Moving i k (j + 1) (set m j b)
moving_next i j b m k l e (a, size, f) = (
  omega arith,
  length-set m j b ∙ size,
  λ n. ⊎_elim
      (λ (q : n ≡ j). rw q
      (get_or-set_same m j b 0 l ∙ e ∙ f (j + slot_size) ∙ if_false _ _ (le-ltb (j + slot_size) j (omega arith))
      ∙ sym (if_true _ _ (lt-ltb j (j + 1) (omega arith)) ∙ if_false _ _ (le-ltb j (slot_at i) a))))
      (λ (q : n ≡ j → ⊥). get_or-set_other m j n b 0 q ∙ f n
      ∙ by_less (λ (x : ℕ). x ≡ choose (ltb n (j + 1)) (moved_up i k n) (get_or k n 0)) n j
      (λ h. sym (if_true _ _ (lt-ltb n (j + 1) (omega arith)))) (λ h. sym (if_false _ _ (le-ltb n (j + 1) (omega arith)))))
      (eq-or_ne n j),
)

pub moving_all : (i j : ℕ) (m k : List ℕ) → length m ≤ j → Moving i k j m → (n : ℕ) → get_or m n 0 ≡ moved_up i k n
moving_all i j m k l (a, size, f) n =
    f n
    ∙ by_less (λ (x : ℕ). x ≡ moved_up i k n) n j (λ h. refl)
    (λ h. get_or-eq_default k 0 (omega arith)
    ∙ sym (if_false _ _ (le-ltb n (slot_at i) (omega arith)) ∙ get_or-eq_default k 0 (omega arith)))

-- the first i bytes of s in 16, and zeros behind
abbrev pub Sampled : List ℕ → ℕ → List ℕ → Type 0
Sampled s i m = (i ≤ length s) × (length s ≤ sample_size) × (length m ≡ sample_size) × ((n : ℕ) → get_or m n 0 ≡ choose (ltb n i) (get_or s n 0) 0)

pub sampled_none : (s : List ℕ) → length s ≤ sample_size → Sampled s 0 (replicate sample_size 0)
sampled_none s l = (
  omega arith,
  l,
  refl,
  λ n. ⊎_elim (λ h. get_or-replicate sample_size n 0 0 h) (λ h. get_or-eq_default (replicate sample_size 0) 0 h) (lt-or_ge n sample_size)
      ∙ sym (if_false _ _ (le-ltb n 0 (omega arith))),
)

pub sampled_next : (s m : List ℕ) (i : ℕ) → i < length s → Sampled s i m → Sampled s (i + 1) (set m i (get_or s i 0))
sampled_next s m i l (a, b, size, f) = (
  omega arith,
  b,
  length-set m i (get_or s i 0) ∙ size,
  λ n. ⊎_elim
      (λ (q : n ≡ i). rw q (get_or-set_same m i (get_or s i 0) 0 (omega arith) ∙ sym (if_true _ _ (lt-ltb i (i + 1) (omega arith)))))
      (λ (q : n ≡ i → ⊥). get_or-set_other m i n (get_or s i 0) 0 q ∙ f n
      ∙ by_less (λ (x : ℕ). x ≡ choose (ltb n (i + 1)) (get_or s n 0) 0) n i
      (λ h. sym (if_true _ _ (lt-ltb n (i + 1) (omega arith)))) (λ h. sym (if_false _ _ (le-ltb n (i + 1) (omega arith)))))
      (eq-or_ne n i),
)

pub sampled_all : (s m : List ℕ) (i : ℕ) → length s ≤ i → Sampled s i m → (n : ℕ) → get_or m n 0 ≡ get_or s n 0
sampled_all s m i l (a, b, size, f) n =
    f n ∙ by_less (λ (x : ℕ). x ≡ get_or s n 0) n i (λ h. refl) (λ h. sym (get_or-eq_default s 0 (omega arith)))
