-- The ring of slots: each datagram has a slot of its own, and what is written in one slot leaves the others as they are. Assumes nothing.
use Rattle.std.proofs.Math.Bool.{true}
use Rattle.std.specs.Prelude.{List, ◌++◌, ◌≡◌, ℕ, ◌+◌, ◌-◌, ◌*◌, ◌<◌, ◌≤◌, leb}
use Rattle.std.proofs.Common.{⊎_elim, sym, ◌∙◌, mul-le-mul_right, take-add, drop-drop, take-take, take_at, drop_at}
use Rattle.std.proofs.Math.Path.{ap}
use native.Mathlib.Omega.{arith}
use Rattle.std.proofs.Math.Dec.{ltb}
use lib.ListN.{length, take, drop}
use borrow.Author.Tests.{ltb-true, ltb-false, leb-true, leb-false}
use Rattle.base.specs.Choose.{choose, by_test, lt-or_ge}
use Rattle.base.specs.Parts.{part, splice, length-splice, splice-before, splice-after}
use Rattle.queue.specs.Queue.{slot_of}
use Rattle.sealing.specs.Seek.{nth_of}
use Rattle.taking.specs.Take.{next_slot}

-- ---- slots

module _ (first limit : ℕ) (h : first < limit) where
  pub slot-front : slot_of first limit 0 ≡ first
  unfolding slot_of
  slot-front = by_test (λ (n : ℕ). n ≡ first) (λ e. omega arith) (λ e. omega (arith, ltb-false (first + 0) limit e))

  -- two datagrams have two slots
  pub slot_apart : (i j : ℕ) → i < limit → j < limit → (i ≡ j → ⊥) → slot_of first limit i ≡ slot_of first limit j → ⊥
  unfolding slot_of
  slot_apart i j a b ne =
      by_test (λ (n : ℕ). n ≡ choose (ltb (first + j) limit) (first + j) (first + j - limit) → ⊥)
      (λ e. by_test (λ (n : ℕ). first + i ≡ n → ⊥) (λ f z. ne (omega arith)) (λ f z. ne (omega (arith, ltb-false (first + j) limit f))))
      (λ e. by_test (λ (n : ℕ). first + i - limit ≡ n → ⊥) (λ f z. ne (omega (arith, ltb-false (first + i) limit e)))
      (λ f z. ne (omega (arith, ltb-false (first + i) limit e, ltb-false (first + j) limit f))))

  -- the datagram in a slot
  pub nth-slot : (i : ℕ) → i < limit → nth_of first limit (slot_of first limit i) ≡ i
  unfolding nth_of slot_of
  nth-slot i a =
      by_test (λ (n : ℕ). choose (leb first n) (n - first) (n + limit - first) ≡ i)
      (λ e. by_test (λ (n : ℕ). n ≡ i) (λ f. omega arith) (λ f. omega (arith, leb-false first (first + i) f)))
      (λ e. by_test (λ (n : ℕ). n ≡ i) (λ f. omega (arith, leb-true first (first + i - limit) f, ltb-false (first + i) limit e))
      (λ f. omega (arith, ltb-false (first + i) limit e)))

  -- with the front taken, the others are in the same slots
  pub slot_next : (i : ℕ) → i + 1 < limit → slot_of (next_slot first limit) limit i ≡ slot_of first limit (i + 1)
  unfolding slot_of next_slot
  slot_next i a =
      by_test (λ (k : ℕ). choose (ltb (k + i) limit) (k + i) (k + i - limit) ≡ choose (ltb (first + (i + 1)) limit) (first + (i + 1)) (first + (i + 1) - limit))
      (λ e. ap (λ (k : ℕ). choose (ltb k limit) k (k - limit)) (same e))
      (λ e. by_test (λ (n : ℕ). n ≡ choose (ltb (first + (i + 1)) limit) (first + (i + 1)) (first + (i + 1) - limit))
      (λ f. by_test (λ (n : ℕ). 0 + i ≡ n) (λ g. omega (arith, ltb-false (first + 1) limit e, ltb-true (first + (i + 1)) limit g))
      (λ g. omega (arith, ltb-false (first + 1) limit e)))
      (λ f. omega (arith, ltb-false (0 + i) limit f)))
    where
      same : ltb (first + 1) limit ≡ true → first + 1 + i ≡ first + (i + 1)
      same e = omega arith

pub next-slot : (first limit : ℕ) → first < limit → next_slot first limit < limit
unfolding next_slot
next-slot first limit h = by_test (λ (n : ℕ). n < limit) (λ e. ltb-true (first + 1) limit e) (λ e. omega arith)

-- ---- parts

-- two parts one behind the other
pub part_join : (a m n : ℕ) (d u v : List ℕ) → part a m d ≡ u → part (a + m) n d ≡ v → part a (m + n) d ≡ u ++ v
part_join a m n d u v p q =
    take-add m n (drop a d) ∙ ap (λ (l : List ℕ). take m (drop a d) ++ take n l) (drop-drop m a d) ∙ rw (p, q)

-- and taken apart again
pub part_left : (a m n : ℕ) (d u v : List ℕ) → length u ≡ m → part a (m + n) d ≡ u ++ v → part a m d ≡ u
part_left a m n d u v h p = sym (take-take m (m + n) (drop a d) (omega arith)) ∙ ap (take m) p ∙ take_at u v m h

pub part_right : (a m n : ℕ) (d u v : List ℕ) → length u ≡ m → part a (m + n) d ≡ u ++ v → part (a + m) n d ≡ v
part_right a m n d u v h p =
    let l : take m (drop a d) ≡ u = part_left a m n d u v h p in
    let w : u ++ take n (drop m (drop a d)) ≡ u ++ v = sym (ap (λ (k : List ℕ). k ++ take n (drop m (drop a d))) l) ∙ sym (take-add m n (drop a d)) ∙ p in
    ap (take n) (sym (drop-drop m a d)) ∙ sym (drop_at u (take n (drop m (drop a d))) m h) ∙ ap (drop m) w ∙ drop_at u v m h

-- ---- what is written in one place

-- a memory and another are equal outside n bytes from p on
pub record Outside (p n : ℕ) (d d' : List ℕ) : Type 0 where
  pub length : lib.ListN.length d' ≡ lib.ListN.length d
  pub before : (a k : ℕ) → a + k ≤ p → part a k d' ≡ part a k d
  pub after : (a k : ℕ) → p + n ≤ a → part a k d' ≡ part a k d

pub splice-outside : (p : ℕ) (v d : List ℕ) → p + length v ≤ length d → Outside p (length v) d (splice p v d)
splice-outside p v d h = record { length = length-splice p v d h; before = splice-before p v d h; after = splice-after p v d h }

-- what is written in one slot leaves what lies in another
pub other-slot : (mtu slot other p n : ℕ) (d d' : List ℕ) → Outside p n d d' → (other ≡ slot → ⊥) → slot * mtu ≤ p → p + n ≤ slot * mtu + mtu
    → (at k : ℕ) → at + k ≤ mtu → part (other * mtu + at) k d' ≡ part (other * mtu + at) k d
other-slot mtu slot other p n d d' o ne low high at k h =
    ⊎_elim (λ (l : other < slot). o.before (other * mtu + at) k (omega (arith, mul-le-mul_right mtu l)))
    (λ (l : slot ≤ other). let m : slot < other = omega (arith, ne) in o.after (other * mtu + at) k (omega (arith, mul-le-mul_right mtu m)))
    (lt-or_ge other slot)
