-- Parts of a buffer lent one after the other, and what is then written in the whole. Assumes nothing.
use mathlib.Core.Path.{◌≡◌, ap, ◌∙◌}
use mathlib.Core.List.{List, ◌++◌, append_assoc, append-nil}
use Prim.Native.Nat.{ℕ, ◌+◌, ◌-◌, ◌≤◌}
use native.Mathlib.Omega.{arith}
use lib.ListN.{length, take, drop, length-append, length-drop}
use Rattle.std.proofs.Common.{drop_of_length-le, take_at}
use lib.Seq.{length-take-le, take-append-le, take-take, drop-drop, drop_at}
use borrow.Rule.Slice.PartMut.{put_mid}
use Rattle.base.specs.Parts.{splice, lent, length-splice, splice-next}

-- two lists written, the second in front of the first
splice-before_that : (b c : ℕ) (v w x : List ℕ) → b + length v ≡ c → c ≤ length x → splice b v (splice c w x) ≡ splice b (v ++ w) x
unfolding splice
splice-before_that b c v w x e h =
    let p : length (take c x) ≡ c = length-take-le c x h in
    let r : List ℕ = w ++ drop (length w) (drop c x) in
    let q : c + length w ≡ b + (length v + length w) = omega arith in
    rw (take-append-le b (take c x) r (omega arith), take-take b c x (omega arith), drop-drop (length v) b (take c x ++ r), e, drop_at (take c x) r c p)
    (rw (append_assoc v w (drop (length (v ++ w)) (drop b x)), length-append v w, drop-drop (length v + length w) b x, drop-drop (length w) c x, q))

-- a front written, and then all that follows it
pub front_rest : (m : ℕ) (u v d : List ℕ) → length u ≡ m → m + length v ≡ length d → put_mid m (length (u ++ drop m d) - m) (u ++ drop m d) v ≡ u ++ v
unfolding splice
front_rest m u v d hu hv =
    let w : List ℕ = u ++ drop m d in
    let l : length w ≡ length d = length-append u (drop m d) ∙ rw (length-drop m d) (omega (arith, hu, hv)) in
    let behind : length (drop m d) ≤ length v = rw (length-drop m d) (omega (arith, hv)) in
    lent m (length w) w v (omega (arith, l, hv))
    ∙ rw (take_at u (drop m d) m hu, drop_at u (drop m d) m hu, drop_of_length-le (drop m d) {i = length v} behind) (ap (λ (z : List ℕ). u ++ z) (append-nil v))

module _ (a m n : ℕ) (u v x y d : List ℕ) (ex : x ≡ u) (ey : y ≡ v) (em : length u ≡ m) (en : length v ≡ n) where
  front : put_mid a (a + m - a) d x ≡ splice a u d
  front = rw ex (lent a (a + m) d u (omega arith))

  both_parts : a + m + n ≤ length d → put_mid (a + m) (a + m + n - (a + m)) (put_mid a (a + m - a) d x) y ≡ splice (a + m) v (splice a u d)
  both_parts h = rw (front, ey) (lent (a + m) (a + m + n) (splice a u d) v (omega arith))

  pub two_parts : a + m + n ≤ length d → put_mid (a + m) (a + m + n - (a + m)) (put_mid a (a + m - a) d x) y ≡ splice a (u ++ v) d
  two_parts h = both_parts h ∙ splice-next a (a + m) u v d (omega arith) (omega arith)

  -- the first, the last, and then the one between them
  pub three_parts : (k : ℕ) (w z : List ℕ) → z ≡ w → length w ≡ k → a + m + n + k ≤ length d
      → put_mid (a + m) (a + m + n - (a + m)) (put_mid (a + m + n) (a + m + n + k - (a + m + n)) (put_mid a (a + m - a) d x) z) y ≡ splice a (u ++ (v ++ w)) d
  three_parts k w z ez ek h =
      let l : length (splice a u d) ≡ length d = length-splice a u d (omega arith) in
      rw (front, ez, ey)
      (ap (λ (s : List ℕ). put_mid (a + m) (a + m + n - (a + m)) s v) (lent (a + m + n) (a + m + n + k) (splice a u d) w (omega arith))
      ∙ lent (a + m) (a + m + n) (splice (a + m + n) w (splice a u d)) v (omega arith)
      ∙ splice-before_that (a + m) (a + m + n) v w (splice a u d) (omega arith) (omega arith)
      ∙ splice-next a (a + m) u (v ++ w) d (omega arith) (omega arith))
