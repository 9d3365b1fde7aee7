-- The laws of the replay window, for every width above 0 and then at the width that it has: what is marked after a number is marked, and what
-- each verdict says. Assumes nothing.
use Rattle.std.specs.Prelude.{true, false, ◌⊎◌, ◌↔◌, ◌≡◌, refl, ℕ, ◌-◌, ◌*◌, ◌%◌, ◌^◌, ◌<◌, ◌≤◌, max, eqb}
use Rattle.std.proofs.Common.{inl, inr, ⊎_elim, ap, subst, ◌∙◌, arith, eqb-true}
use Rattle.std.proofs.lemmas.Bool.{eqb-false}
use Rattle.std.specs.Int.Bits.{bit_or}
use Rattle.base.specs.Bits.{bit, bit-lt, bit-or, bit-low, bit-shl, bit-shl-low, bit_of_one, bit_of_other}
use Rattle.base.specs.Choose.{by_test, by_less, lt-or_ge, eq-or_ne}
use Rattle.window.specs.declared.ReplayWindow.{ReplayWindow}
use Rattle.window.specs.declared.Verdict.{Verdict}
use Rattle.window.specs.declared.Verdict.TheVariants.{Fresh, Seen, TooOld}
use Rattle.window.specs.Window.{MarkedOver, verdict_over, marking_over, width, verdict, marking}

-- ---- over any width

-- what marking n makes of w: the highest, and the marks of n and of what was marked, of those that the window still reaches
pub record AfterOver (width : ℕ) (w : ReplayWindow) (n : ℕ) (v : ReplayWindow) : Type 0 where
  pub highest : v.max_seq ≡ max w.max_seq n
  pub only : (k : ℕ) → MarkedOver width v k → (k ≡ n) ⊎ MarkedOver width w k
  pub itself : v.max_seq - n < width → MarkedOver width v n
  pub kept : (k : ℕ) → MarkedOver width w k → v.max_seq - k < width → MarkedOver width v k

-- what each verdict says: fresh is within reach and not marked, seen is marked, too old goes by the width alone
abbrev pub SaysOver : ℕ → ReplayWindow → ℕ → Verdict → Type 0
SaysOver width w n Fresh = (w.max_seq - n < width) × (MarkedOver width w n → ⊥)
SaysOver width w n Seen = MarkedOver width w n
SaysOver width w n TooOld = width ≤ w.max_seq - n

module _ (width : ℕ) (wide : 0 < width) where
  set-bit : (x j i : ℕ) → i < width → bit (bit_or x (1 * 2 ^ j % 2 ^ width)) i ≡ max (bit x i) (bit (1 * 2 ^ j) i)
  set-bit x j i h = bit-or x (1 * 2 ^ j % 2 ^ width) i ∙ ap (max (bit x i)) (bit-low width (1 * 2 ^ j) i h)

  shifted-bit : (x s i : ℕ) → i < width → bit (bit_or (x * 2 ^ s % 2 ^ width) 1) i ≡ max (bit (x * 2 ^ s) i) (bit (1 * 2 ^ 0) i)
  shifted-bit x s i h = bit-or (x * 2 ^ s % 2 ^ width) 1 i ∙ ap (λ (y : ℕ). max y (bit 1 i)) (bit-low width (x * 2 ^ s) i h)

  module _ (w : ReplayWindow) (n : ℕ) where
    old_bit : (x s i j : ℕ) → s ≤ i → i - s ≡ j → bit (x * 2 ^ s) i ≡ bit x j
    old_bit x s i j l e = bit-shl x s i l ∙ ap (bit x) e

    -- the four cases of `marking_over`
    jump : w.max_seq < n → width ≤ n - w.max_seq → AfterOver width w n (record { max_seq = n; window = 1 })
    jump s t = record {
      highest = omega arith;
      only = λ k m. ⊎_elim (λ e. inl (omega arith)) (λ ne. let z = bit_of_other (n - k) 0 ne in absurd (omega arith)) (eq-or_ne (n - k) 0);
      itself = λ l. (omega arith, omega arith, bit_of_one (n - n) 0 (omega arith));
      kept = λ k m l. absurd (omega arith);
    }

    shift : w.max_seq < n → n - w.max_seq < width
        → AfterOver width w n (record { max_seq = n; window = bit_or (w.window * 2 ^ (n - w.max_seq) % 2 ^ width) 1 })
    shift s t = record {
      highest = omega arith;
      only = λ k m.
          let b = shifted-bit w.window (n - w.max_seq) (n - k) m.1 in
          ⊎_elim (λ e. inl (omega arith))
          (λ ne.
          let z = bit_of_other (n - k) 0 ne in
          ⊎_elim (λ l. let y = bit-shl-low w.window (n - w.max_seq) (n - k) l in absurd (omega arith))
          (λ l.
          let y = old_bit w.window (n - w.max_seq) (n - k) (w.max_seq - k) l (omega arith) in
          inr (omega arith, omega arith, omega arith))
          (lt-or_ge (n - k) (n - w.max_seq)))
          (eq-or_ne (n - k) 0);
      itself = λ l.
          let b = shifted-bit w.window (n - w.max_seq) (n - n) l in
          let z = bit_of_one (n - n) 0 (omega arith) in
          let y = bit-lt (w.window * 2 ^ (n - w.max_seq)) (n - n) in
          (omega arith, omega arith, omega arith);
      kept = λ k m l.
          let b = shifted-bit w.window (n - w.max_seq) (n - k) l in
          let y = old_bit w.window (n - w.max_seq) (n - k) (w.max_seq - k) (omega arith) (omega arith) in
          let z = bit-lt 1 (n - k) in
          (omega arith, omega arith, omega arith);
    }

    mark : n ≤ w.max_seq → w.max_seq - n < width
        → AfterOver width w n (record { max_seq = w.max_seq; window = bit_or w.window (1 * 2 ^ (w.max_seq - n) % 2 ^ width) })
    mark s t = record {
      highest = omega arith;
      only = λ k m.
          let b = set-bit w.window (w.max_seq - n) (w.max_seq - k) m.1 in
          ⊎_elim (λ e. inl (omega arith))
          (λ ne.
          let z = bit_of_other (w.max_seq - k) (w.max_seq - n) ne in
          inr (omega arith, omega arith, omega arith))
          (eq-or_ne (w.max_seq - k) (w.max_seq - n));
      itself = λ l.
          let b = set-bit w.window (w.max_seq - n) (w.max_seq - n) l in
          let z = bit_of_one (w.max_seq - n) (w.max_seq - n) refl in
          let y = bit-lt w.window (w.max_seq - n) in
          (omega arith, omega arith, omega arith);
      kept = λ k m l.
          let b = set-bit w.window (w.max_seq - n) (w.max_seq - k) l in
          let z = bit-lt (1 * 2 ^ (w.max_seq - n)) (w.max_seq - k) in
          (omega arith, omega arith, omega arith);
    }

    too_old : n ≤ w.max_seq → width ≤ w.max_seq - n → AfterOver width w n w
    too_old s t = record {
      highest = omega arith;
      only = λ k m. inr m;
      itself = λ l. absurd (omega arith);
      kept = λ k m l. m;
    }

    pub after-over : AfterOver width w n (marking_over width w n)
    unfolding marking_over
    after-over =
        by_less (AfterOver width w n) _ _ (λ s. by_less (AfterOver width w n) _ _ (shift s) (jump s))
        (λ s. by_less (AfterOver width w n) _ _ (mark s) (too_old s))

    ahead : w.max_seq < n → SaysOver width w n Fresh
    ahead s = (omega arith, λ m. omega arith)

    clear : w.max_seq - n < width → eqb (bit w.window (w.max_seq - n)) 0 ≡ true → SaysOver width w n Fresh
    clear t b = let z : bit w.window (w.max_seq - n) ≡ 0 = eqb-true _ _ b in (t, λ m. omega arith)

    set : n ≤ w.max_seq → w.max_seq - n < width → eqb (bit w.window (w.max_seq - n)) 0 ≡ false → SaysOver width w n Seen
    set s t b =
        let z : bit w.window (w.max_seq - n) ≡ 0 → ⊥ = eqb-false _ _ b in
        let y = bit-lt w.window (w.max_seq - n) in
        (s, t, omega arith)

    pub says-over : SaysOver width w n (verdict_over width w n)
    unfolding verdict_over
    says-over =
        by_less (SaysOver width w n) _ _ ahead
        (λ s. by_less (SaysOver width w n) _ _ (λ t. by_test (SaysOver width w n) (clear t) (set s t)) (λ t. t))

    -- no two of the three hold of one number
    one-says : (v u : Verdict) → SaysOver width w n v → SaysOver width w n u → v ≡ u
    one-says Fresh Fresh p q = refl
    one-says Fresh Seen p q = absurd (p.1 q)
    one-says Fresh TooOld p q = absurd (omega arith)
    one-says Seen Fresh p q = absurd (q.1 p)
    one-says Seen Seen p q = refl
    one-says Seen TooOld p q = absurd (omega arith)
    one-says TooOld Fresh p q = absurd (omega arith)
    one-says TooOld Seen p q = absurd (omega arith)
    one-says TooOld TooOld p q = refl

    -- so each verdict is given exactly where what it says holds
    pub verdict-over : (v : Verdict) → (verdict_over width w n ≡ v) ↔ SaysOver width w n v
    verdict-over v = (λ e. subst (SaysOver width w n) e says-over, λ s. one-says (verdict_over width w n) v says-over s)

  -- a number that was marked is seen while the window reaches it, and never fresh
  pub spent-over : (w : ReplayWindow) (n : ℕ) → (marking_over width w n).max_seq - n < width → verdict_over width (marking_over width w n) n ≡ Seen
  spent-over w n l = (verdict-over (marking_over width w n) n Seen).1 ((after-over w n).itself l)

  pub never-over : (w : ReplayWindow) (n : ℕ) → verdict_over width (marking_over width w n) n ≡ Fresh → ⊥
  never-over w n q = let f = (verdict-over (marking_over width w n) n Fresh).0 q in f.1 ((after-over w n).itself f.0)

  -- one that is not fresh is never fresh again, and one that is too old stays too old
  pub stays-over : (w : ReplayWindow) (m n : ℕ) → verdict_over width (marking_over width w m) n ≡ Fresh → verdict_over width w n ≡ Fresh
  stays-over w m n q =
      let a = after-over w m in
      let f = (verdict-over (marking_over width w m) n Fresh).0 q in
      let h = a.highest in
      (verdict-over w n Fresh).1 (omega (arith, f.0), λ k. f.1 (a.kept n k f.0))

  pub old-stays-over : (w : ReplayWindow) (m n : ℕ) → verdict_over width w n ≡ TooOld → verdict_over width (marking_over width w m) n ≡ TooOld
  old-stays-over w m n q =
      let h = (after-over w m).highest in
      let o = (verdict-over w n TooOld).0 q in
      (verdict-over (marking_over width w m) n TooOld).1 (omega arith)

  -- another number that was fresh stays fresh while the window reaches it
  pub others-over : (w : ReplayWindow) (m n : ℕ) → (n ≡ m → ⊥) → verdict_over width w n ≡ Fresh → (marking_over width w m).max_seq - n < width
      → verdict_over width (marking_over width w m) n ≡ Fresh
  others-over w m n ne e l =
      (verdict-over (marking_over width w m) n Fresh).1
      (l, λ k. ⊎_elim (λ x. ne x) (λ x. ((verdict-over w n Fresh).0 e).1 x) ((after-over w m).only n k))

-- ---- at the width that it has

abbrev pub After : ReplayWindow → ℕ → ReplayWindow → Type 0
After w n v = AfterOver width w n v

abbrev pub Says : ReplayWindow → ℕ → Verdict → Type 0
Says w n v = SaysOver width w n v

pub after : (w : ReplayWindow) (n : ℕ) → After w n (marking w n)
unfolding marking
after = after-over width (omega arith)

pub verdict-is : (w : ReplayWindow) (n : ℕ) (v : Verdict) → (verdict w n ≡ v) ↔ Says w n v
unfolding verdict
verdict-is = verdict-over width (omega arith)

pub spent : (w : ReplayWindow) (n : ℕ) → (marking w n).max_seq - n < width → verdict (marking w n) n ≡ Seen
unfolding verdict marking
spent = spent-over width (omega arith)

pub never : (w : ReplayWindow) (n : ℕ) → verdict (marking w n) n ≡ Fresh → ⊥
unfolding verdict marking
never = never-over width (omega arith)

pub stays : (w : ReplayWindow) (m n : ℕ) → verdict (marking w m) n ≡ Fresh → verdict w n ≡ Fresh
unfolding verdict marking
stays = stays-over width (omega arith)

pub old-stays : (w : ReplayWindow) (m n : ℕ) → verdict w n ≡ TooOld → verdict (marking w m) n ≡ TooOld
unfolding verdict marking
old-stays = old-stays-over width (omega arith)

pub others : (w : ReplayWindow) (m n : ℕ) → (n ≡ m → ⊥) → verdict w n ≡ Fresh → (marking w m).max_seq - n < width → verdict (marking w m) n ≡ Fresh
unfolding verdict marking
others = others-over width (omega arith)
