-- The replay window (RFC 9147, section 4.5.1; 01, "ReplayWindow"; 02, 5): over any width of its marks, and at the width that it has. Whoever uses
-- the window names only the second.
use Rattle.std.specs.Prelude.{◌≡◌, ℕ, ◌-◌, ◌*◌, ◌%◌, ◌^◌, ◌<◌, ◌≤◌, ltb, eqb}
use Rattle.std.specs.Int.Bits.{bit_or}
use Rattle.base.specs.Bits.{bit}
use Rattle.base.specs.Choose.{choose}
use Rattle.window.specs.declared.ReplayWindow.{ReplayWindow}
use Rattle.window.specs.declared.Verdict.{Verdict}
use Rattle.window.specs.declared.Verdict.TheVariants.{Fresh, Seen, TooOld}

-- the window that an epoch begins with
abbrev pub unmarked : ReplayWindow
unmarked = record { max_seq = 0; window = 0 }

-- ---- over any width

-- n is marked: fewer than the width below the highest, or equal to it, with its bit set
abbrev pub MarkedOver : ℕ → ReplayWindow → ℕ → Type 0
MarkedOver width w n = (n ≤ w.max_seq) × (w.max_seq - n < width) × (bit w.window (w.max_seq - n) ≡ 1)

-- n is fresh above the highest, or fewer than the width below it or equal to it with its mark clear; with its mark set it is seen; the width
-- or more below it is too old, "even if it was used"
unfoldable pub verdict_over : ℕ → ReplayWindow → ℕ → Verdict
verdict_over width w n =
    choose (ltb w.max_seq n) Fresh
    (choose (ltb (w.max_seq - n) width) (choose (eqb (bit w.window (w.max_seq - n)) 0) Fresh Seen) TooOld)

-- the window with n marked; one too old leaves it as it is
unfoldable pub marking_over : ℕ → ReplayWindow → ℕ → ReplayWindow
marking_over width w n =
    choose (ltb w.max_seq n)
    (choose (ltb (n - w.max_seq) width)
    (record { max_seq = n; window = bit_or (w.window * 2 ^ (n - w.max_seq) % 2 ^ width) 1 })
    (record { max_seq = n; window = 1 }))
    (choose (ltb (w.max_seq - n) width)
    (record { max_seq = w.max_seq; window = bit_or w.window (1 * 2 ^ (w.max_seq - n) % 2 ^ width) })
    w)

-- ---- at the width that it has

-- how many numbers have a mark: the highest and those below it
abbrev pub width : ℕ
width = 64

-- "The window's verdict becomes fresh, seen, or too old"
unfoldable pub verdict : ReplayWindow → ℕ → Verdict
unfolding verdict_over
verdict w n = verdict_over width w n

-- the window with n marked
unfoldable pub marking : ReplayWindow → ℕ → ReplayWindow
unfolding marking_over
marking w n = marking_over width w n
