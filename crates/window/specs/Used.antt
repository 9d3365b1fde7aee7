-- The window follows the list of the numbers used: "highest used plus one, or 0", what each verdict says of them, for every width above 0
-- and then at the width that it has. Assumes nothing.
use mathlib.Core.List.{List, [], ◌∷◌, Memᴰ as Mem}
use Rattle.std.specs.Prelude.{◌↔◌, ◌≡◌, ℕ, suc, ◌+◌, ◌-◌, ◌%◌, ◌<◌, ◌≤◌, max, eqb}
use Rattle.base.specs.Choose.{choose}
use Rattle.window.specs.declared.ReplayWindow.{ReplayWindow}
use Rattle.window.specs.declared.Verdict.{Verdict}
use Rattle.window.specs.declared.Verdict.TheVariants.{Fresh, Seen, TooOld}
use Rattle.window.specs.Window.{MarkedOver, width}

-- the highest number used plus one, or 0 if none was
abbrev pub above : List ℕ → ℕ
above [] = 0
above (n ∷ ns) = max (suc n) (above ns)

-- the same read off the window: the highest number has a mark if any was used
unfoldable pub expected : ReplayWindow → ℕ
expected w = choose (eqb (w.window % 2) 1) (w.max_seq + 1) 0

-- ---- over any width

-- the window holds the numbers used, as far as it reaches
pub record AgreesOver (width : ℕ) (w : ReplayWindow) (used : List ℕ) : Type 0 where
  pub highest : w.max_seq ≡ above used - 1
  pub marks : (n : ℕ) → above used ≤ n + width → MarkedOver width w n ↔ Mem n used

-- what each verdict says of the numbers used: seen exactly if used and fewer than the width below the highest, too old exactly if the width or
-- more below it, fresh else
abbrev pub TellsOver : ℕ → List ℕ → ℕ → Verdict → Type 0
TellsOver width used n Fresh = (Mem n used → ⊥) × (above used ≤ n + width)
TellsOver width used n Seen = Mem n used × (above used ≤ n + width)
TellsOver width used n TooOld = n + width < above used

-- ---- at the width that it has

abbrev pub Agrees : ReplayWindow → List ℕ → Type 0
Agrees w used = AgreesOver width w used

abbrev pub Tells : List ℕ → ℕ → Verdict → Type 0
Tells used n v = TellsOver width used n v
