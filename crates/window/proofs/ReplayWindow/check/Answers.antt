-- `ReplayWindow::check` meets its contract: what each verdict says holds where it is returned. Assumes nothing.
use mathlib.Core.Path.{sym}
use native.Mathlib.Omega.{arith}
use Rattle.base.specs.Bits.{bit}
use Rattle.window.specs.declared.Verdict.TheVariants.{Fresh, Seen}
use Rattle.window.proofs.Laws.{verdict-is}
use Rattle.window.proofs.ReplayWindow.check.Goals as goal

-- above the highest
pub returns-then-top-seqno : goal.returns-then-top-seqno
returns-then-top-seqno c = let above = c.if-top-seqno.true in sym ((verdict-is _ _ Fresh).1 (omega arith, λ marked. omega arith))

-- the width or more below
pub returns-then-offset-ge-WIDTH : goal.returns-then-offset-ge-WIDTH
returns-then-offset-ge-WIDTH c = let far = c.if-offset-ge-WIDTH.true in sym ((verdict-is _ _ _).1 (omega arith))

-- the mark is clear
pub returns-then-clear : goal.returns-then-clear
unfolding bit
returns-then-clear c = sym ((verdict-is _ _ Fresh).1 (omega arith, λ marked. omega (arith, marked.2)))

-- the mark is set
pub returns : goal.returns
unfolding bit
returns c = sym ((verdict-is _ _ Seen).1 (omega arith, omega arith, omega arith))
