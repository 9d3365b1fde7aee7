-- `run_lines::push_all` meets its contract: what fits is copied. Assumes nothing.
use Rattle.std.proofs.Common.{refl, sym, arith}
use Rattle.run_lines.proofs.Lines.{sets-out, copied}
use Rattle.run_lines.proofs.push_all.Goals as goal

pub returns-then-out-at : goal.returns-then-out-at
returns-then-out-at c = let a = c.args in (omega arith, sym (sets-out a.d.now a.out.now a.at (omega arith)))

pub returns : goal.returns
returns c = let a = c.args in (omega (arith, c.min-n.ensures), copied a.d.now a.out.now a.at c.min-n.result c.if-out-at.false c.min-n.ensures refl c.copy_from_slice.ensures.after)
