-- `assembly_steps::Pieces::shares` meets its contract. Invariant: the bytes passed are shared or bare. Assumes nothing.
use Rattle.std.proofs.Common.{sym, arith}
use Rattle.assembly.proofs.Covering.{shared_none, bare_shared}
use Rattle.assembly_steps.proofs.Pieces.shares.Goals as goal

pub returns-then-is_bare : goal.returns-then-is_bare
returns-then-is_bare c = let a = c.args in sym (bare_shared a.self.words.now a.self.count a.o a.b.now a.d.now (c.is_bare.ensures c.if-is_bare.true))

pub loop-i-init : goal.loop-i-init
loop-i-init c = (omega arith, shared_none _ _ _ _ _)
