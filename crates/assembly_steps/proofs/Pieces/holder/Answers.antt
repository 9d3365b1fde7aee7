-- `assembly_steps::Pieces::holder` meets its contract. Invariant: whether byte i is covered is settled by the pieces that are left. Assumes nothing.
use Rattle.std.proofs.Common.{sym, ◌∙◌, arith}
use Rattle.assembly.proofs.Covering.{covered_miss, covered_none, within_from, within_to}
use Rattle.assembly_steps.proofs.Pieces.holder.Goals as goal

pub returns-then-is_within : goal.returns-then-is_within
returns-then-is_within c = let t = sym c.is_within.ensures ∙ c.if-is_within.true in (omega arith, within_from _ _ _ t, within_to _ _ _ t)

pub loop-k-preserved : goal.loop-k-preserved
loop-k-preserved c =
    let a = c.args in
    sym (covered_miss a.self.words.now a.i c.loop-k.k c.loop-k-test.true (sym c.is_within.ensures ∙ c.if-is_within.false)) ∙ c.loop-k.invariant

pub returns : goal.returns
returns c = let a = c.args in sym c.loop-k.invariant ∙ covered_none a.self.words.now a.i c.loop-k.k c.loop-k-test.false
