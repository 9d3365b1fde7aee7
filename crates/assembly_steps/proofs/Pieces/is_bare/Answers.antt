-- `assembly_steps::Pieces::is_bare` meets its contract. Invariant: the pieces passed have none of the bytes. Assumes nothing.
use Rattle.std.proofs.Common.{sym, ◌∙◌}
use Rattle.assembly.proofs.Covering.{covered_miss, covered_none}
use Rattle.assembly_steps.proofs.Held.{apart-not}
use Rattle.assembly_steps.proofs.Pieces.is_bare.Goals as goal

pub loop-k-preserved : goal.loop-k-preserved
loop-k-preserved c i p q =
    let a = c.args in
    sym (covered_miss a.self.words.now i c.loop-k.k c.loop-k-test.true (apart-not _ _ a.o a.e i (sym c.is_apart.ensures ∙ c.if-not-is_apart.false) p q)) ∙ c.loop-k.invariant i p q

pub returns : goal.returns
returns c t i p q = let a = c.args in sym (c.loop-k.invariant i p q) ∙ covered_none a.self.words.now i c.loop-k.k c.loop-k-test.false
