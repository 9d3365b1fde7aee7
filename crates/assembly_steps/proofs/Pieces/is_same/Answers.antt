-- `assembly_steps::Pieces::is_same` meets its contract. Invariant: the answer for the pieces that are left is the answer for all. Assumes nothing.
use Rattle.std.proofs.Common.{sym, ◌∙◌, eq-eqb, ne_eqb}
use Rattle.base.specs.Choose.{both_true, both_false}
use Rattle.assembly.proofs.Covering.{same_hit, same_miss, same_none}
use Rattle.assembly_steps.proofs.Pieces.is_same.Goals.{else-w-k-via-then-w-k+else-w-k-2, else-w-k-via-else-w-k}
use Rattle.assembly_steps.proofs.Pieces.is_same.Goals as goal

pub returns-then-w-k-2 : goal.returns-then-w-k-2
returns-then-w-k-2 c =
    let a = c.args in
    sym (same_hit a.self.words.now a.o a.l c.loop-k.k c.loop-k-test.true (both_true (eq-eqb _ _ c.if-w-k.true) ∙ eq-eqb _ _ c.if-w-k-2.true)) ∙ c.loop-k.invariant

pub loop-k-preserved : goal.loop-k-preserved
loop-k-preserved c =
    let a = c.args in
    sym (same_miss a.self.words.now a.o a.l c.loop-k.k c.loop-k-test.true (elim c.else-w-k.branch [
      | else-w-k-via-then-w-k+else-w-k-2 w ↦ both_true (eq-eqb _ _ w.if-w-k.true) ∙ ne_eqb _ _ w.if-w-k-2.false
      | else-w-k-via-else-w-k w ↦ both_false _ (ne_eqb _ _ w.if-w-k.false)
    ])) ∙ c.loop-k.invariant

pub returns : goal.returns
returns c = let a = c.args in sym (same_none a.self.words.now a.o a.l c.loop-k.k c.loop-k-test.false) ∙ c.loop-k.invariant
