-- `assembly_steps::put_body` meets its contract. Assumes nothing.
use Rattle.std.proofs.Common.{ap, ◌∙◌, arith, List, ℕ, ◌+◌, length}
use Rattle.base.specs.Parts.{splice, lent}
use Rattle.assembly_steps.proofs.put_body.Goals as goal

pub returns : goal.returns
returns c =
    let a = c.args in
    let e = c.move_bytes.ensures in
    lent a.o (a.o + length a.b.now) a.d.now _ (ap length e ∙ omega arith) ∙ ap (λ (l : List ℕ). splice a.o l a.d.now) e
