-- `assembly_calls::take_piece` meets its contract. Assumes nothing.
use mathlib.Core.Path.{ap, ◌∙◌}
use Rattle.assembly.specs.Assembly.{Outcome}
use Rattle.assembly_calls.specs.Calls.{flat_piece}
use Rattle.assembly_calls.proofs.take_piece.Goals as goal

pub returns : goal.returns
returns c = let e = c.next_piece.ensures in
    (c.flat_piece.ensures ∙ ap (λ (o : Outcome). flat_piece o.answer) e, ap (λ (o : Outcome). o.words) e, ap (λ (o : Outcome). o.bytes) e)
