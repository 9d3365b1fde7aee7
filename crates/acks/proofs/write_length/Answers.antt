-- `acks::write_length` meets its contract: the last two of the number's eight bytes. Assumes nothing.
use Rattle.std.specs.Prelude.{List, ℕ, ◌++◌, take, drop}
use Rattle.std.proofs.Common.{ap, ◌∙◌}
use Rattle.base.proofs.Bytes.{high_first-be}
use Rattle.base.specs.Parts.{splice}
use Rattle.acks.proofs.write_length.Goals as goal

pub returns : goal.returns
unfolding splice
returns c = ap (λ (l : List ℕ). l ++ drop 2 c.args.d.now) (c.copy_from_slice.ensures.after ∙ ap (λ (l : List ℕ). take 2 (drop 6 l)) (c.to_be_bytes.ensures ∙ high_first-be 8 c.args.n))
