-- `acks::write_pair` meets its contract: epoch and number one behind the other. Assumes nothing.
use Rattle.std.proofs.Common.{◌∙◌, arith}
use Rattle.base.specs.Bytes.{be, length-be}
use Rattle.base.proofs.Bytes.{high_first-be}
use Rattle.queue.proofs.Writing.{two_parts}
use Rattle.acks.specs.Acks.{pair_of}
use Rattle.acks.proofs.write_pair.Goals as goal

pub returns : goal.returns
unfolding pair_of
returns c = let a = c.args in
    two_parts a.at 8 8 (be 8 a.epoch) (be 8 a.number) _ _ a.d.now (c.copy_from_slice.ensures.after ∙ c.to_be_bytes.ensures ∙ high_first-be 8 _) (c.copy_from_slice-2.ensures.after ∙ c.to_be_bytes-2.ensures ∙ high_first-be 8 _)
    (length-be 8 a.epoch) (length-be 8 a.number) (omega (arith, c.requires))
