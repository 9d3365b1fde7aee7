-- `queue::lay_ciphertext` meets its contract: header, type and tag, and the content between them. Assumes nothing.
use Prim.Native.Nat.{◌+◌}
use lib.ListN.{length}
use mathlib.Core.Path.{refl, ◌∙◌}
use native.Mathlib.Omega.{arith}
use Rattle.queue.specs.Laid.{trailer_of, length_unified, length_trailer}
use Rattle.record.specs.Record.{unified_header}
use Rattle.queue.proofs.Writing.{three_parts}
use Rattle.queue.proofs.lay_ciphertext.Goals as goal

pub returns : goal.returns
returns c = let a = c.args in let n = length a.content.now in
    three_parts a.at 5 n (unified_header a.epoch a.number (n + 17)) a.content.now _ _ a.d.now (c.copy_from_slice.ensures.after ∙ c.unified_header-header.ensures) c.move_bytes.ensures (length_unified a.epoch a.number (n + 17)) refl
    17 (trailer_of a.content_type a.epoch a.number) _ (c.copy_from_slice-2.ensures.after ∙ c.trailer-behind.ensures) (length_trailer a.content_type a.epoch a.number) (omega (arith, c.requires.0))
