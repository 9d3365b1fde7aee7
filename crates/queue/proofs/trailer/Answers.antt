-- `queue::trailer` meets its contract: the mark has the epoch's two bytes and the number's six. Assumes nothing.
use mathlib.Core.Path.{◌∙◌}
use Rattle.base.proofs.Bytes.{high_first-be}
use Rattle.queue.specs.Laid.{trailer_marked}
use Rattle.queue.proofs.trailer.Goals as goal

pub returns : goal.returns
returns c = rw (c.to_be_bytes.ensures ∙ high_first-be 8 _, c.from.ensures) at c.marked.ensures ∙ trailer_marked _ _ _
