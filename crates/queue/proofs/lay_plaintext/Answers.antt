-- `queue::lay_plaintext` meets its contract: header and content one behind the other. Assumes nothing.
use lib.ListN.{length}
use mathlib.Core.Path.{refl, ◌∙◌}
use Rattle.queue.specs.Laid.{length-plaintext}
use Rattle.record.specs.Record.{plaintext_header}
use Rattle.queue.proofs.Writing.{two_parts}
use Rattle.queue.proofs.lay_plaintext.Goals as goal

pub returns : goal.returns
returns c = let a = c.args in let n = length a.content.now in
    two_parts a.at 13 n (plaintext_header a.content_type a.number n) a.content.now _ _ a.d.now (c.copy_from_slice.ensures.after ∙ c.plaintext_header-header.ensures) c.move_bytes.ensures (length-plaintext a.content_type a.number n) refl c.requires.0
