-- `headers::plaintext_header` meets its contract: the bytes are those of the definition. Assumes nothing.
use mathlib.Core.Path.{◌∙◌}
use Rattle.base.proofs.Bytes.{high_first-be}
use Rattle.record.specs.Record.{plaintext_header}
use Rattle.headers.proofs.plaintext_header.Goals as goal

pub returns : goal.returns
unfolding plaintext_header
returns c = rw (c.to_be_bytes.ensures ∙ high_first-be 8 _, c.to_be_bytes-2.ensures ∙ high_first-be 2 _)
