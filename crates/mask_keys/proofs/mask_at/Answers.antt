-- `mask_keys::mask_at` meets its contract. Assumes nothing.
use mathlib.Core.Path.{◌∙◌}
use Rattle.base.specs.Parts.{part}
use Rattle.chacha.proofs.Laws.{mask-same}
use Rattle.mask_keys.specs.Keys.{sample_size}
use Rattle.mask_keys.proofs.mask_at.Goals as goal

pub returns : goal.returns
returns c = let a = c.args in rw (← c.key_at.ensures) (c.mask.ensures ∙ mask-same _ _ (part a.at sample_size a.d.now) c.sample_at.ensures)
