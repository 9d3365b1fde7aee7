-- `chacha::mask` meets its contract: the two low bytes of the block's first word. Assumes nothing.
use Rattle.std.proofs.Common.{refl}
use Rattle.chacha.proofs.Laws.{mask_word}
use Rattle.chacha.proofs.mask.Goals as goal

pub returns : goal.returns
returns c = rw (mask_word c.args.key c.args.sample, c.to_le_bytes.ensures, c.block_word.ensures) refl
