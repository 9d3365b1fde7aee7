-- `leaves_chacha_block_word` meets its contract: a block has no word behind its sixteen. Assumes nothing.
use mathlib.Core.Path.{sym}
use native.Mathlib.Omega.{arith}
use Rattle.base.specs.Parts.{part}
use Rattle.chacha.specs.Chacha.{word}
use Rattle.chacha.proofs.Laws.{block-beyond}
use Rattle.leaves.proofs.leaves_chacha_block_word.Goals as goal

pub returns-then-k-ge-BLOCK_WORDS : goal.returns-then-k-ge-BLOCK_WORDS
returns-then-k-ge-BLOCK_WORDS c = let given = c.args in
    sym (block-beyond given.key.now (word given.sample.now 0) (part 4 12 given.sample.now) given.k (omega arith))
