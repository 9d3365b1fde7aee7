-- `chacha::block_word` meets its contract: a word of the initial state and the one after the rounds, added. Assumes nothing.
use Rattle.base.specs.Parts.{part}
use Rattle.chacha.proofs.Laws.{block_at}
use Rattle.chacha.specs.Chacha.{plus, word}
use Rattle.chacha.proofs.block_word.Goals as goal

pub returns : goal.returns
unfolding plus
returns c = let start = c in
    cc (block_at start.args.key (word start.args.sample 0) (part 4 12 start.args.sample) start.args.k start.requires)
