-- `chacha::initial` meets its contract: the nonce is the sample behind the counter. Assumes nothing.
use Rattle.chacha.proofs.Laws.{nonce_0, nonce_4, nonce_8}
use Rattle.chacha.specs.Chacha.{initial}
use Rattle.chacha.proofs.initial.Goals as goal

pub returns : goal.returns
unfolding initial
returns c = simp (nonce_0, nonce_4, nonce_8) (cc)
