-- `recv_calls::no_reply` meets its contract. Assumes nothing.
use mathlib.Core.Path.{refl}
use Rattle.dtls_aead.specs.Nonce.{nonce_of}
use Rattle.words.specs.Packed.{iv_of}
use Rattle.recv_calls.proofs.no_reply.Goals as goal

pub returns : goal.returns
unfolding nonce_of iv_of
returns c = refl
