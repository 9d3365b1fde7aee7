-- The bytes of the number that were passed are XORed onto the IV's. Assumes nothing.
use Rattle.std.proofs.Common.{◌≡◌, take}
use Rattle.std.proofs.lemmas.List.Edits.{sets}
use Rattle.base.specs.Bytes.{xors}
use Rattle.dtls_aead.proofs.nonce_xor.Given as goal

abbrev pub invariant-loop-k : goal.invariant-loop-k
invariant-loop-k l = l.nonce ≡ sets l.iv 4 (xors l.iv 4 (take l.k l.number))
