-- `seal_steps::nonce_of` meets its contract. Assumes nothing.
use Rattle.std.specs.Prelude.{List, ℕ, take, drop}
use Rattle.std.specs.Int.Bits.{bit_xor}
use Rattle.std.proofs.Common.{refl, ap, ◌∙◌}
use Rattle.base.specs.Bytes.{be}
use Rattle.base.proofs.Bytes.{high_first-be}
use Rattle.seal_steps.specs.Nonces.{two-joined, nonce-words}
use Rattle.seal_steps.proofs.nonce_of.Goals as goal

pub returns : goal.returns
returns c = let a = c.args in
    let number = bit_xor a.back a.number in
    rw (c.copy_from_slice.ensures.after ∙ ap (λ (l : List ℕ). take 4 (drop 4 l)) (c.to_be_bytes.ensures ∙ high_first-be 8 a.front), c.copy_from_slice-2.ensures.after ∙ c.to_be_bytes-2.ensures ∙ high_first-be 8 number)
    (two-joined (be 4 a.front) (be 8 number) refl ∙ nonce-words a.front a.back a.number)
