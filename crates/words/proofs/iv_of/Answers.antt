-- `words::iv_of` meets its contract. Assumes nothing.
use native.Mathlib.Nat.{div-one}
use Rattle.std.proofs.Common.{refl}
use Rattle.words.specs.Packed.{iv_of}
use Rattle.words.proofs.iv_of.Goals as goal

pub returns : goal.returns
unfolding iv_of
returns c = rw (c.copy_from_slice.ensures.after, c.copy_from_slice-2.ensures.after, c.to_be_bytes.ensures, c.to_be_bytes-2.ensures) (simp div-one refl)
