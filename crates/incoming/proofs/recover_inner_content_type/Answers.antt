-- `incoming::recover_inner_content_type` meets its contract. Invariant: what is cut off are zeros. Assumes nothing.
use mathlib.Core.Path.{ap, ◌∙◌}
use native.Mathlib.Omega.{arith}
use Prim.Native.Nat.{ℕ, ◌-◌, ◌≤◌}
use lib.ListN.{length, take}
use lib.Seq.{take-length}
use Rattle.incoming.specs.Inner.{inner_of, cut-none, cut-zero, cut-last}
use Rattle.incoming.specs.Padding.{left-fits, left-same}
use Rattle.incoming.proofs.recover_inner_content_type.Goals as goal

pub loop-n-init : goal.loop-n-init
loop-n-init c = (omega arith, ap inner_of (take-length _))

pub returns-then-byte-ne0 : goal.returns-then-byte-ne0
returns-then-byte-ne0 c = let n = c.loop-n.n in
    cut-last _ n (n - 1) c.loop-n.invariant.1 (omega arith) (omega arith) _ (omega arith) (λ z. c.if-byte-ne0.true (omega arith))

pub loop-n-smaller : goal.loop-n-smaller
loop-n-smaller c = let n = c.loop-n.n in
    let d = c.args.decrypted.now in
    let left = c.without_zero_words-n.ensures in
    omega (arith, left-fits d (n - 1) (omega arith), left)

pub loop-n-preserved : goal.loop-n-preserved
loop-n-preserved c = let n = c.loop-n.n in
    let d = c.args.decrypted.now in
    let left = c.without_zero_words-n.ensures in
    let h : n - 1 ≤ length d = omega arith in (
      omega (arith, left-fits d (n - 1) h, left),
      ap (λ (m : ℕ). inner_of (take m d)) left ∙ left-same d (n - 1) h
          ∙ cut-zero d n (n - 1) c.loop-n.invariant.1 (omega arith) (omega arith) (omega arith),
    )

pub returns : goal.returns
returns c = cut-none _ c.loop-n.n c.loop-n.invariant.1 (omega arith)
