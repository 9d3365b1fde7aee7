-- `incoming::without_zero_words` meets its contract. Invariant: as many are left of those as of the first n. Assumes nothing.
use mathlib.Core.Path.{◌≡◌, refl, sym, ◌∙◌}
use native.Mathlib.Omega.{arith}
use Prim.Native.Nat.{◌-◌}
use Rattle.base.specs.Bytes.{be_at}
use Rattle.incoming.specs.Padding.{word_len, word_off, word-stays, no_word}
use Rattle.incoming.proofs.without_zero_words.Goals as goal

pub loop-left-init : goal.loop-left-init
loop-left-init c = (omega arith, refl)

pub returns-then-be-ne0 : goal.returns-then-be-ne0
returns-then-be-ne0 c = let left = c.loop-left.left in
    let d = c.args.d.now in
    let some : be_at word_len d (left - word_len) ≡ 0 → ⊥ = λ z. c.if-be-ne0.true (omega (arith, c.be.ensures.0, z)) in
    omega (arith, word-stays d left (left - word_len) (omega arith) some, c.loop-left.invariant.1)

pub loop-left-preserved : goal.loop-left-preserved
loop-left-preserved c = let left = c.loop-left.left in
    let none = sym c.be.ensures.0 ∙ c.if-be-ne0.false in
    (omega arith, sym (word_off _ left _ (omega arith) none) ∙ c.loop-left.invariant.1)

pub returns : goal.returns
returns c = sym (no_word _ c.loop-left.left (omega arith)) ∙ c.loop-left.invariant.1
