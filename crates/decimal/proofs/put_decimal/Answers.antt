-- `decimal::put_decimal` meets its contract: the text is as long as the digits counted. Assumes nothing.
use mathlib.Core.Path.{ap, ◌∙◌}
use Prim.Native.Nat.{ℕ}
use native.Mathlib.Omega.{arith}
use Rattle.base.specs.Parts.{splice}
use Rattle.decimal.specs.Decimal.{digits, decimal}
use Rattle.decimal.proofs.Laws.{length-decimal}
use Rattle.decimal.proofs.put_decimal.Goals as goal

pub put_digits-requires : goal.put_digits-requires
put_digits-requires c = omega (arith, length-decimal c.args.n)

pub returns : goal.returns
unfolding decimal
returns c = let p = c.places-k.ensures in
    let a = c.args in
    (omega (arith, length-decimal a.n, p.0), c.put_digits.ensures ∙ ap (λ (k : ℕ). splice a.at (digits k a.n) a.out.now) p.0)
