-- `decimal::put_digits` meets its contract. Assumes nothing.
use Rattle.std.proofs.Common.{◌≡◌, ℕ, suc, ◌+◌, ◌-◌, ◌/◌, sym, ap, ◌∙◌, arith}
use Rattle.base.specs.Parts.{splice, stored}
use Rattle.decimal.specs.Decimal.{digit, digits}
use Rattle.decimal.proofs.Laws.{digits-none, digits-next}
use Rattle.decimal.proofs.put_digits.Goals as goal

pub loop-i-preserved : goal.loop-i-preserved
loop-i-preserved c = let l = c.loop-i in
    let a = c.args.at in
    let j : ℕ = l.i - 1 in
    let e : l.i ≡ suc j = omega arith in
    ap (splice a (digits j (l.rest / 10))) (stored (a + j) (digit l.rest) l.out (omega arith))
    ∙ digits-next a j l.rest l.out (omega arith) ∙ sym (ap (λ (m : ℕ). splice a (digits m l.rest) l.out) e) ∙ l.invariant

pub returns : goal.returns
returns c = let l = c.loop-i in
    let e : l.i ≡ 0 = omega arith in
    sym (digits-none c.args.at l.rest l.out) ∙ sym (ap (λ (m : ℕ). splice c.args.at (digits m l.rest) l.out) e) ∙ l.invariant
