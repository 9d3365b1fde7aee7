-- `decimal::put_digits` meets its contract. The loop's invariant: the digits that are left, written over what is there, make all of them. Assumes nothing.
use Rattle.std.proofs.Common.{◌≡◌}
use Rattle.base.specs.Parts.{splice}
use Rattle.decimal.specs.Decimal.{digits}
use Rattle.decimal.proofs.put_digits.Given as goal

abbrev pub invariant-loop-i : goal.invariant-loop-i
invariant-loop-i l = splice l.at (digits l.i l.rest) l.out ≡ splice l.at (digits l.k l.n) l.initial.out
