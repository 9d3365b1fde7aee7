-- `status_calls::unmarked` meets its contract. The loop's invariant: the count is that of the records so far. Assumes nothing.
use mir.Val.{bool_byte}
use Rattle.std.specs.Prelude.{Bool, true, false, not, ◌≡◌, ℕ, ◌+◌, ◌≤◌}
use Rattle.std.proofs.Common.{refl, ap, ◌∙◌, arith}
use Rattle.base.specs.Choose.{choose}
use Rattle.flight.specs.declared.Entry.{Entry}
use Rattle.flight.specs.Status.{unmarked_after}
use Rattle.status_calls.specs.Calls.{unmarked-more}
use Rattle.status_calls.proofs.unmarked.Goals as goal

one-unmarked : (b : Bool) → ◌≡◌ {A = ℕ} (bool_byte (not b)) (choose b 0 1)
unfolding choose
one-unmarked true = refl
one-unmarked false = refl

one-most : (b : Bool) → bool_byte b ≤ 1
one-most true = omega arith
one-most false = omega arith

pub loop-i-init : goal.loop-i-init
unfolding unmarked_after
loop-i-init c = (omega arith, λ m. refl)

pub loop-i-preserved : goal.loop-i-preserved
loop-i-preserved c =
    let v = c.loop-i.invariant in
    let marked = c.entry_of.result.marked in
    let most = one-most (not marked) in (
      omega (arith, most, v.0),
      λ m. ap (λ (k : ℕ). c.loop-i.count + k) (one-unmarked marked ∙ ap (λ (e : Entry). choose e.marked 0 1) c.entry_of.ensures)
          ∙ unmarked-more c.loop-i.i c.args.f.now m (omega (arith, c.loop-i-test.true, c.requires)) (v.1 m),
    )
