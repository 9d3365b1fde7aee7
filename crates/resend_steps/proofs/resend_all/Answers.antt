-- `resend_steps::resend_all` meets its contract. Assumes nothing.
use Rattle.resend_steps.specs.Again.{relaid_more, relaid_range}
use Rattle.resend.specs.Resend.{again_after}
use native.Mathlib.Omega.{arith}
use mathlib.Core.Path.{refl, ap, ◌∙◌}
use Rattle.resend_steps.proofs.resend_all.Goals as goal

pub loop-i-init : goal.loop-i-init
unfolding again_after
loop-i-init c = (c.requires.0, refl, (refl, λ x. x, λ x. x))

pub again-requires : goal.again-requires
again-requires c = (c.loop-i.invariant.0, omega (arith, c.loop-i-test.true, c.requires.1))

pub loop-i-preserved : goal.loop-i-preserved
loop-i-preserved c = let v = c.loop-i in
    (relaid_range c.args.kept.now v.i v.w v.f v.numbers v.memory _ _ _ _ v.invariant.0 c.again.ensures, c.again.auto.memory ∙ v.invariant.1, relaid_more c.args.kept.now v.i c.args.w.now c.args.f.now c.args.numbers.now c.args.memory.now v.w v.f v.numbers v.memory _ _ _ _ v.invariant.2 c.again.ensures)

pub shape_of-memory : goal.shape_of-memory
shape_of-memory c = c.loop-i.invariant.1

pub returns : goal.returns
returns c = let v = c.loop-i.invariant in
    (v.2.0 ∙ ap (again_after _ _) (omega (arith, c.loop-i.auto.i-end, c.loop-i-test.false)), v.2.1, v.2.2)
