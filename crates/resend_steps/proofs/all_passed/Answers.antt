-- `resend_steps::all_passed` meets its contract. Assumes nothing.
use Rattle.resend_steps.specs.Answer.{passed-more}
use Rattle.resend.specs.Tests.{all_pass, passed_with, passed_after}
use mathlib.Core.Path.{refl, ap, ◌∙◌}
use native.Mathlib.Omega.{arith}
use Rattle.resend_steps.proofs.all_passed.Goals as goal

pub loop-i-init : goal.loop-i-init
unfolding passed_after all_pass
loop-i-init c n = refl

pub loop-i-preserved : goal.loop-i-preserved
loop-i-preserved c n = c.passed_with-p.ensures ∙ ap (passed_with _ _ _) c.entry_of.ensures ∙ passed-more _ _ c.loop-i.i c.args.f.now n (omega (arith, c.loop-i-test.true, c.requires)) (c.loop-i.invariant n)
