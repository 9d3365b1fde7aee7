-- `seal_steps::seek_from` meets its contract. The loop's invariant: what is found from here in the steps that are left is what is found
-- from the start. Assumes nothing.
use Prim.Native.Nat.{ℕ, suc, ◌+◌, ◌-◌}
use mathlib.Core.Path.{◌≡◌, refl, sym, ap, ◌∙◌}
use native.Mathlib.Omega.{arith}
use Rattle.sealing.specs.Seek.{seek, seek-done, seek-on, seek-none}
use Rattle.send_words.specs.Words.{queue_of}
use Rattle.seal_steps.proofs.seek_from.Goals as goal

pub loop-init : goal.loop-init
loop-init c = refl

pub returns-in-Break : goal.returns-in-Break
returns-in-Break c = let o = c.loop in let q = queue_of c.args.w.now in let d = c.args.d.now in let z : 1999 - o.counter ≡ suc (1998 - o.counter) = omega (arith, c.loop-test.true) in sym (ap (λ (k : ℕ). seek k q d o.c) z ∙ seek-done q d o.c (1998 - o.counter) (sym c.seek_step.ensures ∙ c.in-Break.is)) ∙ o.invariant

pub loop-preserved : goal.loop-preserved
loop-preserved c = let o = c.loop in let q = queue_of c.args.w.now in let d = c.args.d.now in let z : 1999 - o.counter ≡ suc (1999 - (o.counter + 1)) = omega (arith, c.loop-test.true) in sym (ap (λ (k : ℕ). seek k q d o.c) z ∙ seek-on q d o.c (1999 - (o.counter + 1)) (sym c.seek_step.ensures ∙ c.in-Continue.is)) ∙ o.invariant

pub returns : goal.returns
returns c = let o = c.loop in let q = queue_of c.args.w.now in let d = c.args.d.now in let z : 1999 - o.counter ≡ 0 = omega (arith, c.loop-test.false) in c.no_waiting.ensures ∙ sym (seek-none q d o.c z) ∙ o.invariant
