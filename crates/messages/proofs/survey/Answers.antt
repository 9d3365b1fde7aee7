-- `messages::survey` meets its contract. The loop's invariant is `Surveyed`: what is found from here on makes what is found from the start. Assumes nothing.
use native.Mathlib.Omega.{arith}
use mathlib.Core.Path.{◌≡◌, ◌∙◌}
use Prim.Native.Nat.{ℕ, max}
use Rattle.std.specs.Ordering.{nat_cmp, ord_max}
use Rattle.messages.specs.Cut.{survey_more, survey_last, survey_end}
use Rattle.messages.proofs.survey.Goals as goal

greater : (a b : ℕ) → ord_max nat_cmp a b ≡ max a b
greater a b = grind arith

pub loop-n-init : goal.loop-n-init
loop-n-init c = record { turns = omega arith; ok = c.requires.3; found = omega arith; reached = omega arith }

pub cut_next-c-requires : goal.cut_next-c-requires
cut_next-c-requires c = let o = c.loop-n.invariant.ok in (c.requires.0, c.requires.1, c.requires.2, o.tailed, omega (arith, o.few))

pub returns-then-c-eq0 : goal.returns-then-c-eq0
returns-then-c-eq0 c = survey_last c.loop-n.invariant c.loop-n-test.true c.cut_next-c.ensures c.max-top.ensures c.if-c-eq0.true

pub loop-n-preserved : goal.loop-n-preserved
loop-n-preserved c = survey_more c.loop-n.invariant c.loop-n-test.true c.cut_next-c.ensures c.max-top.ensures c.requires.0 c.requires.1 c.requires.2 c.if-c-eq0.false

pub returns : goal.returns
returns c = let p = survey_end c.loop-n.invariant c.loop-n-test.false in (omega (arith, p.0, c.loop-n.invariant.turns, c.loop-n-test.false), p.1)
