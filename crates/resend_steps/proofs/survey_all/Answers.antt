-- `resend_steps::survey_all` meets its contract. Assumes nothing.
use Rattle.resend_steps.specs.Answer.{surveyed_more}
use Rattle.flight_words.specs.Entries.{entry-at}
use Rattle.resend.specs.Tests.{tail_after, count_after, surveyed_with, surveyed_after, joined-tail, Joins}
use Rattle.resend.specs.declared.Survey.{Survey}
use Prim.Native.Nat.{◌≤◌, ◌<◌}
use mathlib.Core.List.{[]}
use mathlib.Core.Path.{refl, sym, ap, subst, ◌∙◌}
use native.Mathlib.Omega.{arith}
use Rattle.resend_steps.proofs.survey_all.Goals as goal

pub loop-i-init : goal.loop-i-init
unfolding surveyed_after tail_after count_after
loop-i-init c = (λ n. refl, c.requires.1, omega (arith, c.requires.2), omega arith, omega arith, omega arith)

pub entry_of-requires : goal.entry_of-requires
entry_of-requires c = omega (arith, c.loop-i-test.true, c.requires.3)

pub surveyed_with-d-requires : goal.surveyed_with-d-requires
surveyed_with-d-requires c = let v = c.loop-i.invariant in
    let few : c.loop-i.i < 12 = omega (arith, c.loop-i-test.true, c.requires.3) in
    let j = subst (Joins _) (entry-at _ _ few ∙ sym c.entry_of.ensures) ((c.requires.4 []).each c.loop-i.i c.loop-i-test.true) in
    (c.requires.0, v.1, omega (arith, v.2, few), j, omega (arith, v.3, few), omega (arith, v.4, few), omega (arith, v.5, few))

pub loop-i-preserved : goal.loop-i-preserved
unfolding surveyed_with
loop-i-preserved c = let v = c.loop-i.invariant in
    let e = c.surveyed_with-d.ensures in
    let few : c.loop-i.i < 12 = omega (arith, c.loop-i-test.true, c.requires.3) in
    let j = subst (Joins _) (entry-at _ _ few ∙ sym c.entry_of.ensures) ((c.requires.4 []).each c.loop-i.i c.loop-i-test.true) in
    let y = joined-tail c.requires.0 v.1 j in
    (λ n. e.0 ∙ ap (surveyed_with _ _ _) c.entry_of.ensures ∙ surveyed_more _ _ c.loop-i.i _ c.args.f.now n few (v.0 n), rw (ap (λ (x : Survey). x.tail) e.0) y.0, omega (arith, ap (λ (x : Survey). x.tail.count) e.0, y.1, v.2), omega (arith, e.1, v.3), omega (arith, e.2, v.4), omega (arith, e.3, v.5))

pub returns : goal.returns
returns c = let v = c.loop-i.invariant in
    let few : c.loop-i.i ≤ 12 = omega (arith, c.loop-i.auto.i-end, c.requires.3) in
    (λ n. v.0 n ∙ ap (surveyed_after _ _ _ _) (omega (arith, c.loop-i.auto.i-end, c.loop-i-test.false)), omega (arith, v.3, few), omega (arith, v.4, few), omega (arith, v.5, few))
