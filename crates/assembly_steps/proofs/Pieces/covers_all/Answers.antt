-- `assembly_steps::Pieces::covers_all` meets its contract. Invariant: every byte passed is covered. Assumes nothing.
use Rattle.std.proofs.Common.{List, ℕ, true, ◌≡◌, sym, ap, ◌∙◌, ◌+◌, ◌-◌, ◌<◌, ◌≤◌, arith, Some}
use Rattle.assembly.proofs.Covering.{all_true, all_hole, covered-on}
use Rattle.assembly.specs.Spans.{covered}
use Rattle.assembly_steps.specs.Parts.{Reach}
use Rattle.assembly_steps.proofs.Pieces.covers_all.Goals as goal

-- the bytes that one piece reaches over
reached : (w : List ℕ) (n i r : ℕ) → Reach w n i (Some r) → (x : ℕ) → i ≤ x → x < i + r → covered w n x ≡ true
reached w n i r e x l h = let z : i + (x - i) ≡ x = omega arith in sym (ap (covered w n) z) ∙ e.1 (x - i) (omega arith)

pub returns-in_default : goal.returns-in_default
returns-in_default c = let a = c.args in sym (all_hole a.self.words.now a.self.count a.t c.loop-i.i c.loop-i-test.true c.in_default.ensures)

pub returns-then-last : goal.returns-then-last
returns-then-last c = let a = c.args in
    let w = a.self.words.now in
    let i = c.loop-i.i in
    let v = c.loop-i.invariant in
    let l = c.if-last.true in
    sym (all_true w a.self.count a.t (covered-on w a.self.count i a.t v.1 (λ x p q. reached w a.self.count i _ c.in-Some.ensures x p (omega (arith, l, v.0)))))

pub loop-i-preserved : goal.loop-i-preserved
loop-i-preserved c = let a = c.args in
    let w = a.self.words.now in
    let i = c.loop-i.i in
    let v = c.loop-i.invariant in
    let l = c.if-last.false in
    (omega (arith, l, v.0), covered-on w a.self.count i _ v.1 (reached w a.self.count i _ c.in-Some.ensures))

pub returns : goal.returns
returns c = let a = c.args in
    let v = c.loop-i.invariant in
    sym (all_true a.self.words.now a.self.count a.t (λ x h. v.1 x (omega (arith, c.loop-i-test.false))))
