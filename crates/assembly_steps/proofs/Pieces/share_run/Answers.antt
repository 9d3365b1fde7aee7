-- `assembly_steps::Pieces::share_run` meets its contract. Assumes nothing.
use Rattle.std.proofs.Common.{sym, ◌∙◌, arith}
use Rattle.assembly.proofs.Covering.{run-bare, run-same, run-other, by-ends}
use Rattle.assembly_steps.proofs.Pieces.share_run.Goals as goal

pub returns-in_default : goal.returns-in_default
returns-in_default c =
    let a = c.args in
    let q = c.gap.ensures in
    record { on = omega (arith, q.some); most = omega (arith, q.most); is = run-bare a.self.words.now a.self.count a.o a.b.now a.d.now a.i c.gap.result q.bare }

pub returns-then-same_bytes : goal.returns-then-same_bytes
returns-then-same_bytes c =
    let a = c.args in
    let g = c.min-g.result in
    let m = c.min-g.ensures in
    let e = c.in-Some.ensures in
    record {
      on = omega (arith, e.0);
      most = omega arith;
      is = run-same a.self.words.now a.self.count a.o a.b.now a.d.now a.i g (omega arith) c.requires.0 (sym (by-ends a.self.words.now a.self.count a.o a.b.now a.d.now a.i g (omega arith) c.requires.0 c.same_bytes.ensures) ∙ c.if-same_bytes.true);
    }

pub returns : goal.returns
returns c =
    let a = c.args in
    let g = c.min-g.result in
    let m = c.min-g.ensures in
    run-other a.self.words.now a.self.count a.o a.b.now a.d.now a.i g (omega arith) c.requires.0 (λ j h. c.in-Some.ensures.1 j (omega arith)) (sym (by-ends a.self.words.now a.self.count a.o a.b.now a.d.now a.i g (omega arith) c.requires.0 c.same_bytes.ensures) ∙ c.if-same_bytes.false)
