-- `assembly_steps::Pieces::is_enough` meets its contract. Assumes nothing.
use Rattle.std.proofs.Common.{rules, ◌≡◌, ◌∙◌, arith, leb-false}
use Rattle.base.specs.Parts.{part}
use Rattle.assembly.specs.Spans.{length_at}
use Rattle.assembly_steps.specs.Sums.{sum_to, too_few}
use Rattle.assembly_steps.proofs.Held.{sum-lengths}
use Rattle.assembly_steps.proofs.Pieces.is_enough.Goals as goal

pub returns : goal.returns
returns c e =
    let a = c.args in
    let f : c.sum_to.result ≡ sum_to a.t (part (length_at 0) a.self.count a.self.words.now) = search rules in
    let s = f ∙ sum-lengths a.self.words.now a.t a.self.count (omega (arith, a.self.few)) in
    too_few a.self.words.now a.self.count a.t (omega (arith, leb-false a.t c.sum_to.result e, s))
