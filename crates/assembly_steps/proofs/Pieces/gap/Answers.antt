-- `assembly_steps::Pieces::gap` meets its contract. Assumes nothing.
use Rattle.std.proofs.Common.{rules, ◌≡◌, arith}
use Rattle.std.specs.List.{fold}
use Rattle.base.specs.Parts.{part}
use Rattle.assembly.specs.Spans.{offset_at}
use Rattle.assembly_steps.specs.Parts.{ahead}
use Rattle.assembly_steps.proofs.Held.{gap-most, gap_some, gap-bare}
use Rattle.assembly_steps.proofs.Pieces.gap.Goals as goal

pub returns : goal.returns
returns c =
    let a = c.args in
    let xs = part (offset_at 0) a.self.count a.self.words.now in
    let e : c.fold.result ≡ fold (ahead a.i) a.l xs = search rules in
    let m = gap-most a.i a.l xs in
    let s = gap_some a.i a.l xs c.requires.1 in
    record { most = omega arith; some = omega arith; bare = λ j h. gap-bare a.self.words.now a.self.count a.i a.l (omega (arith, a.self.few)) c.requires.0 j (omega (arith, h, e)) }
