-- `run_lines::encode` meets its contract. Assumes nothing.
use Rattle.std.specs.Prelude.{ℕ, List, [], ◌∷◌, ◌++◌}
use Rattle.std.proofs.Common.{refl, ap, arith, drop_of_length-le}
use Rattle.run_lines.specs.Lines.{hex_of, line_of}
use Rattle.run_lines.proofs.Lines.{wrote_none, wrote-next, wrote_as, wrote_then, wrote-all, hex_next}
use Rattle.run_lines.proofs.encode.Goals as goal

pub loop-b-preserved : goal.loop-b-preserved
loop-b-preserved c = let w = wrote_as (ap (λ (r : List ℕ). r ++ (10 ∷ [])) (hex_next c.args.d.now c.loop-b.b-index (omega arith))) c.loop-b.invariant in
    wrote-next c.push-n-in-loop-b-2.ensures.0 c.push-n-in-loop-b-2.ensures.1 c.hex-in-loop-b.ensures (wrote-next c.push-n-in-loop-b.ensures.0 c.push-n-in-loop-b.ensures.1 c.hex.ensures w)

pub returns : goal.returns
returns c = let a = c.args in
    let v = wrote-next c.push-n-2.ensures.0 c.push-n-2.ensures.1 refl (wrote-next c.push-n.ensures.0 c.push-n.ensures.1 refl (wrote_none a.out.now 0 (line_of a.letter a.d.now))) in
    let w = wrote_as (ap (λ (r : List ℕ). hex_of r ++ (10 ∷ [])) (drop_of_length-le a.d.now {i = c.loop-b.b-index} (omega arith))) c.loop-b.invariant in
    wrote-all (wrote-next c.push.ensures.0 c.push.ensures.1 refl (wrote_then v w))
