-- `run_lines::decode` meets its contract. Assumes nothing.
use Rattle.std.proofs.Common.{refl, sym, ap}
use Rattle.std.proofs.lemmas.List.{take_rest}
use Rattle.run_lines.specs.Lines.{bytes_of}
use Rattle.run_lines.proofs.Lines.{wrote-next, wrote_as, bytes_next}
use Rattle.run_lines.proofs.decode.Goals as goal

pub loop-rest-preserved : goal.loop-rest-preserved
loop-rest-preserved c = let d = c.loop-rest.rest.now in
    let high = c.digit.ensures.0 in
    let low = c.digit-in-len2-up.ensures.0 in
    wrote_as (ap bytes_of (sym (take_rest d 2))) (wrote-next c.push-n.ensures.0 c.push-n.ensures.1 (rw (high, low) refl) (wrote_as (bytes_next d c.in-len2-up.len_at_least) c.loop-rest.invariant))
