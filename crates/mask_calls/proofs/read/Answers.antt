-- `mask_calls::read` meets its contract. Assumes nothing.
use Rattle.mask_calls.specs.Laws.{not_asked}
use Rattle.mask_calls.proofs.read.Goals as goal

pub returns : goal.returns
returns c = let f = c.read-a in
    let a = c.args in
    record { asked = f.result; between = f.new.w; read = f.ensures; goes_on = not_asked f.result f.new.w a.k.now a.d.now c.if-a-eq-MASK.false }
