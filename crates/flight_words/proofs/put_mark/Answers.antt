-- `flight_words::put_mark` meets its contract. Assumes nothing.
use Rattle.words.specs.Fields.{cast_bit}
use native.Mathlib.Omega.{arith}
use Rattle.flight_words.specs.Entries.{mark-put}
use Rattle.flight_words.proofs.put_mark.Goals as goal

pub returns : goal.returns
returns c = rw (cast_bit c.args.m) (mark-put c.args.w.now (omega arith) c.args.i c.args.m c.requires)
