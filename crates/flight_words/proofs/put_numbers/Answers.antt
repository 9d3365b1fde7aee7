-- `flight_words::put_numbers` meets its contract. Assumes nothing.
use native.Mathlib.Omega.{arith}
use Rattle.flight_words.specs.Entries.{numbers-put}
use Rattle.flight_words.proofs.put_numbers.Goals as goal

pub returns : goal.returns
returns c = numbers-put c.args.w.now (omega arith) c.args.number c.args.remembered c.args.i c.requires
