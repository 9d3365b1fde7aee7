-- `flight_calls::begin_flight` meets its contract. Assumes nothing.
use native.Mathlib.Omega.{arith}
use mathlib.Core.Path.{sym, ◌∙◌}
use borrow.Author.Tests.{le-leb}
use Rattle.flight_calls.specs.Calls.{begins-to}
use Rattle.flight_calls.proofs.begin_flight.Goals as goal

pub returns-then-fits : goal.returns-then-fits
returns-then-fits c = λ n. begins-to _ n (omega arith) (sym c.is_flat.ensures ∙ c.if-is_flat.true) (le-leb _ _ c.if-fits.true)
