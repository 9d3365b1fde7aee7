-- `husk_flight_begin_words` meets its contract. Assumes nothing.
use mathlib.Core.Path.{◌∙◌}
use Rattle.huskelapse.proofs.husk_flight_begin_words.Goals as goal

pub returns : goal.returns
returns c = λ n. let e = c.begin_flight.ensures n in (c.refusal.ensures ∙ e.0, e.1, e.2)
