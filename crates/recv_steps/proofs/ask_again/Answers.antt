-- `recv_steps::ask_again` meets its contract. Assumes nothing.
use mathlib.Core.Path.{sym, ◌∙◌}
use native.Mathlib.Omega.{arith}
use Rattle.recv_keys.specs.Laws.{found-keyed}
use Rattle.records.specs.Records.{asked_again}
use Rattle.recv_steps.proofs.ask_again.Goals as goal

pub entry_at-requires : goal.entry_at-requires
entry_at-requires c = omega (arith, found-keyed _ _ _ _ (sym c.find_epoch-f.ensures ∙ c.in-Some.is), c.requires)

pub returns-in-None : goal.returns-in-None
unfolding asked_again
returns-in-None c = rw (sym c.find_epoch-f.ensures ∙ c.in-None.is) c.tell.ensures

pub returns-in-Some : goal.returns-in-Some
unfolding asked_again
returns-in-Some c = rw (sym c.find_epoch-f.ensures ∙ c.in-Some.is) (rw c.entry_at.ensures at c.ask_opening.ensures)
