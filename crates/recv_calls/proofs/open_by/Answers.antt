-- `recv_calls::open_by` meets its contract. Assumes nothing.
use mathlib.Core.Path.{refl, sym, ◌∙◌}
use native.Mathlib.Omega.{arith}
use Rattle.opening_reply.specs.Opening.{opened_by}
use Rattle.recv_keys.specs.Laws.{found-keyed}
use Rattle.recv_calls.specs.Replies.{open_ready}
use Rattle.recv_calls.proofs.open_by.Goals as goal

pub find_epoch-f-requires : goal.find_epoch-f-requires
find_epoch-f-requires c = (open_ready c.requires).keys.count

pub open_at-requires : goal.open_at-requires
open_at-requires c = (c.requires, omega (arith, found-keyed _ _ _ _ (sym c.find_epoch-f.ensures ∙ c.in-Some.is), (open_ready c.requires).keys.count))

pub returns-in-None : goal.returns-in-None
unfolding opened_by
returns-in-None c = rw (sym (rw c.low-epoch.ensures at c.find_epoch-f.ensures) ∙ c.in-None.is) (c.told.ensures, refl, refl, c.requires.flat)

pub returns-in-Some : goal.returns-in-Some
unfolding opened_by
returns-in-Some c = rw (sym (rw c.low-epoch.ensures at c.find_epoch-f.ensures) ∙ c.in-Some.is) c.open_at.ensures
