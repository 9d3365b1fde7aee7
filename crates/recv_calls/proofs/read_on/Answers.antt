-- `recv_calls::read_on` meets its contract: no question waits, and the datagram is in range. Assumes nothing.
use mathlib.Core.Path.{sym, subst, ◌∙◌}
use native.Mathlib.Omega.{arith}
use Rattle.datagram.specs.Sound.{ready}
use Rattle.records.proofs.Leads.{read-asks}
use Rattle.recv_calls.specs.Calls.{Stepped}
use Rattle.recv_calls.proofs.read_on.Goals as goal

pub go_on-t-requires : goal.go_on-t-requires
go_on-t-requires c = let g = c.requires.1 in let r = ready _ _ g.sound in (r.keys.count, omega (arith, r.at, g.size), omega (arith, r.size, g.size))

pub settle-requires : goal.settle-requires
settle-requires c = c.requires.0

pub returns : goal.returns
returns c = let g = c.requires.1 in subst (Stepped _ _ _) (c.go_on-t.ensures ∙ sym (read-asks _ _ _ _ g.sound g.size g.idle)) c.settle.ensures
