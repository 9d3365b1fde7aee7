-- `recv_words::shift` meets its contract. Assumes nothing.
use Rattle.recv_words.specs.Entries.{stays, moves}
use Rattle.recv_words.proofs.shift.Goals as goal

pub returns-then-i-j : goal.returns-then-i-j
returns-then-i-j c = moves _ _ _ _ c.if-i-j.true (rw c.entry_at-e.ensures at c.put_entry.ensures)

pub returns-else-i-j : goal.returns-else-i-j
returns-else-i-j c = stays _ _ _ c.requires c.if-i-j.false c.told-w
