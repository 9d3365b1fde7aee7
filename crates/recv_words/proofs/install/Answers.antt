-- `recv_words::install` meets its contract. Assumes nothing.
use Rattle.std.proofs.Common.{rules}
use Rattle.recv_words.specs.Entries.{installs}
use Rattle.recv_words.proofs.install.Goals as goal

pub returns : goal.returns
returns c = rw c.from.ensures (installs _ _ _ _ _ (rw c.new-v.ensures at c.put_entry.ensures) c.requires.1 (search rules))
