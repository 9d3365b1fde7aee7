-- `recv_words::put_entry` meets its contract. Assumes nothing.
use Rattle.std.proofs.Common.{rules}
use Rattle.recv_words.specs.Entries.{written}
use Rattle.recv_words.proofs.put_entry.Goals as goal

pub returns : goal.returns
returns c = let a = c.args in rw (c.put_iv.ensures.0, c.put_window.ensures, c.from.ensures) (written a.i a.e a.w.now c.requires c.told-w (search rules) c.put_iv.ensures.1)
