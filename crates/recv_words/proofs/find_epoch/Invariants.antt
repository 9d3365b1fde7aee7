-- `recv_words::find_epoch` meets its contract. Invariant: the answer for the entries that are left is the answer for all. Assumes nothing.
use mathlib.Core.Path.{◌≡◌}
use Rattle.recv_words.specs.Words.{entries_of}
use Rattle.recv_keys.specs.Keys.{find}
use Rattle.recv_words.proofs.find_epoch.Given as goal

abbrev pub invariant-loop-i : goal.invariant-loop-i
invariant-loop-i l = find (entries_of l.w) l.epoch l.i ≡ find (entries_of l.w) l.epoch l.count
