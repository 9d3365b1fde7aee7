-- `recv_words::last_fit` meets its contract. Invariant: the answer for the entries that are left is the answer for all. Assumes nothing.
use mathlib.Core.Path.{◌≡◌}
use Rattle.recv_words.specs.Words.{entries_of}
use Rattle.recv_keys.specs.Keys.{last_fit}
use Rattle.recv_words.proofs.last_fit.Given as goal

abbrev pub invariant-loop-i : goal.invariant-loop-i
invariant-loop-i l = last_fit (entries_of l.w) l.bits l.i ≡ last_fit (entries_of l.w) l.bits l.count
