-- `recv_words::count_apps` meets its contract. Invariant: the count is that of the entries passed. Assumes nothing.
use mathlib.Core.Path.{◌≡◌}
use Prim.Native.Nat.{◌≤◌}
use Rattle.recv_words.specs.Words.{entries_of}
use Rattle.recv_keys.specs.Keys.{apps}
use Rattle.recv_words.proofs.count_apps.Given as goal

abbrev pub invariant-loop-i : goal.invariant-loop-i
invariant-loop-i l = (l.n ≤ l.i) × (l.n ≡ apps (entries_of l.w) l.i)
