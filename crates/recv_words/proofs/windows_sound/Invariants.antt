-- `recv_words::windows_sound` meets its contract. Invariant: the verdict on the entries that are left is the verdict on all. Assumes nothing.
use mathlib.Core.Path.{◌≡◌}
use Rattle.recv_words.specs.Words.{entries_of}
use Rattle.recv_keys.specs.Keys.{windows_sound}
use Rattle.recv_words.proofs.windows_sound.Given as goal

abbrev pub invariant-loop-i : goal.invariant-loop-i
invariant-loop-i l = windows_sound (entries_of l.w) l.i ≡ windows_sound (entries_of l.w) l.count
