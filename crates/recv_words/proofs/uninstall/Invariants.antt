-- `recv_words::uninstall` meets its contract. Invariant: the entries passed are those of `left`. Assumes nothing.
use Rattle.recv_words.specs.Entries.{Shifted}
use Rattle.recv_words.proofs.uninstall.Given as goal

abbrev pub invariant-loop-j : goal.invariant-loop-j
invariant-loop-j l = Shifted l.i l.j l.initial.w l.w
