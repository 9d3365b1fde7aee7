-- `messages::survey` meets its contract. The loop's invariant is `Surveyed`: what is found from here on makes what is found from the start. Assumes nothing.
use Rattle.messages.specs.Cut.{Surveyed}
use Rattle.messages.proofs.survey.Given as goal

abbrev pub invariant-loop-n : goal.invariant-loop-n
invariant-loop-n l = Surveyed l.mtu l.over l.initial.c l.n l.top l.c
