-- After some turns, as many double rounds. Assumes nothing.
use Rattle.std.proofs.Common.{◌≡◌}
use Rattle.chacha.specs.Chacha.{words_of, double_rounds}
use Rattle.chacha.proofs.rounds.Given as goal

abbrev pub invariant-loop : goal.invariant-loop
invariant-loop l = words_of l.t ≡ double_rounds l.counter (words_of l.initial.t)
