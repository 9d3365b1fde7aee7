-- `chacha::rounds` meets its contract. Assumes nothing.
use Rattle.std.proofs.Common.{◌≡◌, ℕ, refl, ap, ◌∙◌, add-one, arith}
use Rattle.chacha.specs.Chacha.{words_of, double_rounds, column_round, diagonal_round}
use Rattle.chacha.proofs.rounds.Goals as goal

pub loop-init : goal.loop-init
loop-init c = refl

pub loop-preserved : goal.loop-preserved
loop-preserved c = rw add-one (c.diagonal_round-t.ensures ∙ ap diagonal_round (c.column_round.ensures ∙ ap column_round c.loop.invariant))

pub returns : goal.returns
returns c = let e : c.loop.counter ≡ 10 = omega arith in c.loop.invariant ∙ ap (λ (n : ℕ). double_rounds n (words_of c.args.s)) e
