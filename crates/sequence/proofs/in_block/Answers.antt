-- `sequence::in_block` meets its contract: of the cases of `nearest`, the tests leave the one that was returned.
-- A remainder by a variable is an unknown to `omega`: `mod-lt` and `mod-le` bound it. Assumes nothing.
use borrow.Author.Rules.{rules}
use native.Mathlib.Nat.{mod-le, mod-lt}
use native.Mathlib.Omega.{arith}
use Rattle.sequence.specs.Sequence.{own}
use Rattle.sequence.proofs.Cases.{is-nearest}
use Rattle.sequence.proofs.in_block.Goals as goal

pub overflow_sub-own : goal.overflow_sub-own
overflow_sub-own c = mod-le c.args.expected c.args.block

pub overflow_add-own : goal.overflow_add-own
overflow_add-own c = omega (arith, mod-lt c.args.partial c.requires.0)

pub returns-then-own-block : goal.returns-then-own-block
unfolding own
returns-then-own-block c = is-nearest _ _ _ (λ s z. omega arith) (λ s z. omega arith) (λ s t v. omega arith) (λ s t v. omega arith) (λ s t. omega arith)

pub returns-then-half-own : goal.returns-then-half-own
unfolding own
returns-then-half-own c = is-nearest _ _ _ (λ s z. omega arith) (λ s z. omega arith) (λ s t v. omega arith) (λ s t v. omega arith) (λ s t. omega arith)

pub returns-then-expected-own : goal.returns-then-expected-own
unfolding own
returns-then-expected-own c = is-nearest _ _ _ (λ s z. omega arith) (λ s z. omega arith) (λ s t v. omega arith) (λ s t v. omega arith) (λ s t. omega arith)

pub returns-then-own-block-2 : goal.returns-then-own-block-2
unfolding own
returns-then-own-block-2 c = is-nearest _ _ _ (λ s z. omega arith) (λ s z. omega arith) (λ s t v. omega arith) (λ s t v. omega arith) (λ s t. omega arith)

pub returns-else-own-block-2 : goal.returns-else-own-block-2
unfolding own
returns-else-own-block-2 c = is-nearest _ _ _ (λ s z. omega arith) (λ s z. omega arith) (λ s t v. omega arith) (λ s t v. omega arith) (λ s t. omega arith)

pub returns-else-half-expected : goal.returns-else-half-expected
unfolding own
returns-else-half-expected c = is-nearest _ _ _ (λ s z. omega arith) (λ s z. omega arith) (λ s t v. omega arith) (λ s t v. omega arith) (λ s t. omega arith)
