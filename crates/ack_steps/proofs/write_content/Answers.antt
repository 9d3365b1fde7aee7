-- `ack_steps::write_content` meets its contract. The loop's invariant: the records so far are written behind the length. Assumes nothing.
use mathlib.Core.Path.{refl, sym, ap, ◌≡◌, ◌∙◌}
use native.Mathlib.Omega.{arith}
use Rattle.acks.specs.Acks.{pairs_of}
use Rattle.acks.proofs.Acks.{pairs-more, content-whole, splice-none}
use Rattle.base.specs.Parts.{splice}
use Rattle.ack_steps.specs.Steps.{tabled}
use Rattle.ack_steps.proofs.write_content.Goals as goal

pub loop-i-init : goal.loop-i-init
unfolding pairs_of
loop-i-init c = (refl, sym (splice-none 2 _))

pub loop-i-preserved : goal.loop-i-preserved
loop-i-preserved c = let a = c.args in
    (c.write_pair.auto.d ∙ c.loop-i.invariant.0, rw (c.write_pair.ensures, c.loop-i.invariant.1) (pairs-more (tabled a.n a.epochs.now a.numbers.now) _ c.loop-i.i (omega (arith, c.loop-i-test.true, c.requires.0, c.write_length.auto.d))))

pub returns : goal.returns
returns c = let a = c.args in
    let t = tabled a.n a.epochs.now a.numbers.now in
    let n : c.loop-i.i ≡ a.n = omega (arith, c.loop-i.auto.i-end, c.loop-i-test.false) in
    c.loop-i.invariant.1 ∙ ap (λ k. splice 2 (pairs_of t k) c.write_length.new.d) n ∙ ap (splice 2 (pairs_of t a.n)) c.write_length.ensures ∙ content-whole t a.d.now c.requires.0
