-- `ack_steps::process_ack` meets its contract. Assumes nothing.
use Rattle.ack_steps.specs.Steps.{acts_not, acts-formed, acts-unformed, still-saved}
use mathlib.Core.Path.{sym}
use Rattle.ack_steps.proofs.process_ack.Goals as goal

pub returns-then-saved-gt12 : goal.returns-then-saved-gt12
returns-then-saved-gt12 c = (acts_not c.args.f.now c.args.numbers.now c.args.content.now c.if-saved-gt12.true, λ f. f)

pub returns-in_default : goal.returns-in_default
returns-in_default c = (acts-unformed c.args.f.now c.args.numbers.now c.args.content.now c.if-saved-gt12.false (sym c.in_default.ensures.formed), λ f. f)

pub empty-requires : goal.empty-requires
empty-requires c = (sym (still-saved _ _ _ c.args.numbers.now c.args.f.now _ c.mark_all.ensures), c.if-saved-gt12.false)

pub returns : goal.returns
returns c = let e = c.in-Some.ensures in
    acts-formed c.args.f.now c.args.numbers.now c.args.content.now c.if-saved-gt12.false _ _ (sym e.formed) (rw (e.all.0, e.all.1) at c.mark_all.ensures) (c.empty.ensures c.args.numbers.now)
