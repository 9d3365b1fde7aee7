-- `sealing::step_of` meets its contract. Assumes nothing.
use mathlib.Core.Path.{sym, ◌∙◌}
use native.Mathlib.Omega.{arith}
use Rattle.sealing.specs.Heads.{nothing_read, sealed-other}
use Rattle.sealing.proofs.step_of.Goals as goal

pub returns-then-d-eq0 : goal.returns-then-d-eq0
returns-then-d-eq0 c = c.go_beyond.ensures ∙ sym (nothing_read c.args.d.now c.args.slot c.args.c c.if-d-eq0.true)

pub found_at-requires : goal.found_at-requires
found_at-requires c = (omega (arith, c.if-d-eq0.false), c.if-flags-eq11.true, c.requires.2)

pub returns-then-flags-eq11 : goal.returns-then-flags-eq11
returns-then-flags-eq11 c = c.found_at.ensures

pub returns-then-flags-eq1 : goal.returns-then-flags-eq1
returns-then-flags-eq1 c = c.go_beyond-then-flags-eq1.ensures ∙ sym (sealed-other c.args.d.now c.args.slot c.args.c (omega (arith, c.if-d-eq0.false)) c.if-flags-eq1.true c.if-flags-eq11.false)

pub plain_at-requires : goal.plain_at-requires
plain_at-requires c = (omega (arith, c.if-d-eq0.false), c.if-flags-eq1.false, c.requires.0, c.requires.1, c.requires.2)

pub returns : goal.returns
returns c = c.plain_at.ensures
