-- `recv_steps::locked_step` meets its contract, by what the epoch bits resolve to. Assumes nothing.
use mathlib.Core.Path.{sym, ◌∙◌}
use Rattle.base.specs.Choose.{if_true, if_false}
use borrow.Author.Tests.{lt-ltb, le-ltb}
use native.Mathlib.Omega.{arith}
use Rattle.recv_keys.specs.Laws.{resolve-keyed}
use Rattle.records.specs.Records.{locked_step}
use Rattle.recv_steps.proofs.locked_step.Goals as goal

pub returns-then-short : goal.returns-then-short
unfolding locked_step
returns-then-short c = rw (sym c.resolve_epoch-f.ensures ∙ c.in-Some.is) (c.pass-then-short.ensures ∙ sym (if_true _ _ (lt-ltb _ _ c.if-short.true)))

pub returns-then-length-w : goal.returns-then-length-w
unfolding locked_step
returns-then-length-w c = rw (sym c.resolve_epoch-f.ensures ∙ c.in-Some.is) (c.pass-then-length-w.ensures ∙ sym (if_false _ _ (le-ltb _ _ c.if-short.false) ∙ if_true _ _ (lt-ltb _ _ c.if-length-w.true)))

pub epoch_at-requires : goal.epoch_at-requires
epoch_at-requires c = omega (arith, resolve-keyed _ _ _ (sym c.resolve_epoch-f.ensures ∙ c.in-Some.is), c.requires.0)

pub returns-in-None : goal.returns-in-None
unfolding locked_step
returns-in-None c = rw (sym c.resolve_epoch-f.ensures ∙ c.in-None.is) c.pass.ensures

pub returns-else-length-w : goal.returns-else-length-w
unfolding locked_step
returns-else-length-w c = rw (sym c.resolve_epoch-f.ensures ∙ c.in-Some.is) (rw c.epoch_at.ensures at c.ask_mask.ensures ∙ sym (if_false _ _ (le-ltb _ _ c.if-short.false) ∙ if_false _ _ (le-ltb _ _ c.if-length-w.false)))
