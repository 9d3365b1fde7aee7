-- `recv_calls::open_yes` meets its contract. Assumes nothing.
use mathlib.Core.Path.{◌∙◌}
use native.Mathlib.Omega.{arith}
use Rattle.recv_calls.specs.Replies.{open_held, open_fits, marks-fit, yes_opens, yes_refused}
use Rattle.recv_calls.proofs.open_yes.Goals as goal

pub overflow_sub-a : goal.overflow_sub-a
overflow_sub-a c = rw c.ask_of-a.ensures (open_held c.requires.0).tag

pub overflow_add-start : goal.overflow_add-start
overflow_add-start c = rw c.ask_of-a.ensures (omega (arith, open_fits c.requires.0))

pub type_step-requires : goal.type_step-requires
type_step-requires c = (c.mark.ensures.flat ∙ c.requires.0.flat, marks-fit c.mark.ensures (open_fits c.requires.0))

pub returns-then-length-a : goal.returns-then-length-a
returns-then-length-a c = yes_opens _ _ _ _ _ _ _ _ (rw c.ask_of-a.ensures at c.if-length-a.true) c.mark.ensures (rw (c.fragment.ensures, c.ask_of-a.ensures) at c.recover_inner_content_type-inner.ensures) c.type_step.ensures

pub returns : goal.returns
returns c = yes_refused _ _ _ _ _ c.requires.0.flat (rw c.ask_of-a.ensures at c.if-length-a.false) c.told.ensures
