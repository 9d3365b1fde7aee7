-- `recv_calls::opened` meets its contract. Assumes nothing.
use mathlib.Core.Path.{refl, sym, ◌∙◌}
use Rattle.base.specs.Choose.{if_false, both_true, both_false}
use borrow.Author.Tests.{lt-leb, le-leb}
use Rattle.recv_calls.specs.Replies.{opens_as}
use Rattle.recv_calls.proofs.opened.Goals as goal

pub returns-then-wrong : goal.returns-then-wrong
returns-then-wrong c = (c.told.ensures ∙ sym (if_false _ _ (both_false _ (lt-leb _ _ c.if-wrong.true))), sym (if_false _ _ (both_false _ (lt-leb _ _ c.if-wrong.true))), refl)

pub opened_step-requires : goal.opened_step-requires
opened_step-requires c = (sym c.is_flat.ensures ∙ c.if-is_flat.true)

pub returns-then-is_flat : goal.returns-then-is_flat
returns-then-is_flat c = opens_as _ _ c.args.w.now c.args.opened c.args.length c.args.d.now (le-leb _ _ c.if-wrong.false) (sym c.is_flat.ensures ∙ c.if-is_flat.true) c.opened_step.ensures

pub returns : goal.returns
returns c = (c.told-2.ensures ∙ sym (if_false _ _ (both_true (le-leb _ _ c.if-wrong.false) ∙ (sym c.is_flat.ensures ∙ c.if-is_flat.false))), sym (if_false _ _ (both_true (le-leb _ _ c.if-wrong.false) ∙ (sym c.is_flat.ensures ∙ c.if-is_flat.false))), refl)
