-- `recv_calls::reply_mask` meets its contract. Assumes nothing.
use mathlib.Core.Path.{refl, sym, ◌∙◌}
use Rattle.base.specs.Choose.{if_false}
use Rattle.recv_calls.specs.Replies.{masks_as}
use Rattle.recv_calls.proofs.reply_mask.Goals as goal

pub mask_step-requires : goal.mask_step-requires
mask_step-requires c = (sym c.is_flat.ensures ∙ c.if-is_flat.true)

pub returns-then-is_flat : goal.returns-then-is_flat
returns-then-is_flat c = masks_as _ _ c.args.w.now c.args.mask_0 c.args.mask_1 _ c.args.d.now (sym c.is_flat.ensures ∙ c.if-is_flat.true) c.mask_step.ensures

pub returns : goal.returns
returns c = ((c.no_reply.ensures ∙ sym (if_false _ _ (sym c.is_flat.ensures ∙ c.if-is_flat.false)), sym (if_false _ _ (sym c.is_flat.ensures ∙ c.if-is_flat.false)), refl), sym (if_false _ _ (sym c.is_flat.ensures ∙ c.if-is_flat.false)))
