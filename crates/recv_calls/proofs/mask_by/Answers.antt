-- `recv_calls::mask_by` meets its contract. Assumes nothing.
use mathlib.Core.Path.{refl, sym, ◌∙◌}
use Rattle.mask_reply.specs.Mask.{masked_by}
use Rattle.recv_keys.specs.Laws.{found-keyed}
use Rattle.recv_calls.specs.Replies.{mask-ready}
use Rattle.recv_calls.proofs.mask_by.Goals as goal

pub find_epoch-f-requires : goal.find_epoch-f-requires
find_epoch-f-requires c = (mask-ready c.requires.0).keys.count

pub mask_at-requires : goal.mask_at-requires
mask_at-requires c = (c.requires.0, found-keyed _ _ _ _ (sym c.find_epoch-f.ensures ∙ c.in-Some.is), c.requires.1)

pub returns-in-None : goal.returns-in-None
unfolding masked_by
returns-in-None c = rw (sym (rw c.low-epoch.ensures at c.find_epoch-f.ensures) ∙ c.in-None.is) ((c.no_reply.ensures, refl, refl, c.requires.0.flat), refl)

pub returns-in-Some : goal.returns-in-Some
unfolding masked_by
returns-in-Some c = rw (sym (rw c.low-epoch.ensures at c.find_epoch-f.ensures) ∙ c.in-Some.is) c.mask_at.ensures
