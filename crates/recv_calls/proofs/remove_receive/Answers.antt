-- `recv_calls::remove_receive` meets its contract. Assumes nothing.
use mathlib.Core.Path.{refl, sym, ◌∙◌}
use Rattle.base.specs.Choose.{if_false}
use Rattle.recv_calls.specs.Removed.{removes}
use Rattle.recv_calls.proofs.remove_receive.Goals as goal

pub remove-requires : goal.remove-requires
remove-requires c = (sym c.is_flat.ensures ∙ c.if-is_flat.true)

pub returns-then-is_flat : goal.returns-then-is_flat
returns-then-is_flat c = removes _ _ _ _ _ (sym c.is_flat.ensures ∙ c.if-is_flat.true) c.removed_told.ensures c.remove.ensures

pub returns : goal.returns
returns c = let z = sym c.is_flat.ensures ∙ c.if-is_flat.false in (c.told.ensures ∙ sym (if_false _ _ z), sym (if_false _ _ z), refl)
