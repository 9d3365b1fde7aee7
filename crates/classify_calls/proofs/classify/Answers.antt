-- `classify_calls::classify` meets its contract. Assumes nothing.
use mathlib.Core.Path.{sym, ◌∙◌}
use Rattle.classify_calls.specs.Laws.{by_class, no_state}
use Rattle.classify_calls.proofs.classify.Goals as goal

pub deal-requires : goal.deal-requires
deal-requires c = sym c.is_flat.ensures ∙ c.if-is_flat.true

pub returns-then-is_flat : goal.returns-then-is_flat
returns-then-is_flat c = by_class _ _ _ _ _ _ _ _ _ _ _ (sym c.is_flat.ensures ∙ c.if-is_flat.true) c.class_at-k.ensures c.deal.ensures

pub returns : goal.returns
returns c = no_state _ _ _ _ _ _ (sym c.is_flat.ensures ∙ c.if-is_flat.false) c.told.ensures
