-- `mask_keys::sample_at` meets its contract. Assumes nothing.
use Rattle.std.proofs.Common.{◌∙◌, ap, get_or}
use Rattle.mask_keys.proofs.Laws.{padded}
use Rattle.mask_keys.proofs.sample_at.Goals as goal

pub returns : goal.returns
returns c = λ i. rw (c.copy_from_slice.ensures.after) (padded c.fragment-s.result.now i ∙ ap (λ l. get_or l i 0) c.fragment-s.ensures)
