-- `mask_calls::entry_of` meets its contract. Assumes nothing.
use mathlib.Core.Path.{sym, ◌∙◌}
use borrow.Author.Tests.{le-leb, lt-leb}
use Rattle.base.specs.Choose.{if_true, if_false}
use Rattle.mask_keys.specs.Keys.{entry_of}
use Rattle.mask_calls.proofs.entry_of.Goals as goal

pub returns-then-count : goal.returns-then-count
unfolding entry_of
returns-then-count c = c.find_epoch.ensures ∙ sym (if_true _ _ (le-leb _ _ c.if-count.true))

pub returns : goal.returns
unfolding entry_of
returns c = sym (if_false _ _ (lt-leb _ _ c.if-count.false))
