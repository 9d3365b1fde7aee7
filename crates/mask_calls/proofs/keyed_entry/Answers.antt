-- `mask_calls::keyed_entry` meets its contract. Assumes nothing.
use mathlib.Core.Path.{sym, ap, ◌∙◌}
use native.Mathlib.Omega.{arith}
use Rattle.base.specs.Choose.{if_false}
use Rattle.recv_words.specs.Words.{keys_of}
use Rattle.mask_keys.specs.Keys.{key_in}
use Rattle.mask_calls.specs.Laws.{entry-below}
use Rattle.mask_calls.proofs.keyed_entry.Goals as goal

pub has_key-requires : goal.has_key-requires
has_key-requires c = let a = c.args in omega (arith, entry-below (keys_of a.w.now) a.epoch _ (sym c.entry_of.ensures ∙ c.in-Some.is))

pub returns-then-has_key : goal.returns-then-has_key
returns-then-has_key c = (sym c.entry_of.ensures ∙ c.in-Some.is, sym c.has_key.ensures ∙ c.if-has_key.true)

pub returns-else-has_key : goal.returns-else-has_key
unfolding key_in
returns-else-has_key c = ap (key_in c.args.k.now) (sym c.entry_of.ensures ∙ c.in-Some.is) ∙ if_false _ _ (sym c.has_key.ensures ∙ c.if-has_key.false)

pub returns-in-None : goal.returns-in-None
unfolding key_in
returns-in-None c = ap (key_in c.args.k.now) (sym c.entry_of.ensures ∙ c.in-None.is)
