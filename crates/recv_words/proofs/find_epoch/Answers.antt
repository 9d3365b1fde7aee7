-- `recv_words::find_epoch` meets its contract. Invariant: the answer for the entries that are left is the answer for all. Assumes nothing.
use mathlib.Core.Path.{sym, ◌∙◌}
use Rattle.recv_keys.specs.Laws.{find_hit, find_miss, find_none}
use Rattle.recv_words.proofs.find_epoch.Goals as goal

pub returns-then-epoch_at-epoch : goal.returns-then-epoch_at-epoch
returns-then-epoch_at-epoch c = sym (find_hit _ _ _ c.loop-i-test.true (sym c.epoch_at.ensures ∙ c.if-epoch_at-epoch.true)) ∙ c.loop-i.invariant

pub loop-i-preserved : goal.loop-i-preserved
loop-i-preserved c = sym (find_miss _ _ _ c.loop-i-test.true (λ e. c.if-epoch_at-epoch.false (c.epoch_at.ensures ∙ e))) ∙ c.loop-i.invariant

pub returns : goal.returns
returns c = sym (find_none _ _ _ c.loop-i-test.false) ∙ c.loop-i.invariant
