-- `recv_words::last_fit` meets its contract. Invariant: the answer for the entries that are left is the answer for all. Assumes nothing.
use mathlib.Core.Path.{sym, ◌∙◌}
use Rattle.recv_keys.specs.Laws.{fit_hit, fit_miss, fit_none}
use Rattle.recv_words.proofs.last_fit.Goals as goal

pub returns-then-fits_bits : goal.returns-then-fits_bits
returns-then-fits_bits c = sym (fit_hit _ _ _ c.loop-i-test.true (sym (rw c.epoch_at.ensures at c.fits_bits.ensures) ∙ c.if-fits_bits.true)) ∙ c.loop-i.invariant

pub loop-i-preserved : goal.loop-i-preserved
loop-i-preserved c = sym (fit_miss _ _ _ c.loop-i-test.true (sym (rw c.epoch_at.ensures at c.fits_bits.ensures) ∙ c.if-fits_bits.false)) ∙ c.loop-i.invariant

pub returns : goal.returns
returns c = sym (fit_none _ _ _ c.loop-i-test.false) ∙ c.loop-i.invariant
