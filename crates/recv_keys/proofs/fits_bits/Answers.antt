-- `recv_keys::fits_bits` meets its contract. Assumes nothing.
use borrow.Author.Tests.{le-leb, lt-leb}
use mathlib.Core.Path.{sym, ◌∙◌}
use Rattle.base.specs.Choose.{if_false, if_true}
use Rattle.recv_keys.specs.Keys.{fits}
use Rattle.recv_keys.proofs.fits_bits.Goals as goal

pub returns-then-epoch-ge3 : goal.returns-then-epoch-ge3
unfolding fits
returns-then-epoch-ge3 c = sym (if_true _ _ (le-leb _ _ c.if-epoch-ge3.true))

pub returns-else-epoch-ge3 : goal.returns-else-epoch-ge3
unfolding fits
returns-else-epoch-ge3 c = lt-leb _ _ c.if-epoch-ge3.false ∙ sym (if_false _ _ (lt-leb _ _ c.if-epoch-ge3.false))
