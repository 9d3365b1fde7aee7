-- `mask_calls::remove_receive` meets its contract. Assumes nothing.
use mathlib.Core.Path.{refl, sym, subst, ◌∙◌}
use borrow.Author.Tests.{eq-eqb, ne_eqb}
use Rattle.base.specs.Choose.{if_true, if_false}
use Rattle.recv_keys.specs.Keys.{most_epochs, Found}
use Rattle.recv_keys.specs.Laws.{Under}
use Rattle.recv_words.specs.Words.{keys_of}
use Rattle.mask_calls.specs.Calls.{MovesUp}
use Rattle.mask_calls.specs.Laws.{entry-under}
use Rattle.mask_calls.proofs.remove_receive.Goals as goal

pub leave-requires : goal.leave-requires
leave-requires c = let a = c.args in subst (Under most_epochs) (sym c.entry_of-f.ensures) (entry-under (keys_of a.w.now) a.epoch)

pub returns-then-removed : goal.returns-then-removed
returns-then-removed c = (c.remove_receive-r.ensures, subst (λ (f : Found). MovesUp f c.leave.new.k c.args.k.now) (c.entry_of-f.ensures ∙ sym (if_true _ _ (eq-eqb _ _ c.if-removed.true))) c.leave.ensures)

pub returns : goal.returns
returns c = let k = c.args.k.now in (c.remove_receive-r.ensures, subst (λ (f : Found). MovesUp f k k) (sym (if_false _ _ (ne_eqb _ _ c.if-removed.false))) refl)
