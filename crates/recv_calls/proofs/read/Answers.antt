-- `recv_calls::read` meets its contract. Assumes nothing.
use mathlib.Core.Path.{refl, sym, ap, ◌∙◌}
use Rattle.base.specs.Choose.{if_false}
use Rattle.datagram.specs.declared.Datagram.{Datagram}
use Rattle.records.specs.Records.{read_step}
use Rattle.recv_words.specs.Words.{keys_of}
use Rattle.recv_steps.specs.Goes.{goes, stays}
use Rattle.recv_calls.specs.Laws.{reads}
use Rattle.recv_calls.proofs.read.Goals as goal

pub goes_on-requires : goal.goes_on-requires
goes_on-requires c = c.datagram_of-b.ensures

pub read_on-requires : goal.read_on-requires
read_on-requires c = ((sym c.is_flat.ensures ∙ c.if-is_flat.true), goes _ _ _ (sym c.goes_on.ensures ∙ c.if-goes_on.true))

pub returns-then-goes_on : goal.returns-then-goes_on
returns-then-goes_on c = let s = c.args in reads _ _ _ _ _ _ _ (sym c.is_flat.ensures ∙ c.if-is_flat.true) c.read_on.ensures refl (ap (λ (x : Datagram). read_step (keys_of s.w.now) x s.d.now) c.datagram_of-b.ensures)

pub wait_step-t-requires : goal.wait_step-t-requires
wait_step-t-requires c = (c.datagram_of-b.ensures, stays _ _ _ (sym c.goes_on.ensures ∙ c.if-goes_on.false))

pub settle-requires : goal.settle-requires
settle-requires c = (sym c.is_flat.ensures ∙ c.if-is_flat.true)

pub returns-then-is_flat : goal.returns-then-is_flat
returns-then-is_flat c = reads _ _ _ _ _ _ _ (sym c.is_flat.ensures ∙ c.if-is_flat.true) c.settle.ensures refl (rw c.datagram_of-b.ensures at c.wait_step-t.ensures)

pub returns : goal.returns
returns c = (c.told.ensures ∙ sym (if_false _ _ (sym c.is_flat.ensures ∙ c.if-is_flat.false)), sym (if_false _ _ (sym c.is_flat.ensures ∙ c.if-is_flat.false)), refl)
