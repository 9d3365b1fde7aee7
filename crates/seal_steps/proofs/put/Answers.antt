-- `seal_steps::put` meets its contract: a middle part of the queue is written, and nothing beside it. Assumes nothing.
use Prim.Native.Nat.{ℕ, ◌+◌, ◌-◌}
use borrow.Author.Tests.{eq-eqb, ne_eqb}
use borrow.Rule.Slice.PartMut.{put_mid}
use mathlib.Core.Path.{sym, ap, ◌∙◌}
use native.Mathlib.Omega.{arith}
use Rattle.base.specs.Choose.{if_true, if_false, both_true, both_false}
use Rattle.base.specs.Parts.{splice, lent}
use Rattle.sealing.specs.Sealing.{part_start, is_put, put_memory, asked-held, start_fits, part-fits}
use Rattle.send_words.specs.Words.{state_of}
use Rattle.seal_steps.proofs.put.Goals as goal

pub part_start-from-requires : goal.part_start-from-requires
part_start-from-requires c = (asked-held (sym c.is_asked.ensures ∙ c.if-is_asked.true)).0

pub overflow_add-to : goal.overflow_add-to
unfolding part_start
overflow_add-to c = let f = start_fits (asked-held (sym c.is_asked.ensures ∙ c.if-is_asked.true)).0 in omega (arith, c.part_start-from.ensures)

pub slice_bounds-copy_from_slice-end : goal.slice_bounds-copy_from_slice-end
slice_bounds-copy_from_slice-end c = let h = asked-held (sym c.is_asked.ensures ∙ c.if-is_asked.true) in let f = part-fits h.0 h.1 in omega (arith, c.part_start-from.ensures)

pub returns-then-bytes-n : goal.returns-then-bytes-n
unfolding is_put put_memory
returns-then-bytes-n c = let a = c.args in let p = c.part_start-from.result in let n = (state_of a.w.now).waiting.length in let m = a.memory.now in let v = a.bytes.now in let t = both_true (sym c.is_asked.ensures ∙ c.if-is_asked.true) ∙ eq-eqb _ _ c.if-bytes-n.true in (sym t, ap (put_mid p (p + n - p) m) c.copy_from_slice.ensures.after ∙ lent p (p + n) m v (omega (arith, c.if-bytes-n.true)) ∙ ap (λ (k : ℕ). splice k v m) c.part_start-from.ensures ∙ sym (if_true _ _ t))

pub returns-else-bytes-n : goal.returns-else-bytes-n
unfolding is_put put_memory
returns-else-bytes-n c = let t = both_true (sym c.is_asked.ensures ∙ c.if-is_asked.true) ∙ ne_eqb _ _ c.if-bytes-n.false in (sym t, sym (if_false _ _ t))

pub returns-else-is_asked : goal.returns-else-is_asked
unfolding is_put put_memory
returns-else-is_asked c = (sym (both_false _ (sym c.is_asked.ensures ∙ c.if-is_asked.false)), sym (if_false _ _ (both_false _ (sym c.is_asked.ensures ∙ c.if-is_asked.false))))
