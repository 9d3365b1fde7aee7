-- `seal_steps::mask_oldest` meets its contract: the mask goes onto the number bytes. Assumes nothing.
use lib.ListN.{length, length-take, length-drop}
use mathlib.Core.Path.{◌∙◌}
use native.Mathlib.Omega.{arith}
use Rattle.sealing.specs.Sealing.{part_start, part-fits, masked-laid}
use Rattle.send_words.specs.Words.{state_of}
use Rattle.seal_steps.proofs.mask_oldest.Goals as goal

pub overflow_sub-from : goal.overflow_sub-from
unfolding part_start
overflow_sub-from c = omega arith

pub overflow_cast-x : goal.overflow_cast-x
overflow_cast-x c = rw c.waiting_of-x.ensures (omega (arith, c.requires.0.inside, c.requires.0.range.high))

pub slice_bounds-copy_from_slice-end : goal.slice_bounds-copy_from_slice-end
unfolding part_start
slice_bounds-copy_from_slice-end c = let f = part-fits {s = state_of c.args.w.now} {room = length c.args.memory.now} c.requires.0 c.requires.1 in omega (arith, f, c.part_start-inner.ensures)

pub copy_from_slice-requires : goal.copy_from_slice-requires
unfolding part_start
copy_from_slice-requires c = let f = part-fits {s = state_of c.args.w.now} {room = length c.args.memory.now} c.requires.0 c.requires.1 in simp (length-take, length-drop) (omega (arith, f, c.part_start-inner.ensures))

pub settle-requires : goal.settle-requires
settle-requires c = rw c.waiting_of-x.ensures c.requires.0.number

pub returns : goal.returns
unfolding part_start
returns c = let a = c.args in (rw c.waiting_of-x.ensures at c.settle.ensures, masked-laid (state_of a.w.now) a.mask a.memory.now c.part_start-inner.ensures (c.copy_from_slice.ensures.after ∙ rw c.waiting_of-x.ensures at c.masked_header-header.ensures))
