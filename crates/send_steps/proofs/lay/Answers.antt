-- `send_steps::lay` meets its contract. Assumes nothing.
use native.Mathlib.Omega.{arith}
use Rattle.queue.specs.Queue.{start_of}
use Rattle.outgoing.specs.Send.{laid_memory}
use Rattle.outgoing.proofs.Send.{clear-short}
use Rattle.send_steps.specs.Steps.{lays, at_slot}
use Rattle.send_steps.proofs.lay.Goals as goal

pub slot_of-slot-requires : goal.slot_of-slot-requires
slot_of-slot-requires c = let r = c.requires.0 in (r.ready.range.first, rw c.requires.1 r.datagram, r.ready.range.limit)

pub overflow_mul-at : goal.overflow_mul-at
overflow_mul-at c = let t = at_slot c.requires.0 c.requires.1 c.slot_of-slot.ensures.0 in omega arith

pub overflow_add-at : goal.overflow_add-at
overflow_add-at c = let t = at_slot c.requires.0 c.requires.1 c.slot_of-slot.ensures.0 in omega arith

pub put_laid-requires : goal.put_laid-requires
put_laid-requires c = lays c.requires.0 c.requires.1 c.slot_of-slot.ensures.0 c.next_of-number.ensures

pub lay_record-requires : goal.lay_record-requires
lay_record-requires c = let t = at_slot c.requires.0 c.requires.1 c.slot_of-slot.ensures.0 in (omega arith, clear-short c.requires.0, omega arith)

pub returns : goal.returns
unfolding laid_memory start_of
returns c = (c.put_laid.ensures, rw (c.next_of-number.ensures, c.slot_of-slot.ensures.0, c.requires.1) at c.lay_record.ensures)
