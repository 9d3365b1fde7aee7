-- `reason_steps::put_line` meets its contract: its parts are put one behind the other. Assumes nothing.
use mathlib.Core.List.{List}
use native.Mathlib.Omega.{arith}
use lib.ListN.{length}
use Prim.Native.Nat.{ℕ, ◌+◌, ◌≤◌}
use Rattle.decimal.specs.Decimal.{decimal}
use Rattle.reasons.specs.Reasons.{line_of}
use Rattle.reason_steps.specs.Writing.{put_of, put_next, put_as, line_parts, room_index, room-first, room-number, room-second, room-name, room-end}
use Rattle.reason_steps.proofs.put_line.Goals as goal

-- a line begins in the buffer
start-in : (out : List ℕ) (at : ℕ) (line : List ℕ) → at + length line ≤ length out → at ≤ length out
start-in out at line l = omega arith

pub put_decimal-index-requires : goal.put_decimal-index-requires
put_decimal-index-requires c = let s = c in let a = s.args in room_index a.out.now a.at a.i a.t s.requires

pub put_byte-first-requires : goal.put_byte-first-requires
put_byte-first-requires c = let s = c in let a = s.args in let d = c.put_decimal-index.ensures in let l = start-in a.out.now a.at (line_of a.i a.t) s.requires in let p1 = put_of a.out.now a.at (decimal a.i) d.0 d.1 in room-first a.out.now a.at a.i a.t s.requires p1

pub put_number-number-requires : goal.put_number-number-requires
put_number-number-requires c = let s = c in let a = s.args in let d = c.put_decimal-index.ensures in let l = start-in a.out.now a.at (line_of a.i a.t) s.requires in let p1 = put_of a.out.now a.at (decimal a.i) d.0 d.1 in let p2 = put_next p1 l c.put_byte-first.ensures in room-number a.out.now a.at a.i a.t s.requires p2

pub put_byte-second-requires : goal.put_byte-second-requires
put_byte-second-requires c = let s = c in let a = s.args in let d = c.put_decimal-index.ensures in let l = start-in a.out.now a.at (line_of a.i a.t) s.requires in let p1 = put_of a.out.now a.at (decimal a.i) d.0 d.1 in let p2 = put_next p1 l c.put_byte-first.ensures in let p3 = put_next p2 l c.put_number-number.ensures in room-second a.out.now a.at a.i a.t s.requires p3

pub put_name-name-requires : goal.put_name-name-requires
put_name-name-requires c = let s = c in let a = s.args in let d = c.put_decimal-index.ensures in let l = start-in a.out.now a.at (line_of a.i a.t) s.requires in let p1 = put_of a.out.now a.at (decimal a.i) d.0 d.1 in let p2 = put_next p1 l c.put_byte-first.ensures in let p3 = put_next p2 l c.put_number-number.ensures in let p4 = put_next p3 l c.put_byte-second.ensures in room-name a.out.now a.at a.i a.t s.requires p4

pub put_byte-requires : goal.put_byte-requires
put_byte-requires c = let s = c in let a = s.args in let d = c.put_decimal-index.ensures in let l = start-in a.out.now a.at (line_of a.i a.t) s.requires in let p1 = put_of a.out.now a.at (decimal a.i) d.0 d.1 in let p2 = put_next p1 l c.put_byte-first.ensures in let p3 = put_next p2 l c.put_number-number.ensures in let p4 = put_next p3 l c.put_byte-second.ensures in let p5 = put_next p4 l c.put_name-name.ensures in room-end a.out.now a.at a.i a.t s.requires p5

pub returns : goal.returns
returns c = let s = c in let a = s.args in let d = c.put_decimal-index.ensures in let l = start-in a.out.now a.at (line_of a.i a.t) s.requires in let p1 = put_of a.out.now a.at (decimal a.i) d.0 d.1 in let p2 = put_next p1 l c.put_byte-first.ensures in let p3 = put_next p2 l c.put_number-number.ensures in let p4 = put_next p3 l c.put_byte-second.ensures in let p5 = put_next p4 l c.put_name-name.ensures in let p6 = put_next p5 l c.put_byte.ensures in put_as p6 (line_parts a.i a.t)
