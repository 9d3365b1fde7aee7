-- `reason_steps::put_lines` meets its contract. The loop's invariant: the lines of the records passed are put, and what is kept follows them.
-- Assumes nothing.
use Rattle.std.proofs.Common.{◌≡◌, ◌≤◌, length}
use Rattle.reasons.specs.Reasons.{records, lines_to}
use Rattle.reason_steps.specs.Room.{lines_room}
use Rattle.reason_steps.specs.Kept.{FollowsIn}
use Rattle.reason_steps.specs.Writing.{Put}
use Rattle.reason_steps.proofs.put_lines.Given as goal

abbrev pub invariant-loop-i : goal.invariant-loop-i
invariant-loop-i l = (l.n ≡ records l.input) × FollowsIn l.input l.i l.kept × Put l.initial.out 0 (lines_to l.input l.i) l.out l.at × (length l.out ≡ length l.initial.out) × (lines_room ≤ length l.initial.out)
