-- `reason_steps::explain` meets its contract: the front of the buffer is what is printed. Assumes nothing.
use mathlib.Core.Path.{sym, ◌∙◌}
use native.Mathlib.Omega.{arith}
use Rattle.reason_steps.specs.Room.{explained-none, explained-all, printed-short, front-put}
use Rattle.reason_steps.specs.Writing.{put-length}
use Rattle.reason_steps.proofs.explain.Goals as goal

pub returns-then-out-lt-LINES_ROOM : goal.returns-then-out-lt-LINES_ROOM
returns-then-out-lt-LINES_ROOM c = let a = c.args in c.front.ensures ∙ sym (explained-none a.input.now _ c.if-out-lt-LINES_ROOM.true)

pub front-requires-2 : goal.front-requires-2
front-requires-2 c = let a = c.args in
    let p = c.put_lines-n.ensures in
    omega (arith, p.ends, printed-short a.input.now, put-length p (omega (arith, printed-short a.input.now, c.if-out-lt-LINES_ROOM.false)), c.if-out-lt-LINES_ROOM.false)

pub returns : goal.returns
returns c = let a = c.args in
    c.front-2.ensures ∙ front-put a.input.now c.if-out-lt-LINES_ROOM.false c.put_lines-n.ensures ∙ sym (explained-all a.input.now _ c.if-out-lt-LINES_ROOM.false)
