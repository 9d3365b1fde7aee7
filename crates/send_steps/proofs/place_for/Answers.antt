-- `send_steps::place_for` meets its contract: 19 before 20. Assumes nothing.
use borrow.Author.Tests.{le-leb, lt-leb}
use Rattle.send_steps.specs.Steps.{no-room, no-number, has-room}
use Rattle.send_steps.proofs.place_for.Goals as goal

pub returns-then-w-p : goal.returns-then-w-p
returns-then-w-p c = no-room _ _ _ _ (rw c.spot_of-p.ensures at (le-leb _ _ c.if-w-p.true))

pub returns-then-next_of-ge-LAST_NUMBER : goal.returns-then-next_of-ge-LAST_NUMBER
returns-then-next_of-ge-LAST_NUMBER c =
    no-number _ _ _ _ (rw c.spot_of-p.ensures at (lt-leb _ _ c.if-w-p.false)) (rw c.next_of.ensures at (le-leb _ _ c.if-next_of-ge-LAST_NUMBER.true))

pub returns : goal.returns
returns c =
    rw c.spot_of-p.ensures (has-room _ _ _ _ (rw c.spot_of-p.ensures at (lt-leb _ _ c.if-w-p.false)) (rw c.next_of.ensures at (lt-leb _ _ c.if-next_of-ge-LAST_NUMBER.false)))
