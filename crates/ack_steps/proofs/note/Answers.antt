-- `ack_steps::note` meets its contract. Assumes nothing.
use mathlib.Core.Path.{sym, ◌∙◌}
use Rattle.base.specs.Choose.{if_true, if_false}
use borrow.Author.Tests.{lt-ltb, le-ltb}
use Rattle.acks.specs.Acks.{noted}
use Rattle.ack_steps.proofs.note.Goals as goal

pub returns-then-n-gt32 : goal.returns-then-n-gt32
unfolding noted
returns-then-n-gt32 c = sym (if_true _ _ (lt-ltb _ _ c.if-n-gt32.true))

pub returns-then-room : goal.returns-then-room
unfolding noted
returns-then-room c = sym (if_false _ _ (le-ltb _ _ c.if-n-gt32.false) ∙ if_true _ _ (lt-ltb _ _ c.if-room.true))

pub returns : goal.returns
unfolding noted
returns c = sym (if_false _ _ (le-ltb _ _ c.if-n-gt32.false) ∙ if_false _ _ (le-ltb _ _ c.if-room.false))
