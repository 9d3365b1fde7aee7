-- `message_steps::message_answer` meets its contract: 12, 12, 14, 17, 21, then what the dry run found. Assumes nothing.
use borrow.Author.Tests.{lt-ltb, le-ltb, le-leb, lt-leb}
use mathlib.Core.Path.{sym, ◌∙◌}
use Rattle.base.specs.Choose.{if_true, if_false}
use Rattle.flight.specs.Flight.{counted}
use Rattle.messages.specs.Message.{message_answer, kept-few}
use Rattle.queue.specs.Queue.{ready}
use Rattle.send_words.specs.Words.{state_of}
use Rattle.message_steps.proofs.message_answer.Goals as goal

pub returns-then-not-is_ready : goal.returns-then-not-is_ready
unfolding message_answer
returns-then-not-is_ready c = sym (if_false _ _ (sym c.is_ready.ensures ∙ c.if-not-is_ready.true))

pub has_room-requires : goal.has_room-requires
has_room-requires c = (ready (sym c.is_ready.ensures ∙ c.if-not-is_ready.false)).range.high

pub returns-then-not-has_room : goal.returns-then-not-has_room
unfolding message_answer
returns-then-not-has_room c = sym (if_true _ _ (sym c.is_ready.ensures ∙ c.if-not-is_ready.false) ∙ if_false _ _ (sym c.has_room.ensures ∙ c.if-not-has_room.true))

pub returns-then-n-gt-MAX_BODY : goal.returns-then-n-gt-MAX_BODY
unfolding message_answer
returns-then-n-gt-MAX_BODY c = sym (if_true _ _ (sym c.is_ready.ensures ∙ c.if-not-is_ready.false) ∙ if_true _ _ (sym c.has_room.ensures ∙ c.if-not-has_room.false) ∙ if_true _ _ (lt-ltb _ _ c.if-n-gt-MAX_BODY.true))

pub returns-then-not-is_keyed : goal.returns-then-not-is_keyed
unfolding message_answer
returns-then-not-is_keyed c = sym (if_true _ _ (sym c.is_ready.ensures ∙ c.if-not-is_ready.false) ∙ if_true _ _ (sym c.has_room.ensures ∙ c.if-not-has_room.false) ∙ if_false _ _ (le-ltb _ _ c.if-n-gt-MAX_BODY.false) ∙ if_false _ _ (rw c.epoch_of-epoch.ensures at (sym c.is_keyed.ensures ∙ c.if-not-is_keyed.true)))

pub returns-then-w-ge65535 : goal.returns-then-w-ge65535
unfolding message_answer
returns-then-w-ge65535 c = sym (if_true _ _ (sym c.is_ready.ensures ∙ c.if-not-is_ready.false) ∙ if_true _ _ (sym c.has_room.ensures ∙ c.if-not-has_room.false) ∙ if_false _ _ (le-ltb _ _ c.if-n-gt-MAX_BODY.false) ∙ if_true _ _ (rw c.epoch_of-epoch.ensures at (sym c.is_keyed.ensures ∙ c.if-not-is_keyed.false)) ∙ if_true _ _ (le-leb _ _ c.if-w-ge65535.true))

pub plan_of-plan-requires : goal.plan_of-plan-requires
plan_of-plan-requires c = (ready (sym c.is_ready.ensures ∙ c.if-not-is_ready.false)).range

pub plan_answer-requires : goal.plan_answer-requires
plan_answer-requires c = let a = c.args in
    (kept-few (counted a.saved) (state_of a.w.now).queue.mtu a.kept (sym c.has_room.ensures ∙ c.if-not-has_room.false), c.plan_of-plan.ensures.2)

pub returns : goal.returns
unfolding message_answer
returns c = c.plan_answer.ensures
    ∙ rw (c.next_of-next.ensures, c.plan_of-plan.ensures.0, c.plan_of-plan.ensures.1, c.epoch_of-epoch.ensures)
    (sym (if_true _ _ (sym c.is_ready.ensures ∙ c.if-not-is_ready.false)
    ∙ if_true _ _ (sym c.has_room.ensures ∙ c.if-not-has_room.false)
    ∙ if_false _ _ (le-ltb _ _ c.if-n-gt-MAX_BODY.false)
    ∙ if_true _ _ (rw c.epoch_of-epoch.ensures at (sym c.is_keyed.ensures ∙ c.if-not-is_keyed.false))
    ∙ if_false _ _ (lt-leb _ _ c.if-w-ge65535.false)))
