-- `recv_calls::judge` meets its contract: 8, then by the window's verdict. Assumes nothing.
use mathlib.Core.Path.{sym, ◌∙◌}
use Rattle.recv_calls.specs.Replies.{judged-high, judged-seen, judged-old, judged-fresh}
use Rattle.recv_calls.proofs.judge.Goals as goal

pub returns-then-number-gt281474976710655 : goal.returns-then-number-gt281474976710655
returns-then-number-gt281474976710655 c = judged-high _ _ _ _ _ c.requires.0 c.requires.1 c.if-number-gt281474976710655.true c.leave.ensures

pub returns-in-Fresh : goal.returns-in-Fresh
returns-in-Fresh c = let start = c.requires in
    let verdict = sym (rw c.window_at-v.ensures at c.check.ensures) ∙ c.in-Fresh.is in
    judged-fresh _ _ _ _ _ start.0 start.1 c.if-number-gt281474976710655.false verdict c.ask.ensures

pub returns-in-Seen : goal.returns-in-Seen
returns-in-Seen c = let start = c.requires in
    let verdict = sym (rw c.window_at-v.ensures at c.check.ensures) ∙ c.in-Seen.is in
    judged-seen _ _ _ _ _ start.0 start.1 c.if-number-gt281474976710655.false verdict c.leave-in-Seen.ensures

pub returns-in-TooOld : goal.returns-in-TooOld
returns-in-TooOld c = let start = c.requires in
    let verdict = sym (rw c.window_at-v.ensures at c.check.ensures) ∙ c.in-TooOld.is in
    judged-old _ _ _ _ _ start.0 start.1 c.if-number-gt281474976710655.false verdict c.leave-in-TooOld.ensures
