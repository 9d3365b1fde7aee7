-- `reason_steps::Kept::in_slot` meets its contract: the window of the slot tells, and is marked if the number is taken. Assumes nothing.
use Rattle.std.proofs.Common.{sym, ap, ◌∙◌, arith}
use Rattle.std.proofs.lemmas.List.{get_or-map}
use Rattle.window.specs.declared.ReplayWindow.{ReplayWindow}
use Rattle.window.specs.Window.{unmarked}
use Rattle.reason_steps.specs.declared.Slot.{Slot}
use Rattle.reason_steps.specs.State.{judged_by}
use Rattle.reason_steps.specs.Kept.{window-is, slot-marked, slot-left}
use Rattle.reason_steps.proofs.Kept.in_slot.Goals as goal

pub returns-then-is_taken : goal.returns-then-is_taken
returns-then-is_taken c = let a = c.args in
    let k = a.self.now in
    let w = window-is k a.s (omega arith) in
    let e = get_or-map (λ (x : Slot). x.epoch) k.slots a.s (record { epoch = 0; window = unmarked }) 0 (omega arith) in
    let t = c.judge-told.ensures ∙ ap (λ (x : ReplayWindow). judged_by x a.r.now) (sym w) in
    slot-marked k a.s a.r.now _ (sym e) t (sym c.is_taken.ensures ∙ c.if-is_taken.true) (sym w) c.update.ensures

pub returns-else-is_taken : goal.returns-else-is_taken
returns-else-is_taken c = let a = c.args in
    let k = a.self.now in
    let w = window-is k a.s (omega arith) in
    let t = c.judge-told.ensures ∙ ap (λ (x : ReplayWindow). judged_by x a.r.now) (sym w) in
    slot-left k a.s a.r.now t (sym c.is_taken.ensures ∙ c.if-is_taken.false)
