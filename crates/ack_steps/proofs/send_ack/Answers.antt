-- `ack_steps::send_ack` meets its contract. Assumes nothing.
use Rattle.base.specs.Choose.{if_true, if_false}
use mathlib.Core.Path.{refl, sym, ◌∙◌}
use Rattle.std.proofs.lemmas.Result.{err_from_is_err_and}
use Rattle.acks.specs.Acks.{forgotten}
use Rattle.ack_steps.specs.Steps.{notes_of, too_many, not_ready, none-noted, some-noted}
use Rattle.ack_steps.proofs.send_ack.Goals as goal

pub returns-then-n-gt32 : goal.returns-then-n-gt32
returns-then-n-gt32 c = let a = c.args in let t = notes_of a.count.now a.epochs.now a.numbers.now in too_many a.w.now t a.queue.now c.if-n-gt32.true

pub returns-then-not-is_ready : goal.returns-then-not-is_ready
returns-then-not-is_ready c = let a = c.args in let t = notes_of a.count.now a.epochs.now a.numbers.now in not_ready a.w.now t a.queue.now c.if-n-gt32.false (sym c.is_ready.ensures ∙ c.if-not-is_ready.true)

pub returns-then-n-eq0 : goal.returns-then-n-eq0
returns-then-n-eq0 c = let a = c.args in let t = notes_of a.count.now a.epochs.now a.numbers.now in none-noted a.w.now t a.queue.now c.if-n-gt32.false (sym c.is_ready.ensures ∙ c.if-not-is_ready.false) c.if-n-eq0.true

pub returns-in_err-send_noted : goal.returns-in_err-send_noted
unfolding forgotten
returns-in_err-send_noted c = let a = c.args in let t = notes_of a.count.now a.epochs.now a.numbers.now in
    let p = err_from_is_err_and c.from_residual.result c.from_residual.ensures.1 in
    rw (p.1, p.2) (some-noted a.w.now t a.queue.now c.if-n-gt32.false (sym c.is_ready.ensures ∙ c.if-not-is_ready.false) _ _ _ _ c.if-n-eq0.false (rw c.in_err-send_noted.was at c.send_noted.ensures) (sym (if_false (forgotten t) t refl)))

pub returns : goal.returns
unfolding forgotten
returns c = let a = c.args in let t = notes_of a.count.now a.epochs.now a.numbers.now in
    some-noted a.w.now t a.queue.now c.if-n-gt32.false (sym c.is_ready.ensures ∙ c.if-not-is_ready.false) _ _ _ _ c.if-n-eq0.false (rw c.in_ok-send_noted.was at c.send_noted.ensures) (sym (if_true (forgotten t) t refl))
