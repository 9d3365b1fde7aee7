-- `ack_calls::resend` meets its contract. Assumes nothing.
use mathlib.Core.Path.{refl, sym, ap, subst, ◌∙◌}
use native.Mathlib.Omega.{arith}
use Rattle.base.specs.Choose.{if_false, both_true, both_false}
use Rattle.queue.specs.Queue.{InRange}
use Rattle.send_keys.specs.Answer.{is_done}
use Rattle.outgoing.specs.declared.Sending.{Sending}
use Rattle.send_words.specs.Words.{state_of}
use Rattle.flight_words.specs.Words.{flight_of}
use Rattle.resend.specs.Resend.{again_after}
use Rattle.resend.specs.Tests.{resend_safe, kept-few, closed-range}
use Rattle.ack_calls.specs.Calls.{resends-all, resends-nothing, both_told}
use Rattle.std.specs.Prelude.{Ok, Err}
use Rattle.answers.specs.Told.{tells}
use Rattle.ack_calls.proofs.resend.Goals as goal

pub unmarked-n-requires : goal.unmarked-n-requires
unmarked-n-requires c = kept-few _ _ _ (resend_safe (state_of c.args.w.now) (flight_of c.args.f.now c.args.numbers.now) _ _ (ap is_done (sym (c.resend_answer.ensures c.args.numbers.now) ∙ c.in-Ok.is))).1

pub resend_all-requires : goal.resend_all-requires
resend_all-requires c = let k = resend_safe (state_of c.args.w.now) (flight_of c.args.f.now c.args.numbers.now) _ _ (ap is_done (sym (c.resend_answer.ensures c.args.numbers.now) ∙ c.in-Ok.is)) in (subst (λ (s : Sending). InRange s.queue) (sym c.close.ensures.0) (closed-range (state_of c.args.w.now) k.0.range), kept-few _ _ _ k.1)

pub overflow_cast-n : goal.overflow_cast-n
overflow_cast-n c = omega (arith, c.unmarked-n.ensures.1, kept-few _ _ _ (resend_safe (state_of c.args.w.now) (flight_of c.args.f.now c.args.numbers.now) _ _ (ap is_done (sym (c.resend_answer.ensures c.args.numbers.now) ∙ c.in-Ok.is))).1)

pub returns-in-Ok : goal.returns-in-Ok
returns-in-Ok c = let a = c.args in
    let x = c.close.ensures in
    let y = c.resend_all.ensures in
    let p = sym c.is_flat.ensures ∙ c.if-is_flat.true in
    let q = sym c.is_flat-then-is_flat.ensures ∙ c.if-is_flat-2.true in
    let l = y.0 ∙ ap (λ (s : Sending). again_after a.kept.now (record { state = s; flight = flight_of a.f.now a.numbers.now; queue = a.queue.now }) (flight_of a.f.now a.numbers.now).saved) x.0 in
    rw (sym (c.resend_answer.ensures a.numbers.now) ∙ c.in-Ok.is) (resends-all _ (Ok tt) a.w.now a.f.now a.numbers.now a.kept.now a.queue.now _ p q _ _ _ _ refl (c.told.ensures ∙ ap (tells 0) (c.unmarked-n.ensures.0 a.numbers.now)) (y.1 (x.1 p)) (y.2 q) l)

pub returns-in-Err : goal.returns-in-Err
returns-in-Err c = let a = c.args in
    let p = sym c.is_flat.ensures ∙ c.if-is_flat.true in
    let q = sym c.is_flat-then-is_flat.ensures ∙ c.if-is_flat-2.true in
    rw (sym (c.resend_answer.ensures a.numbers.now) ∙ c.in-Err.is) (resends-nothing _ (Err c.in-Err.e) a.w.now a.f.now a.numbers.now a.kept.now a.queue.now _ p q refl (c.told-in-Err.ensures ∙ both_told c.from.ensures refl))

pub returns-then-is_flat : goal.returns-then-is_flat
returns-then-is_flat c = let z = both_true (sym c.is_flat.ensures ∙ c.if-is_flat.true) ∙ (sym c.is_flat-then-is_flat.ensures ∙ c.if-is_flat-2.false) in
    ((c.told-then-is_flat.ensures ∙ sym (if_false _ _ z), sym (if_false _ _ z), refl, sym (if_false _ _ z), refl), sym (if_false _ _ z))

pub returns : goal.returns
returns c = let z = both_false _ (sym c.is_flat.ensures ∙ c.if-is_flat.false) in
    ((c.told-2.ensures ∙ sym (if_false _ _ z), sym (if_false _ _ z), refl, sym (if_false _ _ z), refl), sym (if_false _ _ z))
