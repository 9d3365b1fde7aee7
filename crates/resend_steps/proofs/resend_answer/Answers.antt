-- `resend_steps::resend_answer` meets its contract. Assumes nothing.
use Rattle.send_keys.specs.Answer.{is_done}
use Rattle.resend_steps.specs.Answer.{cleared, refused, answer-unready, answer-unkept, answer-tested}
use Rattle.resend.specs.Tests.{passed_after, kept-few, fitting}
use Rattle.resend.specs.declared.Passed.{Passed}
use Rattle.flight_words.specs.Words.{saved-at, flight_of}
use Rattle.send_words.specs.Words.{state_of}
use Rattle.queue.specs.Queue.{ready}
use mathlib.Core.Path.{◌≡◌, refl, sym, ap, ◌∙◌}
use mathlib.Core.List.{List, []}
use Rattle.std.specs.Prelude.{ℕ, get_or}
use Rattle.flight.specs.Flight.{counted, is_kept}
use Rattle.std.proofs.lemmas.Result.{err_from_is_err_and}
use Rattle.resend_steps.proofs.resend_answer.Goals as goal

-- only the count of the records matters
kept-same : (f n : List ℕ) (mtu room : ℕ) → is_kept (counted (get_or f saved-at 0)) mtu room ≡ is_kept (flight_of f n) mtu room
unfolding is_kept
kept-same f n mtu room = refl

pub returns-then-not-is_ready : goal.returns-then-not-is_ready
returns-then-not-is_ready c n = answer-unready (state_of c.args.w.now) (flight_of c.args.f.now n) c.args.room c.args.kept (sym c.is_ready.ensures ∙ c.if-not-is_ready.true)

pub has_room-requires : goal.has_room-requires
has_room-requires c = (ready (sym c.is_ready.ensures ∙ c.if-not-is_ready.false)).range.high

pub returns-then-not-has_room : goal.returns-then-not-has_room
returns-then-not-has_room c n = answer-unkept (state_of c.args.w.now) (flight_of c.args.f.now n) c.args.room c.args.kept (sym c.is_ready.ensures ∙ c.if-not-is_ready.false) (sym (c.has_room.ensures ∙ kept-same c.args.f.now n _ _) ∙ c.if-not-has_room.true)

pub all_passed-requires : goal.all_passed-requires
all_passed-requires c = kept-few _ _ _ (sym (c.has_room.ensures ∙ kept-same c.args.f.now [] _ _) ∙ c.if-not-has_room.false)

pub fit_answer-requires : goal.fit_answer-requires
unfolding passed_after
fit_answer-requires c = ((ready (sym c.is_ready.ensures ∙ c.if-not-is_ready.false)).range, kept-few _ _ _ (sym (c.has_room.ensures ∙ kept-same c.args.f.now [] _ _) ∙ c.if-not-has_room.false), λ n. fitting _ _ _ (ap (λ (x : Passed). x.allowed) (sym (c.all_passed.ensures n)) ∙ (cleared c.all_passed.result (ap is_done (sym c.refused_by.ensures ∙ c.in_ok-refused_by.was))).allowed))

pub returns-in_err-refused_by : goal.returns-in_err-refused_by
returns-in_err-refused_by c n =
    let p = err_from_is_err_and c.from_residual.result c.from_residual.ensures.1 in
    let e = sym c.refused_by.ensures ∙ c.in_err-refused_by.was in
    rw (p.1, p.2) (sym e ∙ refused c.all_passed.result _ (ap is_done e) ∙ answer-tested (state_of c.args.w.now) (flight_of c.args.f.now n) c.args.room c.args.kept (sym c.is_ready.ensures ∙ c.if-not-is_ready.false) (sym (c.has_room.ensures ∙ kept-same c.args.f.now n _ _) ∙ c.if-not-has_room.false) _ (c.all_passed.ensures n))

pub returns : goal.returns
returns c n = c.fit_answer.ensures n ∙ sym ((cleared c.all_passed.result (ap is_done (sym c.refused_by.ensures ∙ c.in_ok-refused_by.was))).same _) ∙ answer-tested (state_of c.args.w.now) (flight_of c.args.f.now n) c.args.room c.args.kept (sym c.is_ready.ensures ∙ c.if-not-is_ready.false) (sym (c.has_room.ensures ∙ kept-same c.args.f.now n _ _) ∙ c.if-not-has_room.false) _ (c.all_passed.ensures n)
