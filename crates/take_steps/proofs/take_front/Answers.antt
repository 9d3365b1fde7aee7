-- `take_steps::take_front` meets its contract: only the front is written, and only where a datagram is taken. Assumes nothing.
use mathlib.Core.Path.{sym, ap, ◌∙◌}
use native.Mathlib.Omega.{arith}
use Rattle.std.specs.Prelude.{Ok}
use Rattle.send_words.specs.Words.{state_of}
use Rattle.taking.specs.Take.{is_taken, takes, front_fits}
use Rattle.take_steps.proofs.take_front.Goals as goal

pub overflow_mul-start : goal.overflow_mul-start
overflow_mul-start c = let p = sym c.take_answer.ensures ∙ c.in_ok-length.was ∙ ap Ok c.in-Some.is in let f = front_fits (takes (state_of c.args.w.now) c.args.room c.args.have (ap is_taken p)) in omega (arith, f.1)

pub advance-requires : goal.advance-requires
advance-requires c = let p = sym c.take_answer.ensures ∙ c.in_ok-length.was ∙ ap Ok c.in-Some.is in let t = takes (state_of c.args.w.now) c.args.room c.args.have (ap is_taken p) in (omega (arith, t.ready.range.first, t.ready.range.limit), t.some)
