-- `take_steps::take` meets its contract. Assumes nothing.
use lib.ListN.{length}
use mathlib.Core.Path.{refl, sym, ap, ◌∙◌}
use native.Mathlib.Omega.{arith}
use Rattle.std.specs.Prelude.{Ok}
use Rattle.base.specs.Choose.{if_true}
use Rattle.send_words.specs.Words.{state_of}
use Rattle.taking.specs.Take.{TakeAnswer, is_taken, take_state, take_buffer, takes, front_fits}
use Rattle.taking.specs.Laws.{taken-size}
use Rattle.take_steps.specs.Front.{front-answer, front-starts}
use Rattle.take_steps.proofs.take.Goals as goal

pub copy_out-requires : goal.copy_out-requires
copy_out-requires c = let s = state_of c.args.w.now in let m = length c.args.memory.now in let b = length c.args.buffer.now in let r = sym (c.in_ok-front.was ∙ ap Ok c.in-Some.is) ∙ c.take_front.ensures.0 in let p = front-answer s r in let t = takes s m b (ap is_taken p) in let f = front_fits t in let i = front-starts s r p in let n = taken-size s m b _ p in (omega (arith, f.0, i, n), omega (arith, t.fits, n), omega (arith, f.1, i, n), omega (arith, t.short, t.ready.range.high, n))

pub returns : goal.returns
unfolding take_buffer
returns c = let s = state_of c.args.w.now in let e = c.take_front.ensures in let m = length c.args.memory.now in let b = length c.args.buffer.now in let r = sym (c.in_ok-front.was ∙ ap Ok c.in-Some.is) ∙ e.0 in let p = front-answer s r in let i = front-starts s r p in let n = taken-size s m b _ p in (sym p, (e.1.0 ∙ ap (λ (a : TakeAnswer). (take_state a s).state) p, e.1.1), rw (i, n) at c.copy_out.ensures ∙ sym (if_true _ _ refl))
