-- `send_steps::is_ready` meets its contract. Assumes nothing.
use Prim.Native.Nat.{◌*◌, ◌≤◌}
use mathlib.Core.Path.{sym, ◌∙◌}
use native.Mathlib.Nat.{mul-le-mul}
use native.Mathlib.Omega.{arith}
use Rattle.base.specs.Choose.{both_true, both_false}
use Rattle.queue.specs.Queue.{is_ready, in-range}
use Rattle.send_words.specs.Words.{queue_of}
use Rattle.send_steps.proofs.is_ready.Goals as goal

pub overflow_mul-result : goal.overflow_mul-result
overflow_mul-result c = let q = queue_of c.args.w.now in let r = in-range (sym c.is_sound.ensures ∙ c.if-is_sound.true) in let m : q.limit * q.mtu ≤ 16 * 1500 = mul-le-mul r.limit r.high in omega arith

pub returns-then-is_sound : goal.returns-then-is_sound
unfolding is_ready
returns-then-is_sound c = sym (both_true (sym c.is_sound.ensures ∙ c.if-is_sound.true))

pub returns : goal.returns
unfolding is_ready
returns c = sym (both_false _ (sym c.is_sound.ensures ∙ c.if-is_sound.false))
