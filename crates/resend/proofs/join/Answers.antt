-- `resend::join` meets its contract. Assumes nothing.
use mathlib.Core.Path.{sym, ap}
use Rattle.base.specs.Choose.{if_true, if_false}
use native.Mathlib.Omega.{arith}
use Rattle.resend.specs.Tests.{joined}
use Rattle.queue.specs.Queue.{grown, placed}
use Rattle.queue.specs.declared.Place.{Place}
use Rattle.resend.proofs.join.Goals as goal

pub returns-then-e : goal.returns-then-e
unfolding joined
returns-then-e c = sym (if_true _ _ c.if-e.true)

pub record_len-n-requires : goal.record_len-n-requires
record_len-n-requires c = c.requires.3.short c.if-e.false

pub place_of-p-requires : goal.place_of-p-requires
place_of-p-requires c = (c.requires.1, omega (arith, c.record_len-n.ensures, c.requires.3.fits c.if-e.false, c.requires.0))

pub overflow_add-result : goal.overflow_add-result
overflow_add-result c = let p = placed c.args.mtu c.args.t c.record_len-n.result (omega (arith, c.record_len-n.ensures, c.requires.3.fits c.if-e.false)) in omega (arith, p.0, ap (λ (x : Place). x.offset) c.place_of-p.ensures, c.requires.0)

pub overflow_add-result-2 : goal.overflow_add-result-2
overflow_add-result-2 c = let p = placed c.args.mtu c.args.t c.record_len-n.result (omega (arith, c.record_len-n.ensures, c.requires.3.fits c.if-e.false)) in omega (arith, p.1, ap (λ (x : Place). x.datagram) c.place_of-p.ensures, c.requires.2)

pub returns : goal.returns
unfolding joined grown
returns c = rw (c.place_of-p.ensures, c.record_len-n.ensures) (sym (if_false _ _ c.if-e.false))
