-- `messages::cut_next` meets its contract. Assumes nothing.
use Prim.Native.Nat.{◌+◌}
use mathlib.Core.Path.{ap}
use native.Mathlib.Omega.{arith}
use Rattle.messages.specs.Cut.{cut_next, size-mtu, size-rest}
use Rattle.queue.specs.Queue.{grown, placed}
use Rattle.queue.specs.declared.Place.{Place}
use Rattle.messages.proofs.cut_next.Goals as goal

pub piece_size-size-requires : goal.piece_size-size-requires
piece_size-size-requires c = (c.requires.0, c.requires.2, c.requires.3.used)

pub overflow_add-n : goal.overflow_add-n
overflow_add-n c = omega (arith, c.piece_size-size.ensures, size-mtu c.args.mtu c.args.over c.args.c.tail.used c.args.c.rest, c.requires.1, c.requires.2)

pub place_of-p-requires : goal.place_of-p-requires
place_of-p-requires c = (c.requires.3, omega (arith, c.piece_size-size.ensures, size-mtu c.args.mtu c.args.over c.args.c.tail.used c.args.c.rest, c.requires.1, c.requires.2))

pub overflow_add-result : goal.overflow_add-result
overflow_add-result c = let q = placed c.args.mtu c.args.c.tail (c.piece_size-size.result + c.args.over) (omega (arith, c.piece_size-size.ensures, size-mtu c.args.mtu c.args.over c.args.c.tail.used c.args.c.rest, c.requires.0, c.requires.2)) in omega (arith, q.0, ap (λ (x : Place). x.offset) c.place_of-p.ensures, c.requires.1)

pub overflow_add-result-2 : goal.overflow_add-result-2
overflow_add-result-2 c = let q = placed c.args.mtu c.args.c.tail (c.piece_size-size.result + c.args.over) (omega (arith, c.piece_size-size.ensures, size-mtu c.args.mtu c.args.over c.args.c.tail.used c.args.c.rest, c.requires.0, c.requires.2)) in omega (arith, q.1, ap (λ (x : Place). x.datagram) c.place_of-p.ensures, c.requires.4)

pub overflow_sub-result : goal.overflow_sub-result
overflow_sub-result c = omega (arith, c.piece_size-size.ensures, size-rest c.args.mtu c.args.over c.args.c.tail.used c.args.c.rest)

pub returns : goal.returns
unfolding cut_next grown
returns c = rw (c.place_of-p.ensures, c.piece_size-size.ensures)
