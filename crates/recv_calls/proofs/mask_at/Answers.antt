-- `recv_calls::mask_at` meets its contract. Assumes nothing.
use native.Mathlib.Omega.{arith}
use Rattle.mask_reply.specs.Mask.{masked_at}
use Rattle.recv_keys.specs.Laws.{window-at}
use Rattle.recv_calls.specs.Replies.{mask-ready, mask-held, mask_fits}
use Rattle.recv_calls.proofs.mask_at.Goals as goal

pub window_at-v-requires : goal.window_at-v-requires
window_at-v-requires c = omega (arith, (mask-ready c.requires.0).keys.count, c.requires.1)

pub number_at-number-requires : goal.number_at-number-requires
number_at-number-requires c = let r = mask-ready c.requires.0 in let h = mask-held c.requires.0 in (rw c.window_at-v.ensures (window-at _ _ _ r.keys.windows c.requires.1), omega (arith, h.two, h.head, h.tag, h.fits, r.at, c.requires.2), omega (arith, r.at, r.size))

pub judge-requires : goal.judge-requires
judge-requires c = (omega (arith, (mask-ready c.requires.0).keys.count, c.requires.1), c.requires.0.flat, mask_fits c.requires.0)

pub returns : goal.returns
unfolding masked_at
returns c = (rw (c.number_at-number.ensures.0, c.window_at-v.ensures) at c.judge.ensures, c.number_at-number.ensures.1)
