-- A fresh state means an empty queue. Assumes nothing.
use Rattle.std.specs.Prelude.{true, List, [], ◌≡◌, refl, ℕ, ◌*◌, ◌≤◌, length}
use Rattle.std.proofs.Common.{inl, arith}
use Rattle.queue.specs.Queue.{is_setting}
use Rattle.send_keys.specs.Keys.{no_epoch, no_keys}
use Rattle.outgoing.specs.State.{fresh_sending}
use Rattle.outgoing.proofs.Laws.{fresh-range}
use Rattle.waiting_laws.specs.Queued.{Holds}

pub fresh_holds : (mtu limit : ℕ) (mem : List ℕ) → is_setting mtu limit ≡ true → limit * mtu ≤ length mem → Holds (fresh_sending mtu limit) mem []
unfolding fresh_sending no_keys no_epoch
fresh_holds mtu limit mem h l = record {
  range = fresh-range mtu limit h;
  room = l;
  table = refl;
  count = refl;
  rows = tt;
  order = tt;
  oldest = refl;
  keys = record { handshake = refl; application = refl; under = tt; unkeyed = λ z. refl; epoch = inl refl; small = omega arith };
}
