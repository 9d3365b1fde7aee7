-- How many saved records an ACK has not named: what a host that resends asks. Assumes nothing.
use Rattle.std.specs.Prelude.{ℕ, zero, suc, ◌+◌, ◌≤◌, ◌≡◌}
use Rattle.std.proofs.Common.{add-one, arith}
use Rattle.base.specs.Choose.{choose, by_test}
use Rattle.flight.specs.declared.Flight.{Flight}
use Rattle.flight.specs.Flight.{entry_at}

-- of the first n saved records, how many are not acknowledged
unfoldable pub unmarked_after : Flight → ℕ → ℕ
unmarked_after f zero = 0
unmarked_after f (suc n) = unmarked_after f n + choose (entry_at f n).marked 0 1

-- how many saved records are not acknowledged
abbrev pub unacknowledged : Flight → ℕ
unacknowledged f = unmarked_after f f.saved

-- ---- laws

pub unmarked-next : (f : Flight) (n : ℕ) → unmarked_after f (n + 1) ≡ unmarked_after f n + choose (entry_at f n).marked 0 1
unfolding unmarked_after
unmarked-next f n = rw add-one

pub unmarked-few : (f : Flight) (n : ℕ) → unmarked_after f n ≤ n
unfolding unmarked_after
unmarked-few f zero = omega arith
unmarked-few f (suc n) =
    let h = unmarked-few f n in
    by_test (λ (k : ℕ). unmarked_after f n + k ≤ suc n) (λ m. omega arith) (λ m. omega arith)
