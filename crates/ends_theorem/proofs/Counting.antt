-- Records counted in the state and in the account: those saved and not acknowledged. Assumes nothing.
use Rattle.std.specs.Prelude.{ℕ, suc, ◌+◌, length, List, [], ◌∷◌, ◌≡◌, Bool}
use Rattle.std.proofs.Common.{ap, arith}
use Rattle.base.specs.Choose.{choose}
use Rattle.flight.specs.declared.Flight.{Flight}
use Rattle.flight.specs.Flight.{entry_at}
use Rattle.flight.specs.Status.{unmarked_after, unacknowledged}
use Rattle.ends_theorem.specs.Ledger.{Kept, unacked}
use Rattle.ends_theorem.proofs.Matches.{Entries, FlightIs}

-- from the i-th on
unmarked-is : (mtu : ℕ) (f : Flight) (kept : List ℕ) (i : ℕ) (ks : List Kept) → Entries mtu f kept i ks → unmarked_after f (i + length ks) ≡ unmarked_after f i + unacked ks
unfolding unmarked_after
unmarked-is mtu f kept i [] o = let z : i + 0 ≡ i = omega arith in omega (arith, ap (unmarked_after f) z)
unmarked-is mtu f kept i (k ∷ ks) o =
    let z : i + suc (length ks) ≡ suc i + length ks = omega arith in
    let one : ◌≡◌ {A = ℕ} (choose (entry_at f i).marked 0 1) (choose k.acked 0 1) = ap (λ (b : Bool). choose b 0 1) o.0.marked in
    omega (arith, ap (unmarked_after f) z, unmarked-is mtu f kept (suc i) ks o.1, one)

-- as many as the account has
pub unacked-is : {mtu : ℕ} {f : Flight} {kept : List ℕ} {ks : List Kept} → FlightIs mtu f kept ks → unacknowledged f ≡ unacked ks
unfolding unmarked_after
unacked-is {mtu} {f} {kept} {ks} o =
    let z : f.saved ≡ 0 + length ks = omega (arith, o.count) in
    omega (arith, ap (unmarked_after f) z, unmarked-is mtu f kept 0 ks o.each)
