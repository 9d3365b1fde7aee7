-- How many saved records an ACK marks: what it tells a host that resends. Assumes nothing.
use Rattle.std.specs.Prelude.{List, ℕ, ◌-◌, ltb}
use Rattle.base.specs.Choose.{choose}
use Rattle.flight.specs.declared.Flight.{Flight}
use Rattle.flight.specs.Status.{unacknowledged}
use Rattle.process_ack.specs.Ack.{is_formed, pairs_in, marks_after}

-- how many saved records an ACK marks that were not marked; those of a flight that it then empties count
unfoldable pub newly_marked : Flight → List ℕ → ℕ
newly_marked f d =
    choose (ltb 12 f.saved) 0 (choose (is_formed d) (unacknowledged f - unacknowledged (marks_after d (pairs_in d) f f.saved)) 0)
