-- A reading in range lies within its datagram. Laws of leaving the rest of a datagram: the ranges are kept, a question that waits stays, and where none
-- waits a read finds the end. Assumes nothing.
use Rattle.datagram.specs.Datagram.{moved}
use Rattle.datagram.specs.declared.Datagram.{Datagram}

-- ---- the rest of a datagram

-- the cut at the end, the readings as they were
abbrev pub at_end : Datagram → Datagram
at_end b = moved b b.size b.readings
