-- A call of reassembly moves nothing but its own end's pieces, and no other call moves these. True by construction: it is not given the states that
-- send and receive, nor are their calls given its words, as the signatures of the calls show.
use Rattle.std.specs.Prelude.{◌≡◌, refl, List, ℕ}
use Rattle.waiting_laws.specs.Calls.{SendCall}
use Rattle.history_theorem.specs.Receiver.{Call}
use Rattle.assembly_theorem.specs.Claim.{PieceCall, Piecing}
use Rattle.ends_theorem.specs.World.{Side, post, gateway, End, sending, over, receiving, piecing, World, puts, acts, step}

-- an end as a call of reassembly leaves it: windows and questions, next numbers and queue, both accounts, and every log but its own
pub record Apart (e x : End) : Type 0 where
  pub mtu : x.mtu ≡ e.mtu
  pub limit : x.limit ≡ e.limit
  pub out : x.out ≡ e.out
  pub ledger : x.ledger ≡ e.ledger
  pub said : x.said ≡ e.said
  pub took : x.took ≡ e.took
  pub overs : x.overs ≡ e.overs
  pub given : x.given ≡ e.given
  pub cleared : x.cleared ≡ e.cleared
  pub into : x.into ≡ e.into
  pub counts : x.counts ≡ e.counts
  pub dealings : x.dealings ≡ e.dealings

still : (e : End) (p : Piecing) → Apart e (puts e p)
still e p = record {
  mtu = refl;
  limit = refl;
  out = refl;
  ledger = refl;
  said = refl;
  took = refl;
  overs = refl;
  given = refl;
  cleared = refl;
  into = refl;
  counts = refl;
  dealings = refl;
}

-- "they move no window and no number", at either end
pub piecing-moves-nothing : (w : World) (s t : Side) (c : PieceCall) → Apart (w t) (step w (record { side = s; deed = piecing c }) t)
piecing-moves-nothing w post post c = still (w post) _
piecing-moves-nothing w post gateway c = still (w gateway) (w gateway).pieces
piecing-moves-nothing w gateway post c = still (w post) (w post).pieces
piecing-moves-nothing w gateway gateway c = still (w gateway) _

-- and nothing else touches what is put together
pub sending-leaves-pieces : (f e : End) (c : SendCall) → (acts f e (sending c)).pieces ≡ e.pieces
sending-leaves-pieces f e c = refl

pub over-leaves-pieces : (f e : End) (c : SendCall) (q k : List ℕ) → (acts f e (over c q k)).pieces ≡ e.pieces
over-leaves-pieces f e c q k = refl

pub receiving-leaves-pieces : (f e : End) (c : Call) → (acts f e (receiving c)).pieces ≡ e.pieces
receiving-leaves-pieces f e c = refl
