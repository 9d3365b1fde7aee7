-- The pieces of a handshake message laid one after the other, with no test, and why each of a message's sends is done. Assumes nothing.
use Rattle.std.proofs.Math.Bool.{true}
use Rattle.std.specs.Prelude.{List, [], ◌∷◌, ◌≡◌, ℕ, ◌+◌, ◌-◌, ◌*◌, ◌<◌, ◌≤◌, Ok}
use Rattle.std.proofs.Math.ListN.{length}
use Rattle.queue.specs.Queue.{start_of, InRange, Ready, Fits}
use Rattle.queue.specs.Laid.{record_len}
use Rattle.send_keys.specs.Keys.{is_keyed, next_of}
use Rattle.outgoing.specs.Send.{spot_of, laid_state, laid_memory}
use Rattle.flight.specs.Flight.{saved_with, saved_memory}
use Rattle.messages.specs.declared.Cut.{Cut}
use Rattle.messages.specs.Cut.{epoch_of, overhead, pieces, plan_reach}
use Rattle.messages.specs.Message.{content_of, Laid, piece_of, first_cut}

-- a piece of n bytes from an offset on: its record in the queue, its number used, its content saved
unfoldable pub lay_one : ℕ → List ℕ → ℕ → ℕ → Laid → Laid
lay_one kind body at n l = record {
  saved = record {
    answer = Ok tt;
    state = laid_state l.saved.state (epoch_of kind) (12 + n);
    flight = saved_with l.saved.flight 22 (epoch_of kind) (next_of l.saved.state.keys (epoch_of kind)) (12 + n);
  };
  queue = laid_memory l.saved.state (epoch_of kind) 22 (content_of kind l.saved.state.message_seq body at n) l.queue;
  kept = saved_memory l.saved.flight l.saved.state.queue.mtu (content_of kind l.saved.state.message_seq body at n) l.kept;
}

-- pieces of these sizes, one after the other from an offset on
unfoldable pub lay_all : ℕ → List ℕ → ℕ → List ℕ → Laid → Laid
lay_all kind body at [] l = l
lay_all kind body at (n ∷ ns) l = lay_all kind body (at + n) ns (lay_one kind body at n l)

-- each piece, sent behind those before it, is answered Done
abbrev pub EachDone : ℕ → List ℕ → ℕ → List ℕ → Laid → Type 0
EachDone kind body at [] l = Unit {0}
EachDone kind body at (n ∷ ns) l =
    ((piece_of kind body at n l.saved.state l.saved.flight l.queue l.kept).saved.answer ≡ Ok tt)
    × EachDone kind body (at + n) ns (piece_of kind body at n l.saved.state l.saved.flight l.queue l.kept)

-- one piece at its place
pub record Placed (kind : ℕ) (body : List ℕ) (at n : ℕ) (l : Laid) : Type 0 where
  pub range : InRange l.saved.state.queue
  pub slots : length l.saved.state.queue.lengths ≡ 16
  pub fits : Fits l.saved.state.queue (spot_of l.saved.state (epoch_of kind) (12 + n)) (record_len (epoch_of kind) (12 + n))
  pub inside : at + n ≤ length body
  pub long : length (content_of kind l.saved.state.message_seq body at n) ≡ 12 + n
  pub saved : l.saved.flight.saved < 12
  pub space : l.saved.flight.saved * l.saved.state.queue.mtu + length (content_of kind l.saved.state.message_seq body at n) ≤ length l.kept
  pub short : 12 + n ≤ l.saved.state.queue.mtu
  pub room : start_of l.saved.state.queue (spot_of l.saved.state (epoch_of kind) (12 + n)) + record_len (epoch_of kind) (12 + n) ≤ length l.queue

-- pieces of these sizes, each at its place behind those before it
abbrev pub AllPlaced : ℕ → List ℕ → ℕ → List ℕ → Laid → Type 0
AllPlaced kind body at [] l = Unit {0}
AllPlaced kind body at (n ∷ ns) l = Placed kind body at n l × AllPlaced kind body (at + n) ns (lay_one kind body at n l)

-- what is to be cut where an offset is reached
abbrev pub cut_at : List ℕ → ℕ → Laid → Cut
cut_at body at l = first_cut l.saved.state (length body - at)

-- the sizes of the pieces from there on
abbrev pub sizes_at : ℕ → ℕ → List ℕ → ℕ → Laid → List ℕ
sizes_at k kind body at l = pieces k l.saved.state.queue.mtu (overhead (epoch_of kind)) (cut_at body at l)

-- what the dry run found lets k pieces more be sent
pub record Able (k kind : ℕ) (body : List ℕ) (at : ℕ) (l : Laid) : Type 0 where
  pub ready : Ready l.saved.state.queue (length l.queue)
  pub slots : length l.saved.state.queue.lengths ≡ 16
  pub keyed : is_keyed l.saved.state.keys (epoch_of kind) ≡ true
  pub space : 12 * l.saved.state.queue.mtu ≤ length l.kept
  pub inside : at ≤ length body
  pub saved : l.saved.flight.saved + length (sizes_at k kind body at l) ≤ 12
  pub reach : plan_reach k l.saved.state.queue.mtu (overhead (epoch_of kind)) (cut_at body at l) ≤ l.saved.state.queue.limit
  pub number : next_of l.saved.state.keys (epoch_of kind) + length (sizes_at k kind body at l) ≤ 281474976710655
