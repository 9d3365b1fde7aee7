-- One record of a flight sent again after the other: each that is not marked is sent, and what that leaves. Assumes nothing.
use Rattle.std.specs.Prelude.{true, ◌≡◌}
use mathlib.Core.List.{List}
use Prim.Native.Nat.{ℕ, ◌+◌, ◌*◌, ◌≤◌}
use Rattle.std.proofs.Math.ListN.{length}
use Rattle.base.specs.Parts.{part}
use Rattle.queue.specs.Queue.{tail_of, Ready}
use Rattle.send_keys.specs.Keys.{is_usable, is_keyed, next_of}
use Rattle.outgoing.specs.declared.Sending.{Sending}
use Rattle.outgoing.specs.Send.{laid_state, laid_memory}
use Rattle.flight.specs.declared.Flight.{Flight}
use Rattle.flight.specs.Flight.{entry_at}
use Rattle.resend.specs.Tests.{tail_after, count_after, closed_state}
use Rattle.resend.specs.Resend.{renewed, Laying, content_at, again_after}

-- ---- one record

-- the i-th saved record laid under its epoch's next number, that number noted as its present one
abbrev pub laid_again : List ℕ → ℕ → Laying → Laying
laid_again kept i l = record {
  state = laid_state l.state (entry_at l.flight i).epoch (length (content_at kept i l));
  flight = renewed l.flight i (next_of l.state.keys (entry_at l.flight i).epoch);
  queue = laid_memory l.state (entry_at l.flight i).epoch (entry_at l.flight i).content_type (content_at kept i l) l.queue;
}

-- ---- the first n records

-- a flight, about to be sent again
abbrev pub beginning : Sending → Flight → List ℕ → Laying
beginning s f q = record { state = closed_state s; flight = f; queue = q }

-- with its first n records sent again
abbrev pub reached : Sending → Flight → List ℕ → List ℕ → ℕ → Laying
reached s f kept q n = again_after kept (beginning s f q) n

-- the content that the flight keeps of the i-th record
abbrev pub kept_content : ℕ → Flight → List ℕ → ℕ → List ℕ
kept_content mtu f kept i = part (i * mtu) (entry_at f i).length kept

-- the number under which the i-th record is sent again
abbrev pub number_again : Sending → Flight → ℕ → ℕ
number_again s f i = next_of s.keys (entry_at f i).epoch + count_after f (entry_at f i).epoch i

-- the tables as their types have them
pub record Tables (s : Sending) (f : Flight) : Type 0 where
  pub slots : length s.queue.lengths ≡ 16
  pub entries : length f.entries ≡ 12
  pub numbers : length f.numbers ≡ 384

pub record Reached (s : Sending) (f : Flight) (n : ℕ) (l : Laying) : Type 0 where
  pub ready : Ready l.state.queue (length l.queue)
  pub tables : Tables l.state l.flight
  pub mtu : l.state.queue.mtu ≡ s.queue.mtu
  pub limit : l.state.queue.limit ≡ s.queue.limit
  pub first : l.state.queue.first ≡ s.queue.first
  pub message : l.state.message_seq ≡ s.message_seq
  pub tail : tail_of l.state.queue ≡ tail_after s.queue.mtu (tail_of (closed_state s).queue) f n
  pub usable : (e : ℕ) → is_usable l.state.keys e ≡ is_usable s.keys e
  pub keyed : (e : ℕ) → is_keyed l.state.keys e ≡ is_keyed s.keys e
  pub handshake : l.state.keys.handshake.epoch ≡ s.keys.handshake.epoch
  pub application : l.state.keys.application.epoch ≡ s.keys.application.epoch
  pub next : (e : ℕ) → is_usable s.keys e ≡ true → next_of l.state.keys e ≡ next_of s.keys e + count_after f e n
  pub saved : l.flight.saved ≡ f.saved
  pub later : (i : ℕ) → n ≤ i → entry_at l.flight i ≡ entry_at f i
