-- The calls that read, which note what they read, and the call that deals with it, here and over C: r answered; words w, waiting reading and close x,
-- flight f with numbers n before, and v, y, g, m behind; d the datagram. Assumes nothing.
use Rattle.std.specs.Prelude.{Bool, List, ◌≡◌, ℕ, leb, eqb, get_or}
use Rattle.base.specs.Choose.{choose, both}
use Rattle.process_ack.specs.Ack.{acked}
use Rattle.process_ack.specs.Status.{newly_marked}
use Rattle.flight_words.specs.Words.{saved-at, flight_of, flat_to}
use Rattle.recv_words.specs.Words.{is_flat}
use Rattle.recv_key_steps.specs.Kept.{state_of}
use Rattle.recv_calls.specs.Calls as receive
use Rattle.recv_calls.specs.declared.HuskReading.{HuskReading}
use Rattle.ack_calls.specs.Calls.{acked_told}
use Rattle.ack_calls.specs.declared.HuskAcked.{HuskAcked}
use Rattle.classify.specs.declared.Class.{Class}
use Rattle.classify.specs.declared.Class.TheVariants as class
use Rattle.classify.specs.Classify.{start_of, length_of, plaintext-kind, opened-kind, fresh, cleared, waiting, content_of, classified, words_after, state_after, acts_on}
use Rattle.classify_calls.specs.declared.HuskClass.{HuskClass}

-- ---- what a reading as it is told leaves: the same as `noted` says of the reading (Laws, noted-flat)

unfoldable pub noted_by : HuskReading → List ℕ → List ℕ
noted_by r w =
    choose (eqb r.kind 0) w
    (choose (both (leb plaintext-kind r.kind) (leb r.kind opened-kind))
    (waiting r.kind r.content_type r.epoch r.number r.start r.length w)
    (cleared w))

-- ---- the class that is told

-- marks 0 or 1, and at most twelve saved; else an ACK is refused by 12
abbrev pub in_range : List ℕ → Bool
in_range f = both (flat_to f 12) (leb (get_or f saved-at 0) 12)

-- an ACK over a flight out of its range is refused by 12
unfoldable pub heeded : Class → Bool → Class
heeded k ok = choose (acts_on k) (choose ok k class.Setting) k

unfoldable pub class_in : List ℕ → List ℕ → List ℕ → List ℕ → List ℕ → Class
class_in w x f n d = choose (is_flat w) (heeded (classified x (state_of w) d) (in_range f)) class.Setting

-- a kind that has only a refusal, or 0
abbrev pub told : ℕ → ℕ → HuskClass
told k r = record { kind = k; refusal = r; description = 0; marked = 0; unacknowledged = 0; saved = 0; start = 0; length = 0 }

-- a reading, its description where it is an alert, and where its content is
abbrev pub shown : ℕ → ℕ → List ℕ → HuskClass
shown k a x = record {
  kind = k;
  refusal = 0;
  description = a;
  marked = 0;
  unacknowledged = 0;
  saved = 0;
  start = start_of x;
  length = length_of x;
}

-- an ACK, and what it did
abbrev pub acted_on : List ℕ → HuskAcked → HuskClass
acted_on x a = record {
  kind = 5;
  refusal = 0;
  description = 0;
  marked = a.marked;
  unacknowledged = a.unacknowledged;
  saved = a.saved;
  start = start_of x;
  length = length_of x;
}

abbrev pub flat_class : Class → List ℕ → HuskAcked → HuskClass
flat_class class.Setting x a = told 0 12
flat_class class.Reply x a = told 0 15
flat_class class.Nothing x a = told 1 0
flat_class class.Beyond x a = shown 2 0 x
flat_class class.Unprotected x a = shown 3 0 x
flat_class class.Ignored x a = shown 4 0 x
flat_class class.Ack x a = acted_on x a
flat_class class.Close x a = shown 6 0 x
flat_class (class.Alert e) x a = shown 7 e x
flat_class class.Handshake x a = shown 8 0 x
flat_class class.ApplicationData x a = shown 9 0 x
flat_class class.Other x a = shown 10 0 x
flat_class class.Unopened x a = shown 11 0 x

-- ---- the contracts of the calls

abbrev pub FreshCall : ℕ → List ℕ → List ℕ → ℕ → Type 0
FreshCall r v y min = receive.FreshCall r v min × (y ≡ fresh)

abbrev pub BeginCall : ℕ → List ℕ → List ℕ → List ℕ → List ℕ → ℕ → Type 0
BeginCall r v w y x n = receive.BeginCall r v w n × (y ≡ choose (eqb r 0) (cleared x) x)

abbrev pub ReadCall : HuskReading → List ℕ → List ℕ → List ℕ → List ℕ → List ℕ → Type 0
ReadCall r v w y x d = receive.ReadCall r v w d × (y ≡ noted_by r x)

abbrev pub BeginReadCall : HuskReading → List ℕ → List ℕ → List ℕ → List ℕ → List ℕ → Type 0
BeginReadCall r v w y x d = receive.BeginReadCall r v w d × (y ≡ noted_by r x)

-- o whether the record was opened, of so many bytes
abbrev pub OpenedCall : HuskReading → List ℕ → List ℕ → List ℕ → List ℕ → ℕ → ℕ → List ℕ → Type 0
OpenedCall r v w y x o len d = receive.OpenedCall r v w o len d × (y ≡ noted_by r x)

-- a reading of class k dealt with
abbrev pub Dealt : HuskClass → List ℕ → List ℕ → List ℕ → List ℕ → List ℕ → List ℕ → List ℕ → List ℕ → List ℕ → Class → Type 0
Dealt r v w y x g f m n d k =
    (r ≡ flat_class k x (acked_told (acked (flight_of f n) (content_of x d)) (newly_marked (flight_of f n) (content_of x d))))
    × (state_of v ≡ state_after k (state_of w)) × (is_flat v ≡ is_flat w)
    × (y ≡ words_after k x)
    × (flight_of g m ≡ choose (acts_on k) (acked (flight_of f n) (content_of x d)).flight (flight_of f n)) × (flat_to g 12 ≡ flat_to f 12)

abbrev pub ClassifyCall : HuskClass → List ℕ → List ℕ → List ℕ → List ℕ → List ℕ → List ℕ → List ℕ → List ℕ → List ℕ → Type 0
ClassifyCall r v w y x g f m n d = Dealt r v w y x g f m n d (class_in w x f n d)
