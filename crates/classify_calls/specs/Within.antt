-- Whatever stands in the words, the content that is told of a reading lies within the datagram that was lent. Assumes nothing.
use Rattle.std.specs.Prelude.{Bool, List, ℕ, ◌+◌, ◌≤◌, length}
use Rattle.std.proofs.Common.{sym, subst, arith}
use borrow.Author.Tests.{eqb-true}
use Rattle.base.specs.Choose.{by_test, both_right}
use Rattle.process_ack.specs.Ack.{acked}
use Rattle.process_ack.specs.Status.{newly_marked}
use Rattle.flight_words.specs.Words.{flight_of}
use Rattle.recv_key_steps.specs.Kept.{state_of}
use Rattle.receiving.specs.declared.Receiving.{Receiving}
use Rattle.ack_calls.specs.Calls.{acked_told}
use Rattle.ack_calls.specs.declared.HuskAcked.{HuskAcked}
use Rattle.classify.specs.declared.Class.{Class}
use Rattle.classify.specs.declared.Class.TheVariants as class
use Rattle.classify.specs.Classify.{start_of, length_of, class_of, content_of, classified}
use Rattle.classify.proofs.Laws.{waits-inside}
use Rattle.classify_calls.specs.Calls.{in_range, heeded, class_in, flat_class, ClassifyCall}
use Rattle.classify_calls.specs.declared.HuskClass.{HuskClass}

abbrev pub Inside : List ℕ → HuskClass → Type 0
Inside d r = r.start + r.length ≤ length d

-- ---- what is told, by the class

module _ (x d : List ℕ) where
  -- of a class that is told with a place the reading lies in the datagram
  abbrev Placed : Class → Type 0
  Placed k = (a : HuskAcked) → Inside d (flat_class k x a)

  placed : start_of x + length_of x ≤ length d → (k : Class) → Placed k
  placed h class.Setting a = omega arith
  placed h class.Reply a = omega arith
  placed h class.Nothing a = omega arith
  placed h class.Beyond a = h
  placed h class.Unprotected a = h
  placed h class.Ignored a = h
  placed h class.Ack a = h
  placed h class.Close a = h
  placed h (class.Alert e) a = h
  placed h class.Handshake a = h
  placed h class.ApplicationData a = h
  placed h class.Other a = h
  placed h class.Unopened a = h

  classified-placed : (s : Receiving) → Placed (classified x s d)
  unfolding classified
  classified-placed s =
      by_test Placed
      (λ t. by_test Placed
      (λ u. by_test Placed (λ v a. omega arith)
      (λ v. placed (omega (arith, waits-inside s.datagram.size x (both_right _ _ t) v, eqb-true (length d) s.datagram.size u)) (class_of x s.keys.peer_encryption (content_of x d))))
      (λ u a. omega arith))
      (λ t a. omega arith)

  heeded-placed : (k : Class) (ok : Bool) → Placed k → Placed (heeded k ok)
  unfolding heeded
  heeded-placed k ok h = by_test Placed (λ t. by_test Placed (λ u. h) (λ u a. omega arith)) (λ t. h)

-- r answered; w and x before, v and y behind; f and n the flight before, g and m behind, as in the contract
pub class_inside : (r : HuskClass) (v w y x g f m n d : List ℕ) → ClassifyCall r v w y x g f m n d → Inside d r
unfolding class_in
class_inside r v w y x g f m n d c =
    let k = classified x (state_of w) d in
    subst (Inside d) (sym c.0)
    (by_test (Placed x d) (λ t. heeded-placed x d k (in_range f) (classified-placed x d (state_of w))) (λ t a. omega arith)
    (acked_told (acked (flight_of f n) (content_of x d)) (newly_marked (flight_of f n) (content_of x d))))
