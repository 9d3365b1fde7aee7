-- What dealing with a reading moves: an ACK the flight, an alert that is told the place in its datagram, and nothing else. Assumes nothing.
use Rattle.std.specs.Prelude.{ℕ, false, List, ◌≡◌, refl}
use Rattle.std.proofs.lemmas.Bool.{false≢true}
use Rattle.std.proofs.Common.{sym}
use Rattle.classify.specs.Classify.{tells_alert, acts_on}
use Rattle.classify.specs.declared.Class.{Class}
use Rattle.classify.specs.declared.Class.TheVariants as class
use Rattle.ends_theorem.specs.World.{End, dealing, follows, class_of, content_in, acts}

-- ---- what dealing moves

-- the sending side: queue, numbers, flight and account, and what it was answered
pub record SameOut (e x : End) : Type 0 where
  pub out : x.out ≡ e.out
  pub ledger : x.ledger ≡ e.ledger
  pub said : x.said ≡ e.said
  pub cleared : x.cleared ≡ e.cleared
  pub given : x.given ≡ e.given

same_out : (f e : End) (k : Class) (c : List ℕ) → acts_on k ≡ false → SameOut e (follows f e k c)
same_out f e class.Ack c z = absurd (false≢true (sym z))
same_out f e (class.Alert x) c z = record { out = refl; ledger = refl; said = refl; cleared = refl; given = refl }
same_out f e class.Setting c z = record { out = refl; ledger = refl; said = refl; cleared = refl; given = refl }
same_out f e class.Reply c z = record { out = refl; ledger = refl; said = refl; cleared = refl; given = refl }
same_out f e class.Nothing c z = record { out = refl; ledger = refl; said = refl; cleared = refl; given = refl }
same_out f e class.Beyond c z = record { out = refl; ledger = refl; said = refl; cleared = refl; given = refl }
same_out f e class.Unprotected c z = record { out = refl; ledger = refl; said = refl; cleared = refl; given = refl }
same_out f e class.Ignored c z = record { out = refl; ledger = refl; said = refl; cleared = refl; given = refl }
same_out f e class.Close c z = record { out = refl; ledger = refl; said = refl; cleared = refl; given = refl }
same_out f e class.Handshake c z = record { out = refl; ledger = refl; said = refl; cleared = refl; given = refl }
same_out f e class.ApplicationData c z = record { out = refl; ledger = refl; said = refl; cleared = refl; given = refl }
same_out f e class.Other c z = record { out = refl; ledger = refl; said = refl; cleared = refl; given = refl }
same_out f e class.Unopened c z = record { out = refl; ledger = refl; said = refl; cleared = refl; given = refl }

-- nothing is marked but by a sealed ACK (crate classify_theorem, Rules: only-sealed_acks)
pub only_acks_mark : (f e : End) → acts_on (class_of e) ≡ false → SameOut e (acts f e dealing)
only_acks_mark f e z =
    let o = same_out f e (class_of e) (content_in e) z in
    record { out = o.out; ledger = o.ledger; said = o.said; cleared = o.cleared; given = o.given }

same-into : (f e : End) (k : Class) (c : List ℕ) → tells_alert k ≡ false → (follows f e k c).into ≡ e.into
same-into f e class.Ack c z = refl
same-into f e (class.Alert x) c z = absurd (false≢true (sym z))
same-into f e class.Setting c z = refl
same-into f e class.Reply c z = refl
same-into f e class.Nothing c z = refl
same-into f e class.Beyond c z = refl
same-into f e class.Unprotected c z = refl
same-into f e class.Ignored c z = refl
same-into f e class.Close c z = refl
same-into f e class.Handshake c z = refl
same-into f e class.ApplicationData c z = refl
same-into f e class.Other c z = refl
same-into f e class.Unopened c z = refl

-- no datagram ends but by an alert that is told (Rules: only_alerts)
pub only_alerts_end : (f e : End) → tells_alert (class_of e) ≡ false → (acts f e dealing).into ≡ e.into
only_alerts_end f e z = same-into f e (class_of e) (content_in e) z
