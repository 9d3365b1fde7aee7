-- What dealing with the reading that waits does, twice: by the definitions that the contract of the call cites (crate classify_calls, Dealt), and by what
-- the account owes. So the program marks the flight exactly where an ACK is owed, and leaves the rest of the datagram exactly where an alert is.
use Rattle.std.specs.Prelude.{ℕ, length, List, ◌≡◌}
use Rattle.std.proofs.Math.Option.{some}
use Rattle.base.specs.Choose.{choose}
use Rattle.process_ack.specs.Ack.{acked}
use Rattle.waiting_laws.specs.Calls.{ack·}
use Rattle.history_theorem.specs.Account as history
use Rattle.history_theorem.specs.Account.{nothing}
use Rattle.history_theorem.specs.Receiver.{Receiver, goes_to}
use Rattle.classify.specs.Classify.{words_after, state_after, acts_on}
use Rattle.classify_theorem.specs.Account.{Pending, Verdict, turned, noneWaits, beyond, unprotected, ignored, marks, closes, tells, handshake, application_data, other, unopened, Reply, owed as reading_owed}
use Rattle.ends_theorem.specs.Ledger.{Ledger, after}
use Rattle.ends_theorem.specs.World.{End, dealing, acts, class_of, content_in}

-- an alert that is told ends the datagram: the cut stands at its end. Nothing else moves the cut
abbrev pub rest_owed : Verdict → Receiver → history.Account
rest_owed (tells x) y = goes_to y.account (length y.arrived) y.account.readings
rest_owed (turned n) y = y.account
rest_owed noneWaits y = y.account
rest_owed beyond y = y.account
rest_owed unprotected y = y.account
rest_owed ignored y = y.account
rest_owed marks y = y.account
rest_owed closes y = y.account
rest_owed handshake y = y.account
rest_owed application_data y = y.account
rest_owed other y = y.account
rest_owed unopened y = y.account

-- an ACK marks as the call for it does. Nothing else does
abbrev pub marks_by : Verdict → List ℕ → Ledger → Ledger
marks_by marks c l = after l (ack· c)
marks_by (turned n) c l = l
marks_by noneWaits c l = l
marks_by beyond c l = l
marks_by unprotected c l = l
marks_by ignored c l = l
marks_by closes c l = l
marks_by (tells x) c l = l
marks_by handshake c l = l
marks_by application_data c l = l
marks_by other c l = l
marks_by unopened c l = l

abbrev pub marks_owed : Reply → Ledger → Ledger
marks_owed r l = marks_by r.verdict r.content l

abbrev pub owes : End → Reply
owes e = reading_owed e.dealings.account e.into.into.account.encryption

-- nothing else of the receiving side moves: epochs, IVs, windows, flags, the least length of a protected part, and the datagram's length and bytes
pub record Stays (e x : End) : Type 0 where
  pub keys : x.into.into.state.keys ≡ e.into.into.state.keys
  pub size : x.into.into.state.datagram.size ≡ e.into.into.state.datagram.size
  pub bytes : x.into.into.datagram ≡ e.into.into.datagram

-- of the next call, whenever it comes: every beginning of a list of calls is one
pub record Deals (f e : End) : Type 0 where
  -- by the contract
  pub words : (acts f e dealing).dealings.words ≡ words_after (class_of e) e.dealings.words
  pub state : (acts f e dealing).into.into.state ≡ state_after (class_of e) e.into.into.state
  pub flight : (acts f e dealing).out.stores.flight
      ≡ choose (acts_on (class_of e)) (acked e.out.stores.flight (content_in e)).flight e.out.stores.flight
  -- by what is owed
  pub rest : (acts f e dealing).into.into.account ≡ rest_owed (owes e).verdict e.into.into
  pub ledger : (acts f e dealing).ledger ≡ marks_owed (owes e) e.ledger
  pub stays : Stays e (acts f e dealing)
  -- no question waits beside a reading
  pub idle : (x : Pending) → e.dealings.account.pending ≡ some x → e.into.into.account.waits ≡ nothing
