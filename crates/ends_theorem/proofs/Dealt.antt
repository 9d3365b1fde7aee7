-- A reading dealt with in the claim's world is what the contract has, and what the account owes. Assumes nothing.
use Rattle.std.specs.Prelude.{ℕ, length, List, ◌≡◌, refl}
use Rattle.std.proofs.Math.Option.{Option, none, some}
use Rattle.std.proofs.Common.{sym, ap, subst, ◌∙◌}
use Rattle.base.specs.Choose.{choose}
use Rattle.process_ack.specs.Ack.{acked}
use Rattle.waiting_laws.specs.Calls.{Stores, ack·}
use Rattle.history_theorem.specs.Account.{Shown, nothing}
use Rattle.history_theorem.specs.Receiver.{leaves_rest}
use Rattle.history_theorem.proofs.Sound.{Sound}
use Rattle.classify.specs.Classify.{state_after, acts_on, left_at}
use Rattle.datagram.specs.declared.Datagram.{Datagram}
use Rattle.datagram.specs.declared.Question.{Question}
use Rattle.datagram.specs.declared.Question.TheVariants as question
use Rattle.classify.specs.declared.Class.{Class}
use Rattle.classify.specs.declared.Class.TheVariants as class
use Rattle.classify_theorem.specs.Account.{Pending, Verdict, turned, noneWaits, beyond, unprotected, ignored, marks, closes, tells, handshake, application_data, other, unopened, Reply, owed_by}
use Rattle.classify_theorem.specs.Claim.{reply_of}
use Rattle.classify_theorem.proofs.Dealing.{classify_reply}
use Rattle.classify_theorem.proofs.Hearing.{asks_nothing}
use Rattle.classify_theorem.proofs.Story.{Story}
use Rattle.ends_theorem.proofs.Every.{sends-stores}
use Rattle.ends_theorem.specs.Ledger.{sent_by}
use Rattle.ends_theorem.specs.World.{End, follows, class_of, content_in}
use Rattle.ends_theorem.specs.Deals.{rest_owed, marks_owed, owes, Stays, Deals}

state-by : (f e : End) (k : Class) (c : List ℕ) → (follows f e k c).into.into.state ≡ state_after k e.into.into.state
unfolding choose
state-by f e class.Setting c = refl
state-by f e class.Reply c = refl
state-by f e class.Nothing c = refl
state-by f e class.Beyond c = refl
state-by f e class.Unprotected c = refl
state-by f e class.Ignored c = refl
state-by f e class.Ack c = refl
state-by f e class.Close c = refl
state-by f e class.Handshake c = refl
state-by f e class.ApplicationData c = refl
state-by f e class.Other c = refl
state-by f e class.Unopened c = refl
state-by f e (class.Alert x) c = refl

left-size : (q : Question) (b : Datagram) → (left_at q b).size ≡ b.size
left-size question.Nothing b = refl
left-size (question.Mask a) b = refl
left-size (question.Opening a n) b = refl

stays_by : (f e : End) (k : Class) (c : List ℕ) → Stays e (follows f e k c)
stays_by f e (class.Alert x) c =
    record { keys = refl; size = left-size e.into.into.state.datagram.question e.into.into.state.datagram; bytes = refl }
stays_by f e class.Setting c = record { keys = refl; size = refl; bytes = refl }
stays_by f e class.Reply c = record { keys = refl; size = refl; bytes = refl }
stays_by f e class.Nothing c = record { keys = refl; size = refl; bytes = refl }
stays_by f e class.Beyond c = record { keys = refl; size = refl; bytes = refl }
stays_by f e class.Unprotected c = record { keys = refl; size = refl; bytes = refl }
stays_by f e class.Ignored c = record { keys = refl; size = refl; bytes = refl }
stays_by f e class.Ack c = record { keys = refl; size = refl; bytes = refl }
stays_by f e class.Close c = record { keys = refl; size = refl; bytes = refl }
stays_by f e class.Handshake c = record { keys = refl; size = refl; bytes = refl }
stays_by f e class.ApplicationData c = record { keys = refl; size = refl; bytes = refl }
stays_by f e class.Other c = record { keys = refl; size = refl; bytes = refl }
stays_by f e class.Unopened c = record { keys = refl; size = refl; bytes = refl }

flight-by : (f e : End) (k : Class) (c : List ℕ)
    → (follows f e k c).out.stores.flight ≡ choose (acts_on k) (acked e.out.stores.flight c).flight e.out.stores.flight
unfolding choose
flight-by f e class.Setting c = refl
flight-by f e class.Reply c = refl
flight-by f e class.Nothing c = refl
flight-by f e class.Beyond c = refl
flight-by f e class.Unprotected c = refl
flight-by f e class.Ignored c = refl
flight-by f e class.Ack c = ap (λ (w : Stores). w.flight) (sends-stores e.out (sent_by e.ledger (ack· c)) (ack· c))
flight-by f e class.Close c = refl
flight-by f e class.Handshake c = refl
flight-by f e class.ApplicationData c = refl
flight-by f e class.Other c = refl
flight-by f e class.Unopened c = refl
flight-by f e (class.Alert x) c = refl

ledger-by : (f e : End) (k : Class) (c : List ℕ) → (follows f e k c).ledger ≡ marks_owed (reply_of k c) e.ledger
ledger-by f e class.Setting c = refl
ledger-by f e class.Reply c = refl
ledger-by f e class.Nothing c = refl
ledger-by f e class.Beyond c = refl
ledger-by f e class.Unprotected c = refl
ledger-by f e class.Ignored c = refl
ledger-by f e class.Ack c = refl
ledger-by f e class.Close c = refl
ledger-by f e class.Handshake c = refl
ledger-by f e class.ApplicationData c = refl
ledger-by f e class.Other c = refl
ledger-by f e class.Unopened c = refl
ledger-by f e (class.Alert x) c = refl

-- where no question waits; and without a reading nothing is told
rest-by : (f e : End) (k : Class) (c : List ℕ) (q : Shown) → e.into.into.account.waits ≡ q → q ≡ nothing → (follows f e k c).into.into.account ≡ rest_owed (reply_of k c).verdict e.into.into
rest-by f e class.Setting c q w h = refl
rest-by f e class.Reply c q w h = refl
rest-by f e class.Nothing c q w h = refl
rest-by f e class.Beyond c q w h = refl
rest-by f e class.Unprotected c q w h = refl
rest-by f e class.Ignored c q w h = refl
rest-by f e class.Ack c q w h = refl
rest-by f e class.Close c q w h = refl
rest-by f e class.Handshake c q w h = refl
rest-by f e class.ApplicationData c q w h = refl
rest-by f e class.Other c q w h = refl
rest-by f e class.Unopened c q w h = refl
rest-by f e (class.Alert x) c q w h = ap (leaves_rest e.into.into.account (length e.into.into.arrived)) (w ∙ h)

abbrev is_none : Verdict → Type 0
is_none noneWaits = Unit {0}
is_none (turned n) = ⊥
is_none beyond = ⊥
is_none unprotected = ⊥
is_none ignored = ⊥
is_none marks = ⊥
is_none closes = ⊥
is_none (tells x) = ⊥
is_none handshake = ⊥
is_none application_data = ⊥
is_none other = ⊥
is_none unopened = ⊥

told_none : {n : ℕ} → tells n ≡ noneWaits → ⊥
told_none h = subst is_none (sym h) tt

rest-none : (f e : End) (k : Class) (c : List ℕ) → (reply_of k c).verdict ≡ noneWaits → (follows f e k c).into.into.account ≡ e.into.into.account
rest-none f e class.Setting c h = refl
rest-none f e class.Reply c h = refl
rest-none f e class.Nothing c h = refl
rest-none f e class.Beyond c h = refl
rest-none f e class.Unprotected c h = refl
rest-none f e class.Ignored c h = refl
rest-none f e class.Ack c h = refl
rest-none f e class.Close c h = refl
rest-none f e class.Handshake c h = refl
rest-none f e class.ApplicationData c h = refl
rest-none f e class.Other c h = refl
rest-none f e class.Unopened c h = refl
rest-none f e (class.Alert x) c h = absurd (told_none h)

module _ (f e : End) (i : Sound e.into.into) (s : Story e.dealings e.into.into) where
  is-owed : reply_of (class_of e) (content_in e) ≡ owes e
  is-owed = classify_reply e.dealings e.into.into i s

  rest-is : (o : Option Pending) → e.dealings.account.pending ≡ o → (follows f e (class_of e) (content_in e)).into.into.account ≡ rest_owed (owes e).verdict e.into.into
  rest-is none p =
      let v : (owes e).verdict ≡ noneWaits = ap (λ (o : Option Pending). (owed_by e.dealings.account.close e.into.into.account.encryption o).verdict) p in
      rest-none f e (class_of e) (content_in e) (ap (λ (r : Reply). r.verdict) is-owed ∙ v) ∙ sym (ap (λ (u : Verdict). rest_owed u e.into.into) v)
  rest-is (some x) p =
      rest-by f e (class_of e) (content_in e) _ refl (asks_nothing e.dealings e.into.into s x p)
      ∙ ap (λ (r : Reply). rest_owed r.verdict e.into.into) is-owed

  pub deals : Deals f e
  deals = record {
    words = refl;
    state = state-by f e (class_of e) (content_in e);
    flight = flight-by f e (class_of e) (content_in e);
    stays = let z = stays_by f e (class_of e) (content_in e) in record { keys = z.keys; size = z.size; bytes = z.bytes };
    rest = rest-is e.dealings.account.pending refl;
    ledger = ledger-by f e (class_of e) (content_in e) ∙ ap (λ (r : Reply). marks_owed r e.ledger) is-owed;
    idle = λ x p. asks_nothing e.dealings e.into.into s x p;
  }
