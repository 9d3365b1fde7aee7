-- A reading dealt with at a host: what it enters in its log is the claim's event, and the answer is the one owed. Assumes nothing.
use Rattle.std.specs.Prelude.{ℕ, ◌≤◌, length, Bool, true, List, ◌∷◌, ◌≡◌}
use Rattle.std.proofs.Common.{le-leb, le-ltb, subst, ◌∙◌}
use Rattle.std.proofs.Math.Path.{refl, sym, ap}
use Rattle.base.specs.Choose.{choose, if_true, if_false, by_test, both_true}
use Rattle.flight.specs.declared.Flight.{Flight}
use Rattle.flight_words.specs.Words.{flight_of, flat_to}
use Rattle.process_ack.specs.Ack.{acked}
use Rattle.process_ack.specs.Status.{newly_marked}
use Rattle.flight.specs.declared.Acted.{Acted}
use Rattle.send_keys.specs.Answer.{is_done}
use Rattle.receiving.specs.declared.Receiving.{Receiving}
use Rattle.recv_words.specs.Words.{is_flat}
use Rattle.recv_key_steps.specs.Kept.{state_of}
use Rattle.ack_calls.specs.Calls.{acked_told, left_behind}
use Rattle.ack_calls.specs.declared.HuskAcked.{HuskAcked}
use Rattle.classify.specs.Classify.{content_of, classified, words_after, state_after, acts_on}
use Rattle.classify.specs.declared.Class.{Class}
use Rattle.classify.specs.declared.Class.TheVariants as class
use Rattle.classify_calls.specs.Calls.{in_range, heeded, class_in, flat_class, ClassifyCall}
use Rattle.classify_calls.specs.declared.HuskClass.{HuskClass}
use Rattle.classify_theorem.specs.Account as account
use Rattle.classify_theorem.specs.Claim.{Dealings, reply_of, enters_as}
use Rattle.waiting_laws.specs.Answers.{answered}
use Rattle.waiting_laws.specs.Calls.{Stores, ack·}
use Rattle.history_theorem.specs.Receiver.{Receiver, with_state, leaves_rest, logs, unused}
use Rattle.ends_theorem.specs.Ledger.{owed}
use Rattle.ends_theorem.specs.World.{End, takes_in, files, follows, class_of, content_in, acts, dealing, dealing_over}
use Rattle.hosts_theorem.specs.Memory.{husk_flight_ack, MadeOut}
use Rattle.hosts_theorem.specs.Log.{stores_of, class_verdict, reply_in, deals_in, deals_over_in, acked_by, count, flown, follows_in, Host}
use Rattle.hosts_theorem.specs.Claim.{StandsIn, StandsOut, Stands, class_answer}
use Rattle.hosts_theorem.proofs.Out.{out-square, out-stands}

-- ---- answers

-- what the header's numbers tell is the verdict, with the bytes that the answer shows
reply-in : (k : Class) (x d : List ℕ) (a : HuskAcked) → reply_in (flat_class k x a) d ≡ reply_of k (content_of x d)
unfolding reply_in class_verdict choose
reply-in class.Setting x d a = refl
reply-in class.Reply x d a = refl
reply-in class.Nothing x d a = refl
reply-in class.Beyond x d a = refl
reply-in class.Unprotected x d a = refl
reply-in class.Ignored x d a = refl
reply-in class.Ack x d a = refl
reply-in class.Close x d a = refl
reply-in (class.Alert e) x d a = refl
reply-in class.Handshake x d a = refl
reply-in class.ApplicationData x d a = refl
reply-in class.Other x d a = refl
reply-in class.Unopened x d a = refl

-- over a flight in its range an ACK is heeded
heeds : (k : Class) (ok : Bool) → ok ≡ true → heeded k ok ≡ k
unfolding heeded
heeds k ok e = by_test (λ (z : Class). z ≡ k) (λ t. if_true _ _ e) (λ t. refl)

-- an ACK over no more saved records than a flight has is acted on
pub ack-done : (f : Flight) (d : List ℕ) → f.saved ≤ 12 → is_done (acked f d).answer ≡ true
unfolding acked
ack-done f d l = ap (λ (x : Acted). is_done x.answer) (if_false _ _ (le-ltb _ _ l))

module _ (h : Host) (o : Stands h) (few : h.seen.out.stores.flight.saved ≤ 12) where
  abbrev e : End
  e = h.seen

  abbrev p : Dealings
  p = e.dealings

  abbrev u : Receiver
  u = e.into.into

  abbrev flight : Flight
  flight = flight_of h.outgoing.flight h.outgoing.numbers

  few_saved : flight.saved ≤ 12
  few_saved = subst (λ (s : Stores). s.flight.saved ≤ 12) (sym o.outgoing.stores) few

  ranged : in_range h.outgoing.flight ≡ true
  ranged = both_true o.outgoing.flat-flight ∙ le-leb _ _ few_saved

  -- the class that the words tell is the log's
  pub class_is : (d : List ℕ) → class_in h.incoming.words h.pending h.outgoing.flight h.outgoing.numbers d ≡ classified p.words u.state d
  unfolding class_in
  class_is d =
      if_true _ _ o.incoming.flat ∙ heeds _ _ ranged
      ∙ (λ j. classified (o.pending j) (o.incoming.state j) d)

  -- its answer is the definition's
  pub class-answer : (r : HuskClass) (v y g m d : List ℕ) → ClassifyCall r v h.incoming.words y h.pending g h.outgoing.flight m h.outgoing.numbers d
      → r ≡ class_answer h d
  unfolding class_in
  class-answer r v y g m d q =
      q.0
      ∙ ap (λ (k : Class). flat_class k h.pending (acked_told (acked flight (content_of h.pending d)) (newly_marked flight (content_of h.pending d))))
      (if_true _ _ o.incoming.flat ∙ heeds _ _ ranged)

  abbrev answer : List ℕ → HuskAcked
  answer c = acked_told (acked flight c) (newly_marked flight c)

  -- its contract over the log's words
  abbrev Left : HuskClass → List ℕ → List ℕ → List ℕ → List ℕ → List ℕ → Class → Type 0
  Left r v y g m d k =
      (r ≡ flat_class k p.words (answer (content_of p.words d)))
      × (state_of v ≡ state_after k u.state) × (is_flat v ≡ true) × (y ≡ words_after k p.words)
      × (flight_of g m ≡ choose (acts_on k) (acked flight (content_of p.words d)).flight flight) × (flat_to g 12 ≡ true)

  pub left_as : (r : HuskClass) (v y g m d : List ℕ)
      → ClassifyCall r v h.incoming.words y h.pending g h.outgoing.flight m h.outgoing.numbers d
      → Left r v y g m d (classified p.words u.state d)
  left_as r v y g m d q =
      let k = class_is d in (
        q.0 ∙ (λ j. flat_class (k j) (o.pending j) (answer (content_of (o.pending j) d))),
        q.1 ∙ (λ j. state_after (k j) (o.incoming.state j)),
        q.2 ∙ o.incoming.flat,
        q.3 ∙ (λ j. words_after (k j) (o.pending j)),
        q.4 ∙ (λ j. choose (acts_on (k j)) (acked flight (content_of (o.pending j) d)).flight flight),
        q.5 ∙ o.outgoing.flat-flight,
      )

  -- ---- over the begun datagram

  abbrev d₀ : List ℕ
  d₀ = u.datagram

  pub own : (r : HuskClass) (v y g m : List ℕ)
      → ClassifyCall r v h.incoming.words y h.pending g h.outgoing.flight m h.outgoing.numbers h.incoming.datagram
      → Left r v y g m d₀ (class_of e)
  own r v y g m q =
      left_as r v y g m d₀
      (subst (λ (d : List ℕ). ClassifyCall r v h.incoming.words y h.pending g h.outgoing.flight m h.outgoing.numbers d) o.incoming.datagram q)

  -- an ACK: the contract of husk_flight_ack over the bytes that the answer shows
  abbrev c₀ : List ℕ
  c₀ = content_in e

  pub ack-told : answer c₀ ≡ left_behind (newly_marked flight c₀) (acked flight c₀).flight
  ack-told = if_true _ _ (ack-done flight c₀ few_saved)

  ack-made : (v y g m : List ℕ) → Left (flat_class class.Ack p.words (answer c₀)) v y g m d₀ class.Ack
      → MadeOut h.outgoing (husk_flight_ack (acked_by (flat_class class.Ack p.words (answer c₀))) g m c₀)
  unfolding choose
  ack-made v y g m q = (
    ap (λ (a : HuskAcked). record { refusal = 0; marked = a.marked; unacknowledged = a.unacknowledged; saved = a.saved }) ack-told
        ∙ sym (if_true _ _ o.outgoing.flat-flight ∙ ack-told),
    q.4 ∙ sym (if_true _ _ o.outgoing.flat-flight),
    q.5 ∙ sym o.outgoing.flat-flight,
  )

  -- ---- the log behind it

  module _ (f : End) (v y g m : List ℕ) where
    abbrev Follows : Class → Type 0
    Follows k = follows_in e h.outgoing (flat_class k p.words (answer c₀)) v g m ≡ follows f e k c₀

    follow_in : (k : Class) → Left (flat_class k p.words (answer c₀)) v y g m d₀ k → (k ≡ class.Ack → answered e.out.stores (ack· c₀) ≡ owed e.ledger (ack· c₀)) → Follows k
    unfolding choose
    follow_in class.Ack q d = out-square h.outgoing e o.outgoing f (husk_flight_ack (acked_by (flat_class class.Ack p.words (answer c₀))) g m c₀) (ack-made v y g m q) (d refl)
    follow_in (class.Alert x) q d =
        ap (λ (s : Receiving).
        takes_in e (logs e.into (with_state u s (leaves_rest u.account (length u.arrived) u.account.waits)) e.into.serial unused) (count e e.into.serial e.counts) p) q.1
    follow_in class.Setting q d = refl
    follow_in class.Reply q d = refl
    follow_in class.Nothing q d = refl
    follow_in class.Beyond q d = refl
    follow_in class.Unprotected q d = refl
    follow_in class.Ignored q d = refl
    follow_in class.Close q d = refl
    follow_in class.Handshake q d = refl
    follow_in class.ApplicationData q d = refl
    follow_in class.Other q d = refl
    follow_in class.Unopened q d = refl

    -- the dealings with the class k
    abbrev on : Bool
    on = u.account.encryption

    abbrev deals_as : Class → Dealings
    deals_as k =
        let r = reply_of k c₀ in
        record {
          words = words_after k p.words;
          account = account.deals p.account on;
          told = record { reply = r; owed = account.owed p.account on } ∷ p.told;
          dealt = enters_as p.account on r p.account.pending p.dealt;
          missed = p.missed;
        }

    deals-in : (k : Class) (r : HuskClass) → r ≡ flat_class k p.words (answer c₀) → y ≡ words_after k p.words → deals_in p on r y d₀ ≡ deals_as k
    deals-in k r q z =
        let w = ap (λ (x : HuskClass). reply_in x d₀) q ∙ reply-in k p.words d₀ (answer c₀) in
        λ j. record {
          words = z j;
          account = account.deals p.account on;
          told = record { reply = w j; owed = account.owed p.account on } ∷ p.told;
          dealt = enters_as p.account on (w j) p.account.pending p.dealt;
          missed = p.missed;
        }

    by_class : (k : Class) (r : HuskClass) → Left r v y g m d₀ k → (k ≡ class.Ack → answered e.out.stores (ack· c₀) ≡ owed e.ledger (ack· c₀))
        → files (follows_in e h.outgoing r v g m) (deals_in p on r y d₀) ≡ files (follows f e k c₀) (deals_as k)
    by_class k r q d =
        let a = ap (λ (x : HuskClass). follows_in e h.outgoing x v g m) q.0
        ∙ follow_in k (refl, q.1, q.2, q.3, q.4, q.5) d in
        let b = deals-in k r q.0 q.3 in
        λ j. files (a j) (b j)

    pub class_square : (r : HuskClass) → ClassifyCall r v h.incoming.words y h.pending g h.outgoing.flight m h.outgoing.numbers h.incoming.datagram
        → (class_of e ≡ class.Ack → answered e.out.stores (ack· c₀) ≡ owed e.ledger (ack· c₀))
        → files (follows_in e h.outgoing r v g m) (deals_in p on r y d₀) ≡ acts f e dealing
    class_square r q d = by_class (class_of e) r (own r v y g m q) d

    -- ---- the words stand for it

    abbrev StandsAs : HuskClass → Type 0
    StandsAs r =
        let z = follows_in e h.outgoing r v g m in
        StandsIn (record { words = v; datagram = h.incoming.datagram }) z.into × StandsOut (flown h.outgoing g m) z

    same_in : is_flat v ≡ true → state_of v ≡ u.state → StandsIn (record { words = v; datagram = h.incoming.datagram }) e.into
    same_in a b = record { flat = a; state = b; datagram = o.incoming.datagram }

    -- the flight's words anew, with the same meaning
    same_out : (z : End) → z.out ≡ e.out → flat_to g 12 ≡ true → flight_of g m ≡ flight → StandsOut (flown h.outgoing g m) z
    same_out z q a b = record {
      flat = o.outgoing.flat;
      flat-flight = a;
      stores =
          ap (λ (x : Flight). record { state = (stores_of h.outgoing).state; queue = h.outgoing.queue; flight = x; kept = h.outgoing.kept; notes = (stores_of h.outgoing).notes }) b
          ∙ o.outgoing.stores ∙ ap (λ x. x.stores) (sym q);
      shown = (o.outgoing.shown.0, ap (λ x. x.lent) q ∙ o.outgoing.shown.1);
    }

    stands_by : (k : Class) → Left (flat_class k p.words (answer c₀)) v y g m d₀ k → StandsAs (flat_class k p.words (answer c₀))
    unfolding choose
    stands_by class.Ack q =
        (same_in q.2 q.1, out-stands h.outgoing e o.outgoing (husk_flight_ack (acked_by (flat_class class.Ack p.words (answer c₀))) g m c₀) (ack-made v y g m q))
    stands_by (class.Alert x) q = (record { flat = q.2; state = refl; datagram = o.incoming.datagram }, same_out _ refl q.5 q.4)
    stands_by class.Setting q = (same_in q.2 q.1, same_out e refl q.5 q.4)
    stands_by class.Reply q = (same_in q.2 q.1, same_out e refl q.5 q.4)
    stands_by class.Nothing q = (same_in q.2 q.1, same_out e refl q.5 q.4)
    stands_by class.Beyond q = (same_in q.2 q.1, same_out e refl q.5 q.4)
    stands_by class.Unprotected q = (same_in q.2 q.1, same_out e refl q.5 q.4)
    stands_by class.Ignored q = (same_in q.2 q.1, same_out e refl q.5 q.4)
    stands_by class.Close q = (same_in q.2 q.1, same_out e refl q.5 q.4)
    stands_by class.Handshake q = (same_in q.2 q.1, same_out e refl q.5 q.4)
    stands_by class.ApplicationData q = (same_in q.2 q.1, same_out e refl q.5 q.4)
    stands_by class.Other q = (same_in q.2 q.1, same_out e refl q.5 q.4)
    stands_by class.Unopened q = (same_in q.2 q.1, same_out e refl q.5 q.4)

    stands_class : (k : Class) (r : HuskClass) → Left r v y g m d₀ k → StandsAs r
    stands_class k r q = subst StandsAs (sym q.0) (stands_by k (refl, q.1, q.2, q.3, q.4, q.5))

    pub class_stands : (r : HuskClass) → ClassifyCall r v h.incoming.words y h.pending g h.outgoing.flight m h.outgoing.numbers h.incoming.datagram → StandsAs r
    class_stands r q = stands_class (class_of e) r (own r v y g m q)

  -- ---- over bytes of another length

  module _ (v y g m d : List ℕ) (r : HuskClass) (q : ClassifyCall r v h.incoming.words y h.pending g h.outgoing.flight m h.outgoing.numbers d)
      (z : classified p.words u.state d ≡ class.Reply) where
    pub turned : Left r v y g m d class.Reply
    turned = subst (Left r v y g m d) z (left_as r v y g m d q)

    pub over-square : (f : End) → files e (deals_over_in p r y d) ≡ acts f e (dealing_over d)
    over-square f =
        let k = left_as r v y g m d q in
        let w = ap (λ (x : HuskClass). reply_in x d) k.0 ∙ reply-in (classified p.words u.state d) p.words d (answer (content_of p.words d)) in
        λ j. files e (record {
          words = k.3 j;
          account = p.account;
          told = record { reply = w j; owed = account.bare (account.turned 15) } ∷ p.told;
          dealt = p.dealt;
          missed = p.missed;
        })

    pub over-stands : StandsIn (record { words = v; datagram = h.incoming.datagram }) e.into × StandsOut (flown h.outgoing g m) e
    unfolding choose
    over-stands = (same_in e v y g m turned.2 turned.1, same_out e v y g m e refl turned.5 turned.4)
