-- Every list of calls of the C library is a list of events of the claim, and the hosts saw the world that it leads to. Assumes nothing.
use Rattle.std.specs.Prelude.{ℕ, suc, ◌+◌, ◌≤◌, ◌<◌, leb, ltb, length, Bool, List, [], ◌∷◌, ◌++◌, ◌≡◌}
use Rattle.std.proofs.Math.Bool.{true, false}
use Rattle.std.proofs.Math.Option.{none}
use Rattle.std.proofs.Math.Path.{refl}
use Rattle.std.proofs.Common.{sym, ap, subst, ◌∙◌}
use Rattle.base.specs.Choose.{choose, by_test, if_false}
use Rattle.outgoing.specs.State.{started, fresh_sending, no_waiting}
use Rattle.outgoing.specs.declared.Sending.{Sending}
use Rattle.recv_calls.specs.Flat.{opening_of}
use Rattle.sealing.specs.Sealing.{Asked, question_of}
use Rattle.waiting_laws.specs.Answers.{answered}
use Rattle.waiting_laws.specs.Calls.{send·, ack·, Reply, only}
use Rattle.history_theorem.specs.Account.{sealed_over}
use Rattle.history_theorem.specs.Claim.{Masks}
use Rattle.history_theorem.specs.Receiver.{Call, begin·, read·, open·, open_over·}
use Rattle.history_theorem.proofs.Sound.{Sound}
use Rattle.ends_theorem.specs.Claim.{Holds, Startable}
use Rattle.ends_theorem.proofs.Every.{every-does}
use Rattle.ends_theorem.specs.Ledger.{application_data, last_number}
use Rattle.ends_theorem.proofs.Matches.{Matches}
use Rattle.ends_theorem.proofs.Theorem.{Good, FairDone, fair-step, run-keeps, new-good, every_list, stop_order-sent as stop_order}
use Rattle.ends_theorem.specs.Sender as world
use Rattle.ends_theorem.specs.Sender.{Sender, lent_by}
use Rattle.ends_theorem.proofs.Starting.{sending-starts, receiving-starts}
use Rattle.ends_theorem.specs.World.{Side, post, gateway, far, Count, End, Deed, dealing, Event, World, takes_in, puts, content_in, acts, step, run, Setting, fresh-pair, FairDeed, Honest}
use Rattle.hosts_theorem.specs.Memory.{Outgoing, InCall, husk_receiving_key, husk_receiving_remove, husk_receiving_enable_encryption, husk_receiving_release_application_data, husk_receiving_begin, husk_receiving_begin_read, husk_receiving_read, husk_receiving_mask, husk_receiving_opened, husk_receiving_read_over, husk_receiving_mask_over, husk_receiving_opened_over, host_writes, husk_sending_send, MadeOut, lends}
use Rattle.hosts_theorem.specs.Log.{send_of, dealings_to, count, counts_to, follows_in, Host, Act, inward, husk_sending_sealing, husk_flight_status, husk_sending_status, outward, outward_over, host_seals, husk_assembly_begin, husk_assembly_take, husk_receiving_classify, husk_receiving_classify_over, Made, behind}
use Rattle.hosts_theorem.specs.Claim.{Hosts, CCall, after, runs, AllMade, StandsOut, Stands, Started, calls_of, hearing, deeds_of, at, events_of, Answered, AllAnswered, Owed, AllOwed, FairDeeds, AllFair, sight_of, EveryListOfCalls}
use Rattle.hosts_theorem.proofs.In.{does_all, in_square, in_stands, in_answer}
use Rattle.hosts_theorem.proofs.Noted.{listens_all, in_dealings}
use Rattle.hosts_theorem.proofs.Dealings as classify
use Rattle.hosts_theorem.proofs.Dealings.{class-answer, class_square, class_stands}
use Rattle.hosts_theorem.proofs.Owed.{Fine, fine, ActsAsOwed, few, Owes, turned-back, saved-answer, queued-answer, owed-now}
use Rattle.classify.specs.declared.Class.{Class}
use Rattle.classify_calls.specs.declared.HuskClass.{HuskClass}
use Rattle.classify_theorem.specs.Claim.{Dealings}
use Rattle.assembly_theorem.specs.Claim.{Piecing}
use Rattle.hosts_theorem.proofs.Pieces.{begin_square, take-square}
use Rattle.hosts_theorem.proofs.Out.{shows-now, out-reply, sealing-answer, out-answer, out-square, out-stands, over-square, over-stands, fill_square, fill_stands}

-- ---- the words of the reading that waits are entered as they are left

dealt-words : (p : Dealings) (d : List ℕ) (c : InCall) (y : List ℕ) → y ≡ (dealings_to p d c y).words
dealt-words p d (husk_receiving_begin_read r v b) y = by_test (λ (q : Dealings). y ≡ q.words) (λ t. refl) (λ t. refl)
dealt-words p d (husk_receiving_opened r v o len) y = by_test (λ (q : Dealings). y ≡ q.words) (λ t. refl) (λ t. refl)
dealt-words p d (husk_receiving_begin r v b) y = refl
dealt-words p d (husk_receiving_read r v) y = refl
dealt-words p d (husk_receiving_read_over r v b) y = refl
dealt-words p d (husk_receiving_opened_over r v o len b) y = refl
dealt-words p d (husk_receiving_key r v k iv) y = refl
dealt-words p d (husk_receiving_remove r v k) y = refl
dealt-words p d (husk_receiving_enable_encryption r v) y = refl
dealt-words p d (husk_receiving_release_application_data r v) y = refl
dealt-words p d (husk_receiving_mask r v n₀ n₁ e) y = refl
dealt-words p d (husk_receiving_mask_over r v n₀ n₁ e b) y = refl
dealt-words p d (host_writes r b) y = refl

-- dealing with a reading moves no piece
pieces-same : (e : End) (h : Outgoing) (r : HuskClass) (v g m : List ℕ) → (follows_in e h r v g m).pieces ≡ e.pieces
pieces-same e h r v g m = by_test (λ (z : End). z.pieces ≡ e.pieces) (λ t. refl) (λ t. by_test (λ (z : End). z.pieces ≡ e.pieces) (λ u. refl) (λ u. refl))

-- ---- some deeds at one end

abbrev acts_all : End → End → List Deed → End
acts_all f e [] = e
acts_all f e (d ∷ ds) = acts_all f (acts f e d) ds

-- the end that acts, and the other
run_at : (s : Side) (w : World) (ds : List Deed) → (run w (at s ds) s ≡ acts_all (w (far s)) (w s) ds) × (run w (at s ds) (far s) ≡ w (far s))
run_at post w [] = (refl, refl)
run_at post w (d ∷ ds) = run_at post (step w (record { side = post; deed = d })) ds
run_at gateway w [] = (refl, refl)
run_at gateway w (d ∷ ds) = run_at gateway (step w (record { side = gateway; deed = d })) ds

run-both : (w : World) (us vs : List Event) → run w (us ++ vs) ≡ run (run w us) vs
run-both w [] vs = refl
run-both w (u ∷ us) vs = run-both (step w u) us vs

-- ---- the deeds of a receiving call, with its counts

module _ (f e : End) where
  -- these calls, the counts xs, and what they tell
  abbrev heard : List Call → List Count → End
  heard cs xs = takes_in e (does_all f.out.sealed e.into cs) xs (listens_all f.out.sealed e.into cs e.dealings)

  chosen : (t : Bool) (cs ds : List Call) (xs ys : List Count) → (t ≡ true → heard cs xs ≡ acts_all f e (hearing cs)) → (t ≡ false → heard ds ys ≡ acts_all f e (hearing ds))
      → heard (choose t cs ds) (choose t xs ys) ≡ acts_all f e (hearing (choose t cs ds))
  unfolding choose
  chosen true cs ds xs ys p q = p refl
  chosen false cs ds xs ys p q = q refl

  heard_as : (c : InCall) → heard (calls_of c) (counts_to e c) ≡ acts_all f e (hearing (calls_of c))
  heard_as (husk_receiving_key r v k iv) = refl
  heard_as (husk_receiving_remove r v k) = refl
  heard_as (husk_receiving_enable_encryption r v) = refl
  heard_as (husk_receiving_release_application_data r v) = refl
  heard_as (husk_receiving_begin r v d) = refl
  heard_as (husk_receiving_begin_read r v d) =
      chosen (ltb 16384 (length d)) (begin· d ∷ []) (begin· d ∷ read· ∷ []) _ _ (λ t. refl)
      (λ t.
      ap (λ (n : ℕ). heard (begin· d ∷ read· ∷ []) (count e n (count e (suc e.into.last_serial) e.counts)))
      (sym (if_false e.into.serial (suc e.into.last_serial) t)))
  heard_as (husk_receiving_read r v) = refl
  heard_as (husk_receiving_mask r v n₀ n₁ b) = refl
  heard_as (husk_receiving_opened r v o len) = chosen (leb o 1) (open· (opening_of o len) ∷ []) [] _ _ (λ t. refl) (λ t. refl)
  heard_as (husk_receiving_read_over r v d) = refl
  heard_as (husk_receiving_mask_over r v n₀ n₁ b d) = refl
  heard_as (husk_receiving_opened_over r v o len d) = chosen (leb o 1) (open_over· (opening_of o len) d ∷ []) [] _ _ (λ t. refl) (λ t. refl)
  heard_as (host_writes r p) = refl

module _ (masks : Side → Masks) where
  -- ---- what is asked

  abbrev FairAll : Side → End → End → List Deed → Type 0
  FairAll s f e [] = Unit {0}
  FairAll s f e (d ∷ ds) = FairDeed masks s f e d × FairAll s f (acts f e d) ds

  honest-at : (s : Side) (w : World) (ds : List Deed) → FairAll s (w (far s)) (w s) ds → Honest masks w (at s ds)
  honest-at post w [] g = tt
  honest-at post w (d ∷ ds) g = (g.0, honest-at post (step w (record { side = post; deed = d })) ds g.1)
  honest-at gateway w [] g = tt
  honest-at gateway w (d ∷ ds) g = (g.0, honest-at gateway (step w (record { side = gateway; deed = d })) ds g.1)

  honest-both : (w : World) (us vs : List Event) → Honest masks w us → Honest masks (run w us) vs → Honest masks w (us ++ vs)
  honest-both w [] vs g h = h
  honest-both w (u ∷ us) vs g h = (g.0, honest-both (step w u) us vs g.1 h)

  module _ (s : Side) (f e : End) where
    fair-chosen : (t : Bool) (cs ds : List Call) → (FairDeeds masks s f e (hearing cs) → FairAll s f e (hearing cs)) → (FairDeeds masks s f e (hearing ds) → FairAll s f e (hearing ds))
        → FairDeeds masks s f e (hearing (choose t cs ds)) → FairAll s f e (hearing (choose t cs ds))
    unfolding choose
    fair-chosen true cs ds p q = p
    fair-chosen false cs ds p q = q

    fair-heard : (c : InCall) → FairDeeds masks s f e (hearing (calls_of c)) → FairAll s f e (hearing (calls_of c))
    fair-heard (husk_receiving_key r v k iv) g = g
    fair-heard (husk_receiving_remove r v k) g = g
    fair-heard (husk_receiving_enable_encryption r v) g = g
    fair-heard (husk_receiving_release_application_data r v) g = g
    fair-heard (husk_receiving_begin r v d) g = g
    fair-heard (husk_receiving_begin_read r v d) g = fair-chosen (ltb 16384 (length d)) (begin· d ∷ []) (begin· d ∷ read· ∷ []) (λ k. k) (λ k. (tt, (tt, tt))) g
    fair-heard (husk_receiving_read r v) g = g
    fair-heard (husk_receiving_mask r v n₀ n₁ b) g = g
    fair-heard (husk_receiving_opened r v o len) g = fair-chosen (leb o 1) (open· (opening_of o len) ∷ []) [] (λ k. k) (λ k. k) g
    fair-heard (husk_receiving_read_over r v d) g = g
    fair-heard (husk_receiving_mask_over r v n₀ n₁ b d) g = g
    fair-heard (husk_receiving_opened_over r v o len d) g = fair-chosen (leb o 1) (open_over· (opening_of o len) d ∷ []) [] (λ k. k) (λ k. k) g
    fair-heard (host_writes r p) g = g

    fair : (a : Act) → FairDeeds masks s f e (deeds_of a) → FairAll s f e (deeds_of a)
    fair (inward c y) g = fair-heard c g
    fair (husk_sending_sealing r) g = g
    fair (husk_flight_status r) g = g
    fair (husk_sending_status r) g = g
    fair (outward c) g = g
    fair (outward_over c q k) g = g
    fair (host_seals r bytes) g = g
    fair (husk_assembly_begin r v n) g = g
    fair (husk_assembly_take r v c d x) g = g
    fair (husk_receiving_classify r v y j m) g = g
    fair (husk_receiving_classify_over r v y j m d) g = g

  -- ---- one call at one host; f the far host

  -- an ACK dealt with is asked the same as by husk_flight_ack
  acts-owed : (w : World) → Good masks w → (s : Side) → FairDeed masks s (w (far s)) (w s) dealing → ActsAsOwed (w s)
  acts-owed w g s h k =
      let a = fair-step masks s (w (far s)) (w s) dealing (g.link s) (g.dealings s) h in
      let b = subst (λ (x : Class). FairDone masks s (w (far s)) (w s) x (content_in (w s))) k a in
      every-does (masks s) (w s).out (w s).ledger (ack· (content_in (w s))) (g.matches s) b.0

  owes : (w : World) → Good masks w → (s : Side) (a : Act) → FairDeeds masks s (w (far s)) (w s) (deeds_of a) → Owes (w s) a
  owes w g s (inward c y) h = tt
  owes w g s (husk_sending_sealing r) h = tt
  owes w g s (husk_flight_status r) h = tt
  owes w g s (husk_sending_status r) h = tt
  owes w g s (outward c) h = (every-does (masks s) (w s).out (w s).ledger (send_of c) (g.matches s) h.0.0).reply
  owes w g s (outward_over c q k) h = tt
  owes w g s (host_seals r bytes) h = tt
  owes w g s (husk_assembly_begin r v n) h = tt
  owes w g s (husk_assembly_take r v c d x) h = tt
  owes w g s (husk_receiving_classify r v y j m) h = acts-owed w g s h.0
  owes w g s (husk_receiving_classify_over r v y j m d) h = h.0

  module _ (f h : Host) (o : Stands h) (z : Sound h.seen.into.into) (g : Fine h.seen) where
    square : (a : Act) → Made h a → Owes h.seen a → (behind f h a).seen ≡ acts_all f.seen h.seen (deeds_of a)
    square (inward c y) m d =
        let a = in_square h.incoming h.seen.into o.incoming f.seen.out.sealed z c m.0 in
        let b = in_dealings f.seen.out.sealed h.incoming h.seen.into o.incoming z h.seen.dealings h.pending o.pending
        (ap length o.pending ∙ g.dealings.stands.long) c y m.0 m.1 in
        (λ j. takes_in h.seen (a j) (counts_to h.seen c) (b j)) ∙ heard_as f.seen h.seen c
    square (husk_sending_sealing r) m d = refl
    square (husk_flight_status r) m d = refl
    square (husk_sending_status r) m d = refl
    square (outward c) m d = out-square h.outgoing h.seen o.outgoing f.seen c m d
    square (outward_over c q k) m d = over-square h.outgoing h.seen o.outgoing c q k m f.seen
    square (host_seals r bytes) m d = fill_square h.outgoing h.seen o.outgoing r bytes m.0 m.1 m.2 f.seen
    square (husk_assembly_begin r v n) m d = ap (puts h.seen) (begin_square h.assembly h.seen.pieces o.assembly r v n m)
    square (husk_assembly_take r v c b x) m d = ap (puts h.seen) (take-square h.assembly h.seen.pieces o.assembly r v c b x m)
    square (husk_receiving_classify r v y j m) q d = class_square h o (few h o z g) f.seen v y j m r q (λ k. (d k).reply)
    square (husk_receiving_classify_over r v y j m b) q d = classify.over-square h o (few h o z g) v y j m b r q (turned-back h o z g b d) f.seen

    -- the sending side beside calls that do not touch it
    still-stands : {e : End} → e.out ≡ h.seen.out → StandsOut h.outgoing e
    still-stands {e} q = record {
      flat = o.outgoing.flat;
      flat-flight = o.outgoing.flat-flight;
      stores = o.outgoing.stores ∙ ap (λ (x : Sender). x.stores) (sym q);
      shown = (o.outgoing.shown.0, ap (λ (x : Sender). x.lent) q ∙ o.outgoing.shown.1);
    }

    stands_on : (a : Act) → Made h a → Owes h.seen a → Stands (behind f h a)
    stands_on (inward c y) m d = record {
      incoming = in_stands h.incoming h.seen.into o.incoming f.seen.out.sealed c m.0;
      pending = dealt-words h.seen.dealings h.seen.into.into.datagram c y;
      outgoing = still-stands refl;
      assembly = o.assembly;
    }
    stands_on (husk_sending_sealing r) m d = o
    stands_on (husk_flight_status r) m d = o
    stands_on (husk_sending_status r) m d = o
    stands_on (outward c) m d = record {
      incoming = o.incoming;
      pending = o.pending;
      outgoing = out-stands h.outgoing h.seen o.outgoing c m;
      assembly = o.assembly;
    }
    stands_on (outward_over c q k) m d = record {
      incoming = o.incoming;
      pending = o.pending;
      outgoing = over-stands h.outgoing h.seen o.outgoing c q k m;
      assembly = o.assembly;
    }
    stands_on (host_seals r bytes) m d = record {
      incoming = o.incoming;
      pending = o.pending;
      outgoing = fill_stands h.outgoing h.seen o.outgoing r bytes m.0 m.1 m.2;
      assembly = o.assembly;
    }
    stands_on (husk_assembly_begin r v n) m d = record { incoming = o.incoming; pending = o.pending; outgoing = still-stands refl; assembly = refl }
    stands_on (husk_assembly_take r v c b x) m d = record { incoming = o.incoming; pending = o.pending; outgoing = still-stands refl; assembly = refl }
    stands_on (husk_receiving_classify r v y j m) q d =
        let k = class_stands h o (few h o z g) f.seen v y j m r q in
        let p = k.1 in
        record { incoming = k.0; pending = refl; outgoing = record { flat = p.flat; flat-flight = p.flat-flight; stores = p.stores; shown = p.shown }; assembly = o.assembly ∙ ap (λ (x : Piecing). x.words) (sym (pieces-same h.seen h.outgoing r v j m)) }
    stands_on (husk_receiving_classify_over r v y j m b) q d =
        let k = classify.over-stands h o (few h o z g) v y j m b r q (turned-back h o z g b d) in
        let p = k.1 in
        record { incoming = k.0; pending = refl; outgoing = record { flat = p.flat; flat-flight = p.flat-flight; stores = p.stores; shown = p.shown }; assembly = o.assembly }

    answer : Matches h.seen.out.stores h.seen.ledger → (a : Act) → Made h a → Answered h a
    answer i (inward c y) m = in_answer h.incoming h.seen.into o.incoming c m.0
    answer i (husk_sending_sealing r) m = sealing-answer h.outgoing h.seen o.outgoing r m
    answer i (husk_flight_status r) m = saved-answer h.outgoing h.seen o.outgoing i r m
    answer i (husk_sending_status r) m = queued-answer h.outgoing h.seen o.outgoing i r m
    answer i (outward c) m = out-answer h.outgoing o.outgoing.flat o.outgoing.flat-flight c m
    answer i (outward_over c q k) m = out-answer (lends h.outgoing q k) o.outgoing.flat o.outgoing.flat-flight c m
    answer i (host_seals r bytes) m = sealing-answer h.outgoing h.seen o.outgoing r m.0
    answer i (husk_assembly_begin r v n) m = m.0
    answer i (husk_assembly_take r v c d x) m = m.0
    answer i (husk_receiving_classify r v y j m) q = class-answer h o (few h o z g) r v y j m h.incoming.datagram q
    answer i (husk_receiving_classify_over r v y j m b) q = class-answer h o (few h o z g) r v y j m b q

  -- ---- one call at one of two

  module _ (hs : Hosts) (o : (s : Side) → Stands (hs s)) (g : Good masks (sight_of hs)) where
    sight_on : (s : Side) (a : Act) → Made (hs s) a → Owes (hs s).seen a → (t : Side)
        → (after hs (record { side = s; act = a }) t).seen ≡ run (sight_of hs) (at s (deeds_of a)) t
    sight_on post a m d post = square (hs gateway) (hs post) (o post) (g.link post).sound (fine masks (sight_of hs) g post) a m d ∙ sym (run_at post (sight_of hs) (deeds_of a)).0
    sight_on post a m d gateway = sym (run_at post (sight_of hs) (deeds_of a)).1
    sight_on gateway a m d post = sym (run_at gateway (sight_of hs) (deeds_of a)).1
    sight_on gateway a m d gateway = square (hs post) (hs gateway) (o gateway) (g.link gateway).sound (fine masks (sight_of hs) g gateway) a m d ∙ sym (run_at gateway (sight_of hs) (deeds_of a)).0

    both_stand : (s : Side) (a : Act) → Made (hs s) a → Owes (hs s).seen a → (t : Side) → Stands (after hs (record { side = s; act = a }) t)
    both_stand post a m d post = stands_on (hs gateway) (hs post) (o post) (g.link post).sound (fine masks (sight_of hs) g post) a m d
    both_stand post a m d gateway = o gateway
    both_stand gateway a m d post = o post
    both_stand gateway a m d gateway = stands_on (hs post) (hs gateway) (o gateway) (g.link gateway).sound (fine masks (sight_of hs) g gateway) a m d

    -- g' what holds behind it
    owed-on : (s : Side) (a : Act) → Made (hs s) a → Owes (hs s).seen a → Good masks (sight_of (after hs (record { side = s; act = a }))) → Owed (hs s) a
    owed-on post a m d g' = owed-now (hs gateway) (hs post) (o post) (g.link post).sound (fine masks (sight_of hs) g post) a m d (fine masks (sight_of (after hs (record { side = post; act = a }))) g' post)
    owed-on gateway a m d g' = owed-now (hs post) (hs gateway) (o gateway) (g.link gateway).sound (fine masks (sight_of hs) g gateway) a m d (fine masks (sight_of (after hs (record { side = gateway; act = a }))) g' gateway)

  -- ---- a list of calls

  pub record Seen (hs : Hosts) (cs : List CCall) : Type 0 where
    pub honest : Honest masks (sight_of hs) (events_of cs)
    pub agrees : sight_of (runs hs cs) ≡ run (sight_of hs) (events_of cs)
    pub stands : (s : Side) → Stands (runs hs cs s)
    pub answered : AllAnswered hs cs
    pub owed : AllOwed hs cs

  pub all_seen : (hs : Hosts) (cs : List CCall) → ((s : Side) → Stands (hs s)) → Good masks (sight_of hs) → AllMade hs cs → AllFair masks hs cs → Seen hs cs
  all_seen hs [] o g m h = record { honest = tt; agrees = refl; stands = o; answered = tt; owed = tt }
  all_seen hs (c ∷ cs) o g m h =
      let s = c.side in
      let us = at s (deeds_of c.act) in
      let w = sight_of hs in
      let one = honest-at s w (deeds_of c.act) (fair s (w (far s)) (w s) c.act h.0) in
      let d = owes w g s c.act h.0 in
      let now : (t : Side) → (after hs c t).seen ≡ run w us t = sight_on hs o g s c.act m.0 d in
      let seen : sight_of (after hs c) ≡ run w us = (λ i t. now t i) in
      let good = subst (Good masks) (sym seen) (run-keeps masks w us g one) in
      let rest = all_seen (after hs c) cs (both_stand hs o g s c.act m.0 d) good m.1 h.1 in
      record {
        honest = honest-both w us (events_of cs) one (subst (λ (v : World). Honest masks v (events_of cs)) seen rest.honest);
        agrees = rest.agrees ∙ ap (λ (v : World). run v (events_of cs)) seen ∙ sym (run-both w us (events_of cs));
        stands = rest.stands;
        answered = (answer (hs (far s)) (hs s) (o s) (g.link s).sound (fine masks w g s) (g.matches s) c.act m.0, rest.answered);
        owed = (owed-on hs o g s c.act m.0 d good, rest.owed);
      }

-- ---- the start

-- the starting calls answered 0: settings in range
pub startable : (s : Setting) (h : Host) → Started s h → Startable s
startable s h t =
    let r = (sending-starts s.mtu s.limit).0.0 (sym t.sending.0) in record {
      low = r.low;
      high = r.high;
      some = r.some;
      most = r.most;
      min = (receiving-starts s.min).0.0 (sym t.receiving.0.0);
      room = t.room;
    }

fresh-state : (mtu limit : ℕ) → (started mtu limit).state ≡ fresh_sending mtu limit
unfolding started
fresh-state mtu limit = refl

-- a fresh state asks nothing
fresh-lent : (mtu limit : ℕ) (q : List ℕ) → none ≡ world.lends (fresh_sending mtu limit) q none
unfolding world.lends question_of fresh_sending no_waiting
fresh-lent mtu limit q =
    by_test (λ (k : Asked). none ≡ lent_by k none q)
    (λ s. by_test (λ (k : Asked). none ≡ lent_by k none q)
    (λ t. ap (λ (k : Asked). lent_by k none q) (sym (if_false _ _ refl))) (λ t. refl))
    (λ s. refl)

pub starts : (s : Setting) (h : Host) → Started s h → Stands h
starts s h t =
    let e = sym t.seen in
    let z = t.sending.1 ∙ fresh-state s.mtu s.limit in record {
      incoming = record {
        flat = t.receiving.0.2;
        state = t.receiving.0.1 ∙ ap (λ (x : End). x.into.into.state) e;
        datagram = t.datagram ∙ ap (λ (x : End). x.into.into.datagram) e;
      };
      pending = t.receiving.1 ∙ ap (λ (x : End). x.dealings.words) e;
      outgoing = record {
        flat = t.sending.2;
        flat-flight = t.flight.1;
        stores = (λ i. record { state = z i; queue = t.queue i; flight = t.flight.0 i; kept = t.kept i; notes = t.notes i }) ∙ ap (λ (x : End). x.out.stores) e;
        shown = (
          none,
          sym (ap (λ (x : End). x.out.lent) e) ∙ fresh-lent s.mtu s.limit h.outgoing.queue
              ∙ ap (λ (x : Sending). world.lends x h.outgoing.queue none) (sym z) ∙ sym (shows-now h.outgoing t.sending.2 none),
        );
      };
      assembly = t.assembly ∙ ap (λ (x : End). x.pieces.words) e;
    }

-- ---- every list of calls

-- what its account promises a host of a stop order x
abbrev Asks : End → List ℕ → Type 0
Asks e x =
    let l = e.ledger in
    3 ≤ l.application → length x + sealed_over ≤ l.mtu → l.mtu ≤ 1500 → length l.queue < l.limit → l.next l.application < last_number
    → answered e.out.stores (send· l.application application_data x) ≡ only 0

pub every_list_of_calls : EveryListOfCalls
every_list_of_calls settings hs st masks cs made fair =
    let ok : (s : Side) → Startable (settings s) = λ s. startable (settings s) (hs s) (st s) in
    let first : sight_of hs ≡ fresh-pair settings = (λ i s. (st s).seen i) in
    let k = all_seen masks hs cs (λ s. starts (settings s) (hs s) (st s)) (subst (Good masks) (sym first) (new-good masks settings ok)) made fair in
    let honest = subst (λ (w : World). Honest masks w (events_of cs)) first k.honest in
    let agrees = k.agrees ∙ ap (λ (w : World). run w (events_of cs)) first in
    let holds = every_list settings ok masks (events_of cs) honest in record {
      honest = honest;
      agrees = λ s. ap (λ (w : World). w s) agrees;
      stands = k.stands;
      answered = k.answered;
      owed = k.owed;
      holds = holds;
      saw = λ s e. subst (λ (w : World). Holds w s e) (sym agrees) (holds s e);
    }

-- a host that keeps the rules can always send its stop order: with an application epoch keyed, a record that a datagram holds, a datagram free in
-- the queue and a number left, by its own account, husk_sending_send answers 0, after every list of calls
pub stop_order-sent : (settings : Side → Setting) (hs : Hosts) → ((s : Side) → Started (settings s) (hs s)) → (masks : Side → Masks) (cs : List CCall) → AllMade hs cs → AllFair masks hs cs
    → (s : Side) (r : ℕ) (v x p : List ℕ) → let h = runs hs cs s in
    let l = h.seen.ledger in
    3 ≤ l.application → length x + sealed_over ≤ l.mtu → l.mtu ≤ 1500 → length l.queue < l.limit → l.next l.application < last_number
    → MadeOut h.outgoing (husk_sending_send r v l.application application_data x p) → r ≡ 0
stop_order-sent settings hs st masks cs made fair s r v x p key fits mtu room num m =
    let ok : (s : Side) → Startable (settings s) = λ s. startable (settings s) (hs s) (st s) in
    let k = every_list_of_calls settings hs st masks cs made fair in
    let h = runs hs cs s in
    let a : Asks h.seen x = subst (λ (e : End). Asks e x) (sym (k.agrees s)) (stop_order settings ok masks (events_of cs) k.honest s x) in
    ap (λ (n : Reply). n.number) (out-reply h.outgoing h.seen (k.stands s).outgoing (husk_sending_send r v h.seen.ledger.application application_data x p) m ∙ a key fits mtu room num)
