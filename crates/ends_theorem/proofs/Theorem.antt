-- What is claimed of every list of calls holds. Assumes nothing.
use Rattle.std.specs.Prelude.{ℕ, suc, ◌+◌, ◌<◌, ◌≤◌, length, true, ◌≡◌, refl}
use mathlib.Core.List.Memᴰ.{append_cases as mem-append}
use mathlib.Core.List.{List, [], ◌∷◌, Memᴰ as Mem}
use Rattle.std.proofs.Common.{⊎_elim, sym, ap, subst, ◌∙◌, arith}
use Rattle.std.proofs.Math.Option.{Option, none, some}
use Rattle.waiting_laws.specs.Answers.{answered}
use Rattle.waiting_laws.specs.Calls.{Stores, SendCall, key_send·, send·, save·, message·, begin_flight·, resend·, note·, send_ack·, ack·, fill·, sealed·, take·, stored, lending, Short, only}
use Rattle.waiting_laws.proofs.Fresh.{fresh_holds}
use Rattle.queue.specs.Queue.{is_setting}
use Rattle.history_theorem.specs.Account.{sealed_over}
use Rattle.ends_theorem.proofs.Starting.{ranges-setting}
use Rattle.assembly_theorem.proofs.Theorem.{Story, does_story, new_story}
use Rattle.assembly_theorem.proofs.Rules.{does-within, new-within}
use Rattle.assembly_theorem.specs.Rules.{Within}
use Rattle.ends_theorem.proofs.Given.{Given, given-keeps, given-lies, took-all}
use Rattle.base.specs.Choose.{by_test}
use Rattle.opening_reply.specs.Opening.{shown_by, Opening}
use Rattle.receiving.specs.declared.Receiving.{Receiving}
use Rattle.send_keys.specs.Keys.{next_of}
use Rattle.outgoing.specs.State.{fresh_sending}
use Rattle.flight.specs.declared.Flight.{Flight}
use Rattle.history_theorem.specs.Claim.{Masks, Once, FairCall}
use Rattle.history_theorem.proofs.Direction.{trials_grow, as_sealed-grows, handed-grows}
use Rattle.history_theorem.proofs.Lists.{mem-by}
use Rattle.history_theorem.proofs.Theorem.{Link, call_keeps, received, new-link}
use Rattle.history_theorem.specs.Receiver.{
  Sealed,
  Handed,
  Out,
  handed_by,
  read_out,
  mask_out,
  open_out,
  after_read,
  after_mask,
  after_open,
  Trial,
  Receiver,
  removed_from,
  removed,
  begun,
  Inbound,
  Call,
  key·,
  remove·,
  encrypt·,
  release·,
  begin·,
  read·,
  mask·,
  write·,
  open·,
  read_over·,
  mask_over·,
  open_over·,
  finish·,
  does,
}
use Rattle.classify.specs.declared.Class.{Class}
use Rattle.classify.specs.declared.Class.TheVariants as class
use Rattle.classify_theorem.specs.Account.{Reply}
use Rattle.classify_theorem.specs.Claim.{reply_of, classifies}
use Rattle.classify_theorem.proofs.Story as classify
use Rattle.classify_theorem.proofs.Dealing.{classify_reply, classify_story, over_story}
use Rattle.classify_theorem.proofs.Hearing.{hears_story}
use Rattle.classify_theorem.proofs.Theorem as classified
use Rattle.classify_theorem.proofs.Rules as rules
use Rattle.ends_theorem.proofs.Books.{sends_by}
use Rattle.ends_theorem.specs.Claim.{SameNumbers, Holds, Startable, EveryList, TookOnly}
use Rattle.ends_theorem.proofs.Dealt.{deals}
use Rattle.ends_theorem.proofs.Every.{every-does, sends-same, sends-stores, sends-sent}
use Rattle.ends_theorem.specs.Flights.{Arrived, Held, FairNames}
use Rattle.ends_theorem.proofs.Heard.{Grows, Heard, heard-keeps, heard-grows, cleared-handed, none-heard}
use Rattle.ends_theorem.specs.Ledger.{application_data, last_number, Sent, Item, Kept, Ledger, items, oldest, after, sent_by, short_reply, clears, is_usable, owed}
use Rattle.ends_theorem.proofs.Matches.{Entries, FlightIs, Matches, Does}
use Rattle.ends_theorem.proofs.Matching.{usable-is, items-flat}
use Rattle.ends_theorem.proofs.Rules.{stop_order}
use Rattle.ends_theorem.specs.Sender.{Books, AskedFor, Sender, sends, FairSend}
use Rattle.ends_theorem.proofs.Sends.{Sends, sends_keep, sealed-grows, new-sends, nonce-is, taken_is, turned}
use Rattle.ends_theorem.proofs.Settling.{new-matches}
use Rattle.ends_theorem.proofs.Short.{short-answered, short-stays, over-all}
use Rattle.ends_theorem.proofs.Shown.{asked-oldest, wired}
use Rattle.ends_theorem.proofs.Width.{same_width, same-limit}
use Rattle.ends_theorem.specs.World.{Side, post, gateway, far, Count, Said, End, Deed, sending, over, receiving, piecing, dealing, dealing_over, Event, World, takes_in, counts_by, files, sends_as, hears_as, follows, class_of, content_in, acts, Called, FairAck, FairTold, step, run, Setting, fresh-pair, FairDeed, Honest, Took, Over, given_by}

-- the settings of the state are those that the end was created with
pub record Sized (e : End) : Type 0 where
  pub width : e.out.stores.state.queue.mtu ≡ e.mtu
  pub limit : e.out.stores.state.queue.limit ≡ e.limit

-- two sent under one number are one
one-sent : (hs : List Handed) → Once hs → (h k : Handed) → Mem h hs → Mem k hs → h.num ≡ k.num → h ≡ k
one-sent [] o h k m n same = elim m [ ]
one-sent (x ∷ hs) o h k m n same =
    mem-by m
    (λ (p : h ≡ x). mem-by n (λ (q : k ≡ x). p ∙ sym q) (λ n'. absurd (o.0 k n' (sym same ∙ ap (λ (v : Handed). v.num) p))))
    (λ m'. mem-by n (λ (q : k ≡ x). absurd (o.0 h m' (same ∙ ap (λ (v : Handed). v.num) q))) (λ n'. one-sent hs o.1 h k m' n' same))

removed-from : (y : Receiver) (s : Receiving) (k : ℕ) (t : Option Trial) → (removed_from y s k t).handed ≡ y.handed
unfolding removed_from
removed-from y s k none = refl
removed-from y s k (some t) = by_test (λ (z : Receiver). z.handed ≡ y.handed) (λ a. refl) (λ a. refl)

removed-handed : (y : Receiver) (k : ℕ) → (removed y k).handed ≡ y.handed
unfolding removed
removed-handed y k = by_test (λ (z : Receiver). z.handed ≡ y.handed) (λ a. removed-from y _ k y.trial) (λ a. refl)

begun-handed : (y : Receiver) (d : List ℕ) → (begun y d).handed ≡ y.handed
unfolding begun
begun-handed y d = by_test (λ (z : Receiver). z.handed ≡ y.handed) (λ a. refl) (λ a. refl)

out-hands : (o : Out) (f : ℕ → List Handed) → Grows f (handed_by o.reading (shown_by o.reading o.datagram) f)
out-hands o f e h m = handed-grows o.reading (shown_by o.reading o.datagram) f e h m

read-hands-on : (y : Receiver) (sealed : ℕ → List Sealed) → Grows y.handed (after_read y sealed).handed
unfolding after_read
read-hands-on y sealed = out-hands (read_out y.state y.datagram) y.handed

mask-hands-on : (y : Receiver) (m : List ℕ) → Grows y.handed (after_mask y m).handed
unfolding after_mask
mask-hands-on y m = out-hands (mask_out y.state m y.datagram) y.handed

open_hands-on : (y : Receiver) (p : Opening) → Grows y.handed (after_open y p).handed
unfolding after_open
open_hands-on y p = out-hands (open_out y.state p y.datagram) y.handed

-- no call takes back what was handed over
handed-on : (sealed : ℕ → List Sealed) (i : Inbound) (c : Call) → Grows i.into.handed (does sealed i c).into.handed
handed-on sealed i (key· k iv) e h m = m
handed-on sealed i (remove· k) e h m = subst (λ (f : ℕ → List Handed). Mem h (f e)) (sym (removed-handed i.into k)) m
handed-on sealed i encrypt· e h m = m
handed-on sealed i release· e h m = m
handed-on sealed i (begin· d) e h m = subst (λ (f : ℕ → List Handed). Mem h (f e)) (sym (begun-handed i.into d)) m
handed-on sealed i read· e h m = read-hands-on i.into sealed e h m
handed-on sealed i (mask· n) e h m = mask-hands-on i.into n e h m
handed-on sealed i (write· p) e h m = m
handed-on sealed i (open· p) e h m = open_hands-on i.into p e h m
handed-on sealed i (read_over· d) e h m = m
handed-on sealed i (mask_over· n d) e h m = m
handed-on sealed i (open_over· p d) e h m = m
handed-on sealed i finish· e h m = m

-- the program's range is 01's
in-range : (s : Setting) → Startable s → is_setting s.mtu s.limit ≡ true
in-range s o = ranges-setting s.mtu s.limit (record { low = o.low; high = o.high; some = o.some; most = o.most })

fresh-width : (mtu limit : ℕ) → ((fresh_sending mtu limit).queue.mtu ≡ mtu) × ((fresh_sending mtu limit).queue.limit ≡ limit)
unfolding fresh_sending
fresh-width mtu limit = (refl, refl)

-- the state holds what matches it
held_from : (mtu : ℕ) (f : Flight) (kept : List ℕ) (i : ℕ) (ks : List Kept) → i + length ks ≤ f.saved → Entries mtu f kept i ks → Held mtu f kept i ks
held_from mtu f kept i [] l t = tt
held_from mtu f kept i (k ∷ ks) l t = (
  record { inside = omega arith; epoch = t.0.epoch; type = t.0.type; content = t.0.content; marked = t.0.marked },
  held_from mtu f kept (suc i) ks (omega arith) t.1,
)

flight-holds : (mtu : ℕ) (f : Flight) (kept : List ℕ) (ks : List Kept) → FlightIs mtu f kept ks → Held mtu f kept 0 ks
flight-holds mtu f kept ks i = held_from mtu f kept 0 ks (omega (arith, i.count)) i.each

-- only acting on an ACK empties a flight
clears-handed : (handed : ℕ → List Handed) (b : Books) (l : Ledger) (c : SendCall)
    → ((e : ℕ) (h k : Handed) → Mem h (handed e) → Mem k (b.sent e) → h.num ≡ k.num → h ≡ k)
    → FairNames handed c → Heard handed b.sent l → (k : Kept) → Mem k (clears l c) → Arrived handed k
clears-handed handed b l (key_send· e iv) one fair h k m = elim m [ ]
clears-handed handed b l (send· e t x) one fair h k m = elim m [ ]
clears-handed handed b l (save· e t x) one fair h k m = elim m [ ]
clears-handed handed b l (message· kind body) one fair h k m = elim m [ ]
clears-handed handed b l begin_flight· one fair h k m = elim m [ ]
clears-handed handed b l resend· one fair h k m = elim m [ ]
clears-handed handed b l (note· e n) one fair h k m = elim m [ ]
clears-handed handed b l send_ack· one fair h k m = elim m [ ]
clears-handed handed b l (ack· d) one fair h k m = (cleared-handed handed b.sent one l h d fair k m).1
clears-handed handed b l (fill· v) one fair h k m = elim m [ ]
clears-handed handed b l (sealed· n q) one fair h k m = elim m [ ]
clears-handed handed b l (take· buffer) one fair h k m = elim m [ ]

module _ (masks : Side → Masks) where
  -- each end sends in order and as its account says, each direction is linked, and no count moves
  pub record Good (w : World) : Type 0 where
    pub out : (s : Side) → Sends (masks s) (w s).out
    pub link : (s : Side) → Link (masks (far s)) (w (far s)).out.sealed (w s).into
    pub counts : (s : Side) → (c : Count) → Mem c (w s).counts → SameNumbers c
    pub sized : (s : Side) → Sized (w s)
    pub matches : (s : Side) → Matches (w s).out.stores (w s).ledger
    pub said : (s : Side) → (a : Said) → Mem a (w s).said → a.reply ≡ a.owed
    pub took : (s : Side) → (t : Took) → Mem t (w s).took → TookOnly t
    pub overs : (s : Side) → (o : Over) → Mem o (w s).overs → (o.queue' ≡ o.queue) × (o.kept' ≡ o.kept)
    pub given : (s : Side) → Given (w s).out.stores.state (w s).out.stores.queue (w s).given
    pub heard : (s : Side) → Heard (w s).into.into.handed (w (far s)).out.books.sent (w (far s)).ledger
    pub cleared : (s : Side) → (k : Kept) → Mem k (w (far s)).cleared → Arrived (w s).into.into.handed k
    pub pieces : (s : Side) → Story (w s).pieces × Within (w s).pieces
    pub dealings : (s : Side) → classify.Story (w s).dealings (w s).into.into

  -- ---- one sending call

  module _ (s : Side) (e : End) (c : SendCall) (h : FairSend (masks s) e.out c) (m : Matches e.out.stores e.ledger) where
    abbrev rs : List Sent
    rs = sent_by e.ledger c

    done : Does e.out.stores e.ledger c
    done = every-does (masks s) e.out e.ledger c m h

    by-account : sends_by e.out c ≡ sends e.out rs c
    by-account = sends-same e.out rs c (done.books e.out.books)

    sends-on : Sends (masks s) e.out → Sends (masks s) (sends e.out rs c)
    sends-on i = subst (Sends (masks s)) by-account (sends_keep (masks s) e.out c i h)

    matches-on : Matches (sends e.out rs c).stores (after e.ledger c)
    matches-on = subst (λ (w : Stores). Matches w (after e.ledger c)) (sym (sends-stores e.out rs c)) done.leaves

    sealed-on : (k : ℕ) (r : Sealed) → Mem r (e.out.sealed k) → Mem r ((sends e.out rs c).sealed k)
    sealed-on k r n = subst (λ (x : Sender). Mem r (x.sealed k)) by-account (sealed-grows e.out c k r n)

  -- more sealed at the far end
  grown : (log : ℕ → List Sealed) (x : Sender) (m : Masks) → ((k : ℕ) (r : Sealed) → Mem r (log k) → Mem r (x.sealed k)) → Sends m x → (i : Inbound) → Link m log i
      → Link m x.sealed i
  grown log x m on s i l = record {
    shaped = s.shaped;
    sound = l.sound;
    as_sealed = as_sealed-grows log x.sealed on i.into.handed l.as_sealed;
    trials = trials_grow log x.sealed on i.into l.trials;
    moves = l.moves;
    strays = l.strays;
    told = l.told;
  }

  -- a call that reads leaves the keys to send
  more-counts : (cs : List Count) (c : Count) → c.behind ≡ c.before → ((k : Count) → Mem k cs → SameNumbers k) → (k : Count) → Mem k (c ∷ cs) → SameNumbers k
  more-counts cs c same old k m = mem-by m (λ (p : k ≡ c). subst SameNumbers (sym p) (λ e. ap (λ l. next_of l e) same)) (λ m'. old k m')

  counts_keep : (e : End) (i : Inbound) (c : Call) → ((k : Count) → Mem k e.counts → SameNumbers k)
      → (k : Count) → Mem k (counts_by e (takes_in e i e.counts e.dealings) c) → SameNumbers k
  counts_keep e i (key· k iv) h = h
  counts_keep e i (remove· k) h = h
  counts_keep e i encrypt· h = h
  counts_keep e i release· h = h
  counts_keep e i (begin· d) h = more-counts e.counts _ refl h
  counts_keep e i read· h = more-counts e.counts _ refl h
  counts_keep e i (mask· m) h = more-counts e.counts _ refl h
  counts_keep e i (write· p) h = h
  counts_keep e i (open· p) h = more-counts e.counts _ refl h
  counts_keep e i (read_over· d) h = more-counts e.counts _ refl h
  counts_keep e i (mask_over· m d) h = more-counts e.counts _ refl h
  counts_keep e i (open_over· p d) h = more-counts e.counts _ refl h
  counts_keep e i finish· h = more-counts e.counts _ refl h

  -- a call over memory too short leaves this end's stores
  own-short : (e : End) (c : SendCall) (q k : List ℕ) → Sized e → Short e.mtu e.limit q k c → Short e.out.stores.state.queue.mtu e.out.stores.state.queue.limit q k c
  own-short e c q k o h =
      subst (λ (n : ℕ). Short e.out.stores.state.queue.mtu n q k c) (sym o.limit) (subst (λ (n : ℕ). Short n e.limit q k c) (sym o.width) h)

  over-stores : (e : End) (c : SendCall) (q k : List ℕ) → Sized e → Short e.mtu e.limit q k c
      → (lending (stored (lending e.out.stores q k) c) e.out.stores.queue e.out.stores.kept ≡ e.out.stores)
      × (answered (lending e.out.stores q k) c ≡ short_reply c)
  over-stores e c q k o h =
      let short = own-short e c q k o h in
      (short-stays e.out.stores q k c short, short-answered e.out.stores q k c short)

  -- ---- a reading dealt with

  -- what is asked of it, by what the program makes of it: nothing but for an ACK
  abbrev pub FairDone : Side → End → End → Class → List ℕ → Type 0
  FairDone s f e class.Ack c = FairAck masks s f e c
  FairDone s f e (class.Alert x) c = Unit {0}
  FairDone s f e class.Setting c = Unit {0}
  FairDone s f e class.Reply c = Unit {0}
  FairDone s f e class.Nothing c = Unit {0}
  FairDone s f e class.Beyond c = Unit {0}
  FairDone s f e class.Unprotected c = Unit {0}
  FairDone s f e class.Ignored c = Unit {0}
  FairDone s f e class.Close c = Unit {0}
  FairDone s f e class.Handshake c = Unit {0}
  FairDone s f e class.ApplicationData c = Unit {0}
  FairDone s f e class.Other c = Unit {0}
  FairDone s f e class.Unopened c = Unit {0}

  -- it acts on an ACK, leaves the rest of the datagram, or does nothing besides
  follow_by : (P : End → Type 0) (s : Side) (f e : End) (k : Class) (c : List ℕ) → P e → (FairAck masks s f e c → P (sends_as e (ack· c))) → P (hears_as f e finish·)
      → FairDone s f e k c → P (follows f e k c)
  follow_by P s f e class.Ack c same acks ends h = acks h
  follow_by P s f e (class.Alert x) c same acks ends h = ends
  follow_by P s f e class.Setting c same acks ends h = same
  follow_by P s f e class.Reply c same acks ends h = same
  follow_by P s f e class.Nothing c same acks ends h = same
  follow_by P s f e class.Beyond c same acks ends h = same
  follow_by P s f e class.Unprotected c same acks ends h = same
  follow_by P s f e class.Ignored c same acks ends h = same
  follow_by P s f e class.Close c same acks ends h = same
  follow_by P s f e class.Handshake c same acks ends h = same
  follow_by P s f e class.ApplicationData c same acks ends h = same
  follow_by P s f e class.Other c same acks ends h = same
  follow_by P s f e class.Unopened c same acks ends h = same

  -- the account owes what the program tells, so what is asked by the account is what is asked
  told-done : (s : Side) (f e : End) (k : Class) (c : List ℕ) → let r = reply_of k c in FairTold masks s f e r.verdict r.content → FairDone s f e k c
  told-done s f e class.Ack c h = h
  told-done s f e (class.Alert x) c h = tt
  told-done s f e class.Setting c h = tt
  told-done s f e class.Reply c h = tt
  told-done s f e class.Nothing c h = tt
  told-done s f e class.Beyond c h = tt
  told-done s f e class.Unprotected c h = tt
  told-done s f e class.Ignored c h = tt
  told-done s f e class.Close c h = tt
  told-done s f e class.Handshake c h = tt
  told-done s f e class.ApplicationData c h = tt
  told-done s f e class.Other c h = tt
  told-done s f e class.Unopened c h = tt

  -- a call that a host has
  called : (c : Call) {T : Type 0} → Called c T → T
  called finish· h = absurd h
  called (key· k iv) h = h
  called (remove· k) h = h
  called encrypt· h = h
  called release· h = h
  called (begin· d) h = h
  called read· h = h
  called (mask· m) h = h
  called (write· p) h = h
  called (open· p) h = h
  called (read_over· d) h = h
  called (mask_over· m d) h = h
  called (open_over· p d) h = h

  -- what is asked of a call, an ACK's dealing by the program's answer
  abbrev pub FairStep : Side → End → End → Deed → Type 0
  FairStep s f e (sending c) = FairDeed masks s f e (sending c)
  FairStep s f e (over c q k) = FairDeed masks s f e (over c q k)
  FairStep s f e (receiving c) = FairCall (masks (far s)) f.out.sealed e.into c
  FairStep s f e (piecing c) = FairDeed masks s f e (piecing c)
  FairStep s f e dealing = FairDone s f e (class_of e) (content_in e)
  FairStep s f e (dealing_over d) = FairDeed masks s f e (dealing_over d)

  pub fair-step : (s : Side) (f e : End) (d : Deed) → Link (masks (far s)) f.out.sealed e.into → classify.Story e.dealings e.into.into → FairDeed masks s f e d → FairStep s f e d
  fair-step s f e (sending c) l t h = h
  fair-step s f e (over c q k) l t h = h
  fair-step s f e (receiving c) l t h = called c h
  fair-step s f e (piecing c) l t h = h
  fair-step s f e dealing l t h =
      told-done s f e (class_of e) (content_in e)
      (subst (λ (r : Reply). FairTold masks s f e r.verdict r.content) (sym (classify_reply e.dealings e.into.into l.sound t)) h)
  fair-step s f e (dealing_over d) l t h = h

  -- ---- one call, seen from the end that acts and from the other

  out-keeps : (s : Side) (f e : End) (d : Deed) → Sends (masks s) e.out → Sized e → Matches e.out.stores e.ledger → FairStep s f e d → Sends (masks s) (acts f e d).out
  out-keeps s f e (sending c) i o m h = sends-on s e c h.0 m i
  out-keeps s f e (over c q k) i o m h = turned (masks s) e.out i _ (over-stores e c q k o h).0
  out-keeps s f e (receiving c) i o m h = i
  out-keeps s f e (piecing c) i o m h = i
  out-keeps s f e dealing i o m h =
      follow_by (λ (x : End). Sends (masks s) x.out) s f e (class_of e) (content_in e) i (λ a. sends-on s e (ack· (content_in e)) a.0 m i) i h
  out-keeps s f e (dealing_over d) i o m h = i

  own-link : (s : Side) (f e : End) (d : Deed) → Link (masks (far s)) f.out.sealed e.into → FairStep s f e d
      → Link (masks (far s)) f.out.sealed (acts f e d).into
  own-link s f e (sending c) l h = l
  own-link s f e (over c q k) l h = l
  own-link s f e (receiving c) l h = call_keeps (masks (far s)) f.out.sealed e.into l c h
  own-link s f e (piecing c) l h = l
  own-link s f e dealing l h =
      follow_by (λ (x : End). Link (masks (far s)) f.out.sealed x.into) s f e (class_of e) (content_in e) l (λ a. l)
      (call_keeps (masks (far s)) f.out.sealed e.into l finish· tt) h
  own-link s f e (dealing_over d) l h = l

  sent-link : (s : Side) (f e : End) (c : SendCall) → Sends (masks s) e.out → Matches e.out.stores e.ledger → FairStep s f e (sending c) → Link (masks s) e.out.sealed f.into
      → Link (masks s) (sends_as e c).out.sealed f.into
  sent-link s f e c i m h l = grown e.out.sealed (sends e.out (sent_by e.ledger c) c) (masks s) (sealed-on s e c h.0 m) (sends-on s e c h.0 m i) f.into l

  other-link : (s : Side) (f e : End) (d : Deed) → Sends (masks s) e.out → Matches e.out.stores e.ledger → FairStep s f e d → Link (masks s) e.out.sealed f.into
      → Link (masks s) (acts f e d).out.sealed f.into
  other-link s f e (sending c) i m h l = sent-link s f e c i m h l
  other-link s f e (over c q k) i m h l = l
  other-link s f e (receiving c) i m h l = l
  other-link s f e (piecing c) i m h l = l
  other-link s f e dealing i m h l =
      follow_by (λ (x : End). Link (masks s) x.out.sealed f.into) s f e (class_of e) (content_in e) l
      (λ a. sent-link s f e (ack· (content_in e)) i m a l) l h
  other-link s f e (dealing_over d) i m h l = l

  own-counts : (s : Side) (f e : End) (d : Deed) → FairStep s f e d → ((c : Count) → Mem c e.counts → SameNumbers c) → (c : Count) → Mem c (acts f e d).counts → SameNumbers c
  own-counts s f e (sending c) z h = h
  own-counts s f e (over c q k) z h = h
  own-counts s f e (receiving c) z h = counts_keep e (does f.out.sealed e.into c) c h
  own-counts s f e (piecing c) z h = h
  own-counts s f e dealing z h =
      follow_by (λ (x : End). (c : Count) → Mem c x.counts → SameNumbers c) s f e (class_of e) (content_in e) h (λ a. h) (counts_keep e (does f.out.sealed e.into finish·) finish· h) z
  own-counts s f e (dealing_over d) z h = h

  sent-sized : (e : End) (c : SendCall) → Sized e → Sized (sends_as e c)
  sent-sized e c o =
      let same = sends-stores e.out (sent_by e.ledger c) c in
      record {
        width = ap (λ (w : Stores). w.state.queue.mtu) same ∙ same_width e.out.stores c ∙ o.width;
        limit = ap (λ (w : Stores). w.state.queue.limit) same ∙ same-limit e.out.stores c ∙ o.limit;
      }

  own-sized : (s : Side) (f e : End) (d : Deed) → FairStep s f e d → Sized e → Sized (acts f e d)
  own-sized s f e (sending c) h o = sent-sized e c o
  own-sized s f e (over c q k) h o =
      let same = (over-stores e c q k o h).0 in
      record { width = ap (λ (w : Stores). w.state.queue.mtu) same ∙ o.width; limit = ap (λ (w : Stores). w.state.queue.limit) same ∙ o.limit }
  own-sized s f e (receiving c) h o = record { width = o.width; limit = o.limit }
  own-sized s f e (piecing c) h o = record { width = o.width; limit = o.limit }
  own-sized s f e dealing h o =
      follow_by (λ (x : End). Sized (files x (classifies e.dealings e.into.into))) s f e (class_of e) (content_in e) (record { width = o.width; limit = o.limit })
      (λ a. let z = sent-sized e (ack· (content_in e)) o in record { width = z.width; limit = z.limit })
      (record { width = o.width; limit = o.limit }) h
  own-sized s f e (dealing_over d) h o = record { width = o.width; limit = o.limit }

  own-matches : (s : Side) (f e : End) (d : Deed) → FairStep s f e d → Sized e → Matches e.out.stores e.ledger → Matches (acts f e d).out.stores (acts f e d).ledger
  own-matches s f e (sending c) h o m = matches-on s e c h.0 m
  own-matches s f e (over c q k) h o m = subst (λ (w : Stores). Matches w e.ledger) (sym (over-stores e c q k o h).0) m
  own-matches s f e (receiving c) h o m = m
  own-matches s f e (piecing c) h o m = m
  own-matches s f e dealing h o m =
      follow_by (λ (x : End). Matches x.out.stores x.ledger) s f e (class_of e) (content_in e) m (λ a. matches-on s e (ack· (content_in e)) a.0 m) m h
  own-matches s f e (dealing_over d) h o m = m

  one-said : (a : Said) (old : List Said) → a.reply ≡ a.owed → ((b : Said) → Mem b old → b.reply ≡ b.owed) → (b : Said) → Mem b (a ∷ old) → b.reply ≡ b.owed
  one-said a old new kept b n = mem-by n (λ (p : b ≡ a). subst (λ (v : Said). v.reply ≡ v.owed) (sym p) new) (λ o. kept b o)

  own-said : (s : Side) (f e : End) (d : Deed) → FairStep s f e d → Sized e → Matches e.out.stores e.ledger → ((a : Said) → Mem a e.said → a.reply ≡ a.owed)
      → (a : Said) → Mem a (acts f e d).said → a.reply ≡ a.owed
  own-said s f e (sending c) h o m old = one-said _ e.said (done s e c h.0 m).reply old
  own-said s f e (over c q k) h o m old = one-said _ e.said (over-stores e c q k o h).1 old
  own-said s f e (receiving c) h o m old = old
  own-said s f e (piecing c) h o m old = old
  own-said s f e dealing h o m old =
      follow_by (λ (x : End). (a : Said) → Mem a x.said → a.reply ≡ a.owed) s f e (class_of e) (content_in e) old
      (λ a. one-said _ e.said (done s e (ack· (content_in e)) a.0 m).reply old) old h
  own-said s f e (dealing_over d) h o m old = old

  own-took : (s : Side) (f e : End) (d : Deed) → FairStep s f e d → ((t : Took) → Mem t e.took → TookOnly t) → (t : Took) → Mem t (acts f e d).took → TookOnly t
  own-took s f e (sending c) z old = took-all e.out.stores c e.took old
  own-took s f e (over c q k) z old = took-all (lending e.out.stores q k) c e.took old
  own-took s f e (receiving c) z old = old
  own-took s f e (piecing c) z old = old
  own-took s f e dealing z old = follow_by (λ (x : End). (t : Took) → Mem t x.took → TookOnly t) s f e (class_of e) (content_in e) old (λ a. old) old z
  own-took s f e (dealing_over d) z old = old

  own-overs : (s : Side) (f e : End) (d : Deed) → FairStep s f e d → Sized e → ((o : Over) → Mem o e.overs → (o.queue' ≡ o.queue) × (o.kept' ≡ o.kept))
      → (o : Over) → Mem o (acts f e d).overs → (o.queue' ≡ o.queue) × (o.kept' ≡ o.kept)
  own-overs s f e (sending c) h z old = old
  own-overs s f e (over c q k) h z old = over-all e.out.stores q k c e.overs (own-short e c q k z h) old
  own-overs s f e (receiving c) h z old = old
  own-overs s f e (piecing c) h z old = old
  own-overs s f e dealing h z old =
      follow_by (λ (x : End). (o : Over) → Mem o x.overs → (o.queue' ≡ o.queue) × (o.kept' ≡ o.kept)) s f e (class_of e) (content_in e) old (λ a. old) old h
  own-overs s f e (dealing_over d) h z old = old

  sent-given : (s : Side) (e : End) (c : SendCall) → FairSend (masks s) e.out c → Matches e.out.stores e.ledger → Given e.out.stores.state e.out.stores.queue e.given
      → Given (sends_as e c).out.stores.state (sends_as e c).out.stores.queue (sends_as e c).given
  sent-given s e c h m g =
      subst (λ (w : Stores). Given w.state w.queue (given_by e.out.stores (owed e.ledger c) c e.given)) (sym (sends-stores e.out (sent_by e.ledger c) c))
      (given-keeps e.out.stores e.given g (owed e.ledger c) c (sym (done s e c h m).reply)
      (λ k iv p. subst (FairSend (masks s) e.out) p h))

  own-given : (s : Side) (f e : End) (d : Deed) → FairStep s f e d → Sized e → Matches e.out.stores e.ledger → Given e.out.stores.state e.out.stores.queue e.given
      → Given (acts f e d).out.stores.state (acts f e d).out.stores.queue (acts f e d).given
  own-given s f e (sending c) h z m g = sent-given s e c h.0 m g
  own-given s f e (over c q k) h z m g = subst (λ (w : Stores). Given w.state w.queue e.given) (sym (over-stores e c q k z h).0) g
  own-given s f e (receiving c) h z m g = g
  own-given s f e (piecing c) h z m g = g
  own-given s f e dealing h z m g =
      follow_by (λ (x : End). Given x.out.stores.state x.out.stores.queue x.given) s f e (class_of e) (content_in e) g
      (λ a. sent-given s e (ack· (content_in e)) a.0 m g) g h
  own-given s f e (dealing_over d) h z m g = g

  own-pieces : (s : Side) (f e : End) (d : Deed) → FairStep s f e d → Story e.pieces × Within e.pieces
      → Story (acts f e d).pieces × Within (acts f e d).pieces
  own-pieces s f e (sending c) h p = p
  own-pieces s f e (over c q k) h p = p
  own-pieces s f e (receiving c) h p = p
  own-pieces s f e (piecing c) h p = let t = does_story e.pieces c h p.0 in (t, does-within e.pieces c p.0 t p.1)
  own-pieces s f e dealing h p = follow_by (λ (x : End). Story x.pieces × Within x.pieces) s f e (class_of e) (content_in e) p (λ a. p) p h
  own-pieces s f e (dealing_over d) h p = p

  -- the readings told and dealt with
  own-dealings : (s : Side) (f e : End) (d : Deed) → FairStep s f e d → Link (masks (far s)) f.out.sealed e.into → classify.Story e.dealings e.into.into
      → classify.Story (acts f e d).dealings (acts f e d).into.into
  own-dealings s f e (sending c) h l t = t
  own-dealings s f e (over c q k) h l t = t
  own-dealings s f e (receiving c) h l t = hears_story (masks (far s)) f.out.sealed e.into l.sound e.dealings t c h
  own-dealings s f e (piecing c) h l t = t
  own-dealings s f e dealing h l t =
      let z = classify_story e.dealings e.into.into l.sound t in
      follow_by (λ (x : End). classify.Story (classifies e.dealings e.into.into) x.into.into) s f e (class_of e) (content_in e) z (λ a. z)
      (hears_story (masks (far s)) f.out.sealed e.into l.sound _ z finish· tt) h
  own-dealings s f e (dealing_over d) h l t = over_story e.dealings e.into.into l.sound t d h

  -- what was handed over was sent, and only once under its number
  one-handed : (m : Masks) (x : Sender) (i : Inbound) → Sends m x → Link m x.sealed i → (e : ℕ) (h k : Handed) → Mem h (i.into.handed e) → Mem k (x.books.sent e) → h.num ≡ k.num → h ≡ k
  one-handed m x i s l e h k a b =
      let r = l.as_sealed e h a in
      one-sent (x.books.sent e) (s.laying.numbers.once e) h k (subst (λ (v : Handed). Mem v (x.books.sent e)) (sym r.2) (s.laying.sealed-sent e r.0 r.1)) b

  -- what was sent in an epoch that may be used has numbers below its next
  below_next : (m : Masks) (x : Sender) (l : Ledger) → Sends m x → Matches x.stores l → (e : ℕ) (h : Handed) → Mem h (x.books.sent e) → is_usable l e ≡ true → h.num < l.next e
  below_next m x l s i e h n u =
      let v = usable-is i.keys e ∙ u in
      let b : h.num < next_of x.stores.state.keys e = s.laying.numbers.below e h n v in
      subst (λ (k : ℕ). h.num < k) (i.keys.next e v) b

  sent-heard : (s : Side) (f e : End) (c : SendCall) → Sends (masks s) e.out → Link (masks s) e.out.sealed f.into → Matches e.out.stores e.ledger → FairStep s f e (sending c)
      → Heard f.into.into.handed e.out.books.sent e.ledger → Heard f.into.into.handed (sends_as e c).out.books.sent (sends_as e c).ledger
  sent-heard s f e c i l m h o =
      subst (λ (sent : ℕ → List Handed). Heard f.into.into.handed sent (after e.ledger c)) (sym (sends-sent e.out (sent_by e.ledger c) c))
      (heard-keeps f.into.into.handed e.out.books e.ledger (one-handed (masks s) e.out f.into i l) (below_next (masks s) e.out e.ledger i m) o c h.1)

  own-heard : (s : Side) (f e : End) (d : Deed) → Sends (masks s) e.out → Link (masks s) e.out.sealed f.into → Matches e.out.stores e.ledger → FairStep s f e d
      → Heard f.into.into.handed e.out.books.sent e.ledger → Heard f.into.into.handed (acts f e d).out.books.sent (acts f e d).ledger
  own-heard s f e (sending c) i l m h o = sent-heard s f e c i l m h o
  own-heard s f e (over c q k) i l m h o = o
  own-heard s f e (receiving c) i l m h o = o
  own-heard s f e (piecing c) i l m h o = o
  own-heard s f e dealing i l m h o =
      follow_by (λ (x : End). Heard f.into.into.handed x.out.books.sent x.ledger) s f e (class_of e) (content_in e) o
      (λ a. sent-heard s f e (ack· (content_in e)) i l m a o) o h
  own-heard s f e (dealing_over d) i l m h o = o

  other-heard : (s : Side) (f e : End) (d : Deed) → FairStep s f e d → Heard e.into.into.handed f.out.books.sent f.ledger → Heard (acts f e d).into.into.handed f.out.books.sent f.ledger
  other-heard s f e (sending c) h o = o
  other-heard s f e (over c q k) h o = o
  other-heard s f e (receiving c) h o =
      heard-grows e.into.into.handed (does f.out.sealed e.into c).into.handed f.out.books.sent f.out.books.sent (handed-on f.out.sealed e.into c) (λ k h m. m) f.ledger o
  other-heard s f e (piecing c) h o = o
  other-heard s f e dealing h o =
      follow_by (λ (x : End). Heard x.into.into.handed f.out.books.sent f.ledger) s f e (class_of e) (content_in e) o (λ a. o) o h
  other-heard s f e (dealing_over d) h o = o

  sent-cleared : (s : Side) (f e : End) (c : SendCall) → Sends (masks s) e.out → Link (masks s) e.out.sealed f.into → FairStep s f e (sending c)
      → Heard f.into.into.handed e.out.books.sent e.ledger → ((k : Kept) → Mem k e.cleared → Arrived f.into.into.handed k)
      → (k : Kept) → Mem k (sends_as e c).cleared → Arrived f.into.into.handed k
  sent-cleared s f e c i l h o old k n =
      ⊎_elim (λ a. clears-handed f.into.into.handed e.out.books e.ledger c (one-handed (masks s) e.out f.into i l) h.1 o k a) (λ a. old k a)
      (mem-append (clears e.ledger c) n)

  own-cleared : (s : Side) (f e : End) (d : Deed) → Sends (masks s) e.out → Link (masks s) e.out.sealed f.into → FairStep s f e d
      → Heard f.into.into.handed e.out.books.sent e.ledger → ((k : Kept) → Mem k e.cleared → Arrived f.into.into.handed k)
      → (k : Kept) → Mem k (acts f e d).cleared → Arrived f.into.into.handed k
  own-cleared s f e (sending c) i l h o old = sent-cleared s f e c i l h o old
  own-cleared s f e (over c q m) i l h o old = old
  own-cleared s f e (receiving c) i l h o old = old
  own-cleared s f e (piecing c) i l h o old = old
  own-cleared s f e dealing i l h o old =
      follow_by (λ (x : End). (k : Kept) → Mem k x.cleared → Arrived f.into.into.handed k) s f e (class_of e) (content_in e) old
      (λ a. sent-cleared s f e (ack· (content_in e)) i l a o old) old h
  own-cleared s f e (dealing_over d) i l h o old = old

  arrived-grows : (a b : ℕ → List Handed) → Grows a b → (k : Kept) → Arrived a k → Arrived b k
  arrived-grows a b up k o = (o.0, o.1, up k.epoch _ o.2)

  other-cleared : (s : Side) (f e : End) (d : Deed) → FairStep s f e d → ((k : Kept) → Mem k f.cleared → Arrived e.into.into.handed k)
      → (k : Kept) → Mem k f.cleared → Arrived (acts f e d).into.into.handed k
  other-cleared s f e (sending c) h o = o
  other-cleared s f e (over c q m) h o = o
  other-cleared s f e (receiving c) h o = λ k n. arrived-grows e.into.into.handed (does f.out.sealed e.into c).into.handed (handed-on f.out.sealed e.into c) k (o k n)
  other-cleared s f e (piecing c) h o = o
  other-cleared s f e dealing h o =
      follow_by (λ (x : End). (k : Kept) → Mem k f.cleared → Arrived x.into.into.handed k) s f e (class_of e) (content_in e) o (λ a. o) o h
  other-cleared s f e (dealing_over d) h o = o

  -- ---- one event, at each side

  module _ (w : World) (d : Deed) (g : Good w) where
    step-out : (at : Side) → FairStep at (w (far at)) (w at) d → (s : Side) → Sends (masks s) (step w (record { side = at; deed = d }) s).out
    step-out post h post = out-keeps post (w gateway) (w post) d (g.out post) (g.sized post) (g.matches post) h
    step-out post h gateway = g.out gateway
    step-out gateway h post = g.out post
    step-out gateway h gateway = out-keeps gateway (w post) (w gateway) d (g.out gateway) (g.sized gateway) (g.matches gateway) h

    step-link : (at : Side) → FairStep at (w (far at)) (w at) d → (s : Side)
        → Link (masks (far s)) (step w (record { side = at; deed = d }) (far s)).out.sealed (step w (record { side = at; deed = d }) s).into
    step-link post h post = own-link post (w gateway) (w post) d (g.link post) h
    step-link post h gateway = other-link post (w gateway) (w post) d (g.out post) (g.matches post) h (g.link gateway)
    step-link gateway h post = other-link gateway (w post) (w gateway) d (g.out gateway) (g.matches gateway) h (g.link post)
    step-link gateway h gateway = own-link gateway (w post) (w gateway) d (g.link gateway) h

    step_counts : (at : Side) → FairStep at (w (far at)) (w at) d → (s : Side) → (c : Count) → Mem c (step w (record { side = at; deed = d }) s).counts → SameNumbers c
    step_counts post h post = own-counts post (w gateway) (w post) d h (g.counts post)
    step_counts post h gateway = g.counts gateway
    step_counts gateway h post = g.counts post
    step_counts gateway h gateway = own-counts gateway (w post) (w gateway) d h (g.counts gateway)

    step-sized : (at : Side) → FairStep at (w (far at)) (w at) d → (s : Side) → Sized (step w (record { side = at; deed = d }) s)
    step-sized post h post = own-sized post (w gateway) (w post) d h (g.sized post)
    step-sized post h gateway = g.sized gateway
    step-sized gateway h post = g.sized post
    step-sized gateway h gateway = own-sized gateway (w post) (w gateway) d h (g.sized gateway)

    step-matches : (at : Side) → FairStep at (w (far at)) (w at) d → (s : Side)
        → Matches (step w (record { side = at; deed = d }) s).out.stores (step w (record { side = at; deed = d }) s).ledger
    step-matches post h post = own-matches post (w gateway) (w post) d h (g.sized post) (g.matches post)
    step-matches post h gateway = g.matches gateway
    step-matches gateway h post = g.matches post
    step-matches gateway h gateway = own-matches gateway (w post) (w gateway) d h (g.sized gateway) (g.matches gateway)

    step-said : (at : Side) → FairStep at (w (far at)) (w at) d → (s : Side) → (a : Said) → Mem a (step w (record { side = at; deed = d }) s).said → a.reply ≡ a.owed
    step-said post h post = own-said post (w gateway) (w post) d h (g.sized post) (g.matches post) (g.said post)
    step-said post h gateway = g.said gateway
    step-said gateway h post = g.said post
    step-said gateway h gateway = own-said gateway (w post) (w gateway) d h (g.sized gateway) (g.matches gateway) (g.said gateway)

    step-took : (at : Side) → FairStep at (w (far at)) (w at) d → (s : Side) → (t : Took) → Mem t (step w (record { side = at; deed = d }) s).took → TookOnly t
    step-took post h post = own-took post (w gateway) (w post) d h (g.took post)
    step-took post h gateway = g.took gateway
    step-took gateway h post = g.took post
    step-took gateway h gateway = own-took gateway (w post) (w gateway) d h (g.took gateway)

    step-overs : (at : Side) → FairStep at (w (far at)) (w at) d → (s : Side) → (o : Over) → Mem o (step w (record { side = at; deed = d }) s).overs
        → (o.queue' ≡ o.queue) × (o.kept' ≡ o.kept)
    step-overs post h post = own-overs post (w gateway) (w post) d h (g.sized post) (g.overs post)
    step-overs post h gateway = g.overs gateway
    step-overs gateway h post = g.overs post
    step-overs gateway h gateway = own-overs gateway (w post) (w gateway) d h (g.sized gateway) (g.overs gateway)

    step_given : (at : Side) → FairStep at (w (far at)) (w at) d → (s : Side)
        → Given (step w (record { side = at; deed = d }) s).out.stores.state (step w (record { side = at; deed = d }) s).out.stores.queue (step w (record { side = at; deed = d }) s).given
    step_given post h post = own-given post (w gateway) (w post) d h (g.sized post) (g.matches post) (g.given post)
    step_given post h gateway = g.given gateway
    step_given gateway h post = g.given post
    step_given gateway h gateway = own-given gateway (w post) (w gateway) d h (g.sized gateway) (g.matches gateway) (g.given gateway)

    step-pieces : (at : Side) → FairStep at (w (far at)) (w at) d → (s : Side)
        → Story (step w (record { side = at; deed = d }) s).pieces × Within (step w (record { side = at; deed = d }) s).pieces
    step-pieces post h post = own-pieces post (w gateway) (w post) d h (g.pieces post)
    step-pieces post h gateway = g.pieces gateway
    step-pieces gateway h post = g.pieces post
    step-pieces gateway h gateway = own-pieces gateway (w post) (w gateway) d h (g.pieces gateway)

    step-dealings : (at : Side) → FairStep at (w (far at)) (w at) d → (s : Side)
        → classify.Story (step w (record { side = at; deed = d }) s).dealings (step w (record { side = at; deed = d }) s).into.into
    step-dealings post h post = own-dealings post (w gateway) (w post) d h (g.link post) (g.dealings post)
    step-dealings post h gateway = g.dealings gateway
    step-dealings gateway h post = g.dealings post
    step-dealings gateway h gateway = own-dealings gateway (w post) (w gateway) d h (g.link gateway) (g.dealings gateway)

    step-heard : (at : Side) → FairStep at (w (far at)) (w at) d → (s : Side)
        → Heard (step w (record { side = at; deed = d }) s).into.into.handed (step w (record { side = at; deed = d }) (far s)).out.books.sent (step w (record { side = at; deed = d }) (far s)).ledger
    step-heard post h post = other-heard post (w gateway) (w post) d h (g.heard post)
    step-heard post h gateway = own-heard post (w gateway) (w post) d (g.out post) (g.link gateway) (g.matches post) h (g.heard gateway)
    step-heard gateway h post = own-heard gateway (w post) (w gateway) d (g.out gateway) (g.link post) (g.matches gateway) h (g.heard post)
    step-heard gateway h gateway = other-heard gateway (w post) (w gateway) d h (g.heard gateway)

    step-cleared : (at : Side) → FairStep at (w (far at)) (w at) d → (s : Side)
        → (k : Kept) → Mem k (step w (record { side = at; deed = d }) (far s)).cleared → Arrived (step w (record { side = at; deed = d }) s).into.into.handed k
    step-cleared post h post = other-cleared post (w gateway) (w post) d h (g.cleared post)
    step-cleared post h gateway = own-cleared post (w gateway) (w post) d (g.out post) (g.link gateway) h (g.heard gateway) (g.cleared gateway)
    step-cleared gateway h post = own-cleared gateway (w post) (w gateway) d (g.out gateway) (g.link post) h (g.heard post) (g.cleared post)
    step-cleared gateway h gateway = other-cleared gateway (w post) (w gateway) d h (g.cleared gateway)

  step_keeps : (w : World) (v : Event) → Good w → FairStep v.side (w (far v.side)) (w v.side) v.deed → Good (step w v)
  step_keeps w v g h = record {
    out = step-out w v.deed g v.side h;
    link = step-link w v.deed g v.side h;
    counts = step_counts w v.deed g v.side h;
    sized = step-sized w v.deed g v.side h;
    matches = step-matches w v.deed g v.side h;
    said = step-said w v.deed g v.side h;
    took = step-took w v.deed g v.side h;
    overs = step-overs w v.deed g v.side h;
    given = step_given w v.deed g v.side h;
    heard = step-heard w v.deed g v.side h;
    cleared = step-cleared w v.deed g v.side h;
    pieces = step-pieces w v.deed g v.side h;
    dealings = step-dealings w v.deed g v.side h;
  }

  pub run-keeps : (w : World) (vs : List Event) → Good w → Honest masks w vs → Good (run w vs)
  run-keeps w [] g h = g
  run-keeps w (v ∷ vs) g h =
      let at = v.side in
      let fair = fair-step at (w (far at)) (w at) v.deed (g.link at) (g.dealings at) h.0 in
      run-keeps (step w v) vs (step_keeps w v g fair) h.1

  pub new-good : (settings : Side → Setting) → ((s : Side) → Startable (settings s)) → Good (fresh-pair settings)
  new-good settings ok = record {
    out = λ s. new-sends (masks s) (settings s).mtu (settings s).limit (settings s).queue (settings s).kept (in-range (settings s) (ok s)) (ok s).room;
    link = λ s. new-link (masks (far s)) (settings s).min (ok s).min;
    counts = λ s c m. elim m [ ];
    sized = λ s. record { width = (fresh-width (settings s).mtu (settings s).limit).0; limit = (fresh-width (settings s).mtu (settings s).limit).1 };
    matches = λ s. new-matches (settings s).mtu (settings s).limit (settings s).queue (settings s).kept (in-range (settings s) (ok s)) (ok s).room;
    said = λ s a m. elim m [ ];
    took = λ s t m. elim m [ ];
    overs = λ s o m. elim m [ ];
    given = λ s. record { ds = []; holds = fresh_holds (settings s).mtu (settings s).limit (settings s).queue (in-range (settings s) (ok s)) (ok s).room; is = tt };
    heard = λ s. none-heard (λ e. []) (λ e. []);
    cleared = λ s k m. elim m [ ];
    pieces = λ s. (new_story, new-within);
    dealings = λ s. classified.new_story (settings s).min;
  }

  pub holds : (w : World) → Good w → (s : Side) (e : ℕ) → Holds w s e
  holds w g s e =
      let m = g.matches (far s) in
      record {
        received = received (masks (far s)) (w (far s)).out.sealed (w s).into (g.link s) e;
        moved_no_number = g.counts s;
        acked-handed = λ k two n acked. ((g.heard s).each k n).acked-handed acked two;
        cleared-handed = g.cleared s;
        assembled = (g.pieces s).0.holds;
        within = (g.pieces s).1;
        classified = classified.classified (w s).dealings (w s).into.into (g.link s).sound (g.dealings s);
        handed-on =
            rules.handed-on (w s).dealings (w (far s)).out.sealed (w s).into e
            (classified.classified (w s).dealings (w s).into.into (g.link s).sound (g.dealings s))
            (received (masks (far s)) (w (far s)).out.sealed (w s).into (g.link s) e);
        deals = deals (w (far s)) (w s) (g.link s).sound (g.dealings s);
        flight-held =
            subst (λ (n : ℕ). Held n (w (far s)).out.stores.flight (w (far s)).out.stores.kept 0 (w (far s)).ledger.saved) (sym m.mtu ∙ (g.sized (far s)).width)
            (flight-holds (w (far s)).ledger.mtu (w (far s)).out.stores.flight (w (far s)).out.stores.kept (w (far s)).ledger.saved m.flight);
        flight-whole = m.flight.count;
        own-sendings = (g.heard s).apart;
        answers = g.said (far s);
        overs-kept = g.overs (far s);
        took-only = g.took (far s);
        given-lies =
            given-lies (w (far s)).out.stores.state (w (far s)).out.stores.queue (w (far s)).given (g.given (far s)) (g.out (far s)).ds (g.out (far s)).laying.holds (w (far s)).out.lent
            (g.out (far s)).lent;
        sealed-once = (g.out (far s)).once e;
        sealed-sent = (g.out (far s)).laying.sealed-sent e;
        sent-once = (g.out (far s)).laying.numbers.once e;
        saved-sent = λ k m. ((g.heard s).each k m).logged;
        taken-lines = taken_is (masks (far s)) (w (far s)).out (g.out (far s));
        sealed-wired = λ r n. wired (masks (far s)) e r ((g.out (far s)).shaped e r n);
        seal-asked =
            subst (λ (is : List Item). AskedFor (w (far s)).out.lent (oldest is)) (sym (items-flat m.ds) ∙ ap items m.queue)
            (asked-oldest (w (far s)).out.stores.state (w (far s)).out.stores.queue (g.out (far s)).ds m.ds (g.out (far s)).laying.holds m.holds (w (far s)).out.lent
            (g.out (far s)).lent);
        seal_nonce = nonce-is (masks (far s)) (w (far s)).out (g.out (far s));
      }

  -- every state that a list of calls leads to is as its account
  reached : (settings : Side → Setting) → ((s : Side) → Startable (settings s)) → (vs : List Event) → Honest masks (fresh-pair settings) vs → Good (run (fresh-pair settings) vs)
  reached settings ok vs honest = run-keeps (fresh-pair settings) vs (new-good settings ok) honest

-- every list of calls
pub every_list : EveryList
every_list settings ok masks vs honest s e = holds masks (run (fresh-pair settings) vs) (reached masks settings ok vs honest) s e

-- behind every list of calls the state of each end is as its account
pub always_matches : (settings : Side → Setting) → ((s : Side) → Startable (settings s)) → (masks : Side → Masks) (vs : List Event) → Honest masks (fresh-pair settings) vs
    → (s : Side) → let e = run (fresh-pair settings) vs s in Matches e.out.stores e.ledger
always_matches settings ok masks vs honest s = (reached masks settings ok vs honest).matches s

-- a host that keeps the rules can always send its stop order: with an application epoch keyed, a record that a datagram holds, a datagram free
-- in the queue and a number left, the call is done, after every list of calls
pub stop_order-sent : (settings : Side → Setting) → ((s : Side) → Startable (settings s)) → (masks : Side → Masks) (vs : List Event) → Honest masks (fresh-pair settings) vs
    → (s : Side) (x : List ℕ) → let e = run (fresh-pair settings) vs s in
    let l = e.ledger in
    3 ≤ l.application → length x + sealed_over ≤ l.mtu → l.mtu ≤ 1500 → length l.queue < l.limit → l.next l.application < last_number
    → answered e.out.stores (send· l.application application_data x) ≡ only 0
stop_order-sent settings ok masks vs honest s x key fits mtu room num =
    let e = run (fresh-pair settings) vs s in
    (every-does (masks s) e.out e.ledger (send· e.ledger.application application_data x) ((reached masks settings ok vs honest).matches s) tt).reply
    ∙ ap only (stop_order e.ledger x key fits mtu room num)
