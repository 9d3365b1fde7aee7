-- A resend does what the account says: it is answered so, leaves that, and sends those records. Assumes nothing.
use Prim.Native.Nat.{ℕ, zero, suc, ◌+◌, ◌*◌, ◌<◌, ◌≤◌}
use borrow.Author.Tests.{eqb-true, eq-eqb, ne_eqb, ltb-true, ltb-false, le-leb, lt-leb, le-ltb}
use Rattle.std.specs.Prelude.{eqb, leb, Bool, Ok}
use Rattle.std.proofs.Math.Dec.{ltb}
use Rattle.std.proofs.Math.ListN.{length, get_or}
use Rattle.std.proofs.Common.{length-append, ◌∙◌}
use Rattle.std.proofs.Math.Bool.{true, false}
use mathlib.Core.List.{List, [], ◌∷◌, ◌++◌, append_assoc, append-nil}
use Rattle.std.proofs.Math.Logic.{⊎_elim}
use Rattle.std.proofs.Math.Path.{◌≡◌, refl, sym, ap, subst}
use native.Mathlib.Omega.{arith}
use Rattle.base.specs.Choose.{choose, both, either, if_true, if_false, by_test, test_cases, both_true, either_true, either-false}
use Rattle.base.specs.Parts.{part}
use Rattle.queue.specs.declared.Tail.{Tail}
use Rattle.queue.specs.Laid.{record_len}
use Rattle.queue.specs.Queue.{tail_of, place_of, grown}
use Rattle.send_keys.specs.declared.SendKeys.{SendKeys}
use Rattle.send_keys.specs.Keys.{is_usable, next_of}
use Rattle.outgoing.specs.Send.{laid_state, laid_memory, send_answer}
use Rattle.flight.specs.declared.Entry.{Entry}
use Rattle.flight.specs.declared.Flight.{Flight}
use Rattle.flight.specs.Flight.{entry_at}
use Rattle.resend.specs.Resend.{with_number, can_remember, renewed, Laying, content_at, again_answer, again_at, again_after, resend_state, resend_queue}
use Rattle.resend.proofs.Resend.{can-few}
use Rattle.resend.specs.Tests.{remembers, has_room, passes, all_pass, joined, tail_after, count_after, is_over, is_spent, any_spent, closed_state, fit_answer, resend_answer}
use Rattle.resend_laws.specs.Plan.{Able, able}
use Rattle.resend_laws.specs.Steps.{Tables, Reached}
use Rattle.resend_laws.proofs.Steps.{again_skips, again-lays, renewed-entries, renewed-numbers, renewed-saved, renewed-other, again-done, reaches}
use Rattle.resend_laws.proofs.Whole.{can-remember, renewed-own, renewed-cell, renewed-cells}
use Rattle.waiting_laws.specs.Answers.{answered}
use Rattle.waiting_laws.specs.Calls.{Stores, resend·, stored}
use Rattle.waiting_laws.proofs.Resends.{closed-holds}
use Rattle.waiting_laws.proofs.Sends as sends
use Rattle.history_theorem.proofs.Lists.{upd-by, by_both}
use Rattle.send_keys.specs.Answer.{SendAnswer, is_done, refusal, done-number}
use Rattle.ends_theorem.proofs.Books.{lays, again_books, closing, resend_books}
use Rattle.ends_theorem.proofs.Counting.{unacked-is}
use Rattle.ends_theorem.proofs.Laws.{enters-append, under, or_is}
use Rattle.ends_theorem.specs.Ledger as ledger
use Rattle.ends_theorem.specs.Ledger.{Kept, Going, Ledger, first_of, known, with_saved, sends_again, again, all, resend_number, closes}
use Rattle.ends_theorem.proofs.Matches.{TailIs, older, EntryIs, Entries, FlightIs, Matches, Does}
use Rattle.ends_theorem.proofs.Matching.{usable-is, keyed-is, allowed-is, ready-is, kept-is, tail-is, tail-lays, laid_stores, laid-matches, beside, wholly}
use Rattle.ends_theorem.specs.Sender.{Books, enters, enters_all}

-- ---- the numbers that a saved record is known by

length-older : (table : List ℕ) (i n : ℕ) → length (older table i n) ≡ n
length-older table i zero = refl
length-older table i (suc n) = ap suc (length-older table i n)

first-few : (ns : List ℕ) → length (first_of ns) ≤ 1
first-few [] = omega arith
first-few (n ∷ ns) = omega arith

module _ {mtu i : ℕ} {table kept : List ℕ} {x : Entry} {k : Kept} (e : EntryIs mtu table kept i x k) where
  known_many : length (known k) ≡ suc x.remembered
  known_many = ap length e.numbers ∙ ap suc (length-older table i x.remembered)

  remembers-is : remembers x ≡ both (eqb k.type 22) (leb 2 k.epoch)
  unfolding remembers
  remembers-is = λ j. both (eqb (e.type j) 22) (leb 2 (e.epoch j))

  -- one that remembers none is known by its last number alone
  known_alone : remembers x ≡ false → x.remembered ≡ 0
  unfolding known
  known_alone r =
      let last : length (known k) ≡ length (first_of k.sendings) = ap length (if_false _ _ (sym remembers-is ∙ r)) in
      omega (arith, known_many, first-few k.sendings)

  -- 22
  room-is : has_room x ≡ leb (length (known k)) 32
  unfolding has_room
  room-is =
      test_cases (remembers x)
      (λ r. if_true _ _ r ∙ test_cases (ltb x.remembered 32)
      (λ t. t ∙ sym (le-leb (length (known k)) 32 (omega (arith, known_many, ltb-true x.remembered 32 t))))
      (λ t. t ∙ sym (lt-leb (length (known k)) 32 (omega (arith, known_many, ltb-false x.remembered 32 t)))))
      (λ r. if_false _ _ r ∙ sym (le-leb (length (known k)) 32 (omega (arith, known_many, known_alone r))))

-- ---- a test over all records

both-last : (a b r : Bool) → both (choose b a false) r ≡ both a (both b r)
unfolding both choose
both-last true true r = refl
both-last true false r = refl
both-last false true r = refl
both-last false false r = refl

both_end : (a : Bool) → both a true ≡ a
unfolding both
both_end true = refl
both_end false = refl

-- the program goes through them from the back
all-passes : (test : ℕ) (k : SendKeys) (mtu : ℕ) (f : Flight) (slot : ℕ) (kept : List ℕ) (p : Kept → Bool)
    → ((i : ℕ) (x : Kept) → EntryIs slot f.numbers kept i (entry_at f i) x → passes test k mtu (entry_at f i) ≡ either x.acked (p x))
    → (i : ℕ) (ks : List Kept) → Entries slot f kept i ks → all_pass test k mtu f (i + length ks) ≡ both (all_pass test k mtu f i) (all p ks)
unfolding all_pass
all-passes test k mtu f slot kept p one i [] e = let z : i + 0 ≡ i = omega arith in ap (all_pass test k mtu f) z ∙ sym (both_end _)
all-passes test k mtu f slot kept p one i (x ∷ ks) e =
    let z : i + suc (length ks) ≡ suc i + length ks = omega arith in
    ap (all_pass test k mtu f) z ∙ all-passes test k mtu f slot kept p one (suc i) ks e.1
    ∙ both-last (all_pass test k mtu f i) (passes test k mtu (entry_at f i)) (all p ks)
    ∙ ap (λ (b : Bool). both (all_pass test k mtu f i) (both b (all p ks))) (one i x e.0)

abbrev pass_all : Stores → ℕ → Bool
pass_all w test = all_pass test w.state.keys w.state.queue.mtu w.flight w.flight.saved

module _ (w : Stores) (l : Ledger) (i : Matches w l) where
  tested : (test : ℕ) (p : Kept → Bool)
      → ((j : ℕ) (x : Kept) → EntryIs l.mtu w.flight.numbers w.kept j (entry_at w.flight j) x
      → passes test w.state.keys w.state.queue.mtu (entry_at w.flight j) ≡ either x.acked (p x))
      → pass_all w test ≡ all p l.saved
  unfolding all_pass both
  tested test p one =
      let z : w.flight.saved ≡ 0 + length l.saved = omega (arith, i.flight.count) in
      ap (all_pass test w.state.keys w.state.queue.mtu w.flight) z
      ∙ all-passes test w.state.keys w.state.queue.mtu w.flight l.mtu w.kept p one 0 l.saved i.flight.each

  -- 13, 14, 17, 22
  all-usable : pass_all w 0 ≡ all (λ k. ledger.is_usable l k.epoch) l.saved
  unfolding passes choose
  all-usable = tested 0 _ (λ j x e. or_is e.marked (usable-is i.keys _ ∙ ap (ledger.is_usable l) e.epoch))

  all-allowed : pass_all w 1 ≡ all (λ k. ledger.is_allowed l k.epoch k.type (length k.content)) l.saved
  unfolding passes choose
  all-allowed =
      tested 1 _ (λ j x e. or_is e.marked (allowed-is w.state.queue.mtu l i.mtu _ _ _ ∙ (λ d. ledger.is_allowed l (e.epoch d) (e.type d) (e.long d))))

  all-keyed : pass_all w 2 ≡ all (λ k. ledger.has_keys l k.epoch) l.saved
  unfolding passes choose
  all-keyed = tested 2 _ (λ j x e. or_is e.marked (keyed-is i.keys _ ∙ ap (ledger.has_keys l) e.epoch))

  all_room : pass_all w 3 ≡ all (λ k. leb (length (known k)) 32) l.saved
  unfolding passes choose
  all_room = tested 3 _ (λ j x e. or_is e.marked (room-is e))

-- ---- the account while records are sent again

-- as it begins: nothing sent, the datagram closed
abbrev begins_again : Ledger → Going
begins_again l = record { ledger = with_saved (closes l) []; sent = [] }

resent-is : (l : Ledger) → ledger.resent l ≡ again l.saved (begins_again l)
unfolding ledger.resent
resent-is l = refl

-- the program's plan against it, before the n-th record
record Planned (w : Stores) (l : Ledger) (n : ℕ) (g : Going) : Type 0 where
  tail : TailIs (tail_after w.state.queue.mtu (tail_of (closed_state w.state).queue) w.flight n) g.ledger
  next : (e : ℕ) → g.ledger.next e ≡ l.next e + count_after w.flight e n
  mtu : g.ledger.mtu ≡ w.state.queue.mtu
  application : g.ledger.application ≡ l.application

module _ (w : Stores) (l : Ledger) (n : ℕ) (g : Going) (p : Planned w l n g) (k : Kept)
    (e : EntryIs l.mtu w.flight.numbers w.kept n (entry_at w.flight n) k) where
  abbrev mtu : ℕ
  mtu = w.state.queue.mtu

  abbrev end : Tail
  end = tail_after w.state.queue.mtu (tail_of (closed_state w.state).queue) w.flight n

  passed_planned : k.acked ≡ true → Planned w l (suc n) (ledger.passes k g)
  unfolding tail_after joined count_after
  passed_planned m =
      let y : (entry_at w.flight n).marked ≡ true = e.marked ∙ m in
      record {
        tail = subst (λ (t : Tail). TailIs t (ledger.passes k g).ledger) (sym (if_true _ _ y)) (record { used = p.tail.used; joinable = p.tail.joinable; count = p.tail.count });
        next = λ d. let z : ◌≡◌ {A = ℕ} (choose (entry_at w.flight n).marked 0 (choose (eqb (entry_at w.flight n).epoch d) 1 0)) 0 = if_true _ _ y in omega (arith, p.next d);
        mtu = p.mtu;
        application = p.application;
      }

  sent_planned : k.acked ≡ false → Planned w l (suc n) (sends_again k g)
  unfolding tail_after joined count_after sends_again ledger.lays
  sent_planned m =
      let x : Entry = entry_at w.flight n in
      let y : x.marked ≡ false = e.marked ∙ m in
      let t : TailIs (grown (place_of g.ledger.mtu end (record_len k.epoch (length k.content))) (record_len k.epoch (length k.content))) (ledger.lays g.ledger k.epoch (length k.content)) =
      tail-lays end g.ledger p.tail k.epoch (length k.content) in
      let same : choose x.marked end (grown (place_of mtu end (record_len x.epoch x.length)) (record_len x.epoch x.length))
      ≡ grown (place_of g.ledger.mtu end (record_len k.epoch (length k.content))) (record_len k.epoch (length k.content)) =
      if_false _ _ y ∙ (λ j. grown (place_of (sym p.mtu j) end (record_len (e.epoch j) (e.long j))) (record_len (e.epoch j) (e.long j))) in
      record {
        tail = subst (λ (v : Tail). TailIs v (sends_again k g).ledger) (sym same) (record { used = t.used; joinable = t.joinable; count = t.count });
        next = λ d.
            upd-by g.ledger.next k.epoch (g.ledger.next k.epoch + 1) (λ d v. v ≡ l.next d + (count_after w.flight d n + choose x.marked 0 (choose (eqb x.epoch d) 1 0))) d
            (λ (q : d ≡ k.epoch).
            let one : ◌≡◌ {A = ℕ} (choose x.marked 0 (choose (eqb x.epoch d) 1 0)) 1 = if_false _ _ y ∙ if_true _ _ (eq-eqb x.epoch d (e.epoch ∙ sym q)) in
            let z : g.ledger.next k.epoch ≡ g.ledger.next d = ap g.ledger.next (sym q) in
            omega (arith, p.next d))
            (λ q.
            let none : ◌≡◌ {A = ℕ} (choose x.marked 0 (choose (eqb x.epoch d) 1 0)) 0 = if_false _ _ y ∙ if_false _ _ (ne_eqb x.epoch d (λ z. q (sym z ∙ e.epoch))) in
            omega (arith, p.next d));
        mtu = p.mtu;
        application = p.application;
      }

planned_all : (w : Stores) (l : Ledger) (n : ℕ) (ks : List Kept) (g : Going) → Entries l.mtu w.flight w.kept n ks → Planned w l n g
    → Planned w l (n + length ks) (again ks g)
unfolding again
planned_all w l n [] g es p = let z : n ≡ n + 0 = omega arith in subst (λ (m : ℕ). Planned w l m g) z p
planned_all w l n (k ∷ ks) g es p =
    let z : suc n + length ks ≡ n + suc (length ks) = omega arith in
    subst (λ (m : ℕ). Planned w l m (again ks (choose k.acked (ledger.passes k g) (sends_again k g)))) z
    (planned_all w l (suc n) ks (choose k.acked (ledger.passes k g) (sends_again k g)) es.1
    (by_test (Planned w l (suc n)) (passed_planned w l n g p k es.0) (sent_planned w l n g p k es.0)))

-- ---- the answer

abbrev Told : SendAnswer → ℕ → Type 0
Told a n = refusal a ≡ n

abbrev answer_of : Stores → SendAnswer
answer_of w = resend_answer w.state w.flight (length w.queue) (length w.kept)

module _ (w : Stores) (l : Ledger) (i : Matches w l) where
  -- the closed datagram's state against the account that begins
  begun-matches : Matches (record { state = closed_state w.state; queue = w.queue; flight = w.flight; kept = w.kept; notes = w.notes }) (closes l)
  unfolding closed_state
  begun-matches = record {
    ds = i.ds;
    holds = unfold closed_state in (closed-holds w.state w.queue i.ds i.holds);
    queue = i.queue;
    closed = refl;
    mtu = i.mtu;
    limit = i.limit;
    room = i.room;
    keys = record { two = i.keys.two; application = i.keys.application; next = i.keys.next; most = i.keys.most };
    messages = i.messages;
    flight = i.flight;
    noted = i.noted;
  }

  all_planned : Planned w l w.flight.saved (ledger.resent l)
  unfolding tail_after count_after
  all_planned =
      let z : 0 + length l.saved ≡ w.flight.saved = omega (arith, i.flight.count) in
      let t : TailIs (tail_of (closed_state w.state).queue) (closes l) = tail-is _ _ begun-matches in
      subst (λ (g : Going). Planned w l w.flight.saved g) (sym (resent-is l))
      (subst (λ (n : ℕ). Planned w l n (again l.saved (begins_again l))) z
      (planned_all w l 0 l.saved (begins_again l) i.flight.each (record {
        tail = record { used = t.used; joinable = t.joinable; count = t.count };
        next = λ e. omega arith;
        mtu = sym i.mtu;
        application = refl;
      })))

  -- 20, in an epoch that can be sent in
  spent-is : (e : ℕ) → is_usable w.state.keys e ≡ true → is_spent w.state.keys w.flight e ≡ ltb 281474976710655 ((ledger.resent l).ledger.next e)
  unfolding is_spent is_over
  spent-is e u =
      let next : next_of w.state.keys e ≡ l.next e = i.keys.next e u in
      let count : ℕ = count_after w.flight e w.flight.saved in
      test_cases (eqb count 0)
      (λ z. if_true _ _ z ∙ sym (le-ltb 281474976710655 ((ledger.resent l).ledger.next e) (omega (arith, next, i.keys.most e u, all_planned.next e, eqb-true count 0 z))))
      (λ z.
      let sum : next_of w.state.keys e + count ≡ (ledger.resent l).ledger.next e = omega (arith, next, all_planned.next e) in
      if_false _ _ z ∙ ap (ltb 281474976710655) sum)

  usable-application : is_usable w.state.keys w.state.keys.application.epoch ≡ true
  unfolding is_usable
  usable-application =
      ⊎_elim (λ (z : w.state.keys.application.epoch ≡ 0). either_true _ (eq-eqb _ 0 z))
      (λ z.
      either-false (ne_eqb _ 0 (λ (y : w.state.keys.application.epoch ≡ 0). omega arith)) ∙ either-false (ne_eqb _ 2 (λ (y : w.state.keys.application.epoch ≡ 2). omega arith))
      ∙ both_true (le-leb 3 _ z) ∙ eq-eqb w.state.keys.application.epoch _ refl) i.holds.keys.epoch

  any-spent : any_spent w.state.keys w.flight ≡ ledger.is_spent (ledger.resent l).ledger
  unfolding any_spent ledger.is_spent is_usable either
  any-spent =
      let last : is_spent w.state.keys w.flight w.state.keys.application.epoch ≡ ltb 281474976710655 ((ledger.resent l).ledger.next (ledger.resent l).ledger.application) =
      spent-is _ usable-application ∙ ap (λ (e : ℕ). ltb 281474976710655 ((ledger.resent l).ledger.next e)) (i.keys.application ∙ sym all_planned.application) in
      or_is (spent-is 0 refl) (or_is (spent-is 2 refl) last)

  fit_is : refusal (fit_answer (closed_state w.state) w.flight)
      ≡ choose (ltb l.limit (length (ledger.resent l).ledger.queue)) 19 (choose (ledger.is_spent (ledger.resent l).ledger) 20 0)
  unfolding fit_answer closed_state
  fit_is =
      by_both Told (λ j. ltb (sym i.limit j) (sym all_planned.tail.count j)) (λ f. refl) (λ f. by_both Told (sym any-spent) (λ z. refl) (λ z. refl))

  answer-is : refusal (answer_of w) ≡ resend_number l
  unfolding resend_answer resend_number
  answer-is =
      ap refusal (if_true _ _ (ready-is w l i))
      ∙ by_both Told (sym (kept-is w l i))
      (λ r. by_both Told (sym (all-usable w l i))
      (λ u. by_both Told (sym (all-allowed w l i))
      (λ a. by_both Told (sym (all-keyed w l i)) (λ k. by_both Told (sym (all_room w l i)) (λ m. fit_is) (λ m. refl)) (λ k. refl))
      (λ a. refl))
      (λ u. refl))
      (λ r. refl)

-- ---- one record of the flight renewed

older-same : (table other : List ℕ) (i n : ℕ) → ((j : ℕ) → j < n → get_or other (i * 32 + j) 0 ≡ get_or table (i * 32 + j) 0) → older other i n ≡ older table i n
older-same table other i zero h = refl
older-same table other i (suc n) h =
    let first : get_or other (i * 32 + n) 0 ≡ get_or table (i * 32 + n) 0 = h n (omega arith) in
    let rest : older other i n ≡ older table i n = older-same table other i n (λ j z. h j (omega arith)) in
    λ d. first d ∷ rest d

module _ (mtu : ℕ) (f : Flight) (kept : List ℕ) (n num : ℕ) (k : Kept) (room : has_room (entry_at f n) ≡ true) (unacked : k.acked ≡ false) (low : n < 12)
    (long : length f.entries ≡ 12) (table : length f.numbers ≡ 384) where
  abbrev x : Entry
  x = entry_at f n

  -- the flight with it
  abbrev then : Flight
  then = renewed f n num

  -- another record's entry and cells stay
  other-entry : (i : ℕ) (p : Kept) → (i ≡ n → ⊥) → EntryIs mtu f.numbers kept i (entry_at f i) p → EntryIs mtu then.numbers kept i (entry_at then i) p
  other-entry i p ne e =
      subst (λ (y : Entry). EntryIs mtu then.numbers kept i y p) (sym (renewed-other f n num i (λ q. ne (sym q)))) (record {
        epoch = e.epoch;
        type = e.type;
        long = e.long;
        short = e.short;
        content = e.content;
        marked = e.marked;
        numbers =
            e.numbers
            ∙ ap (λ (ns : List ℕ). (entry_at f i).number ∷ ns)
            (sym (older-same f.numbers then.numbers i (entry_at f i).remembered (λ j z. renewed-cells f n num (i * 32 + j) (λ c q. ne (omega (arith, e.few, can-few x c))))));
        few = e.few;
      })

  -- its own has the new number, and the old one among those before it if it is remembered
  own-numbers : EntryIs mtu f.numbers kept n x k → known (under k num) ≡ num ∷ older then.numbers n (choose (can_remember x) (x.remembered + 1) x.remembered)
  unfolding known
  own-numbers e =
      test_cases (remembers x)
      (λ r.
      let c : can_remember x ≡ true = can-remember x room ∙ r in
      let some : both (eqb k.type 22) (leb 2 k.epoch) ≡ true = sym (remembers-is e) ∙ r in
      let few : x.remembered < 32 = can-few x c in
      let one : suc x.remembered ≡ x.remembered + 1 = omega arith in
      let old : get_or then.numbers (n * 32 + x.remembered) 0 ≡ x.number = renewed-cell f n num c (omega arith) in
      let before : older then.numbers n x.remembered ≡ older f.numbers n x.remembered =
      older-same f.numbers then.numbers n x.remembered (λ j z. renewed-cells f n num (n * 32 + j) (λ d q. omega arith)) in
      if_true _ _ some
      ∙ ap (λ (ns : List ℕ). num ∷ ns) (sym (if_true _ _ some) ∙ e.numbers ∙ (λ d. sym old d ∷ sym before d) ∙ ap (older then.numbers n) (one ∙ sym (if_true _ _ c))))
      (λ r.
      let c : can_remember x ≡ false = can-remember x room ∙ r in
      if_false _ _ (sym (remembers-is e) ∙ r) ∙ ap (λ (m : ℕ). num ∷ older then.numbers n m) (sym (if_false _ _ c ∙ known_alone e r)))

  own-entry : EntryIs mtu f.numbers kept n x k → EntryIs mtu then.numbers kept n (entry_at then n) (under k num)
  unfolding with_number
  own-entry e =
      subst (λ (y : Entry). EntryIs mtu then.numbers kept n y (under k num)) (sym (renewed-own f n num (omega arith))) (record {
        epoch = e.epoch;
        type = e.type;
        long = e.long;
        short = e.short;
        content = e.content;
        marked = e.marked ∙ unacked;
        numbers = own-numbers e;
        few = by_test (λ (m : ℕ). m ≤ 32) (λ c. omega (arith, can-few x c)) (λ c. e.few);
      })

  later-entries : (i : ℕ) (ks : List Kept) → n < i → Entries mtu f kept i ks → Entries mtu then kept i ks
  later-entries i [] h es = tt
  later-entries i (p ∷ ks) h es = (other-entry i p (λ q. omega arith) es.0, later-entries (suc i) ks (omega arith) es.1)

  all-entries : (i : ℕ) (ps ks : List Kept) → i + length ps ≡ n → Entries mtu f kept i (ps ++ (k ∷ ks)) → Entries mtu then kept i (ps ++ (under k num ∷ ks))
  all-entries i [] ks h es =
      let z : i ≡ n = omega arith in (
        subst (λ (j : ℕ). EntryIs mtu then.numbers kept j (entry_at then j) (under k num)) (sym z)
            (own-entry (subst (λ (j : ℕ). EntryIs mtu f.numbers kept j (entry_at f j) k) z es.0)),
        later-entries (suc i) ks (omega arith) es.1,
      )
  all-entries i (p ∷ ps) ks h es = (other-entry i p (λ q. omega arith) es.0, all-entries (suc i) ps ks (omega arith) es.1)

  flight-renewed : (ps ks : List Kept) → length ps ≡ n → FlightIs mtu f kept (ps ++ (k ∷ ks)) → FlightIs mtu (renewed f n num) kept ((ps ++ (under k num ∷ [])) ++ ks)
  flight-renewed ps ks h i =
      subst (FlightIs mtu then kept) (sym (append_assoc ps (under k num ∷ []) ks)) (record {
        each = all-entries 0 ps ks (omega arith) i.each;
        count = length-append ps (under k num ∷ ks) ∙ sym (length-append ps (k ∷ ks)) ∙ i.count ∙ sym (renewed-saved f n num);
        most = omega (arith, renewed-saved f n num, i.most);
        long = renewed-entries f n num ∙ long;
        table = renewed-numbers f n num ∙ table;
      })

entry_in : (mtu : ℕ) (f : Flight) (kept : List ℕ) (i : ℕ) (ps : List Kept) (k : Kept) (ks : List Kept) (n : ℕ) → i + length ps ≡ n → Entries mtu f kept i (ps ++ (k ∷ ks))
    → EntryIs mtu f.numbers kept n (entry_at f n) k
entry_in mtu f kept i [] k ks n h es = let z : i ≡ n = omega arith in subst (λ (j : ℕ). EntryIs mtu f.numbers kept j (entry_at f j) k) z es.0
entry_in mtu f kept i (p ∷ ps) k ks n h es = entry_in mtu f kept (suc i) ps k ks n (omega arith) es.1

-- ---- one record after the other

-- what the host keeps while records are sent again
abbrev during : Stores → Laying → Stores
during w r = record { state = r.state; queue = r.queue; flight = r.flight; kept = w.kept; notes = w.notes }

-- the account with those still to come
abbrev coming : Going → List Kept → Ledger
coming g ks = with_saved g.ledger (g.ledger.saved ++ ks)

-- before the n-th record: state, flight and queue against the account so far, and the records sent
record Sofar (w : Stores) (n : ℕ) (g : Going) (ks : List Kept) : Type 0 where
  matches : Matches (during w (again_after w.kept (closing w) n)) (coming g ks)
  books : (b : Books) → again_books w.kept (closing w) n b ≡ enters_all g.sent b
  count : length g.ledger.saved ≡ n

module _ (w : Stores) (a : Able w.state w.flight w.kept w.queue) (t : Tables w.state w.flight) where
  module _ (n : ℕ) (below : n < w.flight.saved) (g : Going) (k : Kept) (ks : List Kept) (o : Sofar w n g (k ∷ ks)) where
    abbrev r : Laying
    r = again_after w.kept (closing w) n

    here : EntryIs g.ledger.mtu r.flight.numbers w.kept n (entry_at r.flight n) k
    here = entry_in g.ledger.mtu r.flight w.kept 0 g.ledger.saved k ks n (omega (arith, o.count)) o.matches.flight.each

    one-more : (p : Kept) → length (g.ledger.saved ++ (p ∷ [])) ≡ suc n
    one-more p = length-append g.ledger.saved (p ∷ []) ∙ omega (arith, o.count)

    -- "skips acknowledged records"
    sofar_passed : k.acked ≡ true → Sofar w (suc n) (ledger.passes k g) ks
    unfolding again_after again_books
    sofar_passed m =
        let y : (entry_at r.flight n).marked ≡ true = here.marked ∙ m in
        record {
          matches =
              subst (λ (v : Laying). Matches (during w v) (coming (ledger.passes k g) ks)) (sym (again_skips w.kept n r y))
              (subst (λ (qs : List Kept). Matches (during w r) (with_saved g.ledger qs)) (sym (append_assoc g.ledger.saved (k ∷ []) ks)) o.matches);
          books = λ b. if_true _ _ y ∙ o.books b;
          count = one-more k;
        }

    module _ (m : k.acked ≡ false) where
      still : Reached w.state w.flight n r
      still = reaches w.state w.flight w.kept w.queue a t n (omega arith)

      unmarked : (entry_at w.flight n).marked ≡ false
      unmarked = ap (λ (e : Entry). e.marked) (sym (still.later n (omega arith))) ∙ here.marked ∙ m

      content-is : content_at w.kept n r ≡ k.content
      content-is = ap (λ (u : ℕ). part (n * u) (entry_at r.flight n).length w.kept) o.matches.mtu ∙ here.content

      -- it is sent
      done : again_answer w.kept n r ≡ Ok tt
      done = again-done w.state w.flight w.kept w.queue a n below unmarked r still

      accepted : sends.Sent r.state (length r.queue) k.epoch k.type (length k.content)
      accepted =
          sends.sent r.state (length r.queue) k.epoch k.type (length k.content)
          (ap is_done (sym (λ j. send_answer r.state (length r.queue) (here.epoch j) (here.type j) (length (content-is j))) ∙ done))

      number_is : next_of r.state.keys k.epoch ≡ g.ledger.next k.epoch
      number_is = o.matches.keys.next k.epoch accepted.usable

      abbrev number : ℕ
      number = g.ledger.next k.epoch

      behind : again_at w.kept n r ≡ record {
        state = laid_state r.state k.epoch (length k.content);
        flight = renewed r.flight n number;
        queue = laid_memory r.state k.epoch k.type k.content r.queue;
      }
      behind =
          again-lays w.kept n r (here.marked ∙ m) done
          ∙ (λ j. record {
            state = laid_state r.state (here.epoch j) (length (content-is j));
            flight = renewed r.flight n (next_of r.state.keys (here.epoch j));
            queue = laid_memory r.state (here.epoch j) (here.type j) (content-is j) r.queue;
          })
          ∙ (λ j. record {
            state = laid_state r.state k.epoch (length k.content);
            flight = renewed r.flight n (number_is j);
            queue = laid_memory r.state k.epoch k.type k.content r.queue;
          })

      has-room : has_room (entry_at r.flight n) ≡ true
      has-room = ap has_room (still.later n (omega arith)) ∙ a.room n below unmarked

      sofar_sent : Sofar w (suc n) (sends_again k g) ks
      unfolding again_after again_books sends_again ledger.lays ledger.joins
      sofar_sent =
          let flight = o.matches.flight in
          record {
            matches =
                subst (λ (v : Laying). Matches (during w v) (coming (sends_again k g) ks)) (sym behind)
                (beside (laid_stores (during w r) k.epoch k.type k.content) (ledger.lays (coming g (k ∷ ks)) k.epoch (length k.content))
                (laid-matches (during w r) (coming g (k ∷ ks)) o.matches k.epoch k.type k.content accepted)
                (renewed r.flight n number) w.kept w.notes ((g.ledger.saved ++ (under k number ∷ [])) ++ ks) g.ledger.noted refl
                (flight-renewed g.ledger.mtu r.flight w.kept n number k has-room m (omega (arith, a.few)) flight.long flight.table g.ledger.saved ks o.count flight) o.matches.noted);
            books = λ b.
                if_false _ _ (here.marked ∙ m)
                ∙ (λ j. lays (done j) r.state (here.epoch j) (here.type j) (content-is j) (o.books b j))
                ∙ lays-done (enters_all g.sent b) ∙ sym (enters-append g.sent _ b);
            count = one-more (under k number);
          }
        where
          lays-done : (b : Books) → lays (Ok tt) r.state k.epoch k.type k.content b
              ≡ enters (record { epoch = k.epoch; num = number; type = k.type; content = k.content }) b
          lays-done b =
              unfold lays choose in
              (ap (λ (v : ℕ). enters (record { epoch = k.epoch; num = v; type = k.type; content = k.content }) b) number_is)

  sofar_all : (n : ℕ) (ks : List Kept) (g : Going) → n + length ks ≡ w.flight.saved → Sofar w n g ks → Sofar w (n + length ks) (again ks g) []
  unfolding again
  sofar_all n [] g h o = let z : n ≡ n + 0 = omega arith in subst (λ (m : ℕ). Sofar w m g []) z o
  sofar_all n (k ∷ ks) g h o =
      let z : suc n + length ks ≡ n + suc (length ks) = omega arith in
      let below : n < w.flight.saved = omega arith in
      subst (λ (m : ℕ). Sofar w m (again ks (choose k.acked (ledger.passes k g) (sends_again k g))) []) z
      (sofar_all (suc n) ks (choose k.acked (ledger.passes k g) (sends_again k g)) (omega arith)
      (by_test (λ (v : Going). Sofar w (suc n) v ks) (sofar_passed n below g k ks o) (sofar_sent n below g k ks o)))

-- ---- the call

module _ (w : Stores) (l : Ledger) (i : Matches w l) where
  accepted-is : eqb (resend_number l) 0 ≡ is_done (answer_of w)
  accepted-is = ap (λ (n : ℕ). eqb n 0) (sym (answer-is w l i)) ∙ done-number (answer_of w)

  -- as many as are not acknowledged
  reply-is : answered w resend· ≡ ledger.resend_reply l
  reply-is = λ j. record { number = answer-is w l i j; told = choose (sym accepted-is j) (unacked-is i.flight j) 0 }

  -- an accepted resend
  module _ (d : is_done (answer_of w) ≡ true) where
    all-sent : Sofar w w.flight.saved (ledger.resent l) []
    unfolding again_after again_books
    all-sent =
        let z : 0 + length l.saved ≡ w.flight.saved = omega (arith, i.flight.count) in
        subst (λ (g : Going). Sofar w w.flight.saved g []) (sym (resent-is l))
        (subst (λ (n : ℕ). Sofar w n (again l.saved (begins_again l)) []) z
        (sofar_all w (able w.state w.flight w.kept w.queue d) (record { slots = i.holds.table; entries = i.flight.long; numbers = i.flight.table })
        0 l.saved (begins_again l) z (record { matches = begun-matches w l i; books = λ b. refl; count = refl })))

    done-leaves : Matches (stored w resend·) (ledger.resent l).ledger
    unfolding resend_state resend_queue choose
    done-leaves =
        rw d
        (subst (λ (ks : List Kept). Matches (during w (again_after w.kept (closing w) w.flight.saved)) (with_saved (ledger.resent l).ledger ks))
        (append-nil (ledger.resent l).ledger.saved) all-sent.matches)

pub resend_does : (w : Stores) (l : Ledger) → Matches w l → Does w l resend·
unfolding resend_state resend_queue resend_books choose
resend_does w l i =
    wholly w l i resend· (is_done (answer_of w)) (reply-is w l i) (accepted-is w l i) (done-leaves w l i)
    (λ d. rw d) (λ d b. rw d ((all-sent w l i d).books b)) (λ d b. rw d)
