-- Acting on an ACK and beginning a flight, against the account: which records are marked, and when the flight empties. Assumes nothing.
use Prim.Native.Nat.{ℕ, zero, suc, ◌+◌, ◌*◌, ◌<◌, ◌≤◌, min}
use Rattle.std.proofs.Common.{eqb-true, eq-eqb, ne_eqb, ltb-true, ltb-false, le-ltb, le-leb, get_or-set_same, ◌∙◌}
use Rattle.std.proofs.lemmas.Bool.{eqb-false, lt-leb}
use Rattle.std.specs.Prelude.{ltb, eqb, length, get_or, Bool, true, false, not, ◌≡◌, Ok}
use Rattle.std.proofs.Math.ListN.{length-set}
use Rattle.std.proofs.Math.Seq.{get_or-set_other}
use mathlib.Core.List.{List, [], ◌∷◌}
use Rattle.std.proofs.Math.Logic.{⊎_elim}
use Rattle.std.proofs.Math.Path.{refl, sym, ap, subst}
use native.Mathlib.Omega.{arith}
use Rattle.base.specs.Bytes.{be_at}
use Rattle.base.specs.Choose.{choose, both, either, if_true, if_false, test_cases, both_true, both_false, eq-or_ne}
use Rattle.flight.specs.declared.Acted.{Acted}
use Rattle.flight.specs.declared.Entry.{Entry}
use Rattle.flight.specs.declared.Flight.{Flight}
use Rattle.flight.specs.Flight.{no_entry, entry_at, with_saved, begun}
use Rattle.process_ack.specs.declared.Tally.{Tally}
use Rattle.process_ack.specs.Ack as program
use Rattle.process_ack.specs.Ack.{pairs_in, is_pair, is_remembered, is_acked, with_mark, mark_at, marks_after, tally_with, tally_after, emptied, acked}
use Rattle.process_ack.proofs.Ack.{marks-saved, later_same}
use Rattle.process_ack.specs.Status.{newly_marked}
use Rattle.waiting_laws.specs.Calls.{Stores, begin_flight·, ack·, only}
use Rattle.history_theorem.specs.Account.{is_in}
use Rattle.history_theorem.proofs.Lists.{by_both}
use Rattle.send_keys.specs.Answer.{refusal}
use Rattle.ends_theorem.proofs.Counting.{unacked-is}
use Rattle.ends_theorem.proofs.Laws.{marked_as, or_is}
use Rattle.ends_theorem.specs.Ledger as ledger
use Rattle.ends_theorem.specs.Ledger.{Kept, Name, Ledger, known, unacked, is_formed, pairs_of, names_in, is_named, marked, newly_acked, any_two, all_two, is_over, acked_by, after, sent_by}
use Rattle.ends_theorem.proofs.Matches.{older, EntryIs, Entries, FlightIs, Matches, Does}
use Rattle.ends_theorem.proofs.Matching.{beside}

-- ---- tests

eqb_flip : (a b : ℕ) → eqb a b ≡ eqb b a
eqb_flip a b =
    test_cases (eqb a b) (λ t. t ∙ sym (eq-eqb b a (sym (eqb-true a b t)))) (λ t. t ∙ sym (ne_eqb b a (λ e. eqb-false a b t (sym e))))

one_of : (a x p : Bool) → choose (both a x) true p ≡ either (both a (either x false)) p
unfolding choose either both
one_of true true p = refl
one_of true false p = refl
one_of false x p = refl

none_of : (a p : Bool) → either (both a false) p ≡ p
unfolding either both
none_of true p = refl
none_of false p = refl

spread : (a x y p q : Bool) → either (both a (either x y)) (either p q) ≡ either (either (both a (either x false)) p) (either (both a y) q)
unfolding either both
spread true true y p q = refl
spread true false true true q = refl
spread true false true false q = refl
spread true false false p q = refl
spread false x y p q = refl

-- ---- the names in an ACK

formed-is : (d : List ℕ) → program.is_formed d ≡ is_formed d
unfolding program.is_formed ledger.is_formed
formed-is d =
    test_cases (ltb (length d) 2) (λ t. if_true _ _ t ∙ sym (both_false _ (lt-leb 2 (length d) (ltb-true (length d) 2 t))))
    (λ t. if_false _ _ t ∙ sym (both_true (le-leb 2 (length d) (ltb-false (length d) 2 t))))

-- one of these numbers is named in this epoch
abbrev naming : List Name → ℕ → List ℕ → Bool
naming [] e ms = false
naming (n ∷ ns) e ms = either (both (eqb n.epoch e) (is_in n.num ms)) (naming ns e ms)

naming-is : (ns : List Name) (k : Kept) → is_named ns k ≡ naming ns k.epoch (known k)
naming-is [] k = refl
naming-is (n ∷ ns) k = ap (either (both (eqb n.epoch k.epoch) (is_in n.num (known k)))) (naming-is ns k)

naming-none : (ns : List Name) (e : ℕ) → naming ns e [] ≡ false
naming-none [] e = refl
naming-none (n ∷ ns) e = none_of (eqb n.epoch e) (naming ns e []) ∙ naming-none ns e

-- the account goes over the names first, the program over the numbers
naming-more : (ns : List Name) (e m : ℕ) (ms : List ℕ) → naming ns e (m ∷ ms) ≡ either (naming ns e (m ∷ [])) (naming ns e ms)
unfolding either
naming-more [] e m ms = refl
naming-more (n ∷ ns) e m ms =
    ap (either (both (eqb n.epoch e) (is_in n.num (m ∷ ms)))) (naming-more ns e m ms)
    ∙ spread (eqb n.epoch e) (eqb m n.num) (is_in n.num ms) (naming ns e (m ∷ [])) (naming ns e ms)

named-is : (d : List ℕ) (e m n : ℕ) → program.is_named d e m n ≡ naming (pairs_of d n) e (m ∷ [])
unfolding program.is_named is_pair
named-is d e m zero = refl
named-is d e m (suc n) =
    ap (λ (p : Bool). choose (both (eqb (be_at 8 d (2 + n * 16)) e) p) true (program.is_named d e m n)) (eqb_flip (be_at 8 d (2 + n * 16 + 8)) m)
    ∙ one_of (eqb (be_at 8 d (2 + n * 16)) e) (eqb m (be_at 8 d (2 + n * 16 + 8))) (program.is_named d e m n)
    ∙ ap (either (both (eqb (be_at 8 d (2 + n * 16)) e) (either (eqb m (be_at 8 d (2 + n * 16 + 8))) false))) (named-is d e m n)

remembered_is : (d : List ℕ) (n : ℕ) (table : List ℕ) (i e j : ℕ) → is_remembered d n table i e j ≡ naming (pairs_of d n) e (older table i j)
unfolding is_remembered
remembered_is d n table i e zero = sym (naming-none (pairs_of d n) e)
remembered_is d n table i e (suc j) =
    let m : ℕ = get_or table (i * 32 + j) 0 in
    or_is (named-is d e m n) (remembered_is d n table i e j) ∙ sym (naming-more (pairs_of d n) e m (older table i j))

-- a saved record is marked as the account has it
acked-is : (d : List ℕ) (n mtu : ℕ) (table kept : List ℕ) (i : ℕ) (x : Entry) (k : Kept) → EntryIs mtu table kept i x k
    → is_acked d n table i x ≡ either k.acked (is_named (pairs_of d n) k)
unfolding is_acked
acked-is d n mtu table kept i x k o =
    let ps : List Name = pairs_of d n in
    let few : min x.remembered 32 ≡ x.remembered = omega (arith, o.few) in
    or_is o.marked
    (or_is (named-is d x.epoch x.number n)
    (ap (is_remembered d n table i x.epoch) few ∙ remembered_is d n table i x.epoch x.remembered)
    ∙ sym (naming-more ps x.epoch x.number (older table i x.remembered))
    ∙ (λ j. naming ps (o.epoch j) (sym o.numbers j)) ∙ sym (naming-is ps k))

-- ---- the marks

module _ (d : List ℕ) (n : ℕ) (f : Flight) where
  abbrev marking : ℕ → Bool
  marking i = is_acked d n f.numbers i (entry_at f i)

  marks-numbers : (k : ℕ) → (marks_after d n f k).numbers ≡ f.numbers
  unfolding marks_after mark_at
  marks-numbers zero = refl
  marks-numbers (suc k) = marks-numbers k

  marks-long : (k : ℕ) → length (marks_after d n f k).entries ≡ length f.entries
  unfolding marks_after mark_at
  marks-long zero = refl
  marks-long (suc k) = length-set (marks_after d n f k).entries k (with_mark (entry_at (marks_after d n f k) k) (marking k)) ∙ marks-long k

  marks-at : (k i : ℕ) → k ≤ length f.entries → i < k → entry_at (marks_after d n f k) i ≡ with_mark (entry_at f i) (marking i)
  unfolding marks_after mark_at
  marks-at zero i l h = absurd (omega arith)
  marks-at (suc k) i l h =
      let before : List Entry = (marks_after d n f k).entries in
      let new : Entry = with_mark (entry_at (marks_after d n f k) k) (marking k) in
      ⊎_elim
      (λ (z : i ≡ k).
      subst (λ (j : ℕ). entry_at (marks_after d n f (suc k)) j ≡ with_mark (entry_at f j) (marking j)) (sym z)
      (get_or-set_same before k new no_entry (omega (arith, marks-long k)) ∙ ap (λ (r : Entry). with_mark r (marking k)) (later_same d n f k k (omega arith))))
      (λ z. get_or-set_other before k i new no_entry z ∙ marks-at k i (omega arith) (omega arith)) (eq-or_ne i k)

  module _ (mtu : ℕ) (kept : List ℕ) (high : f.saved ≤ length f.entries) where
    marks-entry : (i : ℕ) (k : Kept) → i < f.saved → EntryIs mtu f.numbers kept i (entry_at f i) k
        → EntryIs mtu (marks_after d n f f.saved).numbers kept i (entry_at (marks_after d n f f.saved) i)
        (marked_as (pairs_of d n) k)
    unfolding with_mark known
    marks-entry i k h o =
        subst (λ (t : List ℕ). EntryIs mtu t kept i (entry_at (marks_after d n f f.saved) i) (marked_as (pairs_of d n) k)) (sym (marks-numbers f.saved))
        (subst (λ (x : Entry). EntryIs mtu f.numbers kept i x (marked_as (pairs_of d n) k)) (sym (marks-at f.saved i high h))
        (record {
          epoch = o.epoch;
          type = o.type;
          long = o.long;
          short = o.short;
          content = o.content;
          marked = acked-is d n mtu f.numbers kept i (entry_at f i) k o;
          numbers = o.numbers;
          few = o.few;
        }))

    marks-entries : (i : ℕ) (ks : List Kept) → i + length ks ≤ f.saved → Entries mtu f kept i ks
        → Entries mtu (marks_after d n f f.saved) kept i (marked (pairs_of d n) ks)
    marks-entries i [] h o = tt
    marks-entries i (k ∷ ks) h o = (marks-entry i k (omega arith) o.0, marks-entries (suc i) ks (omega arith) o.1)

marked-length : (ns : List Name) (ks : List Kept) → length (marked ns ks) ≡ length ks
marked-length ns [] = refl
marked-length ns (k ∷ ks) = ap suc (marked-length ns ks)

marks-flight : (d : List ℕ) (n mtu : ℕ) (f : Flight) (kept : List ℕ) (ks : List Kept) → FlightIs mtu f kept ks
    → FlightIs mtu (marks_after d n f f.saved) kept (marked (pairs_of d n) ks)
marks-flight d n mtu f kept ks o =
    let same = marks-saved d n f f.saved in
    record {
      each = marks-entries d n f mtu kept (omega (arith, o.most, o.long)) 0 ks (omega (arith, o.count)) o.each;
      count = marked-length (pairs_of d n) ks ∙ o.count ∙ sym same;
      most = omega (arith, o.most, same);
      long = marks-long d n f f.saved ∙ o.long;
      table = ap length (marks-numbers d n f f.saved) ∙ o.table;
    }

-- ---- how many are newly marked

newly_step : (a b : Bool) → choose (either a b) 0 1 + choose a 0 (choose b 1 0) ≡ choose a 0 1
unfolding choose either
newly_step true b = refl
newly_step false true = refl
newly_step false false = refl

newly_left : (ns : List Name) (ks : List Kept) → unacked (marked ns ks) + newly_acked ns ks ≡ unacked ks
newly_left ns [] = refl
newly_left ns (k ∷ ks) = omega (arith, newly_step k.acked (is_named ns k), newly_left ns ks)

none-step : (a : Bool) → ◌≡◌ {A = ℕ} (choose a 0 (choose false 1 0)) 0
unfolding choose
none-step true = refl
none-step false = refl

newly_none : (ks : List Kept) → newly_acked [] ks ≡ 0
newly_none [] = refl
newly_none (k ∷ ks) = omega (arith, none-step k.acked, newly_none ks)

-- ---- a flight that is over

tally-step : (t : Tally) (b m : Bool)
    → ((choose b (choose m (record { any = true; unmarked = t.unmarked }) (record { any = true; unmarked = true })) t).any ≡ either b t.any)
    × ((choose b (choose m (record { any = true; unmarked = t.unmarked }) (record { any = true; unmarked = true })) t).unmarked ≡ either (not (choose b m true)) t.unmarked)
unfolding choose either
tally-step t true true = (refl, refl)
tally-step t true false = (refl, refl)
tally-step t false m = (refl, refl)

any_step : (b c t : Bool) → either c (either b t) ≡ either (either b c) t
unfolding either
any_step true true t = refl
any_step true false t = refl
any_step false c t = refl

all-step : (b c t : Bool) → either (not c) (either (not b) t) ≡ either (not (both b c)) t
unfolding either both
all-step true c t = refl
all-step false true t = refl
all-step false false t = refl

tally-with : (t : Tally) (x : Entry) (k : Kept) → x.epoch ≡ k.epoch → x.marked ≡ k.acked
    → ((tally_with t x).any ≡ either (eqb k.epoch 2) t.any)
    × ((tally_with t x).unmarked ≡ either (not (choose (eqb k.epoch 2) k.acked true)) t.unmarked)
unfolding tally_with
tally-with t x k p q = rw (← p, ← q) (tally-step t (eqb x.epoch 2) x.marked)

-- behind all that are saved from the i-th on, the tally has what the account says
tally-is : (mtu : ℕ) (f : Flight) (kept : List ℕ) (i : ℕ) (ks : List Kept) → Entries mtu f kept i ks
    → ((tally_after f (i + length ks)).any ≡ either (any_two ks) (tally_after f i).any)
    × ((tally_after f (i + length ks)).unmarked ≡ either (not (all_two ks)) (tally_after f i).unmarked)
unfolding either tally_after
tally-is mtu f kept i [] o =
    let z : i + 0 ≡ i = omega arith in
    (ap (λ (j : ℕ). (tally_after f j).any) z, ap (λ (j : ℕ). (tally_after f j).unmarked) z)
tally-is mtu f kept i (k ∷ ks) o =
    let z : i + suc (length ks) ≡ suc i + length ks = omega arith in
    let rest = tally-is mtu f kept (suc i) ks o.1 in
    let one = tally-with (tally_after f i) (entry_at f i) k o.0.epoch o.0.marked in (
      ap (λ (j : ℕ). (tally_after f j).any) z ∙ rest.0 ∙ ap (either (any_two ks)) one.0 ∙ any_step (eqb k.epoch 2) (any_two ks) (tally_after f i).any,
      ap (λ (j : ℕ). (tally_after f j).unmarked) z ∙ rest.1 ∙ ap (either (not (all_two ks))) one.1
          ∙ all-step (choose (eqb k.epoch 2) k.acked true) (all_two ks) (tally_after f i).unmarked,
    )

over-step : {A : Type 0} (a c : Bool) (x y : A) → choose (either a false) (choose (either (not c) false) x y) x ≡ choose (both a c) y x
unfolding choose either both
over-step true true x y = refl
over-step true false x y = refl
over-step false c x y = refl

emptied-is : (mtu : ℕ) (f : Flight) (kept : List ℕ) (ks : List Kept) → FlightIs mtu f kept ks → emptied f ≡ choose (is_over ks) (with_saved f f.entries 0) f
unfolding emptied is_over tally_after
emptied-is mtu f kept ks o =
    let none : Flight = with_saved f f.entries 0 in
    let z : f.saved ≡ 0 + length ks = omega (arith, o.count) in
    let t = tally-is mtu f kept 0 ks o.each in
    ap (λ (j : ℕ). choose (tally_after f j).any (choose (tally_after f j).unmarked f none) f) z
    ∙ ap (λ (p : Bool). choose p (choose (tally_after f (0 + length ks)).unmarked f none) f) t.0
    ∙ ap (λ (p : Bool). choose (either (any_two ks) false) (choose p f none) f) t.1 ∙ over-step (any_two ks) (all_two ks) f none

-- ---- the whole

-- nothing saved
empty-flight : (mtu : ℕ) (f : Flight) (kept : List ℕ) (ks : List Kept) → FlightIs mtu f kept ks → FlightIs mtu (with_saved f f.entries 0) kept []
empty-flight mtu f kept ks o = record { each = tt; count = refl; most = omega arith; long = o.long; table = o.table }

over-flight : (mtu : ℕ) (f : Flight) (kept : List ℕ) (ks : List Kept) → FlightIs mtu f kept ks → FlightIs mtu (emptied f) kept (choose (is_over ks) [] ks)
over-flight mtu f kept ks o =
    subst (λ (g : Flight). FlightIs mtu g kept (choose (is_over ks) [] ks)) (sym (emptied-is mtu f kept ks o))
    (by_both (λ (g : Flight) (js : List Kept). FlightIs mtu g kept js) refl (λ t. empty-flight mtu f kept ks o) (λ t. o))

-- another flight
abbrev with_flight : Stores → Flight → Stores
with_flight w f = record { state = w.state; queue = w.queue; flight = f; kept = w.kept; notes = w.notes }

formed-names : (d : List ℕ) → is_formed d ≡ true → names_in d ≡ pairs_of d (pairs_in d)
unfolding names_in
formed-names d t = if_true _ _ t

module _ (w : Stores) (l : Ledger) (m : Matches w l) where
  acked-done : (d : List ℕ) → acked w.flight d ≡ record {
    answer = Ok tt;
    flight = choose (program.is_formed d) (emptied (marks_after d (pairs_in d) w.flight w.flight.saved)) w.flight;
  }
  unfolding acked
  acked-done d = if_false _ _ (le-ltb 12 w.flight.saved m.flight.most)

  ack-leaves : (d : List ℕ) → Matches (with_flight w (acked w.flight d).flight) (acked_by l d)
  unfolding acked_by
  ack-leaves d =
      subst (λ (r : Acted). Matches (with_flight w r.flight) (acked_by l d)) (sym (acked-done d))
      (by_both (λ (f : Flight) (j : Ledger). Matches (with_flight w f) j) (sym (formed-is d))
      (λ t.
      subst (λ (ns : List Name). Matches (with_flight w (emptied (marks_after d (pairs_in d) w.flight w.flight.saved)))
      (ledger.with_saved l (choose (is_over (marked ns l.saved)) [] (marked ns l.saved)))) (sym (formed-names d (sym (formed-is d) ∙ t)))
      (beside w l m _ w.kept w.notes _ l.noted refl
      (over-flight l.mtu _ w.kept _ (marks-flight d (pairs_in d) l.mtu w.flight w.kept l.saved m.flight)) m.noted))
      (λ t. m))

  -- told is how many the account newly acknowledges
  newly_is : (d : List ℕ) → newly_marked w.flight d ≡ newly_acked (names_in d) l.saved
  unfolding newly_marked names_in
  newly_is d =
      if_false _ _ (le-ltb 12 w.flight.saved m.flight.most)
      ∙ by_both (λ (a : ℕ) (ns : List Name). a ≡ newly_acked ns l.saved) (sym (formed-is d))
      (λ t.
      let o = m.flight in
      omega (
        arith,
        unacked-is o,
        unacked-is (marks-flight d (pairs_in d) l.mtu w.flight w.kept l.saved o),
        newly_left (pairs_of d (pairs_in d)) l.saved,
      ))
      (λ t. sym (newly_none l.saved))

  pub ack-does : (d : List ℕ) → Does w l (ack· d)
  unfolding after sent_by choose
  ack-does d = record {
    reply = λ j. record { number = refusal (acked-done d j).answer; told = newly_is d j };
    leaves = ack-leaves d;
    books = λ b. refl;
  }

  begun-done : begun w.flight ≡ record { answer = Ok tt; flight = with_saved w.flight w.flight.entries 0 }
  unfolding begun
  begun-done = if_true _ _ (le-leb w.flight.saved 12 m.flight.most)

  pub begin_does : Does w l begin_flight·
  unfolding after sent_by choose
  begin_does = record {
    reply = ap (λ (r : Acted). only (refusal r.answer)) begun-done;
    leaves = subst (λ (r : Acted). Matches (with_flight w r.flight) (ledger.with_saved l [])) (sym begun-done)
        (beside w l m _ w.kept w.notes [] l.noted refl (empty-flight l.mtu w.flight w.kept l.saved m.flight) m.noted);
    books = λ b. refl;
  }
