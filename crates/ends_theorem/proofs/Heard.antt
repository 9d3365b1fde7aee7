-- What an ACK marks was handed over: the saved records of the account through every call, over the account and the books alone. Assumes
-- nothing.
use Prim.Native.Nat.{ℕ, zero, suc, ◌+◌, ◌-◌, ◌<◌, ◌≤◌}
use Rattle.std.proofs.Common.{eqb-true, ⊎_elim, sym, ap, ◌∙◌, arith}
use Rattle.std.specs.Prelude.{eqb, length, true, ◌≡◌}
use Rattle.std.proofs.Math.Bool.{false}
use Rattle.std.proofs.lemmas.Bool.{false≢true}
use mathlib.Core.List.Memᴰ.{append_cases as mem-append}
use mathlib.Core.List.Memᴰ.{append_left as mem-left}
use mathlib.Core.List.Memᴰ.{append_right as mem-right}
use mathlib.Core.List.Memᴰ.{head as here}
use mathlib.Core.List.Memᴰ.{tail as there}
use mathlib.Core.List.{List, [], ◌∷◌, ◌++◌, append_assoc, append-nil, Memᴰ as Mem}
use Rattle.std.proofs.Math.Path.{refl, subst}
use Rattle.base.specs.Choose.{choose, both, if_true, by_test, both_left, both_right, either_true, either-false}
use Rattle.waiting_laws.specs.Calls.{SendCall, key_send·, send·, save·, message·, begin_flight·, resend·, note·, send_ack·, ack·, fill·, sealed·, take·}
use Rattle.history_theorem.specs.Account.{upd, is_in}
use Rattle.history_theorem.proofs.Lists.{upd_same, upd_other, upd-by, mem-by, by_both, either-cases}
use Rattle.history_theorem.specs.Receiver.{Handed}
use Rattle.ends_theorem.specs.Flights.{handed_as, Arrived, FairAck, FairNames, Differ, Away, Apart}
use Rattle.ends_theorem.proofs.Laws.{upd-grows, enters-append, under, marked_as}
use Rattle.ends_theorem.specs.Ledger.{of_two, cleared, Sent, Kept, Name, Ledger, Going, with_saved, lays, keyed, is_usable, saves, save_number, piece_size, overhead, epoch_for, piece_content, saves_on, pieces, posted, first_of, known, sends_again, passes, again, resent, all, resend_number, names_in, is_named, marked, all_two, is_over, acked_by, ack_epoch, ack_bytes, acking, owed, leaves, gives, after, sent_by, closes}
use Rattle.ends_theorem.proofs.Rules.{save_rule, resend_rule}
use Rattle.ends_theorem.specs.Sender.{Books, enters, enters_all}

-- ---- what is claimed of a saved record

pub record HeardOne (handed sent : ℕ → List Handed) (k : Kept) : Type 0 where
  -- each sending is in the books with what the host gave, and there is one
  pub logged : (n : ℕ) → Mem n k.sendings → Mem (handed_as k n) (sent k.epoch)
  pub once : (n : ℕ) × Mem n k.sendings
  pub acked-handed : k.acked ≡ true → 2 ≤ k.epoch → Arrived handed k

pub record HeardAll (handed sent : ℕ → List Handed) (ks : List Kept) : Type 0 where
  pub each : (k : Kept) → Mem k ks → HeardOne handed sent k
  pub apart : Apart ks

-- of the account's flight
abbrev pub Heard : (ℕ → List Handed) → (ℕ → List Handed) → Ledger → Type 0
Heard handed sent l = HeardAll handed sent l.saved

-- numbers sent in an epoch that can be sent in are below its next
abbrev pub Below : Ledger → (ℕ → List Handed) → (ℕ → ℕ) → Type 0
Below l sent next = (e : ℕ) (h : Handed) → Mem h (sent e) → is_usable l e ≡ true → h.num < next e

-- an empty flight, as a new end has it
pub none-heard : (handed sent : ℕ → List Handed) → HeardAll handed sent []
none-heard handed sent = record { each = λ k m. elim m [ ]; apart = tt }

-- ---- more sent, more handed over

abbrev pub Grows : (ℕ → List Handed) → (ℕ → List Handed) → Type 0
Grows a b = (e : ℕ) (h : Handed) → Mem h (a e) → Mem h (b e)

module _ (a b p q : ℕ → List Handed) (up : Grows a b) (on : Grows p q) where
  one_grows : (k : Kept) → HeardOne a p k → HeardOne b q k
  one_grows k o = record {
    logged = λ n m. on k.epoch (handed_as k n) (o.logged n m);
    once = o.once;
    acked-handed = λ t two. let r = o.acked-handed t two in (r.0, r.1, up k.epoch (handed_as k r.0) r.2);
  }

  all-grows : (ks : List Kept) → HeardAll a p ks → HeardAll b q ks
  all-grows ks o = record { each = λ k m. one_grows k (o.each k m); apart = o.apart }

  pub heard-grows : (l : Ledger) → Heard a p l → Heard b q l
  heard-grows l o = all-grows l.saved o

-- ---- the books

enters-grows : (r : Sent) (b : Books) → Grows b.sent (enters r b).sent
enters-grows r b = upd-grows b.sent r.epoch _

books_grow : (rs : List Sent) (b : Books) → Grows b.sent (enters_all rs b).sent
books_grow [] b e h m = m
books_grow (r ∷ rs) b e h m = books_grow rs (enters r b) e h (enters-grows r b e h m)

-- a record under its epoch's next number
below-enters : (l : Ledger) (b : Books) (next : ℕ → ℕ) → Below l b.sent next → (r : Sent) → r.num ≡ next r.epoch
    → Below l (enters r b).sent (upd next r.epoch (next r.epoch + 1))
below-enters l b next low r z e h =
    upd-by b.sent r.epoch _ (λ (k : ℕ) (hs : List Handed). Mem h hs → is_usable l k ≡ true → h.num < upd next r.epoch (next r.epoch + 1) k) e
    (λ q m u.
    subst (λ (k : ℕ). h.num < upd next r.epoch (next r.epoch + 1) k) (sym q)
    (subst (λ (v : ℕ). h.num < v) (sym (upd_same next r.epoch (next r.epoch + 1)))
    (mem-by m (λ (p : h ≡ record { num = r.num; type = r.type; content = r.content }). let y = ap (λ (v : Handed). v.num) p in omega arith)
    (λ m'. let y = low r.epoch h m' (subst (λ (k : ℕ). is_usable l k ≡ true) q u) in omega arith))))
    (λ q m u. subst (λ (v : ℕ). h.num < v) (sym (upd_other next r.epoch (next r.epoch + 1) e q)) (low e h m u))

-- ---- a record sent once more, under a number

abbrev sent_as : Kept → ℕ → Sent
sent_as k n = record { epoch = k.epoch; num = n; type = k.type; content = k.content }

under-heard : (handed : ℕ → List Handed) (b : Books) (k : Kept) (n : ℕ) → ((m : ℕ) → Mem m k.sendings → Mem (handed_as k m) (b.sent k.epoch))
    → HeardOne handed (enters (sent_as k n) b).sent (under k n)
under-heard handed b k n before = record {
  logged = λ m o.
      mem-by o
      (λ (p : m ≡ n).
      subst (λ (hs : List Handed). Mem (handed_as k m) hs) (sym (upd_same b.sent k.epoch (handed_as k n ∷ b.sent k.epoch))) (here (ap (handed_as k) p)))
      (λ o'. enters-grows (sent_as k n) b k.epoch (handed_as k m) (before m o'));
  once = (n, here refl);
  acked-handed = λ t two. absurd (false≢true t);
}

-- a number above all of the other's is none of them
differ_under : (g k : Kept) (n : ℕ) → (k.epoch ≡ g.epoch → (m : ℕ) → Mem m g.sendings → m < n) → Differ g k → Differ g (under k n)
differ_under g k n low d e m o p = mem-by p (λ (z : m ≡ n). let y = low e m o in omega arith) (λ p'. d e m o p')

differ_flip : (g h : Kept) → Differ g h → Differ h g
differ_flip g h d e n m o = d (sym e) n o m

away_change : (g k k' : Kept) (a c : List Kept) → (Differ g k → Differ g k') → Away g (a ++ (k ∷ c)) → Away g (a ++ (k' ∷ c))
away_change g k k' [] c f o = (f o.0, o.1)
away_change g k k' (h ∷ a) c f o = (o.0, away_change g k k' a c f o.1)

apart_change : (k k' : Kept) (a c : List Kept) → ((g : Kept) → Mem g a → Differ g k → Differ g k') → (Away k c → Away k' c) → Apart (a ++ (k ∷ c))
    → Apart (a ++ (k' ∷ c))
apart_change k k' [] c f g o = (g o.0, o.1)
apart_change k k' (h ∷ a) c f g o = (away_change h k k' a c (f h (here refl)) o.0, apart_change k k' a c (λ j m. f j (there m)) g o.1)

away_each : (k k' : Kept) (c : List Kept) → ((g : Kept) → Mem g c → Differ k g → Differ k' g) → Away k c → Away k' c
away_each k k' [] f o = tt
away_each k k' (h ∷ c) f o = (f h (here refl) o.0, away_each k k' c (λ j m. f j (there m)) o.1)

away_end : (g k : Kept) (a : List Kept) → Differ g k → Away g a → Away g (a ++ (k ∷ []))
away_end g k [] d o = (d, tt)
away_end g k (h ∷ a) d o = (o.0, away_end g k a d o.1)

apart-end : (k : Kept) (a : List Kept) → ((g : Kept) → Mem g a → Differ g k) → Apart a → Apart (a ++ (k ∷ []))
apart-end k [] f o = (tt, tt)
apart-end k (h ∷ a) f o = (away_end h k a (f h (here refl)) o.0, apart-end k a (λ j m. f j (there m)) o.1)

each-put : {P : Kept → Type 0} (a : List Kept) (k : Kept) (c : List Kept) → ((h : Kept) → Mem h a → P h) → P k → ((h : Kept) → Mem h c → P h)
    → (h : Kept) → Mem h (a ++ (k ∷ c)) → P h
each-put {P} a k c f p g h m = ⊎_elim (λ y. f h y) (λ y. mem-by y (λ (e : h ≡ k). subst P (sym e) p) (λ z. g h z)) (mem-append a m)

module _ (handed : ℕ → List Handed) (l : Ledger) (b : Books) (next : ℕ → ℕ) (low : Below l b.sent next) (k : Kept) (ok : is_usable l k.epoch ≡ true) where
  abbrev n : ℕ
  n = next k.epoch

  abbrev sent' : ℕ → List Handed
  sent' = (enters (sent_as k n) b).sent

  -- earlier sendings in its epoch are below its next number
  new_differs : (g : Kept) → HeardOne handed b.sent g → Differ g k → Differ g (under k (next k.epoch))
  new_differs g o =
      differ_under g k n
      (λ e m i.
      subst (λ (v : ℕ). m < next v) (sym e) (low g.epoch (handed_as g m) (o.logged m i) (subst (λ (v : ℕ). is_usable l v ≡ true) e ok)))

  still : (g : Kept) → HeardOne handed b.sent g → HeardOne handed (enters (sent_as k (next k.epoch)) b).sent g
  still = one_grows handed handed b.sent sent' (λ e h m. m) (enters-grows (sent_as k n) b)

  -- one of those saved
  again-heard : (a c : List Kept) → HeardAll handed b.sent (a ++ (k ∷ c))
      → HeardAll handed (enters (sent_as k (next k.epoch)) b).sent (a ++ (under k (next k.epoch) ∷ c))
  again-heard a c o =
      let ahead : (g : Kept) → Mem g a → HeardOne handed b.sent g = λ g m. o.each g (mem-left (k ∷ c) m) in
      let behind : (g : Kept) → Mem g c → HeardOne handed b.sent g = λ g m. o.each g (mem-right a (there m)) in
      record {
        each = each-put a (under k n) c (λ g m. still g (ahead g m)) (under-heard handed b k n (o.each k (mem-right a (here refl))).logged) (λ g m. still g (behind g m));
        apart = apart_change k (under k n) a c (λ g m. new_differs g (ahead g m))
            (away_each k (under k n) c (λ g m d. differ_flip g (under k n) (new_differs g (behind g m) (differ_flip k g d)))) o.apart;
      }

  -- a new one, that was not sent before
  saves-heard : k.sendings ≡ [] → (a : List Kept) → HeardAll handed b.sent a
      → HeardAll handed (enters (sent_as k (next k.epoch)) b).sent (a ++ (under k (next k.epoch) ∷ []))
  saves-heard z a o =
      let none : (m : ℕ) → Mem m k.sendings → ⊥ = λ m i. elim (subst (Mem m) z i) [ ] in
      record {
        each = each-put a (under k n) [] (λ g m. still g (o.each g m)) (under-heard handed b k n (λ m i. absurd (none m i))) (λ g m. elim m [ ]);
        apart = apart-end (under k n) a (λ g m. new_differs g (o.each g m) (λ e j i y. none j y)) o.apart;
      }

-- ---- records sent one after the other

module _ (handed : ℕ → List Handed) (l : Ledger) (b : Books) where
  -- the account on the way: those saved, or still to be looked at by a resend
  record Goes (ks : List Kept) (g : Going) : Type 0 where
    heard : HeardAll handed (enters_all g.sent b).sent ks
    below : Below l (enters_all g.sent b).sent g.ledger.next

  -- under the next number, into the books and the account
  goes_on : (g g' : Going) (k : Kept) (ks : List Kept) → Below l (enters_all g.sent b).sent g.ledger.next
      → g'.sent ≡ g.sent ++ (sent_as k (g.ledger.next k.epoch) ∷ [])
      → g'.ledger.next ≡ upd g.ledger.next k.epoch (g.ledger.next k.epoch + 1)
      → HeardAll handed (enters (sent_as k (g.ledger.next k.epoch)) (enters_all g.sent b)).sent ks → Goes ks g'
  goes_on g g' k ks low p q o =
      let r : Sent = sent_as k (g.ledger.next k.epoch) in
      let z : enters_all g'.sent b ≡ enters r (enters_all g.sent b) = ap (λ (rs : List Sent). enters_all rs b) p ∙ enters-append g.sent (r ∷ []) b in
      record {
        heard = subst (λ (c : Books). HeardAll handed c.sent ks) (sym z) o;
        below = subst (λ (c : Books). Below l c.sent g'.ledger.next) (sym z)
            (subst (λ (next : ℕ → ℕ). Below l (enters r (enters_all g.sent b)).sent next) (sym q) (below-enters l (enters_all g.sent b) g.ledger.next low r refl));
      }

  saves-goes : (e t : ℕ) (x : List ℕ) (g : Going) → is_usable l e ≡ true → Goes g.ledger.saved g → Goes (saves_on e t x g).ledger.saved (saves_on e t x g)
  unfolding saves_on saves lays
  saves-goes e t x g u o =
      let k : Kept = record { epoch = e; type = t; content = x; sendings = []; acked = false } in
      goes_on g (saves_on e t x g) k _ o.below refl refl
      (saves-heard handed l (enters_all g.sent b) g.ledger.next o.below k u refl g.ledger.saved o.heard)

  pieces_go : (j kind number : ℕ) (body : List ℕ) (at : ℕ) (g : Going) → is_usable l (epoch_for kind) ≡ true → Goes g.ledger.saved g
      → Goes (pieces j kind number body at g).ledger.saved (pieces j kind number body at g)
  unfolding pieces
  pieces_go zero kind number body at g u o = o
  pieces_go (suc j) kind number body at g u o =
      let n : ℕ = piece_size g.ledger (overhead (epoch_for kind)) (length body - at) in
      let x : List ℕ = piece_content kind number body at n in
      let one = saves-goes (epoch_for kind) 22 x g u o in
      by_test (λ (v : Going). Goes v.ledger.saved v) (λ t. one) (λ t. pieces_go j kind number body (at + n) (saves_on (epoch_for kind) 22 x g) u one)

  sends-again-goes : (k : Kept) (ks : List Kept) (g : Going) → is_usable l k.epoch ≡ true → Goes (g.ledger.saved ++ (k ∷ ks)) g
      → Goes ((sends_again k g).ledger.saved ++ ks) (sends_again k g)
  unfolding sends_again lays
  sends-again-goes k ks g u o =
      let n : ℕ = g.ledger.next k.epoch in
      goes_on g (sends_again k g) k _ o.below refl refl
      (subst (HeardAll handed (enters (sent_as k n) (enters_all g.sent b)).sent) (sym (append_assoc g.ledger.saved (under k n ∷ []) ks))
      (again-heard handed l (enters_all g.sent b) g.ledger.next o.below k u g.ledger.saved ks o.heard))

  again-goes : (ks : List Kept) (g : Going) → all (λ k. is_usable l k.epoch) ks ≡ true → Goes (g.ledger.saved ++ ks) g → Goes (again ks g).ledger.saved (again ks g)
  unfolding again
  again-goes [] g u o = subst (λ (ks : List Kept). Goes ks g) (append-nil g.ledger.saved) o
  again-goes (k ∷ ks) g u o =
      again-goes ks (choose k.acked (passes k g) (sends_again k g)) (both_right _ _ u)
      (by_test (λ (v : Going). Goes (v.ledger.saved ++ ks) v)
      (λ t. record {
        heard = subst (HeardAll handed (enters_all g.sent b).sent) (sym (append_assoc g.ledger.saved (k ∷ []) ks)) o.heard;
        below = o.below;
      })
      (λ t. sends-again-goes k ks g (sym (either-false t) ∙ both_left _ _ u) o))

epoch-usable : (l : Ledger) (kind : ℕ) → is_usable l (epoch_for kind) ≡ true
unfolding is_usable
epoch-usable l kind = by_test (λ (e : ℕ). is_usable l e ≡ true) (λ t. either_true _ refl) (λ t. either-false refl ∙ either_true _ refl)

-- ---- an ACK

in_list : (n : ℕ) (ns : List ℕ) → is_in n ns ≡ true → Mem n ns
in_list n [] t = absurd (false≢true t)
in_list n (m ∷ ns) t = either-cases (eqb m n) (is_in n ns) t (λ z. here (sym (eqb-true m n z))) (λ y z. there (in_list n ns z))

known-sent : (k : Kept) (n : ℕ) → Mem n (known k) → Mem n k.sendings
unfolding known
known-sent k n = by_test (λ (ns : List ℕ). Mem n ns → Mem n k.sendings) (λ t m. m) (λ t m. first k.sendings m)
  where
    first : (ns : List ℕ) → Mem n (first_of ns) → Mem n ns
    first [] m = m
    first (j ∷ ns) m = mem-by m (λ (z : n ≡ j). here z) (λ o. elim o [ ])

-- a record named is named by one of its sendings
named_by : (ns : List Name) (k : Kept) → is_named ns k ≡ true → (n : Name) × Mem n ns × (n.epoch ≡ k.epoch) × Mem n.num k.sendings
named_by [] k t = absurd (false≢true t)
named_by (n ∷ ns) k t =
    either-cases (both (eqb n.epoch k.epoch) (is_in n.num (known k))) (is_named ns k) t
    (λ z. (n, here refl, eqb-true _ _ (both_left _ _ z), known-sent k n.num (in_list n.num (known k) (both_right _ _ z))))
    (λ y z. let r = named_by ns k z in (r.0, there r.1, r.2, r.3))

each-marked : (P : Kept → Type 0) (ns : List Name) (ks : List Kept) → ((k : Kept) → Mem k ks → P (marked_as ns k)) → (k : Kept) → Mem k (marked ns ks) → P k
each-marked P ns [] f k m = elim m [ ]
each-marked P ns (j ∷ ks) f k m =
    mem-by m (λ (z : k ≡ marked_as ns j). subst P (sym z) (f j (here refl))) (λ o. each-marked P ns ks (λ h i. f h (there i)) k o)

marked_away : (ns : List Name) (g : Kept) (ks : List Kept) → Away g ks → Away (marked_as ns g) (marked ns ks)
marked_away ns g [] a = tt
marked_away ns g (k ∷ ks) a = (a.0, marked_away ns g ks a.1)

marked-apart : (ns : List Name) (ks : List Kept) → Apart ks → Apart (marked ns ks)
marked-apart ns [] a = tt
marked-apart ns (k ∷ ks) a = (marked_away ns k ks a.0, marked-apart ns ks a.1)

-- handed over is what was sent under that number
abbrev pub OneHanded : (ℕ → List Handed) → (ℕ → List Handed) → Type 0
OneHanded handed sent = (e : ℕ) (h k : Handed) → Mem h (handed e) → Mem k (sent e) → h.num ≡ k.num → h ≡ k

module _ (handed sent : ℕ → List Handed) (one : OneHanded handed sent) (d : List ℕ) (fair : FairAck handed d) where
  named-arrived : (k : Kept) → HeardOne handed sent k → 2 ≤ k.epoch → is_named (names_in d) k ≡ true → Arrived handed k
  named-arrived k o two t =
      let r = named_by (names_in d) k t in
      let e : r.0.epoch ≡ k.epoch = r.2 in
      let h = fair r.0 r.1 (omega arith) in
      let at : Mem h.0 (handed k.epoch) = subst (λ (v : ℕ). Mem h.0 (handed v)) e h.1 in
      let is : h.0 ≡ handed_as k r.0.num = one k.epoch h.0 (handed_as k r.0.num) at (o.logged r.0.num r.3) h.2 in
      (r.0.num, r.3, subst (λ (v : Handed). Mem v (handed k.epoch)) is at)

  marked-heard : (ks : List Kept) → HeardAll handed sent ks → HeardAll handed sent (marked (names_in d) ks)
  marked-heard ks o = record {
    each = each-marked (HeardOne handed sent) (names_in d) ks
        (λ k m.
        let i = o.each k m in
        record {
          logged = i.logged;
          once = i.once;
          acked-handed = λ t two.
              either-cases k.acked (is_named (names_in d) k) t (λ y. i.acked-handed y two) (λ y z. named-arrived k i two z);
        });
    apart = marked-apart (names_in d) ks o.apart;
  }

  ack-heard : (l : Ledger) → Heard handed sent l → Heard handed sent (acked_by l d)
  unfolding acked_by
  ack-heard l o =
      by_test (Heard handed sent) (λ t. by_test (HeardAll handed sent) (λ y. none-heard handed sent) (λ y. marked-heard l.saved o)) (λ t. o)

-- where a flight is over, each of epoch 2 is marked
two-acked : (ks : List Kept) → all_two ks ≡ true → (k : Kept) → Mem k (of_two ks) → Mem k ks × (k.epoch ≡ 2) × (k.acked ≡ true)
two-acked [] t k = λ m. elim m [ ]
two-acked (j ∷ ks) t k =
    let later : Mem k (of_two ks) → Mem k (j ∷ ks) × (k.epoch ≡ 2) × (k.acked ≡ true) =
    λ m. let r = two-acked ks (both_right _ _ t) k m in (there r.0, r.1, r.2) in
    by_test (λ (hs : List Kept). Mem k hs → Mem k (j ∷ ks) × (k.epoch ≡ 2) × (k.acked ≡ true))
    (λ e m.
    mem-by m
    (λ (z : k ≡ j). (
      here z,
      ap (λ (v : Kept). v.epoch) z ∙ eqb-true _ _ e,
      ap (λ (v : Kept). v.acked) z ∙ sym (if_true _ _ e) ∙ both_left _ _ t,
    ))
    later) (λ e. later)

pub cleared-handed : (handed sent : ℕ → List Handed) → OneHanded handed sent → (l : Ledger) → Heard handed sent l → (d : List ℕ) → FairAck handed d
    → (k : Kept) → Mem k (cleared l d) → (k.epoch ≡ 2) × Arrived handed k
unfolding cleared is_over
cleared-handed handed sent one l o d fair k =
    by_test (λ (ks : List Kept). Mem k ks → (k.epoch ≡ 2) × Arrived handed k)
    (λ t m.
    let ms : List Kept = marked (names_in d) l.saved in
    let r = two-acked ms (both_right _ _ (both_right _ _ t)) k m in
    let e : k.epoch ≡ 2 = r.1 in
    (e, ((marked-heard handed sent one d fair l.saved o).each k r.0).acked-handed r.2 (omega arith))) (λ t m. elim m [ ])

-- ---- every call

module _ (handed : ℕ → List Handed) (b : Books) (l : Ledger) (one : OneHanded handed b.sent) (low : Below l b.sent l.next) (o : Heard handed b.sent l) where
  -- those that leave the flight
  same-heard : (rs : List Sent) → Heard handed (enters_all rs b).sent l
  same-heard rs = heard-grows handed handed b.sent (enters_all rs b).sent (λ e h m. m) (books_grow rs b) l o

  start : Goes handed l b l.saved (record { ledger = l; sent = [] })
  start = record { heard = o; below = low }

  abbrev Keeps : List Sent → Ledger → Type 0
  Keeps rs j = Heard handed (enters_all rs b).sent j

  save_keeps : (e t : ℕ) (x : List ℕ) → save_number l e t x ≡ 0
      → Heard handed (enters (record { epoch = e; num = l.next e; type = t; content = x }) b).sent (saves l e t x)
  unfolding saves_on
  save_keeps e t x z = (saves-goes handed l b e t x (record { ledger = l; sent = [] }) ((save_rule l e t x 0).0 z).1.0 start).heard

  message-keeps : (kind : ℕ) (body : List ℕ) → Heard handed (enters_all (posted l kind body).sent b).sent (posted l kind body).ledger
  unfolding posted
  message-keeps kind body = (pieces_go handed l b 13 kind l.messages body 0 (record { ledger = l; sent = [] }) (epoch-usable l kind) start).heard

  resend_keeps : resend_number l ≡ 0 → Heard handed (enters_all (resent l).sent b).sent (resent l).ledger
  unfolding resent
  resend_keeps z =
      (again-goes handed l b l.saved (record { ledger = with_saved (closes l) []; sent = [] }) ((resend_rule l 0).0 z).1.0
      (record { heard = o; below = low })).heard

  accepted : (c : SendCall) → FairNames handed c → (owed l c).number ≡ 0 → Heard handed (enters_all (gives l c) b).sent (leaves l c)
  unfolding keyed lays acking
  accepted (key_send· e iv) h z = o
  accepted (send· e t x) h z = same-heard (gives l (send· e t x))
  accepted (save· e t x) h z = save_keeps e t x z
  accepted (message· kind body) h z = message-keeps kind body
  accepted begin_flight· h z = none-heard handed b.sent
  accepted resend· h z = resend_keeps z
  accepted (note· e n) h z = o
  accepted send_ack· h z = by_test (λ (g : Going). Keeps g.sent g.ledger) (λ t. o)
      (λ t. same-heard (record { epoch = ack_epoch l; num = l.next (ack_epoch l); type = 26; content = ack_bytes l.noted } ∷ []))
  accepted (ack· d) h z = ack-heard handed b.sent one d h l o
  accepted (fill· v) h z = o
  accepted (sealed· n m) h z = o
  accepted (take· buffer) h z = o

  pub heard-keeps : (c : SendCall) → FairNames handed c → Heard handed (enters_all (sent_by l c) b).sent (after l c)
  unfolding sent_by after
  heard-keeps c h = by_both Keeps refl (λ t. accepted c h (eqb-true _ _ t)) (λ t. o)
