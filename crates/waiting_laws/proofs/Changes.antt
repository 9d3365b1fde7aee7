-- Where the oldest record that waits lies, and a write over it: the other records stay as they are. Assumes nothing.
use Rattle.std.specs.Prelude.{true, List, [], ◌∷◌, ◌++◌, ◌≡◌, refl, ℕ, ◌+◌, ◌*◌, ◌<◌, ◌≤◌, length}
use Rattle.std.proofs.lemmas.Bool.{false≢true}
use Rattle.std.proofs.Common.{sym, ap, subst, ◌∙◌, arith, length-append}
use Rattle.base.specs.Choose.{test_cases, if_true, if_false}
use Rattle.queue.specs.declared.Queue.{Queue}
use Rattle.queue.specs.Queue.{slot_of, InRange}
use Rattle.queue.specs.Laid.{record_bytes}
use Rattle.outgoing.specs.declared.Waiting.{Waiting}
use Rattle.record.specs.Record.{sealed_head, sealed_tail}
use Rattle.waiting_laws.specs.Queued.{Queued, plain, waits, sealed, bytes_of, bytes, flat, waits_in, Stands, Lies, Row, Rows, oldest_in, oldest_of}
use Rattle.waiting_laws.proofs.Ring.{Outside, other-slot, slot_apart}
use Rattle.waiting_laws.proofs.Lists.{length-waits, none_in, waits-append, lies-still}
use Rattle.waiting_laws.proofs.First.{first_in, first_of, length_in}

-- ---- where the oldest lies

-- a record that waits, in a datagram's bytes from `at` to `end`
pub record Within (at end own : ℕ) (w : Waiting) : Type 0 where
  pub any : w.any ≡ true
  pub slot : w.slot ≡ own
  pub start : at ≤ w.start
  pub inside : w.start + (sealed_head + w.length) ≤ end
  pub long : sealed_tail ≤ w.length
  pub some : 0 < w.epoch
  pub epoch : w.epoch < 65536
  pub number : w.number < 281474976710655

within_wider : (at at' end end' own : ℕ) (w : Waiting) → at ≤ at' → end' ≤ end → Within at' end' own w → Within at end own w
within_wider at at' end end' own w a b i = record {
  any = i.any;
  slot = i.slot;
  start = omega (arith, i.start);
  inside = omega (arith, i.inside);
  long = i.long;
  some = i.some;
  epoch = i.epoch;
  number = i.number;
}

pub oldest-within : (mem : List ℕ) (base slot at : ℕ) (rs : List Queued) (w : Waiting) → Lies mem base at rs → waits_in rs ≡ true
    → Within at (at + length (bytes rs)) slot (oldest_in slot at rs w)
oldest-within mem base slot at [] w l h = absurd (false≢true h)
oldest-within mem base slot at (plain t n x ∷ rs) w l h =
    let b : List ℕ = record_bytes 0 t n x in
    within_wider at (at + length b) (at + length (b ++ bytes rs)) (at + length b + length (bytes rs)) slot (oldest_in slot (at + length b) rs w) (omega arith)
    (omega (arith, length-append b (bytes rs))) (oldest-within mem base slot (at + length b) rs w l.1 h)
oldest-within mem base slot at (waits e t n x p ∷ rs) w l h =
    let s = l.0.sound in
    record {
      any = refl;
      slot = refl;
      start = omega arith;
      inside = omega (arith, length-waits e t n x p s.part, length-append (bytes_of (waits e t n x p)) (bytes rs));
      long = omega arith;
      some = s.some;
      epoch = s.epoch;
      number = s.number;
    }
oldest-within mem base slot at (sealed e t n x m p ∷ rs) w l h =
    let b : List ℕ = bytes_of (sealed e t n x m p) in
    within_wider at (at + length b) (at + length (b ++ bytes rs)) (at + length b + length (bytes rs)) slot (oldest_in slot (at + length b) rs w) (omega arith)
    (omega (arith, length-append b (bytes rs))) (oldest-within mem base slot (at + length b) rs w l.1 h)

-- in a datagram it lies within the MTU
row_within : (mtu : ℕ) (lengths mem : List ℕ) (slot : ℕ) (d : List Queued) (w : Waiting) → Row mtu lengths mem slot d → waits_in d ≡ true → Within 0 mtu slot (oldest_in slot 0 d w)
row_within mtu lengths mem slot d w r a =
    within_wider 0 0 mtu (0 + length (bytes d)) slot (oldest_in slot 0 d w) (omega arith) (omega (arith, r.short)) (oldest-within mem (slot * mtu) slot 0 d w r.lies a)

-- in one of the datagrams from the i-th to below the n-th
pub record Found (q : Queue) (i n : ℕ) (w : Waiting) : Type 0 where
  pub datagram : ℕ
  pub low : i ≤ datagram
  pub high : datagram < n
  pub within : Within 0 q.mtu (slot_of q.first q.limit datagram) w

pub oldest-found : (q : Queue) (mem : List ℕ) (i : ℕ) (ds : List (List Queued)) (w : Waiting) → Rows q mem i ds → waits_in (flat ds) ≡ true
    → Found q i (i + length ds) (oldest_of q.first q.limit i ds w)
oldest-found q mem i [] w r h = absurd (false≢true h)
oldest-found q mem i (d ∷ ds) w r h =
    let slot : ℕ = slot_of q.first q.limit i in
    let later : Waiting = oldest_of q.first q.limit (i + 1) ds w in
    test_cases (waits_in d)
    (λ a.
    record { datagram = i; low = omega arith; high = omega arith; within = row_within q.mtu q.lengths mem slot d later r.0 a })
    (λ a.
    let v = oldest-found q mem (i + 1) ds w r.1 (sym (waits-append d (flat ds) a) ∙ h) in
    subst (Found q i (i + length (d ∷ ds))) (sym (none_in slot 0 d later a))
    (record { datagram = v.datagram; low = omega (arith, v.low); high = omega (arith, v.high); within = v.within }))

-- ---- a write over it

-- the record at a place became another of the same length
pub record Became (mem' : List ℕ) (at : ℕ) (r u : Queued) : Type 0 where
  pub size : length (bytes_of u) ≡ length (bytes_of r)
  pub stands : Stands mem' at u

-- n bytes from p on were written, within the record that waits, and made f of it
pub record Writes (f : Queued → Queued) (mtu p n : ℕ) (mem mem' : List ℕ) (w : Waiting) : Type 0 where
  pub outside : Outside p n mem mem'
  pub low : w.slot * mtu + w.start ≤ p
  pub high : p + n ≤ w.slot * mtu + w.start + (sealed_head + w.length)
  pub here : (e t k : ℕ) (x v : List ℕ) → w.epoch ≡ e → w.number ≡ k → w.length ≡ length x + sealed_tail → Stands mem (w.slot * mtu + w.start) (waits e t k x v)
      → Became mem' (w.slot * mtu + w.start) (waits e t k x v) (f (waits e t k x v))

module _ (f : Queued → Queued) (mtu p n : ℕ) (mem mem' : List ℕ) where
  -- in its datagram the records in front of it and behind it stay
  pub first-lies : (slot at : ℕ) (rs : List Queued) (w : Waiting) → Writes f mtu p n mem mem' (oldest_in slot at rs w) → waits_in rs ≡ true → Lies mem (slot * mtu) at rs
      → Lies mem' (slot * mtu) at (first_in f rs) × (length (bytes (first_in f rs)) ≡ length (bytes rs))
  first-lies slot at [] w g h l = absurd (false≢true h)
  first-lies slot at (plain t m x ∷ rs) w g h l =
      let b : List ℕ = record_bytes 0 t m x in
      let v = oldest-within mem (slot * mtu) slot (at + length b) rs w l.1 h in
      let o : Waiting = oldest_in slot (at + length b) rs w in
      let same : o.slot * mtu ≡ slot * mtu = ap (λ (k : ℕ). k * mtu) v.slot in
      let next = first-lies slot (at + length b) rs w g h l.1 in (
        (record { sound = l.0.sound; here = g.outside.before (slot * mtu + at) (length b) (omega (arith, v.start, g.low)) ∙ l.0.here }, next.0),
        length-append b (bytes (first_in f rs)) ∙ ap (λ (k : ℕ). length b + k) next.1 ∙ sym (length-append b (bytes rs)),
      )
  first-lies slot at (waits e t k x v ∷ rs) w g h l =
      let r : Queued = waits e t k x v in
      let c = g.here e t k x v refl refl refl l.0 in
      let len = length-waits e t k x v l.0.sound.part in (
        (
          c.stands,
          subst (λ (j : ℕ). Lies mem' (slot * mtu) (at + j) rs) (sym c.size)
              (lies-still mem mem' (slot * mtu) (at + length (bytes_of r)) (at + length (bytes_of r) + length (bytes rs))
              (λ a j low high. g.outside.after (slot * mtu + a) j (omega (arith, g.high))) (at + length (bytes_of r)) rs (omega arith) (omega arith) l.1),
        ),
        length-append (bytes_of (f r)) (bytes rs) ∙ ap (λ (j : ℕ). j + length (bytes rs)) c.size ∙ sym (length-append (bytes_of r) (bytes rs)),
      )
  first-lies slot at (sealed e t k x m v ∷ rs) w g h l =
      let b : List ℕ = bytes_of (sealed e t k x m v) in
      let c = oldest-within mem (slot * mtu) slot (at + length b) rs w l.1 h in
      let o : Waiting = oldest_in slot (at + length b) rs w in
      let same : o.slot * mtu ≡ slot * mtu = ap (λ (j : ℕ). j * mtu) c.slot in
      let next = first-lies slot (at + length b) rs w g h l.1 in (
        (record { sound = l.0.sound; here = g.outside.before (slot * mtu + at) (length b) (omega (arith, c.start, g.low)) ∙ l.0.here }, next.0),
        length-append b (bytes (first_in f rs)) ∙ ap (λ (j : ℕ). length b + j) next.1 ∙ sym (length-append b (bytes rs)),
      )

-- in the queue the other datagrams stay
module _ (f : Queued → Queued) (q : Queue) (range : InRange q) (p n : ℕ) (mem mem' : List ℕ) where
  row_elsewhere : (slot : ℕ) (d : List Queued) (w : Waiting) (own : ℕ) → Within 0 q.mtu own w → Writes f q.mtu p n mem mem' w → (slot ≡ own → ⊥)
      → Row q.mtu q.lengths mem slot d → Row q.mtu q.lengths mem' slot d
  row_elsewhere slot d w own v g ne r =
      let same : w.slot * q.mtu ≡ own * q.mtu = ap (λ (k : ℕ). k * q.mtu) v.slot in
      record {
        some = r.some;
        size = r.size;
        short = r.short;
        lies = lies-still mem mem' (slot * q.mtu) 0 q.mtu
            (λ a k l h. other-slot q.mtu own slot p n mem mem' g.outside ne (omega (arith, g.low)) (omega (arith, g.high, v.inside)) a k h)
            0 d (omega arith) (omega (arith, r.short)) r.lies;
      }

  rows_elsewhere : (j : ℕ) (w : Waiting) → j < q.limit → Within 0 q.mtu (slot_of q.first q.limit j) w → Writes f q.mtu p n mem mem' w
      → (i : ℕ) (ds : List (List Queued)) → j < i → i + length ds ≤ q.limit → Rows q mem i ds → Rows q mem' i ds
  rows_elsewhere j w b v g i [] l h r = tt
  rows_elsewhere j w b v g i (d ∷ ds) l h r = (
    row_elsewhere (slot_of q.first q.limit i) d w (slot_of q.first q.limit j) v g
        (slot_apart q.first q.limit range.first i j (omega arith) b (λ z. omega arith)) r.0,
    rows_elsewhere j w b v g (i + 1) ds (omega arith) (omega arith) r.1,
  )

  pub first_rows : (i : ℕ) (ds : List (List Queued)) (w : Waiting) → i + length ds ≤ q.limit → Writes f q.mtu p n mem mem' (oldest_of q.first q.limit i ds w)
      → waits_in (flat ds) ≡ true → Rows q mem i ds → Rows q mem' i (first_of f ds)
  first_rows i [] w h g y r = absurd (false≢true y)
  first_rows i (d ∷ ds) w h g y r =
      let slot : ℕ = slot_of q.first q.limit i in
      let later : Waiting = oldest_of q.first q.limit (i + 1) ds w in
      test_cases (waits_in d)
      (λ a.
      let v : Within 0 q.mtu slot (oldest_in slot 0 d later) = row_within q.mtu q.lengths mem slot d later r.0 a in
      let c = first-lies f q.mtu p n mem mem' slot 0 d later g a r.0.lies in
      subst (Rows q mem' i) (sym (if_true (first_in f d ∷ ds) (d ∷ first_of f ds) a)) (
        record { some = omega (arith, length_in f d, r.0.some); size = r.0.size ∙ sym c.1; short = omega (arith, c.1, r.0.short); lies = c.0 },
        rows_elsewhere i (oldest_in slot 0 d later) (omega arith) v g (i + 1) ds (omega arith) (omega arith) r.1,
      ))
      (λ a.
      let e : oldest_in slot 0 d later ≡ later = none_in slot 0 d later a in
      let g' : Writes f q.mtu p n mem mem' later = subst (Writes f q.mtu p n mem mem') e g in
      let y' : waits_in (flat ds) ≡ true = sym (waits-append d (flat ds) a) ∙ y in
      let v = oldest-found q mem (i + 1) ds w r.1 y' in
      subst (Rows q mem' i) (sym (if_false (first_in f d ∷ ds) (d ∷ first_of f ds) a)) (
        row_elsewhere slot d later (slot_of q.first q.limit v.datagram) v.within g'
            (slot_apart q.first q.limit range.first i v.datagram (omega arith) (omega (arith, v.high)) (λ z. omega (arith, v.low))) r.0,
        first_rows (i + 1) ds w (omega arith) g' y' r.1,
      ))
