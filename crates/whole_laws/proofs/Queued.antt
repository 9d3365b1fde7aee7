-- The records of a message's pieces stand in the queue's memory, each at its place, and what was queued before stays. Assumes nothing.
use Rattle.std.proofs.Math.Logic.{⊎_elim}
use mathlib.Core.List.{List, [], ◌∷◌}
use Rattle.std.specs.Prelude.{◌≡◌, length, take}
use Rattle.std.proofs.Math.Path.{refl, sym, ap}
use Rattle.std.proofs.Common.{◌∙◌, ltb-true, ltb-false}
use Prim.Native.Nat.{ℕ, zero, suc, ◌+◌, ◌-◌, ◌*◌, ◌<◌, ◌≤◌}
use Rattle.std.proofs.Math.Nat.{mul-le-mul_right}
use native.Mathlib.Omega.{arith}
use Rattle.std.proofs.Math.ListN.{get_or}
use Rattle.base.specs.Choose.{by_test, lt-or_ge, eq-or_ne}
use Rattle.base.specs.Parts.{part, splice, splice-here, splice-before, splice-after}
use Rattle.queue.specs.declared.Place.{Place}
use Rattle.queue.specs.declared.Queue.{Queue}
use Rattle.queue.specs.declared.Tail.{Tail}
use Rattle.queue.specs.Queue.{slot_of, tail_of, place_of, grown, laid, start_of, InRange, Fits, tail-laid}
use Rattle.queue.specs.Laid.{record_len, record_bytes, length_record}
use Rattle.send_keys.specs.Keys.{next_of, used, used-next}
use Rattle.outgoing.specs.Send.{spot_of, laid_state, laid_memory}
use Rattle.messages.specs.Cut.{epoch_of, overhead, total}
use Rattle.messages.specs.Message.{content_of, Laid}
use Rattle.whole_laws.specs.Lay.{lay_one, lay_all, Placed, AllPlaced}
use Rattle.whole_laws.proofs.Lay.{len_more}

-- the places of records with pieces of these sizes, one after the other
abbrev pub places_of : ℕ → ℕ → List ℕ → Tail → List Place
places_of mtu over [] t = []
places_of mtu over (n ∷ ns) t = place_of mtu t (n + over) ∷ places_of mtu over ns (grown (place_of mtu t (n + over)) (n + over))

-- k bytes from a place on lie in front of the queue's end
pub record Settled (t : Tail) (p : Place) (k : ℕ) : Type 0 where
  pub datagram : p.datagram < t.count
  pub inside : p.datagram + 1 ≡ t.count → p.offset + k ≤ t.used

-- ---- a record behind others touches none of their bytes

-- different datagrams have different slots
slot-other : (first limit i j : ℕ) → first < limit → i < limit → j < limit → slot_of first limit i ≡ slot_of first limit j → i ≡ j
unfolding slot_of
slot-other first limit i j f hi hj =
    by_test (λ (x : ℕ). x ≡ slot_of first limit j → i ≡ j)
    (λ a. by_test (λ (y : ℕ). first + i ≡ y → i ≡ j)
    (λ b e. omega arith)
    (λ b e. omega (arith, ltb-true (first + i) limit a, ltb-false (first + j) limit b)))
    (λ a. by_test (λ (y : ℕ). first + i - limit ≡ y → i ≡ j)
    (λ b e. omega (arith, ltb-false (first + i) limit a, ltb-true (first + j) limit b))
    (λ b e. omega (arith, ltb-false (first + i) limit a, ltb-false (first + j) limit b)))

-- the next record goes behind what is settled
goes-behind : (mtu : ℕ) (t : Tail) (n : ℕ) {p : Place} {k : ℕ} → Settled t p k
    → (p.datagram ≤ (place_of mtu t n).datagram) × (p.datagram ≡ (place_of mtu t n).datagram → p.offset + k ≤ (place_of mtu t n).offset)
unfolding place_of
goes-behind mtu t n {p} {k} s =
    by_test (λ (r : Place). (p.datagram ≤ r.datagram) × (p.datagram ≡ r.datagram → p.offset + k ≤ r.offset))
    (λ e. (omega (arith, s.datagram), λ same. s.inside (omega (arith, s.datagram))))
    (λ e. (omega (arith, s.datagram), λ same. absurd (omega (arith, s.datagram))))

module _ (q : Queue) (r : InRange q) (p : Place) (k : ℕ) (in_p : p.offset + k ≤ q.mtu) (g : Place) (v d : List ℕ) (fits : Fits q g (length v))
    (room : start_of q g + length v ≤ length d) (before : p.datagram ≤ g.datagram) (same : p.datagram ≡ g.datagram → p.offset + k ≤ g.offset) where
  apart : part (start_of q p) k (splice (start_of q g) v d) ≡ part (start_of q p) k d
  unfolding start_of
  apart =
      ⊎_elim (λ e.
      let slot : slot_of q.first q.limit p.datagram * q.mtu ≡ slot_of q.first q.limit g.datagram * q.mtu = ap (λ (x : ℕ). slot_of q.first q.limit x * q.mtu) e in
      splice-before (start_of q g) v d room (start_of q p) k (omega (arith, same e)))
      (λ ne. ⊎_elim (λ l. splice-before (start_of q g) v d room (start_of q p) k (omega (arith, mul-le-mul_right q.mtu l)))
      (λ l. splice-after (start_of q g) v d room (start_of q p) k (omega (arith, mul-le-mul_right q.mtu (less ne l), fits.inside)))
      (lt-or_ge (slot_of q.first q.limit p.datagram) (slot_of q.first q.limit g.datagram)))
      (eq-or_ne p.datagram g.datagram)
    where
      less : (p.datagram ≡ g.datagram → ⊥) → slot_of q.first q.limit g.datagram ≤ slot_of q.first q.limit p.datagram
          → slot_of q.first q.limit g.datagram < slot_of q.first q.limit p.datagram
      less ne l = ⊎_elim (λ h. h) (λ h. absurd (ne (slot-other q.first q.limit p.datagram g.datagram r.first (omega (arith, before, fits.datagram)) fits.datagram (omega arith))))
          (lt-or_ge (slot_of q.first q.limit g.datagram) (slot_of q.first q.limit p.datagram))

-- ---- one piece

module _ (kind : ℕ) (body : List ℕ) (at n : ℕ) (l : Laid) (p : Placed kind body at n l) where
  abbrev e : ℕ
  e = epoch_of kind

  abbrev q : Queue
  q = l.saved.state.queue

  abbrev bytes : List ℕ
  bytes = record_bytes e 22 (next_of l.saved.state.keys e) (content_of kind l.saved.state.message_seq body at n)

  abbrev here : Place
  here = spot_of l.saved.state e (12 + n)

  long-bytes : length bytes ≡ record_len e (12 + n)
  long-bytes = length_record e 22 (next_of l.saved.state.keys e) (content_of kind l.saved.state.message_seq body at n) ∙ ap (record_len e) p.long

  room : start_of q here + length bytes ≤ length l.queue
  room = rw long-bytes p.room

  fits : Fits q here (length bytes)
  fits = rw long-bytes p.fits

  one-queue : (lay_one kind body at n l).queue ≡ splice (start_of q here) bytes l.queue
  unfolding lay_one laid_memory
  one-queue = ap (λ (x : ℕ). splice (start_of q (spot_of l.saved.state e x)) bytes l.queue) p.long

  one-tail : tail_of (lay_one kind body at n l).saved.state.queue ≡ grown here (record_len e (12 + n))
  unfolding lay_one laid_state
  one-tail = tail-laid p.range p.fits p.slots

  -- what is settled stays, and stays settled
  one-keeps : {g : Place} {k : ℕ} → g.offset + k ≤ q.mtu → Settled (tail_of q) g k → part (start_of q g) k (lay_one kind body at n l).queue ≡ part (start_of q g) k l.queue
  one-keeps {g} {k} h s =
      let b = goes-behind q.mtu (tail_of q) (record_len e (12 + n)) s in
      ap (part (start_of q g) k) one-queue ∙ apart q p.range g k h here bytes l.queue fits room b.0 b.1

  one-settled : {g : Place} {k : ℕ} → Settled (tail_of q) g k → Settled (tail_of (lay_one kind body at n l).saved.state.queue) g k
  unfolding grown
  one-settled {g} {k} s =
      let b = goes-behind q.mtu (tail_of q) (record_len e (12 + n)) s in
      rw one-tail (record { datagram = omega (arith, b.0); inside = λ same. omega (arith, b.1 (omega arith)) })

  -- the record stands at its place, settled
  one-here : part (start_of q here) (record_len e (12 + n)) (lay_one kind body at n l).queue ≡ bytes
  one-here =
      ap (part (start_of q here) (record_len e (12 + n))) one-queue ∙ ap (λ (x : ℕ). part (start_of q here) x (splice (start_of q here) bytes l.queue)) (sym long-bytes)
      ∙ splice-here (start_of q here) bytes l.queue room

  here-settled : Settled (tail_of (lay_one kind body at n l).saved.state.queue) here (record_len e (12 + n))
  unfolding grown
  here-settled = rw one-tail (record { datagram = omega arith; inside = λ same. omega arith })

-- ---- all pieces

module _ (kind : ℕ) (body : List ℕ) where
  -- bytes in front of the queue's end stay
  pub lay_settled : (at : ℕ) (ns : List ℕ) (l : Laid) → AllPlaced kind body at ns l → {g : Place} {k : ℕ} → g.offset + k ≤ l.saved.state.queue.mtu
      → Settled (tail_of l.saved.state.queue) g k → part (start_of l.saved.state.queue g) k (lay_all kind body at ns l).queue ≡ part (start_of l.saved.state.queue g) k l.queue
  unfolding lay_all lay_one laid_state laid start_of
  lay_settled at [] l p h s = refl
  lay_settled at (n ∷ ns) l p {g} {k} h s =
      lay_settled (at + n) ns (lay_one kind body at n l) p.1 {g = g} {k = k} h (one-settled kind body at n l p.0 s) ∙ one-keeps kind body at n l p.0 h s

  -- the i-th record stands at its place
  pub lay-record : (d : Place) (i : ℕ) (at : ℕ) (ns : List ℕ) (l : Laid) → AllPlaced kind body at ns l → i < length ns
      → part (start_of l.saved.state.queue (get_or (places_of l.saved.state.queue.mtu (overhead (epoch_of kind)) ns (tail_of l.saved.state.queue)) i d))
      (record_len (epoch_of kind) (12 + get_or ns i 0)) (lay_all kind body at ns l).queue
      ≡ record_bytes (epoch_of kind) 22 (next_of l.saved.state.keys (epoch_of kind) + i)
      (content_of kind l.saved.state.message_seq body (at + total (take i ns)) (get_or ns i 0))
  unfolding lay_all lay_one laid_state laid start_of
  lay-record d i at [] l p h = absurd (omega arith)
  lay-record d zero at (n ∷ ns) l p h =
      let x : ℕ = epoch_of kind in
      let z : Place = spot_of l.saved.state x (12 + n) in
      let next : ℕ = next_of l.saved.state.keys x in
      let first : next ≡ next + 0 = omega arith in
      let offset : at ≡ at + 0 = omega arith in
      ap (λ (k : ℕ). part (start_of l.saved.state.queue (place_of l.saved.state.queue.mtu (tail_of l.saved.state.queue) k)) (record_len x (12 + n)) (lay_all kind body at (n ∷ ns) l).queue)
      (sym (len_more x n))
      ∙ lay_settled (at + n) ns (lay_one kind body at n l) p.1 {g = z} {k = record_len x (12 + n)} p.0.fits.inside (here-settled kind body at n l p.0)
      ∙ one-here kind body at n l p.0 ∙ λ i. record_bytes x 22 (first i) (content_of kind l.saved.state.message_seq body (offset i) n)
  lay-record d (suc i) at (n ∷ ns) l p h =
      let x : ℕ = epoch_of kind in
      let number : next_of (used l.saved.state.keys x) x + i ≡ next_of l.saved.state.keys x + suc i = omega (arith, used-next l.saved.state.keys x) in
      let offset : at + n + total (take i ns) ≡ at + (n + total (take i ns)) = omega arith in
      let tails = ap (λ (k : ℕ). grown (place_of l.saved.state.queue.mtu (tail_of l.saved.state.queue) k) k) (sym (len_more x n)) ∙ sym (one-tail kind body at n l p.0) in
      ap (λ (t : Tail). part (start_of l.saved.state.queue (get_or (places_of l.saved.state.queue.mtu (overhead x) ns t) i d)) (record_len x (12 + get_or ns i 0)) (lay_all kind body at (n ∷ ns) l).queue) tails
      ∙ lay-record d i (at + n) ns (lay_one kind body at n l) p.1 (omega arith)
      ∙ λ j. record_bytes x 22 (number j) (content_of kind l.saved.state.message_seq body (offset j) (get_or ns i 0))
