-- The queue of datagrams (01, "Datagrams to send"): ranges, the ring of slots, and where a record goes. Its laws. Assumes nothing.
use Rattle.std.specs.Prelude.{Bool, true, false, List, ◌≡◌, refl, ℕ, ◌+◌, ◌-◌, ◌*◌, ◌<◌, ◌≤◌, ltb, leb, eqb, length, get_or, set}
use Rattle.std.proofs.lemmas.Bool.{false≢true}
use Rattle.std.proofs.Common.{ap, ◌∙◌, mul-le-mul, mul-le-mul_right, arith, get_or-set_same, ltb-true, ltb-false, leb-true, ne_eqb, lt-ltb, le-leb}
use Rattle.base.specs.Choose.{choose, both, if_false, by_test, both_left, both_right, both_true}
use Rattle.queue.specs.declared.Queue.{Queue}
use Rattle.queue.specs.declared.Tail.{Tail}
use Rattle.queue.specs.declared.Place.{Place}

-- "MTU 576 to 1,500 and queue 1 to 16 datagrams"; outside is refusal 12
unfoldable pub is_setting : ℕ → ℕ → Bool
is_setting mtu limit = both (leb 576 mtu) (both (leb mtu 1500) (both (leb 1 limit) (leb limit 16)))

-- the ring's first slot and its count in range besides
unfoldable pub is_sound : Queue → Bool
is_sound q = both (is_setting q.mtu q.limit) (both (ltb q.first q.limit) (leb q.count q.limit))

-- and the lent buffer not "under its limit times the MTU"
unfoldable pub is_ready : Queue → ℕ → Bool
is_ready q room = both (is_sound q) (leb (q.limit * q.mtu) room)

-- the slot of the i-th datagram from the front
unfoldable pub slot_of : ℕ → ℕ → ℕ → ℕ
slot_of first limit i = choose (ltb (first + i) limit) (first + i) (first + i - limit)

-- "the last queued datagram's length, closed or not"; 0 where there is none
unfoldable pub last_len : Queue → ℕ
last_len q = choose (eqb q.count 0) 0 (get_or q.lengths (slot_of q.first q.limit (q.count - 1)) 0)

-- the end of the queue; a record may join the last datagram if there is one and it isn't closed
unfoldable pub tail_of : Queue → Tail
tail_of q = record { used = last_len q; joinable = choose q.closed false (ltb 0 q.count); count = q.count }

-- "joins the last datagram if that isn't closed and the sum is at most the MTU, else opens a new one"
abbrev pub joins : ℕ → Tail → ℕ → Bool
joins mtu t n = both t.joinable (leb (t.used + n) mtu)

unfoldable pub place_of : ℕ → Tail → ℕ → Place
place_of mtu t n = choose (joins mtu t n) (record { datagram = t.count - 1; offset = t.used }) (record { datagram = t.count; offset = 0 })

-- the end of the queue with a record of n bytes at a place
unfoldable pub grown : Place → ℕ → Tail
grown p n = record { used = p.offset + n; joinable = true; count = p.datagram + 1 }

-- a queue with another front, and with another end
abbrev pub with_front : Queue → ℕ → ℕ → Queue
with_front q first count = record { mtu = q.mtu; limit = q.limit; first = first; count = count; closed = q.closed; lengths = q.lengths }

abbrev pub with_end : Queue → ℕ → Bool → List ℕ → Queue
with_end q count closed lengths = record { mtu = q.mtu; limit = q.limit; first = q.first; count = count; closed = closed; lengths = lengths }

-- the queue with a record of n bytes at a place; a new datagram "ends the closed state"
unfoldable pub laid : Queue → Place → ℕ → Queue
laid q p n = with_end q (p.datagram + 1) false (set q.lengths (slot_of q.first q.limit p.datagram) (p.offset + n))

-- the first byte of a record at a place
unfoldable pub start_of : Queue → Place → ℕ
start_of q p = slot_of q.first q.limit p.datagram * q.mtu + p.offset

-- ---- what the tests tell

pub record InRange (q : Queue) : Type 0 where
  pub low : 576 ≤ q.mtu
  pub high : q.mtu ≤ 1500
  pub some : 1 ≤ q.limit
  pub limit : q.limit ≤ 16
  pub first : q.first < q.limit
  pub count : q.count ≤ q.limit

pub in-range : {q : Queue} → is_sound q ≡ true → InRange q
unfolding is_sound is_setting
in-range {q} e =
    let s = both_left (is_setting q.mtu q.limit) _ e in
    let r = both_right (is_setting q.mtu q.limit) _ e in
    let s1 = both_right (leb 576 q.mtu) _ s in
    let s2 = both_right (leb q.mtu 1500) _ s1 in
    record {
      low = leb-true 576 q.mtu (both_left _ _ s);
      high = leb-true q.mtu 1500 (both_left _ _ s1);
      some = leb-true 1 q.limit (both_left _ _ s2);
      limit = leb-true q.limit 16 (both_right (leb 1 q.limit) _ s2);
      first = ltb-true q.first q.limit (both_left _ _ r);
      count = leb-true q.count q.limit (both_right (ltb q.first q.limit) _ r);
    }

pub sound-again : {q : Queue} → InRange q → is_sound q ≡ true
unfolding is_sound is_setting
sound-again {q} r =
    both_true (both_true (le-leb _ _ r.low) ∙ both_true (le-leb _ _ r.high) ∙ both_true (le-leb _ _ r.some) ∙ le-leb _ _ r.limit)
    ∙ both_true (lt-ltb _ _ r.first) ∙ le-leb _ _ r.count

pub record Ready (q : Queue) (room : ℕ) : Type 0 where
  pub range : InRange q
  pub space : q.limit * q.mtu ≤ room

pub ready : {q : Queue} {room : ℕ} → is_ready q room ≡ true → Ready q room
unfolding is_ready
ready {q} {room} e = record { range = in-range (both_left _ _ e); space = leb-true (q.limit * q.mtu) room (both_right (is_sound q) _ e) }

pub ready-again : {q : Queue} {room : ℕ} → Ready q room → is_ready q room ≡ true
unfolding is_ready
ready-again r = both_true (sound-again r.range) ∙ le-leb _ _ r.space

-- an end as queues have it
pub record Tailed (t : Tail) : Type 0 where
  pub used : t.used ≤ 65535
  pub counted : t.joinable ≡ true → 0 < t.count

-- a record of n bytes at a place lies in a slot of the ring
pub record Fits (q : Queue) (p : Place) (n : ℕ) : Type 0 where
  pub datagram : p.datagram < q.limit
  pub inside : p.offset + n ≤ q.mtu

-- ---- laws

pub slot_lt : (first limit i : ℕ) → first < limit → i < limit → slot_of first limit i < limit
unfolding slot_of
slot_lt first limit i h l =
    by_test (λ (n : ℕ). n < limit) (λ e. ltb-true (first + i) limit e) (λ e. omega (arith, ltb-false (first + i) limit e))

pub joinable-counted : (q : Queue) → (tail_of q).joinable ≡ true → 0 < q.count
unfolding tail_of
joinable-counted q =
    by_test (λ (b : Bool). b ≡ true → 0 < q.count) (λ e f. absurd (false≢true f)) (λ e f. ltb-true 0 q.count f)

-- a record that an empty datagram holds fits at its place; the datagram is at most one beyond the last
pub placed : (mtu : ℕ) (t : Tail) (n : ℕ) → n ≤ mtu → ((place_of mtu t n).offset + n ≤ mtu) × ((place_of mtu t n).datagram ≤ t.count)
unfolding place_of
placed mtu t n h =
    by_test (λ (p : Place). (p.offset + n ≤ mtu) × (p.datagram ≤ t.count))
    (λ e. (leb-true (t.used + n) mtu (both_right t.joinable _ e), omega arith))
    (λ e. (omega arith, omega arith))

-- a record at a place lies in the buffer
pub record Spot (q : Queue) (p : Place) (n room : ℕ) : Type 0 where
  pub slot : slot_of q.first q.limit p.datagram < q.limit
  pub space : slot_of q.first q.limit p.datagram * q.mtu + p.offset + n ≤ room
  pub small : slot_of q.first q.limit p.datagram * q.mtu + p.offset + n ≤ 24000

pub spot : {q : Queue} {p : Place} {n room : ℕ} → Ready q room → Fits q p n → Spot q p n room
spot {q} {p} {n} {room} r f =
    let b = slot_lt q.first q.limit p.datagram r.range.first f.datagram in
    let m = mul-le-mul_right q.mtu b in
    let t : q.limit * q.mtu ≤ 16 * 1500 = mul-le-mul r.range.limit r.range.high in
    record { slot = b; space = omega (arith, m, r.space, f.inside); small = omega (arith, m, t, f.inside) }

-- laying keeps the ranges
pub laid-range : {q : Queue} {p : Place} {n : ℕ} → InRange q → Fits q p n → InRange (laid q p n)
unfolding laid
laid-range r f = record { low = r.low; high = r.high; some = r.some; limit = r.limit; first = r.first; count = omega (arith, f.datagram) }

-- the end of the queue behind a record laid is the end grown by it
pub tail-laid : {q : Queue} {p : Place} {n : ℕ} → InRange q → Fits q p n → length q.lengths ≡ 16 → tail_of (laid q p n) ≡ grown p n
unfolding tail_of laid grown last_len
tail-laid {q} {p} {n} r f l =
    let z : p.datagram + 1 - 1 ≡ p.datagram = omega arith in
    let s = slot_lt q.first q.limit p.datagram r.first f.datagram in
    let used : choose (eqb (p.datagram + 1) 0) 0
    (get_or (set q.lengths (slot_of q.first q.limit p.datagram) (p.offset + n)) (slot_of q.first q.limit (p.datagram + 1 - 1)) 0) ≡ p.offset + n =
    if_false _ _ (ne_eqb (p.datagram + 1) 0 (λ (e : p.datagram + 1 ≡ 0). omega arith))
    ∙ ap (λ (k : ℕ). get_or (set q.lengths (slot_of q.first q.limit p.datagram) (p.offset + n)) (slot_of q.first q.limit k) 0) z
    ∙ get_or-set_same q.lengths (slot_of q.first q.limit p.datagram) (p.offset + n) 0 (omega (arith, r.limit)) in
    let may : choose false false (ltb 0 (p.datagram + 1)) ≡ true = if_false _ _ refl ∙ lt-ltb 0 (p.datagram + 1) (omega arith) in
    rw (used, may)

-- "queue full" (19): a record that finds no datagram below the limit meets a queue with no slot free
pub full_only : (q : Queue) (n : ℕ) → n ≤ q.mtu → q.count ≤ q.limit → q.limit ≤ (place_of q.mtu (tail_of q) n).datagram → q.count ≡ q.limit
unfolding tail_of
full_only q n h c f = omega (arith, (placed q.mtu (tail_of q) n h).1)
