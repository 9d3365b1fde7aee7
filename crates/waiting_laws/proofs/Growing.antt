-- A record laid: the datagrams grow by it, joined to the last one or in a new one, and the memory means them. Assumes nothing.
use Rattle.std.specs.Prelude.{Bool, ◌≡◌, refl, ℕ, suc, ◌+◌, ◌*◌, ◌<◌, ◌≤◌, length, get_or, set}
use mathlib.Core.List.{List, [], ◌∷◌, ◌++◌, append_assoc, append-nil}
use Rattle.std.proofs.Common.{sym, ap, subst, ◌∙◌, mul-le-mul_right, length-append, get_or-set_same, get_or-set_other}
use native.Mathlib.Omega.{arith}
use Rattle.base.specs.Choose.{choose, by_test}
use Rattle.base.specs.Parts.{splice, splice-here}
use Rattle.queue.specs.declared.Queue.{Queue}
use Rattle.queue.specs.Queue.{slot_of, laid, InRange, slot_lt}
use Rattle.waiting_laws.specs.Queued.{Queued, bytes_of, bytes, flat, Sound, Stands, Row, Rows, oldest_in, oldest_of}
use Rattle.waiting_laws.proofs.Ring.{Outside, splice-outside, other-slot, slot_apart}
use Rattle.waiting_laws.proofs.Lists.{length-bytes, flat_snoc, oldest-append, lies-still, lies-append}
use Rattle.outgoing.specs.declared.Waiting.{Waiting}

-- a record behind the last of the last datagram
abbrev pub joined : List (List Queued) → Queued → List (List Queued)
joined [] r = (r ∷ []) ∷ []
joined (d ∷ []) r = (d ++ r ∷ []) ∷ []
joined (d ∷ e ∷ ds) r = d ∷ joined (e ∷ ds) r

-- "joins the last datagram if that isn't closed and the sum is at most the MTU, else opens a new one"
abbrev pub grown : Bool → List (List Queued) → Queued → List (List Queued)
grown j ds r = choose j (joined ds r) (ds ++ (r ∷ []) ∷ [])

pub flat-joined : (ds : List (List Queued)) (r : Queued) → flat (joined ds r) ≡ flat ds ++ r ∷ []
flat-joined [] r = refl
flat-joined (d ∷ []) r = append-nil (d ++ r ∷ []) ∙ ap (λ (l : List Queued). l ++ r ∷ []) (sym (append-nil d))
flat-joined (d ∷ e ∷ ds) r = ap (λ (l : List Queued). d ++ l) (flat-joined (e ∷ ds) r) ∙ sym (append_assoc d (flat (e ∷ ds)) (r ∷ []))

pub flat-grown : (j : Bool) (ds : List (List Queued)) (r : Queued) → flat (grown j ds r) ≡ flat ds ++ r ∷ []
flat-grown j ds r = by_test (λ (l : List (List Queued)). flat l ≡ flat ds ++ r ∷ []) (λ e. flat-joined ds r) (λ e. flat_snoc ds r)

pub length-joined : (ds : List (List Queued)) (r : Queued) → 0 < length ds → length (joined ds r) ≡ length ds
length-joined [] r h = absurd (omega arith)
length-joined (d ∷ []) r h = refl
length-joined (d ∷ e ∷ ds) r h = ap suc (length-joined (e ∷ ds) r (omega arith))

-- ---- the oldest that waits

module _ (first limit : ℕ) where
  pub oldest-new : (i : ℕ) (ds : List (List Queued)) (r : Queued) (w : Waiting)
      → oldest_of first limit i (ds ++ (r ∷ []) ∷ []) w ≡ oldest_of first limit i ds (oldest_in (slot_of first limit (i + length ds)) 0 (r ∷ []) w)
  oldest-new i [] r w = ap (λ (k : ℕ). oldest_in (slot_of first limit k) 0 (r ∷ []) w) (omega arith)
  oldest-new i (d ∷ ds) r w =
      ap (oldest_in (slot_of first limit i) 0 d)
      (oldest-new (i + 1) ds r w
      ∙ ap (λ (k : ℕ). oldest_of first limit (i + 1) ds (oldest_in (slot_of first limit k) 0 (r ∷ []) w)) (omega arith))

-- ---- the memory

-- a record is written behind `used` bytes of the slot of the last datagram
module _ (q : Queue) (mem : List ℕ) (last used : ℕ) (r : Queued) (range : InRange q) (room : q.limit * q.mtu ≤ length mem)
    (table : length q.lengths ≡ 16) (inside : last < q.limit) (fits : used + length (bytes_of r) ≤ q.mtu) (sound : Sound r) where
  abbrev slot : ℕ
  slot = slot_of q.first q.limit last

  abbrev lengths' : List ℕ
  lengths' = set q.lengths slot (used + length (bytes_of r))

  abbrev mem' : List ℕ
  mem' = splice (slot * q.mtu + used) (bytes_of r) mem

  slot_in : slot < q.limit
  slot_in = slot_lt q.first q.limit last range.first inside

  written : slot * q.mtu + used + length (bytes_of r) ≤ length mem
  written = omega (arith, mul-le-mul_right q.mtu slot_in)

  outside : Outside (slot * q.mtu + used) (length (bytes_of r)) mem mem'
  outside = splice-outside (slot * q.mtu + used) (bytes_of r) mem written

  -- the datagrams in other slots are as they were
  row_still : (i : ℕ) (d : List Queued) → i < q.limit → (i ≡ last → ⊥) → Row q.mtu q.lengths mem (slot_of q.first q.limit i) d
      → Row q.mtu lengths' mem' (slot_of q.first q.limit i) d
  row_still i d b ne w =
      let other : slot_of q.first q.limit i ≡ slot → ⊥ = slot_apart q.first q.limit range.first i last b inside ne in
      record {
        some = w.some;
        size = get_or-set_other q.lengths slot (slot_of q.first q.limit i) (used + length (bytes_of r)) 0 other ∙ w.size;
        short = w.short;
        lies = lies-still mem mem' (slot_of q.first q.limit i * q.mtu) 0 q.mtu
            (λ a k l h. other-slot q.mtu slot (slot_of q.first q.limit i) (slot * q.mtu + used) (length (bytes_of r)) mem mem' outside other (omega arith) (omega arith) a k h)
            0 d (omega arith) (omega (arith, w.short)) w.lies;
      }

  size-new : get_or lengths' slot 0 ≡ used + length (bytes_of r)
  size-new = get_or-set_same q.lengths slot (used + length (bytes_of r)) 0 (omega (arith, slot_in, range.limit))

  stands-new : Stands mem' (slot * q.mtu + used) r
  stands-new = record { sound = sound; here = splice-here (slot * q.mtu + used) (bytes_of r) mem written }

  -- the one that it joins has it besides
  row_joined : (d : List Queued) → used ≡ length (bytes d) → Row q.mtu q.lengths mem slot d → Row q.mtu lengths' mem' slot (d ++ r ∷ [])
  row_joined d e w =
      let n : length (bytes (d ++ r ∷ [])) ≡ used + length (bytes_of r) = length-bytes d (r ∷ []) ∙ omega (arith, length-append (bytes_of r) []) in
      record {
        some = omega (arith, length-append d (r ∷ []));
        size = size-new ∙ sym n;
        short = omega arith;
        lies = lies-append mem' (slot * q.mtu) 0 d (r ∷ [])
            (lies-still mem mem' (slot * q.mtu) 0 used (λ a k l h. outside.before (slot * q.mtu + a) k (omega arith)) 0 d (omega arith) (omega arith) w.lies)
            (rw (at-end d e) (stands-new, tt));
      }
    where
      at-end : (d : List Queued) → used ≡ length (bytes d) → 0 + length (bytes d) ≡ used
      at-end d e = omega arith

  -- a new one has it alone
  row_new : used ≡ 0 → Row q.mtu lengths' mem' slot (r ∷ [])
  row_new e = record {
    some = omega arith;
    size = size-new ∙ omega (arith, length-append (bytes_of r) []);
    short = omega (arith, length-append (bytes_of r) []);
    lies = (subst (λ (k : ℕ). Stands mem' (slot * q.mtu + k) r) e stands-new, tt);
  }

  pub rows_new : used ≡ 0 → (i : ℕ) (ds : List (List Queued)) → i + length ds ≡ last → Rows q mem i ds
      → Rows (laid q (record { datagram = last; offset = used }) (length (bytes_of r))) mem' i (ds ++ (r ∷ []) ∷ [])
  unfolding laid
  rows_new e i [] h w = (rw (same) (row_new e), tt)
    where
      same : i ≡ last
      same = omega arith
  rows_new e i (d ∷ ds) h w = (row_still i d (omega arith) (λ z. omega arith) w.0, rows_new e (i + 1) ds (omega arith) w.1)

  pub rows-joined : used ≡ get_or q.lengths slot 0 → (i : ℕ) (ds : List (List Queued)) → 0 < length ds → i + length ds ≡ last + 1 → Rows q mem i ds
      → Rows (laid q (record { datagram = last; offset = used }) (length (bytes_of r))) mem' i (joined ds r)
  unfolding laid
  rows-joined e i [] some h w = absurd (omega arith)
  rows-joined e i (d ∷ []) some h w = (at_last, tt)
    where
      same : i ≡ last
      same = omega arith

      own : Row q.mtu q.lengths mem slot d
      own = rw same at w.0

      at_last : Row q.mtu lengths' mem' (slot_of q.first q.limit i) (d ++ r ∷ [])
      at_last = rw same (row_joined d (e ∙ own.size) own)
  rows-joined e i (d ∷ f ∷ ds) some h w =
      (row_still i d (omega arith) (λ z. omega arith) w.0, rows-joined e (i + 1) (f ∷ ds) (omega arith) (omega arith) w.1)

  pub oldest-joined : used ≡ get_or q.lengths slot 0 → (i : ℕ) (ds : List (List Queued)) (w : Waiting) → 0 < length ds → i + length ds ≡ last + 1 → Rows q mem i ds
      → oldest_of q.first q.limit i (joined ds r) w ≡ oldest_of q.first q.limit i ds (oldest_in slot used (r ∷ []) w)
  oldest-joined e i [] w some h g = absurd (omega arith)
  oldest-joined e i (d ∷ []) w some h g =
      oldest-append (slot_of q.first q.limit i) 0 d (r ∷ []) w
      ∙ ap (λ (k : ℕ). oldest_in (slot_of q.first q.limit i) 0 d (oldest_in (slot_of q.first q.limit i) k (r ∷ []) w)) at-end
      ∙ ap (λ (k : ℕ). oldest_in (slot_of q.first q.limit i) 0 d (oldest_in (slot_of q.first q.limit k) used (r ∷ []) w)) same
    where
      same : i ≡ last
      same = omega arith

      own : Row q.mtu q.lengths mem slot d
      own = rw same at g.0

      at-end : 0 + length (bytes d) ≡ used
      at-end = omega (arith, own.size)
  oldest-joined e i (d ∷ f ∷ ds) w some h g =
      ap (oldest_in (slot_of q.first q.limit i) 0 d) (oldest-joined e (i + 1) (f ∷ ds) w (omega arith) (omega arith) g.1)
