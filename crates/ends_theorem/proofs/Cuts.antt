-- What the account sends for a message that it accepts, over the bytes alone: the host's body, cut without gap, each piece behind its header.
-- Assumes nothing.
use Prim.Native.Nat.{ℕ, zero, suc, ◌+◌, ◌-◌, ◌*◌, ◌<◌, ◌≤◌}
use borrow.Author.Tests.{eqb-true, eqb-false, eq-eqb, ne_eqb, ltb-true, ltb-false, leb-false}
use Rattle.std.specs.Prelude.{eqb, get_or, take, drop, ◌≡◌, refl}
use Rattle.std.proofs.Math.ListN.{length, length-append}
use Rattle.std.proofs.Common.{length-take, length-drop, sym, ◌∙◌, mod-eq_of_lt}
use Rattle.std.proofs.Math.Bool.{false}
use mathlib.Core.List.{List, [], ◌∷◌, ◌++◌, append_assoc}
use Rattle.std.proofs.Math.Path.{ap, subst}
use native.Mathlib.Omega.{arith}
use Rattle.base.specs.Bytes.{be_at}
use Rattle.base.proofs.Bytes.{be_at-be}
use Rattle.base.specs.Choose.{by_test, test_cases, if_true, if_false}
use Rattle.history_theorem.proofs.Lists.{upd_same}
use Rattle.ends_theorem.specs.Ledger.{Sent, Ledger, Going, last_size, lays, saves, saves_on, epoch_for, overhead, piece_size, piece_content, pieces, posted, message_number}
use Rattle.ends_theorem.proofs.Rules.{message-rule}

-- ---- how it is read

-- integers of 2 and 3 bytes at a place
abbrev pub two : List ℕ → ℕ → ℕ
two c i = get_or c i 0 * 256 + get_or c (i + 1) 0

abbrev pub three : List ℕ → ℕ → ℕ
three c i = get_or c i 0 * 65536 + get_or c (i + 1) 0 * 256 + get_or c (i + 2) 0

-- a piece of n bytes at an offset: a record of type 22 in the epoch for its kind, under this number, whose content is the header of RFC 9147,
-- section 5.2, by its places: type 0, length 1 to 3, message_seq 4 and 5, fragment_offset 6 to 8, fragment_length 9 to 11; and then that part
-- of the host's body
pub record Piece (kind number : ℕ) (body : List ℕ) (at n num : ℕ) (r : Sent) : Type 0 where
  pub as_epoch : r.epoch ≡ epoch_for kind
  pub as_num : r.num ≡ num
  pub as_type : r.type ≡ 22
  pub long : length r.content ≡ 12 + n
  pub as_kind : get_or r.content 0 0 ≡ kind
  pub as_total : three r.content 1 ≡ length body
  pub as_number : two r.content 4 ≡ number
  pub as_offset : three r.content 6 ≡ at
  pub as_size : three r.content 9 ≡ n
  pub inside : at + n ≤ length body
  pub as_part : drop 12 r.content ≡ take n (drop at body)

-- from an offset on without gap: each but the last has some bytes and ends before the body does; the last ends with it. So an empty body is
-- one empty piece. Their record numbers have no gap either
abbrev pub Pieces : ℕ → ℕ → List ℕ → ℕ → ℕ → List Sent → Type 0
Pieces kind number body at num [] = ⊥
Pieces kind number body at num (r ∷ []) = Piece kind number body at (length body - at) num r
Pieces kind number body at num (r ∷ q ∷ rs) =
    (n : ℕ) × (0 < n) × (at + n < length body) × Piece kind number body at n num r × Pieces kind number body (at + n) (num + 1) (q ∷ rs)

-- ---- sizes

pub size-rest : (l : Ledger) (over rest : ℕ) → piece_size l over rest ≤ rest
unfolding piece_size
size-rest l over rest = by_test (λ (n : ℕ). n ≤ rest) (λ e. omega arith) (λ e. omega arith)

size-some : (l : Ledger) (over rest : ℕ) → over < l.mtu → 0 < rest → 0 < piece_size l over rest
unfolding piece_size
size-some l over rest o r = by_test (λ (n : ℕ). 0 < n) (λ e. omega (arith, ltb-true (last_size l.queue + over) l.mtu e)) (λ e. omega arith)

over-small : (e : ℕ) → overhead e ≤ 34
over-small e = by_test (λ (n : ℕ). n ≤ 34) (λ z. omega arith) (λ z. omega arith)

pub content-long : (kind number : ℕ) (body : List ℕ) (at n : ℕ) → at + n ≤ length body → length (piece_content kind number body at n) ≡ 12 + n
content-long kind number body at n h = simp (length-take, length-drop) (omega arith)

-- ---- one piece

module _ (kind number : ℕ) (body : List ℕ) (at : ℕ) (g : Going) where
  -- its size, and the account behind it
  abbrev pub next : ℕ
  next = piece_size g.ledger (overhead (epoch_for kind)) (length body - at)

  abbrev pub behind : Going
  behind = saves_on (epoch_for kind) 22 (piece_content kind number body at next) g

  pub pieces-last : (k : ℕ) → length body - (at + next) ≡ 0 → pieces (suc k) kind number body at g ≡ behind
  unfolding pieces
  pieces-last k z = if_true _ _ (eq-eqb _ _ z)

  pub pieces_more : (k : ℕ) → (length body - (at + next) ≡ 0 → ⊥) → pieces (suc k) kind number body at g ≡ pieces k kind number body (at + next) behind
  unfolding pieces
  pieces_more k z = if_false _ _ (ne_eqb _ _ z)

two_is : (c : List ℕ) (i : ℕ) → two c i ≡ be_at 2 c i
two_is c i = omega arith

three-is : (c : List ℕ) (i : ℕ) → three c i ≡ be_at 3 c i
three-is c i =
    let on : i + 1 + 1 ≡ i + 2 = omega arith in
    let z : get_or c (i + 1 + 1) 0 ≡ get_or c (i + 2) 0 = ap (λ (k : ℕ). get_or c k 0) on in
    omega arith

module _ (kind number : ℕ) (body : List ℕ) (at n num : ℕ) (inside : at + n ≤ length body) (short : length body ≤ 16384) (small : number < 65536) where
  piece-reads : Piece kind number body at n num (record { epoch = epoch_for kind; num = num; type = 22; content = piece_content kind number body at n })
  piece-reads =
      let c : List ℕ = piece_content kind number body at n in
      record {
        as_epoch = refl;
        as_num = refl;
        as_type = refl;
        long = content-long kind number body at n inside;
        as_kind = refl;
        as_total = three-is c 1 ∙ be_at-be 3 (length body) [] ∙ mod-eq_of_lt (omega arith);
        as_number = two_is c 4 ∙ be_at-be 2 number [] ∙ mod-eq_of_lt (omega arith);
        as_offset = three-is c 6 ∙ be_at-be 3 at [] ∙ mod-eq_of_lt (omega arith);
        as_size = three-is c 9 ∙ be_at-be 3 n [] ∙ mod-eq_of_lt (omega arith);
        inside = inside;
        as_part = refl;
      }

-- ---- all pieces

-- one more in front
in_front : (kind number : ℕ) (body : List ℕ) (at n num : ℕ) (r : Sent) (rs : List Sent) → 0 < n → at + n < length body → Piece kind number body at n num r
    → Pieces kind number body (at + n) (num + 1) rs → Pieces kind number body at num (r ∷ rs)
in_front kind number body at n num r [] some less p c = absurd c
in_front kind number body at n num r (q ∷ rs) some less p c = (n, some, less, p, c)

-- what the pieces from an offset on add to what was sent
record Adds (kind number : ℕ) (body : List ℕ) (at num : ℕ) (before after : List Sent) : Type 0 where
  rs : List Sent
  cut : Pieces kind number body at num rs
  sent : after ≡ before ++ rs

module _ (kind number : ℕ) (body : List ℕ) (short : length body ≤ 16384) (small : number < 65536) where
  abbrev e : ℕ
  e = epoch_for kind

  all-adds : (k at : ℕ) (g : Going) → at ≤ length body → 576 ≤ g.ledger.mtu
      → length (pieces k kind number body at g).ledger.saved < length g.ledger.saved + k
      → Adds kind number body at (g.ledger.next e) g.sent (pieces k kind number body at g).sent
  unfolding pieces saves_on saves lays
  all-adds zero at g i low few = absurd (omega arith)
  all-adds (suc k) at g i low few =
      let n : ℕ = next kind number body at g in
      let num : ℕ = g.ledger.next e in
      let h : Going = behind kind number body at g in
      let r : Sent = record { epoch = e; num = num; type = 22; content = piece_content kind number body at n } in
      let end : at + n ≤ length body = omega (arith, size-rest g.ledger (overhead e) (length body - at)) in
      let reads = piece-reads kind number body at n num end short small in
      test_cases (eqb (length body - (at + n)) 0)
      (λ z.
      let y : length body - (at + n) ≡ 0 = eqb-true _ _ z in
      let whole : n ≡ length body - at = omega arith in
      subst (λ (v : Going). Adds kind number body at num g.sent v.sent) (sym (pieces-last kind number body at g k y)) (record {
        rs = r ∷ [];
        cut = subst (λ (m : ℕ). Piece kind number body at m num r) whole reads;
        sent = refl;
      }))
      (λ z.
      let y : length body - (at + n) ≡ 0 → ⊥ = eqb-false _ _ z in
      let same = pieces_more kind number body at g k y in
      let one = length-append g.ledger.saved (record { epoch = e; type = 22; content = piece_content kind number body at n; sendings = num ∷ []; acked = false } ∷ []) in
      let on = all-adds k (at + n) h end low (omega (arith, one, few, ap (λ (v : Going). length v.ledger.saved) same)) in
      subst (λ (v : Going). Adds kind number body at num g.sent v.sent) (sym same) (record {
        rs = r ∷ on.rs;
        cut =
            in_front kind number body at n num r on.rs
            (size-some g.ledger (overhead e) (length body - at) (omega (arith, over-small e)) (omega arith)) (omega arith) reads
            (subst (λ (m : ℕ). Pieces kind number body (at + n) m on.rs) (upd_same g.ledger.next e (num + 1)) on.cut);
        sent = on.sent ∙ append_assoc g.sent (r ∷ []) on.rs;
      }))

-- ---- a message

pub message-reads : (l : Ledger) (kind : ℕ) (body : List ℕ) → 576 ≤ l.mtu → message_number l kind body ≡ 0
    → Pieces kind l.messages body 0 (l.next (epoch_for kind)) (posted l kind body).sent
unfolding posted
message-reads l kind body low z =
    let tests = (message-rule l kind body 0).0 z in
    let short : length body ≤ 16384 = ltb-false _ _ tests.1.0 in
    let small : l.messages < 65535 = leb-false _ _ tests.1.1.1.0 in
    let few : length (posted l kind body).ledger.saved ≤ 12 = ltb-false _ _ tests.1.1.1.1.0 in
    let r = all-adds kind l.messages body short (omega arith) 13 0 (record { ledger = l; sent = [] }) (omega arith) low (omega arith) in
    subst (Pieces kind l.messages body 0 (l.next (epoch_for kind))) (sym r.sent) r.cut
