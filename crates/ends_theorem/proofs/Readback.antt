-- An ACK that the account sends reads back, by the account's own reading of ACKs, as exactly the records noted. Assumes nothing.
use Rattle.std.specs.Prelude.{ℕ, suc, ◌+◌, ◌-◌, ◌*◌, ◌/◌, ◌%◌, ◌^◌, ◌<◌, ◌≤◌, length, List, [], ◌∷◌, ◌++◌, ◌≡◌, refl}
use Rattle.std.proofs.Common.{eq-eqb, le-leb, length-append, append_assoc, append-nil, sym, ap, ◌∙◌, mod-eq_of_lt, arith}
use Rattle.base.specs.Bytes.{be, be_at, be_at-behind}
use Rattle.base.proofs.Bytes.{be_at-be}
use Rattle.base.specs.Choose.{if_true, both_true}
use Rattle.ends_theorem.specs.Ledger.{Name, is_formed, pairs_of, names_in, names_bytes, ack_bytes}

-- epochs and numbers of 64 bits
abbrev pub Small : List Name → Type 0
Small [] = Unit {0}
Small (k ∷ ks) = (k.epoch < 256 ^ 8) × (k.num < 256 ^ 8) × Small ks

-- the last noted first, as an ACK is read
abbrev pub noted : List Name → List Name
noted [] = []
noted (k ∷ ks) = noted ks ++ (k ∷ [])

length-noted : (ks : List Name) → length (noted ks) ≡ length ks
length-noted [] = refl
length-noted (k ∷ ks) = omega (arith, length-append (noted ks) (k ∷ []), length-noted ks)

length-names : (ks : List Name) → length (names_bytes ks) ≡ length ks * 16
length-names [] = refl
length-names (k ∷ ks) = omega (arith, length-names ks)

names-append : (ks ls : List Name) → names_bytes (ks ++ ls) ≡ names_bytes ks ++ names_bytes ls
names-append [] ls = refl
names-append (k ∷ ks) ls = ap (λ (b : List ℕ). be 8 k.epoch ++ (be 8 k.num ++ b)) (names-append ks ls)

-- the k bytes of n behind others, read back
behind : (a : List ℕ) (at n : ℕ) (r : List ℕ) → length a ≡ at → n < 256 ^ 8 → be_at 8 (a ++ (be 8 n ++ r)) at ≡ n
behind a at n r h small =
    let same : at ≡ length a + 0 = omega arith in
    ap (be_at 8 (a ++ (be 8 n ++ r))) same ∙ be_at-behind 8 a (be 8 n ++ r) 0 ∙ be_at-be 8 n r ∙ mod-eq_of_lt small

-- one record more behind others
module _ (h : List ℕ) (two : length h ≡ 2) (k : Name) (ks : List Name) (rest : List ℕ) (epoch-small : k.epoch < 256 ^ 8) (num-small : k.num < 256 ^ 8) where
  abbrev front : List ℕ
  front = h ++ names_bytes (noted ks)

  abbrev pair : List ℕ
  pair = be 8 k.epoch ++ (be 8 k.num ++ rest)

  abbrev whole : List ℕ
  whole = h ++ (names_bytes (noted (k ∷ ks)) ++ rest)

  abbrev at : ℕ
  at = 2 + length ks * 16

  long : length front ≡ at
  long = length-append h (names_bytes (noted ks)) ∙ omega (arith, length-names (noted ks), length-noted ks)

  grouped : whole ≡ h ++ (names_bytes (noted ks) ++ pair)
  grouped = ap (λ (b : List ℕ). h ++ (b ++ rest)) (names-append (noted ks) (k ∷ [])) ∙ ap (λ (b : List ℕ). h ++ b) (append_assoc (names_bytes (noted ks)) _ rest)

  bytes : whole ≡ front ++ pair
  bytes = grouped ∙ sym (append_assoc h (names_bytes (noted ks)) pair)

  epoch-back : be_at 8 whole at ≡ k.epoch
  epoch-back = ap (λ (b : List ℕ). be_at 8 b at) bytes ∙ behind front at k.epoch _ long epoch-small

  num-back : be_at 8 whole (at + 8) ≡ k.num
  num-back =
      ap (λ (b : List ℕ). be_at 8 b (at + 8)) (bytes ∙ sym (append_assoc front (be 8 k.epoch) _))
      ∙ behind (front ++ be 8 k.epoch) (at + 8) k.num rest (length-append front (be 8 k.epoch) ∙ omega (arith, long)) num-small

  one-more : pairs_of (h ++ (names_bytes (noted ks) ++ pair)) (length ks) ≡ ks → pairs_of whole (suc (length ks)) ≡ k ∷ ks
  one-more older = λ i. record { epoch = epoch-back i; num = num-back i } ∷ (ap (λ (b : List ℕ). pairs_of b (length ks)) grouped ∙ older) i

-- the records in front of what follows, the last first
pairs-back : (h : List ℕ) → length h ≡ 2 → (ks : List Name) (rest : List ℕ) → Small ks → pairs_of (h ++ (names_bytes (noted ks) ++ rest)) (length ks) ≡ ks
pairs-back h two [] rest small = refl
pairs-back h two (k ∷ ks) rest small = one-more h two k ks rest small.0 small.1 (pairs-back h two ks (pair h two k ks rest small.0 small.1) small.2)

-- "2-byte length, then pairs": an ACK of records of which the last is first reads as these
pub ack-reads : (ks : List Name) → length ks ≤ 32 → Small ks → names_in (ack_bytes (noted ks)) ≡ ks
unfolding names_in is_formed
ack-reads ks few small =
    let n : ℕ = length ks in
    let d : List ℕ = ack_bytes (noted ks) in
    let many : length d ≡ 2 + n * 16 = omega (arith, length-names (noted ks), length-noted ks) in
    let said : be_at 2 d 0 ≡ n * 16 = be_at-be 2 (length (noted ks) * 16) (names_bytes (noted ks)) ∙ mod-eq_of_lt (omega (arith, length-noted ks)) ∙ omega (arith, length-noted ks) in
    let whole-pairs : (length d - 2) % 16 ≡ 0 = omega arith in
    let pairs : (length d - 2) / 16 ≡ n = omega arith in
    if_true _ _ (both_true (le-leb 2 (length d) (omega arith)) ∙ both_true (eq-eqb (be_at 2 d 0) (length d - 2) (omega arith)) ∙ eq-eqb _ _ whole-pairs)
    ∙ ap (pairs_of d) pairs ∙ ap (λ (b : List ℕ). pairs_of (be 2 (length (noted ks) * 16) ++ b) n) (sym (append-nil (names_bytes (noted ks))))
    ∙ pairs-back (be 2 (length (noted ks) * 16)) refl ks [] small
