-- How long lines are: so many bytes hold those of every input. Assumes nothing.
use mathlib.Core.List.{List, [], ◌++◌}
use Rattle.std.specs.Prelude.{◌≡◌, refl, take, ltb}
use Rattle.std.proofs.Math.Path.{sym, ap}
use Rattle.std.proofs.Common.{◌∙◌, add-one, lt-ltb, le-ltb}
use Prim.Native.Nat.{ℕ, zero, suc, ◌+◌, ◌*◌, ◌^◌, ◌<◌, ◌≤◌}
use native.Mathlib.Omega.{arith}
use Rattle.std.proofs.Math.ListN.{length, length-append}
use Rattle.base.specs.Choose.{choose, by_test, if_true, if_false}
use Rattle.base.specs.Parts.{splice, splice-here}
use Rattle.decimal.proofs.Laws.{decimal-short, splice-none}
use Rattle.reasons.specs.declared.Reason.{Reason}
use Rattle.reasons.specs.declared.Reason.TheVariants.{Short, Record, Epoch, Old, Seen, Cipher, Taken}
use Rattle.reasons.specs.declared.Told.{Told}
use Rattle.reasons.specs.Reasons.{most_records, record_at, kept_at, told_in, name_of, shown, line_of, told_to, told_at, records, lines_to, printed}
use Rattle.reasons.proofs.Laws.{top_at, taken-small, number_small}
use Rattle.reasons.proofs.Cases.{tell-cases}
use Rattle.reason_steps.specs.Writing.{Put, put_next, put_as}

-- five digits of the index, ten of the number, a word of six letters, two spaces and the newline
abbrev pub line_room : ℕ
line_room = 24

abbrev pub lines_room : ℕ
lines_room = most_records * line_room

-- what is printed where so many bytes are lent: nothing if they do not hold the lines of every input
unfoldable pub explained : List ℕ → ℕ → List ℕ
explained d room = choose (ltb room lines_room) [] (printed d)

pub explained-none : (d : List ℕ) (room : ℕ) → room < lines_room → explained d room ≡ []
unfolding explained
explained-none d room l = if_true _ _ (lt-ltb room lines_room l)

pub explained-all : (d : List ℕ) (room : ℕ) → lines_room ≤ room → explained d room ≡ printed d
unfolding explained
explained-all d room l = if_false _ _ (le-ltb room lines_room l)

name-short : (why : Reason) → length (name_of why) ≤ 6
name-short Short = omega arith
name-short Record = omega arith
name-short Epoch = omega arith
name-short Old = omega arith
name-short Seen = omega arith
name-short Cipher = omega arith
name-short Taken = omega arith

module _ (d : List ℕ) where
  number-told : (i : ℕ) → (told_at d i).number < top_at (i + 1)
  unfolding told_at told_in
  number-told i =
      tell-cases (λ (t : Told). t.number < top_at (i + 1)) (kept_at d i) (told_to d i) (record_at d i) (λ w. omega arith) (λ w x. omega arith) (λ w x y. omega arith)
      (λ w x y. number_small d i _ (taken-small d i _))

  shown-short : (why : Reason) (n : ℕ) → n < 10 ^ 10 → length (shown why n) ≤ 10
  unfolding shown
  shown-short why n l = by_test (λ (x : List ℕ). length x ≤ 10) (λ _. decimal-short 10 n (omega arith) l) (λ _. omega arith)

  pub line-short : (i : ℕ) → i < most_records → length (line_of i (told_at d i)) ≤ line_room
  unfolding line_of
  line-short i l =
      let t = told_at d i in
      simp length-append
      (omega (arith, decimal-short 5 i (omega arith) (omega arith), shown-short t.reason t.number (omega (arith, number-told i)), name-short t.reason))

  pub lines_next : (i : ℕ) → lines_to d (i + 1) ≡ lines_to d i ++ line_of i (told_at d i)
  unfolding lines_to
  lines_next i = ap (lines_to d) (add-one i)

  pub lines-short : (i : ℕ) → i ≤ most_records → length (lines_to d i) ≤ i * line_room
  unfolding lines_to
  lines-short zero l = omega arith
  lines-short (suc i) l = simp length-append (omega (arith, lines-short i (omega arith), line-short i (omega arith)))

  pub records-few : records d ≤ most_records
  unfolding records
  records-few = omega arith

  -- the next line has room
  pub next-room : {t : Told} {at room : ℕ} (i : ℕ) → i < most_records → t ≡ told_at d i → at ≡ 0 + length (lines_to d i) → lines_room ≤ room → at + length (line_of i t) ≤ room
  next-room {t} i l e a r =
      let same : length (line_of i t) ≡ length (line_of i (told_at d i)) = ap (λ (x : Told). length (line_of i x)) e in
      omega (arith, lines-short i (omega arith), line-short i l)

  -- and is put behind the others
  pub next-put : {t : Told} {out₀ out new : List ℕ} {at end : ℕ} (i : ℕ) → t ≡ told_at d i → Put out₀ 0 (lines_to d i) out at → Put out at (line_of i t) new end
      → Put out₀ 0 (lines_to d (i + 1)) new end
  next-put i e p q = put_as (put_next p (omega arith) (put_as q (ap (line_of i) e))) (sym (lines_next i))

  pub none-put : (out : List ℕ) → Put out 0 (lines_to d 0) out 0
  unfolding lines_to
  none-put out = record { ends = refl; bytes = sym (splice-none 0 out) }

  pub all-put : {out₀ out : List ℕ} {at : ℕ} (i : ℕ) → i ≡ records d → Put out₀ 0 (lines_to d i) out at → Put out₀ 0 (printed d) out at
  unfolding printed
  all-put i e p = put_as p (ap (lines_to d) e)

  pub printed-short : length (printed d) ≤ lines_room
  unfolding printed
  printed-short = omega (arith, lines-short (records d) records-few, records-few)

  -- the front of the buffer is what is printed
  pub front-put : {out new : List ℕ} {n : ℕ} → lines_room ≤ length out → Put out 0 (printed d) new n → take n new ≡ printed d
  front-put {out} {new} {n} l p =
      let e : n ≡ length (printed d) = omega (arith, p.ends) in
      ap (λ (x : List ℕ). take n x) p.bytes ∙ ap (λ (k : ℕ). take k (splice 0 (printed d) out)) e
      ∙ splice-here 0 (printed d) out (omega (arith, printed-short))
