-- What a reader finds at an offset of a datagram, and the offset behind it (01, "a reader over one datagram that keeps its slice and
-- the offset reached").
use Rattle.std.specs.Prelude.{Bool, true, false, List, ◌≡◌, refl, ℕ, ◌+◌, ◌-◌, ◌≤◌, length, drop}
use Rattle.std.proofs.Common.{arith, length-drop}
use Rattle.base.specs.Choose.{choose}
use Rattle.record.specs.Laws.{Inside, inside}
use Rattle.record.specs.Record.{parsed, head_of, size_of, rest_of}
use Rattle.record.specs.declared.Parsed.{Parsed}
use Rattle.record.specs.declared.Parsed.TheVariants as parse
use Rattle.reader.specs.declared.Step.{Step}

-- behind the record, where so many bytes of the datagram are left; the datagram's end where it ends
abbrev pub next_of : Parsed → ℕ → ℕ → ℕ
next_of parse.End size left = size
next_of parse.Incomplete size left = size
next_of (parse.Invalid n) size left = size - left
next_of (parse.Plaintext p) size left = size - left
next_of (parse.Ciphertext c) size left = size - left

-- a record, allowed or not
abbrev pub is_record : Parsed → Bool
is_record parse.End = false
is_record parse.Incomplete = false
is_record (parse.Invalid n) = true
is_record (parse.Plaintext p) = true
is_record (parse.Ciphertext c) = true

unfoldable pub step_at : List ℕ → ℕ → Step
step_at d at = record {
  found = parsed (drop at d);
  at = next_of (parsed (drop at d)) (length d) (length (rest_of (drop at d) (parsed (drop at d))));
}

-- ---- laws; they assume nothing

next_le : (p : Parsed) (size left : ℕ) → next_of p size left ≤ size
next_le parse.End size left = omega arith
next_le parse.Incomplete size left = omega arith
next_le (parse.Invalid n) size left = omega arith
next_le (parse.Plaintext p) size left = omega arith
next_le (parse.Ciphertext c) size left = omega arith

-- the reader stays in its datagram
pub step-inside : (d : List ℕ) (at : ℕ) → (step_at d at).at ≤ length d
unfolding step_at
step-inside d at = next_le (parsed (drop at d)) (length d) _

next_past : (d : List ℕ) (at : ℕ) (p : Parsed) → at ≤ length d → Inside (length (drop at d)) p
    → next_of p (length d) (length (rest_of (drop at d) p)) ≡ choose (is_record p) (at + head_of p + size_of p) (length d)
unfolding choose
next_past d at parse.End h i = refl
next_past d at parse.Incomplete h i = refl
next_past d at (parse.Invalid n) h i = let k = simp length-drop at i in simp length-drop (omega arith)
next_past d at (parse.Plaintext p) h i = let k = simp length-drop at i in simp length-drop (omega arith)
next_past d at (parse.Ciphertext c) h i = let k = simp length-drop at i.fits in simp length-drop (omega arith)

-- behind a record it stands at the record's end, header and content passed; else at the datagram's end
pub step_past : (d : List ℕ) (at : ℕ) → at ≤ length d
    → (step_at d at).at ≡ choose (is_record (parsed (drop at d))) (at + head_of (parsed (drop at d)) + size_of (parsed (drop at d))) (length d)
unfolding step_at
step_past d at h = next_past d at (parsed (drop at d)) h (inside (drop at d))
