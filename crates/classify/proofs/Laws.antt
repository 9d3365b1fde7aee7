-- A reading in range lies within its datagram. Laws of leaving the rest of a datagram: the ranges are kept, a question that waits stays, and where none
-- waits a read finds the end. Assumes nothing.
use Rattle.std.specs.Prelude.{ℕ, ◌+◌, ◌≤◌, eqb, length, drop, false, List, ◌≡◌}
use Rattle.std.proofs.Common.{eq-eqb, leb-true, length-drop, sym, ◌∙◌, arith}
use Rattle.std.proofs.Math.Bool.{true}
use Rattle.std.proofs.Math.Path.{refl, ap, subst}
use Rattle.base.specs.Choose.{both, if_true, if_false, both_left, both_right, either-false}
use Rattle.datagram.specs.Datagram.{question_sound, told}
use Rattle.datagram.specs.Sound.{Ready, ready, is-ready}
use Rattle.datagram.specs.declared.Ask.{Ask}
use Rattle.datagram.specs.declared.Datagram.{Datagram}
use Rattle.datagram.specs.declared.Question.TheVariants as question
use Rattle.datagram.specs.declared.Question.{Question}
use Rattle.datagram.specs.declared.Reading.TheVariants as says
use Rattle.receiving.specs.Laws.{Made}
use Rattle.receiving.specs.Receiving.{sound, stepped, read_of}
use Rattle.receiving.specs.declared.Read.{Read}
use Rattle.receiving.specs.declared.Receiving.{Receiving}
use Rattle.record.specs.Record.{parsed}
use Rattle.record.specs.declared.Parsed.TheVariants as parse
use Rattle.record.specs.declared.Parsed.{Parsed}
use Rattle.records.proofs.Leads.{read-asks}
use Rattle.records.specs.Records.{step_of, asking}
use Rattle.recv_keys.specs.declared.RecvKeys.{RecvKeys}
use Rattle.classify.specs.Classify.{kind_of, start_of, length_of, is_inside, is_sound, classified, left_at, finished}
use Rattle.classify.specs.declared.Class.TheVariants as class
use Rattle.classify.specs.Laws.{at_end}

-- ---- words in range, over n bytes

pub waits-inside : (n : ℕ) (w : List ℕ) → is_sound n w ≡ true → eqb (kind_of w) 0 ≡ false → start_of w + length_of w ≤ n
unfolding is_sound is_inside
waits-inside n w t z =
    let i = both_right _ _ (sym (either-false z) ∙ both_left _ _ t) in
    omega (arith, leb-true (start_of w) n (both_left _ _ i), leb-true (length_of w) _ (both_right _ _ i))

-- 12 before 15, whatever the length
pub setting-first : (w : List ℕ) (s : Receiving) (d : List ℕ) → both (sound s) (is_sound s.datagram.size w) ≡ false → classified w s d ≡ class.Setting
unfolding classified
setting-first w s d e = if_false _ _ e

-- ---- the rest of a datagram

abbrev around : RecvKeys → Datagram → Receiving
around k b = record { keys = k; datagram = b }

-- ---- what becomes of the state

-- with no question the cut stands at the end, and nothing else moves
pub finished-idle : (s : Receiving) → s.datagram.question ≡ question.Nothing → finished s ≡ around s.keys (at_end s.datagram)
finished-idle s e = ap (λ (q : Question). around s.keys (left_at q s.datagram)) e

-- a question that waits stays, and so does all else
pub finished-masked : (s : Receiving) (a : Ask) → s.datagram.question ≡ question.Mask a → finished s ≡ s
finished-masked s a e = ap (λ (q : Question). around s.keys (left_at q s.datagram)) e

pub finished-opening : (s : Receiving) (a : Ask) (n : ℕ) → s.datagram.question ≡ question.Opening a n → finished s ≡ s
finished-opening s a n e = ap (λ (q : Question). around s.keys (left_at q s.datagram)) e

-- ---- the ranges are kept

left-ready : (k : RecvKeys) (b : Datagram) → Ready k b → (q : Question) → Ready k (left_at q b)
unfolding question_sound
left-ready k b r question.Nothing =
    record { keys = r.keys; size = r.size; at = omega arith; readings = r.readings; question = refl }
left-ready k b r (question.Mask a) = r
left-ready k b r (question.Opening a n) = r

pub finished-sound : (s : Receiving) → sound s ≡ true → sound (finished s) ≡ true
finished-sound s t = is-ready s.keys _ (left-ready s.keys s.datagram (ready s.keys s.datagram t) s.datagram.question)

pub finished-made : (s : Receiving) → Made s → Made (finished s)
finished-made s m = record { ready = left-ready s.keys s.datagram m.ready s.datagram.question; long = m.long }

-- ---- "ends the datagram"

-- nothing lies behind the last byte
all_read : (d : List ℕ) (n : ℕ) → length d ≡ n → parsed (drop n d) ≡ parse.End
unfolding parsed
all_read d n e = if_true _ _ (eq-eqb (length (drop n d)) 0 (omega (arith, length-drop n d)))

module _ (s : Receiving) (d : List ℕ) (in-range : sound s ≡ true) (long : length d ≡ s.datagram.size) (idle : s.datagram.question ≡ question.Nothing) where
  finished-read : read_of (finished s) d ≡ stepped s.keys (told (at_end s.datagram) says.End)
  unfolding asking step_of
  finished-read =
      let kept : sound (around s.keys (at_end s.datagram)) ≡ true =
      subst (λ (z : Receiving). sound z ≡ true) (finished-idle s idle) (finished-sound s in-range) in
      ap (λ (z : Receiving). read_of z d) (finished-idle s idle)
      ∙ ap (stepped s.keys)
      (read-asks s.keys (at_end s.datagram) d question.Nothing kept long refl
      ∙ ap (λ (p : Parsed). step_of p s.keys (at_end s.datagram)) (all_read d s.datagram.size long))

  -- the next read finds the end, and leaves all as it is: so does every read behind it
  pub finished-ends : (read_of (finished s) d).reading ≡ says.End
  finished-ends = ap (λ (r : Read). r.reading) finished-read

  pub finished-stays : (read_of (finished s) d).state ≡ finished s
  finished-stays = ap (λ (r : Read). r.state) finished-read ∙ sym (finished-idle s idle)
