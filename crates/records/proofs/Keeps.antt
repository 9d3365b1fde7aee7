-- A read keeps the ranges, and where it is refused, 12 or 15, the datagram's state. Assumes nothing.
use Rattle.std.specs.Prelude.{ℕ, ◌+◌, ◌-◌, ◌≤◌, length, drop, true, List, ◌≡◌, refl, Some, None}
use borrow.Author.Tests.{eqb-true, ltb-false}
use Rattle.std.proofs.Common.{length-drop, arith}
use Rattle.base.specs.Choose.{by_test}
use Rattle.datagram.specs.Datagram.{question_sound, is_sound}
use Rattle.datagram.specs.Keeps.{Good, passed-keeps, question-keeps, counted-keeps, refused, never, Goes, counted-goes, Stays}
use Rattle.datagram.specs.Sound.{is_held, Ready, ready, is-ready}
use Rattle.datagram.specs.declared.Ask.{Ask}
use Rattle.datagram.specs.declared.Datagram.{Datagram}
use Rattle.datagram.specs.declared.Question.TheVariants as question
use Rattle.datagram.specs.declared.Question.{Question}
use Rattle.record.specs.Record.{tag_size, parsed}
use Rattle.record.specs.declared.Ciphertext.{Ciphertext}
use Rattle.record.specs.declared.Parsed.TheVariants as parse
use Rattle.record.specs.declared.Parsed.{Parsed}
use Rattle.recv_keys.specs.Keeps.{is-standing}
use Rattle.recv_keys.specs.Keys.{entry_at, find, resolve, Found}
use Rattle.recv_keys.specs.Laws.{resolve-keyed}
use Rattle.recv_keys.specs.declared.RecvKeys.{RecvKeys}
use Rattle.record.specs.Laws.{Whole, Inside, inside}
use Rattle.records.specs.Records.{ask_of, locked_step, sealed_step, step_of, opening_asked, asked_again, asking, read_step}

module _ (k : RecvKeys) (b : Datagram) (n : ℕ) (r : Ready k b) (fits : b.at + n ≤ b.size) where
  locked-keeps : (c : Ciphertext) → Whole c n → (f : Found) → resolve k c.epoch_bits ≡ f → Good k (locked_step f k b c)
  unfolding locked_step question_sound
  locked-keeps c w None q = passed-keeps k b _ r (omega (arith, w.fits))
  locked-keeps c w (Some i) q =
      by_test (Good k) (λ t. passed-keeps k b _ r (omega (arith, w.fits)))
      (λ t. by_test (Good k) (λ u. passed-keeps k b _ r (omega (arith, w.fits)))
      (λ u. question-keeps k b (question.Mask (ask_of (entry_at k i).epoch c)) r
      (is_held k (ask_of (entry_at k i).epoch c) (b.size - b.at) (record {
        two = w.two;
        head = omega (arith, w.fits);
        tag = ltb-false c.length tag_size t;
        fits = omega (arith, w.fits);
        installed = is-standing k (entry_at k i).epoch i (resolve-keyed k c.epoch_bits i q) refl;
      }))))

  sealed-keeps : (c : Ciphertext) → Whole c n → Good k (sealed_step k b c)
  unfolding sealed_step
  sealed-keeps c w =
      by_test (Good k) (λ t. locked-keeps c w (resolve k c.epoch_bits) refl)
      (λ t. by_test (Good k) (λ u. passed-keeps k b _ r (omega (arith, w.fits))) (λ u. counted-keeps k b _ _ r (omega (arith, w.fits))))

  step_keeps : (p : Parsed) → Inside n p → Good k (step_of p k b)
  unfolding step_of
  step_keeps parse.End i = passed-keeps k b b.size r (omega arith)
  step_keeps parse.Incomplete i = passed-keeps k b b.size r (omega arith)
  step_keeps (parse.Invalid l) i = passed-keeps k b _ r (omega arith)
  step_keeps (parse.Plaintext p) i = counted-keeps k b _ _ r (omega arith)
  step_keeps (parse.Ciphertext c) i = sealed-keeps c i

again-keeps : (k : RecvKeys) (b : Datagram) (a : Ask) (n : ℕ) → Ready k b → question_sound k (question.Opening a n) (b.size - b.at) ≡ true
    → (f : Found) → Good k (asked_again f k b a n)
unfolding asked_again opening_asked
again-keeps k b a n r q None = r
again-keeps k b a n r q (Some i) = question-keeps k b (question.Opening a n) r q

asking-keeps : (k : RecvKeys) (b : Datagram) (d : List ℕ) (q : Question) → Ready k b → length d ≡ b.size
    → question_sound k q (b.size - b.at) ≡ true → Good k (asking q k b d)
unfolding asking
asking-keeps k b d question.Nothing r l t =
    let rest = drop b.at d in
    step_keeps k b (length rest) r (omega (arith, length-drop b.at d, r.at)) (parsed rest) (inside rest)
asking-keeps k b d (question.Mask a) r l t = r
asking-keeps k b d (question.Opening a n) r l t = again-keeps k b a n r t (find k.entries a.epoch k.count)

-- a read keeps the ranges
pub read_keeps : (k : RecvKeys) (b : Datagram) (d : List ℕ) → is_sound k b ≡ true → is_sound k (read_step k b d).datagram ≡ true
unfolding read_step
read_keeps k b d t =
    let r = ready k b t in
    is-ready k _
    (by_test (Good k)
    (λ u. by_test (Good k) (λ v. asking-keeps k b d b.question r (eqb-true (length d) b.size v) r.question) (λ v. r))
    (λ u. r))

-- ---- refused: 12 and 15

locked-goes : (f : Found) (k : RecvKeys) (b : Datagram) (c : Ciphertext) → Goes (locked_step f k b c)
unfolding locked_step
locked-goes None k b c = refl
locked-goes (Some i) k b c = by_test Goes (λ t. refl) (λ t. by_test Goes (λ u. refl) (λ u. refl))

pub step-goes : (p : Parsed) (k : RecvKeys) (b : Datagram) → Goes (step_of p k b)
unfolding step_of sealed_step
step-goes parse.End k b = refl
step-goes parse.Incomplete k b = refl
step-goes (parse.Invalid n) k b = refl
step-goes (parse.Plaintext p) k b = counted-goes b _ _ refl
step-goes (parse.Ciphertext c) k b =
    by_test Goes (λ t. locked-goes _ k b c) (λ t. by_test Goes (λ u. refl) (λ u. counted-goes b _ _ refl))

again-stays : (f : Found) (k : RecvKeys) (b : Datagram) (a : Ask) (n : ℕ) → Stays b (asked_again f k b a n)
unfolding asked_again opening_asked
again-stays None k b a n t = refl
again-stays (Some i) k b a n t = never refl t

asking-stays : (q : Question) (k : RecvKeys) (b : Datagram) (d : List ℕ) → Stays b (asking q k b d)
unfolding asking
asking-stays question.Nothing k b d t = never (step-goes (parsed (drop b.at d)) k b) t
asking-stays (question.Mask a) k b d t = refl
asking-stays (question.Opening a n) k b d t = again-stays _ k b a n t

pub read_stays : (k : RecvKeys) (b : Datagram) (d : List ℕ) → refused (read_step k b d).reading ≡ true → (read_step k b d).datagram ≡ b
unfolding read_step
read_stays k b d = by_test (Stays b) (λ t. by_test (Stays b) (λ u. asking-stays b.question k b d) (λ u e. refl)) (λ t e. refl)
