-- No list of calls from a fresh state meets 12. Assumes nothing.
use Prim.Native.Nat.{ℕ, ◌+◌, ◌-◌, ◌≤◌}
use Rattle.std.specs.Prelude.{drop, true, false, ◌≡◌, refl, Some, None}
use Rattle.std.proofs.lemmas.Bool.{false≢true}
use Rattle.std.proofs.Common.{true≢false, sym, ap, ◌∙◌, arith}
use mathlib.Core.List.{List}
use Rattle.base.specs.Choose.{by_test}
use Rattle.base.specs.Parts.{part}
use Rattle.datagram.specs.Datagram.{reason_number, reading_number, question_sound}
use Rattle.datagram.specs.Keeps.{refused, Goes}
use Rattle.datagram.specs.Sound.{held, held-opening}
use Rattle.datagram.specs.declared.Ask.{Ask}
use Rattle.datagram.specs.declared.Datagram.{Datagram}
use Rattle.datagram.specs.declared.Question.TheVariants as question
use Rattle.datagram.specs.declared.Question.{Question}
use Rattle.datagram.specs.declared.Reading.TheVariants as says
use Rattle.datagram.specs.declared.Reading.{Reading}
use Rattle.datagram.specs.declared.Reason.TheVariants as reason
use Rattle.datagram.specs.declared.Reason.{Reason}
use Rattle.datagram.specs.declared.Step.{Step}
use Rattle.incoming.specs.Inner.{inner_of}
use Rattle.mask_reply.proofs.Keeps.{judged-goes}
use Rattle.mask_reply.specs.Mask.{masked_at, masked_by, masking as answering, mask_step}
use Rattle.opening_reply.proofs.Keeps.{typed-goes}
use Rattle.opening_reply.specs.Opening.{typed, opened_at, opened_by, openings, opened_step, Opening}
use Rattle.opening_reply.specs.declared.Marked.{Marked}
use Rattle.record.specs.Record.{parsed}
use Rattle.records.proofs.Keeps.{step-goes}
use Rattle.records.specs.Records.{opening_asked, asked_again, asking, read_step}
use Rattle.recv_keys.specs.Keys.{find, was_found, is_keyed, Found}
use Rattle.recv_keys.specs.declared.RecvKeys.{RecvKeys}
use Rattle.receiving.specs.Calls.Call.{keying, removing, encrypting, releasing, beginning, reading, masking, opening}
use Rattle.receiving.specs.Calls.{Call, after, run}
use Rattle.receiving.specs.Laws.{Made, fresh-made, run-made, made-sound}
use Rattle.receiving.specs.Receiving.{answer_number, sound, fresh_of, key_of, leaving, removed_by, remove_of, encrypt_of, release_of, begin_of}
use Rattle.receiving.specs.declared.Kept.{Kept}
use Rattle.receiving.specs.declared.Receiving.{Receiving}

-- ---- a call that reads

reason_not : (r : Reason) → reason_number r ≡ 12 → ⊥
reason_not reason.Invalid e = omega arith
reason_not reason.EarlyBits e = omega arith
reason_not reason.NoKeys e = omega arith
reason_not reason.TooShort e = omega arith
reason_not reason.TooHigh e = omega arith
reason_not reason.Seen e = omega arith
reason_not reason.TooOld e = omega arith
reason_not reason.NotOpened e = omega arith
reason_not reason.NoContentType e = omega arith

-- what is not refused is not 12
goes_not : (r : Reading) → refused r ≡ false → reading_number r ≡ 12 → ⊥
goes_not says.Setting g e = absurd (true≢false g)
goes_not says.Reply g e = absurd (true≢false g)
goes_not says.End g e = omega arith
goes_not says.Incomplete g e = omega arith
goes_not says.TooMany g e = omega arith
goes_not (says.Dropped r) g e = reason_not r e
goes_not (says.Plaintext t n s l) g e = omega arith
goes_not (says.Unopened b n s l) g e = omega arith
goes_not (says.Opened x n t s l) g e = omega arith
goes_not (says.Mask x s) g e = omega arith
goes_not (says.Opening x n s h l) g e = omega arith

abbrev Not : Step → Type 0
Not t = reading_number t.reading ≡ 12 → ⊥

step_not : (t : Step) → Goes t → Not t
step_not t = goes_not t.reading

keyed-found : (k : RecvKeys) (x : ℕ) → is_keyed k x ≡ true → find k.entries x k.count ≡ None → ⊥
unfolding is_keyed was_found
keyed-found k x t q = false≢true (sym (ap was_found q) ∙ t)

again_not : (k : RecvKeys) (b : Datagram) (a : Ask) (n : ℕ) → is_keyed k a.epoch ≡ true → (f : Found)
    → find k.entries a.epoch k.count ≡ f → Not (asked_again f k b a n)
unfolding asked_again opening_asked
again_not k b a n t None q e = keyed-found k a.epoch t q
again_not k b a n t (Some i) q e = omega arith

asking_not : (k : RecvKeys) (b : Datagram) (d : List ℕ) (q : Question) → question_sound k q (b.size - b.at) ≡ true → Not (asking q k b d)
unfolding asking question_sound
asking_not k b d question.Nothing t e = step_not (asking question.Nothing k b d) (step-goes (parsed (drop b.at d)) k b) e
asking_not k b d (question.Mask a) t e = omega arith
asking_not k b d (question.Opening a n) t e = again_not k b a n (held-opening k a n _ t).1.installed _ refl e

masked_not : (k : RecvKeys) (b : Datagram) (a : Ask) (m d : List ℕ) → is_keyed k a.epoch ≡ true → (f : Found)
    → find k.entries a.epoch k.count ≡ f → Not (masked_by f k b a m d).0
unfolding masked_by masked_at
masked_not k b a m d t None q e = keyed-found k a.epoch t q
masked_not k b a m d t (Some i) q e = step_not (masked_by (Some i) k b a m d).0 (judged-goes _ b a _) e

masking_not : (k : RecvKeys) (b : Datagram) (m d : List ℕ) (q : Question) → question_sound k q (b.size - b.at) ≡ true → Not (answering q k b m d).0
unfolding answering question_sound
masking_not k b m d question.Nothing t e = omega arith
masking_not k b m d (question.Mask a) t e = masked_not k b a m d (held k a _ t).installed _ refl e
masking_not k b m d (question.Opening a n) t e = omega arith

abbrev NotMarked : Marked → Type 0
NotMarked m = Not m.step

opened_not : (k : RecvKeys) (b : Datagram) (a : Ask) (n : ℕ) (d : List ℕ) → is_keyed k a.epoch ≡ true → (o : Opening) (f : Found)
    → find k.entries a.epoch k.count ≡ f → NotMarked (opened_by f o k b a n d)
unfolding opened_by opened_at
opened_not k b a n d t o None q = λ e. keyed-found k a.epoch t q
opened_not k b a n d t None (Some i) q = λ e. omega arith
opened_not k b a n d t (Some len) (Some i) q =
    by_test NotMarked (λ u. step_not (typed b a n (inner_of (part (b.at + a.header_len) len d))) (typed-goes b a n _)) (λ u e. omega arith)

openings_not : (k : RecvKeys) (b : Datagram) (o : Opening) (d : List ℕ) (q : Question) → question_sound k q (b.size - b.at) ≡ true
    → NotMarked (openings q o k b d)
unfolding openings question_sound
openings_not k b o d question.Nothing t e = omega arith
openings_not k b o d (question.Mask a) t e = omega arith
openings_not k b o d (question.Opening a n) t e = opened_not k b a n d (held-opening k a n _ t).1.installed o _ refl e

module _ (s : Receiving) (m : Made s) where
  in-range : {A : Type 0} → sound s ≡ false → A
  in-range t = absurd (false≢true (sym t ∙ made-sound s m))

  read_not : (d : List ℕ) → Not (read_step s.keys s.datagram d)
  unfolding read_step
  read_not d =
      by_test Not (λ t. by_test Not (λ u. asking_not s.keys s.datagram d s.datagram.question m.ready.question) (λ u e. omega arith))
      (λ t. in-range t)

  mask_not : (n d : List ℕ) → Not (mask_step s.keys s.datagram n d).0
  unfolding mask_step
  mask_not n d =
      by_test NotFirst
      (λ t. by_test NotFirst (λ u. masking_not s.keys s.datagram n d s.datagram.question m.ready.question) (λ u e. omega arith))
      (λ t. in-range t)
    where
      NotFirst : Step × List ℕ → Type 0
      NotFirst x = Not x.0

  reply_not : (o : Opening) (d : List ℕ) → NotMarked (opened_step s.keys s.datagram o d)
  unfolding opened_step
  reply_not o d =
      by_test NotMarked
      (λ t. by_test NotMarked (λ u. openings_not s.keys s.datagram o d s.datagram.question m.ready.question) (λ u e. omega arith))
      (λ t. in-range t)

-- ---- the other calls

abbrev NotKept : Kept → Type 0
NotKept k = answer_number k.answer ≡ 12 → ⊥

removed_not : (s : Receiving) (epoch : ℕ) (f : Found) → NotKept (removed_by f s epoch)
unfolding removed_by leaving
removed_not s epoch None = λ e. omega arith
removed_not s epoch (Some i) = by_test NotKept (λ t e. omega arith) (λ t e. omega arith)

module _ (s : Receiving) (m : Made s) where
  key_not : (epoch : ℕ) (iv : List ℕ) → NotKept (key_of s epoch iv)
  unfolding key_of
  key_not epoch iv =
      by_test NotKept
      (λ t. by_test NotKept (λ u e. omega arith)
      (λ u. by_test NotKept (λ v e. omega arith) (λ v. by_test NotKept (λ w e. omega arith) (λ w e. omega arith))))
      (λ t. in-range s m t)

  remove_not : (epoch : ℕ) → NotKept (remove_of s epoch)
  unfolding remove_of
  remove_not epoch = by_test NotKept (λ t. removed_not s epoch _) (λ t. in-range s m t)

  encrypt_not : NotKept (encrypt_of s)
  unfolding encrypt_of
  encrypt_not = by_test NotKept (λ t e. omega arith) (λ t. in-range s m t)

  release_not : NotKept (release_of s)
  unfolding release_of
  release_not = by_test NotKept (λ t e. omega arith) (λ t. in-range s m t)

  begin_not : (n : ℕ) → NotKept (begin_of s n)
  unfolding begin_of
  begin_not n = by_test NotKept (λ t. by_test NotKept (λ u e. omega arith) (λ u e. omega arith)) (λ t. in-range s m t)

  -- no call on a state that calls made is 12
  pub not_twelve : (c : Call) → (after c s).number ≡ 12 → ⊥
  not_twelve (keying epoch iv) = key_not epoch iv
  not_twelve (removing epoch) = remove_not epoch
  not_twelve encrypting = encrypt_not
  not_twelve releasing = release_not
  not_twelve (beginning n) = begin_not n
  not_twelve (reading d) = read_not s m d
  not_twelve (masking n d) = mask_not s m n d
  not_twelve (opening o d) = reply_not s m o d

-- from a fresh state with a setting in range, no call of any list is 12
pub never_twelve : (min : ℕ) (cs : List Call) (c : Call) → min ≤ 17 → (after c (run cs (fresh_of min).state)).number ≡ 12 → ⊥
never_twelve min cs c h = not_twelve (run cs (fresh_of min).state) (run-made cs (fresh_of min).state (fresh-made min h)) c
