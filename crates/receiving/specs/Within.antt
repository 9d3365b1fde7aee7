-- The part of the datagram that a reading or a question names lies within it, whatever stands in the state. Assumes nothing.
use Rattle.std.specs.Prelude.{ℕ, ◌+◌, ◌-◌, ◌≤◌, length, drop, true, List, ◌∷◌, ◌≡◌, Some, None, Option}
use borrow.Author.Tests.{eqb-true, ltb-false}
use Rattle.std.proofs.Common.{length-drop, length-append, sym, ap, subst, arith}
use Rattle.std.proofs.Math.Path.{refl}
use Rattle.base.specs.Choose.{by_test}
use Rattle.base.specs.Parts.{part, length_part}
use Rattle.datagram.specs.Datagram.{question_sound, counted}
use Rattle.datagram.specs.Keeps.{end_fits}
use Rattle.datagram.specs.Sound.{Held, held, held-opening, Ready, ready}
use Rattle.datagram.specs.declared.Ask.{Ask}
use Rattle.datagram.specs.declared.Datagram.{Datagram}
use Rattle.datagram.specs.declared.Question.TheVariants as question
use Rattle.datagram.specs.declared.Question.{Question}
use Rattle.datagram.specs.declared.Reading.TheVariants as says
use Rattle.datagram.specs.declared.Reading.{Reading}
use Rattle.datagram.specs.declared.Step.{Step}
use Rattle.incoming.specs.Inner.{inner_of, zeros, inner-holds, holding}
use Rattle.incoming.specs.declared.Inner.{Inner}
use Rattle.mask_reply.proofs.Leads.{by-judged}
use Rattle.mask_reply.specs.Mask.{judged, masked_at, masked_by, masking, mask_step}
use Rattle.opening_reply.specs.Opening.{typed, opened_at, opened_by, openings, opened_step, Opening}
use Rattle.opening_reply.specs.declared.Marked.{Marked}
use Rattle.record.specs.Laws.{Whole, Inside, inside}
use Rattle.record.specs.Record.{tag_size, parsed}
use Rattle.record.specs.declared.Ciphertext.{Ciphertext}
use Rattle.record.specs.declared.Parsed.TheVariants as parse
use Rattle.record.specs.declared.Parsed.{Parsed}
use Rattle.records.specs.Records.{locked_step, sealed_step, step_of, opening_asked, asked_again, asking, read_step}
use Rattle.recv_keys.specs.Keys.{Found}
use Rattle.recv_keys.specs.declared.RecvEpochEntry.{RecvEpochEntry}
use Rattle.recv_keys.specs.declared.RecvKeys.{RecvKeys}
use Rattle.receiving.specs.Receiving.{read_of, mask_of, opened_of}
use Rattle.receiving.specs.declared.Receiving.{Receiving}

-- the bytes of which a mask is asked
abbrev pub sample_size : ℕ
sample_size = 16

-- within n bytes: a content or a protected part; what a mask is asked of; the header and protected part of an opening
abbrev pub Within : ℕ → Reading → Type 0
Within n (says.Plaintext t m s l) = s + l ≤ n
Within n (says.Unopened b m s l) = s + l ≤ n
Within n (says.Opened e m t s l) = s + l ≤ n
Within n (says.Mask e s) = s + sample_size ≤ n
Within n (says.Opening e m s h l) = s + h + l ≤ n
Within n says.Setting = Unit {0}
Within n says.Reply = Unit {0}
Within n says.End = Unit {0}
Within n says.Incomplete = Unit {0}
Within n says.TooMany = Unit {0}
Within n (says.Dropped r) = Unit {0}

abbrev Lies : ℕ → Step → Type 0
Lies n t = Within n t.reading

counted-lies : (n : ℕ) (b : Datagram) (next : ℕ) (x : Reading) → Within n x → Lies n (counted b next x)
unfolding counted
counted-lies n b next x h = by_test (Lies n) (λ t. tt) (λ t. h)

-- ---- read

-- the record at the cursor, of which n bytes are left
module _ (k : RecvKeys) (b : Datagram) (n : ℕ) (fits : b.at + n ≤ b.size) where
  locked-lies : (c : Ciphertext) → Whole c n → (f : Found) → Lies b.size (locked_step f k b c)
  unfolding locked_step
  locked-lies c w None = tt
  locked-lies c w (Some i) =
      by_test (Lies b.size) (λ t. tt)
      (λ t. by_test (Lies b.size) (λ u. tt) (λ u. omega (arith, w.fits, ltb-false c.length tag_size t)))

  step-lies : (p : Parsed) → Inside n p → Lies b.size (step_of p k b)
  unfolding step_of sealed_step
  step-lies parse.End i = tt
  step-lies parse.Incomplete i = tt
  step-lies (parse.Invalid l) i = tt
  step-lies (parse.Plaintext p) i = counted-lies b.size b _ _ (omega arith)
  step-lies (parse.Ciphertext c) i =
      by_test (Lies b.size) (λ t. locked-lies c i _)
      (λ t. by_test (Lies b.size) (λ u. tt) (λ u. counted-lies b.size b _ _ (omega (arith, i.fits))))

-- the record under a question
module _ (k : RecvKeys) (b : Datagram) (r : Ready k b) (a : Ask) (h : Held k a (b.size - b.at)) where
  opening-lies : (e : RecvEpochEntry) (n : ℕ) → Lies b.size (opening_asked e b a n)
  unfolding opening_asked
  opening-lies e n = end_fits k b a r h

  again-lies : (n : ℕ) (f : Found) → Lies b.size (asked_again f k b a n)
  unfolding asked_again
  again-lies n None = tt
  again-lies n (Some i) = opening-lies _ n

asking-lies : (k : RecvKeys) (b : Datagram) (d : List ℕ) (q : Question) → Ready k b → length d ≡ b.size
    → question_sound k q (b.size - b.at) ≡ true → Lies b.size (asking q k b d)
unfolding asking question_sound
asking-lies k b d question.Nothing r l t =
    let rest = drop b.at d in
    step-lies k b (length rest) (omega (arith, length-drop b.at d, r.at)) (parsed rest) (inside rest)
asking-lies k b d (question.Mask a) r l t =
    let h = held k a (b.size - b.at) t in omega (arith, h.tag, end_fits k b a r h)
asking-lies k b d (question.Opening a n) r l t = again-lies k b r a (held-opening k a n _ t).1 n _

-- of the datagram's own length, and so of the one lent
lent : (d : List ℕ) (n : ℕ) (t : Step) → length d ≡ n → Lies n t → Lies (length d) t
lent d n t e h = subst (λ (m : ℕ). Lies m t) (sym e) h

pub read-within : (s : Receiving) (d : List ℕ) → Within (length d) (read_of s d).reading
unfolding read_step
read-within s d =
    let b = s.datagram in
    let P : Step → Type 0 = Lies (length d) in
    by_test P
    (λ t. by_test P
    (λ u.
    let r = ready s.keys b t in
    lent d b.size (asking b.question s.keys b d) (eqb-true (length d) b.size u) (asking-lies s.keys b d b.question r (eqb-true (length d) b.size u) r.question))
    (λ u. tt))
    (λ t. tt)

-- ---- a reply with a mask

module _ (k : RecvKeys) (b : Datagram) (r : Ready k b) (a : Ask) (h : Held k a (b.size - b.at)) where
  judged-lies : (e : RecvEpochEntry) (n : ℕ) → Lies b.size (judged e b a n)
  judged-lies e n = by-judged e b a n (Lies b.size) (λ x. tt) (λ small fresh. opening-lies k b r a h e n)

  masked-lies : (m d : List ℕ) (f : Found) → Lies b.size (masked_by f k b a m d).0
  unfolding masked_by masked_at
  masked-lies m d None = tt
  masked-lies m d (Some i) = judged-lies _ _

masking-lies : (k : RecvKeys) (b : Datagram) (m d : List ℕ) (q : Question) → Ready k b → question_sound k q (b.size - b.at) ≡ true
    → Lies b.size (masking q k b m d).0
unfolding masking question_sound
masking-lies k b m d question.Nothing r t = tt
masking-lies k b m d (question.Mask a) r t = masked-lies k b r a (held k a _ t) m d _
masking-lies k b m d (question.Opening a n) r t = tt

pub mask-within : (s : Receiving) (m d : List ℕ) → Within (length d) (mask_of s m d).0.reading
unfolding mask_step
mask-within s m d =
    let b = s.datagram in
    let P : Step × List ℕ → Type 0 = λ x. Lies (length d) x.0 in
    by_test P
    (λ t. by_test P
    (λ u.
    let r = ready s.keys b t in
    lent d b.size (masking b.question s.keys b m d).0 (eqb-true (length d) b.size u) (masking-lies s.keys b m d b.question r r.question))
    (λ u. tt))
    (λ t. tt)

-- ---- a reply to an opening

-- a content is shorter than what was opened
inner-short : (x : List ℕ) (t l : ℕ) → inner_of x ≡ holding t l → l ≤ length x
inner-short x t l e =
    let g = inner-holds x e in
    omega (arith, g.long, ap length g.bytes, length-append g.content (t ∷ zeros g.padding))

module _ (k : RecvKeys) (b : Datagram) (r : Ready k b) (a : Ask) (h : Held k a (b.size - b.at)) (d : List ℕ) (long : length d ≡ b.size) where
  typed-lies : (n : ℕ) (i : Option Inner) → ((t l : ℕ) → i ≡ holding t l → l ≤ a.length) → Lies b.size (typed b a n i)
  unfolding typed
  typed-lies n None short = tt
  typed-lies n (Some x) short =
      counted-lies b.size b _ _ (omega (arith, short x.content_type x.length refl, end_fits k b a r h))

  abbrev Marks : Marked → Type 0
  Marks m = Lies b.size m.step

  opened-lies : (n : ℕ) (o : Opening) (f : Found) → Marks (opened_by f o k b a n d)
  unfolding opened_by opened_at
  opened-lies n o None = tt
  opened-lies n None (Some i) = tt
  opened-lies n (Some len) (Some i) =
      by_test Marks
      (λ t. typed-lies n _ (λ u l e.
      let start = b.at + a.header_len in
      let less = eqb-true len (a.length - tag_size) t in
      omega (arith, less, inner-short (part start len d) u l e, length_part start len d (omega (arith, less, long, end_fits k b a r h)))))
      (λ t. tt)

openings_lie : (k : RecvKeys) (b : Datagram) (o : Opening) (d : List ℕ) (q : Question) → Ready k b → length d ≡ b.size
    → question_sound k q (b.size - b.at) ≡ true → Lies b.size (openings q o k b d).step
unfolding openings question_sound
openings_lie k b o d question.Nothing r long t = tt
openings_lie k b o d (question.Mask a) r long t = tt
openings_lie k b o d (question.Opening a n) r long t = opened-lies k b r a (held-opening k a n _ t).1 d long n o _

pub opened-within : (s : Receiving) (o : Opening) (d : List ℕ) → Within (length d) (opened_of s o d).reading
unfolding opened_step
opened-within s o d =
    let b = s.datagram in
    let P : Marked → Type 0 = λ m. Lies (length d) m.step in
    by_test P
    (λ t. by_test P
    (λ u.
    let r = ready s.keys b t in
    let e = eqb-true (length d) b.size u in
    lent d b.size (openings b.question o s.keys b d).step e (openings_lie s.keys b o d b.question r e r.question))
    (λ u. tt))
    (λ t. tt)
