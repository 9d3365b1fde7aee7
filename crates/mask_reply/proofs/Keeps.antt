-- A mask reply keeps the ranges, and where it is refused, 12 or 15, state and datagram. Assumes nothing.
use Rattle.recv_keys.specs.Keys.{Found}
use Rattle.std.specs.Prelude.{ℕ, ◌-◌, true, List, ◌≡◌, refl, Some, None}
use Rattle.base.specs.Choose.{by_test}
use Rattle.datagram.specs.Datagram.{question_sound, is_sound}
use Rattle.datagram.specs.Keeps.{Good, passed-keeps, question-keeps, refused, never, Goes, end_fits}
use Rattle.datagram.specs.Sound.{Held, held, is-held-opening, Ready, ready, is-ready}
use Rattle.datagram.specs.declared.Ask.{Ask}
use Rattle.datagram.specs.declared.Datagram.{Datagram}
use Rattle.datagram.specs.declared.Question.TheVariants as question
use Rattle.datagram.specs.declared.Question.{Question}
use Rattle.datagram.specs.declared.Step.{Step}
use Rattle.records.specs.Records.{opening_asked}
use Rattle.recv_keys.specs.declared.RecvEpochEntry.{RecvEpochEntry}
use Rattle.recv_keys.specs.declared.RecvKeys.{RecvKeys}
use Rattle.mask_reply.proofs.Leads.{by-judged}
use Rattle.mask_reply.specs.Mask.{judged, masked_at, masked_by, masking, mask_step}

-- ---- the mask

module _ (k : RecvKeys) (b : Datagram) (a : Ask) (r : Ready k b) (h : Held k a (b.size - b.at)) where
  judged-keeps : (e : RecvEpochEntry) (n : ℕ) → Good k (judged e b a n)
  unfolding opening_asked question_sound
  judged-keeps e n =
      by-judged e b a n (Good k) (λ x. passed-keeps k b _ r (end_fits k b a r h))
      (λ small fresh. question-keeps k b (question.Opening a n) r (is-held-opening k a n _ small h))

  masked-keeps : (m d : List ℕ) (f : Found) → Good k (masked_by f k b a m d).0
  unfolding masked_by masked_at
  masked-keeps m d None = r
  masked-keeps m d (Some i) = judged-keeps _ _

masking-keeps : (k : RecvKeys) (b : Datagram) (m d : List ℕ) (q : Question) → Ready k b → question_sound k q (b.size - b.at) ≡ true
    → Good k (masking q k b m d).0
unfolding masking question_sound
masking-keeps k b m d question.Nothing r t = r
masking-keeps k b m d (question.Mask a) r t = masked-keeps k b a r (held k a _ t) m d _
masking-keeps k b m d (question.Opening a n) r t = r

pub mask-keeps : (k : RecvKeys) (b : Datagram) (m d : List ℕ) → is_sound k b ≡ true → is_sound k (mask_step k b m d).0.datagram ≡ true
unfolding mask_step
mask-keeps k b m d t =
    let r = ready k b t in
    let P : Step × List ℕ → Type 0 = λ x. Good k x.0 in
    is-ready k _ (by_test P (λ u. by_test P (λ v. masking-keeps k b m d b.question r r.question) (λ v. r)) (λ u. r))

pub judged-goes : (e : RecvEpochEntry) (b : Datagram) (a : Ask) (n : ℕ) → Goes (judged e b a n)
unfolding opening_asked
judged-goes e b a n = by-judged e b a n Goes (λ r. refl) (λ small fresh. refl)

-- a mask that is refused writes nothing
abbrev pub Rests : Datagram → List ℕ → Step × List ℕ → Type 0
Rests b d p = refused p.0.reading ≡ true → (p.0.datagram ≡ b) × (p.1 ≡ d)

masked-rests : (f : Found) (k : RecvKeys) (b : Datagram) (a : Ask) (m d : List ℕ) → Rests b d (masked_by f k b a m d)
unfolding masked_by masked_at
masked-rests None k b a m d t = (refl, refl)
masked-rests (Some i) k b a m d t = never (judged-goes _ b a _) t

masking-rests : (q : Question) (k : RecvKeys) (b : Datagram) (m d : List ℕ) → Rests b d (masking q k b m d)
unfolding masking
masking-rests question.Nothing k b m d t = (refl, refl)
masking-rests (question.Mask a) k b m d t = masked-rests _ k b a m d t
masking-rests (question.Opening a n) k b m d t = (refl, refl)

pub mask-rests : (k : RecvKeys) (b : Datagram) (m d : List ℕ) → Rests b d (mask_step k b m d)
unfolding mask_step
mask-rests k b m d =
    by_test (Rests b d) (λ t. by_test (Rests b d) (λ u. masking-rests b.question k b m d) (λ u e. (refl, refl))) (λ t e. (refl, refl))
