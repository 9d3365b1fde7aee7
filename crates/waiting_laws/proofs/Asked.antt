-- A question answered: the host writes the sealed bytes and replies. What it found in the part was content, type and the rest as laid; a reply
-- that is refused follows no write. Assumes nothing.
use Rattle.std.specs.Prelude.{true, false, List, [], ◌∷◌, ◌++◌, ◌≡◌, ℕ, eqb}
use Rattle.std.proofs.Common.{sym, subst, ◌∙◌, arith}
use Rattle.std.proofs.Math.Path.{ap}
use Rattle.std.proofs.Math.ListN.{length}
use borrow.Author.Tests.{eqb-true}
use Rattle.base.specs.Choose.{both, by_test, if_true, if_false, both_left, both_right, both_true, both_false}
use Rattle.base.specs.Parts.{length-splice}
use Rattle.queue.specs.Queue.{is_ready}
use Rattle.queue.specs.Laid.{trailer_of}
use Rattle.outgoing.specs.declared.Sending.{Sending}
use Rattle.sealing.specs.Sealing.{SealAnswer, is_held, is_asked, is_put, part_start, part_of, put_memory, seal_answer, is_sealed, asked-held, part-fits}
use Rattle.waiting_laws.specs.Queued.{Queued, plain, waits, sealed, flat, waiting_of, AsLaid, Holds}
use Rattle.waiting_laws.proofs.First.{seal_with, put_with, first_in, first_of, flat-first}
use Rattle.waiting_laws.proofs.Seals.{put_holds}
use Rattle.waiting_laws.proofs.Oldest.{part-shows, waiting-put}
use Rattle.waiting_laws.proofs.Effects.{Effect, stays, adds, writes, seals, takes}
use Rattle.waiting_laws.proofs.Replies.{Answered, reply-answers}

-- ---- what waits and was not written to

-- the part of each that waits is as it was laid
abbrev pub Untouched : List Queued → Type 0
Untouched [] = Unit {0}
Untouched (plain t n x ∷ rs) = Untouched rs
Untouched (waits e t n x p ∷ rs) = (p ≡ x ++ trailer_of t e n) × Untouched rs
Untouched (sealed e t n x m p ∷ rs) = Untouched rs

laid_untouched : (rs us : List Queued) → Untouched rs → AsLaid us → Untouched (rs ++ us)
laid_untouched [] us u a = only us a
  where
    only : (vs : List Queued) → AsLaid vs → Untouched vs
    only [] b = tt
    only (plain t n x ∷ vs) b = only vs b
    only (waits e t n x p ∷ vs) b = (b.0, only vs b.1)
    only (sealed e t n x m p ∷ vs) b = absurd b
laid_untouched (plain t n x ∷ rs) us u a = laid_untouched rs us u a
laid_untouched (waits e t n x p ∷ rs) us u a = (u.0, laid_untouched rs us u.1 a)
laid_untouched (sealed e t n x m p ∷ rs) us u a = laid_untouched rs us u a

sealed_untouched : (m : List ℕ) (rs : List Queued) → Untouched rs → Untouched (first_in (seal_with m) rs)
sealed_untouched m [] u = tt
sealed_untouched m (plain t n x ∷ rs) u = sealed_untouched m rs u
sealed_untouched m (waits e t n x p ∷ rs) u = u.1
sealed_untouched m (sealed e t n x o p ∷ rs) u = sealed_untouched m rs u

later_untouched : (d us : List Queued) → Untouched (d ++ us) → Untouched us
later_untouched [] us u = u
later_untouched (plain t n x ∷ d) us u = later_untouched d us u
later_untouched (waits e t n x p ∷ d) us u = later_untouched d us u.1
later_untouched (sealed e t n x m p ∷ d) us u = later_untouched d us u

-- an effect other than the host's own writing
abbrev pub Unwritten : (rs us : List Queued) → Effect rs us → Type 0
Unwritten rs us (stays s) = Unit {0}
Unwritten rs us (adds more a s) = Unit {0}
Unwritten rs us (writes v s) = ⊥
Unwritten rs us (seals m s) = Unit {0}
Unwritten rs us (takes d h s) = Unit {0}

-- keeps each that waits as it was laid
pub untouched_still : (rs us : List Queued) (f : Effect rs us) → Unwritten rs us f → Untouched rs → Untouched us
untouched_still rs us (stays s) w u = subst Untouched (sym s) u
untouched_still rs us (adds more a s) w u = subst Untouched (sym s) (laid_untouched rs more u a)
untouched_still rs us (writes v s) w u = absurd w
untouched_still rs us (seals m s) w u = subst Untouched (sym s) (sealed_untouched m rs u)
untouched_still rs us (takes d h s) w u = later_untouched d us (subst Untouched s u)

-- and writing keeps it where the reply follows
pub answered_untouched : (m v : List ℕ) (rs : List Queued) → Untouched rs → Untouched (first_in (seal_with m) (first_in (put_with v) rs))
answered_untouched m v [] u = tt
answered_untouched m v (plain t n x ∷ rs) u = answered_untouched m v rs u
answered_untouched m v (waits e t n x p ∷ rs) u = u.1
answered_untouched m v (sealed e t n x o p ∷ rs) u = answered_untouched m v rs u

-- the first that waits is as laid then
first_untouched : (e t n : ℕ) (x p : List ℕ) (us rs : List Queued) → Untouched rs → waiting_of rs ≡ waits e t n x p ∷ us → p ≡ x ++ trailer_of t e n
first_untouched e t n x p us [] u y = absurd (let z : ◌≡◌ {A = ℕ} 0 1 = cc in omega arith)
first_untouched e t n x p us (plain t' n' x' ∷ rs) u y = first_untouched e t n x p us rs u y
first_untouched e t n x p us (waits e' t' n' x' p' ∷ rs) u y =
    let i : e ≡ e' = cc in
    let j : t ≡ t' = cc in
    let k : n ≡ n' = cc in
    let a : x ≡ x' = cc in
    let b : p ≡ p' = cc in
    b ∙ u.0 ∙ rw (i, j, k, a)
first_untouched e t n x p us (sealed e' t' n' x' m' p' ∷ rs) u y = first_untouched e t n x p us rs u y

-- what the host finds in the part that it is lent: content, type, and the tag's place
pub host_finds : (s : Sending) (mem : List ℕ) (ds : List (List Queued)) → Holds s mem ds → Untouched (flat ds) → (e t n : ℕ) (x p : List ℕ) (us : List Queued)
    → waiting_of (flat ds) ≡ waits e t n x p ∷ us → part_of s mem ≡ x ++ trailer_of t e n
host_finds s mem ds h u e t n x p us y = (part-shows s mem ds h e t n x p us y).0 ∙ first_untouched e t n x p us (flat ds) u y

-- ---- written and answered

-- a reply of so many bytes is accepted exactly if so many bytes could be written
pub put-or-refused : (s : Sending) (room n : ℕ) → is_sealed (seal_answer s room n) ≡ is_put s n room
unfolding seal_answer is_put is_asked
put-or-refused s room n =
    by_test (λ (a : SealAnswer). is_sealed a ≡ both (both (is_ready s.queue room) (both (is_held s) s.waiting.any)) (eqb n s.waiting.length))
    (λ r. by_test (λ (a : SealAnswer). is_sealed a ≡ both (both (is_ready s.queue room) (both (is_held s) s.waiting.any)) (eqb n s.waiting.length))
    (λ h. by_test (λ (a : SealAnswer). is_sealed a ≡ both (both (is_ready s.queue room) (both (is_held s) s.waiting.any)) (eqb n s.waiting.length))
    (λ y. by_test (λ (a : SealAnswer). is_sealed a ≡ both (both (is_ready s.queue room) (both (is_held s) s.waiting.any)) (eqb n s.waiting.length))
    (λ l. sym (both_true (both_true r ∙ both_true h ∙ y) ∙ l)) (λ l. sym (both_true (both_true r ∙ both_true h ∙ y) ∙ l)))
    (λ y. sym (both_false (eqb n s.waiting.length) (both_true r ∙ both_true h ∙ y))))
    (λ h. sym (both_false (eqb n s.waiting.length) (both_true r ∙ both_false s.waiting.any h))))
    (λ r. sym (both_false (eqb n s.waiting.length) (both_false (both (is_held s) s.waiting.any) r)))

module _ (s : Sending) (mem v : List ℕ) (b : is_put s (length v) (length mem) ≡ true) where
  put-length : length (put_memory s v mem) ≡ length mem
  unfolding put_memory is_put
  put-length =
      let a = asked-held (both_left (is_asked s (length mem)) _ b) in
      let size : length v ≡ s.waiting.length = eqb-true (length v) s.waiting.length (both_right (is_asked s (length mem)) _ b) in
      ap length (if_true _ _ b) ∙ length-splice (part_start s) v mem (omega (arith, part-fits a.0 a.1))

  -- the bytes written, and the reply: the first that waits is sealed, and its bytes are masked header and what was written
  pub put-answers : (ds : List (List Queued)) → Holds s mem ds → (m : List ℕ) (e t n : ℕ) (x p : List ℕ) (us : List Queued) → waiting_of (flat ds) ≡ waits e t n x p ∷ us
      → Answered s (put_memory s v mem) m (length v) (first_of (put_with v) ds) e t n x v us
  put-answers ds h m e t n x p us y =
      let g : Holds s (put_memory s v mem) (first_of (put_with v) ds) = subst (Holds s (put_memory s v mem)) (if_true (first_of (put_with v) ds) ds b) (put_holds s mem ds h v) in
      let d : is_sealed (seal_answer s (length (put_memory s v mem)) (length v)) ≡ true = put-or-refused s (length (put_memory s v mem)) (length v) ∙ ap (is_put s (length v)) put-length ∙ b in
      reply-answers s (put_memory s v mem) m (length v) (first_of (put_with v) ds) g d e t n x v us
      (ap waiting_of (flat-first (put_with v) ds) ∙ waiting-put v (flat ds) (waits e t n x p) us y)

-- bytes of another length, or where nothing is asked: nothing is written, and the reply is refused
pub put_refused : (s : Sending) (mem v : List ℕ) → is_put s (length v) (length mem) ≡ false → (put_memory s v mem ≡ mem) × (is_sealed (seal_answer s (length mem) (length v)) ≡ false)
unfolding put_memory
put_refused s mem v b = (if_false _ _ b, put-or-refused s (length mem) (length v) ∙ b)
