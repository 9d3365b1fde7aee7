-- The five things that a call can do to the records of the queue, and what they leave: a record that waits stays as it lies until it is
-- sealed, the oldest first; a sealed one stays as it lies until it is taken. Assumes nothing.
use Rattle.std.specs.Prelude.{false, ◌⊎◌, ◌≡◌, refl, ℕ}
use Rattle.std.proofs.lemmas.Bool.{false≢true}
use mathlib.Core.List.Memᴰ.{append_cases as mem-append}
use mathlib.Core.List.Memᴰ.{append_left as mem-left}
use mathlib.Core.List.Memᴰ.{cases_cons as mem-cases}
use mathlib.Core.List.Memᴰ.{head as here}
use mathlib.Core.List.Memᴰ.{not-nil as mem-nil}
use mathlib.Core.List.Memᴰ.{tail as there}
use mathlib.Core.List.{List, [], ◌∷◌, ◌++◌, append-nil, Memᴰ as Mem}
use Rattle.std.proofs.Common.{inl, inr, ⊎_elim, sym, ap, subst, ◌∙◌, arith}
use Rattle.base.specs.Choose.{test_cases}
use Rattle.waiting_laws.specs.Queued.{Queued, plain, waits, sealed, waiting_of, waits_in, AsLaid}
use Rattle.waiting_laws.proofs.Lists.{waiting-append}
use Rattle.waiting_laws.proofs.First.{seal_with, put_with, first_in}
use Rattle.waiting_laws.proofs.Oldest.{first-of, waiting-sealed, waiting-put, waiting-later}

-- from these records to those
pub data Effect (rs us : List Queued) : Type 0 where
  -- nothing: a refused call, keying, a take from an empty queue
  stays : us ≡ rs → Effect rs us
  -- sends: records as laid, behind all others
  adds : (more : List Queued) → AsLaid more → us ≡ rs ++ more → Effect rs us
  -- the host's bytes in the part of the first that waits
  writes : (v : List ℕ) → us ≡ first_in (put_with v) rs → Effect rs us
  -- a reply: the first that waits is sealed
  seals : (m : List ℕ) → us ≡ first_in (seal_with m) rs → Effect rs us
  -- a take: the front goes, of which none waits
  takes : (d : List Queued) → waits_in d ≡ false → rs ≡ d ++ us → Effect rs us

-- ---- what is changed in the list of those that wait

-- a record changed in place leaves the others
first-leaves : (f : Queued → Queued) (r : Queued) (rs : List Queued) → Mem r rs → Mem r (first_in f rs) ⊎ (Mem r (waiting_of rs))
first-leaves f r [] m = inl m
first-leaves f r (plain t n x ∷ rs) m =
    ⊎_elim (λ (y : r ≡ plain t n x). inl (here y))
    (λ (y : Mem r rs). ⊎_elim (λ (z : Mem r (first_in f rs)). inl (there z)) (λ (z : Mem r (waiting_of rs)). inr z) (first-leaves f r rs y)) (mem-cases m)
first-leaves f r (waits e t n x p ∷ rs) m =
    ⊎_elim (λ (y : r ≡ waits e t n x p). inr (here y)) (λ (y : Mem r rs). inl (there y)) (mem-cases m)
first-leaves f r (sealed e t n x o p ∷ rs) m =
    ⊎_elim (λ (y : r ≡ sealed e t n x o p). inl (here y))
    (λ (y : Mem r rs). ⊎_elim (λ (z : Mem r (first_in f rs)). inl (there z)) (λ (z : Mem r (waiting_of rs)). inr z) (first-leaves f r rs y)) (mem-cases m)

-- what waits is no sealed record
not_sealed : (e t n : ℕ) (x m p : List ℕ) (rs : List Queued) → Mem (sealed e t n x m p) (waiting_of rs) → ⊥
not_sealed e t n x m p [] k = mem-nil k
not_sealed e t n x m p (plain t' n' x' ∷ rs) k = not_sealed e t n x m p rs k
not_sealed e t n x m p (waits e' t' n' x' p' ∷ rs) k =
    ⊎_elim (λ (y : sealed e t n x m p ≡ waits e' t' n' x' p'). let z : ◌≡◌ {A = ℕ} 0 1 = cc in omega arith) (λ (y : Mem (sealed e t n x m p) (waiting_of rs)). not_sealed e t n x m p rs y) (mem-cases k)
not_sealed e t n x m p (sealed e' t' n' x' m' p' ∷ rs) k = not_sealed e t n x m p rs k

-- handed out with the front
pub record Gone (r : Queued) (rs us : List Queued) : Type 0 where
  pub front : List Queued
  pub settled : waits_in front ≡ false
  pub was : rs ≡ front ++ us
  pub among : Mem r front

-- a sealed record stays, mask and part as they lie, until it is taken
module _ (rs us : List Queued) (e t n : ℕ) (x m p : List ℕ) where
  abbrev r : Queued
  r = sealed e t n x m p

  pub sealed-stays : Effect rs us → Mem (sealed e t n x m p) rs → Mem (sealed e t n x m p) us ⊎ Gone (sealed e t n x m p) rs us
  sealed-stays (stays s) k = inl (subst (Mem r) (sym s) k)
  sealed-stays (adds more a s) k = inl (subst (Mem r) (sym s) (mem-left more k))
  sealed-stays (writes v s) k =
      ⊎_elim (λ (y : Mem r (first_in (put_with v) rs)). inl (subst (Mem r) (sym s) y)) (λ (y : Mem r (waiting_of rs)). absurd (not_sealed e t n x m p rs y))
      (first-leaves (put_with v) r rs k)
  sealed-stays (seals o s) k =
      ⊎_elim (λ (y : Mem r (first_in (seal_with o) rs)). inl (subst (Mem r) (sym s) y)) (λ (y : Mem r (waiting_of rs)). absurd (not_sealed e t n x m p rs y))
      (first-leaves (seal_with o) r rs k)
  sealed-stays (takes d h s) k =
      ⊎_elim (λ (y : Mem r d). inr (record { front = d; settled = h; was = s; among = y })) (λ (y : Mem r us). inl y) (mem-append d (subst (Mem r) s k))

-- ---- those that wait: only the first is ever changed, and new ones come behind the last

pub data Waited (rs us : List Queued) : Type 0 where
  -- as before, and those of the records laid besides
  longer : (more : List Queued) → AsLaid more → waiting_of us ≡ waiting_of rs ++ waiting_of more → Waited rs us
  -- the first has other bytes in its part
  written : (v : List ℕ) (r : Queued) (ws : List Queued) → waiting_of rs ≡ r ∷ ws → waiting_of us ≡ put_with v r ∷ ws → Waited rs us
  -- the first is answered
  answered : (r : Queued) (ws : List Queued) → waiting_of rs ≡ r ∷ ws → waiting_of us ≡ ws → Waited rs us

waited-same : (rs us : List Queued) → waiting_of us ≡ waiting_of rs → Waited rs us
waited-same rs us s = longer [] tt (s ∙ sym (append-nil (waiting_of rs)))

first-none : (f : Queued → Queued) (rs : List Queued) → waits_in rs ≡ false → first_in f rs ≡ rs
first-none f [] h = refl
first-none f (plain t n x ∷ rs) h = ap (λ (l : List Queued). plain t n x ∷ l) (first-none f rs h)
first-none f (waits e t n x p ∷ rs) h = absurd (false≢true (sym h))
first-none f (sealed e t n x m p ∷ rs) h = ap (λ (l : List Queued). sealed e t n x m p ∷ l) (first-none f rs h)

-- sealings are asked oldest first and never cancelled
pub oldest-first : (rs us : List Queued) → Effect rs us → Waited rs us
oldest-first rs us (stays s) = waited-same rs us (ap waiting_of s)
oldest-first rs us (adds more a s) = longer more a (ap waiting_of s ∙ waiting-append rs more)
oldest-first rs us (writes v s) =
    test_cases (waits_in rs)
    (λ h. let f = first-of rs h in written v (waits f.epoch f.kind f.number f.content f.part) f.others f.is (ap waiting_of s ∙ waiting-put v rs _ f.others f.is))
    (λ h. waited-same rs us (ap waiting_of (s ∙ first-none (put_with v) rs h)))
oldest-first rs us (seals m s) =
    test_cases (waits_in rs)
    (λ h. let f = first-of rs h in answered (waits f.epoch f.kind f.number f.content f.part) f.others f.is (ap waiting_of s ∙ waiting-sealed m rs _ f.others f.is))
    (λ h. waited-same rs us (ap waiting_of (s ∙ first-none (seal_with m) rs h)))
oldest-first rs us (takes d h s) = waited-same rs us (sym (ap waiting_of s ∙ waiting-later d us h))

-- a record that waits stays as it lies, unless it is the oldest
pub waiting_stays : (rs us : List Queued) (r : Queued) → Waited rs us → Mem r (waiting_of rs) → ((ws : List Queued) → waiting_of rs ≡ r ∷ ws → ⊥) → Mem r (waiting_of us)
waiting_stays rs us r (longer more a s) k ne = subst (Mem r) (sym s) (mem-left (waiting_of more) k)
waiting_stays rs us r (written v o ws h s) k ne =
    ⊎_elim (λ (y : r ≡ o). absurd (ne ws (h ∙ ap (λ (u : Queued). u ∷ ws) (sym y)))) (λ (y : Mem r ws). subst (Mem r) (sym s) (there y)) (mem-cases (subst (Mem r) h k))
waiting_stays rs us r (answered o ws h s) k ne =
    ⊎_elim (λ (y : r ≡ o). absurd (ne ws (h ∙ ap (λ (u : Queued). u ∷ ws) (sym y)))) (λ (y : Mem r ws). subst (Mem r) (sym s) y) (mem-cases (subst (Mem r) h k))
