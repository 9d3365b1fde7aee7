-- What the meaning of a queue tells: each record's bytes lie in the memory; what waits is as it was laid, but for the oldest's part; no
-- number waits twice, and each is below the next one of its epoch. Assumes nothing.
use mathlib.Core.List.Memᴰ.{append_cases as mem-append}
use mathlib.Core.List.Memᴰ.{cases_cons as mem-cases}
use mathlib.Core.List.Memᴰ.{head as here}
use mathlib.Core.List.Memᴰ.{not-nil as mem-nil}
use mathlib.Core.List.Memᴰ.{tail as there}
use mathlib.Core.List.{List, [], ◌∷◌, ◌++◌, Memᴰ as Mem}
use Rattle.std.specs.Prelude.{◌⊎◌, ◌≡◌, ℕ, ◌+◌, ◌*◌, ◌<◌, ◌≤◌, eqb, length}
use Rattle.std.proofs.Common.{⊎_elim, sym, subst, ◌∙◌, mul-le-mul_right, arith, length-append, eq-eqb, ne_eqb}
use Rattle.std.proofs.lemmas.Bool.{eqb-false}
use Rattle.base.specs.Choose.{test_cases, if_true, if_false}
use Rattle.queue.specs.declared.Queue.{Queue}
use Rattle.queue.specs.Queue.{slot_of, InRange, slot_lt}
use Rattle.queue.specs.Laid.{trailer_of}
use Rattle.send_keys.specs.declared.SendKeys.{SendKeys}
use Rattle.send_keys.specs.Keys.{next_of, next-handshake, next-application}
use Rattle.outgoing.specs.declared.Sending.{Sending}
use Rattle.waiting_laws.specs.Queued.{Queued, plain, waits, sealed, bytes_of, bytes, flat, waiting_of, numbers_of, Stands, Lies, Rows, AsLaid, InOrder, sealed_of, Runs, Under, Holds}
use Rattle.waiting_laws.proofs.Lists.{runs-length}

-- ---- each record's bytes lie in the memory

pub record Lying (mem : List ℕ) (r : Queued) : Type 0 where
  pub at : ℕ
  pub inside : at + length (bytes_of r) ≤ length mem
  pub stands : Stands mem at r

lies-each : (mem : List ℕ) (base at end : ℕ) (r : Queued) (rs : List Queued) → base + end ≤ length mem → at + length (bytes rs) ≤ end → Lies mem base at rs → Mem r rs → Lying mem r
lies-each mem base at end r [] h g l m = absurd (mem-nil m)
lies-each mem base at end r (u ∷ rs) h g l m =
    let size = length-append (bytes_of u) (bytes rs) in
    ⊎_elim
    (λ (e : r ≡ u). record {
      at = base + at;
      inside = subst (λ (v : Queued). base + at + length (bytes_of v) ≤ length mem) (sym e) (omega arith);
      stands = subst (Stands mem (base + at)) (sym e) l.0;
    })
    (λ (n : Mem r rs). lies-each mem base (at + length (bytes_of u)) end r rs h (omega arith) l.1 n) (mem-cases m)

rows-each : (q : Queue) (mem : List ℕ) → InRange q → q.limit * q.mtu ≤ length mem → (i : ℕ) (ds : List (List Queued)) → i + length ds ≤ q.limit → Rows q mem i ds
    → (r : Queued) → Mem r (flat ds) → Lying mem r
rows-each q mem g room i [] h rows r m = absurd (mem-nil m)
rows-each q mem g room i (d ∷ ds) h rows r m =
    let slot : ℕ = slot_of q.first q.limit i in
    let low : slot < q.limit = slot_lt q.first q.limit i g.first (omega arith) in
    ⊎_elim
    (λ (n : Mem r d). lies-each mem (slot * q.mtu) 0 q.mtu r d (omega (arith, mul-le-mul_right q.mtu low)) (omega (arith, rows.0.short)) rows.0.lies n)
    (λ (n : Mem r (flat ds)). rows-each q mem g room (i + 1) ds (omega arith) rows.1 r n) (mem-append d m)

-- ---- what waits is as laid

laid_each : (e t n : ℕ) (x p : List ℕ) (rs : List Queued) → AsLaid rs → Mem (waits e t n x p) rs → p ≡ x ++ trailer_of t e n
laid_each e t n x p [] a m = absurd (mem-nil m)
laid_each e t n x p (plain t' n' x' ∷ rs) a m =
    ⊎_elim (λ (y : waits e t n x p ≡ plain t' n' x'). absurd (let z : ◌≡◌ {A = ℕ} 0 1 = cc in omega arith)) (λ (y : Mem (waits e t n x p) rs). laid_each e t n x p rs a y) (mem-cases m)
laid_each e t n x p (waits e' t' n' x' p' ∷ rs) a m =
    ⊎_elim
    (λ (y : waits e t n x p ≡ waits e' t' n' x' p').
    let i : e ≡ e' = cc in
    let j : t ≡ t' = cc in
    let k : n ≡ n' = cc in
    let u : x ≡ x' = cc in
    let v : p ≡ p' = cc in
    let b : p' ≡ x' ++ trailer_of t' e' n' = a.0 in
    v ∙ b ∙ rw (i, j, k, u))
    (λ (y : Mem (waits e t n x p) rs). laid_each e t n x p rs a.1 y) (mem-cases m)
laid_each e t n x p (sealed e' t' n' x' m' p' ∷ rs) a m = absurd a

-- behind the oldest each is as laid
order-each : (r : Queued) (us : List Queued) (e t n : ℕ) (x p : List ℕ) (rs : List Queued) → InOrder rs → waiting_of rs ≡ r ∷ us → Mem (waits e t n x p) us → p ≡ x ++ trailer_of t e n
order-each r us e t n x p [] o h m = absurd (let z : ◌≡◌ {A = ℕ} 0 1 = cc in omega arith)
order-each r us e t n x p (plain t' n' x' ∷ rs) o h m = order-each r us e t n x p rs o h m
order-each r us e t n x p (waits e' t' n' x' p' ∷ rs) o h m =
    let same : waiting_of rs ≡ us = cc in
    laid_each e t n x p rs o (waiting_in (waits e t n x p) rs (subst (Mem (waits e t n x p)) (sym same) m))
  where
    waiting_in : (v : Queued) (ws : List Queued) → Mem v (waiting_of ws) → Mem v ws
    waiting_in v [] k = k
    waiting_in v (plain a b c ∷ ws) k = there (waiting_in v ws k)
    waiting_in v (waits a b c d f ∷ ws) k = ⊎_elim (λ (y : v ≡ waits a b c d f). here y) (λ (y : Mem v (waiting_of ws)). there (waiting_in v ws y)) (mem-cases k)
    waiting_in v (sealed a b c d f g ∷ ws) k = there (waiting_in v ws k)
order-each r us e t n x p (sealed e' t' n' x' m' p' ∷ rs) o h m = order-each r us e t n x p rs o h m

-- ---- no number waits twice

-- none of these waits under this epoch and number
abbrev pub Apart : ℕ → ℕ → List Queued → Type 0
Apart k j [] = Unit {0}
Apart k j (plain t n x ∷ rs) = Apart k j rs
Apart k j (waits e t n x p ∷ rs) = (e ≡ k → n ≡ j → ⊥) × Apart k j rs
Apart k j (sealed e t n x m p ∷ rs) = Apart k j rs

abbrev pub Once : List Queued → Type 0
Once [] = Unit {0}
Once (plain t n x ∷ rs) = Once rs
Once (waits e t n x p ∷ rs) = Apart e n rs × Once rs
Once (sealed e t n x m p ∷ rs) = Once rs

runs-apart : (k j lo hi : ℕ) (rs : List Queued) → Runs lo hi (numbers_of k rs) → j < lo → Apart k j rs
runs-apart k j lo hi [] r h = tt
runs-apart k j lo hi (plain t n x ∷ rs) r h = runs-apart k j lo hi rs r h
runs-apart k j lo hi (waits e t n x p ∷ rs) r h =
    test_cases (eqb e k)
    (λ y.
    let f : Runs lo hi (n ∷ numbers_of k rs) = subst (Runs lo hi) (if_true _ _ y) r in
    (λ a b. omega (arith, f.0), runs-apart k j (lo + 1) hi rs f.1 (omega arith)))
    (λ y.
    let f : Runs lo hi (numbers_of k rs) = subst (Runs lo hi) (if_false _ _ y) r in
    (λ a b. eqb-false e k y a, runs-apart k j lo hi rs f h))
runs-apart k j lo hi (sealed e t n x m p ∷ rs) r h = runs-apart k j lo hi rs r h

runs-once : (k a b c d : ℕ) (rs : List Queued) → Runs a b (numbers_of 2 rs) → Runs c d (numbers_of k rs) → Under k rs → (k ≡ 2 → ⊥) → Once rs
runs-once k a b c d [] r s u ne = tt
runs-once k a b c d (plain t n x ∷ rs) r s u ne = runs-once k a b c d rs r s u ne
runs-once k a b c d (waits e t n x p ∷ rs) r s u ne =
    ⊎_elim
    (λ (y : e ≡ 2).
    let f : Runs a b (n ∷ numbers_of 2 rs) = subst (Runs a b) (if_true _ _ (eq-eqb e 2 y)) r in
    let g : Runs c d (numbers_of k rs) = subst (Runs c d) (if_false _ _ (ne_eqb e k (λ z. ne (sym z ∙ y)))) s in
    (subst (λ (i : ℕ). Apart i n rs) (sym y) (runs-apart 2 n (a + 1) b rs f.1 (omega (arith, f.0))), runs-once k (a + 1) b c d rs f.1 g u.1 ne))
    (λ (y : e ≡ k).
    let f : Runs c d (n ∷ numbers_of k rs) = subst (Runs c d) (if_true _ _ (eq-eqb e k y)) s in
    let g : Runs a b (numbers_of 2 rs) = subst (Runs a b) (if_false _ _ (ne_eqb e 2 (λ z. ne (sym y ∙ z)))) r in
    (subst (λ (i : ℕ). Apart i n rs) (sym y) (runs-apart k n (c + 1) d rs f.1 (omega (arith, f.0))), runs-once k a b (c + 1) d rs g f.1 u.1 ne))
    u.0
runs-once k a b c d (sealed e t n x m p ∷ rs) r s u ne = runs-once k a b c d rs r s u ne

-- ---- each is below the next number

runs-below : (k lo hi t n : ℕ) (x p : List ℕ) (rs : List Queued) → Runs lo hi (numbers_of k rs) → Mem (waits k t n x p) rs → (lo ≤ n) × (n < hi)
runs-below k lo hi t n x p [] r m = absurd (mem-nil m)
runs-below k lo hi t n x p (plain t' n' x' ∷ rs) r m =
    ⊎_elim (λ (y : waits k t n x p ≡ plain t' n' x'). absurd (let z : ◌≡◌ {A = ℕ} 0 1 = cc in omega arith)) (λ (y : Mem (waits k t n x p) rs). runs-below k lo hi t n x p rs r y) (mem-cases m)
runs-below k lo hi t n x p (waits e' t' n' x' p' ∷ rs) r m =
    ⊎_elim
    (λ (y : waits k t n x p ≡ waits e' t' n' x' p').
    let i : e' ≡ k = cc in
    let j : n ≡ n' = cc in
    let f : Runs lo hi (n' ∷ numbers_of k rs) = subst (Runs lo hi) (if_true _ _ (eq-eqb e' k i)) r in
    (omega (arith, f.0), omega (arith, f.0, runs-length (lo + 1) hi (numbers_of k rs) f.1)))
    (λ (y : Mem (waits k t n x p) rs).
    test_cases (eqb e' k)
    (λ z.
    let f : Runs lo hi (n' ∷ numbers_of k rs) = subst (Runs lo hi) (if_true _ _ z) r in
    let g = runs-below k (lo + 1) hi t n x p rs f.1 y in
    (omega (arith, g.0), g.1))
    (λ z. runs-below k lo hi t n x p rs (subst (Runs lo hi) (if_false _ _ z) r) y))
    (mem-cases m)
runs-below k lo hi t n x p (sealed e' t' n' x' m' p' ∷ rs) r m =
    ⊎_elim (λ (y : waits k t n x p ≡ sealed e' t' n' x' m' p'). absurd (let z : ◌≡◌ {A = ℕ} 0 1 = cc in omega arith)) (λ (y : Mem (waits k t n x p) rs). runs-below k lo hi t n x p rs r y) (mem-cases m)

under-each : (k e t n : ℕ) (x p : List ℕ) (rs : List Queued) → Under k rs → Mem (waits e t n x p) rs → (e ≡ 2) ⊎ (e ≡ k)
under-each k e t n x p [] u m = absurd (mem-nil m)
under-each k e t n x p (plain t' n' x' ∷ rs) u m =
    ⊎_elim (λ (y : waits e t n x p ≡ plain t' n' x'). absurd (let z : ◌≡◌ {A = ℕ} 0 1 = cc in omega arith)) (λ (y : Mem (waits e t n x p) rs). under-each k e t n x p rs u y) (mem-cases m)
under-each k e t n x p (waits e' t' n' x' p' ∷ rs) u m =
    ⊎_elim
    (λ (y : waits e t n x p ≡ waits e' t' n' x' p'). let i : e ≡ e' = cc in subst (λ (j : ℕ). (j ≡ 2) ⊎ (j ≡ k)) (sym i) u.0)
    (λ (y : Mem (waits e t n x p) rs). under-each k e t n x p rs u.1 y) (mem-cases m)
under-each k e t n x p (sealed e' t' n' x' m' p' ∷ rs) u m =
    ⊎_elim (λ (y : waits e t n x p ≡ sealed e' t' n' x' m' p'). absurd (let z : ◌≡◌ {A = ℕ} 0 1 = cc in omega arith)) (λ (y : Mem (waits e t n x p) rs). under-each k e t n x p rs u y) (mem-cases m)

-- ---- said of the whole

module _ (s : Sending) (mem : List ℕ) (ds : List (List Queued)) (h : Holds s mem ds) where
  -- each record's bytes lie in the memory as it says
  pub each-lies : (r : Queued) → Mem r (flat ds) → Lying mem r
  each-lies r m = rows-each s.queue mem h.range h.room 0 ds (omega (arith, h.count, h.range.count)) h.rows r m

  -- behind the oldest, the part of each that waits is as it was laid
  pub each_as_laid : (r : Queued) (us : List Queued) → waiting_of (flat ds) ≡ r ∷ us → (e t n : ℕ) (x p : List ℕ) → Mem (waits e t n x p) us → p ≡ x ++ trailer_of t e n
  each_as_laid r us y e t n x p m = order-each r us e t n x p (flat ds) h.order y m

  -- nothing waits twice
  pub waits-once : Once (flat ds)
  waits-once =
      let a = h.keys in
      runs-once s.keys.application.epoch s.keys.handshake.sealed s.keys.handshake.next s.keys.application.sealed s.keys.application.next (flat ds)
      a.handshake a.application a.under
      (λ z. ⊎_elim (λ (u : s.keys.application.epoch ≡ 0). omega arith) (λ (u : 3 ≤ s.keys.application.epoch). omega arith) a.epoch)

  -- each number that waits is not sealed yet, and below the next one of its epoch
  pub waits-between : (e t n : ℕ) (x p : List ℕ) → Mem (waits e t n x p) (flat ds) → (sealed_of s.keys e ≤ n) × (n < next_of s.keys e)
  waits-between e t n x p m =
      let a = h.keys in
      let k : SendKeys = s.keys in
      let some : 0 < e = (each-lies (waits e t n x p) m).stands.sound.some in
      let ne : e ≡ 0 → ⊥ = λ z. omega arith in
      let two : k.application.epoch ≡ 2 → ⊥ = λ z. ⊎_elim (λ (u : k.application.epoch ≡ 0). omega arith) (λ (u : 3 ≤ k.application.epoch). omega arith) a.epoch in
      ⊎_elim
      (λ (y : e ≡ 2).
      let f = runs-below 2 k.handshake.sealed k.handshake.next t n x p (flat ds) a.handshake (subst (λ (i : ℕ). Mem (waits i t n x p) (flat ds)) y m) in
      (subst (λ (i : ℕ). i ≤ n) (sym (if_true _ _ (eq-eqb e 2 y))) f.0, omega (arith, f.1, next-handshake k ne y)))
      (λ (y : e ≡ k.application.epoch).
      let f = runs-below k.application.epoch k.application.sealed k.application.next t n x p (flat ds) a.application (subst (λ (i : ℕ). Mem (waits i t n x p) (flat ds)) y m) in
      let other : e ≡ 2 → ⊥ = λ z. two (sym y ∙ z) in
      (subst (λ (i : ℕ). i ≤ n) (sym (if_false _ _ (ne_eqb e 2 other))) f.0, omega (arith, f.1, next-application k ne other)))
      (under-each k.application.epoch e t n x p (flat ds) a.under m)

  -- it is of epoch 2 or of the application epoch
  pub waits-under : (e t n : ℕ) (x p : List ℕ) → Mem (waits e t n x p) (flat ds) → (e ≡ 2) ⊎ (e ≡ s.keys.application.epoch)
  waits-under e t n x p m = under-each s.keys.application.epoch e t n x p (flat ds) h.keys.under m
