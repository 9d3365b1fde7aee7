-- Laws of lists of queued records: one behind another, none that waits, the first that waits. Assumes nothing.
use Rattle.std.specs.Prelude.{true, false, List, [], ◌∷◌, ◌++◌, ◌≡◌, refl, ℕ, ◌+◌, ◌≤◌, eqb, length}
use Rattle.std.proofs.lemmas.Bool.{false≢true, eqb-false}
use Rattle.std.proofs.Common.{append_assoc, ◌∙◌, arith, length-append, eqb-true}
use Rattle.std.proofs.Math.Path.{sym, ap}
use Rattle.base.specs.Choose.{by_test, test_cases, if_true, if_false}
use Rattle.base.specs.Parts.{part}
use Rattle.record.specs.Record.{plain_head, sealed_tail, sealed_over, unified_header}
use Rattle.queue.specs.Queue.{slot_of}
use Rattle.queue.specs.Laid.{record_bytes, length_record, len_plaintext, bytes_ciphertext, length_unified}
use Rattle.outgoing.specs.declared.Waiting.{Waiting}
use Rattle.outgoing.specs.State.{no_waiting}
use Rattle.sealing.specs.Sealing.{masked_header, length-masked}
use Rattle.waiting_laws.specs.Queued.{Queued, plain, waits, sealed, bytes_of, bytes, laid_as, flat, waiting_of, numbers_of, waits_in, Sound, Lies, AsLaid, InOrder, oldest_in, oldest_of, Runs, Under}

-- ---- lengths

pub length-plain : (t n : ℕ) (x : List ℕ) → length (record_bytes 0 t n x) ≡ length x + plain_head
length-plain t n x = length_record 0 t n x ∙ len_plaintext refl (length x)

pub length-waits : (e t n : ℕ) (x p : List ℕ) → length p ≡ length x + sealed_tail → length (bytes_of (waits e t n x p)) ≡ length x + sealed_over
length-waits e t n x p h = length-append (unified_header e n (length x + sealed_tail)) p ∙ omega (arith, length_unified e n (length x + sealed_tail))

pub length-sealed : (e t n : ℕ) (x m p : List ℕ) → length p ≡ length x + sealed_tail → length (bytes_of (sealed e t n x m p)) ≡ length x + sealed_over
length-sealed e t n x m p h = length-append (masked_header e n (length x + sealed_tail) m) p ∙ omega (arith, length-masked e n (length x + sealed_tail) m)

-- a record has 13 bytes at least
pub long : (r : Queued) → Sound r → plain_head ≤ length (bytes_of r)
long (plain t n x) s = omega (arith, length-plain t n x)
long (waits e t n x p) s = omega (arith, length-waits e t n x p s.part)
long (sealed e t n x m p) s = omega (arith, length-sealed e t n x m p s.part)

pub length-bytes : (rs us : List Queued) → length (bytes (rs ++ us)) ≡ length (bytes rs) + length (bytes us)
length-bytes [] us = omega arith
length-bytes (r ∷ rs) us =
    length-append (bytes_of r) (bytes (rs ++ us)) ∙ omega (arith, length-bytes rs us, length-append (bytes_of r) (bytes rs))

-- the bytes of a record as a send lays it
pub laid-bytes : (e t n : ℕ) (x : List ℕ) → bytes_of (laid_as e t n x) ≡ record_bytes e t n x
laid-bytes e t n x =
    by_test (λ (r : Queued). bytes_of r ≡ record_bytes e t n x)
    (λ h. ap (λ (k : ℕ). record_bytes k t n x) (sym (eqb-true e 0 h)))
    (λ h. sym (bytes_ciphertext (eqb-false e 0 h) t n x))

-- ---- one behind another

pub flat_snoc : (ds : List (List Queued)) (r : Queued) → flat (ds ++ (r ∷ []) ∷ []) ≡ flat ds ++ r ∷ []
flat_snoc [] r = refl
flat_snoc (d ∷ ds) r = ap (λ (l : List Queued). d ++ l) (flat_snoc ds r) ∙ sym (append_assoc d (flat ds) (r ∷ []))

pub waiting-append : (rs us : List Queued) → waiting_of (rs ++ us) ≡ waiting_of rs ++ waiting_of us
waiting-append [] us = refl
waiting-append (plain t n x ∷ rs) us = waiting-append rs us
waiting-append (waits e t n x p ∷ rs) us = ap (λ (l : List Queued). waits e t n x p ∷ l) (waiting-append rs us)
waiting-append (sealed e t n x m p ∷ rs) us = waiting-append rs us

pub numbers-append : (k : ℕ) (rs us : List Queued) → numbers_of k (rs ++ us) ≡ numbers_of k rs ++ numbers_of k us
numbers-append k [] us = refl
numbers-append k (plain t n x ∷ rs) us = numbers-append k rs us
numbers-append k (waits e t n x p ∷ rs) us =
    test_cases (eqb e k)
    (λ h. if_true _ _ h ∙ ap (λ (l : List ℕ). n ∷ l) (numbers-append k rs us) ∙ ap (λ (l : List ℕ). l ++ numbers_of k us) (sym (if_true (n ∷ numbers_of k rs) (numbers_of k rs) h)))
    (λ h. if_false _ _ h ∙ numbers-append k rs us ∙ ap (λ (l : List ℕ). l ++ numbers_of k us) (sym (if_false (n ∷ numbers_of k rs) (numbers_of k rs) h)))
numbers-append k (sealed e t n x m p ∷ rs) us = numbers-append k rs us

pub laid-append : (rs us : List Queued) → AsLaid rs → AsLaid us → AsLaid (rs ++ us)
laid-append [] us a b = b
laid-append (plain t n x ∷ rs) us a b = laid-append rs us a b
laid-append (waits e t n x p ∷ rs) us a b = (a.0, laid-append rs us a.1 b)
laid-append (sealed e t n x m p ∷ rs) us a b = absurd a

pub laid-split : (rs us : List Queued) → AsLaid (rs ++ us) → AsLaid rs × AsLaid us
laid-split [] us a = (tt, a)
laid-split (plain t n x ∷ rs) us a = laid-split rs us a
laid-split (waits e t n x p ∷ rs) us a = let b = laid-split rs us a.1 in ((a.0, b.0), b.1)
laid-split (sealed e t n x m p ∷ rs) us a = absurd a

-- what is as laid is in order
pub laid-order : (rs : List Queued) → AsLaid rs → InOrder rs
laid-order [] a = tt
laid-order (plain t n x ∷ rs) a = laid-order rs a
laid-order (waits e t n x p ∷ rs) a = a.1
laid-order (sealed e t n x m p ∷ rs) a = absurd a

pub order-append : (rs us : List Queued) → InOrder rs → AsLaid us → InOrder (rs ++ us)
order-append [] us a b = laid-order us b
order-append (plain t n x ∷ rs) us a b = order-append rs us a b
order-append (waits e t n x p ∷ rs) us a b = laid-append rs us a b
order-append (sealed e t n x m p ∷ rs) us a b = order-append rs us a b

pub under-append : (k : ℕ) (rs us : List Queued) → Under k rs → Under k us → Under k (rs ++ us)
under-append k [] us a b = b
under-append k (plain t n x ∷ rs) us a b = under-append k rs us a b
under-append k (waits e t n x p ∷ rs) us a b = (a.0, under-append k rs us a.1 b)
under-append k (sealed e t n x m p ∷ rs) us a b = under-append k rs us a b

pub runs_snoc : (a b : ℕ) (ns : List ℕ) → Runs a b ns → Runs a (b + 1) (ns ++ b ∷ [])
runs_snoc a b [] h = (sym h, ap (λ (k : ℕ). k + 1) h)
runs_snoc a b (n ∷ ns) h = (h.0, runs_snoc (a + 1) b ns h.1)

pub runs-length : (a b : ℕ) (ns : List ℕ) → Runs a b ns → a + length ns ≡ b
runs-length a b [] h = omega arith
runs-length a b (n ∷ ns) h = omega (arith, runs-length (a + 1) b ns h.1)

-- ---- the first that waits

pub waits-append : (rs us : List Queued) → waits_in rs ≡ false → waits_in (rs ++ us) ≡ waits_in us
waits-append [] us h = refl
waits-append (plain t n x ∷ rs) us h = waits-append rs us h
waits-append (waits e t n x p ∷ rs) us h = absurd (false≢true (sym h))
waits-append (sealed e t n x m p ∷ rs) us h = waits-append rs us h

pub waits-first : (rs us : List Queued) → waits_in rs ≡ true → waits_in (rs ++ us) ≡ true
waits-first [] us h = absurd (false≢true h)
waits-first (plain t n x ∷ rs) us h = waits-first rs us h
waits-first (waits e t n x p ∷ rs) us h = refl
waits-first (sealed e t n x m p ∷ rs) us h = waits-first rs us h

pub oldest-append : (slot at : ℕ) (rs us : List Queued) (w : Waiting)
    → oldest_in slot at (rs ++ us) w ≡ oldest_in slot at rs (oldest_in slot (at + length (bytes rs)) us w)
oldest-append slot at [] us w = ap (λ (k : ℕ). oldest_in slot k us w) (omega arith)
oldest-append slot at (plain t n x ∷ rs) us w =
    oldest-append slot (at + length (record_bytes 0 t n x)) rs us w
    ∙ ap (λ (k : ℕ). oldest_in slot (at + length (record_bytes 0 t n x)) rs (oldest_in slot k us w)) (omega (arith, length-append (record_bytes 0 t n x) (bytes rs)))
oldest-append slot at (waits e t n x p ∷ rs) us w = refl
oldest-append slot at (sealed e t n x m p ∷ rs) us w =
    let b : List ℕ = bytes_of (sealed e t n x m p) in
    oldest-append slot (at + length b) rs us w
    ∙ ap (λ (k : ℕ). oldest_in slot (at + length b) rs (oldest_in slot k us w)) (omega (arith, length-append b (bytes rs)))

pub none_in : (slot at : ℕ) (rs : List Queued) (w : Waiting) → waits_in rs ≡ false → oldest_in slot at rs w ≡ w
none_in slot at [] w h = refl
none_in slot at (plain t n x ∷ rs) w h = none_in slot (at + length (bytes_of (plain t n x))) rs w h
none_in slot at (waits e t n x p ∷ rs) w h = absurd (false≢true (sym h))
none_in slot at (sealed e t n x m p ∷ rs) w h = none_in slot (at + length (bytes_of (sealed e t n x m p))) rs w h

-- which is found does not turn on what follows, and it is in this slot
pub some_in : (slot at : ℕ) (rs : List Queued) (w v : Waiting) → waits_in rs ≡ true
    → (oldest_in slot at rs w ≡ oldest_in slot at rs v) × ((oldest_in slot at rs w).any ≡ true) × ((oldest_in slot at rs w).slot ≡ slot)
some_in slot at [] w v h = absurd (false≢true h)
some_in slot at (plain t n x ∷ rs) w v h = some_in slot (at + length (bytes_of (plain t n x))) rs w v h
some_in slot at (waits e t n x p ∷ rs) w v h = (refl, refl, refl)
some_in slot at (sealed e t n x m p ∷ rs) w v h = some_in slot (at + length (bytes_of (sealed e t n x m p))) rs w v h

module _ (first limit : ℕ) where
  pub none_of : (i : ℕ) (ds : List (List Queued)) (w : Waiting) → waits_in (flat ds) ≡ false → oldest_of first limit i ds w ≡ w
  none_of i [] w h = refl
  none_of i (d ∷ ds) w h =
      test_cases (waits_in d) (λ a. absurd (false≢true (sym h ∙ waits-first d (flat ds) a)))
      (λ a. none_in (slot_of first limit i) 0 d (oldest_of first limit (i + 1) ds w) a ∙ none_of (i + 1) ds w (sym (waits-append d (flat ds) a) ∙ h))

  pub some_of : (i : ℕ) (ds : List (List Queued)) (w v : Waiting) → waits_in (flat ds) ≡ true
      → (oldest_of first limit i ds w ≡ oldest_of first limit i ds v) × ((oldest_of first limit i ds w).any ≡ true)
  some_of i [] w v h = absurd (false≢true h)
  some_of i (d ∷ ds) w v h =
      test_cases (waits_in d)
      (λ a. let f = some_in (slot_of first limit i) 0 d (oldest_of first limit (i + 1) ds w) (oldest_of first limit (i + 1) ds v) a in (f.0, f.1))
      (λ a.
      let n : (u : Waiting) → oldest_of first limit i (d ∷ ds) u ≡ oldest_of first limit (i + 1) ds u = λ u. none_in (slot_of first limit i) 0 d (oldest_of first limit (i + 1) ds u) a in
      let f = some_of (i + 1) ds w v (sym (waits-append d (flat ds) a) ∙ h) in
      (n w ∙ f.0 ∙ sym (n v), ap (λ (u : Waiting). u.any) (n w) ∙ f.1))

  -- something waits exactly if the state says so
  pub any-waits : (i : ℕ) (ds : List (List Queued)) → (oldest_of first limit i ds no_waiting).any ≡ waits_in (flat ds)
  unfolding no_waiting
  any-waits i ds =
      test_cases (waits_in (flat ds)) (λ h. (some_of i ds no_waiting no_waiting h).1 ∙ sym h)
      (λ h. ap (λ (u : Waiting). u.any) (none_of i ds no_waiting h) ∙ sym h)

-- ---- where the bytes lie

module _ (mem mem' : List ℕ) (base low high : ℕ) (same : (a k : ℕ) → low ≤ a → a + k ≤ high → part (base + a) k mem' ≡ part (base + a) k mem) where
  -- records in a part of the memory that is as it was
  pub lies-still : (at : ℕ) (rs : List Queued) → low ≤ at → at + length (bytes rs) ≤ high → Lies mem base at rs → Lies mem' base at rs
  lies-still at [] l h a = tt
  lies-still at (r ∷ rs) l h a =
      let n = length-append (bytes_of r) (bytes rs) in (
        record { sound = a.0.sound; here = same at (length (bytes_of r)) l (omega arith) ∙ a.0.here },
        lies-still (at + length (bytes_of r)) rs (omega arith) (omega arith) a.1,
      )

pub lies-append : (mem : List ℕ) (base at : ℕ) (rs us : List Queued) → Lies mem base at rs → Lies mem base (at + length (bytes rs)) us → Lies mem base at (rs ++ us)
lies-append mem base at [] us a b = rw (zero at) at b
  where
    zero : (at : ℕ) → at + 0 ≡ at
    zero at = omega arith
lies-append mem base at (r ∷ rs) us a b =
    (a.0, lies-append mem base (at + length (bytes_of r)) rs us a.1 (rw (next at) at b))
  where
    next : (at : ℕ) → at + length (bytes (r ∷ rs)) ≡ at + length (bytes_of r) + length (bytes rs)
    next at = omega (arith, length-append (bytes_of r) (bytes rs))

-- in front of which none waits is in order where the rest is
pub order-later : (rs us : List Queued) → waits_in rs ≡ false → InOrder (rs ++ us) → InOrder us
order-later [] us h o = o
order-later (plain t n x ∷ rs) us h o = order-later rs us h o
order-later (waits e t n x p ∷ rs) us h o = absurd (false≢true (sym h))
order-later (sealed e t n x m p ∷ rs) us h o = order-later rs us h o
