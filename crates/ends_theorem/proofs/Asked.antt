-- The sealing question that the host is shown: the oldest record that waits, with its part as it was laid when it was first shown.
-- Assumes nothing.
use Rattle.std.specs.Prelude.{ℕ, ◌+◌, ◌≡◌}
use Rattle.std.proofs.Common.{eqb-true, eq-eqb, ◌∙◌, arith}
use Rattle.std.proofs.Math.ListN.{length}
use mathlib.Core.List.Memᴰ.{head as here}
use mathlib.Core.List.Memᴰ.{tail as there}
use mathlib.Core.List.{List, [], ◌∷◌, ◌++◌, Memᴰ as Mem}
use Rattle.std.proofs.Math.Option.{Option, none, some}
use Rattle.std.proofs.Math.Path.{refl, sym, ap, subst}
use Rattle.base.specs.Choose.{if_true, by_test, both_left, both_right, both_true}
use Rattle.base.specs.Parts.{part}
use Rattle.dtls_aead.specs.Nonce.{nonce_of}
use Rattle.record.specs.Record.{sealed_tail, unified_header}
use Rattle.queue.specs.Laid.{trailer_of}
use Rattle.send_keys.specs.Keys.{iv_of}
use Rattle.outgoing.specs.declared.Sending.{Sending}
use Rattle.sealing.specs.Sealing.{Asked, is_asked, part_start, question_of, part_of}
use Rattle.waiting_laws.proofs.Effects.{Waited, longer, written, answered}
use Rattle.waiting_laws.proofs.Facts.{Apart, Once, each_as_laid, waits-once}
use Rattle.waiting_laws.proofs.First.{put_with}
use Rattle.waiting_laws.proofs.Oldest.{waiting-cases, names-first, question-shows, question-none, part-shows}
use Rattle.waiting_laws.specs.Queued.{Queued, plain, waits, sealed, flat, waiting_of, AsLaid, Holds}
use Rattle.waiting_laws.proofs.Seals.{held-again, ready_always}
use Rattle.history_theorem.proofs.Lists.{mem-by}
use Rattle.ends_theorem.specs.Sender.{Lent, first_bytes, lent_by, lends}

-- the question about a record that waits
abbrev pub lent_for : Sending → ℕ → ℕ → ℕ → List ℕ → Lent
lent_for s e t n x = record {
  epoch = e;
  num = n;
  nonce = nonce_of (iv_of s.keys e) n;
  header = unified_header e n (length x + sealed_tail);
  place = part_start s;
  size = length x + sealed_tail;
  bytes = x ++ trailer_of t e n;
}

-- what is shown, by those that wait
abbrev pub LentIs : Sending → Option Lent → List Queued → Type 0
LentIs s o [] = o ≡ none
LentIs s o (plain t n x ∷ us) = ⊥
LentIs s o (waits e t n x p ∷ us) = o ≡ some (lent_for s e t n x)
LentIs s o (sealed e t n x m p ∷ us) = ⊥

-- the bytes first shown are those that were laid
abbrev pub Shows : Option Lent → List Queued → Type 0
Shows o [] = Unit {0}
Shows o (plain t n x ∷ us) = Unit {0}
Shows o (waits e t n x p ∷ us) = first_bytes o e n p ≡ x ++ trailer_of t e n
Shows o (sealed e t n x m p ∷ us) = Unit {0}

-- ---- those that wait

waiting-mem : (r : Queued) (rs : List Queued) → Mem r (waiting_of rs) → Mem r rs
waiting-mem r [] m = m
waiting-mem r (plain t n x ∷ rs) m = there (waiting-mem r rs m)
waiting-mem r (waits e t n x p ∷ rs) m = mem-by m (λ (q : r ≡ waits e t n x p). here q) (λ o. there (waiting-mem r rs o))
waiting-mem r (sealed e t n x o p ∷ rs) m = there (waiting-mem r rs m)

pub first-mem : {e t n : ℕ} {x p : List ℕ} (rs us : List Queued) → waiting_of rs ≡ waits e t n x p ∷ us → Mem (waits e t n x p) rs
first-mem {e} {t} {n} {x} {p} rs us y = waiting-mem (waits e t n x p) rs (subst (Mem (waits e t n x p)) (sym y) (here refl))

pub mem-waiting : (e t n : ℕ) (x p : List ℕ) (rs : List Queued) → Mem (waits e t n x p) rs → Mem (waits e t n x p) (waiting_of rs)
mem-waiting e t n x p [] m = m
mem-waiting e t n x p (plain t' n' x' ∷ rs) m =
    mem-by m (λ (q : waits e t n x p ≡ plain t' n' x'). absurd (let z : ◌≡◌ {A = ℕ} 0 1 = cc in omega arith)) (λ o. mem-waiting e t n x p rs o)
mem-waiting e t n x p (waits e' t' n' x' p' ∷ rs) m =
    mem-by m (λ (q : waits e t n x p ≡ waits e' t' n' x' p'). here q) (λ o. there (mem-waiting e t n x p rs o))
mem-waiting e t n x p (sealed e' t' n' x' m' p' ∷ rs) m =
    mem-by m (λ (q : waits e t n x p ≡ sealed e' t' n' x' m' p'). absurd (let z : ◌≡◌ {A = ℕ} 0 1 = cc in omega arith)) (λ o. mem-waiting e t n x p rs o)

-- no other has the first's epoch and number
apart_not : (k j t : ℕ) (x p : List ℕ) (rs : List Queued) → Apart k j rs → Mem (waits k t j x p) rs → ⊥
apart_not k j t x p [] a m = elim m [ ]
apart_not k j t x p (plain t' n' x' ∷ rs) a m =
    mem-by m (λ (q : waits k t j x p ≡ plain t' n' x'). let z : ◌≡◌ {A = ℕ} 0 1 = cc in omega arith) (λ o. apart_not k j t x p rs a o)
apart_not k j t x p (waits e n n' x' p' ∷ rs) a m =
    mem-by m (λ (q : waits k t j x p ≡ waits e n n' x' p'). let u : e ≡ k = cc in let v : n' ≡ j = cc in a.0 u v) (λ o. apart_not k j t x p rs a.1 o)
apart_not k j t x p (sealed e n n' x' m' p' ∷ rs) a m =
    mem-by m (λ (q : waits k t j x p ≡ sealed e n n' x' m' p'). let z : ◌≡◌ {A = ℕ} 0 1 = cc in omega arith) (λ o. apart_not k j t x p rs a o)

pub first_alone : (rs : List Queued) → Once rs → (e t n : ℕ) (x p : List ℕ) (us : List Queued) → waiting_of rs ≡ waits e t n x p ∷ us
    → (t' : ℕ) (x' p' : List ℕ) → Mem (waits e t' n x' p') us → ⊥
first_alone [] o e t n x p us q t' x' p' m = let z : ◌≡◌ {A = ℕ} 0 1 = cc in omega arith
first_alone (plain a b c ∷ rs) o e t n x p us q t' x' p' m = first_alone rs o e t n x p us q t' x' p' m
first_alone (waits a b c f g ∷ rs) o e t n x p us q t' x' p' m =
    let u : a ≡ e = cc in
    let v : c ≡ n = cc in
    let w : waiting_of rs ≡ us = cc in
    apart_not e n t' x' p' rs (subst (λ (k : ℕ). Apart k n rs) u (subst (λ (k : ℕ). Apart a k rs) v o.0))
    (waiting-mem (waits e t' n x' p') rs (subst (Mem (waits e t' n x' p')) (sym w) m))
first_alone (sealed a b c f g h ∷ rs) o e t n x p us q t' x' p' m = first_alone rs o e t n x p us q t' x' p' m

-- ---- the question shown again

module _ (s : Sending) (q : List ℕ) (ds : List (List Queued)) (h : Holds s q ds) where
  -- the part lent is the oldest's
  pub part-is : (e t n : ℕ) (x p : List ℕ) (us : List Queued) → waiting_of (flat ds) ≡ waits e t n x p ∷ us → part (part_start s) (length x + sealed_tail) q ≡ p
  unfolding part_of is_asked
  part-is e t n x p us y =
      let f = names-first s q ds h e t n x p us y in
      ap (λ (k : ℕ). part (part_start s) k q) (sym f.size)
      ∙ sym (if_true _ _ (both_true (ready_always s q ds h) ∙ both_true (held-again s q ds h) ∙ f.any)) ∙ (part-shows s q ds h e t n x p us y).0

  pub lends-is : (old : Option Lent) → Shows old (waiting_of (flat ds)) → LentIs s (lends s q old) (waiting_of (flat ds))
  unfolding lends
  lends-is old k =
      waiting-cases (flat ds) (waiting_of (flat ds)) refl
      (λ z.
      subst (LentIs s (lent_by (question_of s) old q)) (sym z)
      (ap (λ (r : Asked). lent_by r old q) (question-none s q ds h z)))
      (λ e t n x p us y z.
      let b : first_bytes old e n (part (part_start s) (length x + sealed_tail) q) ≡ x ++ trailer_of t e n =
      ap (first_bytes old e n) (part-is e t n x p us y) ∙ subst (Shows old) z k in
      subst (LentIs s (lent_by (question_of s) old q)) (sym z)
      (ap (λ (r : Asked). lent_by r old q) (question-shows s q ds h e t n x p us y)
      ∙ ap (λ (l : List ℕ). some (record {
        epoch = e;
        num = n;
        nonce = nonce_of (iv_of s.keys e) n;
        header = unified_header e n (length x + sealed_tail);
        place = part_start s;
        size = length x + sealed_tail;
        bytes = l;
      })) b))

-- one laid is shown as it was laid
laid-first : (rs : List Queued) → AsLaid rs → (e t n : ℕ) (x p : List ℕ) (us : List Queued) → waiting_of rs ≡ waits e t n x p ∷ us → p ≡ x ++ trailer_of t e n
laid-first [] a e t n x p us q = absurd (let z : ◌≡◌ {A = ℕ} 0 1 = cc in omega arith)
laid-first (plain b c d ∷ rs) a e t n x p us q = laid-first rs a e t n x p us q
laid-first (waits b c d f g ∷ rs) a e t n x p us q =
    let i : b ≡ e = cc in
    let j : c ≡ t = cc in
    let k : d ≡ n = cc in
    let l : f ≡ x = cc in
    let o : p ≡ g = cc in
    o ∙ a.0 ∙ rw (i, j, k, l)
laid-first (sealed b c d f g h ∷ rs) a e t n x p us q = absurd a

-- the bytes first shown stay with the same record
same-shows : (s : Sending) (e t n : ℕ) (x p : List ℕ) → first_bytes (some (lent_for s e t n x)) e n p ≡ x ++ trailer_of t e n
same-shows s e t n x p = if_true _ _ (both_true (eq-eqb e e refl) ∙ eq-eqb n n refl)

-- another record is shown anew
other-shows : (s : Sending) (e t n : ℕ) (x : List ℕ) (e' n' : ℕ) (p : List ℕ) → (e ≡ e' → n ≡ n' → ⊥) → first_bytes (some (lent_for s e t n x)) e' n' p ≡ p
other-shows s e t n x e' n' p ne =
    by_test (λ (l : List ℕ). l ≡ p) (λ z. absurd (ne (eqb-true e e' (both_left _ _ z)) (eqb-true n n' (both_right _ _ z)))) (λ z. refl)

-- through a call that leaves, adds, writes or answers
module _ (s : Sending) (q : List ℕ) (ds us : List (List Queued)) (h : Holds s q ds) (o : Option Lent) (i : LentIs s o (waiting_of (flat ds))) where
  -- what was shown, where something waited
  was-shown : (e t n : ℕ) (x p : List ℕ) (ws : List Queued) → waiting_of (flat ds) ≡ waits e t n x p ∷ ws → o ≡ some (lent_for s e t n x)
  was-shown e t n x p ws y = subst (LentIs s o) y i

  longer-shows : (more : List Queued) → AsLaid more → waiting_of (flat us) ≡ waiting_of (flat ds) ++ waiting_of more → Shows o (waiting_of (flat us))
  longer-shows more a z =
      subst (Shows o) (sym z)
      (waiting-cases (flat ds) (waiting_of (flat ds)) refl
      (λ y.
      subst (λ (l : List Queued). Shows o (l ++ waiting_of more)) (sym y)
      (waiting-cases more (waiting_of more) refl (λ w. subst (Shows o) (sym w) tt)
      (λ e t n x p vs w v.
      subst (Shows o) (sym v)
      (ap (λ (r : Option Lent). first_bytes r e n p) (subst (LentIs s o) y i) ∙ laid-first more a e t n x p vs w))))
      (λ e t n x p vs y w.
      subst (λ (l : List Queued). Shows o (l ++ waiting_of more)) (sym w)
      (ap (λ (r : Option Lent). first_bytes r e n p) (was-shown e t n x p vs y) ∙ same-shows s e t n x p)))

  -- the first, by its name
  first-is : {C : Type 0} (r : Queued) (ws : List Queued) → waiting_of (flat ds) ≡ r ∷ ws
      → ((e t n : ℕ) (x p : List ℕ) → waiting_of (flat ds) ≡ waits e t n x p ∷ ws → r ≡ waits e t n x p → C) → C
  first-is r ws y f =
      waiting-cases (flat ds) (waiting_of (flat ds)) refl (λ z. absurd (let w : ◌≡◌ {A = ℕ} 0 1 = cc in omega arith))
      (λ e t n x p vs z w. let u : r ≡ waits e t n x p = cc in let v : vs ≡ ws = cc in f e t n x p (z ∙ ap (λ (l : List Queued). waits e t n x p ∷ l) v) u)

  pub shows-after : Waited (flat ds) (flat us) → Shows o (waiting_of (flat us))
  shows-after (longer more a z) = longer-shows more a z
  shows-after (written v r ws y z) =
      first-is r ws y λ e t n x p w u.
      subst (Shows o) (sym (z ∙ ap (λ (g : Queued). put_with v g ∷ ws) u))
      (ap (λ (l : Option Lent). first_bytes l e n v) (was-shown e t n x p ws w) ∙ same-shows s e t n x v)
  shows-after (answered r ws y z) =
      first-is r ws y λ e t n x p w u.
      subst (Shows o) (sym z) (next e t n x p w ws refl)
    where
      next : (e t n : ℕ) (x p : List ℕ) → waiting_of (flat ds) ≡ waits e t n x p ∷ ws → (vs : List Queued) → vs ≡ ws → Shows o vs
      next e t n x p w [] g = tt
      next e t n x p w (plain a b c ∷ vs) g = tt
      next e t n x p w (waits e' t' n' x' p' ∷ vs) g =
          let m : Mem (waits e' t' n' x' p') ws = subst (Mem (waits e' t' n' x' p')) g (here refl) in
          ap (λ (l : Option Lent). first_bytes l e' n' p') (was-shown e t n x p ws w)
          ∙ other-shows s e t n x e' n' p'
          (λ a b.
          first_alone (flat ds) (waits-once s q ds h) e t n x p ws w t' x' p'
          (subst (λ (k : ℕ). Mem (waits k t' n x' p') ws) (sym a) (subst (λ (k : ℕ). Mem (waits e' t' k x' p') ws) (sym b) m)))
          ∙ each_as_laid s q ds h (waits e t n x p) ws w e' t' n' x' p' m
      next e t n x p w (sealed a b c f k l ∷ vs) g = tt
