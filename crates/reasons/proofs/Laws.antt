-- Laws of the lines: their cases, which numbers stand in the list of those taken, how large they are, how long a line is. Assumes nothing.
use Rattle.std.specs.Prelude.{Bool, true, false, ◌≡◌, eqb}
use Rattle.std.proofs.lemmas.Bool.{false≢true}
use mathlib.Core.List.Memᴰ.{cases_cons as mem-cases}
use mathlib.Core.List.Memᴰ.{head as here}
use mathlib.Core.List.Memᴰ.{tail as there}
use mathlib.Core.List.{List, [], ◌∷◌, Memᴰ as Mem}
use Rattle.std.proofs.Math.Logic.{⊎_elim}
use Rattle.std.proofs.Math.Path.{refl, sym, ap, subst}
use Rattle.std.proofs.Common.{◌∙◌}
use Prim.Native.Nat.{ℕ, zero, suc, ◌+◌, ◌*◌, ◌<◌, ◌≤◌, max}
use native.Mathlib.Omega.{arith}
use borrow.Author.Tests.{eqb-true, eq-eqb}
use Rattle.base.specs.Choose.{choose, both, if_true, by_test, both_left, both_right, both_true, eq-or_ne}
use Rattle.sequence.specs.Sequence.{block_of, own, nearest}
use Rattle.sequence.proofs.Cases.{cases}
use Rattle.window.specs.Used.{above}
use Rattle.reasons.specs.declared.Reason.{Reason}
use Rattle.reasons.specs.declared.Reason.TheVariants.{Short, Record, Epoch, Old, Seen, Cipher, Taken}
use Rattle.reasons.specs.declared.Told.{Told}
use Rattle.reasons.specs.Met.{has, meet}
use Rattle.reasons.proofs.Meeting.{has-mem, meet-has, met_next}
use Rattle.reasons.specs.Reasons.{record_at, epoch_of, bits_of, partial_of, is_whole, is_well_formed, is_formed, epoch_at, kept_at, is_taken, taken_in, number_in, told_in, tell, told_to, told_at}
use Rattle.reasons.proofs.Cases.{tell-cases, taken_next}

-- ---- a record that is taken

is-taken : (q : Reason) → is_taken q ≡ true → q ≡ Taken
is-taken Short e = absurd (false≢true e)
is-taken Record e = absurd (false≢true e)
is-taken Epoch e = absurd (false≢true e)
is-taken Old e = absurd (false≢true e)
is-taken Seen e = absurd (false≢true e)
is-taken Cipher e = absurd (false≢true e)
is-taken Taken e = refl

-- of a record that is taken: it is formed, its epoch kept, and number and epoch told are its own
pub record Takes (kept : List ℕ) (told : List Told) (r : List ℕ) : Type 0 where
  pub whole : is_whole r ≡ true
  pub formed : is_well_formed r ≡ true
  pub among : has (epoch_of r) (meet (epoch_of r) kept) ≡ true
  pub its : tell kept told r ≡ told_in (taken_in (epoch_of r) told) r

pub takes : (kept : List ℕ) (told : List Told) (r : List ℕ) → (tell kept told r).reason ≡ Taken → Takes kept told r
takes kept told r =
    tell-cases (λ (t : Told). tell kept told r ≡ t → t.reason ≡ Taken → Takes kept told r) kept told r (λ w q e. absurd (false≢true (ap is_taken e)))
    (λ w x q e. absurd (false≢true (ap is_taken e))) (λ w x y q e. absurd (false≢true (ap is_taken e)))
    (λ w x y q e. record { whole = w; formed = x; among = y; its = q }) refl

-- record j is taken in an epoch with a number
pub record TakenAs (d : List ℕ) (e n j : ℕ) : Type 0 where
  pub taken : (told_at d j).reason ≡ Taken
  pub epoch : epoch_at d j ≡ e
  pub number : (told_at d j).number ≡ n

module _ (d : List ℕ) where
  pub takes_at : (j : ℕ) → (told_at d j).reason ≡ Taken → Takes (kept_at d j) (told_to d j) (record_at d j)
  unfolding told_at
  takes_at j e = takes (kept_at d j) (told_to d j) (record_at d j) e

  own-epoch : (j : ℕ) → (told_at d j).reason ≡ Taken → (told_at d j).epoch ≡ epoch_at d j
  unfolding told_at told_in
  own-epoch j e = ap (λ (t : Told). t.epoch) (takes_at j e).its

  -- those in the list are those that records before were taken with
  pub listed : (e n i : ℕ) → Mem n (taken_in e (told_to d i)) → (j : ℕ) × (j < i) × TakenAs d e n j
  unfolding taken_in told_to
  listed e n zero m = absurd (elim m [ ])
  listed e n (suc i) m =
      by_test (λ (l : List ℕ). Mem n l → (j : ℕ) × (j < suc i) × TakenAs d e n j)
      (λ t m'.
      let is : (told_at d i).reason ≡ Taken = is-taken _ (both_left _ _ t) in
      ⊎_elim
      (λ (q : n ≡ (told_at d i).number). (i, omega arith, record { taken = is; epoch = sym (own-epoch i is) ∙ eqb-true _ _ (both_right _ _ t); number = sym q }))
      (λ r. earlier (listed e n i r)) (mem-cases m'))
      (λ t m'. earlier (listed e n i m')) (subst (λ (l : List ℕ). Mem n l) (taken_next d e i) m)
    where
      earlier : (j : ℕ) × (j < i) × TakenAs d e n j → (j : ℕ) × (j < suc i) × TakenAs d e n j
      earlier f = (f.0, omega (arith, f.1), f.2)

  pub lists : (e n i j : ℕ) → j < i → TakenAs d e n j → Mem n (taken_in e (told_to d i))
  lists e n zero j l t = absurd (omega arith)
  lists e n (suc i) j l t =
      subst (λ (x : List ℕ). Mem n x) (sym (taken_next d e i))
      (⊎_elim (λ (q : j ≡ i). now q)
      (λ q. by_test (λ (x : List ℕ). Mem n x) (λ _. there (lists e n i j (omega arith) t)) (λ _. lists e n i j (omega arith) t)) (eq-or_ne j i))
    where
      now : j ≡ i → Mem n (choose (both (is_taken (told_at d i).reason) (eqb (told_at d i).epoch e)) ((told_at d i).number ∷ taken_in e (told_to d i)) (taken_in e (told_to d i)))
      now q =
          let u : TakenAs d e n i = subst (λ (x : ℕ). TakenAs d e n x) q t in
          let test = both_true (ap is_taken u.taken) ∙ eq-eqb _ _ (own-epoch i u.taken ∙ u.epoch) in
          subst (λ (x : List ℕ). Mem n x) (sym (if_true _ _ test)) (here (sym u.number))

-- ---- how large the numbers are

-- what the bits stand for is half a block above what is expected at most, or in the first block
nearest-small : (s : Bool) (p e : ℕ) → nearest (block_of s) p e ≤ max 65535 (e + 32768)
unfolding own
nearest-small true p e =
    cases (λ (x : ℕ). x ≤ max 65535 (e + 32768)) 65536 p e (λ a b. omega arith) (λ a b. omega arith) (λ a b c. omega arith) (λ a b c. omega arith) (λ a b. omega arith)
nearest-small false p e =
    cases (λ (x : ℕ). x ≤ max 65535 (e + 32768)) 256 p e (λ a b. omega arith) (λ a b. omega arith) (λ a b c. omega arith) (λ a b c. omega arith) (λ a b. omega arith)

-- above every number taken before record i, in any epoch
abbrev pub top_at : ℕ → ℕ
top_at i = 65536 + 32769 * i

module _ (d : List ℕ) where
  pub number_small : (i : ℕ) (taken : List ℕ) → above taken ≤ top_at i → number_in taken (record_at d i) < top_at (i + 1)
  unfolding number_in
  number_small i taken l = omega (arith, nearest-small (eqb (bits_of (record_at d i)) 16) (partial_of (record_at d i)) (above taken))

  -- a number just taken, if those before it are as small as they are
  small-next : (i e : ℕ) → above (taken_in (epoch_at d i) (told_to d i)) ≤ top_at i → both (is_taken (told_at d i).reason) (eqb (told_at d i).epoch e) ≡ true
      → (told_at d i).number < top_at (i + 1)
  unfolding told_at told_in
  small-next i e l t =
      subst (λ (x : Told). x.number < top_at (i + 1)) (sym (takes_at d i (is-taken _ (both_left _ _ t))).its) (number_small i _ l)

  pub taken-small : (i e : ℕ) → above (taken_in e (told_to d i)) ≤ top_at i
  unfolding taken_in told_to
  taken-small zero e = omega arith
  taken-small (suc i) e =
      subst (λ (l : List ℕ). above l ≤ top_at (suc i)) (sym (taken_next d e i))
      (by_test (λ (l : List ℕ). above l ≤ top_at (suc i)) (λ t. omega (arith, taken-small i e, small-next i e (taken-small i (epoch_at d i)) t))
      (λ t. omega (arith, taken-small i e)))

  -- ---- epochs

  pub kept_next : (i : ℕ) → kept_at d (suc i) ≡ choose (is_formed d i) (meet (epoch_at d i) (kept_at d i)) (kept_at d i)
  unfolding kept_at
  kept_next i = met_next (is_formed d) (epoch_at d) i

  -- a record that is taken has its epoch kept behind it
  kept-taken : (i : ℕ) → (told_at d i).reason ≡ Taken → Mem (epoch_at d i) (kept_at d (suc i))
  unfolding is_formed
  kept-taken i e =
      let t = takes_at d i e in
      subst (λ (l : List ℕ). Mem (epoch_at d i) l) (sym (kept_next i ∙ if_true _ _ (both_true t.whole ∙ t.formed))) ((has-mem _ _).0 t.among)

  -- an epoch that is kept stays so
  pub kept-stays : (i e : ℕ) → Mem e (kept_at d i) → Mem e (kept_at d (suc i))
  kept-stays i e m =
      subst (λ (l : List ℕ). Mem e l) (sym (kept_next i)) (by_test (λ (l : List ℕ). Mem e l) (λ _. meet-has (epoch_at d i) (kept_at d i) e m) (λ _. m))

  -- so each number taken is of an epoch that is kept
  pub taken-kept : (i e n : ℕ) → Mem n (taken_in e (told_to d i)) → Mem e (kept_at d i)
  unfolding taken_in told_to
  taken-kept zero e n m = absurd (elim m [ ])
  taken-kept (suc i) e n m =
      by_test (λ (l : List ℕ). Mem n l → Mem e (kept_at d (suc i)))
      (λ t _. let is : (told_at d i).reason ≡ Taken = is-taken _ (both_left _ _ t) in
      subst (λ (x : ℕ). Mem x (kept_at d (suc i))) (sym (own-epoch d i is) ∙ eqb-true _ _ (both_right _ _ t)) (kept-taken i is))
      (λ t m'. kept-stays i e (taken-kept i e n m')) (subst (λ (l : List ℕ). Mem n l) (taken_next d e i) m)

  -- and nothing is taken in one that is not
  pub none-taken : (i e : ℕ) → (Mem e (kept_at d i) → ⊥) → taken_in e (told_to d i) ≡ []
  none-taken i e h = empty (taken_in e (told_to d i)) (λ n m. h (taken-kept i e n m))
    where
      empty : (l : List ℕ) → ((n : ℕ) → Mem n l → ⊥) → l ≡ []
      empty [] f = refl
      empty (n ∷ l) f = absurd (f n (here refl))
