-- Laws of the lines: their cases, which numbers stand in the list of those taken, how large they are, how long a line is. Assumes nothing.
use Rattle.std.specs.Prelude.{Bool, true, false, ◌≡◌, eqb}
use mathlib.Core.List.{List, ◌∷◌}
use Rattle.std.proofs.Math.Path.{refl, ap}
use Prim.Native.Nat.{ℕ, suc, ◌+◌, ◌<◌, ◌≤◌}
use Rattle.base.specs.Choose.{choose, both, by_test, by_less}
use Rattle.window.specs.Used.{above}
use Rattle.reasons.specs.declared.Reason.{Reason}
use Rattle.reasons.specs.declared.Reason.TheVariants.{Short, Record, Epoch, Old, Seen, Cipher, Taken}
use Rattle.reasons.specs.declared.Told.{Told}
use Rattle.reasons.specs.Met.{has, meet}
use Rattle.reasons.specs.Reasons.{epoch_of, is_whole, is_well_formed, old_from, is_taken, taken_in, reason_in, told_in, only, tell, told_to, told_at}

-- ---- cases

-- the tests of a record, in their order
pub tell-cases : (P : Told → Type 0) (kept : List ℕ) (told : List Told) (r : List ℕ)
    → (is_whole r ≡ false → P (only Short))
    → (is_whole r ≡ true → is_well_formed r ≡ false → P (only Record))
    → (is_whole r ≡ true → is_well_formed r ≡ true → has (epoch_of r) (meet (epoch_of r) kept) ≡ false → P (only Epoch))
    → (is_whole r ≡ true → is_well_formed r ≡ true → has (epoch_of r) (meet (epoch_of r) kept) ≡ true → P (told_in (taken_in (epoch_of r) told) r))
    → P (tell kept told r)
unfolding tell
tell-cases P kept told r a b c f = by_test P (λ w. by_test P (λ x. by_test P (f w x) (c w x)) (b w)) a

-- the tests of a number
pub reason-cases : (P : Reason → Type 0) (taken : List ℕ) (n : ℕ) (opened : Bool)
    → (n + old_from < above taken → P Old)
    → (above taken ≤ n + old_from → has n taken ≡ true → P Seen)
    → (above taken ≤ n + old_from → has n taken ≡ false → opened ≡ false → P Cipher)
    → (above taken ≤ n + old_from → has n taken ≡ false → opened ≡ true → P Taken)
    → P (reason_in taken n opened)
unfolding reason_in
reason-cases P taken n opened a b c f = by_less P _ _ a (λ l. by_test P (b l) (λ h. by_test P (f l h) (c l h)))

-- ---- a record that is taken

module _ (d : List ℕ) where
  pub told-next : (i : ℕ) → told_to d (suc i) ≡ told_at d i ∷ told_to d i
  unfolding told_to told_at
  told-next i = refl

  -- the numbers taken in an epoch before record i, one more
  pub taken_next : (e i : ℕ) → taken_in e (told_to d (suc i)) ≡ choose (both (is_taken (told_at d i).reason) (eqb (told_at d i).epoch e)) ((told_at d i).number ∷ taken_in e (told_to d i)) (taken_in e (told_to d i))
  unfolding taken_in
  taken_next e i = ap (taken_in e) (told-next i)
