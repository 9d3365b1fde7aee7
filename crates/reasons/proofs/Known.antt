-- The first four different epochs of the formed records are kept: which record's epoch is refused, said without the list that is kept.
-- Assumes nothing.
use Rattle.std.specs.Prelude.{false, ◌≡◌}
use Rattle.std.proofs.Math.Bool.{true}
use mathlib.Core.List.{List, [], ◌∷◌, ◌++◌}
use Rattle.std.proofs.Common.{◌∙◌}
use Prim.Native.Nat.{ℕ, ◌<◌}
use borrow.Author.Tests.{lt-leb}
use Rattle.std.proofs.Math.ListN.{length}
use Rattle.base.specs.Choose.{if_true, if_false, either_true, either-false}
use Rattle.reasons.specs.Met.{most_kept, has, meet}

-- ---- one record more

module _ (e : ℕ) (ms : List ℕ) where
  pub meet-known : has e ms ≡ true → meet e ms ≡ ms
  unfolding meet
  meet-known h = if_true _ _ (either_true _ h)

  pub meet-new : has e ms ≡ false → length ms < most_kept → meet e ms ≡ ms ++ (e ∷ [])
  unfolding meet
  meet-new h l = if_false _ _ (either-false h ∙ lt-leb most_kept (length ms) l)
