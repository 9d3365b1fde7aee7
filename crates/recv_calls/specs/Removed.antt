-- What removing an epoch tells: that a record under a question went with it is no failure. Assumes nothing.
use Rattle.receiving.specs.Receiving.{Answer, refusal_number}
use Rattle.std.specs.Prelude.{true, List, ◌≡◌, ℕ, Ok, Err}
use Rattle.std.proofs.Common.{sym, ap, ◌∙◌}
use Rattle.answers.specs.declared.HuskTold.{HuskTold}
use Rattle.answers.specs.Told.{tells}
use Rattle.base.specs.Choose.{choose, if_true}
use Rattle.receiving.specs.declared.Done.TheVariants as done
use Rattle.receiving.specs.declared.Kept.{Kept}
use Rattle.recv_words.specs.Words.{is_flat}
use Rattle.recv_key_steps.specs.Kept.{state_of, Kept-as}

-- 1 where a record was dropped with its epoch
abbrev pub removed_told : Answer → HuskTold
removed_told (Ok done.Asked) = tells 0 0
removed_told (Ok done.Dropped) = tells 0 1
removed_told (Err r) = tells (refusal_number r) 0

-- w before it, v behind it, k what the definition makes of the state
abbrev pub Removes : HuskTold → List ℕ → List ℕ → Kept → Type 0
Removes r v w k = (r ≡ choose (is_flat w) (removed_told k.answer) (tells 12 0)) × (state_of v ≡ choose (is_flat w) k.state (state_of w)) × (is_flat v ≡ is_flat w)

pub removes : (r : HuskTold) (a : Answer) (v w : List ℕ) (k : Kept) → is_flat w ≡ true → r ≡ removed_told a → Kept-as a v w k → Removes r v w k
removes r a v w k f e h = (e ∙ ap removed_told h.0 ∙ sym (if_true _ _ f), h.1 ∙ sym (if_true _ _ f), h.2)
