-- `classify_calls::is_sound` meets its contract. Assumes nothing.
use mathlib.Core.Path.{sym, ◌∙◌}
use borrow.Author.Tests.{eq-eqb, ne_eqb}
use Rattle.classify.specs.Classify.{is_sound}
use Rattle.base.specs.Choose.{both_true, both_false, either_true, either-false}
use Rattle.classify_calls.proofs.is_sound.Goals as goal

pub returns-then-x-eq-NONE : goal.returns-then-x-eq-NONE
unfolding is_sound
returns-then-x-eq-NONE c = sym (both_true (either_true _ (eq-eqb _ _ c.if-x-eq-NONE.true)))

-- of a kind that there is, and inside
pub returns-then-is_inside : goal.returns-then-is_inside
unfolding is_sound
returns-then-is_inside c = let inside = c in
    let content = inside in
    sym (both_true
    (either-false (ne_eqb _ _ content.if-x-eq-NONE.false)
    ∙ both_true (sym content.is_content.ensures ∙ inside.if-is_content.true) ∙ sym inside.is_inside.ensures ∙ c.if-is_inside.true))

-- of such a kind, and not inside
pub returns-then-is_content : goal.returns-then-is_content
unfolding is_sound
returns-then-is_content c = let inside = c in
    let content = inside in
    sym (both_false _
    (either-false (ne_eqb _ _ content.if-x-eq-NONE.false)
    ∙ both_true (sym content.is_content.ensures ∙ inside.if-is_content.true) ∙ sym inside.is_inside.ensures ∙ c.if-is_inside.false))

-- of no kind
pub returns : goal.returns
unfolding is_sound
returns c = let content = c in
    sym (both_false _
    (either-false (ne_eqb _ _ content.if-x-eq-NONE.false) ∙ both_false _ (sym content.is_content.ensures ∙ c.if-is_content.false)))
