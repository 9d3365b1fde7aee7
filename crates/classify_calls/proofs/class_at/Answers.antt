-- `classify_calls::class_at` meets its contract. Assumes nothing.
use Rattle.recv_words.specs.Words.{keys_of}
use mathlib.Core.Path.{sym, ap, ◌∙◌}
use borrow.Author.Tests.{eq-eqb, ne_eqb}
use Rattle.classify.specs.Classify.{class_of, classified}
use Rattle.base.specs.Choose.{if_true, if_false, both_true, both_false}
use Rattle.classify_calls.proofs.class_at.Goals as goal

-- none waits
pub returns-then-x-eq-NONE : goal.returns-then-x-eq-NONE
unfolding classified
returns-then-x-eq-NONE c = let size = c in
    let reading = size in
    let state = reading in
    sym (if_true _ _ (both_true (sym state.words_sound.ensures ∙ reading.if-words_sound.true) ∙ sym reading.is_sound.ensures ∙ size.if-is_sound.true)
    ∙ if_true _ _ (eq-eqb _ _ size.if-d-w.true) ∙ if_true _ _ (eq-eqb _ _ c.if-x-eq-NONE.true))

-- one waits
pub returns-then-d-w : goal.returns-then-d-w
unfolding classified
returns-then-d-w c = let none = c in
    let size = none in
    let reading = size in
    let state = reading in
    let a = state.args in
    c.class_of.ensures ∙ ap (class_of a.x.now (keys_of a.w.now).peer_encryption) c.fragment.ensures
    ∙ sym (if_true _ _ (both_true (sym state.words_sound.ensures ∙ reading.if-words_sound.true) ∙ sym reading.is_sound.ensures ∙ size.if-is_sound.true)
    ∙ if_true _ _ (eq-eqb _ _ size.if-d-w.true) ∙ if_false _ _ (ne_eqb _ _ none.if-x-eq-NONE.false))

-- another length
pub returns-then-is_sound : goal.returns-then-is_sound
unfolding classified
returns-then-is_sound c = let reading = c in
    let state = reading in
    sym (if_true _ _ (both_true (sym state.words_sound.ensures ∙ reading.if-words_sound.true) ∙ sym reading.is_sound.ensures ∙ c.if-is_sound.true)
    ∙ if_false _ _ (ne_eqb _ _ c.if-d-w.false))

-- a reading out of its range
pub returns-then-words_sound : goal.returns-then-words_sound
unfolding classified
returns-then-words_sound c = let reading = c in
    let state = reading in
    sym (if_false _ _ (both_true (sym state.words_sound.ensures ∙ reading.if-words_sound.true) ∙ sym reading.is_sound.ensures ∙ c.if-is_sound.false))

-- a state out of its range
pub returns : goal.returns
unfolding classified
returns c = sym (if_false _ _ (both_false _ (sym c.words_sound.ensures ∙ c.if-words_sound.false)))
