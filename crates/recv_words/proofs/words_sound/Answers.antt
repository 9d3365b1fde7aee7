-- `recv_words::words_sound` meets its contract: the tests of the definition in its order. Assumes nothing.
use mathlib.Core.Path.{sym, ◌∙◌}
use Rattle.base.specs.Choose.{both_true, both_false}
use borrow.Author.Tests.{lt-leb, le-leb}
use Rattle.datagram.specs.Datagram.{is_sound}
use Rattle.recv_keys.specs.Keeps.{in-range}
use Rattle.recv_words.proofs.words_sound.Goals as goal

pub returns-then-size-gt16384 : goal.returns-then-size-gt16384
unfolding is_sound
returns-then-size-gt16384 c = sym (both_true (sym c.keys_sound.ensures ∙ c.if-keys_sound.true) ∙ both_false _ (lt-leb _ _ c.if-size-gt16384.true))

pub returns-then-size-at : goal.returns-then-size-at
unfolding is_sound
returns-then-size-at c = sym (both_true (sym c.keys_sound.ensures ∙ c.if-keys_sound.true) ∙ both_true (le-leb _ _ c.if-size-gt16384.false) ∙ both_false _ (lt-leb _ _ c.if-size-at.true))

pub returns-then-w-gt16 : goal.returns-then-w-gt16
unfolding is_sound
returns-then-w-gt16 c = sym (both_true (sym c.keys_sound.ensures ∙ c.if-keys_sound.true) ∙ both_true (le-leb _ _ c.if-size-gt16384.false) ∙ both_true (le-leb _ _ c.if-size-at.false) ∙ both_false _ (lt-leb _ _ c.if-w-gt16.true))

pub question_sound-requires : goal.question_sound-requires
question_sound-requires c = (in-range _ (sym c.keys_sound.ensures ∙ c.if-keys_sound.true)).count

pub returns-then-keys_sound : goal.returns-then-keys_sound
unfolding is_sound
returns-then-keys_sound c = c.question_sound.ensures ∙ sym (both_true (sym c.keys_sound.ensures ∙ c.if-keys_sound.true) ∙ both_true (le-leb _ _ c.if-size-gt16384.false) ∙ both_true (le-leb _ _ c.if-size-at.false) ∙ both_true (le-leb _ _ c.if-w-gt16.false))

pub returns : goal.returns
unfolding is_sound
returns c = sym (both_false _ (sym c.keys_sound.ensures ∙ c.if-keys_sound.false))
