-- `recv_key_steps::begin` meets its contract. Assumes nothing.
use Rattle.recv_words.specs.Laws.{put-keys, put-datagram, put-flat}
use mathlib.Core.Path.{sym, ◌∙◌}
use Rattle.base.specs.Choose.{if_true, if_false}
use borrow.Author.Tests.{lt-ltb, le-ltb}
use Rattle.receiving.specs.Receiving.{begin_of}
use Rattle.recv_key_steps.specs.Kept.{as_kept, as_made}
use Rattle.recv_key_steps.proofs.begin.Goals as goal

pub is_sound-requires : goal.is_sound-requires
is_sound-requires c = c.datagram_of-b.ensures

pub returns-then-long : goal.returns-then-long
unfolding begin_of
returns-then-long c = as_kept _ _ _ (if_true _ _ (sym (rw c.datagram_of-b.ensures at c.is_sound.ensures) ∙ c.if-is_sound.true) ∙ if_true _ _ (lt-ltb _ _ c.if-long.true))

pub returns-then-is_sound : goal.returns-then-is_sound
unfolding begin_of
returns-then-is_sound c = let p = c.put_datagram.ensures in let z = c.told-w in let f = c.requires in as_made _ _ _ _ _ _ (if_true _ _ (sym (rw c.datagram_of-b.ensures at c.is_sound.ensures) ∙ c.if-is_sound.true) ∙ if_false _ _ (le-ltb _ _ c.if-long.false)) (put-keys p z) (put-datagram p z) (put-flat p z f ∙ sym f)

pub returns : goal.returns
unfolding begin_of
returns c = as_kept _ _ _ (if_false _ _ (sym (rw c.datagram_of-b.ensures at c.is_sound.ensures) ∙ c.if-is_sound.false))
