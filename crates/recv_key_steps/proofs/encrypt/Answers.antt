-- `recv_key_steps::encrypt` meets its contract. Assumes nothing.
use mathlib.Core.Path.{sym, ◌∙◌}
use Rattle.base.specs.Choose.{if_true, if_false}
use Rattle.receiving.specs.Receiving.{encrypt_of}
use Rattle.recv_key_steps.specs.Kept.{as_kept, as_made}
use Rattle.recv_words.specs.Entries.{encrypts, encrypt_flat}
use Rattle.recv_key_steps.proofs.encrypt.Goals as goal

pub is_sound-requires : goal.is_sound-requires
is_sound-requires c = c.datagram_of-b.ensures

pub returns-then-is_sound : goal.returns-then-is_sound
unfolding encrypt_of
returns-then-is_sound c = let z = c.told-w in let f = c.requires in as_made _ _ _ _ _ _ (if_true _ _ (sym (rw c.datagram_of-b.ensures at c.is_sound.ensures) ∙ c.if-is_sound.true)) (encrypts _ z).0 (encrypts _ z).1 (encrypt_flat _ z f ∙ sym f)

pub returns : goal.returns
unfolding encrypt_of
returns c = as_kept _ _ _ (if_false _ _ (sym (rw c.datagram_of-b.ensures at c.is_sound.ensures) ∙ c.if-is_sound.false))
