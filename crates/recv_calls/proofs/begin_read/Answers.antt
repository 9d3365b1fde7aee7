-- `recv_calls::begin_read` meets its contract. Assumes nothing.
use Rattle.std.specs.Prelude.{Err}
use borrow.Author.Tests.{lt-ltb}
use mathlib.Core.Path.{refl, sym, ◌∙◌}
use Rattle.base.specs.Choose.{if_true, if_false}
use Rattle.receiving.specs.Receiving.{begin_of}
use Rattle.receiving.specs.declared.Refusal.TheVariants as refusal
use Rattle.recv_calls.specs.Laws.{begun-sound, first-refused, first_read}
use Rattle.recv_calls.proofs.begin_read.Goals as goal

pub is_sound-requires : goal.is_sound-requires
is_sound-requires c = c.datagram_of-b.ensures

pub returns-then-d-gt16384 : goal.returns-then-d-gt16384
unfolding begin_of
returns-then-d-gt16384 c = first-refused (Err refusal.TooLong) _ _ c.args.d.now c.told.ensures refl (sym c.is_flat.ensures ∙ c.if-is_flat.true) (if_true _ _ (sym (rw c.datagram_of-b.ensures at c.is_sound.ensures) ∙ c.if-is_sound.true) ∙ if_true _ _ (lt-ltb _ _ c.if-d-gt16384.true))

pub read_on-requires : goal.read_on-requires
read_on-requires c = (sym c.is_flat.ensures ∙ c.if-is_flat.true, record { sound = begun-sound _ _ _ (sym c.is_sound.ensures ∙ c.if-is_sound.true) c.if-d-gt16384.false; size = refl; idle = refl })

pub returns-then-is_sound : goal.returns-then-is_sound
returns-then-is_sound c = first_read _ _ _ c.args.d.now (sym (rw c.datagram_of-b.ensures at c.is_sound.ensures) ∙ c.if-is_sound.true) c.if-d-gt16384.false (sym c.is_flat.ensures ∙ c.if-is_flat.true) c.read_on.ensures

pub returns-then-is_flat : goal.returns-then-is_flat
unfolding begin_of
returns-then-is_flat c = first-refused (Err refusal.Setting) _ _ c.args.d.now c.told-then-is_flat.ensures refl (sym c.is_flat.ensures ∙ c.if-is_flat.true) (if_false _ _ (sym (rw c.datagram_of-b.ensures at c.is_sound.ensures) ∙ c.if-is_sound.false))

pub returns : goal.returns
returns c = (c.told-2.ensures ∙ sym (if_false _ _ (sym c.is_flat.ensures ∙ c.if-is_flat.false)), sym (if_false _ _ (sym c.is_flat.ensures ∙ c.if-is_flat.false)), refl)
