-- `recv_calls::mask_step` meets its contract: 12, 15, then the reply to the question that waits. Assumes nothing.
use mathlib.Core.Path.{refl, sym, ◌∙◌}
use Rattle.datagram.specs.declared.Reading.TheVariants as says
use Rattle.mask_reply.proofs.Leads.{mask-asks, mask-other, mask-out}
use Rattle.mask_reply.specs.Mask.{masking}
use Rattle.recv_calls.specs.Replies.{kind-mask, mask_not_asked, mask-refused, mask_leads}
use Rattle.recv_calls.proofs.mask_step.Goals as goal

pub mask_by-requires : goal.mask_by-requires
mask_by-requires c = (record { flat = c.requires; sound = (sym c.words_sound.ensures ∙ c.if-words_sound.true); asks = kind-mask _ c.if-w-eq1.true }, c.if-d-w.true)

pub returns-then-w-eq1 : goal.returns-then-w-eq1
unfolding masking
returns-then-w-eq1 c = mask_leads _ _ _ _ _ _ _ (mask-asks _ _ _ _ _ (sym c.words_sound.ensures ∙ c.if-words_sound.true) c.if-d-w.true (kind-mask _ c.if-w-eq1.true)) c.mask_by.ensures

pub returns-then-d-w : goal.returns-then-d-w
returns-then-d-w c = mask-refused _ _ _ _ says.Reply c.requires c.no_reply.ensures (mask-asks _ _ _ _ _ (sym c.words_sound.ensures ∙ c.if-words_sound.true) c.if-d-w.true refl ∙ mask_not_asked _ _ _ _ _ c.if-w-eq1.false)

pub returns-then-words_sound : goal.returns-then-words_sound
returns-then-words_sound c = mask-refused _ _ _ _ says.Reply c.requires c.no_reply-then-words_sound.ensures (mask-other _ _ _ _ (sym c.words_sound.ensures ∙ c.if-words_sound.true) c.if-d-w.false)

pub returns : goal.returns
returns c = mask-refused _ _ _ _ says.Setting c.requires c.no_reply-2.ensures (mask-out _ _ _ _ (sym c.words_sound.ensures ∙ c.if-words_sound.false))
