-- `recv_calls::opened_step` meets its contract: 12, 15, then the reply to the question that waits. Assumes nothing.
use mathlib.Core.Path.{refl, sym, subst, ◌∙◌}
use Rattle.datagram.specs.declared.Reading.TheVariants as says
use Rattle.opening_reply.proofs.Leads.{opened-asks, opened-other, opened_out}
use Rattle.opening_reply.specs.Opening.{openings}
use Rattle.recv_calls.specs.Replies.{Marked-as, kind-opening, opening_not_asked, opened-refused}
use Rattle.recv_calls.proofs.opened_step.Goals as goal

pub open_by-requires : goal.open_by-requires
open_by-requires c = record { flat = c.requires; sound = (sym c.words_sound.ensures ∙ c.if-words_sound.true); asks = kind-opening _ c.if-w-eq2.true }

pub returns-then-w-eq2 : goal.returns-then-w-eq2
unfolding openings
returns-then-w-eq2 c = subst (Marked-as _ _) (sym (opened-asks _ _ _ _ _ (sym c.words_sound.ensures ∙ c.if-words_sound.true) c.if-d-w.true (kind-opening _ c.if-w-eq2.true))) c.open_by.ensures

pub returns-then-d-w : goal.returns-then-d-w
returns-then-d-w c = opened-refused _ _ _ says.Reply c.requires c.told.ensures (opened-asks _ _ _ _ _ (sym c.words_sound.ensures ∙ c.if-words_sound.true) c.if-d-w.true refl ∙ opening_not_asked _ _ _ _ _ c.if-w-eq2.false)

pub returns-then-words_sound : goal.returns-then-words_sound
returns-then-words_sound c = opened-refused _ _ _ says.Reply c.requires c.told-then-words_sound.ensures (opened-other _ _ _ _ (sym c.words_sound.ensures ∙ c.if-words_sound.true) c.if-d-w.false)

pub returns : goal.returns
returns c = opened-refused _ _ _ says.Setting c.requires c.told-2.ensures (opened_out _ _ _ _ (sym c.words_sound.ensures ∙ c.if-words_sound.false))
