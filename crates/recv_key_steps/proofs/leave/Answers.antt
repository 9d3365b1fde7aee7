-- `recv_key_steps::leave` meets its contract. Assumes nothing.
use Rattle.recv_words.specs.Laws.{put-keys, put-datagram, put-flat}
use mathlib.Core.Path.{sym, ◌∙◌}
use Rattle.base.specs.Choose.{if_true, if_false}
use Rattle.receiving.specs.Receiving.{leaving}
use Rattle.recv_key_steps.specs.Kept.{as_made}
use Rattle.recv_key_steps.proofs.leave.Goals as goal

pub returns-then-c : goal.returns-then-c
unfolding leaving
returns-then-c c = let p = c.put_datagram.ensures in let z = c.uninstall.array_long in let u = c.uninstall.ensures in let o = c.requires in as_made _ _ _ _ _ _ (rw (sym c.cancel-c.ensures) (if_true _ _ c.if-c.true)) (put-keys p z ∙ u.0) (put-datagram p z) (put-flat p z (u.1.1 ∙ o.2) ∙ sym o.2)

pub returns : goal.returns
unfolding leaving
returns c = let p = c.put_datagram.ensures in let z = c.uninstall.array_long in let u = c.uninstall.ensures in let o = c.requires in as_made _ _ _ _ _ _ (rw (sym c.cancel-c.ensures) (if_false _ _ c.if-c.false)) (put-keys p z ∙ u.0) (put-datagram p z) (put-flat p z (u.1.1 ∙ o.2) ∙ sym o.2)
