-- Where a removal leads. Assumes nothing.
use Rattle.std.specs.Prelude.{ℕ, true, false, ◌≡◌, Some, None, Ok, Err}
use Rattle.std.proofs.Math.Path.{ap}
use Rattle.std.proofs.Common.{◌∙◌}
use Rattle.base.specs.Choose.{if_true, if_false}
use Rattle.opening_reply.specs.Opening.{cancelled}
use Rattle.opening_reply.specs.declared.Cancelled.{Cancelled}
use Rattle.recv_keys.specs.Keys.{find, left, Found}
use Rattle.recv_keys.specs.declared.RecvKeys.{RecvKeys}
use Rattle.receiving.specs.Receiving.{sound, kept, made, leaving, removed_by, remove_of}
use Rattle.receiving.specs.declared.Done.TheVariants as done
use Rattle.receiving.specs.declared.Refusal.TheVariants as refusal
use Rattle.receiving.specs.declared.Receiving.{Receiving}

module _ (s : Receiving) (epoch : ℕ) where
  pub remove_none : sound s ≡ true → find s.keys.entries epoch s.keys.count ≡ None → remove_of s epoch ≡ kept s (Err refusal.Unusable)
  unfolding remove_of removed_by
  remove_none t f = if_true _ _ t ∙ ap (λ (x : Found). removed_by x s epoch) f

  pub remove_at : (i : ℕ) → sound s ≡ true → find s.keys.entries epoch s.keys.count ≡ Some i
      → remove_of s epoch ≡ leaving (cancelled s.datagram.question s.datagram epoch) (left s.keys i)
  unfolding remove_of removed_by
  remove_at i t f = if_true _ _ t ∙ ap (λ (x : Found). removed_by x s epoch) f

  pub remove_out : sound s ≡ false → remove_of s epoch ≡ kept s (Err refusal.Setting)
  unfolding remove_of
  remove_out t = if_false _ _ t

pub leave_dropped : (c : Cancelled) (k : RecvKeys) → c.dropped ≡ true → leaving c k ≡ made (Ok done.Dropped) k c.datagram
unfolding leaving
leave_dropped c k e = if_true _ _ e

pub leave_done : (c : Cancelled) (k : RecvKeys) → c.dropped ≡ false → leaving c k ≡ made (Ok done.Asked) k c.datagram
unfolding leaving
leave_done c k e = if_false _ _ e

pub leave_same : {c d : Cancelled} {k l : RecvKeys} → c ≡ d → k ≡ l → leaving c k ≡ leaving d l
leave_same {d} {k} p q = ap (λ (x : Cancelled). leaving x k) p ∙ ap (leaving d) q
