-- The sealing question names the account's oldest record that waits, and each record sealed has the header that 01 gives it. Assumes nothing.
use Rattle.std.specs.Prelude.{ℕ, take, List, ◌≡◌}
use Rattle.std.proofs.Math.Option.{Option, none, some}
use Rattle.std.proofs.Common.{sym, subst, ◌∙◌, arith}
use Rattle.base.specs.Choose.{test_cases}
use Rattle.record.specs.Record.{unified_header}
use Rattle.outgoing.specs.declared.Sending.{Sending}
use Rattle.sealing.specs.Sealing.{masked_header}
use Rattle.waiting_laws.proofs.Oldest.{none-waiting, first-of, names-first}
use Rattle.waiting_laws.specs.Queued.{Queued, flat, waiting_of, waits_in, Holds}
use Rattle.waiting_laws.proofs.Seals.{any_same}
use Rattle.history_theorem.specs.Claim.{Masks}
use Rattle.history_theorem.specs.Half.{Shape}
use Rattle.history_theorem.specs.Receiver.{Sealed}
use Rattle.ends_theorem.proofs.Asked.{lent_for, LentIs}
use Rattle.ends_theorem.specs.Claim.{Wired}
use Rattle.ends_theorem.specs.Ledger.{oldest}
use Rattle.ends_theorem.proofs.Matches.{items_in}
use Rattle.ends_theorem.specs.Sender.{Lent, AskedFor}
use Rattle.ends_theorem.proofs.Settling.{oldest-none, oldest-some}

-- the queue's memory may be read in two ways, ds and us: the state names one oldest record
module _ (s : Sending) (q : List ℕ) (ds us : List (List Queued)) (h : Holds s q ds) (g : Holds s q us) (o : Option Lent) (i : LentIs s o (waiting_of (flat ds))) where
  same-any : waits_in (flat us) ≡ waits_in (flat ds)
  same-any = sym (any_same s q us g) ∙ any_same s q ds h

  pub asked-oldest : AskedFor o (oldest (items_in (flat us)))
  asked-oldest =
      test_cases (waits_in (flat us))
      (λ y.
      let f = first-of (flat us) y in
      let k = first-of (flat ds) (sym same-any ∙ y) in
      let m = names-first s q us g f.epoch f.kind f.number f.content f.part f.others f.is in
      let n = names-first s q ds h k.epoch k.kind k.number k.content k.part k.others k.is in
      subst (λ (a : Option Lent). AskedFor a (oldest (items_in (flat us)))) (sym (subst (LentIs s o) k.is i))
      (subst (AskedFor (some (lent_for s k.epoch k.kind k.number k.content))) (sym (oldest-some (flat us) _ _ f.is))
      (sym n.epoch ∙ m.epoch, sym n.number ∙ m.number, omega (arith, n.size, m.size))))
      (λ y.
      subst (λ (a : Option Lent). AskedFor a (oldest (items_in (flat us)))) (sym (subst (LentIs s o) (none-waiting (flat ds) (sym same-any ∙ y)) i))
      (subst (AskedFor none) (sym (oldest-none (flat us) y)) tt))

pub wired : (masks : Masks) (e : ℕ) (r : Sealed) → Shape masks e r → Wired e r
unfolding unified_header masked_header
wired masks e r s = record { size = s.size; header = s.header; masked = (masks e (take 16 r.cipher), s.wire) }
