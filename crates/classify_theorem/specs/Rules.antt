-- What the account owes, as conditions: what lies beyond the close, what marks, what closes, what ends a datagram; and a record that was due is handed on
-- by its type and content, but for the two exceptions of 02, 3. Assumes nothing.
use Rattle.std.specs.Prelude.{◌≡◌, ℕ}
use mathlib.Core.List.{Memᴰ as Mem}
use Rattle.std.proofs.Math.Option.{Option, some}
use Rattle.base.specs.Choose.{choose}
use Rattle.history_theorem.specs.Claim.{SaysOpened, as_handed}
use Rattle.history_theorem.specs.Receiver.{Sealed}
use Rattle.classify_theorem.specs.Account.{Pending, Place, Verdict, beyond, is_past, sealed_owed}
use Rattle.classify_theorem.specs.Claim.{Dealt, Dealings}

-- ---- a record that was due

-- what the far end sealed with that type and content is owed, by the first close alone: "handed on by its type and content"
abbrev pub due_owed : Option Place → ℕ → Sealed → Verdict
due_owed close e r = choose (is_past close (record { epoch = e; number = r.num })) beyond (sealed_owed close r.type r.content)

-- its own reading, told as what it is, with the very bytes that were sealed
pub record Delivered (x : Dealt) (e : ℕ) (r : Sealed) : Type 0 where
  pub reading : SaysOpened x.pending.reading x.pending.shown e (as_handed r)
  pub verdict : x.reply.verdict ≡ due_owed x.close e r
  pub content : x.reply.content ≡ r.content

-- dealt with; or left behind by its own host, which read on or began anew first; or it waits
pub data Handled (p : Dealings) (e : ℕ) (r : Sealed) : Type 0 where
  delivered : (x : Dealt) → Mem x p.dealt → Delivered x e r → Handled p e r
  left-behind : (x : Pending) → Mem x p.missed → SaysOpened x.reading x.shown e (as_handed r) → Handled p e r
  waits : (x : Pending) → p.account.pending ≡ some x → SaysOpened x.reading x.shown e (as_handed r) → Handled p e r
