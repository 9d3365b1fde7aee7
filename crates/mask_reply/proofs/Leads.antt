-- Where a mask reply leads, by its first tests and by its number. Assumes nothing.
use Prim.Native.Nat.{ℕ, ◌+◌, ◌<◌, ◌≤◌}
use Rattle.std.proofs.Common.{le-ltb, eq-eqb, ne_eqb, ◌∙◌}
use Rattle.std.specs.Int.Bits.{bit_xor}
use Rattle.std.specs.Prelude.{length, get_or, true, false, ◌≡◌}
use Rattle.std.proofs.Math.ListN.{set}
use mathlib.Core.List.{List, [], ◌∷◌}
use Rattle.std.proofs.Math.Path.{refl, ap}
use native.Mathlib.Omega.{arith}
use Rattle.base.specs.Choose.{if_true, if_false, by_less}
use Rattle.base.specs.Parts.{splice, stored, splice-next, length-splice}
use Rattle.datagram.specs.Datagram.{is_sound, told, passed, end_asked}
use Rattle.datagram.specs.declared.Ask.{Ask}
use Rattle.datagram.specs.declared.Datagram.{Datagram}
use Rattle.datagram.specs.declared.Question.{Question}
use Rattle.datagram.specs.declared.Reading.TheVariants as says
use Rattle.datagram.specs.declared.Reason.TheVariants as reason
use Rattle.datagram.specs.declared.Reason.{Reason}
use Rattle.datagram.specs.declared.Step.{Step}
use Rattle.records.specs.Records.{opening_asked}
use Rattle.recv_keys.specs.declared.RecvEpochEntry.{RecvEpochEntry}
use Rattle.recv_keys.specs.declared.RecvKeys.{RecvKeys}
use Rattle.window.specs.Window.{verdict}
use Rattle.window.specs.declared.Verdict.TheVariants as number
use Rattle.window.specs.declared.Verdict.{Verdict}
use Rattle.mask_reply.specs.Mask.{unmasked, ruled, judged, masking, mask_step}

-- the two parts of a reply over lent bytes
pub on_step : {p q : Step × List ℕ} → p ≡ q → p.0 ≡ q.0
on_step e = ap (λ (x : Step × List ℕ). x.0) e

pub on-bytes : {p q : Step × List ℕ} → p ≡ q → p.1 ≡ q.1
on-bytes e = ap (λ (x : Step × List ℕ). x.1) e

module _ (k : RecvKeys) (b : Datagram) (m d : List ℕ) where
  pub mask-asks : (q : Question) → is_sound k b ≡ true → length d ≡ b.size → b.question ≡ q → mask_step k b m d ≡ masking q k b m d
  unfolding mask_step
  mask-asks q t l e = if_true _ _ t ∙ if_true _ _ (eq-eqb _ _ l) ∙ ap (λ (x : Question). masking x k b m d) e

  pub mask-other : is_sound k b ≡ true → (length d ≡ b.size → ⊥) → mask_step k b m d ≡ (told b says.Reply, d)
  unfolding mask_step
  mask-other t l = if_true _ _ t ∙ if_false _ _ (ne_eqb _ _ l)

  pub mask-out : is_sound k b ≡ false → mask_step k b m d ≡ (told b says.Setting, d)
  unfolding mask_step
  mask-out t = if_false _ _ t

-- ---- the number judged

module _ (e : RecvEpochEntry) (b : Datagram) (a : Ask) (n : ℕ) where
  -- it is dropped, whatever the reason, or is fresh and its opening is asked
  pub by-judged : (P : Step → Type 0) → ((r : Reason) → P (passed b (end_asked b a) r))
      → (n ≤ 0xFFFF_FFFF_FFFF → verdict e.replay n ≡ number.Fresh → P (opening_asked e b a n)) → P (judged e b a n)
  unfolding judged
  by-judged P falls asks = by_less P _ _ (λ h. falls reason.TooHigh) (λ h. by (verdict e.replay n) refl h)
    where
      by : (v : Verdict) → verdict e.replay n ≡ v → n ≤ 0xFFFF_FFFF_FFFF → P (ruled v e b a n)
      by number.Fresh q h = asks h q
      by number.Seen q h = falls reason.Seen
      by number.TooOld q h = falls reason.TooOld

  -- a number in range is ruled on by the window's verdict
  pub judged-by : (v : Verdict) → n ≤ 0xFFFF_FFFF_FFFF → verdict e.replay n ≡ v → judged e b a n ≡ ruled v e b a n
  unfolding judged
  judged-by v h q = if_false _ _ (le-ltb 0xFFFF_FFFF_FFFF n h) ∙ ap (λ (x : Verdict). ruled x e b a n) q

-- ---- number bytes stored one by one

module _ (d : List ℕ) (at : ℕ) (m : List ℕ) (h : at + 2 < length d) where
  pub one-stored : set d (at + 1) (bit_xor (get_or d (at + 1) 0) (get_or m 0 0)) ≡ unmasked d at false m
  unfolding unmasked
  one-stored = stored (at + 1) (bit_xor (get_or d (at + 1) 0) (get_or m 0 0)) d (omega arith)

  pub two-stored : set (set d (at + 1) (bit_xor (get_or d (at + 1) 0) (get_or m 0 0))) (at + 2) (bit_xor (get_or d (at + 2) 0) (get_or m 1 0)) ≡ unmasked d at true m
  unfolding unmasked
  two-stored =
      let x : ℕ = bit_xor (get_or d (at + 1) 0) (get_or m 0 0) in
      let y : ℕ = bit_xor (get_or d (at + 2) 0) (get_or m 1 0) in
      let e : at + 2 ≡ at + 1 + 1 = omega arith in
      ap (λ (l : List ℕ). set l (at + 2) y) (stored (at + 1) x d (omega arith))
      ∙ stored (at + 2) y (splice (at + 1) (x ∷ []) d) (omega (arith, length-splice (at + 1) (x ∷ []) d (omega arith)))
      ∙ splice-next (at + 1) (at + 2) (x ∷ []) (y ∷ []) d (omega arith) (omega arith)
      ∙ ap (λ (j : ℕ). splice (at + 1) (x ∷ bit_xor (get_or d j 0) (get_or m 1 0) ∷ []) d) e
