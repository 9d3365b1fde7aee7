-- The mask that was put on brings an undamaged record to the verdict on the number it was sealed with, if that number is within reach.
-- Assumes nothing.
use Prim.Native.Nat.{ℕ, zero, suc, ◌+◌, ◌*◌, ◌/◌, ◌%◌, ◌<◌, ◌≤◌, max}
use Rattle.std.proofs.Common.{div-one, get_or-drop, inl, inr, ⊎_elim, ◌∙◌}
use Rattle.std.specs.Int.Bits.{bit_xor}
use Rattle.std.proofs.Math.ListN.{length, get_or}
use Rattle.std.specs.Prelude.{drop, Bool, false, ◌⊎◌, ◌≡◌, Some}
use Rattle.std.proofs.Math.Seq.{ext_get_or}
use Rattle.std.proofs.Math.Bool.{true}
use mathlib.Core.List.{List, ◌∷◌, ◌++◌}
use Rattle.std.proofs.Math.Path.{refl, sym, ap}
use native.Mathlib.Omega.{arith}
use Rattle.base.specs.Bytes.{be, be_at, xor_twice, xors}
use Rattle.base.specs.Choose.{if_true, if_false}
use Rattle.base.specs.Parts.{part, part_at, length_part, splice-here, splice-before, splice-after, length-splice}
use Rattle.datagram.specs.Datagram.{is_sound}
use Rattle.datagram.specs.declared.Ask.{Ask}
use Rattle.datagram.specs.declared.Datagram.{Datagram}
use Rattle.datagram.specs.declared.Question.TheVariants as question
use Rattle.datagram.specs.declared.Step.{Step}
use Rattle.record.specs.Record.{sealed_head, partial_of, unified_header}
use Rattle.recv_keys.specs.Keys.{entry_at, find, Found}
use Rattle.window.specs.Used.{expected}
use Rattle.recv_keys.specs.declared.RecvEpochEntry.{RecvEpochEntry}
use Rattle.recv_keys.specs.declared.RecvKeys.{RecvKeys}
use Rattle.sequence.proofs.Laws.{near}
use Rattle.sequence.specs.Sequence.{block_of}
use Rattle.window.specs.Window.{verdict}
use Rattle.window.specs.declared.ReplayWindow.{ReplayWindow}
use Rattle.window.specs.declared.Verdict.{Verdict}
use Rattle.mask_reply.proofs.Leads.{mask-asks, judged-by}
use Rattle.mask_reply.specs.Mask.{mask_bytes, unmasked, rebuilt, ruled, judged, masked_at, masked_by, masking, mask_step}

-- ---- the number bytes, unmasked

module _ (d m : List ℕ) (at : ℕ) (room : at + 2 < length d) where
  byte_at : (i : ℕ) → i < 2 → get_or (unmasked d at true m) (at + 1 + i) 0 ≡ get_or (xors d (at + 1) (mask_bytes true m)) i 0
  unfolding unmasked
  byte_at i h =
      sym (part_at (at + 1) 2 (unmasked d at true m) i h)
      ∙ ap (λ (l : List ℕ). get_or l i 0) (splice-here (at + 1) (xors d (at + 1) (mask_bytes true m)) d (omega arith))

  first_under : get_or (drop at (unmasked d at true m)) 1 0 ≡ bit_xor (get_or d (at + 1) 0) (get_or m 0 0)
  first_under =
      let e : at + 1 ≡ at + 1 + 0 = omega arith in
      get_or-drop at (unmasked d at true m) 1 0 ∙ ap (λ (i : ℕ). get_or (unmasked d at true m) i 0) e ∙ byte_at 0 (omega arith)

  second-under : get_or (drop at (unmasked d at true m)) 2 0 ≡ bit_xor (get_or d (at + 2) 0) (get_or m 1 0)
  second-under =
      let e : at + 2 ≡ at + 1 + 1 = omega arith in
      get_or-drop at (unmasked d at true m) 2 0 ∙ ap (λ (i : ℕ). get_or (unmasked d at true m) i 0) e ∙ byte_at 1 (omega arith)
      ∙ ap (λ (i : ℕ). bit_xor (get_or d i 0) (get_or m 1 0)) (sym e)

  -- of any record: the bits that the mask brings out of two number bytes, and of one
  pub two-under : partial_of (drop at (unmasked d at true m)) true ≡ bit_xor (get_or d (at + 1) 0) (get_or m 0 0) * 256 + bit_xor (get_or d (at + 2) 0) (get_or m 1 0)
  unfolding partial_of
  two-under = if_true _ _ refl ∙ pair
    where
      pair : be_at 2 (drop at (unmasked d at true m)) 1 ≡ bit_xor (get_or d (at + 1) 0) (get_or m 0 0) * 256 + bit_xor (get_or d (at + 2) 0) (get_or m 1 0)
      pair = omega (arith, first_under, second-under)

pub one-under : (d m : List ℕ) (at : ℕ) → at + 1 < length d → partial_of (drop at (unmasked d at false m)) false ≡ bit_xor (get_or d (at + 1) 0) (get_or m 0 0)
unfolding partial_of unmasked
one-under d m at room =
    let v : List ℕ = xors d (at + 1) (mask_bytes false m) in
    let e : at + 1 ≡ at + 1 + 0 = omega arith in
    if_false _ _ refl ∙ get_or-drop at (unmasked d at false m) 1 0 ∙ ap (λ (i : ℕ). get_or (unmasked d at false m) i 0) e
    ∙ sym (part_at (at + 1) 1 (unmasked d at false m) 0 (omega arith)) ∙ ap (λ (l : List ℕ). get_or l 0 0) (splice-here (at + 1) v d (omega arith))

-- of one that was sealed under n: the number's own
module _ (d m : List ℕ) (at n : ℕ) (room : at + 2 < length d)
    (high : get_or d (at + 1) 0 ≡ bit_xor (n / 256 % 256) (get_or m 0 0)) (low : get_or d (at + 2) 0 ≡ bit_xor (n % 256) (get_or m 1 0)) where
  first_byte : get_or (drop at (unmasked d at true m)) 1 0 ≡ n / 256 % 256
  first_byte = first_under d m at room ∙ ap (λ (x : ℕ). bit_xor x (get_or m 0 0)) high ∙ xor_twice (n / 256 % 256) (get_or m 0 0)

  second-byte : get_or (drop at (unmasked d at true m)) 2 0 ≡ n % 256
  second-byte = second-under d m at room ∙ ap (λ (x : ℕ). bit_xor x (get_or m 1 0)) low ∙ xor_twice (n % 256) (get_or m 1 0)

  -- they are the low 16 bits of the number
  pub number-bytes : partial_of (drop at (unmasked d at true m)) true ≡ n % 65536
  unfolding partial_of
  number-bytes = if_true _ _ refl ∙ pair
    where
      pair : be_at 2 (drop at (unmasked d at true m)) 1 ≡ n % 65536
      pair = omega (arith, first_byte, second-byte)

-- a number of one byte: the low 8 bits
pub number-byte : (d m : List ℕ) (at n : ℕ) → at + 1 < length d → get_or d (at + 1) 0 ≡ bit_xor (n % 256) (get_or m 0 0)
    → partial_of (drop at (unmasked d at false m)) false ≡ n % 256
number-byte d m at n room low = one-under d m at room ∙ ap (λ (x : ℕ). bit_xor x (get_or m 0 0)) low ∙ xor_twice (n % 256) (get_or m 0 0)

-- the header, unmasked, is the one that was sealed: the number in it is not masked
module _ (d m : List ℕ) (at e n len : ℕ) (room : at + sealed_head ≤ length d)
    (laid : part at sealed_head d ≡ (0x2C + e % 4) ∷ bit_xor (n / 256 % 256) (get_or m 0 0) ∷ bit_xor (n % 256) (get_or m 1 0) ∷ be 2 len) where
  laid-at : (i : ℕ) → i < sealed_head
      → get_or d (at + i) 0 ≡ get_or ((0x2C + e % 4) ∷ bit_xor (n / 256 % 256) (get_or m 0 0) ∷ bit_xor (n % 256) (get_or m 1 0) ∷ be 2 len) i 0
  laid-at i h = sym (part_at at sealed_head d i h) ∙ ap (λ (l : List ℕ). get_or l i 0) laid

  -- a byte outside the number stays
  kept_at : (i : ℕ) → (i < 1) ⊎ (3 ≤ i) → get_or (unmasked d at true m) (at + i) 0 ≡ get_or d (at + i) 0
  unfolding unmasked
  kept_at i c =
      let v : List ℕ = xors d (at + 1) (mask_bytes true m) in
      let z : at + i + 0 ≡ at + i = omega arith in
      sym (part_at (at + i) 1 (unmasked d at true m) 0 (omega arith) ∙ ap (λ (j : ℕ). get_or (unmasked d at true m) j 0) z)
      ∙ ap (λ (l : List ℕ). get_or l 0 0)
      (⊎_elim (λ l. splice-before (at + 1) v d (omega arith) (at + i) 1 (omega arith)) (λ l. splice-after (at + 1) v d (omega arith) (at + i) 1 (omega arith)) c)
      ∙ part_at (at + i) 1 d 0 (omega arith) ∙ ap (λ (j : ℕ). get_or d j 0) z

  unmasked-long : length (unmasked d at true m) ≡ length d
  unfolding unmasked
  unmasked-long = length-splice (at + 1) (xors d (at + 1) (mask_bytes true m)) d (omega arith)

  -- byte by byte
  header-byte : (i : ℕ) → i < sealed_head → get_or (unmasked d at true m) (at + i) 0 ≡ get_or ((0x2C + e % 4) ∷ be 2 n ++ be 2 len) i 0
  header-byte zero h = kept_at 0 (inl (omega arith)) ∙ laid-at 0 (omega arith)
  header-byte (suc zero) h =
      sym (get_or-drop at (unmasked d at true m) 1 0) ∙ first_byte d m at n (omega arith) (laid-at 1 (omega arith)) (laid-at 2 (omega arith))
  header-byte (suc (suc zero)) h =
      sym (get_or-drop at (unmasked d at true m) 2 0) ∙ second-byte d m at n (omega arith) (laid-at 1 (omega arith)) (laid-at 2 (omega arith))
      ∙ ap (λ (x : ℕ). x % 256) (sym (div-one n))
  header-byte (suc (suc (suc zero))) h = kept_at 3 (inr (omega arith)) ∙ laid-at 3 (omega arith)
  header-byte (suc (suc (suc (suc zero)))) h = kept_at 4 (inr (omega arith)) ∙ laid-at 4 (omega arith)
  header-byte (suc (suc (suc (suc (suc i))))) h = absurd (omega arith)

  pub header-unmasked : part at sealed_head (unmasked d at true m) ≡ unified_header e n len
  unfolding unified_header
  header-unmasked =
      let long : length (part at sealed_head (unmasked d at true m)) ≡ 5 = length_part at sealed_head (unmasked d at true m) (omega (arith, unmasked-long)) in
      ext_get_or 0 (part at sealed_head (unmasked d at true m)) ((0x2C + e % 4) ∷ be 2 n ++ be 2 len) long
      (λ i h. part_at at sealed_head (unmasked d at true m) i (omega arith) ∙ header-byte i (omega arith))

-- ---- the mask that was put on

abbrev with_flag : RecvEpochEntry → Datagram → Ask → List ℕ → List ℕ → Bool → Step × List ℕ
with_flag e b a m d s = (judged e b a (rebuilt e.replay (partial_of (drop b.at (unmasked d b.at s m)) s) s), unmasked d b.at s m)

same_bits : (s : Bool) (p n : ℕ) → p ≡ n % block_of s → n % block_of s ≡ p % block_of s
same_bits true p n e = omega arith
same_bits false p n e = omega arith

-- bits of a number within reach stand for it: half a block around the expected one, 32,768 for two bytes and 128 for one, and all of the first
-- block above it
pub rebuilt-near : (w : ReplayWindow) (s : Bool) (p n : ℕ) → p ≡ n % block_of s → n ≤ 0xFFFF_FFFF_FFFF
    → n < max (block_of s) (expected w + block_of s / 2) → expected w < n + block_of s / 2 → rebuilt w p s ≡ n
unfolding rebuilt
rebuilt-near w s p n e small above below = near s p (expected w) n (omega arith) (same_bits s p n e) above below

module _ (k : RecvKeys) (b : Datagram) (a : Ask) (i n : ℕ) (m d : List ℕ) where
  -- number bytes of either width
  rules : (s : Bool) → is_sound k b ≡ true → length d ≡ b.size → b.question ≡ question.Mask a → find k.entries a.epoch k.count ≡ Some i
      → a.s_flag ≡ s → partial_of (drop b.at (unmasked d b.at s m)) s ≡ n % block_of s → n ≤ 0xFFFF_FFFF_FFFF
      → n < max (block_of s) (expected (entry_at k i).replay + block_of s / 2) → expected (entry_at k i).replay < n + block_of s / 2
      → (v : Verdict) → verdict (entry_at k i).replay n ≡ v
      → mask_step k b m d ≡ (ruled v (entry_at k i) b a n, unmasked d b.at s m)
  unfolding masking masked_by masked_at
  rules s t l q f flag bits small above below v is =
      mask-asks k b m d (question.Mask a) t l q ∙ ap (λ (x : Found). masked_by x k b a m d) f ∙ ap (with_flag (entry_at k i) b a m d) flag
      ∙ ap (λ (x : ℕ). with_number x) (rebuilt-near (entry_at k i).replay s _ n bits small above below)
      ∙ ap (λ (x : Step). with_step x) (judged-by (entry_at k i) b a n v small is)
    where
      with_number : ℕ → Step × List ℕ
      with_number x = (judged (entry_at k i) b a x, unmasked d b.at s m)

      with_step : Step → Step × List ℕ
      with_step x = (x, unmasked d b.at s m)

  -- two number bytes
  pub mask-rules : is_sound k b ≡ true → length d ≡ b.size → b.question ≡ question.Mask a → find k.entries a.epoch k.count ≡ Some i
      → a.s_flag ≡ true → b.at + 2 < length d
      → get_or d (b.at + 1) 0 ≡ bit_xor (n / 256 % 256) (get_or m 0 0) → get_or d (b.at + 2) 0 ≡ bit_xor (n % 256) (get_or m 1 0)
      → n ≤ 0xFFFF_FFFF_FFFF → n < max 65536 (expected (entry_at k i).replay + 32768) → expected (entry_at k i).replay < n + 32768
      → (v : Verdict) → verdict (entry_at k i).replay n ≡ v
      → mask_step k b m d ≡ (ruled v (entry_at k i) b a n, unmasked d b.at true m)
  mask-rules t l q f s room high low = rules true t l q f s (number-bytes d m b.at n room high low)

  -- one number byte
  pub mask-rules-short : is_sound k b ≡ true → length d ≡ b.size → b.question ≡ question.Mask a → find k.entries a.epoch k.count ≡ Some i
      → a.s_flag ≡ false → b.at + 1 < length d → get_or d (b.at + 1) 0 ≡ bit_xor (n % 256) (get_or m 0 0)
      → n ≤ 0xFFFF_FFFF_FFFF → n < max 256 (expected (entry_at k i).replay + 128) → expected (entry_at k i).replay < n + 128
      → (v : Verdict) → verdict (entry_at k i).replay n ≡ v
      → mask_step k b m d ≡ (ruled v (entry_at k i) b a n, unmasked d b.at false m)
  mask-rules-short t l q f s room low = rules false t l q f s (number-byte d m b.at n room low)
