-- Laws of the sealing: what the host writes stays in its part, refused means unchanged. Assumes nothing.
use Rattle.std.specs.Prelude.{true, false, List, ◌≡◌, ℕ, ◌+◌, ◌-◌, ◌≤◌, length}
use Rattle.std.proofs.Math.Path.{ap}
use Rattle.std.proofs.Common.{◌∙◌, arith}
use borrow.Author.Tests.{eqb-true}
use Rattle.base.specs.Choose.{both_left, both_right, if_true, if_false}
use Rattle.base.specs.Parts.{part, splice, splice-here, splice-before, splice-after}
use Rattle.outgoing.specs.declared.Sending.{Sending}
use Rattle.record.specs.Record.{sealed_head}
use Rattle.sealing.specs.Sealing.{SealAnswer, is_asked, is_put, part_start, put_memory, masked_header, is_sealed, seal_answer, sealed_state, sealed_memory, asked-held, sealed-held, part-fits, length-masked}

-- sealed bytes are found where they were written; the queue's bytes in front of them and behind them stay as they were
module _ (s : Sending) (v q : List ℕ) (h : is_put s (length v) (length q) ≡ true) where
  fits : part_start s + length v ≤ length q
  unfolding is_put
  fits =
      let a = asked-held (both_left (is_asked s (length q)) _ h) in
      omega (arith, part-fits a.0 a.1, eqb-true (length v) s.waiting.length (both_right (is_asked s (length q)) _ h))

  put : put_memory s v q ≡ splice (part_start s) v q
  unfolding put_memory
  put = if_true _ _ h

  pub put-here : part (part_start s) (length v) (put_memory s v q) ≡ v
  put-here = ap (part (part_start s) (length v)) put ∙ splice-here (part_start s) v q fits

  pub put-before : (a n : ℕ) → a + n ≤ part_start s → part a n (put_memory s v q) ≡ part a n q
  put-before a n l = ap (part a n) put ∙ splice-before (part_start s) v q fits a n l

  pub put-after : (a n : ℕ) → part_start s + length v ≤ a → part a n (put_memory s v q) ≡ part a n q
  put-after a n l = ap (part a n) put ∙ splice-after (part_start s) v q fits a n l

-- a reply writes the five header bytes in front of the part, and nothing else
module _ (s : Sending) (n : ℕ) (mask q : List ℕ) (h : is_sealed (seal_answer s (length q) n) ≡ true) where
  abbrev header : List ℕ
  header = masked_header s.waiting.epoch s.waiting.number s.waiting.length mask

  header-fits : part_start s - sealed_head + length header ≤ length q
  unfolding part_start
  header-fits =
      let a = sealed-held s (length q) n h in
      omega (arith, part-fits a.0 a.1, length-masked s.waiting.epoch s.waiting.number s.waiting.length mask)

  masked : sealed_memory (seal_answer s (length q) n) s mask q ≡ splice (part_start s - sealed_head) header q
  unfolding sealed_memory
  masked = if_true _ _ h

  pub sealed-before : (a m : ℕ) → a + m ≤ part_start s - sealed_head → part a m (sealed_memory (seal_answer s (length q) n) s mask q) ≡ part a m q
  sealed-before a m l = ap (part a m) masked ∙ splice-before (part_start s - sealed_head) header q header-fits a m l

  pub sealed-after : (a m : ℕ) → part_start s ≤ a → part a m (sealed_memory (seal_answer s (length q) n) s mask q) ≡ part a m q
  unfolding part_start
  sealed-after a m l =
      ap (part a m) masked
      ∙ splice-after (part_start s - sealed_head) header q header-fits a m (omega (arith, length-masked s.waiting.epoch s.waiting.number s.waiting.length mask))

-- refused means unchanged
module _ (a : SealAnswer) (h : is_sealed a ≡ false) (s : Sending) (q : List ℕ) where
  pub refused-state : (sealed_state a s q).state ≡ s
  unfolding sealed_state
  refused-state = if_false _ _ h

  pub refused-memory : (mask : List ℕ) → sealed_memory a s mask q ≡ q
  unfolding sealed_memory
  refused-memory mask = if_false _ _ h
