-- A piece taken: the order of the tests, the answer, and the words and the buffer behind it (02, 2 and 7). Assumes nothing.
use Rattle.std.specs.Prelude.{true, List, ◌≡◌, ℕ, ◌+◌, ◌-◌, ◌≤◌, ◌<◌, leb, ltb, length}
use borrow.Author.Tests.{ltb-true, leb-true}
use Rattle.base.specs.Choose.{both_left, both_right}
use Rattle.handshake.specs.declared.Header.{Header}
use Rattle.assembly.specs.Spans.{most_bytes, last-number, expected_of}
use Rattle.assembly.specs.Assembly.{is_fit}

-- ---- what a piece that 24 spares meets

module _ (w : List ℕ) (h : Header) (fit : is_fit w h ≡ true) where
  pub fit-number : expected_of w < last-number
  unfolding is_fit
  fit-number = ltb-true _ _ (both_left _ _ fit)

  pub fit-total : h.length ≤ most_bytes
  unfolding is_fit
  fit-total = leb-true _ _ (both_left _ _ (both_right (ltb (expected_of w) last-number) _ fit))

  pub fit-end : h.fragment_offset + h.fragment_length ≤ h.length
  unfolding is_fit
  fit-end = leb-true _ _ (both_left _ _ (both_right (leb h.length most_bytes) _ (both_right (ltb (expected_of w) last-number) _ fit)))
