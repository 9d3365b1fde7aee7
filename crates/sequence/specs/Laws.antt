-- What number rebuilding answers. Assumes nothing.
use Rattle.std.specs.Prelude.{◌≡◌, ℕ, ◌+◌, ◌-◌, ◌/◌, ◌%◌, ◌^◌, ◌<◌, ◌≤◌}
use Rattle.sequence.specs.Sequence.{own, nearest}

-- ---- 02, 1: "the nearest number that is 0 or more and ends in the received bits"

-- how far apart two numbers are
abbrev pub distance : ℕ → ℕ → ℕ
distance x e = (x - e) + (e - x)

-- x, of the numbers of 0 or more that 64 bits hold, ends in the bits of p, and none of those that do is nearer e
pub record Nearest (b p e x : ℕ) : Type 0 where
  pub held : x < 2 ^ 64
  pub ends : x % b ≡ p % b
  pub least : (n : ℕ) → n < 2 ^ 64 → n % b ≡ p % b → distance x e ≤ distance n e
  -- 01: of two as near the one in e's own block
  pub tie : (n : ℕ) → n % b ≡ p % b → n / b ≡ e / b → distance n e ≡ distance x e → x ≡ n
