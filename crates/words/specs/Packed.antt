-- Bytes packed into words, the first byte highest: what is packed reads back, for every number of bytes. Assumes nothing.
use Rattle.std.specs.Prelude.{List, ◌++◌, ◌≡◌, ℕ, length, set}
use Rattle.base.specs.Bytes.{be, be_at, Bytes}

-- ---- an IV: its first four bytes in one word, the eight that a number is XORed onto in another

unfoldable pub iv_of : ℕ → ℕ → List ℕ
iv_of front back = be 4 front ++ be 8 back

abbrev pub LowIv : List ℕ → Type 0
LowIv v = (length v ≡ 12) × Bytes v

-- an IV put into two words
abbrev pub put_iv : ℕ → ℕ → List ℕ → List ℕ → List ℕ
put_iv front back v w = set (set w front (be_at 4 v 0)) back (be_at 8 v 4)
