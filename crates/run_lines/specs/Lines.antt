-- Text that the programs read and write: a line is a letter, a space and bytes in lowercase hexadecimal. Assumes nothing.
use Rattle.std.specs.Prelude.{List, [], ◌∷◌, ◌++◌, ◌≡◌, ℕ, ◌+◌, ◌*◌, ◌/◌, ◌%◌, min, max, ltb, eqb, length, take}
use Rattle.std.proofs.lemmas.List.Edits.{sets}
use Rattle.base.specs.Choose.{choose}

-- where n bytes written from a place on end; what does not fit is left out
abbrev pub reach : ℕ → ℕ → ℕ → ℕ
reach at n len = max at (min (at + n) len)

-- what a hex digit stands for
unfoldable pub digit_of : ℕ → ℕ
digit_of b = choose (ltb b 97) (b % 16) ((b % 16 + 9) % 16)

-- the bytes that digits make, two each
abbrev pub bytes_of : List ℕ → List ℕ
bytes_of [] = []
bytes_of (h ∷ []) = []
bytes_of (h ∷ (l ∷ r)) = (digit_of h * 16 + digit_of l) ∷ bytes_of r

-- the digit of a number below 16
unfoldable pub hex_digit : ℕ → ℕ
hex_digit v = choose (ltb v 10) (48 + v) (87 + v)

abbrev pub hex_of : List ℕ → List ℕ
hex_of [] = []
hex_of (b ∷ d) = hex_digit (b / 16 % 16) ∷ (hex_digit (b % 16) ∷ hex_of d)

-- a line with its end
abbrev pub line_of : ℕ → List ℕ → List ℕ
line_of letter d = letter ∷ (32 ∷ (hex_of d ++ (10 ∷ [])))

-- how many bytes stand before the first newline
unfoldable pub line_len : List ℕ → ℕ
line_len [] = 0
line_len (b ∷ t) = choose (eqb b 10) 0 (1 + line_len t)

-- the first line, without its newline
abbrev pub line_in : List ℕ → List ℕ
line_in t = take (line_len t) t

-- ---- laws

-- d is written from a place of out₀ on but for its rest: the buffer so far, and the place come to
pub record Wrote (out₀ : List ℕ) (at : ℕ) (d out : List ℕ) (n : ℕ) (rest : List ℕ) : Type 0 where
  pub same : length out ≡ length out₀
  pub bytes : sets out n rest ≡ sets out₀ at d
  pub end : reach n (length rest) (length out₀) ≡ reach at (length d) (length out₀)
