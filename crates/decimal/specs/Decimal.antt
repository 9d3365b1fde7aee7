-- Numbers as text in decimal: their digits, and how many there are. Assumes nothing.
use Rattle.std.specs.Prelude.{List, [], ◌∷◌, ◌++◌, ℕ, zero, suc, ◌+◌, ◌-◌, ◌*◌, ◌/◌, ◌%◌, ◌^◌, ltb, length}
use Rattle.base.specs.Choose.{choose}

-- the ASCII code of the last digit of n
abbrev pub digit : ℕ → ℕ
digit n = 48 + n % 10

-- the last k digits of n, the highest first
unfoldable pub digits : ℕ → ℕ → List ℕ
digits zero n = []
digits (suc k) n = digits k (n / 10) ++ (digit n ∷ [])

-- the most digits that a number of 64 bits has
abbrev pub most_digits : ℕ
most_digits = 20

-- how many digits n has, without leading zeros: at least one, at most k more
unfoldable pub places_up_to : ℕ → ℕ → ℕ
places_up_to zero n = 1
places_up_to (suc k) n = choose (ltb n 10) 1 (1 + places_up_to k (n / 10))

unfoldable pub places_of : ℕ → ℕ
places_of n = places_up_to 19 n

-- n in decimal, without leading zeros
unfoldable pub decimal : ℕ → List ℕ
decimal n = digits (places_of n) n

-- the number that ASCII digits stand for, the highest first
unfoldable pub value : List ℕ → ℕ
value [] = 0
value (c ∷ t) = (c - 48) * 10 ^ length t + value t
