-- The full number behind the bits that a record header carries (RFC 9147, section 4.2.2; 01, "reconstruct_sequence"; 02, 1).
use Rattle.std.specs.Prelude.{Bool, true, false, ℕ, ◌+◌, ◌-◌, ◌/◌, ◌%◌, ◌^◌, ltb}
use Rattle.base.specs.Choose.{choose}

-- how many numbers share their bits with none: 16 bits with the S flag set, 8 without
abbrev pub block_of : Bool → ℕ
block_of true = 65536
block_of false = 256

-- the number of e's own block that ends in the bits of p
unfoldable pub own : ℕ → ℕ → ℕ → ℕ
own b p e = e - e % b + p % b

-- the one a block below; where that is negative, the own one is the nearest that is 0 or more (02, 1)
unfoldable pub below : ℕ → ℕ → ℕ → ℕ
below b p e = choose (ltb (own b p e) b) (own b p e) (own b p e - b)

-- the one a block above; where 64 bits do not hold it, the own one is the nearest that they hold
unfoldable pub above : ℕ → ℕ → ℕ → ℕ
above b p e = choose (ltb (own b p e + b) (2 ^ 64)) (own b p e + b) (own b p e)

-- the number of 0 or more nearest e that ends in the bits of p; at a distance of exactly half a block the one in e's own block
unfoldable pub nearest : ℕ → ℕ → ℕ → ℕ
nearest b p e = choose (ltb (e + b / 2) (own b p e)) (below b p e) (choose (ltb (own b p e + b / 2) e) (above b p e) (own b p e))
