-- What number rebuilding answers. Assumes nothing.
use Rattle.std.specs.Prelude.{Bool, true, false, ◌⊎◌, ◌≡◌, ℕ, ◌+◌, ◌-◌, ◌/◌, ◌%◌, ◌^◌, ◌<◌, max}
use Rattle.std.proofs.Common.{inl, inr, ⊎_elim, sym, ◌∙◌, arith}
use Rattle.base.specs.Choose.{eq-or_ne}
use Rattle.sequence.specs.Sequence.{block_of, own, nearest}
use Rattle.sequence.proofs.Cases.{cases}
use Rattle.sequence.specs.Laws.{Nearest, distance}

-- a number, of those that 64 bits hold, that ends in the bits is the answer if it is nearer than half a block, and above e also if it is in
-- the first block: the one a block below is negative
pub near : (s : Bool) (p e n : ℕ) → n < 2 ^ 64 → n % block_of s ≡ p % block_of s → n < max (block_of s) (e + block_of s / 2) → e < n + block_of s / 2
    → nearest (block_of s) p e ≡ n
unfolding own
near true p e n w m l u =
    cases (λ (x : ℕ). x ≡ n) 65536 p e (λ s z. omega arith) (λ s z. omega arith) (λ s t v. omega arith) (λ s t v. omega arith) (λ s t. omega arith)
near false p e n w m l u =
    cases (λ (x : ℕ). x ≡ n) 256 p e (λ s z. omega arith) (λ s z. omega arith) (λ s t v. omega arith) (λ s t v. omega arith) (λ s t. omega arith)

-- the answer is such a number
pub nearest-least : (s : Bool) (p e : ℕ) → e < 2 ^ 64 → Nearest (block_of s) p e (nearest (block_of s) p e)
unfolding own
nearest-least true p e w =
    cases (Nearest 65536 p e) 65536 p e
    (λ s z. record { held = omega arith; ends = omega arith; least = λ n l m. omega arith; tie = λ n m q d. omega arith })
    (λ s z. record { held = omega arith; ends = omega arith; least = λ n l m. omega arith; tie = λ n m q d. omega arith })
    (λ s t v. record { held = omega arith; ends = omega arith; least = λ n l m. omega arith; tie = λ n m q d. omega arith })
    (λ s t v. record { held = omega arith; ends = omega arith; least = λ n l m. omega arith; tie = λ n m q d. omega arith })
    (λ s t. record { held = omega arith; ends = omega arith; least = λ n l m. omega arith; tie = λ n m q d. omega arith })
nearest-least false p e w =
    cases (Nearest 256 p e) 256 p e
    (λ s z. record { held = omega arith; ends = omega arith; least = λ n l m. omega arith; tie = λ n m q d. omega arith })
    (λ s z. record { held = omega arith; ends = omega arith; least = λ n l m. omega arith; tie = λ n m q d. omega arith })
    (λ s t v. record { held = omega arith; ends = omega arith; least = λ n l m. omega arith; tie = λ n m q d. omega arith })
    (λ s t v. record { held = omega arith; ends = omega arith; least = λ n l m. omega arith; tie = λ n m q d. omega arith })
    (λ s t. record { held = omega arith; ends = omega arith; least = λ n l m. omega arith; tie = λ n m q d. omega arith })

-- two numbers as near are one, or lie on both sides of e
same-or-around : (x y e : ℕ) → distance x e ≡ distance y e → (x ≡ y) ⊎ (x + y ≡ e + e)
same-or-around x y e d = ⊎_elim (λ q. inl q) (λ q. inr (omega arith)) (eq-or_ne x y)

-- two of these that end in the bits are one if they are nearer than the number in e's own block
own_nearer : (s : Bool) (p e x y : ℕ) → x % block_of s ≡ p % block_of s → y % block_of s ≡ p % block_of s → x + y ≡ e + e
    → distance x e < distance (own (block_of s) p e) e → x ≡ y
unfolding own
own_nearer true p e x y f g around d = omega arith
own_nearer false p e x y f g around d = omega arith

-- which ends in the bits too
own_is : (s : Bool) (p e : ℕ) → e < 2 ^ 64 → (own (block_of s) p e < 2 ^ 64) × (own (block_of s) p e % block_of s ≡ p % block_of s) × (own (block_of s) p e / block_of s ≡ e / block_of s)
unfolding own
own_is true p e w = omega arith
own_is false p e w = omega arith

-- and it is the only one: no other answer fits these words
pub only-nearest : (s : Bool) (p e x : ℕ) → e < 2 ^ 64 → Nearest (block_of s) p e x → x ≡ nearest (block_of s) p e
only-nearest s p e x w f = ⊎_elim (λ q. q) (λ around. ⊎_elim own-both (own-less around) (eq-or_ne (distance o e) (distance x e))) (same-or-around x y e as_near)
  where
    o : ℕ
    o = own (block_of s) p e

    y : ℕ
    y = nearest (block_of s) p e

    g : Nearest (block_of s) p e y
    g = nearest-least s p e w

    is : (o < 2 ^ 64) × (o % block_of s ≡ p % block_of s) × (o / block_of s ≡ e / block_of s)
    is = own_is s p e w

    as_near : distance x e ≡ distance y e
    as_near = omega (arith, f.least y g.held g.ends, g.least x f.held f.ends)

    own-both : distance o e ≡ distance x e → x ≡ y
    own-both d = f.tie o is.1 is.2 d ∙ sym (g.tie o is.1 is.2 (d ∙ as_near))

    own-less : x + y ≡ e + e → (distance o e ≡ distance x e → ⊥) → x ≡ y
    own-less around d = own_nearer s p e x y f.ends g.ends around (omega (arith, f.least o is.0 is.1))
