-- What the parts of a call leave: how far bytes are covered or not, and how far a body's are shared. Assumes nothing.
use Rattle.std.specs.Prelude.{Option, Some, None, Bool, true, false, List, ◌≡◌, ℕ, ◌+◌, ◌-◌, ◌<◌, ◌≤◌, leb, ltb, min, length}
use Rattle.base.specs.Choose.{choose, both, either}
use Rattle.handshake.specs.declared.Header.{Header}
use Rattle.assembly.specs.Spans.{most-pieces, most_bytes, header-length, count_of, start_of, span_of, covered, all_shared}

-- piece k of the first n held has byte i; none has
abbrev pub Holder : List ℕ → ℕ → ℕ → Option ℕ → Type 0
Holder w n i None = covered w n i ≡ false
Holder w n i (Some k) = (k < n) × (start_of w k ≤ i) × (i - start_of w k < span_of w k)

-- r bytes from i on are covered; none where i is not
abbrev pub Reach : List ℕ → ℕ → ℕ → Option ℕ → Type 0
Reach w n i None = covered w n i ≡ false
Reach w n i (Some r) = (0 < r) × ((j : ℕ) → j < r → covered w n (i + j) ≡ true)

-- how many of the r bytes from i on lie before s, if s is behind i
abbrev pub ahead : ℕ → ℕ → ℕ → ℕ
ahead i r s = choose (ltb i s) (min r (s - i)) r

-- the l bytes from s on end before o, or begin at e or behind it
unfoldable pub apart : ℕ → ℕ → ℕ → ℕ → Bool
apart s l o e = either (leb e s) (both (leb s o) (leb l (o - s)))

-- none of the r bytes from i on is covered, r at least 1 and at most l
pub record Gap (w : List ℕ) (n i l r : ℕ) : Type 0 where
  pub most : r ≤ l
  pub some : 0 < r
  pub bare : (j : ℕ) → j < r → covered w n (i + j) ≡ false

-- a body's bytes from i to r are as d has them or not covered
pub record Run (w : List ℕ) (n o : ℕ) (b d : List ℕ) (i r : ℕ) : Type 0 where
  pub on : i < r
  pub most : r ≤ length b
  pub is : all_shared w n o b d r ≡ all_shared w n o b d i

-- so they are to r; where there is none, one is covered and other
abbrev pub Shared : List ℕ → ℕ → ℕ → List ℕ → List ℕ → ℕ → Option ℕ → Type 0
Shared w n o b d i None = all_shared w n o b d (length b) ≡ false
Shared w n o b d i (Some r) = Run w n o b d i r

-- a piece that was read lies in its record
pub record Measured (p : Option Header) (c : List ℕ) (at : ℕ) : Type 0 where
  pub inside : (h : Header) → p ≡ Some h → at + header-length + h.fragment_length ≤ length c

-- what a piece is offered with: its body, and a buffer that holds any message
pub record Offers (w : List ℕ) (h : Header) (b d : List ℕ) : Type 0 where
  pub count : count_of w ≤ most-pieces
  pub body : length b ≡ h.fragment_length
  pub room : most_bytes ≤ length d
