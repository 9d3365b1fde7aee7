-- What is put into a buffer, one behind the other. Assumes nothing.
use Rattle.std.specs.Prelude.{true, false, List, [], ◌∷◌, ◌++◌, ◌≡◌, ℕ, ◌+◌, ◌<◌, ◌≤◌, length, get_or, set, take}
use Rattle.std.proofs.Common.{append_assoc, sym, ap, subst, ◌∙◌, add-one, arith, length-append, take-suc, length-take-le}
use Rattle.base.specs.Choose.{if_true, if_false}
use Rattle.base.specs.Parts.{splice, splice-next, length-splice, stored}
use Rattle.decimal.specs.Decimal.{decimal}
use Rattle.reasons.specs.declared.Reason.{Reason}
use Rattle.reasons.specs.declared.Told.{Told}
use Rattle.reasons.specs.Reasons.{space, newline, dash, name_of, has_number, shown, line_of}

-- bytes put at a place of a buffer, and the place behind them
pub record Put (out : List ℕ) (at : ℕ) (v new : List ℕ) (end : ℕ) : Type 0 where
  pub ends : end ≡ at + length v
  pub bytes : new ≡ splice at v out

module _ {out v new : List ℕ} {at end : ℕ} (p : Put out at v new end) where
  pub put-length : at + length v ≤ length out → length new ≡ length out
  put-length l = ap length p.bytes ∙ length-splice at v out l

  -- one behind the other
  pub put_next : {w last : List ℕ} {behind : ℕ} → at ≤ length out → Put new end w last behind → Put out at (v ++ w) last behind
  put_next {w} l q = record {
    ends = q.ends ∙ ap (λ (k : ℕ). k + length w) p.ends ∙ omega (arith, length-append v w);
    bytes = q.bytes ∙ ap (splice end w) p.bytes ∙ splice-next at end v w out l (sym p.ends);
  }

  pub put_as : {w : List ℕ} → v ≡ w → Put out at w new end
  put_as e = subst (λ (x : List ℕ). Put out at x new end) e p

pub put_of : (out : List ℕ) (at : ℕ) (v : List ℕ) {new : List ℕ} {end : ℕ} → end ≡ at + length v → new ≡ splice at v out → Put out at v new end
put_of out at v e q = record { ends = e; bytes = q }

-- a word, byte by byte
pub word_next : (out₀ word : List ℕ) {out : List ℕ} (at i : ℕ) → i < length word → at + length word ≤ length out₀ → out ≡ splice at (take i word) out₀
    → set out (at + i) (get_or word i 0) ≡ splice at (take (i + 1) word) out₀
word_next out₀ word {out} at i l fits e =
    let v : List ℕ = get_or word i 0 ∷ [] in
    let n : length (take i word) ≡ i = length-take-le i word (omega arith) in
    let long : length out ≡ length out₀ = ap length e ∙ length-splice at (take i word) out₀ (omega arith) in
    stored (at + i) (get_or word i 0) out (omega arith) ∙ ap (splice (at + i) v) e ∙ splice-next at (at + i) (take i word) v out₀ (omega arith) (omega arith)
    ∙ ap (λ (x : List ℕ). splice at x out₀) (sym (ap (λ (k : ℕ). take k word) (add-one i) ∙ take-suc word i 0 l))

-- the number, or a dash
pub shown-number : (why : Reason) (n : ℕ) → has_number why ≡ true → shown why n ≡ decimal n
unfolding shown
shown-number why n e = if_true _ _ e

pub shown-dash : (why : Reason) (n : ℕ) → has_number why ≡ false → shown why n ≡ dash ∷ []
unfolding shown
shown-dash why n e = if_false _ _ e

-- a line and its parts
pub line-length : (i : ℕ) (t : Told) → length (line_of i t) ≡ length (decimal i) + length (shown t.reason t.number) + length (name_of t.reason) + 3
unfolding line_of
line-length i t = simp length-append (omega arith)

pub line_parts : (i : ℕ) (t : Told)
    → ((((decimal i ++ (space ∷ [])) ++ shown t.reason t.number) ++ (space ∷ [])) ++ name_of t.reason) ++ (newline ∷ []) ≡ line_of i t
unfolding line_of
line_parts i t = simp append_assoc

-- where a line fits, each part of it has room behind those before it
module _ (out : List ℕ) (at i : ℕ) (t : Told) (fits : at + length (line_of i t) ≤ length out) where
  abbrev number : List ℕ
  number = shown t.reason t.number

  abbrev name : List ℕ
  name = name_of t.reason

  pub room_index : at + length (decimal i) ≤ length out
  room_index = omega (arith, line-length i t)

  -- what is left behind u
  room : {o : List ℕ} {a : ℕ} (u v : List ℕ) → length (u ++ v) ≤ length (line_of i t) → Put out at u o a → a + length v ≤ length o
  room u v l p =
      let n = length-append u v in
      omega (arith, p.ends, put-length p (omega arith))

  pub room-first : {o : List ℕ} {a : ℕ} → Put out at (decimal i) o a → a < length o
  room-first p = omega (arith, room (decimal i) (space ∷ []) (simp length-append (omega (arith, line-length i t))) p)

  pub room-number : {o : List ℕ} {a : ℕ} → Put out at (decimal i ++ (space ∷ [])) o a → a + length number ≤ length o
  room-number p = room (decimal i ++ (space ∷ [])) number (simp length-append (omega (arith, line-length i t))) p

  pub room-second : {o : List ℕ} {a : ℕ} → Put out at ((decimal i ++ (space ∷ [])) ++ number) o a → a < length o
  room-second p = omega (arith, room ((decimal i ++ (space ∷ [])) ++ number) (space ∷ []) (simp length-append (omega (arith, line-length i t))) p)

  pub room-name : {o : List ℕ} {a : ℕ} → Put out at (((decimal i ++ (space ∷ [])) ++ number) ++ (space ∷ [])) o a → a + length name ≤ length o
  room-name p = room (((decimal i ++ (space ∷ [])) ++ number) ++ (space ∷ [])) name (simp length-append (omega (arith, line-length i t))) p

  pub room-end : {o : List ℕ} {a : ℕ} → Put out at ((((decimal i ++ (space ∷ [])) ++ number) ++ (space ∷ [])) ++ name) o a → a < length o
  room-end p =
      omega (arith, room ((((decimal i ++ (space ∷ [])) ++ number) ++ (space ∷ [])) ++ name) (newline ∷ []) (simp length-append (omega (arith, line-length i t))) p)
