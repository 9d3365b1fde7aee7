-- Text that the programs read and write: a line is a letter, a space and bytes in lowercase hexadecimal. Assumes nothing.
use Rattle.std.specs.Prelude.{replicate, cond, Some, None, nat_lt, position, unwrap_or, ◌++◌, min, take, zero, ◌==◌, List, [], ◌∷◌, ◌⊎◌, ◌≡◌, refl, ℕ, suc, ◌+◌, ◌-◌, ◌*◌, ◌/◌, ◌%◌, ◌≤◌, ◌<◌, ltb, length, get_or, drop, set}
use Rattle.std.proofs.Common.{append_assoc, inl, inr, sym, ap, subst, ◌∙◌, add-one, arith, lt-ltb, le-ltb, length-set, get_or-set_same, get_or-set_other, ⊎_elim, length-take-le, drop-drop, drop-cons}
use Rattle.std.proofs.Math.Seq.{take-append_seam}
use Rattle.std.proofs.lemmas.List.{take_all, get_or_past, get_or-replicate, length-replicate}
use Rattle.std.proofs.lemmas.List.Edits.{sets, sets-eq}
use borrow.Rule.Slice.PartMut.{put_mid}
use Rattle.std.proofs.lemmas.List.Sums.{prefix_len-le-length}
use Rattle.std.proofs.lemmas.List.Recursion.{is_position_or_len}
use Rattle.std.proofs.Math.Seq.{set_out}
use Rattle.base.specs.Bytes.{Bytes}
use Rattle.base.specs.Choose.{choose, if_true, if_false, by_less, lt-or_ge}
use Rattle.run_lines.specs.Lines.{reach, digit_of, bytes_of, hex_digit, hex_of, line_len, Wrote}

-- ---- laws

-- what is written beyond the end changes nothing
pub sets-out : (d l : List ℕ) (i : ℕ) → length l ≤ i → sets l i d ≡ l
sets-out [] l i h = refl
sets-out (b ∷ d) l i h = ap (λ (x : List ℕ). sets x (suc i) d) (set_out l i b h) ∙ sets-out d l (suc i) (omega arith)

-- what is left out beyond the end
pub sets-cut : (n : ℕ) (d l : List ℕ) (i : ℕ) → n ≤ length d → (n ≡ length d) ⊎ (i + n ≡ length l) → sets l i d ≡ sets l i (take n d)
sets-cut zero [] l i h e = refl
sets-cut zero (b ∷ d) l i h (inl e) = absurd (omega arith)
sets-cut zero (b ∷ d) l i h (inr e) = sets-out (b ∷ d) l i (omega arith)
sets-cut (suc n) [] l i h e = absurd (omega arith)
sets-cut (suc n) (b ∷ d) l i h (inl e) = sets-cut n d (set l i b) (suc i) (omega arith) (inl (omega arith))
sets-cut (suc n) (b ∷ d) l i h (inr e) = sets-cut n d (set l i b) (suc i) (omega arith) (inr (omega (arith, length-set l i b)))

-- what stands before the place stays, and zeros are written over
sets-before : (d l : List ℕ) (i k : ℕ) → k < i → get_or (sets l i d) k 0 ≡ get_or l k 0
sets-before [] l i k h = refl
sets-before (b ∷ d) l i k h = sets-before d (set l i b) (suc i) k (omega arith) ∙ get_or-set_other l i k b 0 (λ e. omega arith)

pub sets-over : (d l : List ℕ) (i k m : ℕ) → m ≡ i + k → m < length l → ((j : ℕ) → i ≤ j → get_or l j 0 ≡ 0) → get_or (sets l i d) m 0 ≡ get_or d k 0
sets-over [] l i k m e h z = z m (omega arith)
sets-over (b ∷ d) l i zero m e h z =
    let q : m ≡ i = omega arith in
    sets-before d (set l i b) (suc i) m (omega arith) ∙ ap (λ (x : ℕ). get_or (set l i b) x 0) q ∙ get_or-set_same l i b 0 (omega arith)
sets-over (b ∷ d) l i (suc k) m e h z =
    sets-over d (set l i b) (suc i) k m (omega arith) (omega (arith, length-set l i b))
    (λ j g. get_or-set_other l i j b 0 (λ q. omega arith) ∙ z j (omega arith))

pub zeros : (n j : ℕ) → ◌≡◌ {A = ℕ} (get_or (replicate n 0) j 0) 0
zeros n j = ⊎_elim (λ (l : j < n). get_or-replicate n j 0 0 l) (λ (g : n ≤ j). get_or_past (replicate n 0) j 0 (omega (arith, length-replicate {A = ℕ} n 0))) (lt-or_ge j n)

-- n bytes copied, which are all or as many as fit
pub copied : (d l : List ℕ) (i n : ℕ) {e : ℕ} {v : List ℕ} → i < length l → n ≡ min (length d) (length l - i) → e ≡ i + n → v ≡ take n d → put_mid i (e - i) l v ≡ sets l i d
copied d l i n {e} {v} h m q w =
    let size : length (take n d) ≡ n = length-take-le n d (omega arith) in
    let part : e - i ≡ length (take n d) = omega arith in
    let one : put_mid i (e - i) l v ≡ take i l ++ (take n d ++ drop (i + length (take n d)) l) =
    rw w (ap (λ (x : List ℕ). take i l ++ (take n d ++ x)) (ap (λ (k : ℕ). drop k (drop i l)) part ∙ drop-drop (length (take n d)) i l)) in
    one ∙ sym (append_assoc (take i l) (take n d) (drop (i + length (take n d)) l)) ∙ sym (sets-eq (take n d) l i (omega arith)) ∙ sym (sets-cut n d l i (omega arith) (⊎_elim (λ (g : length d < length l - i). inl (omega arith)) (λ g. inr (omega arith)) (lt-or_ge (length d) (length l - i))))

-- bytes written one at a time
one-more : (out d : List ℕ) (at b : ℕ) → (at < length out) ⊎ (length out ≤ at) → sets (set out at b) (reach at 1 (length out)) d ≡ sets out at (b ∷ d)
one-more out d at b (inl h) =
    let e : reach at 1 (length out) ≡ suc at = omega arith in
    ap (λ (k : ℕ). sets (set out at b) k d) e
one-more out d at b (inr h) =
    let e : set out at b ≡ out = set_out out at b h in
    ap (λ (x : List ℕ). sets x (reach at 1 (length out)) d) e ∙ sets-out d out (reach at 1 (length out)) (omega arith)
    ∙ sym (ap (λ (x : List ℕ). sets x (suc at) d) e ∙ sets-out d out (suc at) (omega arith))

pub sets-next : (out d : List ℕ) (at b : ℕ) → sets (set out at b) (reach at 1 (length out)) d ≡ sets out at (b ∷ d)
sets-next out d at b = one-more out d at b (lt-or_ge at (length out))

pub reach-next : (at n len : ℕ) → reach (reach at 1 len) n len ≡ reach at (suc n) len
reach-next at n len = omega arith

pub wrote_none : (out : List ℕ) (at : ℕ) (d : List ℕ) → Wrote out at d out at d
wrote_none out at d = record { same = refl; bytes = refl; end = refl }

-- a byte more, which is the next of the rest
pub wrote-next : {out₀ d out rest new : List ℕ} {at n b c next : ℕ} → next ≡ reach n 1 (length out) → new ≡ set out n c → c ≡ b → Wrote out₀ at d out n (b ∷ rest) → Wrote out₀ at d new next rest
wrote-next {out₀} {d} {out} {rest} {new} {at} {n} {b} {c} {next} e f g w =
    let h : new ≡ set out n b = f ∙ ap (λ (x : ℕ). set out n x) g in
    record {
      same = ap length h ∙ length-set out n b ∙ w.same;
      bytes = ap (λ (o : List ℕ). sets o next rest) h ∙ ap (λ (k : ℕ). sets (set out n b) k rest) e ∙ sets-next out rest n b ∙ w.bytes;
      end = ap (λ (k : ℕ). reach k (length rest) (length out₀)) (e ∙ ap (λ (l : ℕ). reach n 1 l) w.same) ∙ reach-next n (length rest) (length out₀) ∙ w.end;
    }

pub wrote_as : {out₀ d out rest more : List ℕ} {at n : ℕ} → rest ≡ more → Wrote out₀ at d out n rest → Wrote out₀ at d out n more
wrote_as {out₀} {d} {out} {rest} {more} {at} {n} e w = subst (λ (r : List ℕ). Wrote out₀ at d out n r) e w

-- one behind the other
pub wrote_then : {out₀ d out₁ rest out last : List ℕ} {at n₁ n : ℕ} → Wrote out₀ at d out₁ n₁ rest → Wrote out₁ n₁ rest out n last → Wrote out₀ at d out n last
wrote_then {out₀} {d} {out₁} {rest} {out} {last} {at} {n₁} {n} v w = record {
  same = w.same ∙ v.same;
  bytes = w.bytes ∙ v.bytes;
  end = sym (ap (λ (l : ℕ). reach n (length last) l) v.same) ∙ w.end ∙ ap (λ (l : ℕ). reach n₁ (length rest) l) v.same ∙ v.end;
}

pub wrote-all : {out₀ d out : List ℕ} {at n : ℕ} → Wrote out₀ at d out n [] → (n ≡ reach at (length d) (length out₀)) × (out ≡ sets out₀ at d)
wrote-all {out₀} {d} {out} {at} {n} w =
    let r : reach n 0 (length out₀) ≡ n = omega arith in (sym r ∙ w.end, w.bytes)

-- what is written from the start, as far as it fits
pub front_written : (d l : List ℕ) → take (reach 0 (length d) (length l)) (sets l 0 d) ≡ take (length l) d
front_written d l =
    let n : ℕ = min (length d) (length l) in
    let to : reach 0 (length d) (length l) ≡ n = omega arith in
    let size : length (take n d) ≡ n = length-take-le n d (omega arith) in
    let r : List ℕ = drop (0 + length (take n d)) l in
    let e : sets l 0 d ≡ take n d ++ r = sets-cut n d l 0 (omega arith) (⊎_elim (λ (g : length d < length l). inl (omega arith)) (λ g. inr (omega arith)) (lt-or_ge (length d) (length l))) ∙ sets-eq (take n d) l 0 (omega arith) in
    ap (λ (k : ℕ). take k (sets l 0 d)) (to ∙ sym size) ∙ ap (take (length (take n d))) e ∙ take-append_seam (take n d) r
    ∙ ⊎_elim (λ (g : length d < length l). ap (λ (k : ℕ). take k d) (omega arith) ∙ take_all (length d) d (omega arith) ∙ sym (take_all (length l) d (omega arith))) (λ (g : length l ≤ length d). ap (λ (k : ℕ). take k d) (omega arith)) (lt-or_ge (length d) (length l))

-- the next byte of a list, two digits, a line's next byte
pub drop-next : (d : List ℕ) (i : ℕ) → i < length d → drop i d ≡ get_or d i 0 ∷ drop (i + 1) d
drop-next d i h = drop-cons d i 0 h ∙ ap (λ (k : ℕ). get_or d i 0 ∷ drop k d) (sym (add-one i))

pub bytes_next : (d : List ℕ) → 2 ≤ length d → bytes_of d ≡ (digit_of (get_or d 0 0) * 16 + digit_of (get_or d 1 0)) ∷ bytes_of (drop 2 d)
bytes_next [] h = absurd (omega arith)
bytes_next (b ∷ []) h = absurd (omega arith)
bytes_next (b ∷ (c ∷ d)) h = refl

pub bytes-end : (d : List ℕ) → length d < 2 → bytes_of d ≡ []
bytes-end [] h = refl
bytes-end (b ∷ []) h = refl
bytes-end (b ∷ (c ∷ d)) h = absurd (omega arith)

pub hex_next : (d : List ℕ) (i : ℕ) → i < length d → hex_of (drop i d) ≡ hex_digit (get_or d i 0 / 16 % 16) ∷ (hex_digit (get_or d i 0 % 16) ∷ hex_of (drop (i + 1) d))
hex_next d i h = ap hex_of (drop-next d i h)

found-or : (n m : ℕ) → n ≤ m → unwrap_or (cond (nat_lt n m) (Some n) None) m ≡ n
found-or n m h = ⊎_elim (λ (l : n < m). rw (lt-ltb n m l) refl) (λ (g : m ≤ n). rw (le-ltb n m g) (omega arith)) (lt-or_ge n m)

-- the place of the first newline, or the end
pub line-is : (d : List ℕ) → unwrap_or (position (λ b. b == 10) d) (length d) ≡ line_len d
unfolding line_len choose
line-is d = found-or _ _ (prefix_len-le-length _ d) ∙ sym (is_position_or_len line_len (λ b. b == 10) refl (λ x xs. refl) d)

-- what is written in digits reads back
pub digit-back : (v : ℕ) → v < 16 → digit_of (hex_digit v) ≡ v
unfolding digit_of hex_digit
digit-back v h =
    by_less (λ (x : ℕ). choose (ltb x 97) (x % 16) ((x % 16 + 9) % 16) ≡ v) v 10
    (λ l. if_true _ _ (lt-ltb (48 + v) 97 (omega arith)) ∙ omega arith)
    (λ g. if_false _ _ (le-ltb (87 + v) 97 (omega arith)) ∙ omega arith)

pub hex_back : (d : List ℕ) → Bytes d → bytes_of (hex_of d) ≡ d
hex_back [] h = refl
hex_back (b ∷ d) h =
    let high = digit-back (b / 16 % 16) (omega arith) in
    let low = digit-back (b % 16) (omega arith) in
    let e : digit_of (hex_digit (b / 16 % 16)) * 16 + digit_of (hex_digit (b % 16)) ≡ b = rw (high, low) (omega (arith, h 0)) in
    ap (λ (x : ℕ). x ∷ bytes_of (hex_of d)) e ∙ ap (λ (l : List ℕ). b ∷ l) (hex_back d (λ i. h (suc i)))
