-- The program's reading of a piece, of spans and of covered bytes is the account's. Assumes nothing.
use Rattle.std.specs.Prelude.{true, ◌≡◌, refl, ℕ, suc, ◌+◌, ◌-◌, ◌%◌, ◌<◌, leb, eqb, length, get_or, drop}
use Rattle.std.proofs.lemmas.Bool.{false≢true, lt-leb}
use mathlib.Core.List.Memᴰ.{head as here}
use mathlib.Core.List.Memᴰ.{tail as there}
use mathlib.Core.List.{List, [], ◌∷◌, Memᴰ as Mem}
use Rattle.std.proofs.Common.{⊎_elim, ◌∙◌, arith, lt-ltb, le-ltb, le-leb, eqb-true, eq-eqb, length-drop}
use Rattle.std.proofs.Math.Option.{Option, none, some}
use Rattle.std.proofs.Math.Path.{sym, ap}
use Rattle.std.proofs.Math.Dec.{ltb}
use Rattle.base.specs.Bytes.{be_at}
use Rattle.base.specs.Choose.{both, if_true, if_false, test_cases, lt-or_ge, both_true, both_false, both_left, both_right, either_true, either-false}
use Rattle.base.specs.Every.{every}
use Rattle.base.specs.Parts.{part-behind}
use Rattle.handshake.specs.Header.{header_at, parse_header}
use Rattle.handshake.specs.declared.Header.{Header}
use Rattle.std.specs.Prelude as parsed
use Rattle.assembly.specs.Spans.{start_of, span_of, within, covered, all_covered, is_same}
use Rattle.assembly.specs.Assembly.{measured, piece_at, body_at}
use Rattle.history_theorem.proofs.Lists.{mem-by, either-cases}
use Rattle.assembly_theorem.specs.Account.{head_bytes, Fragment, fragment_in, has, covers, covers_all}

-- ---- a piece read

-- a header and its body as the account has them
abbrev pub fragment_of : List ℕ → ℕ → Header → Fragment
fragment_of c at h = record {
  kind = h.msg_type % 256;
  total = h.length;
  number = h.message_seq;
  offset = h.fragment_offset;
  body = body_at c at h;
}

abbrev pub as_fragment : List ℕ → ℕ → parsed.Option Header → Option Fragment
as_fragment c at parsed.None = none
as_fragment c at (parsed.Some h) = some (fragment_of c at h)

-- the account's fragment with this body
abbrev with_body : List ℕ → List ℕ → Option Fragment
with_body r b = some (record { kind = get_or r 0 0 % 256; total = be_at 3 r 1; number = be_at 2 r 4; offset = be_at 3 r 6; body = b })

module _ (c : List ℕ) (at : ℕ) where
  abbrev rest : List ℕ
  rest = drop at c

  abbrev size_read : ℕ
  size_read = be_at 3 rest 9

  pub reads_same : fragment_in (drop at c) ≡ as_fragment c at (piece_at c at)
  unfolding fragment_in piece_at parse_header header_at
  reads_same =
      test_cases (ltb (length rest) head_bytes)
      (λ t. if_true _ _ t ∙ sym (ap (λ (p : parsed.Option Header). as_fragment c at (measured (length c - at) p)) (if_true _ _ t)))
      (λ t. if_false _ _ t
      ∙ test_cases (ltb (length rest) (head_bytes + size_read))
      (λ u. if_true _ _ u
      ∙ sym (ap (λ (p : parsed.Option Header). as_fragment c at (measured (length c - at) p)) (if_false _ _ t)
      ∙ ap (as_fragment c at) (if_true _ _ (ap (λ (n : ℕ). ltb n (head_bytes + size_read)) (sym (length-drop at c)) ∙ u))))
      (λ u. if_false _ _ u ∙ ap (with_body rest) (part-behind at head_bytes size_read c)
      ∙ sym (ap (λ (p : parsed.Option Header). as_fragment c at (measured (length c - at) p)) (if_false _ _ t)
      ∙ ap (as_fragment c at) (if_false _ _ (ap (λ (n : ℕ). ltb n (head_bytes + size_read)) (sym (length-drop at c)) ∙ u)))))

-- ---- the pieces held

-- byte i lies in the n bytes from s on
within-is : (s n i : ℕ) → within s n i ≡ both (leb s i) (ltb i (s + n))
unfolding within
within-is s n i =
    ⊎_elim (λ p. both_false _ (lt-leb s i p) ∙ sym (both_false _ (lt-leb s i p)))
    (λ p. both_true (le-leb s i p)
    ∙ ⊎_elim (λ q. lt-ltb _ _ q ∙ sym (lt-ltb i (s + n) (omega arith))) (λ q. le-ltb _ _ q ∙ sym (le-ltb i (s + n) (omega arith))) (lt-or_ge (i - s) n)
    ∙ sym (both_true (le-leb s i p)))
    (lt-or_ge i s)

pub within_has : (f : Fragment) (i : ℕ) → within f.offset (length f.body) i ≡ has f i
unfolding has
within_has f i = within-is f.offset (length f.body) i

-- the first n spans are the account's pieces
pub data Kept (w : List ℕ) : ℕ → List Fragment → Type 0 where
  empty : Kept w 0 []
  next : {n : ℕ} {f : Fragment} {fs : List Fragment} → start_of w n ≡ f.offset → span_of w n ≡ length f.body → Kept w n fs → Kept w (suc n) (f ∷ fs)

pub kept-covers : {w : List ℕ} {n : ℕ} {fs : List Fragment} → Kept w n fs → (i : ℕ) → covered w n i ≡ covers fs i
unfolding covered covers
kept-covers empty i = refl
kept-covers {w} (next {n} {f} {fs} a b k) i = rw (a, b, within_has f i, kept-covers k i)

pub kept-all : {w : List ℕ} {n : ℕ} {fs : List Fragment} → Kept w n fs → (t : ℕ) → all_covered w n t ≡ covers_all fs t
unfolding all_covered covers_all
kept-all k t = λ j. every (λ (i : ℕ). kept-covers k i j) t

pub kept-count : {w : List ℕ} {n : ℕ} {fs : List Fragment} → Kept w n fs → n ≡ length fs
kept-count empty = refl
kept-count (next a b k) = ap suc (kept-count k)

-- a span held is that of a piece taken, and the other way round
pub kept-found : {w : List ℕ} {n : ℕ} {fs : List Fragment} → Kept w n fs → (o l : ℕ) → is_same w n o l ≡ true
    → (g : Fragment) × Mem g fs × (g.offset ≡ o) × (length g.body ≡ l)
unfolding is_same
kept-found empty o l e = absurd (false≢true e)
kept-found {w} (next {n} {f} a b k) o l e =
    either-cases _ _ e (λ t. (f, here refl, sym a ∙ eqb-true _ _ (both_left _ _ t), sym b ∙ eqb-true _ _ (both_right (eqb (start_of w n) o) _ t)))
    (λ t u. let h = kept-found k o l u in (h.0, there h.1, h.2, h.3))

pub kept-has : {w : List ℕ} {n : ℕ} {fs : List Fragment} → Kept w n fs → (g : Fragment) → Mem g fs → is_same w n g.offset (length g.body) ≡ true
unfolding is_same
kept-has empty g m = absurd (elim m [ ])
kept-has (next {n} {f} a b k) g m =
    mem-by m
    (λ (p : g ≡ f). either_true _ (both_true (eq-eqb _ _ (a ∙ ap (λ (x : Fragment). x.offset) (sym p))) ∙ eq-eqb _ _ (b ∙ ap (λ (x : Fragment). length x.body) (sym p))))
    (λ o. test_cases _ (λ t. either_true _ t) (λ t. either-false t ∙ kept-has k g o))

-- spans that are written nowhere stay the account's
pub kept-still : {w v : List ℕ} {n : ℕ} {fs : List Fragment} → ((k : ℕ) → k < n → start_of v k ≡ start_of w k) → ((k : ℕ) → k < n → span_of v k ≡ span_of w k) → Kept w n fs → Kept v n fs
kept-still f g empty = empty
kept-still f g (next {n} a b k) = next (f n (omega arith) ∙ a) (g n (omega arith) ∙ b) (kept-still (λ j h. f j (omega arith)) (λ j h. g j (omega arith)) k)
