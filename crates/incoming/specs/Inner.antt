-- What an opened record holds (RFC 9147, section 4, DTLSInnerPlaintext; its padding: RFC 8446, section 5.4; 01: "trailing zeros are removed;
-- the last byte left is the content type; what precedes it" the content), and its laws. Assumes nothing.
use mathlib.Core.List.{List, [], ◌∷◌, ◌++◌, reverse, reverse-append, reverse-reverse, append_assoc, append-nil, reverse_aux-eq}
use Rattle.std.specs.Prelude.{◌≡◌, refl, ℕ, zero, suc, ◌≤◌, ◌<◌, length, take, get_or, replicate, Some, None, Option}
use Rattle.std.proofs.Common.{sym, ap, subst, ◌∙◌, arith, take-suc, length-take-le}
use Rattle.std.proofs.lemmas.List.{length-reverse}
use Rattle.incoming.specs.declared.Inner.{Inner}

-- read from the end: zeros are passed, then comes the type, and the rest is the content
-- a content type, and the length of the content in front of it
abbrev pub holding : ℕ → ℕ → Option Inner
holding t n = Some (record { content_type = t; length = n })

abbrev pub from_end : List ℕ → Option Inner
from_end [] = None
from_end (zero ∷ l) = from_end l
from_end (suc t ∷ l) = holding (suc t) (length l)

unfoldable pub inner_of : List ℕ → Option Inner
inner_of d = from_end (reverse d)

-- one byte more at the end: a zero changes nothing, another byte is the type
pub inner-zero : (d : List ℕ) → inner_of (d ++ (0 ∷ [])) ≡ inner_of d
unfolding inner_of
inner-zero d = ap from_end (reverse-append d (0 ∷ []))

pub inner_type : (d : List ℕ) (t : ℕ) → (t ≡ 0 → ⊥) → inner_of (d ++ (t ∷ [])) ≡ holding t (length d)
unfolding inner_of
inner_type d zero ne = absurd (ne refl)
inner_type d (suc t) ne = ap from_end (reverse-append d (suc t ∷ [])) ∙ ap (holding (suc t)) (length-reverse d)

-- `replicate` of zeros
abbrev pub zeros : ℕ → List ℕ
zeros k = replicate k 0

replicate_end : (k : ℕ) → zeros k ++ (0 ∷ []) ≡ 0 ∷ zeros k
replicate_end zero = refl
replicate_end (suc k) = ap (λ (l : List ℕ). 0 ∷ l) (replicate_end k)

-- zeros at the end change nothing
pub inner_padded : (d : List ℕ) (k : ℕ) → inner_of (d ++ zeros k) ≡ inner_of d
inner_padded d zero = ap inner_of (append-nil d)
inner_padded d (suc k) =
    ap (λ (l : List ℕ). inner_of (d ++ l)) (sym (replicate_end k)) ∙ ap inner_of (sym (append_assoc d (zeros k) (0 ∷ [])))
    ∙ inner-zero (d ++ zeros k) ∙ inner_padded d k

-- content, type and padding as they were sealed are found again
pub inner-sealed : (content : List ℕ) (t k : ℕ) → (t ≡ 0 → ⊥) → inner_of (content ++ (t ∷ zeros k)) ≡ holding t (length content)
inner-sealed content t k ne =
    ap inner_of (sym (append_assoc content (t ∷ []) (zeros k))) ∙ inner_padded (content ++ (t ∷ [])) k ∙ inner_type content t ne

-- zeros alone hold nothing
pub inner-zeros : (k : ℕ) → inner_of (zeros k) ≡ None
unfolding inner_of
inner-zeros k = inner_padded [] k

-- ---- and nothing else is found: an answer tells what the bytes are

pub record Holds (d : List ℕ) (t n : ℕ) : Type 0 where
  pub content : List ℕ
  pub padding : ℕ
  pub bytes : d ≡ content ++ (t ∷ zeros padding)
  pub long : length content ≡ n
  pub typed : t ≡ 0 → ⊥

from-end : (b : ℕ) (l r : List ℕ) → reverse (b ∷ l) ++ r ≡ reverse l ++ (b ∷ r)
from-end b l r = ap (λ (x : List ℕ). x ++ r) (reverse_aux-eq l (b ∷ [])) ∙ append_assoc (reverse l) (b ∷ []) r

-- a list read from its end, behind k zeros
holds-end : (l : List ℕ) (k : ℕ) {t n : ℕ} → from_end l ≡ holding t n → Holds (reverse l ++ zeros k) t n
holds-end [] k e = let z : ◌≡◌ {A = ℕ} 0 1 = cc in absurd (omega arith)
holds-end (zero ∷ l) k {t} {n} e =
    subst (λ (d : List ℕ). Holds d t n) (sym (from-end 0 l (zeros k))) (holds-end l (suc k) e)
holds-end (suc b ∷ l) k {t} {n} e =
    let both : ◌≡◌ {A = Inner} (record { content_type = suc b; length = length l }) (record { content_type = t; length = n }) = cc in
    let same : suc b ≡ t = ap (λ (i : Inner). i.content_type) both in
    record {
      content = reverse l;
      padding = k;
      bytes = from-end (suc b) l (zeros k) ∙ ap (λ (x : ℕ). reverse l ++ (x ∷ zeros k)) same;
      long = length-reverse l ∙ ap (λ (i : Inner). i.length) both;
      typed = λ z. omega arith;
    }

pub inner-holds : (d : List ℕ) {t n : ℕ} → inner_of d ≡ holding t n → Holds d t n
unfolding inner_of
inner-holds d {t} {n} e =
    subst (λ (x : List ℕ). Holds x t n) (append-nil (reverse (reverse d)) ∙ reverse-reverse d) (holds-end (reverse d) 0 e)

zeros-end : (l : List ℕ) → from_end l ≡ None → reverse l ≡ zeros (length l)
zeros-end [] e = refl
zeros-end (zero ∷ l) e = reverse_aux-eq l (0 ∷ []) ∙ ap (λ (x : List ℕ). x ++ (0 ∷ [])) (zeros-end l e) ∙ replicate_end (length l)
zeros-end (suc b ∷ l) e = let z : ◌≡◌ {A = ℕ} 0 1 = cc in absurd (omega arith)

pub inner-nothing : (d : List ℕ) → inner_of d ≡ None → d ≡ zeros (length d)
unfolding inner_of
inner-nothing d e = sym (reverse-reverse d) ∙ zeros-end (reverse d) e ∙ ap zeros (length-reverse d)

-- ---- the first n bytes and one more: a zero changes nothing, another byte is the type

module _ (d : List ℕ) (n : ℕ) (h : n < length d) where
  pub zero_more : get_or d n 0 ≡ 0 → inner_of (take (suc n) d) ≡ inner_of (take n d)
  zero_more z = ap inner_of (take-suc d n 0 h) ∙ ap (λ (b : ℕ). inner_of (take n d ++ (b ∷ []))) z ∙ inner-zero (take n d)

  type-more : (get_or d n 0 ≡ 0 → ⊥) → inner_of (take (suc n) d) ≡ holding (get_or d n 0) n
  type-more typed =
      ap inner_of (take-suc d n 0 h) ∙ inner_type (take n d) (get_or d n 0) typed
      ∙ ap (holding (get_or d n 0)) (length-take-le n d (omega arith))

-- ---- zeros cut off one by one: n bytes are left, the last of them behind `last` others

module _ (d : List ℕ) (n last : ℕ) (e : inner_of (take n d) ≡ inner_of d) (h : n ≤ length d) (before : n ≡ suc last) where
  abbrev whole : inner_of (take (suc last) d) ≡ inner_of d
  whole = ap (λ (k : ℕ). inner_of (take k d)) (sym before) ∙ e

  pub cut-zero : get_or d last 0 ≡ 0 → inner_of (take last d) ≡ inner_of d
  cut-zero z = sym (zero_more d last (omega arith) z) ∙ whole

  -- the length told is a number of its own, so that a wrong one is refused as one
  pub cut-last : (size : ℕ) → n ≡ suc size → (get_or d last 0 ≡ 0 → ⊥) → holding (get_or d last 0) size ≡ inner_of d
  cut-last size all typed =
      let same : size ≡ last = omega arith in
      ap (holding (get_or d last 0)) same ∙ sym (type-more d last (omega arith) typed) ∙ whole

pub cut-none : (d : List ℕ) (n : ℕ) → inner_of (take n d) ≡ inner_of d → n ≡ 0 → None ≡ inner_of d
unfolding inner_of
cut-none d n e z = ap (λ (k : ℕ). inner_of (take k d)) (sym z) ∙ e
