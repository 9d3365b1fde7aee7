-- Pieces cover no more bytes than their lengths add up to: so few bytes are no whole message, whatever places they have. Assumes nothing.
use Rattle.std.specs.Prelude.{Bool, true, false, List, ◌≡◌, refl, ℕ, zero, suc, ◌+◌, ◌-◌, ◌≤◌, ◌<◌, min}
use Rattle.std.specs.List.{sum_by}
use Rattle.std.proofs.Common.{arith}
use Rattle.base.specs.Choose.{choose, either, if_true, if_false, test_cases, both_left, both_right}
use Rattle.base.specs.Every.{every}
use Rattle.assembly.specs.Spans.{start_of, span_of, within, covered, all_covered}
use Rattle.assembly.proofs.Covering.{within_from, within_to}

-- the lengths of the first n pieces held, each at most t, added up
unfoldable pub lengths_of : List ℕ → ℕ → ℕ → ℕ
lengths_of w zero t = 0
lengths_of w (suc n) t = min (span_of w n) t + lengths_of w n t

-- lengths, each at most t, added up
abbrev pub sum_to : ℕ → List ℕ → ℕ
sum_to t ls = sum_by (λ (l : ℕ). min l t) ls

-- 1 where a byte is covered
abbrev one : Bool → ℕ
one b = choose b 1 0

-- how many bytes below t lie in the l bytes from s on, and in the first n pieces held
abbrev count_in : ℕ → ℕ → ℕ → ℕ
count_in s l zero = 0
count_in s l (suc t) = one (within s l t) + count_in s l t

abbrev count_all : List ℕ → ℕ → ℕ → ℕ
count_all w n zero = 0
count_all w n (suc t) = one (covered w n t) + count_all w n t

in_low : (s l t : ℕ) → count_in s l t ≤ min l (t - s)
in_low s l zero = omega arith
in_low s l (suc t) =
    let h = in_low s l t in
    test_cases (within s l t)
    (λ e. let p = within_from s l t e in
    let q = within_to s l t e in
    let z : one (within s l t) ≡ 1 = if_true _ _ e in
    omega arith)
    (λ e. let z : one (within s l t) ≡ 0 = if_false _ _ e in omega arith)

either-one : (a b : Bool) → one (either a b) ≤ one a + one b
unfolding either choose
either-one true b = omega arith
either-one false b = omega arith

one-more : (w : List ℕ) (n t : ℕ) → count_all w (suc n) t ≤ count_in (start_of w n) (span_of w n) t + count_all w n t
unfolding covered
one-more w n zero = omega arith
one-more w n (suc t) =
    let h = one-more w n t in
    let z = either-one (within (start_of w n) (span_of w n) t) (covered w n t) in
    omega arith

none-covered : (w : List ℕ) (t : ℕ) → count_all w 0 t ≡ 0
unfolding covered
none-covered w zero = refl
none-covered w (suc t) =
    let z : one false ≡ 0 = if_false _ _ refl in
    let h = none-covered w t in
    omega arith

all-low : (w : List ℕ) (n t : ℕ) → count_all w n t ≤ lengths_of w n t
unfolding lengths_of
all-low w zero t = let z = none-covered w t in omega arith
all-low w (suc n) t =
    let h = all-low w n t in
    let z = one-more w n t in
    let y = in_low (start_of w n) (span_of w n) t in
    omega arith

whole-count : (w : List ℕ) (n t : ℕ) → all_covered w n t ≡ true → count_all w n t ≡ t
unfolding all_covered every
whole-count w n zero e = refl
whole-count w n (suc t) e =
    let z : one (covered w n t) ≡ 1 = if_true _ _ (both_left _ _ e) in
    let h = whole-count w n t (both_right (covered w n t) _ e) in
    omega arith

pub too_few : (w : List ℕ) (n t : ℕ) → lengths_of w n t < t → all_covered w n t ≡ false
too_few w n t l =
    test_cases (all_covered w n t) (λ e. let h = whole-count w n t e in let z = all-low w n t in absurd (omega arith)) (λ e. e)
