-- `base::same_bytes` meets its contract: the library's test of equality is the test at each place. Assumes nothing.
use Rattle.std.proofs.Common.{get_or, sym, ap, ◌∙◌, ◌≡◌, List, length, true, ℕ}
use Rattle.std.proofs.Math.Dec.{eqb}
use Rattle.std.proofs.lemmas.List.{ext_get_or}
use Rattle.std.specs.Cmp.Lexicographic.{pointwise, bytes_decides}
use Rattle.base.specs.Choose.{test_cases}
use Rattle.base.specs.Every.{same_to, same-each, each_same}
use Rattle.base.proofs.same_bytes.Goals as goal

alike : (a b : List ℕ) → length a ≡ length b → pointwise eqb a b ≡ same_to a b (length a)
alike a b e =
    let listed = bytes_decides a b in
    let each : a ≡ b → same_to a b (length a) ≡ true = λ p. each_same a b (length a) (λ i h. ap (λ l. get_or l i 0) p) in
    test_cases (same_to a b (length a)) (λ t. listed.1 (ext_get_or 0 a b e (same-each a b (length a) t)) ∙ sym t)
    (λ f. test_cases (pointwise eqb a b) (λ t. t ∙ sym (each (listed.0 t))) (λ q. q ∙ sym f))

pub returns : goal.returns
returns c = c.eq.ensures ∙ alike _ _ c.requires
