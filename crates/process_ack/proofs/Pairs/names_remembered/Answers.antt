-- `process_ack::Pairs::names_remembered` meets its contract. Assumes nothing.
use Rattle.std.specs.Prelude.{Bool, false, List, [], ◌∷◌, ◌≡◌, ◌||◌, true, ℕ, ◌+◌, ◌-◌, ◌*◌, ◌≤◌, length, take, drop}
use Rattle.std.specs.List.{list_any}
use mathlib.Core.List.{reverse, reverse_aux}
use Rattle.std.proofs.Common.{refl, sym, ap, ◌∙◌, arith, rules, tests, length-drop, get_or-drop}
use Rattle.std.proofs.lemmas.Iterator.Adapters.{YieldsList-from_rev_slice}
use Rattle.std.proofs.lemmas.Iterator.Search.{any_from_yields_List}
use Rattle.base.specs.Choose.{choose}
use Rattle.base.proofs.Ranges.{any_front}
use Rattle.process_ack.specs.Ack.{is_named, is_remembered}
use Rattle.process_ack.proofs.Pairs.names_remembered.Goals as goal

-- the last first or the first first: whether any passes is the same
module _ (t : ℕ → Bool) where
  or-turned : (a b c : Bool) → (b || (a || c)) ≡ ((a || b) || c)
  or-turned true true c = refl
  or-turned true false c = refl
  or-turned false b c = refl

  or-false : (b : Bool) → (b || false) ≡ b
  or-false true = refl
  or-false false = refl

  any_onto : (xs ys : List ℕ) → list_any t (reverse_aux xs ys) ≡ (list_any t xs || list_any t ys)
  any_onto [] ys = refl
  any_onto (x ∷ xs) ys = any_onto xs (x ∷ ys) ∙ or-turned (t x) (list_any t xs) (list_any t ys)

  any-reverse : (xs : List ℕ) → list_any t (reverse xs) ≡ list_any t xs
  any-reverse xs = any_onto xs [] ∙ or-false (list_any t xs)

pub returns : goal.returns
unfolding is_remembered
returns c = let a = c.args in
    let s = a.i * 32 in
    let xs = drop s a.numbers.now in
    let e : s + a.k - s ≡ a.k = omega arith in
    let room : a.k ≤ length xs = rw (length-drop s a.numbers.now) (omega (arith, c.told-numbers, c.requires.0)) in
    any_from_yields_List {all = reverse (take (s + a.k - s) xs)} (λ x. is_named a.self.content.now a.epoch x a.self.count) _ _ _ c.any.ensures.ran (YieldsList-from_rev_slice (take (s + a.k - s) xs) cc) (λ x b q k. search (rules, tests))
    ∙ any-reverse (λ x. is_named a.self.content.now a.epoch x a.self.count) (take (s + a.k - s) xs)
    ∙ ap (λ (k : ℕ). list_any (λ x. is_named a.self.content.now a.epoch x a.self.count) (take k xs)) e
    ∙ any_front (λ x. is_named a.self.content.now a.epoch x a.self.count) (is_remembered a.self.content.now a.self.count a.numbers.now a.i a.epoch) xs refl
    (λ j h. ap (λ (x : ℕ). choose (is_named a.self.content.now a.epoch x a.self.count) true (is_remembered a.self.content.now a.self.count a.numbers.now a.i a.epoch j)) (sym (get_or-drop s a.numbers.now j 0))) a.k room
