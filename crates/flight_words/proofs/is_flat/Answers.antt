-- `flight_words::is_flat` meets its contract. Assumes nothing.
use Rattle.std.proofs.Common.{refl, sym, ◌∙◌, rules, tests}
use Rattle.std.proofs.lemmas.Iterator.{YieldsList-from_range}
use Rattle.std.proofs.lemmas.Iterator.Search.{all_from_yields_List}
use Rattle.std.proofs.lemmas.Bool.{lt-leb, le-leb}
use Rattle.std.specs.Prelude.{Bool, ◌≡◌, leb, get_or}
use Rattle.base.specs.Choose.{both, by_less, both_true, both_false}
use Rattle.base.proofs.Ranges.{all_below}
use Rattle.flight_words.specs.Words.{flat_to, marked-at}
use Rattle.flight_words.proofs.is_flat.Goals as goal

pub returns : goal.returns
unfolding flat_to
returns c = let w = c.args.w.now in
    all_from_yields_List (λ i. leb (get_or w (marked-at i) 0) 1) _ _ _ c.all.ensures.ran (YieldsList-from_range 0 12 12 refl refl) (λ x b q k. search (rules, tests))
    ∙ all_below (λ i. leb (get_or w (marked-at i) 0) 1) (flat_to w) refl (λ i. by_less (λ (z : Bool). z ≡ both (leb (get_or w (marked-at i) 0) 1) (flat_to w i)) 1 (get_or w (marked-at i) 0) (λ h. sym (both_false _ (lt-leb _ _ h))) (λ h. sym (both_true (le-leb _ _ h)))) 12
