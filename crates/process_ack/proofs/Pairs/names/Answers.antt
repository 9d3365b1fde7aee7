-- `process_ack::Pairs::names` meets its contract. Assumes nothing.
use Rattle.std.proofs.Common.{refl, ◌∙◌, arith, rules, tests}
use Rattle.std.proofs.lemmas.Iterator.{YieldsList-from_range}
use Rattle.std.proofs.lemmas.Iterator.Search.{any_from_yields_List}
use Rattle.base.proofs.Ranges.{any_below}
use Rattle.process_ack.specs.Ack.{is_pair, is_named}
use Rattle.process_ack.proofs.Pairs.names.Goals as goal

pub returns : goal.returns
unfolding is_named
returns c =
    any_from_yields_List (λ i. is_pair c.args.self.content.now i c.args.epoch c.args.number) _ _ _ c.any.ensures.ran (YieldsList-from_range 0 c.args.self.count c.args.self.count refl (omega arith)) (λ x b q k. search (rules, tests))
    ∙ any_below (λ i. is_pair c.args.self.content.now i c.args.epoch c.args.number) (is_named c.args.self.content.now c.args.epoch c.args.number) refl (λ i. refl) c.args.self.count
