-- `process_ack::Pairs::new` meets its contract. Assumes nothing.
use Rattle.std.proofs.Common.{sym, ◌∙◌, arith}
use Rattle.process_ack.proofs.Ack.{formed-long}
use Rattle.process_ack.proofs.Pairs.new.Goals as goal

pub overflow_sub-count : goal.overflow_sub-count
overflow_sub-count c = formed-long _ (sym c.is_formed.ensures ∙ c.if-not-is_formed.false)

pub invariant_of-result : goal.invariant_of-result
invariant_of-result c = let l = formed-long _ (sym c.is_formed.ensures ∙ c.if-not-is_formed.false) in record { inside = omega arith }
