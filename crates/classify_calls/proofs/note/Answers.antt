-- `classify_calls::note` meets its contract. Assumes nothing.
use mathlib.Core.Path.{sym, ◌∙◌}
use Rattle.classify_calls.specs.Laws.{notes-nothing, notes, notes-none}
use Rattle.classify_calls.proofs.note.Goals as goal

pub returns-then-kind-eq0 : goal.returns-then-kind-eq0
returns-then-kind-eq0 c = notes-nothing _ _ c.from-kind.ensures c.if-kind-eq0.true

pub returns-then-is_content : goal.returns-then-is_content
returns-then-is_content c = notes _ c.args.x.now c.from-kind.ensures c.if-kind-eq0.false c.from.ensures c.from-then-is_content.ensures (sym c.is_content.ensures ∙ c.if-is_content.true)

pub returns : goal.returns
returns c = c.clear.ensures ∙ notes-none _ c.args.x.now c.from-kind.ensures c.if-kind-eq0.false (sym c.is_content.ensures ∙ c.if-is_content.false)
