-- `send_calls::take_in_place` meets its contract. Assumes nothing.
use lib.ListN.{length}
use mathlib.Core.Path.{refl, sym, ap, ◌∙◌}
use Rattle.std.specs.Prelude.{Option, Result}
use Rattle.base.specs.Choose.{if_true, if_false}
use Rattle.send_words.specs.Words.{state_of}
use Rattle.taking.specs.declared.TakeError.{TakeError}
use Rattle.take_steps.specs.declared.Front.{Front}
use Rattle.take_steps.specs.Front.{told, begins}
use Rattle.send_calls.specs.Calls.{flat_part, part_at, place_answer, taken-part, no-part}
use Rattle.send_calls.proofs.take_in_place.Goals as goal

pub returns-then-is_flat : goal.returns-then-is_flat
returns-then-is_flat c = let w = c.args.w.now in let q = c.args.queue.now in let d = sym c.is_flat.ensures ∙ c.if-is_flat.true in let e = c.take_front.ensures in let p = c.flat_part.ensures ∙ ap (λ (r : Result (Option Front) TakeError). flat_part (told r) (begins r)) e.0 ∙ part_at (place_answer w (length q)) (state_of w) in (p ∙ sym (if_true _ _ d), (e.1.0 ∙ sym (if_true _ _ d), e.1.1), λ b h. taken-part c.flat_part.result w q b d p h)

pub returns : goal.returns
returns c = let w = c.args.w.now in let z = sym c.is_flat.ensures ∙ c.if-is_flat.false in (c.no_part.ensures ∙ sym (if_false _ _ z), (sym (if_false _ _ z), refl), λ b h. no-part c.no_part.result w c.args.queue.now b _ z c.no_part.ensures)
