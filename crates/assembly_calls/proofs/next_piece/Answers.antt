-- `assembly_calls::next_piece` meets its contract. Assumes nothing.
use Rattle.std.proofs.Common.{refl, sym, ◌∙◌, arith}
use Rattle.assembly_steps.specs.Steps.{offers}
use Rattle.assembly_calls.proofs.next_piece.Goals as goal

pub slice_bounds-offer-end : goal.slice_bounds-offer-end
slice_bounds-offer-end c = let m = c.piece_at.ensures.1.inside c.in-Some.h c.in-Some.is in omega arith

pub offer-requires : goal.offer-requires
offer-requires c =
    let a = c.args in
    let m = c.piece_at.ensures.1.inside c.in-Some.h c.in-Some.is in
    offers a.w.now a.c.now a.d.now c.if-d.false (sym c.is_sound.ensures ∙ c.if-not-is_sound.false) c.in-Some.h (omega arith) refl
