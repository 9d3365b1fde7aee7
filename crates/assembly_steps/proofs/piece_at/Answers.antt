-- `assembly_steps::piece_at` meets its contract. Assumes nothing.
use Rattle.std.proofs.Common.{rules, ◌≡◌, take_all, drop, ◌-◌, sym, ◌∙◌, arith, None, subst, Option, length, length-drop, lt-ltb, le-ltb}
use Rattle.base.specs.Choose.{if_true, if_false}
use Rattle.handshake.specs.declared.Header.{Header}
use Rattle.assembly.specs.Assembly.{piece_at}
use Rattle.assembly_steps.specs.Parts.{Measured}
use Rattle.assembly_steps.specs.Steps.{cut-measured, piece_is, read-measured}
use Rattle.assembly_steps.proofs.piece_at.Goals as goal

pub returns-in_err-h : goal.returns-in_err-h
returns-in_err-h c =
    let a = c.args in
    let s = a.c.now in
    let e : c.from_residual.result ≡ None = search rules in
    let f : c.parse_header.result ≡ None = search rules in
    subst (λ (p : Option Header). (p ≡ piece_at s a.at) × Measured p s a.at) (sym e) (piece_is s a.at (take_all (length s - a.at) (drop a.at s) (omega (arith, length-drop a.at s))) c.parse_header.ensures f, cut-measured s a.at)

pub returns-then-rest-h : goal.returns-then-rest-h
returns-then-rest-h c =
    let a = c.args in
    let s = a.c.now in
    (sym (if_true _ _ (lt-ltb _ _ c.if-rest-h.true)) ∙ piece_is s a.at (take_all (length s - a.at) (drop a.at s) (omega (arith, length-drop a.at s))) c.parse_header.ensures c.in_ok-h.was, cut-measured s a.at)

pub returns : goal.returns
returns c =
    let a = c.args in
    let s = a.c.now in
    let e = length-drop a.at s in
    (sym (if_false _ _ (le-ltb _ _ c.if-rest-h.false)) ∙ piece_is s a.at (take_all (length s - a.at) (drop a.at s) (omega (arith, length-drop a.at s))) c.parse_header.ensures c.in_ok-h.was, read-measured s a.at c.in_ok-h.h (omega (arith, c.if-rest-h.false, e, c.requires)))
