-- `assembly_steps::offer` meets its contract. Assumes nothing.
use Rattle.std.proofs.Common.{sym, ap, ◌∙◌, arith}
use Rattle.assembly.specs.Spans.{count_of, expected_of}
use Rattle.assembly.proofs.Words.{held-count, held-expected}
use Rattle.assembly.proofs.Assembly.{fit-number, fit-total, fit-end}
use Rattle.assembly_steps.proofs.offer.Goals as goal

pub put_body-requires : goal.put_body-requires
put_body-requires c =
    let a = c.args in
    let w = a.w.now in
    let pre = c.requires in
    let f = sym c.is_fit.ensures ∙ c.if-not-is_fit.false in
    let x = fit-total w a.h f in
    let y = fit-end w a.h f in
    let z = pre.body in
    let r = pre.room in
    (omega arith, omega arith)

pub finish-requires : goal.finish-requires
finish-requires c =
    let a = c.args in
    let w = a.w.now in
    let x = fit-number w a.h (sym c.is_fit.ensures ∙ c.if-not-is_fit.false) in
    let e = c.hold.ensures.0 in
    let l = c.hold.ensures.1 in
    let few = c.if-n-ge-MOST_PIECES.false in
    (omega (arith, ap count_of e, held-count w a.h a.next l few), omega (arith, ap expected_of e, held-expected w a.h a.next))
