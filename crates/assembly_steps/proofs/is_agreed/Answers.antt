-- `assembly_steps::is_agreed` meets its contract. Assumes nothing.
use Rattle.std.proofs.Common.{arith}
use Rattle.assembly.proofs.Assembly.{fit-total, fit-end}
use Rattle.assembly_steps.proofs.is_agreed.Goals as goal

pub shares-requires : goal.shares-requires
shares-requires c =
    let a = c.args in
    let w = a.w.now in
    let pre = c.requires.0 in
    let f = c.requires.1 in
    let x = fit-total w a.h f in
    let y = fit-end w a.h f in
    let z = pre.body in
    let r = pre.room in
    (omega arith, omega arith)
