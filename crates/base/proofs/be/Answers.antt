-- `base::be` meets its contract: zeros in front of the bytes make no difference. Assumes nothing.
use Rattle.std.proofs.Common.{◌-◌, ◌∙◌, arith}
use Rattle.base.proofs.Bytes.{be_at-behind_zeros, be_at-lt}
use Rattle.base.proofs.be.Goals as goal

pub returns : goal.returns
returns g c =
    let number = c.from_be_bytes.ensures ∙ be_at-behind_zeros (8 - g.row.N) g.row.N (omega (arith, c.requires.1)) c.args.d.now c.copy_from_slice.new.self c.args.i c.requires.0 c.copy_from_slice.ensures.after in
    (number, rw number (be_at-lt g.row.N c.args.d.now c.args.i (λ j. omega (arith, c.type_inv.d j))))
