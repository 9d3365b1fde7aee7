-- `run_lines::line` meets its contract. Assumes nothing.
use Rattle.run_lines.specs.Lines.{line_of}
use Rattle.run_lines.proofs.Lines.{front_written}
use Rattle.run_lines.proofs.line.Goals as goal

pub returns : goal.returns
returns c = let a = c.args in
    rw (c.encode-n.ensures.0, c.encode-n.ensures.1) (front_written (line_of a.letter a.d.now) a.out.now)
