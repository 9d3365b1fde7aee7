-- `run_lines::read` meets its contract. Assumes nothing.
use Rattle.std.specs.Prelude.{List, ℕ, take, drop, length}
use Rattle.std.proofs.Common.{◌∙◌, ◌≡◌, refl, ap}
use Rattle.run_lines.specs.Lines.{line_in, bytes_of}
use Rattle.run_lines.proofs.Lines.{front_written}
use Rattle.run_lines.proofs.read.Goals as goal

pub returns-clause-bytes : goal.returns-clause-bytes
returns-clause-bytes c = let a = c.args in
    let n : c.behind.result.now ≡ drop 2 (line_in a.text.now) = rw (c.behind.ensures, c.fragment-line.ensures, c.line_len.ensures) refl in
    rw (c.decode-n.ensures.0, c.decode-n.ensures.1) (front_written (bytes_of c.behind.result.now) a.out.now) ∙ ap (λ (x : List ℕ). take (length a.out.now) (bytes_of x)) n
