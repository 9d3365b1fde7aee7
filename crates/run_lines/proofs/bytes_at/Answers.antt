-- `run_lines::bytes_at` meets its contract: zeros are written over. Assumes nothing.
use Rattle.std.specs.Prelude.{ℕ, List, get_or, replicate}
use Rattle.std.proofs.Common.{ap, ◌∙◌, arith}
use Rattle.std.proofs.lemmas.List.{get_or-drop, length-replicate}
use Rattle.run_lines.proofs.Lines.{sets-over, zeros}
use Rattle.run_lines.proofs.bytes_at.Goals as goal

pub returns : goal.returns
returns g c = λ k l.
    let n : ℕ = g.row.N in
    ap (λ (x : List ℕ). get_or x k 0) c.push_all.ensures.1
    ∙ sets-over c.behind.result.now (replicate n 0) 0 k k (omega arith) (omega (arith, l, length-replicate {A = ℕ} n 0)) (λ j _. zeros n j)
    ∙ ap (λ (x : List ℕ). get_or x k 0) c.behind.ensures ∙ get_or-drop c.args.i c.args.d.now k 0
