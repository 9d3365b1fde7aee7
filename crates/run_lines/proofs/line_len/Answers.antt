-- `run_lines::line_len` meets its contract. Assumes nothing.
use Rattle.std.specs.Prelude.{Option, ℕ, unwrap_or, length}
use Rattle.std.proofs.Common.{ap, ◌∙◌}
use Rattle.run_lines.proofs.Lines.{line-is}
use Rattle.run_lines.proofs.line_len.Goals as goal

pub returns : goal.returns
returns c = let t = c.args.text.now in c.unwrap_or.ensures ∙ ap (λ (x : Option ℕ). unwrap_or x (length t)) c.newline.ensures ∙ line-is t
