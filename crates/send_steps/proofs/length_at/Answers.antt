-- `send_steps::length_at` meets its contract. Assumes nothing.
use mathlib.Core.Path.{sym}
use native.Mathlib.Omega.{arith}
use Rattle.send_words.specs.Laws.{slot-length}
use Rattle.send_steps.proofs.length_at.Goals as goal

pub returns : goal.returns
returns c = (sym (slot-length c.args.w.now c.args.slot c.requires), omega arith)
