-- `sealing::plain_at` meets its contract. Assumes nothing.
use mathlib.Core.Path.{sym, ◌∙◌}
use Rattle.sealing.specs.Heads.{plain-short, plain-cut, plain-passed}
use Rattle.sealing.proofs.plain_at.Goals as goal

pub returns-then-size-lt-PLAINTEXT_HEADER_LEN : goal.returns-then-size-lt-PLAINTEXT_HEADER_LEN
returns-then-size-lt-PLAINTEXT_HEADER_LEN c = c.go_beyond.ensures ∙ sym (plain-short c.args.d.now c.args.slot c.args.c c.requires.0 c.requires.1 c.if-size-lt-PLAINTEXT_HEADER_LEN.true)

pub returns-then-size-n : goal.returns-then-size-n
returns-then-size-n c = c.go_beyond-then-size-n.ensures ∙ sym (plain-cut c.args.d.now c.args.slot c.args.c c.requires.0 c.requires.1 c.if-size-lt-PLAINTEXT_HEADER_LEN.false (rw c.be-n.ensures.0 at c.if-size-n.true))

pub returns : goal.returns
returns c = rw c.be-n.ensures.0 at c.go_past.ensures ∙ sym (plain-passed c.args.d.now c.args.slot c.args.c c.requires.0 c.requires.1 c.if-size-lt-PLAINTEXT_HEADER_LEN.false (rw c.be-n.ensures.0 at c.if-size-n.false))
