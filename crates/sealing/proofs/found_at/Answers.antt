-- `sealing::found_at` meets its contract. Assumes nothing.
use mathlib.Core.Path.{sym, ◌∙◌}
use Rattle.sealing.specs.Heads.{sealed-short, sealed-cut, sealed-small, sealed-waits}
use Rattle.sealing.proofs.found_at.Goals as goal

pub returns-then-size-lt-SEALED_HEADER_LEN : goal.returns-then-size-lt-SEALED_HEADER_LEN
returns-then-size-lt-SEALED_HEADER_LEN c = c.go_beyond.ensures ∙ sym (sealed-short c.args.d.now c.args.slot c.args.c c.requires.0 c.requires.1 c.if-size-lt-SEALED_HEADER_LEN.true)

pub returns-then-size-n : goal.returns-then-size-n
returns-then-size-n c = c.go_beyond-then-size-n.ensures ∙ sym (sealed-cut c.args.d.now c.args.slot c.args.c c.requires.0 c.requires.1 c.if-size-lt-SEALED_HEADER_LEN.false (rw c.be-n.ensures.0 at c.if-size-n.true))

pub returns-then-short : goal.returns-then-short
returns-then-short c = c.go_beyond-then-short.ensures ∙ sym (sealed-small c.args.d.now c.args.slot c.args.c c.requires.0 c.requires.1 c.if-size-lt-SEALED_HEADER_LEN.false (rw c.be-n.ensures.0 at c.if-size-n.false) (rw c.be-n.ensures.0 at c.if-short.true))

pub returns : goal.returns
returns c = rw (c.be-number.ensures.0, c.be-epoch.ensures.0, c.be-n.ensures.0) (sym (sealed-waits c.args.d.now c.args.slot c.args.c c.requires.0 c.requires.1 c.if-size-lt-SEALED_HEADER_LEN.false (rw c.be-n.ensures.0 at c.if-size-n.false) (rw c.be-n.ensures.0 at c.if-short.false)))
