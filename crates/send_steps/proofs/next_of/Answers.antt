-- `send_steps::next_of` meets its contract. Assumes nothing.
use mathlib.Core.Path.{sym}
use Rattle.send_keys.specs.Keys.{next-plaintext, next-handshake, next-application}
use Rattle.send_words.specs.Words.{state_of}
use Rattle.send_steps.proofs.next_of.Goals as goal

pub returns-then-epoch-eq0 : goal.returns-then-epoch-eq0
returns-then-epoch-eq0 c = sym (next-plaintext (state_of c.args.w.now).keys c.if-epoch-eq0.true)

pub returns-then-epoch-eq2 : goal.returns-then-epoch-eq2
returns-then-epoch-eq2 c = sym (next-handshake (state_of c.args.w.now).keys c.if-epoch-eq0.false c.if-epoch-eq2.true)

pub returns : goal.returns
returns c = sym (next-application (state_of c.args.w.now).keys c.if-epoch-eq0.false c.if-epoch-eq2.false)
