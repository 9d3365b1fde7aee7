-- `recv_words::windows_sound` meets its contract. Invariant: the verdict on the entries that are left is the verdict on all. Assumes nothing.
use mathlib.Core.Path.{sym, ◌∙◌}
use Rattle.recv_keys.specs.Laws.{windows_in, windows-none, windows-out}
use Rattle.recv_words.proofs.windows_sound.Goals as goal

pub returns-then-window_at-gt281474976710655 : goal.returns-then-window_at-gt281474976710655
returns-then-window_at-gt281474976710655 c = sym (windows-out _ _ c.loop-i-test.true (rw c.window_at.ensures at c.if-window_at-gt281474976710655.true)) ∙ c.loop-i.invariant

pub loop-i-preserved : goal.loop-i-preserved
loop-i-preserved c = sym (windows_in _ _ c.loop-i-test.true (rw c.window_at.ensures at c.if-window_at-gt281474976710655.false)) ∙ c.loop-i.invariant

pub returns : goal.returns
returns c = sym (windows-none _ _ c.loop-i-test.false) ∙ c.loop-i.invariant
