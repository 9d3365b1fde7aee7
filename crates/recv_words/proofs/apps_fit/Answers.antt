-- `recv_words::apps_fit` meets its contract: no more application epochs than epochs. Assumes nothing.
use borrow.Author.Tests.{le-leb}
use mathlib.Core.Path.{sym, ◌∙◌}
use native.Mathlib.Omega.{arith}
use Rattle.recv_keys.specs.Keeps.{apps-le}
use Rattle.recv_keys.specs.Keys.{apps}
use Rattle.recv_words.specs.Words.{entries_of}
use Rattle.recv_words.proofs.apps_fit.Goals as goal

pub returns-then-count-le-APPS : goal.returns-then-count-le-APPS
returns-then-count-le-APPS c = le-leb _ _ c.if-count-le-APPS.true ∙ sym (le-leb (apps (entries_of c.args.w.now) c.args.count) 4 (omega (arith, apps-le (entries_of c.args.w.now) c.args.count, c.if-count-le-APPS.true)))
