-- `seal_steps::seek_from` meets its contract. The loop's invariant: what is found from here in the steps that are left is what is found
-- from the start. Assumes nothing.
use Prim.Native.Nat.{◌-◌}
use mathlib.Core.Path.{◌≡◌}
use Rattle.sealing.specs.Seek.{seek}
use Rattle.send_words.specs.Words.{queue_of}
use Rattle.seal_steps.proofs.seek_from.Given as goal

abbrev pub invariant-loop : goal.invariant-loop
invariant-loop l = seek (1999 - l.counter) (queue_of l.w) l.d l.c ≡ seek 1999 (queue_of l.w) l.d l.initial.c
