-- `recv_steps::one_record` meets its contract, by what begins the slice. Assumes nothing.
use mathlib.Core.Path.{◌∙◌, sym}
use native.Mathlib.Omega.{arith}
use Rattle.record.specs.Laws.{inside}
use Rattle.records.specs.Records.{step_of}
use Rattle.recv_steps.proofs.one_record.Goals as goal

pub overflow_add-start-in-Invalid : goal.overflow_add-start-in-Invalid
overflow_add-start-in-Invalid c = omega (arith, rw (sym c.parse-p.ensures ∙ c.in-Invalid.is) at (inside c.args.d.now), c.requires.1)

pub overflow_add-start-in-Plaintext : goal.overflow_add-start-in-Plaintext
overflow_add-start-in-Plaintext c = omega (arith, rw (sym c.parse-p.ensures ∙ c.in-Plaintext.is) at (inside c.args.d.now), c.requires.1)

pub sealed_step-requires : goal.sealed_step-requires
sealed_step-requires c = (c.requires.0, omega (arith, (rw (sym c.parse-p.ensures ∙ c.in-Ciphertext.is) at (inside c.args.d.now)).fits, c.requires.1))

pub returns-in-End : goal.returns-in-End
unfolding step_of
returns-in-End c = rw (sym c.parse-p.ensures ∙ c.in-End.is) c.end.ensures

pub returns-in-Incomplete : goal.returns-in-Incomplete
unfolding step_of
returns-in-Incomplete c = rw (sym c.parse-p.ensures ∙ c.in-Incomplete.is) c.end-in-Incomplete.ensures

pub returns-in-Invalid : goal.returns-in-Invalid
unfolding step_of
returns-in-Invalid c = rw (sym c.parse-p.ensures ∙ c.in-Invalid.is) c.pass.ensures

pub returns-in-Plaintext : goal.returns-in-Plaintext
unfolding step_of
returns-in-Plaintext c = rw (sym c.parse-p.ensures ∙ c.in-Plaintext.is) c.count.ensures

pub returns-in-Ciphertext : goal.returns-in-Ciphertext
unfolding step_of
returns-in-Ciphertext c = rw (sym c.parse-p.ensures ∙ c.in-Ciphertext.is) c.sealed_step.ensures
