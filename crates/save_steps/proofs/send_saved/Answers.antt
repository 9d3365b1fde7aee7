-- `save_steps::send_saved` meets its contract: the content is saved, the record laid, or nothing done. Assumes nothing.
use Prim.Native.Nat.{◌+◌, ◌-◌, ◌*◌}
use borrow.Rule.Slice.PartMut.{put_mid}
use lib.ListN.{length, get_or}
use mathlib.Core.Path.{refl, sym, ap, ◌∙◌}
use native.Mathlib.Omega.{arith}
use Rattle.base.specs.Parts.{lent}
use Rattle.outgoing.proofs.Send.{clear-short}
use Rattle.flight.specs.Flight.{counted}
use Rattle.flight.specs.Save.{save_safe, kept-fits}
use Rattle.send_words.specs.Words.{state_of}
use Rattle.flight_words.specs.Words.{saved-at}
use Rattle.save_steps.specs.Save.{saves-laid, saves-nothing}
use borrow.Author.Rules.{rules}
use Rattle.std.proofs.lemmas.Result.{err_from_is_err_and}
use Rattle.send_keys.specs.Answer.{is_done}
use Rattle.send_steps.specs.Steps.{placed-done, placed-refused}
use Rattle.save_steps.proofs.send_saved.Goals as goal

pub overflow_mul-at : goal.overflow_mul-at
overflow_mul-at c = let a = c.args in let f = kept-fits (save_safe (state_of a.w.now) (counted (get_or a.f.now saved-at 0)) (length a.memory.now) (length a.kept.now) a.epoch a.t (length a.content.now) (ap is_done (placed-done _ (sym c.save_answer.ensures ∙ c.in_ok-p.was)).0)).keeps in omega arith

pub overflow_add-end : goal.overflow_add-end
overflow_add-end c = let a = c.args in let f = kept-fits (save_safe (state_of a.w.now) (counted (get_or a.f.now saved-at 0)) (length a.memory.now) (length a.kept.now) a.epoch a.t (length a.content.now) (ap is_done (placed-done _ (sym c.save_answer.ensures ∙ c.in_ok-p.was)).0)).keeps in omega arith

pub slice_bounds-move_bytes-end : goal.slice_bounds-move_bytes-end
slice_bounds-move_bytes-end c = let a = c.args in let f = kept-fits (save_safe (state_of a.w.now) (counted (get_or a.f.now saved-at 0)) (length a.memory.now) (length a.kept.now) a.epoch a.t (length a.content.now) (ap is_done (placed-done _ (sym c.save_answer.ensures ∙ c.in_ok-p.was)).0)).keeps in omega arith

pub move_bytes-requires : goal.move_bytes-requires
move_bytes-requires c = let a = c.args in let short = clear-short (save_safe (state_of a.w.now) (counted (get_or a.f.now saved-at 0)) (length a.memory.now) (length a.kept.now) a.epoch a.t (length a.content.now) (ap is_done (placed-done _ (sym c.save_answer.ensures ∙ c.in_ok-p.was)).0)).clear in (search rules, omega arith)

pub lay_saved-requires : goal.lay_saved-requires
lay_saved-requires c = let a = c.args in let s = save_safe (state_of a.w.now) (counted (get_or a.f.now saved-at 0)) (length a.memory.now) (length a.kept.now) a.epoch a.t (length a.content.now) (ap is_done (placed-done _ (sym c.save_answer.ensures ∙ c.in_ok-p.was)).0) in (s.clear, (placed-done _ (sym c.save_answer.ensures ∙ c.in_ok-p.was)).1, s.keeps.saved)

pub returns : goal.returns
returns c = let a = c.args in
    let i = get_or a.f.now saved-at 0 * (state_of a.w.now).queue.mtu in
    let n = length a.content.now in
    let y = c.lay_saved.ensures in
    saves-laid a.epoch a.t a.content.now a.w.now a.f.now a.memory.now a.kept.now (sym (placed-done _ (sym c.save_answer.ensures ∙ c.in_ok-p.was)).0) _ _ _ _ refl y.0 y.1 y.2
    (ap (put_mid i (i + n - i) a.kept.now) c.move_bytes.ensures ∙ lent i (i + n) a.kept.now a.content.now (omega arith))

pub returns-in_err-p : goal.returns-in_err-p
returns-in_err-p c =
    let a = c.args in
    let p = err_from_is_err_and c.from_residual.result c.from_residual.ensures.1 in
    rw (p.1, p.2) (saves-nothing a.epoch a.t a.content.now a.w.now a.f.now a.memory.now a.kept.now (sym (placed-refused _ _ (sym c.save_answer.ensures ∙ c.in_err-p.was))) refl)
