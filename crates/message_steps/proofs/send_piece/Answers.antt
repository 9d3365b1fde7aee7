-- `message_steps::send_piece` meets its contract: the content is put in its slot and the record laid, or nothing is done. Assumes nothing.
use Prim.Native.Nat.{ℕ, ◌+◌, ◌-◌, ◌*◌, ◌≤◌, ◌<◌}
use borrow.Rule.Slice.PartMut.{put_mid}
use lib.ListN.{length, get_or, take, drop}
use mathlib.Core.List.{List}
use mathlib.Core.Path.{◌≡◌, refl, sym, ap, subst, ◌∙◌}
use native.Mathlib.Omega.{arith}
use Rattle.base.specs.Parts.{part, splice, splice-here, lent}
use Rattle.outgoing.specs.Send.{Clear, spot_of}
use Rattle.flight.specs.Flight.{counted}
use Rattle.flight.specs.Save.{save_safe, kept-fits}
use Rattle.messages.specs.Cut.{epoch_of}
use Rattle.messages.specs.Message.{content_of, length-content}
use Rattle.send_words.specs.Words.{state_of}
use Rattle.flight_words.specs.Words.{saved-at}
use Rattle.save_steps.specs.Save.{saves-laid, saves-nothing}
use borrow.Author.Rules.{rules}
use Rattle.std.proofs.lemmas.Result.{err_from_is_err_and}
use Rattle.send_keys.specs.Answer.{is_done}
use Rattle.send_steps.specs.Steps.{placed-done, placed-refused}
use Rattle.message_steps.proofs.send_piece.Goals as goal

-- what was put in a slot is found there
slot-put : (g n : ℕ) (w z x : List ℕ) → x ≡ w → length w ≡ n → g + n ≤ length z → take (g + n - g) (drop g (put_mid g (g + n - g) z x)) ≡ w
slot-put g n w z x ex h l =
    let e : g + n - g ≡ length w = omega arith in
    rw ex (ap (λ (d : List ℕ). take (g + n - g) (drop g d)) (lent g (g + n) z w (omega arith))
    ∙ ap (λ (k : ℕ). part g k (splice g w z)) e ∙ splice-here g w z (omega arith))

pub overflow_mul-from : goal.overflow_mul-from
overflow_mul-from c = let a = c.args in let f = kept-fits (save_safe (state_of a.w.now) (counted (get_or a.f.now saved-at 0)) (length a.memory.now) (length a.kept.now) c.epoch_of-epoch.result 22 (12 + a.size) (ap is_done (placed-done _ (sym c.save_answer.ensures ∙ c.in_ok-p.was)).0)).keeps in omega arith

pub overflow_add-end : goal.overflow_add-end
overflow_add-end c = let a = c.args in let f = kept-fits (save_safe (state_of a.w.now) (counted (get_or a.f.now saved-at 0)) (length a.memory.now) (length a.kept.now) c.epoch_of-epoch.result 22 (12 + a.size) (ap is_done (placed-done _ (sym c.save_answer.ensures ∙ c.in_ok-p.was)).0)).keeps in omega arith

pub slice_bounds-write_content-end : goal.slice_bounds-write_content-end
slice_bounds-write_content-end c = let a = c.args in let f = kept-fits (save_safe (state_of a.w.now) (counted (get_or a.f.now saved-at 0)) (length a.memory.now) (length a.kept.now) c.epoch_of-epoch.result 22 (12 + a.size) (ap is_done (placed-done _ (sym c.save_answer.ensures ∙ c.in_ok-p.was)).0)).keeps in omega arith

pub slice_bounds-lay_saved-end : goal.slice_bounds-lay_saved-end
slice_bounds-lay_saved-end c = let a = c.args in let f = kept-fits (save_safe (state_of a.w.now) (counted (get_or a.f.now saved-at 0)) (length a.memory.now) (length a.kept.now) c.epoch_of-epoch.result 22 (12 + a.size) (ap is_done (placed-done _ (sym c.save_answer.ensures ∙ c.in_ok-p.was)).0)).keeps in search rules

pub lay_saved-requires : goal.lay_saved-requires
lay_saved-requires c = let a = c.args in
    let x = content_of a.kind (state_of a.w.now).message_seq a.body.now a.at a.size in
    let w = length-content a.kind (state_of a.w.now).message_seq a.body.now a.at a.size c.requires.0 in
    let k = save_safe (state_of a.w.now) (counted (get_or a.f.now saved-at 0)) (length a.memory.now) (length a.kept.now) c.epoch_of-epoch.result 22 (12 + a.size) (ap is_done (placed-done _ (sym c.save_answer.ensures ∙ c.in_ok-p.was)).0) in
    let i = get_or a.f.now saved-at 0 * (state_of a.w.now).queue.mtu in
    let z = rw c.low-seq.ensures at c.write_content.ensures in
    let y = slot-put i (12 + a.size) x a.kept.now _ z w (kept-fits k.keeps).0 in
    subst (λ (n : ℕ). Clear (state_of a.w.now) (length a.memory.now) c.epoch_of-epoch.result n × (c.in_ok-p.p ≡ spot_of (state_of a.w.now) c.epoch_of-epoch.result n) × (get_or a.f.now saved-at 0 < 12))
    (sym (ap length y ∙ w)) (k.clear, (placed-done _ (sym c.save_answer.ensures ∙ c.in_ok-p.was)).1, k.keeps.saved)

pub returns : goal.returns
returns c = let a = c.args in
    let x = content_of a.kind (state_of a.w.now).message_seq a.body.now a.at a.size in
    let w = length-content a.kind (state_of a.w.now).message_seq a.body.now a.at a.size c.requires.0 in
    let k = save_safe (state_of a.w.now) (counted (get_or a.f.now saved-at 0)) (length a.memory.now) (length a.kept.now) c.epoch_of-epoch.result 22 (12 + a.size) (ap is_done (placed-done _ (sym c.save_answer.ensures ∙ c.in_ok-p.was)).0) in
    let i = get_or a.f.now saved-at 0 * (state_of a.w.now).queue.mtu in
    let z = rw c.low-seq.ensures at c.write_content.ensures in
    let y = slot-put i (12 + a.size) x a.kept.now _ z w (kept-fits k.keeps).0 in
    let r = rw (y, c.epoch_of-epoch.ensures) at c.lay_saved.ensures in
    saves-laid (epoch_of a.kind) 22 x a.w.now a.f.now a.memory.now a.kept.now (rw w (rw c.epoch_of-epoch.ensures at (sym (placed-done _ (sym c.save_answer.ensures ∙ c.in_ok-p.was)).0))) _ _ _ _ refl r.0 r.1 r.2
    (ap (put_mid i (i + (12 + a.size) - i) a.kept.now) z ∙ lent i (i + (12 + a.size)) a.kept.now x (omega (arith, w)))

pub returns-in_err-p : goal.returns-in_err-p
returns-in_err-p c = let a = c.args in
    let p = err_from_is_err_and c.from_residual.result c.from_residual.ensures.1 in
    let x = content_of a.kind (state_of a.w.now).message_seq a.body.now a.at a.size in
    let w = length-content a.kind (state_of a.w.now).message_seq a.body.now a.at a.size c.requires.0 in
    rw (p.1, p.2) (saves-nothing (epoch_of a.kind) 22 x a.w.now a.f.now a.memory.now a.kept.now (rw w (rw c.epoch_of-epoch.ensures at (sym (placed-refused _ _ (sym c.save_answer.ensures ∙ c.in_err-p.was))))) refl)
