-- `reason_steps::put_lines` meets its contract. Assumes nothing.
use Rattle.std.specs.Prelude.{◌≡◌, ℕ, ◌<◌, ◌≤◌, List}
use Rattle.std.proofs.Common.{refl, ◌∙◌, arith}
use Rattle.reasons.specs.Reasons.{most_records, records}
use Rattle.reason_steps.specs.Room.{lines_room, records-few, next-room, next-put, none-put, all-put}
use Rattle.reason_steps.specs.Writing.{put-length}
use Rattle.reason_steps.proofs.put_lines.Goals as goal

-- a record that is read is one of those that are
in-most : {n i : ℕ} (d : List ℕ) → n ≡ records d → i < n → i < most_records
in-most d e l = omega (arith, records-few d)

fits : {size size₀ : ℕ} → size ≡ size₀ → lines_room ≤ size₀ → lines_room ≤ size
fits e l = omega arith

pub loop-i-init : goal.loop-i-init
loop-i-init c = (c.count_records-n.ensures, c.new-kept.ensures c.args.input.now, none-put c.args.input.now c.args.out.now, refl, c.requires)

pub tell-told-requires : goal.tell-told-requires
tell-told-requires c = let v = c.loop-i.invariant in (v.1, in-most c.args.input.now v.0 (omega arith))

pub put_line-at-requires : goal.put_line-at-requires
put_line-at-requires c = let v = c.loop-i.invariant in
    let d = c.args.input.now in
    next-room d c.loop-i.i (in-most d v.0 (omega arith)) c.tell-told.ensures.told v.2.ends (fits v.3 v.4)

pub loop-i-preserved : goal.loop-i-preserved
loop-i-preserved c = let v = c.loop-i.invariant in
    let d = c.args.input.now in
    let t = c.tell-told.ensures in
    let p = c.put_line-at.ensures in
    let room = next-room d c.loop-i.i (in-most d v.0 (omega arith)) t.told v.2.ends (fits v.3 v.4) in
    (v.0, t.follows, next-put d c.loop-i.i t.told v.2 p, put-length p room ∙ v.3, v.4)

pub returns : goal.returns
returns c = let v = c.loop-i.invariant in all-put c.args.input.now c.loop-i.i (omega (arith, v.0)) v.2
