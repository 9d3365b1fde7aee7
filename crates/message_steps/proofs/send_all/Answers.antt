-- `message_steps::send_all` meets its contract. The loop's invariant is `Going`, whatever the table of numbers: what is left gives the whole.
-- Assumes nothing.
use Prim.Native.Nat.{◌+◌, ◌-◌, ◌≤◌}
use lib.ListN.{length}
use mathlib.Core.List.{[]}
use mathlib.Core.Path.{refl, ◌∙◌}
use native.Mathlib.Omega.{arith}
use Rattle.messages.specs.Cut.{size-rest}
use Rattle.messages.specs.Message.{going_end, going_last, going_more}
use Rattle.queue.specs.Laid.{len_small}
use Rattle.send_words.specs.Words.{state_of}
use Rattle.message_steps.specs.Create.{piece_is}
use Rattle.message_steps.proofs.send_all.Goals as goal

pub loop-n-init : goal.loop-n-init
loop-n-init c = (λ l. record { turns = omega arith; inside = omega arith; range = c.requires.0; same = refl; queue = refl; kept = refl }, λ z. z, λ z. z)

pub last_len-used-requires : goal.last_len-used-requires
last_len-used-requires c = (c.loop-n.invariant.0 []).range

pub overflow_sub-body : goal.overflow_sub-body
overflow_sub-body c = omega (arith, (c.loop-n.invariant.0 []).inside)

pub piece_size-size-requires : goal.piece_size-size-requires
piece_size-size-requires c = ((c.loop-n.invariant.0 []).range.low, omega (arith, c.record_len-over.ensures, len_small c.epoch_of.result 12), c.last_len-used.ensures.1)

pub send_piece-a-requires : goal.send_piece-a-requires
send_piece-a-requires c = (omega (arith, c.piece_size-size.ensures, size-rest (state_of c.loop-n.w).queue.mtu c.record_len-over.result c.last_len-used.result (length c.args.body.now - c.loop-n.at), (c.loop-n.invariant.0 []).inside, c.requires.1), c.requires.1)

pub overflow_add-at : goal.overflow_add-at
overflow_add-at c = omega (arith, c.piece_size-size.ensures, size-rest (state_of c.loop-n.w).queue.mtu c.record_len-over.result c.last_len-used.result (length c.args.body.now - c.loop-n.at), (c.loop-n.invariant.0 []).inside, c.requires.1)

pub overflow_sub-all : goal.overflow_sub-all
overflow_sub-all c = omega (arith, c.piece_size-size.ensures, size-rest (state_of c.loop-n.w).queue.mtu c.record_len-over.result c.last_len-used.result (length c.args.body.now - c.loop-n.at), (c.loop-n.invariant.0 []).inside, c.requires.1)

pub shape_of-memory-then-all : goal.shape_of-memory-then-all
shape_of-memory-then-all c = c.send_piece-a.auto.memory ∙ (c.loop-n.invariant.0 []).queue

pub shape_of-kept-then-all : goal.shape_of-kept-then-all
shape_of-kept-then-all c = c.send_piece-a.auto.kept ∙ (c.loop-n.invariant.0 []).kept

pub returns-then-all : goal.returns-then-all
returns-then-all c = let a = c.args in
    let b = c.loop-n in
    let y = c.send_piece-a.ensures in
    let s = rw (c.last_len-used.ensures.0, c.record_len-over.ensures, c.epoch_of.ensures) at c.piece_size-size.ensures in
    let i : b.at + c.piece_size-size.result ≤ length a.body.now = omega (arith, c.piece_size-size.ensures, size-rest (state_of c.loop-n.w).queue.mtu c.record_len-over.result c.last_len-used.result (length c.args.body.now - c.loop-n.at), (c.loop-n.invariant.0 []).inside, c.requires.1) in
    record { all = λ l. going_last (b.invariant.0 l) c.loop-n-test.true s (piece_is a.kind b.at c.piece_size-size.result a.body.now b.w _ b.f _ b.memory _ b.kept _ i y l) c.send_piece-a.auto.memory c.send_piece-a.auto.kept c.if-all.true; flat = λ z. y.flat (b.invariant.1 z); marks = λ z. y.marks (b.invariant.2 z) }

pub loop-n-preserved : goal.loop-n-preserved
loop-n-preserved c = let a = c.args in
    let b = c.loop-n in
    let y = c.send_piece-a.ensures in
    let s = rw (c.last_len-used.ensures.0, c.record_len-over.ensures, c.epoch_of.ensures) at c.piece_size-size.ensures in
    let i : b.at + c.piece_size-size.result ≤ length a.body.now = omega (arith, c.piece_size-size.ensures, size-rest (state_of c.loop-n.w).queue.mtu c.record_len-over.result c.last_len-used.result (length c.args.body.now - c.loop-n.at), (c.loop-n.invariant.0 []).inside, c.requires.1) in
    (λ l. going_more (b.invariant.0 l) c.loop-n-test.true s (piece_is a.kind b.at c.piece_size-size.result a.body.now b.w _ b.f _ b.memory _ b.kept _ i y l) c.send_piece-a.auto.memory c.send_piece-a.auto.kept c.if-all.false i, λ z. y.flat (b.invariant.1 z), λ z. y.marks (b.invariant.2 z))

pub shape_of-memory : goal.shape_of-memory
shape_of-memory c = (c.loop-n.invariant.0 []).queue

pub shape_of-kept : goal.shape_of-kept
shape_of-kept c = (c.loop-n.invariant.0 []).kept

pub returns : goal.returns
returns c = record { all = λ l. going_end (c.loop-n.invariant.0 l) c.loop-n-test.false; flat = c.loop-n.invariant.1; marks = c.loop-n.invariant.2 }
