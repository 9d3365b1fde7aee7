-- `mask_calls::go_on` meets its contract. Assumes nothing.
use native.Mathlib.Omega.{arith}
use Rattle.recv_words.specs.Words.{keys_of}
use Rattle.mask_calls.specs.Laws.{held_below, with-key, without_key}
use Rattle.mask_calls.proofs.go_on.Goals as goal

pub mask_at-m-requires : goal.mask_at-m-requires
mask_at-m-requires c = let a = c.args in
    omega (arith, held_below (keys_of a.w.now) a.a.epoch _ a.k.now c.in-Some.is c.keyed_entry.ensures)

pub returns-in-Some : goal.returns-in-Some
returns-in-Some c = let s = c in
    let a = s.args in
    with-key a.a a.w.now a.k.now _ _ _ a.d.now _ _ s.requires c.in-Some.is c.keyed_entry.ensures c.mask_at-m.ensures c.mask.ensures

pub returns-in-None : goal.returns-in-None
returns-in-None c = let s = c in
    let a = s.args in
    without_key a.a a.w.now a.k.now a.d.now s.requires c.in-None.is c.keyed_entry.ensures
