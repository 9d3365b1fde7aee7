-- `reason_steps::Kept::tell` meets its contract: each test by the law of its case. Assumes nothing.
use Rattle.std.specs.Prelude.{Some, None}
use Rattle.std.proofs.Common.{subst, sym, ◌∙◌, arith}
use Rattle.reasons.specs.declared.Told.{Told}
use Rattle.reason_steps.specs.Kept.{SteppedIn, found-is, top_small, new_small, tell-short, tell_record, tell-epoch, tell-known, tell-new}
use Rattle.reason_steps.proofs.Kept.tell.Goals as goal

pub returns-then-r-lt-RECORD : goal.returns-then-r-lt-RECORD
returns-then-r-lt-RECORD c = let a = c.args in
    subst (λ (t : Told). SteppedIn a.input.now a.i t a.self.now) (sym c.only.ensures) (tell-short a.input.now a.i a.self.now c.requires.0 c.fragment-r.ensures (omega arith))

pub returns-then-not-is_well_formed : goal.returns-then-not-is_well_formed
returns-then-not-is_well_formed c = let a = c.args in
    subst (λ (t : Told). SteppedIn a.input.now a.i t a.self.now) (sym c.only-then-not-is_well_formed.ensures)
    (tell_record a.input.now a.i a.self.now c.requires.0 c.fragment-r.ensures (omega arith) (sym c.is_well_formed.ensures ∙ c.if-not-is_well_formed.true))

pub in_slot-requires : goal.in_slot-requires
in_slot-requires c = let a = c.args in
    let h = c.requires.0 in
    let f = found-is a.self.now c.be-e.result (Some c.in-Some.s) (omega (arith, h.few)) c.in-Some.ensures in
    (omega arith, omega (arith, f.0, h.few), top_small a.input.now a.i a.self.now h c.requires.1 _ f.0)

pub returns-in-Some : goal.returns-in-Some
returns-in-Some c = let a = c.args in
    let h = c.requires.0 in
    let f = found-is a.self.now c.be-e.result (Some c.in-Some.s) (omega (arith, h.few)) c.in-Some.ensures in
    tell-known a.input.now a.i a.self.now h c.fragment-r.ensures (omega arith) (sym c.is_well_formed.ensures ∙ c.if-not-is_well_formed.false) c.be-e.ensures.0 f c.in_slot.ensures

pub returns-in-None : goal.returns-in-None
returns-in-None c = let a = c.args in
    let h = c.requires.0 in
    let f = found-is a.self.now c.be-e.result None (omega (arith, h.few)) c.in-None.ensures in
    subst (λ (t : Told). SteppedIn a.input.now a.i t a.self.now) (sym c.only-in-None.ensures)
    (tell-epoch a.input.now a.i a.self.now h c.fragment-r.ensures (omega arith) (sym c.is_well_formed.ensures ∙ c.if-not-is_well_formed.false) c.be-e.ensures.0 f c.if-self-eq-MOST_KEPT.true)

pub in_slot-requires-in-None-2 : goal.in_slot-requires-in-None-2
in_slot-requires-in-None-2 c = let b = c.begin-s.ensures in
    let h = c.requires.0 in
    (omega arith, omega (arith, b.0, h.few, c.if-self-eq-MOST_KEPT.false), new_small c.args.self.now c.be-e.result b.0 (omega (arith, h.few, c.if-self-eq-MOST_KEPT.false)) b.1)

pub returns-in-None-2 : goal.returns-in-None-2
returns-in-None-2 c = let a = c.args in
    let h = c.requires.0 in
    let b = c.begin-s.ensures in
    let f = found-is a.self.now c.be-e.result None (omega (arith, h.few)) c.in-None.ensures in
    tell-new a.input.now a.i a.self.now h c.fragment-r.ensures (omega arith) (sym c.is_well_formed.ensures ∙ c.if-not-is_well_formed.false) c.be-e.ensures.0 f
    (omega (arith, h.few, c.if-self-eq-MOST_KEPT.false)) b.0 b.1 c.in_slot-in-None-2.ensures
