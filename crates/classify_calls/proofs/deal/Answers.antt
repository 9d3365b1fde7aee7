-- `classify_calls::deal` meets its contract. Assumes nothing.
use Rattle.classify.specs.declared.Class.TheVariants as class
use Rattle.base.specs.Choose.{if_true}
use mathlib.Core.Path.{refl, sym, ◌∙◌}
use Rattle.classify_calls.specs.Laws.{dealt, rests, acted}
use Rattle.classify_calls.proofs.deal.Goals as goal

pub returns-in-Setting : goal.returns-in-Setting
returns-in-Setting c = let a = c.args in rests _ a.w.now _ a.x.now a.f.now a.numbers.now a.d.now _ class.Setting c.in-Setting.is refl refl c.told.ensures refl

pub returns-in-Reply : goal.returns-in-Reply
returns-in-Reply c = let a = c.args in rests _ a.w.now _ a.x.now a.f.now a.numbers.now a.d.now _ class.Reply c.in-Reply.is refl refl c.told-in-Reply.ensures refl

pub returns-in-Nothing : goal.returns-in-Nothing
returns-in-Nothing c = let a = c.args in rests _ a.w.now _ a.x.now a.f.now a.numbers.now a.d.now _ class.Nothing c.in-Nothing.is refl refl c.told-in-Nothing.ensures refl

pub returns-in-Beyond : goal.returns-in-Beyond
returns-in-Beyond c = let a = c.args in rests _ a.w.now _ a.x.now a.f.now a.numbers.now a.d.now _ class.Beyond c.in-Beyond.is refl refl c.leave.ensures.0 c.leave.ensures.1

pub returns-in-Unprotected : goal.returns-in-Unprotected
returns-in-Unprotected c = let a = c.args in rests _ a.w.now _ a.x.now a.f.now a.numbers.now a.d.now _ class.Unprotected c.in-Unprotected.is refl refl c.leave-in-Unprotected.ensures.0 c.leave-in-Unprotected.ensures.1

pub returns-in-Ignored : goal.returns-in-Ignored
returns-in-Ignored c = let a = c.args in rests _ a.w.now _ a.x.now a.f.now a.numbers.now a.d.now _ class.Ignored c.in-Ignored.is refl refl c.leave-in-Ignored.ensures.0 c.leave-in-Ignored.ensures.1

pub returns-in-Ack : goal.returns-in-Ack
returns-in-Ack c = let a = c.args in acted _ a.w.now _ a.x.now _ a.f.now _ a.numbers.now a.d.now _ c.in-Ack.is (c.act.ensures a.w.now)

pub returns-in-Close : goal.returns-in-Close
returns-in-Close c = let a = c.args in rests _ a.w.now _ a.x.now a.f.now a.numbers.now a.d.now _ class.Close c.in-Close.is refl refl c.remember.ensures.0 c.remember.ensures.1

pub returns-in-Alert : goal.returns-in-Alert
returns-in-Alert c = let a = c.args in dealt _ _ a.w.now _ a.x.now a.f.now a.numbers.now a.d.now _ _ (class.Alert c.in-Alert.description) c.in-Alert.is refl c.leave-in-Alert.ensures.0 (c.finish.ensures.0 ∙ sym (if_true _ _ refl)) c.finish.ensures.1 c.leave-in-Alert.ensures.1

pub returns-in-Handshake : goal.returns-in-Handshake
returns-in-Handshake c = let a = c.args in rests _ a.w.now _ a.x.now a.f.now a.numbers.now a.d.now _ class.Handshake c.in-Handshake.is refl refl c.leave-in-Handshake.ensures.0 c.leave-in-Handshake.ensures.1

pub returns-in-ApplicationData : goal.returns-in-ApplicationData
returns-in-ApplicationData c = let a = c.args in rests _ a.w.now _ a.x.now a.f.now a.numbers.now a.d.now _ class.ApplicationData c.in-ApplicationData.is refl refl c.leave-in-ApplicationData.ensures.0 c.leave-in-ApplicationData.ensures.1

pub returns-in-Other : goal.returns-in-Other
returns-in-Other c = let a = c.args in rests _ a.w.now _ a.x.now a.f.now a.numbers.now a.d.now _ class.Other c.in-Other.is refl refl c.leave-in-Other.ensures.0 c.leave-in-Other.ensures.1

pub returns-in-Unopened : goal.returns-in-Unopened
returns-in-Unopened c = let a = c.args in rests _ a.w.now _ a.x.now a.f.now a.numbers.now a.d.now _ class.Unopened c.in-Unopened.is refl refl c.leave-in-Unopened.ensures.0 c.leave-in-Unopened.ensures.1
