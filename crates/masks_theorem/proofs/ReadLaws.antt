-- What a reading tells of the question that waits behind it: a mask is asked exactly if the reading is a mask question. Assumes nothing.
use Rattle.std.specs.Prelude.{ℕ, List, ◌≡◌, refl}
use Rattle.std.proofs.Math.Option.{Option}
use Rattle.std.proofs.Common.{sym, ap, subst, ◌∙◌, arith}
use Rattle.base.specs.Choose.{if_true, if_false}
use Rattle.datagram.specs.declared.Reading.TheVariants as says
use Rattle.datagram.specs.declared.Reading.{Reading}
use Rattle.recv_calls.specs.declared.HuskReading.{HuskReading}
use Rattle.history_theorem.specs.Account.{Shown, nothing, a_mask, an_opening, Account}
use Rattle.history_theorem.specs.Claim.{Proper}
use Rattle.history_theorem.specs.Receiver.{Trial, a_read, fate_of, question_in, keeps_shown, next_account}
use Rattle.hosts_theorem.specs.Log.{reading_of, told, Whole}
use Rattle.masks_theorem.proofs.Quiet.{NotMask, next-quiet}

-- ---- kind 6

-- a reading of kind 6 asks for a mask
pub asks-mask : (a : HuskReading) → a.kind ≡ 6 → reading_of a ≡ says.Mask a.epoch a.start
unfolding reading_of
asks-mask a k = rw k (if_false _ _ refl ∙ if_false _ _ refl ∙ if_false _ _ refl ∙ if_false _ _ refl ∙ if_false _ _ refl ∙ if_false _ _ refl ∙ if_true _ _ refl)

-- and a reading that asks for one is of kind 6, with its epoch
pub mask-told : (a : HuskReading) → Whole a → (e p : ℕ) → reading_of a ≡ says.Mask e p → (a.kind ≡ 6) × (a.epoch ≡ e)
mask-told a w e p q =
    let z : a ≡ told (says.Mask e p) a.nonce = w ∙ ap (λ (r : Reading). told r a.nonce) q in
    (ap (λ (x : HuskReading). x.kind) z, ap (λ (x : HuskReading). x.epoch) z)

-- ---- the question behind a read

module _ (a : Account) (size : ℕ) (t : Option Trial) (d : List ℕ) where
  abbrev behind_read : Shown → Reading → Account
  behind_read q r = next_account (fate_of r) a r size t (keeps_shown q (question_in r d))

  -- where none waited, an answer that asks none leaves none asked
  asked-none : {B : Type 0} (r : Reading) → a.waits ≡ nothing → NotMask r → (e p : ℕ) → (behind_read nothing r).waits ≡ a_mask e p → B
  asked-none r w n e p z =
      let x : nothing ≡ a_mask e p = sym w ∙ (next-quiet a size t d r n).asked e p z in
      let c : ◌≡◌ {A = ℕ} 0 1 = cc in absurd (omega arith)

  -- a mask asked behind it is the one that it tells
  pub read-asks : (q : Shown) → a.waits ≡ q → (r : Reading) → Proper a_read q r → (e p : ℕ) → (behind_read q r).waits ≡ a_mask e p → r ≡ says.Mask e p
  read-asks nothing w says.Setting h = absurd (h refl)
  read-asks nothing w says.Reply h = absurd (h refl)
  read-asks nothing w (says.Mask k s) h = λ e p z. let x : k ≡ e = cc in let y : s ≡ p = cc in cc
  read-asks nothing w (says.Opening k n s g l) h = λ e p z. let c : ◌≡◌ {A = ℕ} 0 1 = cc in absurd (omega arith)
  read-asks nothing w says.End h = λ e p z. asked-none says.End w (λ k s y. let c : ◌≡◌ {A = ℕ} 0 1 = cc in absurd (omega arith)) e p z
  read-asks nothing w says.Incomplete h = λ e p z. asked-none says.Incomplete w (λ k s y. let c : ◌≡◌ {A = ℕ} 0 1 = cc in absurd (omega arith)) e p z
  read-asks nothing w says.TooMany h = λ e p z. asked-none says.TooMany w (λ k s y. let c : ◌≡◌ {A = ℕ} 0 1 = cc in absurd (omega arith)) e p z
  read-asks nothing w (says.Dropped x) h = λ e p z. asked-none (says.Dropped x) w (λ k s y. let c : ◌≡◌ {A = ℕ} 0 1 = cc in absurd (omega arith)) e p z
  read-asks nothing w (says.Plaintext x n s l) h = λ e p z. asked-none (says.Plaintext x n s l) w (λ k m y. let c : ◌≡◌ {A = ℕ} 0 1 = cc in absurd (omega arith)) e p z
  read-asks nothing w (says.Unopened b n s l) h = λ e p z. asked-none (says.Unopened b n s l) w (λ k m y. let c : ◌≡◌ {A = ℕ} 0 1 = cc in absurd (omega arith)) e p z
  read-asks nothing w (says.Opened x n y s l) h = λ e p z. asked-none (says.Opened x n y s l) w (λ k m v. let c : ◌≡◌ {A = ℕ} 0 1 = cc in absurd (omega arith)) e p z
  read-asks (a_mask k s) w r h = λ e p z. h ∙ subst (λ (x : Reading). (behind_read (a_mask k s) x).waits ≡ a_mask e p → says.Mask k s ≡ says.Mask e p) (sym h) (λ y. let u : k ≡ e = cc in let v : s ≡ p = cc in cc) z
  read-asks (an_opening k n at head body) w r h = λ e p z. subst (λ (x : Reading). (behind_read (an_opening k n at head body) x).waits ≡ a_mask e p → r ≡ says.Mask e p) (sym h) (λ y. let c : ◌≡◌ {A = ℕ} 0 1 = cc in absurd (omega arith)) z

  -- and a mask that it tells is asked behind it
  pub read-shows : (q : Shown) (r : Reading) → Proper a_read q r → (e p : ℕ) → r ≡ says.Mask e p → (behind_read q r).waits ≡ a_mask e p
  read-shows nothing r h e p z = subst (λ (x : Reading). (behind_read nothing x).waits ≡ a_mask e p) (sym z) refl
  read-shows (a_mask k s) r h e p z =
      let x : says.Mask k s ≡ says.Mask e p = sym h ∙ z in
      let u : k ≡ e = cc in
      let v : s ≡ p = cc in
      subst (λ (x : Reading). (behind_read (a_mask k s) x).waits ≡ a_mask e p) (sym z) (cc)
  read-shows (an_opening k n at head body) r h e p z =
      let x : ◌≡◌ {A = ℕ} 0 1 = cc in absurd (omega arith)
