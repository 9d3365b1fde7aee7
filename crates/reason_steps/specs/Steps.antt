-- One record more: what is kept follows the lines told, whichever test decides. Assumes nothing.
use Rattle.std.specs.Prelude.{true, false, ◌≡◌, ℕ, suc, ◌+◌, ◌<◌, length, get_or, set}
use mathlib.Core.List.{List, ◌∷◌, Memᴰ as Mem}
use Rattle.std.proofs.Math.Path.{refl, sym}
use Rattle.std.proofs.Common.{ap, subst, ◌∙◌, add-one, arith, le-leb}
use Rattle.base.specs.Choose.{choose, if_true, if_false, test_cases, both_true, both_false}
use Rattle.window.specs.declared.ReplayWindow.{ReplayWindow}
use Rattle.window.specs.Window.{marking}
use Rattle.window.specs.Used.{Agrees}
use Rattle.reasons.specs.declared.Reason.{Reason}
use Rattle.reasons.specs.declared.Reason.TheVariants.{Short, Record, Epoch}
use Rattle.reasons.specs.declared.Told.{Told}
use Rattle.reasons.specs.Met.{most_kept, has, meet, met}
use Rattle.reasons.proofs.Meeting.{has-mem, hasnt, meet_full}
use Rattle.reasons.proofs.Known.{meet-known, meet-new}
use Rattle.reasons.specs.Reasons.{record_at, is_whole, is_well_formed, is_formed, epoch_at, kept_at, is_taken, taken_in, only, tell, told_to, told_at}
use Rattle.reasons.proofs.Laws.{kept_next, none-taken}
use Rattle.reasons.proofs.Cases.{told-next}
use Rattle.reason_steps.specs.State.{judged_by, judged-is, window_at, Holds, held, not_held, hold_passed, hold_marked, hold_new}

-- what is kept before record i
abbrev pub Follows : List ℕ → ℕ → List ℕ → List ℕ → List ℕ → ℕ → Type 0
Follows d i epochs tops marks count = Holds (kept_at d i) (told_to d i) epochs tops marks count

-- before the first record no slot is in use
pub start : (d : List ℕ) {epochs tops marks : List ℕ} → length epochs ≡ most_kept → length tops ≡ most_kept → length marks ≡ most_kept → Follows d 0 epochs tops marks 0
unfolding kept_at met
start d e t m = record {
  sizes = (e, t, m);
  counts = refl;
  few = omega arith;
  each = λ s l. absurd (omega arith);
  apart = λ s u l k q. absurd (omega arith);
  agrees = λ s l. absurd (omega arith);
}

-- a record dealt with: what is told of it, and what is kept behind it
pub record Stepped (d : List ℕ) (i : ℕ) (t : Told) (epochs tops marks : List ℕ) (count : ℕ) : Type 0 where
  pub told : t ≡ told_at d i
  pub follows : Follows d (i + 1) epochs tops marks count

-- the window of a slot behind a record of its epoch: its number is marked if it is taken
abbrev pub tops_behind : ReplayWindow → List ℕ → List ℕ → ℕ → List ℕ
tops_behind w r tops s = choose (is_taken (judged_by w r).reason) (set tops s (marking w (judged_by w r).number).max_seq) tops

abbrev pub marks_behind : ReplayWindow → List ℕ → List ℕ → ℕ → List ℕ
marks_behind w r marks s = choose (is_taken (judged_by w r).reason) (set marks s (marking w (judged_by w r).number).window) marks

module _ (w : ReplayWindow) (r tops marks : List ℕ) (s : ℕ) {t : Told} (q : t ≡ judged_by w r) where
  pub behind-marked : {a b : List ℕ} → is_taken t.reason ≡ true → a ≡ set tops s (marking w t.number).max_seq → b ≡ set marks s (marking w t.number).window
      → (t ≡ judged_by w r) × (a ≡ tops_behind w r tops s) × (b ≡ marks_behind w r marks s)
  behind-marked e f g =
      let is : is_taken (judged_by w r).reason ≡ true = ap (λ (x : Told). is_taken x.reason) (sym q) ∙ e in (
        q,
        f ∙ ap (λ (x : Told). set tops s (marking w x.number).max_seq) q ∙ sym (if_true _ _ is),
        g ∙ ap (λ (x : Told). set marks s (marking w x.number).window) q ∙ sym (if_true _ _ is),
      )

  pub behind-left : is_taken t.reason ≡ false → (t ≡ judged_by w r) × (tops ≡ tops_behind w r tops s) × (marks ≡ marks_behind w r marks s)
  behind-left e =
      let is : is_taken (judged_by w r).reason ≡ false = ap (λ (x : Told). is_taken x.reason) (sym q) ∙ e in
      (q, sym (if_false _ _ is), sym (if_false _ _ is))

module _ (d : List ℕ) (i : ℕ) where
  behind : {kept : List ℕ} {t : Told} {e p m : List ℕ} {c : ℕ} → kept_at d (suc i) ≡ kept → told_at d i ≡ t → Holds kept (t ∷ told_to d i) e p m c → Follows d (i + 1) e p m c
  behind {kept} {t} {e} {p} {m} {c} k q h =
      rw add-one
      (subst (λ (x : List ℕ). Holds x (told_to d (suc i)) e p m c) (sym k)
      (subst (λ (x : List Told). Holds kept x e p m c) (sym (told-next d i ∙ ap (λ (x : Told). x ∷ told_to d i) q)) h))

  unformed : is_formed d i ≡ false → kept_at d (suc i) ≡ kept_at d i
  unformed f = kept_next d i ∙ if_false _ _ f

  formed : is_whole (record_at d i) ≡ true → is_well_formed (record_at d i) ≡ true → kept_at d (suc i) ≡ meet (epoch_at d i) (kept_at d i)
  unfolding is_formed
  formed w x = kept_next d i ∙ if_true _ _ (both_true w ∙ x)

  module _ {epochs tops marks : List ℕ} {count : ℕ} (h : Follows d i epochs tops marks count) where
    -- a record that is told of without a number, and that starts no epoch
    passed : (why : Reason) → is_taken why ≡ false → kept_at d (suc i) ≡ kept_at d i → told_at d i ≡ only why
        → Stepped d i (only why) epochs tops marks count
    passed why left k q = record { told = sym q; follows = behind k q (hold_passed h (only why) left) }

    pub step-short : is_whole (record_at d i) ≡ false → Stepped d i (only Short) epochs tops marks count
    unfolding told_at tell is_formed
    step-short w = passed Short refl (unformed (both_false _ w)) (if_false _ _ w)

    module _ (w : is_whole (record_at d i) ≡ true) where
      pub step_record : is_well_formed (record_at d i) ≡ false → Stepped d i (only Record) epochs tops marks count
      unfolding told_at tell is_formed
      step_record x = passed Record refl (unformed (both_true w ∙ x)) (if_true _ _ w ∙ if_false _ _ x)

      -- an epoch that no slot holds, and none is free
      pub step-epoch : is_well_formed (record_at d i) ≡ true → ((s : ℕ) → s < count → get_or epochs s 0 ≡ epoch_at d i → ⊥) → count ≡ most_kept
          → Stepped d i (only Epoch) epochs tops marks count
      unfolding told_at tell
      step-epoch x f n =
          let full = meet_full (epoch_at d i) (kept_at d i) (le-leb most_kept (length (kept_at d i)) (omega (arith, h.counts))) in
          let out = (hasnt (epoch_at d i) (kept_at d i)).1 (not_held h (epoch_at d i) f) in
          passed Epoch refl (formed w x ∙ full) (if_true _ _ w ∙ if_true _ _ x ∙ if_false _ _ (ap (has (epoch_at d i)) full ∙ out))

    -- the epoch of record i is kept already
    pub known : (s : ℕ) → s < count → get_or epochs s 0 ≡ epoch_at d i → Holds (meet (epoch_at d i) (kept_at d i)) (told_to d i) epochs tops marks count
    known s l q =
        subst (λ (x : List ℕ). Holds x (told_to d i) epochs tops marks count)
        (sym (meet-known (epoch_at d i) (kept_at d i) ((has-mem _ _).1 (subst (λ (x : ℕ). Mem x (kept_at d i)) q (held h s l))))) h

    -- it is new, and has a slot from now on
    pub begun : ((s : ℕ) → s < count → get_or epochs s 0 ≡ epoch_at d i → ⊥) → count < most_kept
        → Holds (meet (epoch_at d i) (kept_at d i)) (told_to d i) (set epochs count (epoch_at d i)) (set tops count 0) (set marks count 0) (count + 1)
    begun f l =
        let out = not_held h (epoch_at d i) f in
        subst (λ (x : List ℕ). Holds x (told_to d i) (set epochs count (epoch_at d i)) (set tops count 0) (set marks count 0) (count + 1))
        (sym (meet-new (epoch_at d i) (kept_at d i) ((hasnt _ _).1 out) (omega (arith, h.counts)))) (hold_new h (epoch_at d i) out l (none-taken d i (epoch_at d i) out))

  module _ (w : is_whole (record_at d i) ≡ true) (x : is_well_formed (record_at d i) ≡ true) {epochs tops marks : List ℕ} {count : ℕ}
      (h : Holds (meet (epoch_at d i) (kept_at d i)) (told_to d i) epochs tops marks count) (s : ℕ) (l : s < count) (q : get_or epochs s 0 ≡ epoch_at d i) where
    by-window : told_at d i ≡ judged_by (window_at tops marks s) (record_at d i)
    unfolding told_at tell
    by-window =
        if_true _ _ w ∙ if_true _ _ x ∙ if_true _ _ ((has-mem _ _).1 (subst (λ (y : ℕ). Mem y (meet (epoch_at d i) (kept_at d i))) q (held h s l)))
        ∙ sym (judged-is (subst (λ (y : ℕ). Agrees (window_at tops marks s) (taken_in y (told_to d i))) q (h.agrees s l)) (record_at d i))

    -- a record of an epoch that slot s holds
    pub step-in : Stepped d i (judged_by (window_at tops marks s) (record_at d i)) epochs
        (tops_behind (window_at tops marks s) (record_at d i) tops s) (marks_behind (window_at tops marks s) (record_at d i) marks s) count
    unfolding judged_by
    step-in = record {
      told = sym by-window;
      follows = behind (formed w x) by-window (test_cases (is_taken t.reason) marked left);
    }
      where
        t : Told
        t = judged_by (window_at tops marks s) (record_at d i)

        Behind : List ℕ → List ℕ → Type 0
        Behind a b = Holds (meet (epoch_at d i) (kept_at d i)) (t ∷ told_to d i) epochs a b count

        marked : is_taken t.reason ≡ true → Behind (tops_behind (window_at tops marks s) (record_at d i) tops s) (marks_behind (window_at tops marks s) (record_at d i) marks s)
        marked e =
            subst (λ (a : List ℕ). Behind a (marks_behind (window_at tops marks s) (record_at d i) marks s)) (sym (if_true _ _ e))
            (subst (λ (b : List ℕ). Behind (set tops s (marking (window_at tops marks s) t.number).max_seq) b) (sym (if_true _ _ e)) (hold_marked h t s l q e))

        left : is_taken t.reason ≡ false → Behind (tops_behind (window_at tops marks s) (record_at d i) tops s) (marks_behind (window_at tops marks s) (record_at d i) marks s)
        left e =
            subst (λ (a : List ℕ). Behind a (marks_behind (window_at tops marks s) (record_at d i) marks s)) (sym (if_false _ _ e))
            (subst (λ (b : List ℕ). Behind tops b) (sym (if_false _ _ e)) (hold_passed h t e))
