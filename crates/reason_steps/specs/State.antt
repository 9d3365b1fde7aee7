-- What is kept of a history while it is read, a window for each epoch, and that it tells what the lines before tell. Assumes nothing.
use Rattle.std.specs.Prelude.{Bool, true, false, ◌≡◌, ℕ, zero, suc, ◌+◌, ◌<◌, ◌≤◌, eqb, length, get_or, set}
use mathlib.Core.List.Memᴰ.{cases_cons as mem-cases}
use mathlib.Core.List.Memᴰ.{head as here}
use mathlib.Core.List.Memᴰ.{tail as there}
use mathlib.Core.List.{List, [], ◌∷◌, ◌++◌, Memᴰ as Mem}
use Rattle.std.proofs.Math.Logic.{⊎_elim}
use Rattle.std.proofs.Math.Path.{refl, sym, ap, subst}
use Rattle.std.proofs.Common.{◌∙◌, arith, eq-eqb, ne_eqb, lt-ltb, le-ltb, length-append, get_or-set_same, get_or-set_other, get_or-append-add}
use Rattle.std.proofs.Math.ListN.{length-set, get_or-append}
use Rattle.base.specs.Choose.{choose, if_true, if_false, both_true, both_false, eq-or_ne}
use Rattle.sequence.specs.Sequence.{block_of, nearest}
use Rattle.window.specs.declared.ReplayWindow.{ReplayWindow}
use Rattle.window.specs.declared.Verdict.{Verdict}
use Rattle.window.specs.declared.Verdict.TheVariants as verdicts
use Rattle.window.specs.Window.{unmarked, verdict, marking}
use Rattle.window.specs.Used.{expected, Agrees}
use Rattle.window.proofs.Used.{agrees-new, agrees-marked, tells, expects}
use Rattle.reasons.specs.declared.Reason.{Reason}
use Rattle.reasons.specs.declared.Reason.TheVariants.{Old, Seen, Cipher, Taken}
use Rattle.reasons.specs.declared.Told.{Told}
use Rattle.reasons.specs.Met.{most_kept}
use Rattle.reasons.proofs.Meeting.{hasnt, has-mem}
use Rattle.reasons.specs.Reasons.{epoch_of, bits_of, reply_of, partial_of, is_taken, taken_in, number_in, reason_in, told_in}

-- ---- a record by the window of its epoch

unfoldable pub number_by : ReplayWindow → List ℕ → ℕ
number_by w r = nearest (block_of (eqb (bits_of r) 16)) (partial_of r) (expected w)

abbrev pub reason_by : Verdict → Bool → Reason
reason_by verdicts.TooOld opened = Old
reason_by verdicts.Seen opened = Seen
reason_by verdicts.Fresh opened = choose opened Taken Cipher

unfoldable pub judged_by : ReplayWindow → List ℕ → Told
judged_by w r = record { epoch = epoch_of r; number = number_by w r; reason = reason_by (verdict w (number_by w r)) (eqb (reply_of r) 1) }

-- the same, part by part
pub judged_as : (w : ReplayWindow) (r : List ℕ) {p x n e : ℕ} {v : Verdict} {why : Reason} → p ≡ partial_of r → x ≡ expected w
    → n ≡ nearest (block_of (eqb (bits_of r) 16)) p x → v ≡ verdict w n → why ≡ reason_by v (eqb (reply_of r) 1) → e ≡ epoch_of r
    → ◌≡◌ {A = Told} (record { epoch = e; number = n; reason = why }) (judged_by w r)
unfolding judged_by number_by
judged_as w r {p} {x} {n} {e} {v} {why} partial next number verdict-is reason-is epoch-is =
    let m : n ≡ number_by w r = number ∙ ap (λ (k : ℕ). nearest (block_of (eqb (bits_of r) 16)) k x) partial ∙ ap (nearest (block_of (eqb (bits_of r) 16)) (partial_of r)) next in
    let y = reason-is ∙ ap (λ (k : Verdict). reason_by k (eqb (reply_of r) 1)) (verdict-is ∙ ap (verdict w) m) in
    λ k. record { epoch = epoch-is k; number = m k; reason = y k }

module _ {w : ReplayWindow} {taken : List ℕ} (a : Agrees w taken) where
  reason-by : (n : ℕ) (opened : Bool) (v : Verdict) → verdict w n ≡ v → reason_by v opened ≡ reason_in taken n opened
  unfolding reason_in
  reason-by n opened verdicts.TooOld e = sym (if_true _ _ (lt-ltb _ _ ((tells a n verdicts.TooOld).0 e)))
  reason-by n opened verdicts.Seen e =
      let t = (tells a n verdicts.Seen).0 e in
      sym (if_false _ _ (le-ltb _ _ t.1) ∙ if_true _ _ ((has-mem n taken).1 t.0))
  reason-by n opened verdicts.Fresh e =
      let t = (tells a n verdicts.Fresh).0 e in
      sym (if_false _ _ (le-ltb _ _ t.1) ∙ if_false _ _ ((hasnt n taken).1 t.0))

  number-by : (r : List ℕ) → number_by w r ≡ number_in taken r
  unfolding number_by number_in
  number-by r = ap (nearest (block_of (eqb (bits_of r) 16)) (partial_of r)) (expects taken a)

  -- the window tells what the numbers taken tell
  pub judged-is : (r : List ℕ) → judged_by w r ≡ told_in taken r
  unfolding judged_by told_in
  judged-is r =
      let n = number-by r in
      let why = reason-by (number_by w r) (eqb (reply_of r) 1) (verdict w (number_by w r)) refl in
      let told = ap (λ (k : ℕ). reason_in taken k (eqb (reply_of r) 1)) n in
      λ k. record { epoch = epoch_of r; number = n k; reason = (why ∙ told) k }

-- ---- the slots

-- the window of a slot: highest numbers and marks stand in two lists
abbrev pub window_at : List ℕ → List ℕ → ℕ → ReplayWindow
window_at tops marks s = record { max_seq = get_or tops s 0; window = get_or marks s 0 }

-- the first slots hold the epochs kept, each with a window that agrees with the numbers taken in it
pub record Holds (kept : List ℕ) (told : List Told) (epochs tops marks : List ℕ) (count : ℕ) : Type 0 where
  pub sizes : (length epochs ≡ most_kept) × (length tops ≡ most_kept) × (length marks ≡ most_kept)
  pub counts : count ≡ length kept
  pub few : count ≤ most_kept
  pub each : (s : ℕ) → s < count → get_or epochs s 0 ≡ get_or kept s 0
  pub apart : (s u : ℕ) → s < count → u < count → get_or epochs s 0 ≡ get_or epochs u 0 → s ≡ u
  pub agrees : (s : ℕ) → s < count → Agrees (window_at tops marks s) (taken_in (get_or epochs s 0) told)

mem-place : {n : ℕ} (l : List ℕ) → Mem n l → (k : ℕ) × (k < length l) × (get_or l k 0 ≡ n)
mem-place [] m = absurd (elim m [ ])
mem-place {n} (x ∷ l) m =
    ⊎_elim (λ (e : n ≡ x). (0, omega arith, sym e)) (λ (r : Mem n l). let p = mem-place l r in (suc p.0, omega (arith, p.1), p.2)) (mem-cases m)

place-mem : (l : List ℕ) (k : ℕ) → k < length l → Mem (get_or l k 0) l
place-mem [] k h = absurd (omega arith)
place-mem (x ∷ l) zero h = here refl
place-mem (x ∷ l) (suc k) h = there (place-mem l k (omega arith))

-- a slot written, and another one
window-here : (tops marks : List ℕ) (s : ℕ) (w : ReplayWindow) → s < length tops → s < length marks
    → w ≡ window_at (set tops s w.max_seq) (set marks s w.window) s
window-here tops marks s w l m =
    let a = get_or-set_same tops s w.max_seq 0 l in
    let b = get_or-set_same marks s w.window 0 m in
    sym (λ k. record { max_seq = a k; window = b k })

window-there : (tops marks : List ℕ) (s u a b : ℕ) → (u ≡ s → ⊥) → window_at tops marks u ≡ window_at (set tops s a) (set marks s b) u
window-there tops marks s u a b ne =
    let x = get_or-set_other tops s u a 0 ne in
    let y = get_or-set_other marks s u b 0 ne in
    sym (λ k. record { max_seq = x k; window = y k })

module _ {kept : List ℕ} {told : List Told} {epochs tops marks : List ℕ} {count : ℕ} (h : Holds kept told epochs tops marks count) where
  -- an epoch that no slot holds is not kept, and one that a slot holds is
  pub not_held : (e : ℕ) → ((s : ℕ) → s < count → get_or epochs s 0 ≡ e → ⊥) → Mem e kept → ⊥
  not_held e f m = let p = mem-place kept m in let l : p.0 < count = omega (arith, p.1, h.counts) in f p.0 l (h.each p.0 l ∙ p.2)

  pub held : (s : ℕ) → s < count → Mem (get_or epochs s 0) kept
  held s l = subst (λ (x : ℕ). Mem x kept) (sym (h.each s l)) (place-mem kept s (omega (arith, h.counts)))

  -- a line more that tells of nothing taken
  pub hold_passed : (t : Told) → is_taken t.reason ≡ false → Holds kept (t ∷ told) epochs tops marks count
  unfolding taken_in
  hold_passed t left = record {
    sizes = h.sizes;
    counts = h.counts;
    few = h.few;
    each = h.each;
    apart = h.apart;
    agrees = λ s l. subst (λ (x : List ℕ). Agrees (window_at tops marks s) x) (sym (if_false _ _ (both_false _ left))) (h.agrees s l);
  }

  -- a number taken more, marked in the window of its slot
  pub hold_marked : (t : Told) (s : ℕ) → s < count → get_or epochs s 0 ≡ t.epoch → is_taken t.reason ≡ true
      → Holds kept (t ∷ told) epochs (set tops s (marking (window_at tops marks s) t.number).max_seq) (set marks s (marking (window_at tops marks s) t.number).window) count
  unfolding taken_in
  hold_marked t s l q is = record {
    sizes = (h.sizes.0, length-set tops s _ ∙ h.sizes.1, length-set marks s _ ∙ h.sizes.2);
    counts = h.counts;
    few = h.few;
    each = h.each;
    apart = h.apart;
    agrees = λ u k. ⊎_elim (λ (e : u ≡ s). subst (λ (x : ℕ). Agrees (window_at (set tops s w.max_seq) (set marks s w.window) x) (taken_in (get_or epochs x 0) (t ∷ told))) (sym e) itself) (λ e. another u k e) (eq-or_ne u s);
  }
    where
      w : ReplayWindow
      w = marking (window_at tops marks s) t.number

      itself : Agrees (window_at (set tops s w.max_seq) (set marks s w.window) s) (taken_in (get_or epochs s 0) (t ∷ told))
      itself =
          subst (λ (v : ReplayWindow). Agrees v (taken_in (get_or epochs s 0) (t ∷ told))) (window-here tops marks s w (omega (arith, h.sizes.1, h.few)) (omega (arith, h.sizes.2, h.few)))
          (subst (λ (x : List ℕ). Agrees w x) (sym (if_true _ _ (both_true is ∙ eq-eqb _ _ (sym q)))) (agrees-marked (h.agrees s l) t.number))

      another : (u : ℕ) → u < count → (u ≡ s → ⊥) → Agrees (window_at (set tops s w.max_seq) (set marks s w.window) u) (taken_in (get_or epochs u 0) (t ∷ told))
      another u k ne =
          subst (λ (v : ReplayWindow). Agrees v (taken_in (get_or epochs u 0) (t ∷ told))) (window-there tops marks s u _ _ ne)
          (subst (λ (x : List ℕ). Agrees (window_at tops marks u) x) (sym (if_false _ _ (both_true is ∙ ne_eqb _ _ (λ e. ne (h.apart u s k l (sym e ∙ sym q))))))
          (h.agrees u k))

  -- a slot more, for an epoch that is not kept yet
  pub hold_new : (e : ℕ) → (Mem e kept → ⊥) → count < most_kept → taken_in e told ≡ []
      → Holds (kept ++ (e ∷ [])) told (set epochs count e) (set tops count 0) (set marks count 0) (count + 1)
  hold_new e fresh l none = record {
    sizes = (length-set epochs count e ∙ h.sizes.0, length-set tops count 0 ∙ h.sizes.1, length-set marks count 0 ∙ h.sizes.2);
    counts = omega (arith, h.counts, length-append kept (e ∷ []));
    few = omega arith;
    each = λ s k. ⊎_elim (λ (q : s ≡ count). last-each s q) (λ q. before s q ∙ h.each s (omega arith) ∙ sym (get_or-append kept (e ∷ []) 0 s (omega (arith, h.counts)))) (eq-or_ne s count);
    apart = λ s u j k q. ⊎_elim (λ (a : s ≡ count). last_apart s u a k q) (λ a. ⊎_elim (λ (b : u ≡ count). sym (last_apart u s b j (sym q))) (λ b. h.apart s u (omega arith) (omega arith) (sym (before s a) ∙ q ∙ before u b)) (eq-or_ne u count)) (eq-or_ne s count);
    agrees = λ s k. ⊎_elim (λ (q : s ≡ count). subst (λ (x : ℕ). Agrees (window_at (set tops count 0) (set marks count 0) x) (taken_in (get_or (set epochs count e) x 0) told)) (sym q) last-agrees) (λ q. before-agrees s (omega arith) q) (eq-or_ne s count);
  }
    where
      here-is : get_or (set epochs count e) count 0 ≡ e
      here-is = get_or-set_same epochs count e 0 (omega (arith, h.sizes.0))

      before : (s : ℕ) → (s ≡ count → ⊥) → get_or (set epochs count e) s 0 ≡ get_or epochs s 0
      before s ne = get_or-set_other epochs count s e 0 ne

      last-each : (s : ℕ) → s ≡ count → get_or (set epochs count e) s 0 ≡ get_or (kept ++ (e ∷ [])) s 0
      last-each s q =
          let end : s ≡ length kept + 0 = omega (arith, h.counts) in
          ap (λ (x : ℕ). get_or (set epochs count e) x 0) q ∙ here-is ∙ sym (ap (λ (x : ℕ). get_or (kept ++ (e ∷ [])) x 0) end ∙ get_or-append-add kept (e ∷ []) 0 0)

      last_apart : (s u : ℕ) → s ≡ count → u < count + 1 → get_or (set epochs count e) s 0 ≡ get_or (set epochs count e) u 0 → s ≡ u
      last_apart s u a k q =
          ⊎_elim (λ b. a ∙ sym b)
          (λ b.
          let is : get_or epochs u 0 ≡ e = sym (before u b) ∙ sym q ∙ ap (λ (x : ℕ). get_or (set epochs count e) x 0) a ∙ here-is in
          absurd (fresh (subst (λ (x : ℕ). Mem x kept) is (held u (omega arith)))))
          (eq-or_ne u count)

      last-agrees : Agrees (window_at (set tops count 0) (set marks count 0) count) (taken_in (get_or (set epochs count e) count 0) told)
      last-agrees =
          subst (λ (v : ReplayWindow). Agrees v (taken_in (get_or (set epochs count e) count 0) told)) (window-here tops marks count unmarked (omega (arith, h.sizes.1)) (omega (arith, h.sizes.2)))
          (subst (λ (x : List ℕ). Agrees unmarked x) (sym (ap (λ (x : ℕ). taken_in x told) here-is ∙ none)) agrees-new)

      before-agrees : (s : ℕ) → s < count → (s ≡ count → ⊥) → Agrees (window_at (set tops count 0) (set marks count 0) s) (taken_in (get_or (set epochs count e) s 0) told)
      before-agrees s k ne =
          subst (λ (v : ReplayWindow). Agrees v (taken_in (get_or (set epochs count e) s 0) told)) (window-there tops marks count s 0 0 ne)
          (subst (λ (x : ℕ). Agrees (window_at tops marks s) (taken_in x told)) (sym (before s ne)) (h.agrees s k))
