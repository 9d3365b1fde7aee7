-- The window follows the list of the numbers used: "highest used plus one, or 0", what each verdict says of them, for every width above 0
-- and then at the width that it has. Assumes nothing.
use mathlib.Core.List.Memᴰ.{cases_cons as mem-cases}
use mathlib.Core.List.Memᴰ.{head as here}
use mathlib.Core.List.Memᴰ.{tail as there}
use mathlib.Core.List.{List, [], ◌∷◌, Memᴰ as Mem}
use Rattle.std.proofs.Common.{⊎_elim, subst, ◌∙◌, div-one, eq-eqb, ne_eqb}
use Rattle.std.specs.Prelude.{◌↔◌, ◌≡◌, refl, ℕ, ◌+◌, ◌-◌, ◌/◌, ◌%◌, ◌^◌, ◌<◌, ◌≤◌}
use Rattle.std.proofs.Math.Path.{sym, ap}
use native.Mathlib.Omega.{arith}
use Rattle.base.specs.Bits.{bit, bit-zero}
use Rattle.base.specs.Choose.{if_true, if_false, lt-or_ge}
use Rattle.window.specs.declared.ReplayWindow.{ReplayWindow}
use Rattle.window.specs.declared.Verdict.{Verdict}
use Rattle.window.specs.declared.Verdict.TheVariants.{Fresh, Seen, TooOld}
use Rattle.window.specs.Window.{unmarked, MarkedOver, verdict_over, marking_over, width, verdict, marking}
use Rattle.window.proofs.Laws.{SaysOver, after-over, verdict-over}
use Rattle.window.specs.Used.{above, expected, AgreesOver, TellsOver, Agrees, Tells}

pub used-below : {n : ℕ} (ns : List ℕ) → Mem n ns → n < above ns
used-below [] m = absurd (elim m [ ])
used-below {n} (k ∷ ns) m = ⊎_elim (λ (e : n ≡ k). omega arith) (λ (r : Mem n ns). omega (arith, used-below ns r)) (mem-cases m)

-- the highest number used is one of them
pub highest-used : (n : ℕ) (ns : List ℕ) → Mem (above (n ∷ ns) - 1) (n ∷ ns)
highest-used n [] = let e : above (n ∷ []) - 1 ≡ n = omega arith in here e
highest-used n (k ∷ ns) =
    ⊎_elim (λ l. there (subst (λ (x : ℕ). Mem x (k ∷ ns)) (lower l) (highest-used k ns))) (λ l. here (upper l)) (lt-or_ge n (above (k ∷ ns)))
  where
    lower : n < above (k ∷ ns) → above (k ∷ ns) - 1 ≡ above (n ∷ k ∷ ns) - 1
    lower l = omega arith

    upper : above (k ∷ ns) ≤ n → above (n ∷ k ∷ ns) - 1 ≡ n
    upper l = omega arith

-- ---- over any width

module _ (width : ℕ) (wide : 0 < width) where
  pub agrees-new-over : AgreesOver width unmarked []
  agrees-new-over = record { highest = refl; marks = λ n l. (λ m. absurd (omega (arith, bit-zero (0 - n))), λ m. elim m [ ]) }

  module _ {w : ReplayWindow} {used : List ℕ} (a : AgreesOver width w used) where
    -- marking a number is using it
    pub agrees-marked-over : (n : ℕ) → AgreesOver width (marking_over width w n) (n ∷ used)
    agrees-marked-over n =
        let f = after-over width wide w n in
        let h = a.highest in
        let top : (marking_over width w n).max_seq ≡ above (n ∷ used) - 1 = omega (arith, f.highest) in
        record {
          highest = top;
          marks = λ k l. (
            λ m. ⊎_elim (λ e. here e) (λ o. there ((a.marks k (omega arith)).0 o)) (f.only k m),
            λ m. ⊎_elim (λ (e : k ≡ n). subst (λ (x : ℕ). MarkedOver width (marking_over width w n) x) (sym e) (f.itself (omega arith)))
                (λ (r : Mem k used). f.kept k ((a.marks k (omega arith)).1 r) (omega arith)) (mem-cases m),
          );
        }

    -- the marks say of a number what the list says
    listed : (n : ℕ) (v : Verdict) → SaysOver width w n v → TellsOver width used n v
    listed n Fresh s = let h = a.highest in let l : above used ≤ n + width = omega (arith, s.0) in (λ m. s.1 ((a.marks n l).1 m), l)
    listed n Seen s = let h = a.highest in let l : above used ≤ n + width = omega arith in ((a.marks n l).0 s, l)
    listed n TooOld s = let h = a.highest in omega arith

    in_marks : (n : ℕ) (v : Verdict) → TellsOver width used n v → SaysOver width w n v
    in_marks n Fresh s = let h = a.highest in (omega (arith, s.1), λ m. s.0 ((a.marks n s.1).0 m))
    in_marks n Seen s = (a.marks n s.1).1 s.0
    in_marks n TooOld s = let h = a.highest in omega arith

    pub tells-over : (n : ℕ) (v : Verdict) → (verdict_over width w n ≡ v) ↔ TellsOver width used n v
    tells-over n v =
        let s = verdict-over width wide w n v in (λ e. listed n v (s.0 e), λ t. s.1 (in_marks n v t))

  -- bit 0 is the mark of the highest
  first_bit : (w : ReplayWindow) (k : ℕ) → k ≡ 0 → bit w.window k ≡ w.window % 2
  unfolding bit
  first_bit w k e = ap (λ (x : ℕ). w.window / 2 ^ x % 2) e ∙ ap (λ (x : ℕ). x % 2) (div-one w.window)

  pub expects-over : {w : ReplayWindow} (used : List ℕ) → AgreesOver width w used → expected w ≡ above used
  unfolding expected
  expects-over {w} [] a =
      let h = a.highest in
      let unset : w.window % 2 ≡ 1 → ⊥ = λ e. elim ((a.marks 0 (omega arith)).0 (omega arith, omega arith, first_bit w (w.max_seq - 0) (omega arith) ∙ e)) [ ] in
      if_false _ _ (ne_eqb _ _ unset)
  expects-over {w} (n ∷ used) a =
      let h = a.highest in
      let m = (a.marks (above (n ∷ used) - 1) (omega arith)).1 (highest-used n used) in
      let set : w.window % 2 ≡ 1 = sym (first_bit w (w.max_seq - (above (n ∷ used) - 1)) (omega arith)) ∙ m.2 in
      if_true _ _ (eq-eqb _ _ set) ∙ omega arith

-- ---- at the width that it has

pub agrees-new : Agrees unmarked []
agrees-new = agrees-new-over width (omega arith)

module _ {w : ReplayWindow} {used : List ℕ} (a : Agrees w used) where
  pub agrees-marked : (n : ℕ) → Agrees (marking w n) (n ∷ used)
  unfolding marking
  agrees-marked = agrees-marked-over width (omega arith) a

  pub tells : (n : ℕ) (v : Verdict) → (verdict w n ≡ v) ↔ Tells used n v
  unfolding verdict
  tells = tells-over width (omega arith) a

pub expects : {w : ReplayWindow} (used : List ℕ) → Agrees w used → expected w ≡ above used
expects = expects-over width (omega arith)
