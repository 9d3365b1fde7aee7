-- What the code keeps, a slot for each epoch, and that it follows the lines told. Assumes nothing.
use Rattle.std.specs.Prelude.{Bool, true, false, ◌≡◌, ◌==◌, position, take, ℕ, ◌+◌, ◌<◌, ◌≤◌, length, get_or, set, map, Option, Some, None}
use mathlib.Core.List.{List}
use Rattle.std.proofs.Math.Path.{refl, sym}
use Rattle.std.proofs.Common.{ap, subst, ◌∙◌, arith, le-leb, get_or-set_same}
use Rattle.std.proofs.lemmas.Bool.{lt-leb, eqb-true, eqb-false}
use Rattle.std.proofs.lemmas.Grind.{common_steps}
use Rattle.std.proofs.lemmas.List.Sums.{fails_before_first}
use Rattle.std.specs.List.{position_or_len}
use Rattle.std.proofs.lemmas.List.Quantifiers.{position-Some}
use Rattle.std.proofs.lemmas.List.{get_or-take, length-take-le, map-set, get_or-map, length-map, set-get_or}
use Rattle.window.specs.declared.ReplayWindow.{ReplayWindow}
use Rattle.window.specs.Window.{unmarked, marking}
use Rattle.reasons.specs.declared.Reason.TheVariants.{Short, Record, Epoch}
use Rattle.reasons.specs.declared.Told.{Told}
use Rattle.reason_steps.specs.declared.Slot.{Slot}
use Rattle.reason_steps.specs.declared.Kept.{Kept}
use Rattle.reasons.specs.Met.{most_kept, meet}
use Rattle.reasons.proofs.Laws.{taken-small}
use Rattle.reasons.specs.Reasons.{record_size, most_records, record_at, epoch_of, is_whole, is_well_formed, epoch_at, kept_at, told_to, is_taken, only}
use Rattle.reason_steps.specs.State.{judged_by, window_at, Holds}
use Rattle.reason_steps.specs.Steps.{Follows, Stepped, tops_behind, marks_behind, behind-marked, behind-left, step-short, step_record, step-epoch, known, begun, step-in}

-- ---- what stands in the slots

abbrev pub epochs_in : Kept → List ℕ
epochs_in k = map (λ (s : Slot). s.epoch) k.slots

abbrev pub tops_in : Kept → List ℕ
tops_in k = map (λ (s : Slot). s.window.max_seq) k.slots

abbrev pub marks_in : Kept → List ℕ
marks_in k = map (λ (s : Slot). s.window.window) k.slots

abbrev pub window_in : Kept → ℕ → ReplayWindow
window_in k s = window_at (tops_in k) (marks_in k) s

-- what is kept before record i
abbrev pub FollowsIn : List ℕ → ℕ → Kept → Type 0
FollowsIn d i k = Follows d i (epochs_in k) (tops_in k) (marks_in k) k.count

-- where an epoch is among the slots in use
abbrev pub FoundIn : Kept → ℕ → Option ℕ → Type 0
FoundIn k e (Some s) = (s < k.count) × (get_or (epochs_in k) s 0 ≡ e)
FoundIn k e None = (s : ℕ) → s < k.count → get_or (epochs_in k) s 0 ≡ e → ⊥

-- a slot more
abbrev pub with_slot : Kept → ℕ → Kept
with_slot k e = record { slots = set k.slots k.count (record { epoch = e; window = unmarked }); count = k.count + 1 }

-- a record dealt with: what is told of it, and what is kept behind it
abbrev pub SteppedIn : List ℕ → ℕ → Told → Kept → Type 0
SteppedIn d i t k = Stepped d i t (epochs_in k) (tops_in k) (marks_in k) k.count

-- what in_slot says of a slot
pub record InSlotOf (k : Kept) (s : ℕ) (r : List ℕ) (t : Told) (next : Kept) : Type 0 where
  pub told : t ≡ judged_by (window_in k s) r
  pub epochs : epochs_in next ≡ epochs_in k
  pub tops : tops_in next ≡ tops_behind (window_in k s) r (tops_in k) s
  pub marks : marks_in next ≡ marks_behind (window_in k s) r (marks_in k) s
  pub count : next.count ≡ k.count

-- ---- laws

abbrev slot_at : Kept → ℕ → Slot
slot_at k s = get_or k.slots s (record { epoch = 0; window = unmarked })

-- the window of a slot
pub window-is : (k : Kept) (s : ℕ) → s < length k.slots → window_in k s ≡ (slot_at k s).window
window-is k s l =
    let a = get_or-map (λ (x : Slot). x.window.max_seq) k.slots s (record { epoch = 0; window = unmarked }) 0 l in
    let b = get_or-map (λ (x : Slot). x.window.window) k.slots s (record { epoch = 0; window = unmarked }) 0 l in
    λ i. record { max_seq = a i; window = b i }

none-len : {X : Type 0} (p : X → Bool) (xs : List X) → position p xs ≡ None → length xs ≤ position_or_len p xs
none-len p xs e = grind (arith, common_steps)

-- what a search of the slots in use finds
pub found-is : (k : Kept) (e : ℕ) (o : Option ℕ) → k.count ≤ length k.slots → o ≡ position (λ (s : Slot). s.epoch == e) (take k.count k.slots) → FoundIn k e o
found-is k e (Some s) l q =
    let p = position-Some (λ (x : Slot). x.epoch == e) (take k.count k.slots) s (record { epoch = 0; window = unmarked }) (sym q) in
    let n = length-take-le k.count k.slots l in
    let inside : s < k.count = omega (arith, p.0) in
    let there = get_or-take k.count k.slots s (record { epoch = 0; window = unmarked }) inside in
    (inside, get_or-map (λ (x : Slot). x.epoch) k.slots s (record { epoch = 0; window = unmarked }) 0 (omega arith) ∙ ap (λ (x : Slot). x.epoch) (sym there) ∙ eqb-true _ _ p.1)
found-is k e None l q = λ s m is.
    let n = length-take-le k.count k.slots l in
    let past = none-len (λ (x : Slot). x.epoch == e) (take k.count k.slots) (sym q) in
    let other = fails_before_first (λ (x : Slot). x.epoch == e) (take k.count k.slots) s (record { epoch = 0; window = unmarked }) (omega arith) in
    let there = get_or-take k.count k.slots s (record { epoch = 0; window = unmarked }) m in
    let same = get_or-map (λ (x : Slot). x.epoch) k.slots s (record { epoch = 0; window = unmarked }) 0 (omega arith) in
    eqb-false _ _ other (ap (λ (x : Slot). x.epoch) there ∙ sym same ∙ is)

-- the slot of an epoch after a record whose number is taken
pub slot-marked : (k : Kept) (s : ℕ) (r : List ℕ) (e : ℕ) {t : Told} {w v : ReplayWindow} → e ≡ get_or (epochs_in k) s 0 → t ≡ judged_by (window_in k s) r → is_taken t.reason ≡ true
    → w ≡ window_in k s → v ≡ marking w t.number → InSlotOf k s r t (record { slots = set k.slots s (record { epoch = e; window = v }); count = k.count })
slot-marked k s r e {t} {w} {v} h q is a b =
    let m : v ≡ marking (window_in k s) t.number = b ∙ ap (λ (x : ReplayWindow). marking x t.number) a in
    let c = behind-marked (window_in k s) r (tops_in k) (marks_in k) s q is refl refl in
    record {
      told = q;
      epochs = map-set (λ (x : Slot). x.epoch) k.slots s (record { epoch = e; window = v }) ∙ ap (set (epochs_in k) s) h ∙ set-get_or (epochs_in k) s 0;
      tops = map-set (λ (x : Slot). x.window.max_seq) k.slots s (record { epoch = e; window = v }) ∙ ap (λ (x : ReplayWindow). set (tops_in k) s x.max_seq) m ∙ c.1;
      marks = map-set (λ (x : Slot). x.window.window) k.slots s (record { epoch = e; window = v }) ∙ ap (λ (x : ReplayWindow). set (marks_in k) s x.window) m ∙ c.2;
      count = refl;
    }

pub slot-left : (k : Kept) (s : ℕ) (r : List ℕ) {t : Told} → t ≡ judged_by (window_in k s) r → is_taken t.reason ≡ false → InSlotOf k s r t k
slot-left k s r {t} q is =
    let c = behind-left (window_in k s) r (tops_in k) (marks_in k) s q is in
    record { told = q; epochs = refl; tops = c.1; marks = c.2; count = refl }

stepped_as : {d : List ℕ} {i count n : ℕ} {t u : Told} {e f a b p m : List ℕ} → u ≡ t → f ≡ e → a ≡ p → b ≡ m → n ≡ count → Stepped d i t e p m count → Stepped d i u f a b n
stepped_as {d} {i} {count} {n} {t} {u} {e} {f} {a} {b} {p} {m} x y z w c h =
    subst (λ (k : Told). Stepped d i k f a b n) (sym x)
    (subst (λ (k : List ℕ). Stepped d i t k a b n) (sym y)
    (subst (λ (k : List ℕ). Stepped d i t e k b n) (sym z)
    (subst (λ (k : List ℕ). Stepped d i t e p k n) (sym w)
    (subst (λ (k : ℕ). Stepped d i t e p m k) (sym c) h))))

module _ (d : List ℕ) (i : ℕ) (k : Kept) (h : FollowsIn d i k) where
  -- the highest number of a window is far below what 48 bits hold
  pub top_small : i < most_records → (s : ℕ) → s < k.count → (window_in k s).max_seq ≤ 281474976710655
  top_small l s m = omega (arith, (h.agrees s m).highest, taken-small d i (get_or (epochs_in k) s 0))

  -- no slot holds the epoch of a record
  none-has : {e : ℕ} → e ≡ epoch_at d i → FoundIn k e None → (s : ℕ) → s < k.count → get_or (epochs_in k) s 0 ≡ epoch_at d i → ⊥
  none-has is f s m y = f s m (y ∙ sym is)

  module _ {r : List ℕ} (q : r ≡ record_at d i) where
    pub tell-short : length r < record_size → SteppedIn d i (only Short) k
    tell-short l = step-short d i h (subst (λ (x : List ℕ). is_whole x ≡ false) q (lt-leb record_size (length r) l))

    module _ (l : record_size ≤ length r) where
      whole : is_whole (record_at d i) ≡ true
      whole = subst (λ (x : List ℕ). is_whole x ≡ true) q (le-leb record_size (length r) l)

      pub tell_record : is_well_formed r ≡ false → SteppedIn d i (only Record) k
      tell_record x = step_record d i h whole (subst (λ (y : List ℕ). is_well_formed y ≡ false) q x)

      module _ (x : is_well_formed r ≡ true) {e : ℕ} (is : e ≡ epoch_of r) where
        well : is_well_formed (record_at d i) ≡ true
        well = subst (λ (y : List ℕ). is_well_formed y ≡ true) q x

        epoch-is : e ≡ epoch_at d i
        epoch-is = is ∙ ap epoch_of q

        in-step : {next last : Kept} {s : ℕ} {t : Told} → Holds (meet (epoch_at d i) (kept_at d i)) (told_to d i) (epochs_in next) (tops_in next) (marks_in next) next.count
            → s < next.count → get_or (epochs_in next) s 0 ≡ epoch_at d i → InSlotOf next s r t last → SteppedIn d i t last
        in-step {next} {last} {s} {t} b g y z =
            let w = subst (λ (a : List ℕ). InSlotOf next s a t last) q z in
            stepped_as w.told w.epochs w.tops w.marks w.count (step-in d i whole well b s g y)

        pub tell-epoch : FoundIn k e None → k.count ≡ most_kept → SteppedIn d i (only Epoch) k
        tell-epoch f n = step-epoch d i h whole well (none-has epoch-is f) n

        pub tell-known : {s : ℕ} {t : Told} {last : Kept} → FoundIn k e (Some s) → InSlotOf k s r t last → SteppedIn d i t last
        tell-known {s} f z = in-step (known d i h s f.0 (f.1 ∙ epoch-is)) f.0 (f.1 ∙ epoch-is) z

        -- behind `begin`, whose slot is the first free one
        pub tell-new : {s : ℕ} {t : Told} {next last : Kept} → FoundIn k e None → k.count < most_kept → s ≡ k.count → next ≡ with_slot k e → InSlotOf next s r t last
            → SteppedIn d i t last
        tell-new {s} {t} {next} {last} f n end v z =
            let made = begun d i h (none-has epoch-is f) n in
            let E = map-set (λ (a : Slot). a.epoch) k.slots k.count (record { epoch = e; window = unmarked }) ∙ ap (set (epochs_in k) k.count) epoch-is in
            let T = map-set (λ (a : Slot). a.window.max_seq) k.slots k.count (record { epoch = e; window = unmarked }) in
            let M = map-set (λ (a : Slot). a.window.window) k.slots k.count (record { epoch = e; window = unmarked }) in
            let held1 = subst (λ (a : List ℕ). Holds (meet (epoch_at d i) (kept_at d i)) (told_to d i) a (set (tops_in k) k.count 0) (set (marks_in k) k.count 0) (k.count + 1)) (sym E) made in
            let held2 = subst (λ (a : List ℕ). Holds (meet (epoch_at d i) (kept_at d i)) (told_to d i) (epochs_in (with_slot k e)) a (set (marks_in k) k.count 0) (k.count + 1)) (sym T) held1 in
            let held3 = subst (λ (a : List ℕ). Holds (meet (epoch_at d i) (kept_at d i)) (told_to d i) (epochs_in (with_slot k e)) (tops_in (with_slot k e)) a (k.count + 1)) (sym M) held2 in
            let place = ap (λ (a : List ℕ). get_or a k.count 0) E ∙ get_or-set_same (epochs_in k) k.count (epoch_at d i) 0 (omega (arith, h.sizes.0)) in
            let w = subst (λ (a : Kept). InSlotOf a s r t last) v z in
            let u = subst (λ (a : ℕ). InSlotOf (with_slot k e) a r t last) end w in
            in-step {next = with_slot k e} held3 (omega arith) place u

-- the highest number of a slot just begun
pub new_small : (k : Kept) (e : ℕ) {s : ℕ} {next : Kept} → s ≡ k.count → k.count < length k.slots → next ≡ with_slot k e → (window_in next s).max_seq ≤ 281474976710655
new_small k e {s} {next} end l v =
    let T = map-set (λ (a : Slot). a.window.max_seq) k.slots k.count (record { epoch = e; window = unmarked }) in
    let zero-there : (window_in next s).max_seq ≡ 0 =
    ap (λ (a : Kept). get_or (tops_in a) s 0) v ∙ ap (λ (a : ℕ). get_or (tops_in (with_slot k e)) a 0) end ∙ ap (λ (a : List ℕ). get_or a k.count 0) T
    ∙ get_or-set_same (tops_in k) k.count 0 0 (omega (arith, length-map k.slots (λ (a : Slot). a.window.max_seq))) in
    omega arith
