-- Each line's reason is the first test that truly failed (02, 8). What each test is stands here in terms of the input and of the lines before:
-- no window, no list that the program keeps. Assumes nothing.
use Prim.{tt}
use Rattle.std.specs.Prelude.{true, false, ◌⊎◌, ◌↔◌, ◌≡◌, ℕ, zero, suc, ◌+◌, ◌-◌, ◌*◌, ◌<◌, ◌≤◌, min, eqb, length, get_or}
use Rattle.std.proofs.lemmas.Bool.{false≢true, eqb-false}
use mathlib.Core.List.{List, [], ◌∷◌, Memᴰ as Mem}
use Rattle.std.proofs.Common.{inl, inr, ⊎_elim, sym, ap, subst, ◌∙◌, eqb-true, eq-eqb, ne_eqb, leb-true, leb-false, le-leb, length-take, length-drop}
use Rattle.std.proofs.Math.Path.{refl}
use native.Mathlib.Omega.{arith}
use Rattle.base.specs.Bytes.{be_at}
use Rattle.base.specs.Choose.{both, either, test_cases, both_left, both_right, both_true, either_true, either-false, lt-or_ge, eq-or_ne}
use Rattle.sequence.proofs.Laws.{nearest-least}
use Rattle.window.specs.Used.{above}
use Rattle.window.proofs.Used.{used-below, highest-used}
use Rattle.reasons.specs.declared.Reason.{Reason}
use Rattle.reasons.specs.declared.Reason.TheVariants.{Short, Record, Epoch, Old, Seen, Cipher, Taken}
use Rattle.reasons.specs.declared.Told.{Told}
use Rattle.reasons.specs.Met.{has, meet, FourBefore}
use Rattle.reasons.proofs.Meeting.{has-mem, hasnt, kept_exactly}
use Rattle.reasons.specs.Reasons.{record_size, record_at, records, bits_of, reply_of, is_whole, ends_well, is_well_formed, is_formed, epoch_at, kept_at, old_from, taken_in, number_in, reason_in, told_in, told_to, told_at}
use Rattle.reasons.proofs.Laws.{listed, lists, taken-small}
use Rattle.reasons.proofs.Cases.{tell-cases, reason-cases}
use Rattle.reasons.specs.Claim.{records_read, WellFormed, Formed, Fifth, TakenBefore, number_at, Fails, rank, First, Numbered, Explained}

-- ---- each is what the definition tests

sixteen-or_eight : (r : List ℕ) → either (eqb (bits_of r) 16) (both (eqb (bits_of r) 8) (eqb (get_or r 4 0) 0)) ≡ true
    → ((bits_of r ≡ 8) ⊎ (bits_of r ≡ 16)) × (bits_of r ≡ 8 → get_or r 4 0 ≡ 0)
sixteen-or_eight r e =
    test_cases (eqb (bits_of r) 16) (λ t. let b = eqb-true (bits_of r) 16 t in (inr b, λ q. absurd (omega arith)))
    (λ t.
    let n = sym (either-false t) ∙ e in
    let b = eqb-true (bits_of r) 8 (both_left _ _ n) in
    let z = eqb-true (get_or r 4 0) 0 (both_right _ _ n) in
    (inl b, λ q. z))

one_of_two : (n : ℕ) → n ≤ 1 → (n ≡ 0) ⊎ (n ≡ 1)
one_of_two n l = ⊎_elim (λ e. inl e) (λ e. inr (omega arith)) (eq-or_ne n 0)

form_is : (r : List ℕ) → is_well_formed r ≡ true → WellFormed r
unfolding is_well_formed ends_well
form_is r e =
    let b = sixteen-or_eight r (both_left _ _ e) in
    let l = leb-true (reply_of r) 1 (both_left _ _ (both_right _ _ e)) in
    let z = eqb-true (be_at 2 r 6) 0 (both_right _ _ (both_right _ _ e)) in
    record { bits = b.0; reply = one_of_two _ l; first = b.1; zeros = (omega arith, omega arith) }

is_form : (r : List ℕ) → WellFormed r → is_well_formed r ≡ true
unfolding is_well_formed ends_well
is_form r w =
    both_true
    (⊎_elim
    (λ (e : bits_of r ≡ 8). either-false (ne_eqb (bits_of r) 16 (λ q. omega arith)) ∙ both_true (eq-eqb (bits_of r) 8 e) ∙ eq-eqb (get_or r 4 0) 0 (w.first e))
    (λ (e : bits_of r ≡ 16). either_true _ (eq-eqb (bits_of r) 16 e)) w.bits)
    ∙ both_true (le-leb (reply_of r) 1 (⊎_elim (λ e. omega arith) (λ e. omega arith) w.reply))
    ∙ eq-eqb (be_at 2 r 6) 0 (omega (arith, w.zeros.0, w.zeros.1))

module _ (d : List ℕ) where
  record_length : (i : ℕ) → length (record_at d i) ≡ min record_size (length d - i * record_size)
  record_length i = simp (length-take, length-drop)

  whole_is : (i : ℕ) → is_whole (record_at d i) ≡ true → i * record_size + record_size ≤ length d
  whole_is i e = omega (arith, leb-true record_size (length (record_at d i)) e, record_length i)

  is-whole : (i : ℕ) → i * record_size + record_size ≤ length d → is_whole (record_at d i) ≡ true
  is-whole i l = le-leb record_size (length (record_at d i)) (omega (arith, record_length i))

  not_whole : (i : ℕ) → is_whole (record_at d i) ≡ false → length d < i * record_size + record_size
  not_whole i e = omega (arith, leb-false record_size (length (record_at d i)) e, record_length i)

  formed-is : (i : ℕ) → (is_formed d i ≡ true) ↔ Formed d i
  unfolding is_formed
  formed-is i = (
    λ e. record { whole = whole_is i (both_left _ _ e); formed = form_is _ (both_right _ _ e) },
    λ f. both_true (is-whole i f.whole) ∙ is_form _ f.formed,
  )

  fifth-is : (i : ℕ) → (has (epoch_at d i) (meet (epoch_at d i) (kept_at d i)) ≡ false) ↔ Fifth d i
  unfolding kept_at
  fifth-is i = (λ e. some ((kept_exactly (is_formed d) (epoch_at d) (epoch_at d i) i).0 e), λ f. (kept_exactly (is_formed d) (epoch_at d) (epoch_at d i) i).1 (all f))
    where
      some : FourBefore (is_formed d) (epoch_at d) (epoch_at d i) i → Fifth d i
      some f = record {
        epochs = f.epochs;
        four = f.four;
        different = f.different;
        each = λ x m. let c = f.each x m in (
          c.0,
          record {
            before = c.1;
            formed = (formed-is c.0).0 c.2.is-formed;
            epoch = c.2.its-epoch;
            none = λ k l g q. c.2.none_of_e k l ((formed-is k).1 g) q;
          },
        );
      }

      all : Fifth d i → FourBefore (is_formed d) (epoch_at d) (epoch_at d i) i
      all f = record {
        epochs = f.epochs;
        four = f.four;
        different = f.different;
        each = λ x m. let c = f.each x m in (
          c.0,
          c.1.before,
          record {
            is-formed = (formed-is c.0).1 c.1.formed;
            its-epoch = c.1.epoch;
            none_of_e = λ k l g q. c.1.none k l ((formed-is k).0 g) q;
          },
        );
      }

-- ---- the order

unrank : ℕ → Reason
unrank zero = Short
unrank (suc zero) = Record
unrank (suc (suc zero)) = Epoch
unrank (suc (suc (suc zero))) = Old
unrank (suc (suc (suc (suc zero)))) = Seen
unrank (suc (suc (suc (suc (suc zero))))) = Cipher
unrank (suc (suc (suc (suc (suc (suc n)))))) = Taken

unrank-rank : (q : Reason) → unrank (rank q) ≡ q
unfolding unrank
unrank-rank Short = refl
unrank-rank Record = refl
unrank-rank Epoch = refl
unrank-rank Old = refl
unrank-rank Seen = refl
unrank-rank Cipher = refl
unrank-rank Taken = refl

rank-one : (q w : Reason) → rank q ≡ rank w → q ≡ w
rank-one q w e = sym (unrank-rank q) ∙ ap unrank e ∙ unrank-rank w

module _ (d : List ℕ) (i : ℕ) where
  -- the tests before one are passed
  abbrev Before : Reason → Type 0
  Before w = (q : Reason) → rank q < rank w → Fails d i q → ⊥

  and-next : (w v : Reason) → rank v ≡ suc (rank w) → Before w → (Fails d i w → ⊥) → Before v
  and-next w v e p f q l x =
      ⊎_elim (λ (s : rank q ≡ rank w). f (subst (λ (y : Reason). Fails d i y) (rank-one q w s) x)) (λ s. p q (omega arith) x) (eq-or_ne (rank q) (rank w))

  -- no two reasons are first
  one-first : (q w : Reason) → First d i q → First d i w → q ≡ w
  one-first q w a b =
      ⊎_elim (λ l. absurd (b.passes q l a.fails))
      (λ l. ⊎_elim (λ k. absurd (a.passes w k b.fails)) (λ k. rank-one q w (omega arith)) (lt-or_ge (rank w) (rank q))) (lt-or_ge (rank q) (rank w))

  -- the numbers taken before in the epoch of record i
  abbrev taken : List ℕ
  taken = taken_in (epoch_at d i) (told_to d i)

  came : (n : ℕ) → Mem n taken → (j : ℕ) × TakenBefore d i n j
  came n m = let t = listed d (epoch_at d i) n i m in
      (t.0, record { before = t.1; epoch = t.2.epoch; taken = t.2.taken; number = t.2.number })

  comes : (n j : ℕ) → TakenBefore d i n j → Mem n taken
  comes n j t = lists d (epoch_at d i) n i j t.before (record { taken = t.taken; epoch = t.epoch; number = t.number })

  -- the highest number taken, if any was
  came-highest : (l : List ℕ) → taken ≡ l → 0 < above l → (j : ℕ) × TakenBefore d i (above l - 1) j
  came-highest [] e h = absurd (omega arith)
  came-highest (n ∷ l) e h = came (above (n ∷ l) - 1) (subst (λ (x : List ℕ). Mem (above (n ∷ l) - 1) x) (sym e) (highest-used n l))

  not_old : above taken ≤ number_at d i + old_from → Fails d i Old → ⊥
  not_old l f = omega (arith, used-below taken (comes f.0 f.1 f.2), f.3)

  not_seen : has (number_at d i) taken ≡ false → Fails d i Seen → ⊥
  not_seen e f = (hasnt (number_at d i) taken).0 e (comes (number_at d i) f.0 f.1)

  is-old : number_at d i + old_from < above taken → Fails d i Old
  is-old l = let c = came-highest taken refl (omega arith) in (above taken - 1, c.0, c.1, omega arith)

  -- of a well-formed record whose epoch is kept
  first-number : is_well_formed (record_at d i) ≡ true → Before Old → First d i (reason_in taken (number_at d i) (eqb (reply_of (record_at d i)) 1))
  first-number w p =
      reason-cases (First d i) taken (number_at d i) (eqb (reply_of (record_at d i)) 1) (λ l. record { fails = is-old l; passes = p })
      (λ l h. record { fails = came (number_at d i) ((has-mem _ _).0 h); passes = and-next Old Seen refl p (not_old l) })
      (λ l h o. record { fails = refused o; passes = and-next Seen Cipher refl (and-next Old Seen refl p (not_old l)) (not_seen h) })
      (λ l h o. record {
        fails = tt;
        passes = and-next Cipher Taken refl (and-next Seen Cipher refl (and-next Old Seen refl p (not_old l)) (not_seen h)) (opened o);
      })
    where
      refused : eqb (reply_of (record_at d i)) 1 ≡ false → reply_of (record_at d i) ≡ 0
      refused o = ⊎_elim (λ e. e) (λ e. absurd (eqb-false _ _ o e)) (form_is _ w).reply

      opened : eqb (reply_of (record_at d i)) 1 ≡ true → reply_of (record_at d i) ≡ 0 → ⊥
      opened o e = let one = eqb-true (reply_of (record_at d i)) 1 o in omega arith

  first : First d i (told_at d i).reason
  unfolding told_at told_in
  first =
      tell-cases (λ (t : Told). First d i t.reason) (kept_at d i) (told_to d i) (record_at d i) (λ w. record { fails = not_whole d i w; passes = none })
      (λ w x. record { fails = ill x; passes = whole w }) (λ w x y. record { fails = (fifth-is d i).0 y; passes = formed w x })
      (λ w x y. first-number x (and-next Epoch Old refl (formed w x) (among y)))
    where
      none : Before Short
      none q l f = omega arith

      ill : is_well_formed (record_at d i) ≡ false → Fails d i Record
      ill x f = false≢true (sym x ∙ is_form _ f)

      whole : is_whole (record_at d i) ≡ true → Before Record
      whole w = and-next Short Record refl none (λ f. omega (arith, whole_is d i w))

      formed : is_whole (record_at d i) ≡ true → is_well_formed (record_at d i) ≡ true → Before Epoch
      formed w x = and-next Record Epoch refl (whole w) (λ f. f (form_is _ x))

      among : has (epoch_at d i) (meet (epoch_at d i) (kept_at d i)) ≡ true → Fails d i Epoch → ⊥
      among y f = false≢true (sym ((fifth-is d i).1 f) ∙ y)

  -- ---- the number

  numbered : i < records_read → Numbered d i
  unfolding number_in
  numbered l = record {
    expected = above taken;
    is-expected = record { above-all = λ n j t. used-below taken (comes n j t); highest = λ h. came-highest taken refl h };
    nearest_to = nearest-least (eqb (bits_of (record_at d i)) 16) _ _ (omega (arith, taken-small d i (epoch_at d i)));
  }

  -- and that number is told, where one is
  told-number : 3 ≤ rank (told_at d i).reason → (told_at d i).number ≡ number_at d i
  unfolding told_at told_in
  told-number =
      tell-cases (λ (t : Told). 3 ≤ rank t.reason → t.number ≡ number_at d i) (kept_at d i) (told_to d i) (record_at d i) (λ w l. absurd (omega arith))
      (λ w x l. absurd (omega arith)) (λ w x y l. absurd (omega arith)) (λ w x y l. refl)

-- ---- the claim

pub first_failure : (d : List ℕ) (i : ℕ) → Explained d i
unfolding records
first_failure d i = record {
  line = (λ l. (omega arith, omega arith), λ l. omega (arith, l.0, l.1));
  reason = λ why. (λ e. subst (First d i) e (first d i), λ f. one-first d i _ why (first d i) f);
  number = numbered d i;
  told = told-number d i;
}
