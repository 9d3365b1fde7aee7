-- Small laws that the proofs share: the books, saved records, choices, and the numbers of answers. Assumes nothing.
use Rattle.std.specs.Prelude.{ℕ, eqb, Bool, true, ◌≡◌}
use Rattle.std.proofs.Math.Bool.{false}
use Rattle.std.proofs.lemmas.Bool.{false≢true}
use mathlib.Core.List.Memᴰ.{tail as there}
use mathlib.Core.List.{List, [], ◌∷◌, ◌++◌, Memᴰ as Mem}
use Rattle.std.proofs.Math.Path.{refl}
use Rattle.std.proofs.Common.{sym, ap, subst, ◌∙◌}
use Rattle.base.specs.Choose.{choose, either}
use Rattle.history_theorem.specs.Account.{upd}
use Rattle.history_theorem.proofs.Lists.{upd-by}
use Rattle.send_keys.specs.Answer.{SendAnswer, is_done, refusal, done-number}
use Rattle.ends_theorem.specs.Ledger.{Sent, Kept, Name, is_named}
use Rattle.ends_theorem.specs.Sender.{Books, enters, enters_all}

-- ---- the books

-- one more in a log by epochs
pub upd-grows : {A : Type 0} (f : ℕ → List A) (k : ℕ) (new : A) (e : ℕ) (a : A) → Mem a (f e) → Mem a (upd f k (new ∷ f k) e)
upd-grows f k new e a =
    upd-by f k (new ∷ f k) (λ e l. Mem a (f e) → Mem a l) e (λ same m. there (subst (λ (v : ℕ). Mem a (f v)) same m)) (λ other m. m)

-- records in two parts are entered one part after the other
pub enters-append : (xs ys : List Sent) (b : Books) → enters_all (xs ++ ys) b ≡ enters_all ys (enters_all xs b)
enters-append [] ys b = refl
enters-append (x ∷ xs) ys b = enters-append xs ys (enters x b)

-- a saved record sent again under a number, and behind an ACK
abbrev pub under : Kept → ℕ → Kept
under k n = record { epoch = k.epoch; type = k.type; content = k.content; sendings = n ∷ k.sendings; acked = false }

abbrev pub marked_as : List Name → Kept → Kept
marked_as ns k = record { epoch = k.epoch; type = k.type; content = k.content; sendings = k.sendings; acked = either k.acked (is_named ns k) }

-- ---- choices

-- three and four choices by one test
pub by_three : {A B C : Type 0} (P : A → B → C → Type 0) (t : Bool) {a a' : A} {b b' : B} {c c' : C} → (t ≡ true → P a b c) → (t ≡ false → P a' b' c')
    → P (choose t a a') (choose t b b') (choose t c c')
unfolding choose
by_three P true f g = f refl
by_three P false f g = g refl

pub by-four : {A B C D : Type 0} (P : A → B → C → D → Type 0) (t : Bool) {a a' : A} {b b' : B} {c c' : C} {d d' : D} → (t ≡ true → P a b c d) → (t ≡ false → P a' b' c' d')
    → P (choose t a a') (choose t b b') (choose t c c') (choose t d d')
unfolding choose
by-four P true f g = f refl
by-four P false f g = g refl

-- what is off where the first is on
pub off_parts : (a b : Bool) → choose a false b ≡ true → (a ≡ false) × (b ≡ true)
unfolding choose
off_parts true b h = absurd (false≢true h)
off_parts false b h = (refl, h)

-- the program's choice of true is the account's either
pub or_is : {a b p q : Bool} → a ≡ b → p ≡ q → choose a true p ≡ either b q
or_is {a} {b} {p} {q} g h = split a p ∙ (λ i. either (g i) (h i))
  where
    split : (a p : Bool) → choose a true p ≡ either a p
    split true p = unfold choose either in refl
    split false p = unfold choose either in refl

-- ---- the answer to a call that sends, and its number

abbrev pub Told : SendAnswer → ℕ → Type 0
Told a n = refusal a ≡ n

-- it is done where the account's number is 0
pub done-by : (a : SendAnswer) {n : ℕ} → refusal a ≡ n → eqb n 0 ≡ is_done a
done-by a h = ap (λ (n : ℕ). eqb n 0) (sym h) ∙ done-number a
