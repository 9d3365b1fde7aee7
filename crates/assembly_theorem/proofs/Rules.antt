-- When a call of reassembly is answered by what, read off the account alone, both ways; the messages in their order and
-- within their limits; and a host can always go on. Assumes nothing.
use Rattle.std.specs.Prelude.{Bool, true, false, ◌↔◌, ◌≡◌, ℕ, zero, suc, ◌≤◌, ◌<◌, leb, ltb, eqb, length, take, drop, replicate}
use Rattle.std.proofs.Math.Bool.{false≢true}
use mathlib.Core.List.Memᴰ.{head as here}
use mathlib.Core.List.{List, [], ◌∷◌, Memᴰ as Mem}
use Rattle.std.proofs.Common.{⊎_elim, sym, ◌∙◌, length-take}
use Rattle.std.proofs.Math.Option.{Option, none, some}
use Rattle.std.proofs.Math.Path.{refl, ap, subst}
use native.Mathlib.Omega.{arith}
use borrow.Author.Tests.{ltb-true, ltb-false, leb-true, leb-false, eqb-true, eqb-false, lt-ltb, le-ltb, eq-eqb, ne_eqb}
use Rattle.std.proofs.lemmas.List.{length-replicate}
use Rattle.base.specs.Choose.{choose, both, by_test, by_less, if_true, if_false, test_cases, lt-or_ge, both_true, both_left, both_right}
use Rattle.base.specs.Every.{every-each, each-every, one-fails}
use Rattle.history_theorem.proofs.Lists.{mem-by}
use Rattle.assembly_theorem.specs.Account.{most_taken, longest_body, last_number, Fragment, fragment_in, end_of, has, byte_in, covers, covers_all, oldest, is_among, shares_all, Account, Verdict, begun, turned, ended, over, other, same, held, whole, is_fit, is_agreed, taken_as, judged, read_as, owed, ends, settled, or_none, reads_from, after}
use Rattle.assembly_theorem.proofs.Agreement.{same-one, Among, among, is-among, shares_each, one_differs, oldest-in}
use Rattle.assembly_theorem.specs.Claim.{PieceCall, begin·, take·, Out, Piecing, new_piecing, logged, does, FairPiece, Log, none as no-message, more, ran, AllFair}
use Rattle.assembly_theorem.proofs.Laws.{length-stays}
use Rattle.assembly_theorem.proofs.ReadLaws.{kept-count}
use Rattle.assembly_theorem.proofs.Theorem.{Story, does_story, new_story}
use Rattle.assembly_theorem.specs.Rules.{Fits, MessageWithin, Pieces, Within}

-- ---- what the rules speak of

-- the call comes to the place reached of the record begun: the buffer is long enough, the content has the length begun, the place is within it
pub record Reached (a : Account) (c : List ℕ) (n : ℕ) : Type 0 where
  pub room : longest_body ≤ n
  pub length-begun : length c ≡ a.size
  pub inside : a.place < length c

-- the piece that stands there, if its header and its body lie within the record
abbrev pub standing : Account → List ℕ → Option Fragment
standing a c = fragment_in (drop a.place c)

-- "24 .. for a piece that runs past its own total, the held total or its record, a total over 16,384, or 65,535 as the expected number"; all but the
-- record's end is asked of pieces of the expected message alone
pub data Bad (a : Account) : Option Fragment → Type 0 where
  past_record : Bad a none
  last-expected : {f : Fragment} → f.number ≡ a.out → last_number ≤ a.out → Bad a (some f)
  total-over : {f : Fragment} → f.number ≡ a.out → longest_body < f.total → Bad a (some f)
  past-own : {f : Fragment} → f.number ≡ a.out → f.total < end_of f → Bad a (some f)
  past-held : {f g : Fragment} {gs : List Fragment} → f.number ≡ a.out → a.pieces ≡ g ∷ gs → (oldest g gs).total < end_of f → Bad a (some f)

-- a piece of the expected message stands there that 24 spares
pub record Good (a : Account) (c : List ℕ) (n : ℕ) (f : Fragment) : Type 0 where
  pub reached : Reached a c n
  pub stands : standing a c ≡ some f
  pub expected : f.number ≡ a.out
  pub not_bad : Bad a (some f) → ⊥

-- 28: "Every piece must have the held type and total, and where pieces overlap, shared bytes must be equal"
pub data Clash (a : Account) (f : Fragment) : Type 0 where
  other-kind : {g : Fragment} {gs : List Fragment} → a.pieces ≡ g ∷ gs → ((oldest g gs).kind ≡ f.kind → ⊥) → Clash a f
  other-total : {g : Fragment} {gs : List Fragment} → a.pieces ≡ g ∷ gs → ((oldest g gs).total ≡ f.total → ⊥) → Clash a f
  other_byte : {g : Fragment} → Mem g a.pieces → (i : ℕ) → has f i ≡ true → has g i ≡ true → (byte_in f i ≡ byte_in g i → ⊥) → Clash a f

-- and it agrees with those taken
pub record Agreeing (a : Account) (c : List ℕ) (n : ℕ) (f : Fragment) : Type 0 where
  pub good : Good a c n f
  pub no_clash : Clash a f → ⊥

-- a different piece, and there is a place for it
pub record New (a : Account) (c : List ℕ) (n : ℕ) (f : Fragment) : Type 0 where
  pub agreeing : Agreeing a c n f
  pub different : Among f a.pieces → ⊥
  pub few : length a.pieces < most_taken

-- the message as it is told: type and total of the first piece held, every byte below the total in a piece
pub record Completes (a : Account) (f : Fragment) (kind number size : ℕ) : Type 0 where
  pub every_byte : (i : ℕ) → i < size → covers (f ∷ a.pieces) i ≡ true
  pub kind-first : kind ≡ (oldest f a.pieces).kind
  pub number-expected : number ≡ a.out
  pub size-first : size ≡ (oldest f a.pieces).total

-- ---- each answer, and when it is owed

-- a choice of two statements, so that the rule of a given number reads as its conditions
abbrev pub statement : Bool → Type 0 → Type 0 → Type 0
statement true then else = then
statement false then else = else

abbrev pub When : Account → List ℕ → ℕ → Verdict → Type 0
When a c n begun = ⊥
When a c n (turned k) =
    statement (eqb k 16) (n < longest_body) (statement (eqb k 15) ((longest_body ≤ n) × (length c ≡ a.size → ⊥)) ⊥)
When a c n over = (longest_body ≤ n) × (length c ≡ a.size) × (length c ≤ a.place)
When a c n (ended k) =
    statement (eqb k 24) (Reached a c n × Bad a (standing a c))
    (statement (eqb k 28) ((f : Fragment) × Good a c n f × Clash a f)
    (statement (eqb k 25) ((f : Fragment) × Agreeing a c n f × (Among f a.pieces → ⊥) × (most_taken ≤ length a.pieces)) ⊥))
When a c n (other m) = Reached a c n × ((f : Fragment) × (standing a c ≡ some f) × (f.number ≡ m) × (m ≡ a.out → ⊥))
When a c n same = (f : Fragment) × Agreeing a c n f × Among f a.pieces
When a c n held = (f : Fragment) × New a c n f × ((i : ℕ) × (i < (oldest f a.pieces).total) × (covers (f ∷ a.pieces) i ≡ false))
When a c n (whole k m l) = (f : Fragment) × New a c n f × Completes a f k m l

-- ---- the tests as the rules have them

by_number : {P Q C : Type 0} (k m : ℕ) → statement (eqb k m) P Q → (k ≡ m → P → C) → (Q → C) → C
by_number {P} {Q} {C} k m s f g = by (eqb k m) (eqb-true k m) s
  where
    by : (b : Bool) → (b ≡ true → k ≡ m) → statement b P Q → C
    by true e p = f (e refl) p
    by false e q = g q

module _ (fs : List Fragment) (n : ℕ) where
  each-covered : covers_all fs n ≡ true → (i : ℕ) → i < n → covers fs i ≡ true
  unfolding covers_all
  each-covered = every-each (covers fs) n

  all-covered : ((i : ℕ) → i < n → covers fs i ≡ true) → covers_all fs n ≡ true
  unfolding covers_all
  all-covered = each-every (covers fs) n

  one_missing : covers_all fs n ≡ false → (i : ℕ) × (i < n) × (covers fs i ≡ false)
  unfolding covers_all
  one_missing = one-fails (covers fs) n

module _ (a : Account) (f : Fragment) where
  -- the last test: the held total is that of the first piece held
  past_first : f.number ≡ a.out → end_of f ≤ f.total → (gs : List Fragment) → a.pieces ≡ gs → (oldest f gs).total < end_of f → Bad a (some f)
  unfolding oldest
  past_first e l [] p h = absurd (omega arith)
  past_first e l (g ∷ gs) p h = past-held e p h

  unfit_bad : f.number ≡ a.out → is_fit a f ≡ false → Bad a (some f)
  unfolding is_fit
  unfit_bad e =
      test_cases (ltb a.out last_number)
      (λ t. test_cases (leb f.total longest_body)
      (λ u. test_cases (leb (end_of f) f.total)
      (λ v h. past_first e (leb-true _ _ v) a.pieces refl (leb-false _ _ (sym (both_true t ∙ both_true u ∙ both_true v) ∙ h)))
      (λ v h. past-own e (leb-false _ _ v)))
      (λ u h. total-over e (leb-false _ _ u)))
      (λ t h. last-expected e (ltb-false _ _ t))

  -- and a piece that is spared has passed them all
  module _ (fit : is_fit a f ≡ true) where
    fit-number : a.out < last_number
    unfolding is_fit
    fit-number = ltb-true _ _ (both_left _ _ fit)

    fit-rest : both (leb f.total longest_body) (both (leb (end_of f) f.total) (leb (end_of f) (oldest f a.pieces).total)) ≡ true
    unfolding is_fit
    fit-rest = both_right (ltb a.out last_number) _ fit

    fit-ends : both (leb (end_of f) f.total) (leb (end_of f) (oldest f a.pieces).total) ≡ true
    fit-ends = both_right (leb f.total longest_body) _ fit-rest

    fit-held : end_of f ≤ (oldest f a.pieces).total
    fit-held = leb-true _ _ (both_right (leb (end_of f) f.total) _ fit-ends)

    fit_not_bad : Bad a (some f) → ⊥
    unfolding oldest
    fit_not_bad (last-expected e l) = omega (arith, fit-number)
    fit_not_bad (total-over e l) = let h = leb-true f.total longest_body (both_left _ _ fit-rest) in omega arith
    fit_not_bad (past-own e l) = let h = leb-true (end_of f) f.total (both_left _ _ fit-ends) in omega arith
    fit_not_bad (past-held e p l) = let h = subst (λ (fs : List Fragment). end_of f ≤ (oldest f fs).total) p fit-held in omega arith

  -- 28's test
  other-kind_from : (gs : List Fragment) → a.pieces ≡ gs → ((oldest f gs).kind ≡ f.kind → ⊥) → Clash a f
  unfolding oldest
  other-kind_from [] p e = absurd (e refl)
  other-kind_from (g ∷ gs) p e = other-kind p e

  other-total_from : (gs : List Fragment) → a.pieces ≡ gs → ((oldest f gs).total ≡ f.total → ⊥) → Clash a f
  unfolding oldest
  other-total_from [] p e = absurd (e refl)
  other-total_from (g ∷ gs) p e = other-total p e

  unagreed_clash : is_agreed a f ≡ false → Clash a f
  unfolding is_agreed
  unagreed_clash =
      test_cases (eqb (oldest f a.pieces).kind f.kind)
      (λ t. test_cases (eqb (oldest f a.pieces).total f.total)
      (λ u h. let x = one_differs f a.pieces (sym (both_true t ∙ both_true u) ∙ h) in other_byte x.1 x.2.0 x.2.1 x.2.2 x.2.3)
      (λ u h. other-total_from a.pieces refl (eqb-false _ _ u)))
      (λ t h. other-kind_from a.pieces refl (eqb-false _ _ t))

  module _ (agreed : is_agreed a f ≡ true) where
    agreed-rest : both (eqb (oldest f a.pieces).total f.total) (shares_all f a.pieces) ≡ true
    unfolding is_agreed
    agreed-rest = both_right (eqb (oldest f a.pieces).kind f.kind) _ agreed

    agreed-kind : (oldest f a.pieces).kind ≡ f.kind
    unfolding is_agreed
    agreed-kind = eqb-true _ _ (both_left _ _ agreed)

    agreed-total : (oldest f a.pieces).total ≡ f.total
    agreed-total = eqb-true _ _ (both_left _ _ agreed-rest)

    agreed_no_clash : Clash a f → ⊥
    unfolding oldest
    agreed_no_clash (other-kind p e) = e (subst (λ (fs : List Fragment). (oldest f fs).kind ≡ f.kind) p agreed-kind)
    agreed_no_clash (other-total p e) = e (subst (λ (fs : List Fragment). (oldest f fs).total ≡ f.total) p agreed-total)
    agreed_no_clash (other_byte {g} m i p q e) = e (shares_each f a.pieces (both_right (eqb (oldest f a.pieces).total f.total) _ agreed-rest) g m i p q)

bad_number : {a : Account} {f : Fragment} → Bad a (some f) → f.number ≡ a.out
bad_number (last-expected e l) = e
bad_number (total-over e l) = e
bad_number (past-own e l) = e
bad_number (past-held e p l) = e

-- ---- the rules

module _ (a : Account) (c : List ℕ) (n : ℕ) where
  abbrev P : Verdict → Type 0
  P = When a c n

  -- what is owed has its conditions
  module _ (r : Reached a c n) (f : Fragment) (s : standing a c ≡ some f) (e : f.number ≡ a.out) where
    when_judged : P (judged a f)
    unfolding judged taken_as
    when_judged =
        by_test P
        (λ fit. let g : Good a c n f = record { reached = r; stands = s; expected = e; not_bad = fit_not_bad a f fit } in
        by_test P
        (λ agreed. let y : Agreeing a c n f = record { good = g; no_clash = agreed_no_clash a f agreed } in
        by_test P (λ t. (f, y, among f a.pieces t))
        (λ t. let d : (Among f a.pieces → ⊥) = λ h. false≢true (sym t ∙ is-among f a.pieces h) in
        by_less P (length a.pieces) most_taken
        (λ l. let w : New a c n f = record { agreeing = y; different = d; few = l } in
        by_test P
        (λ u. (f, w, record { every_byte = each-covered (f ∷ a.pieces) _ u; kind-first = refl; number-expected = refl; size-first = refl }))
        (λ u. (f, w, one_missing (f ∷ a.pieces) _ u)))
        (λ l. (f, y, d, l))))
        (λ t. (f, g, unagreed_clash a f t)))
        (λ fit. (r, subst (Bad a) (sym s) (unfit_bad a f e fit)))

  when_read : Reached a c n → (q : Option Fragment) → standing a c ≡ q → P (read_as a q)
  unfolding read_as
  when_read r none e = (r, subst (Bad a) (sym e) past_record)
  when_read r (some f) e = by_test P (λ t. when_judged r f e (eqb-true _ _ t)) (λ t. (r, (f, e, refl, eqb-false _ _ t)))

  when_owed : P (owed a c n)
  unfolding owed
  when_owed =
      by_less P n longest_body (λ l. l)
      (λ room. by_test P
      (λ e. by_less P a.place (length c)
      (λ l. when_read (record { room = room; length-begun = eqb-true _ _ e; inside = l }) (standing a c) refl)
      (λ l. (room, eqb-true _ _ e, l)))
      (λ e. (room, eqb-false _ _ e)))

  -- and what has its conditions is owed
  is_read : Reached a c n → owed a c n ≡ read_as a (standing a c)
  unfolding owed
  is_read r = if_false _ _ (le-ltb _ _ r.room) ∙ if_true _ _ (eq-eqb _ _ r.length-begun) ∙ if_true _ _ (lt-ltb _ _ r.inside)

  is-judged : Reached a c n → (f : Fragment) → standing a c ≡ some f → f.number ≡ a.out → owed a c n ≡ judged a f
  unfolding read_as
  is-judged r f s e = is_read r ∙ ap (read_as a) s ∙ if_true _ _ (eq-eqb _ _ e)

  module _ {f : Fragment} (g : Good a c n f) where
    abbrev spared : Verdict
    spared = choose (is_among f a.pieces) same (choose (ltb (length a.pieces) most_taken) (taken_as a f) (ended 25))

    is-good : owed a c n ≡ choose (is_agreed a f) spared (ended 28)
    unfolding judged
    is-good =
        is-judged g.reached f g.stands g.expected
        ∙ if_true _ _ (test_cases (is_fit a f) (λ t. t) (λ t. absurd (g.not_bad (unfit_bad a f g.expected t))))

    is_clash : Clash a f → owed a c n ≡ ended 28
    is_clash k = is-good ∙ if_false _ _ (test_cases (is_agreed a f) (λ t. absurd (agreed_no_clash a f t k)) (λ t. t))

  module _ {f : Fragment} (y : Agreeing a c n f) where
    is-agreeing : owed a c n ≡ choose (is_among f a.pieces) same (choose (ltb (length a.pieces) most_taken) (taken_as a f) (ended 25))
    is-agreeing = is-good y.good ∙ if_true _ _ (test_cases (is_agreed a f) (λ t. t) (λ t. absurd (y.no_clash (unagreed_clash a f t))))

    is-different : (Among f a.pieces → ⊥) → owed a c n ≡ choose (ltb (length a.pieces) most_taken) (taken_as a f) (ended 25)
    is-different d = is-agreeing ∙ if_false _ _ (test_cases _ (λ t. absurd (d (among f a.pieces t))) (λ t. t))

  is-new : {f : Fragment} → New a c n f → owed a c n ≡ taken_as a f
  is-new w = is-different w.agreeing w.different ∙ if_true _ _ (lt-ltb _ _ w.few)

  is_bad : Reached a c n → (q : Option Fragment) → standing a c ≡ q → Bad a q → owed a c n ≡ ended 24
  unfolding read_as judged
  is_bad r none s b = is_read r ∙ ap (read_as a) s
  is_bad r (some f) s b =
      is-judged r f s (bad_number b) ∙ if_false _ _ (test_cases (is_fit a f) (λ t. absurd (fit_not_bad a f t b)) (λ t. t))

  is-owed : (v : Verdict) → P v → owed a c n ≡ v
  unfolding owed read_as taken_as
  is-owed begun w = absurd w
  is-owed (turned k) w =
      by_number k 16 w (λ e l. rw e (if_true _ _ (lt-ltb _ _ l)))
      (λ w. by_number k 15 w (λ e h. rw e (if_false _ _ (le-ltb _ _ h.0) ∙ if_false _ _ (ne_eqb _ _ h.1))) (λ z. absurd z))
  is-owed over (room, e, l) = if_false _ _ (le-ltb _ _ room) ∙ if_true _ _ (eq-eqb _ _ e) ∙ if_false _ _ (le-ltb _ _ l)
  is-owed (ended k) w =
      by_number k 24 w (λ e h. rw e (is_bad h.0 (standing a c) refl h.1))
      (λ w. by_number k 28 w (λ e h. rw e (is_clash h.1 h.2))
      (λ w. by_number k 25 w (λ e h. rw e (is-different h.1 h.2 ∙ if_false _ _ (le-ltb _ _ h.3))) (λ z. absurd z)))
  is-owed (other m) (r, h) =
      is_read r ∙ ap (read_as a) h.1 ∙ if_false _ _ (ne_eqb _ _ (λ e. h.3 (sym h.2 ∙ e))) ∙ ap other h.2
  is-owed same (f, y, h) = is-agreeing y ∙ if_true _ _ (is-among f a.pieces h)
  is-owed held (f, w, h) =
      is-new w ∙ if_false _ _ (test_cases _ (λ t. absurd (false≢true (sym h.2 ∙ each-covered (f ∷ a.pieces) _ t h.0 h.1))) (λ t. t))
  is-owed (whole k m l) (f, w, h) =
      is-new w ∙ if_true _ _ (all-covered (f ∷ a.pieces) _ (subst (λ (t : ℕ). (i : ℕ) → i < t → covers (f ∷ a.pieces) i ≡ true) h.size-first h.every_byte))
      ∙ rw (h.kind-first, h.number-expected, h.size-first)

  -- every answer, both ways
  pub rule : (v : Verdict) → (owed a c n ≡ v) ↔ P v
  rule v = (λ e. subst P e when_owed, λ w. is-owed v w)

  -- 16, "tested first"
  pub too_short-rule : (owed a c n ≡ turned 16) ↔ (n < longest_body)
  too_short-rule = rule (turned 16)

  -- 15: the content has not the length that was begun
  pub other-length-rule : (owed a c n ≡ turned 15) ↔ ((longest_body ≤ n) × (length c ≡ a.size → ⊥))
  other-length-rule = rule (turned 15)

  -- 12 never
  pub setting-never : owed a c n ≡ turned 12 → ⊥
  setting-never e = (rule (turned 12)).0 e

  -- the record's end
  pub over-rule : (owed a c n ≡ over) ↔ ((longest_body ≤ n) × (length c ≡ a.size) × (length c ≤ a.place))
  over-rule = rule over

  -- 24
  pub bad_rule : (owed a c n ≡ ended 24) ↔ (Reached a c n × Bad a (standing a c))
  bad_rule = rule (ended 24)

  -- "Pieces of other messages .. are only measured against the record"
  pub other-rule : (m : ℕ) → (owed a c n ≡ other m) ↔ (Reached a c n × ((f : Fragment) × (standing a c ≡ some f) × (f.number ≡ m) × (m ≡ a.out → ⊥)))
  other-rule m = rule (other m)

  -- 28, "after 24 and before 25", exactly if type, total or a shared byte differs
  pub disagrees_rule : (owed a c n ≡ ended 28) ↔ ((f : Fragment) × Good a c n f × Clash a f)
  disagrees_rule = rule (ended 28)

  -- the same as one taken, also where 50 are
  pub same-rule : (owed a c n ≡ same) ↔ ((f : Fragment) × Agreeing a c n f × Among f a.pieces)
  same-rule = rule same

  -- 25, "for a fifty-first different piece"
  pub too_many-rule : (owed a c n ≡ ended 25) ↔ ((f : Fragment) × Agreeing a c n f × (Among f a.pieces → ⊥) × (most_taken ≤ length a.pieces))
  too_many-rule = rule (ended 25)

  -- held: a byte of the message is missing still
  pub held-rule : (owed a c n ≡ held) ↔ ((f : Fragment) × New a c n f × ((i : ℕ) × (i < (oldest f a.pieces).total) × (covers (f ∷ a.pieces) i ≡ false)))
  held-rule = rule held

  -- "handed over once when every byte is covered"
  pub message-rule : (kind number size : ℕ) → (owed a c n ≡ whole kind number size) ↔ ((f : Fragment) × New a c n f × Completes a f kind number size)
  message-rule k m l = rule (whole k m l)

-- ---- the record goes on to its end

module _ (a : Account) (c : List ℕ) (n : ℕ) where
  still : (v : Verdict) → owed a c n ≡ v → Reached a c n → a.place < (settled a v (reads_from a c)).place
  still begun e r = absurd ((rule a c n begun).0 e)
  still (turned k) e r =
      by_number k 16 ((rule a c n (turned k)).0 e) (λ q l. absurd (omega (arith, r.room))) (λ w. by_number k 15 w (λ q h. absurd (h.1 r.length-begun)) (λ z. absurd z))
  still over e r = let l = ((over-rule a c n).0 e).2 in absurd (omega (arith, r.inside))
  still (ended k) e r = let l = r.length-begun in omega (arith, r.inside)
  still (other m) e r = omega arith
  still same e r = omega arith
  still held e r = omega arith
  still (whole k m l) e r = omega arith

  -- a call that reaches a piece moves on, so that asking comes to the record's end
  pub moves-on : Reached a c n → a.place < (after a c n).place
  moves-on r = still (owed a c n) refl r

  -- 15 and 16 change nothing
  pub turned-stays : (k : ℕ) → owed a c n ≡ turned k → after a c n ≡ a
  turned-stays k e = ap (λ (v : Verdict). settled a v (reads_from a c)) e

  -- 24, 28 and 25: "ends the record", "with the earlier pieces kept", "the message so far is kept"
  pub ended-keeps : (k : ℕ) → owed a c n ≡ ended k → ((after a c n).pieces ≡ a.pieces) × ((after a c n).out ≡ a.out) × (owed (after a c n) c n ≡ over)
  ended-keeps k e =
      let z : after a c n ≡ ends a = ap (λ (v : Verdict). settled a v (reads_from a c)) e in
      let r : Reached a c n = by_number k 24 ((rule a c n (ended k)).0 e) (λ q h. h.0)
      (λ w. by_number k 28 w (λ q h. h.1.reached) (λ w. by_number k 25 w (λ q h. h.1.good.reached) (λ x. absurd x))) in
      (ap (λ (b : Account). b.pieces) z, ap (λ (b : Account). b.out) z, ap (λ (b : Account). owed b c n) z ∙ (over-rule (ends a) c n).1 (r.room, r.length-begun, omega (arith, r.length-begun)))

-- ---- the messages in order

-- the numbers of messages, the newest first, and those below n
abbrev pub numbers_of : List Out → List ℕ
numbers_of [] = []
numbers_of (m ∷ ms) = m.number ∷ numbers_of ms

abbrev pub all_below : ℕ → List ℕ
all_below zero = []
all_below (suc n) = n ∷ all_below n

-- "Number 0 is expected first, then one more after each message": 0, 1, 2 and so on, read from the oldest
pub in_order : {ms : List Out} → Log ms → numbers_of ms ≡ all_below (length ms)
in_order no-message = refl
in_order (more e r l) = rw (e, in_order l)

pub number-below : {ms : List Out} → Log ms → (m : Out) → Mem m ms → m.number < length ms
number-below no-message k i = absurd (elim i [ ])
number-below (more {m} {ms} e r l) k i =
    mem-by i (λ (p : k ≡ m). let q = ap (λ (x : Out). x.number) p in omega arith) (λ o. omega (arith, number-below l k o))

-- "handed over once": two messages of one number are the same one
pub once : {ms : List Out} → Log ms → (x y : Out) → Mem x ms → Mem y ms → x.number ≡ y.number → x ≡ y
once no-message x y i j e = absurd (elim i [ ])
once (more {m} {ms} n r l) x y i j e =
    mem-by i
    (λ (p : x ≡ m). mem-by j (λ (q : y ≡ m). p ∙ sym q) (λ o. let z = ap (λ (u : Out). u.number) p in absurd (omega (arith, number-below l y o))))
    (λ o. mem-by j (λ (q : y ≡ m). let z = ap (λ (u : Out). u.number) q in absurd (omega (arith, number-below l x o))) (λ u. once l x y o u e))

-- ---- what every list of calls keeps

module _ (I : Piecing → Type 0) (step : (p : Piecing) (x : PieceCall) → Story p → Story (does p x) → I p → I (does p x)) where
  ran-keeps : (p : Piecing) (cs : List PieceCall) → AllFair p cs → Story p → I p → I (ran p cs)
  ran-keeps p [] fair s i = i
  ran-keeps p (x ∷ cs) fair s i = let t = does_story p x fair.0 s in ran-keeps (does p x) cs fair.1 t (step p x s t i)

module _ (a : Account) (c : List ℕ) (n : ℕ) where
  one-more : {f : Fragment} → New a c n f → Pieces a.out a.pieces → Pieces a.out (reads_from a c ∷ a.pieces)
  one-more {f} w old g m =
      let b = w.agreeing.good.not_bad in
      let e = w.agreeing.good.expected in
      mem-by m
      (λ (p : g ≡ reads_from a c). subst (Fits a.out) (sym (p ∙ ap or_none w.agreeing.good.stands)) (
        e,
        ⊎_elim (λ l. absurd (b (total-over e l))) (λ l. l) (lt-or_ge longest_body f.total),
        ⊎_elim (λ l. absurd (b (past-own e l))) (λ l. l) (lt-or_ge f.total (end_of f)),
      ))
      (λ o. old g o)

  pieces-within : (v : Verdict) → owed a c n ≡ v → Pieces a.out a.pieces → Pieces (settled a v (reads_from a c)).out (settled a v (reads_from a c)).pieces
  pieces-within begun e old = old
  pieces-within (turned k) e old = old
  pieces-within (ended k) e old = old
  pieces-within over e old = old
  pieces-within (other m) e old = old
  pieces-within same e old = old
  pieces-within held e old = one-more ((held-rule a c n).0 e).1 old
  pieces-within (whole k m l) e old = λ f i. absurd (elim i [ ])

  is_within : {f : Fragment} {k m l : ℕ} → New a c n f → Completes a f k m l → Pieces a.out a.pieces
      → (d : List ℕ) → MessageWithin (record { kind = k; number = m; body = take l d; last = reads_from a c; earlier = a.pieces })
  is_within {f} {k} {m} {l} w h old d =
      let q = (one-more w old _ (oldest-in (reads_from a c) a.pieces)).1 in
      let e : l ≡ (oldest (reads_from a c) a.pieces).total = rw w.agreeing.good.stands h.size-first in
      record { pieces = rw h.number-expected (one-more w old); few = omega (arith, w.few); short = omega (arith, length-take l d) }

  messages-within : (v : Verdict) → owed a c n ≡ v → Pieces a.out a.pieces → (d : List ℕ) (ms : List Out) → ((m : Out) → Mem m ms → MessageWithin m)
      → (m : Out) → Mem m (logged v (reads_from a c) a.pieces d ms) → MessageWithin m
  messages-within begun e old d ms out = out
  messages-within (turned k) e old d ms out = out
  messages-within (ended k) e old d ms out = out
  messages-within over e old d ms out = out
  messages-within (other m) e old d ms out = out
  messages-within same e old d ms out = out
  messages-within held e old d ms out = out
  messages-within (whole k m l) e old d ms out = λ x i.
      let h = (message-rule a c n k m l).0 e in
      mem-by i (λ (p : x ≡ record { kind = k; number = m; body = take l d; last = reads_from a c; earlier = a.pieces }).
      subst MessageWithin (sym p) (is_within h.1 h.2 old d)) (λ o. out x o)

within_from : (p : Piecing) → Story p → Pieces p.account.out p.account.pieces → ((m : Out) → Mem m p.messages → MessageWithin m) → Within p
within_from p s pieces messages =
    let e = s.stands.expected in
    let k = kept-count s.stands.kept in
    record {
      agree = λ f g m n.
          let x = s.stands.each f m in
          let y = s.stands.each g n in
          record { kind = x.kind ∙ sym y.kind; total = x.total ∙ sym y.total; bytes = λ i h j. sym (x.bytes i h) ∙ y.bytes i j };
      expected = omega (arith, s.stands.sound.expected);
      pieces = pieces;
      few = omega (arith, s.stands.sound.count);
      messages = messages;
    }

pub does-within : (p : Piecing) (x : PieceCall) → Story p → Story (does p x) → Within p → Within (does p x)
does-within p (begin· n) s t i = within_from (does p (begin· n)) t i.pieces i.messages
does-within p (take· c d) s t i =
    within_from (does p (take· c d)) t (pieces-within p.account c (length d) (owed p.account c (length d)) refl i.pieces)
    (messages-within p.account c (length d) _ (sym (t.holds.answers _ (here refl))) i.pieces _ p.messages i.messages)

pub new-within : Within new_piecing
new-within = within_from new_piecing new_story (λ f m. absurd (elim m [ ])) (λ m i. absurd (elim i [ ]))

pub every-within : (cs : List PieceCall) → AllFair new_piecing cs → Within (ran new_piecing cs)
every-within cs fair = ran-keeps Within does-within new_piecing cs fair new_story new-within

-- ---- the same, exactly

-- a piece that is one of those taken agrees with all of them
module _ (p : Piecing) (w : Within p) (f : Fragment) (m : Mem f p.account.pieces) where
  abbrev fs : List Fragment
  fs = p.account.pieces

  among_no_clash : Clash p.account f → ⊥
  among_no_clash (other-kind {g} {gs} e n) = n (w.agree (oldest g gs) f (subst (Mem (oldest g gs)) (sym e) (oldest-in g gs)) m).kind
  among_no_clash (other-total {g} {gs} e n) = n (w.agree (oldest g gs) f (subst (Mem (oldest g gs)) (sym e) (oldest-in g gs)) m).total
  among_no_clash (other_byte {g} i j h k n) = n ((w.agree f g m i).bytes j h k)

-- "two pieces count as the same exactly when message number, type, total length, offset, length and every byte agree": of what any list of calls has
-- taken, same is told of a piece that 24 spares exactly if one taken agrees with it in all of these
pub same_exactly : (p : Piecing) → Within p → (c : List ℕ) (n : ℕ)
    → (owed p.account c n ≡ same) ↔ ((f : Fragment) × Good p.account c n f × Among f p.account.pieces)
same_exactly p w c n = (
  λ e. let h = (same-rule p.account c n).0 e in (h.0, h.1.good, h.2),
  λ (f, g, (x, m, s)). (same-rule p.account c n).1 (f, record { good = g; no_clash = among_no_clash p w f (subst (λ (y : Fragment). Mem y p.account.pieces) (same-one f x s) m) }, (x, m, s)),
)

-- ---- a host can go on

-- with a piece taken the buffer that the last call left is long enough
abbrev pub LongLeft : Piecing → Type 0
LongLeft p = 0 < length p.account.pieces → longest_body ≤ length p.left

does-left : (p : Piecing) (x : PieceCall) → Story p → Story (does p x) → LongLeft p → LongLeft (does p x)
does-left p (begin· n) s t i = i
does-left p (take· c d) s t i =
    ⊎_elim
    (λ l. let e = (too_short-rule p.account c (length d)).1 l in
    subst (λ (x : List ℕ). 0 < length (does p (take· c d)).account.pieces → longest_body ≤ length x) (sym (if_true _ _ (lt-ltb _ _ l)))
    (subst (λ (v : Verdict). 0 < length (settled p.account v (reads_from p.account c)).pieces → longest_body ≤ length p.left) (sym e) i))
    (λ l some. subst (λ (x : List ℕ). longest_body ≤ length x) (sym (if_false _ _ (le-ltb _ _ l))) (omega (arith, length-stays p.words c d)))
    (lt-or_ge (length d) longest_body)

pub left-long : (cs : List PieceCall) → AllFair new_piecing cs → LongLeft (ran new_piecing cs)
left-long cs fair = ran-keeps LongLeft does-left new_piecing cs fair new_story (λ l. absurd (omega arith))

-- lending that buffer again is fair; with nothing taken every buffer is
pub lends_again : (p : Piecing) (c : List ℕ) → FairPiece p (take· c p.left)
lends_again p c room i e = refl

pub lends-any : (p : Piecing) (c d : List ℕ) → p.account.pieces ≡ [] → FairPiece p (take· c d)
unfolding covers
lends-any p c d e room i h = absurd (false≢true (ap (λ (fs : List Fragment). covers fs i) (sym e) ∙ h))

-- so whatever has come, there is a fair call that is not answered by 16
pub goes_on : (cs : List PieceCall) → AllFair new_piecing cs
    → (c : List ℕ) → (d : List ℕ) × (longest_body ≤ length d) × FairPiece (ran new_piecing cs) (take· c d)
goes_on cs fair c = by (ran new_piecing cs).account.pieces refl
  where
    by : (fs : List Fragment) → (ran new_piecing cs).account.pieces ≡ fs → (d : List ℕ) × (longest_body ≤ length d) × FairPiece (ran new_piecing cs) (take· c d)
    by [] e =
        let d : List ℕ = replicate longest_body 0 in
        (d, omega (arith, length-replicate {A = ℕ} longest_body 0), lends-any (ran new_piecing cs) c d e)
    by (f ∷ fs) e = ((ran new_piecing cs).left, left-long cs fair (rw e (omega arith)), lends_again (ran new_piecing cs) c)
