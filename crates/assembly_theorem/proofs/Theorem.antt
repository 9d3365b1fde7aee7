-- What is claimed of every list of calls of reassembly holds. Assumes nothing.
use Rattle.std.specs.Prelude.{Err, true, false, ◌≡◌, refl, ℕ, ◌≤◌, ◌<◌, length, drop}
use Rattle.std.proofs.lemmas.Bool.{false≢true}
use mathlib.Core.List.Memᴰ.{head as here}
use mathlib.Core.List.Memᴰ.{tail as there}
use mathlib.Core.List.{List, [], ◌∷◌, Memᴰ as Mem}
use Rattle.std.proofs.Common.{⊎_elim, ap, subst, ◌∙◌, arith, lt-ltb, le-ltb}
use Rattle.std.proofs.Math.Option.{Option, none, some}
use Rattle.std.proofs.Math.Path.{sym}
use Rattle.base.specs.Choose.{by_test, if_true, if_false, lt-or_ge, both_false}
use Rattle.history_theorem.proofs.Lists.{mem-by}
use Rattle.assembly.specs.Assembly as assembly
use Rattle.assembly.specs.Assembly.{Outcome, outcome}
use Rattle.assembly.specs.declared.Piece.TheVariants as piece
use Rattle.assembly.specs.declared.PieceError.TheVariants as refused
use Rattle.assembly_theorem.specs.Account.{longest_body, Fragment, fragment_in, Account, Verdict, begun, turned, ended, over, other, same, held, whole, read_as, owed, begins, settled, or_none, reads_from, after}
use Rattle.assembly_theorem.proofs.Agreement.{one_covers}
use Rattle.assembly_theorem.specs.Claim.{PieceCall, begin·, take·, Told, Given, Wrote, Out, Piecing, new_piecing, verdict_of, logged, takes, does, FairPiece, is_taken, WroteOnly, Log, none as no-message, Came, Assembled, ran, AllFair, EveryRun}
use Rattle.assembly_theorem.proofs.Laws.{is-sound}
use Rattle.assembly_theorem.proofs.ReadLaws.{empty}
use Rattle.assembly_theorem.proofs.Story.{Stands, bare, held-still, begun-stands, long-step}

-- the claim, and the words stand for the account
pub record Story (p : Piecing) : Type 0 where
  pub stands : Stands p.words p.left p.account
  pub holds : Assembled p

-- ---- one thing more in a list

more-told : (t : Told) (ts : List Told) → t.reply ≡ t.owed → ((a : Told) → Mem a ts → a.reply ≡ a.owed) → (a : Told) → Mem a (t ∷ ts) → a.reply ≡ a.owed
more-told t ts new old a m = mem-by m (λ (p : a ≡ t). subst (λ (x : Told). x.reply ≡ x.owed) (sym p) new) (λ o. old a o)

more-wrote : (u : Wrote) (us : List Wrote) → WroteOnly u → ((x : Wrote) → Mem x us → WroteOnly x) → (x : Wrote) → Mem x (u ∷ us) → WroteOnly x
more-wrote u us new old x m = mem-by m (λ (p : x ≡ u). subst WroteOnly (sym p) new) (λ o. old x o)

-- ---- every piece was given

-- what came before came
later : {gs : List Given} (g : Given) {f : Fragment} → Came gs f → Came (g ∷ gs) f
later g (x, m, e) = (x, there m, e)

-- a verdict that takes a piece read one
judged-takes : (a : Account) (q : Option Fragment) → is_taken (read_as a q) ≡ true → (f : Fragment) × (q ≡ some f)
unfolding read_as
judged-takes a none e = absurd (false≢true e)
judged-takes a (some f) e = (f, refl)

owed-takes : (a : Account) (c : List ℕ) (n : ℕ) → is_taken (owed a c n) ≡ true → (f : Fragment) × (fragment_in (drop a.place c) ≡ some f)
unfolding owed
owed-takes a c n =
    by_test (λ (v : Verdict). is_taken v ≡ true → (f : Fragment) × (fragment_in (drop a.place c) ≡ some f)) (λ t e. absurd (false≢true e))
    (λ t. by_test (λ (v : Verdict). is_taken v ≡ true → (f : Fragment) × (fragment_in (drop a.place c) ≡ some f))
    (λ u. by_test (λ (v : Verdict). is_taken v ≡ true → (f : Fragment) × (fragment_in (drop a.place c) ≡ some f))
    (λ x e. judged-takes a (fragment_in (drop a.place c)) e) (λ x e. absurd (false≢true e)))
    (λ u e. absurd (false≢true e)))

module _ (p : Piecing) (c d : List ℕ) where
  abbrev g : Given
  g = record { content = c; place = p.account.place }

  reads-came : is_taken (owed p.account c (length d)) ≡ true → Came (g ∷ p.given) (reads_from p.account c)
  reads-came e =
      let q = owed-takes p.account c (length d) e in
      (g, here refl, q.1 ∙ ap some (sym (ap or_none q.1)))

  -- the pieces taken then, and those of the messages
  abbrev Pieces : List Fragment → Type 0
  Pieces fs = (f : Fragment) → Mem f fs → Came (g ∷ p.given) f

  more-pieces : is_taken (owed p.account c (length d)) ≡ true → Pieces p.account.pieces → Pieces (reads_from p.account c ∷ p.account.pieces)
  more-pieces e old f m = mem-by m (λ (q : f ≡ reads_from p.account c). subst (Came (g ∷ p.given)) (sym q) (reads-came e)) (λ o. old f o)

  held-came : (v : Verdict) → v ≡ owed p.account c (length d) → Pieces p.account.pieces → Pieces (settled p.account v (reads_from p.account c)).pieces
  held-came begun e old = old
  held-came (turned n) e old = old
  held-came (ended n) e old = old
  held-came over e old = old
  held-came (other n) e old = old
  held-came same e old = old
  held-came held e old = more-pieces (ap is_taken (sym e)) old
  held-came (whole k n l) e old = λ f m. absurd (elim m [ ])

  abbrev Messages : List Out → Type 0
  Messages ms = (m : Out) → Mem m ms → Pieces (m.last ∷ m.earlier)

  out-came : (v : Verdict) → v ≡ owed p.account c (length d) → (x : List ℕ) → Pieces p.account.pieces → Messages p.messages
      → Messages (logged v (reads_from p.account c) p.account.pieces x p.messages)
  out-came begun e x old ms = ms
  out-came (turned n) e x old ms = ms
  out-came (ended n) e x old ms = ms
  out-came over e x old ms = ms
  out-came (other n) e x old ms = ms
  out-came same e x old ms = ms
  out-came held e x old ms = ms
  out-came (whole k n l) e x old ms = λ m i.
      mem-by i (λ (q : m ≡ record { kind = k; number = n; body = _; last = reads_from p.account c; earlier = p.account.pieces }).
      subst (λ (y : Out). Pieces (y.last ∷ y.earlier)) (sym q) (more-pieces (ap is_taken (sym e)) old)) (λ o. ms m o)

-- ---- a call over a buffer of any length

module _ (p : Piecing) (c d : List ℕ) (s : Story p) where
  abbrev a : Account
  a = p.account

  old-pieces : Pieces p c d a.pieces
  old-pieces f m = later _ (s.holds.held-given f m)

  old-messages : Messages p c d p.messages
  old-messages m i f j = later _ (s.holds.from_given m i f j)

  -- the claim, from what the call leaves
  holds_from : (o : Outcome) → verdict_of o.answer ≡ owed a c (length d)
      → WroteOnly (record { piece = reads_from a c; earlier = a.pieces; verdict = owed a c (length d); before = d; behind = o.bytes })
      → Log (logged (verdict_of o.answer) (reads_from a c) a.pieces o.bytes p.messages)
      → length (logged (verdict_of o.answer) (reads_from a c) a.pieces o.bytes p.messages) ≡ (after a c (length d)).out
      → Assembled (takes p c d (verdict_of o.answer) o.words o.bytes)
  holds_from o reply wrote log count = record {
    answers = more-told _ p.told reply s.holds.answers;
    writes = more-wrote _ p.wrote wrote s.holds.writes;
    log = log;
    count = count;
    from_given = out-came p c d (verdict_of o.answer) reply o.bytes old-pieces old-messages;
    held-given = held-came p c d (owed a c (length d)) refl old-pieces;
  }

  -- over one that is long enough
  long_story : longest_body ≤ length d → FairPiece p (take· c d) → Story (does p (take· c d))
  long_story room fair =
      let st = s.stands in
      let t : Stands p.words d a =
      record {
        long = st.long;
        sound = st.sound;
        expected = st.expected;
        kept = st.kept;
        head = st.head;
        size = st.size;
        place = st.place;
        each = λ f m. held-still refl refl (λ i e. fair room i (one_covers a.pieces f i m e)) (st.each f m);
      }
      in
      let k = long-step t s.holds.log s.holds.count c room in
      record {
        stands = subst (λ (l : List ℕ). Stands (assembly.taken p.words c d).words l (after a c (length d))) (sym (if_false _ _ (le-ltb _ _ room))) k.stands;
        holds = holds_from (assembly.taken p.words c d) k.reply k.wrote k.log k.count;
      }

  -- over one that is too short
  short-taken : length d < longest_body → outcome (Err refused.Short) p.words d ≡ assembly.taken p.words c d
  unfolding assembly.taken
  short-taken l = sym (if_true _ _ (lt-ltb _ _ l))

  short-owed : length d < longest_body → turned 16 ≡ owed a c (length d)
  unfolding owed
  short-owed l = sym (if_true _ _ (lt-ltb _ _ l))

  short-wrote : (v : Verdict) → is_taken v ≡ false → WroteOnly (record { piece = reads_from a c; earlier = a.pieces; verdict = v; before = d; behind = d })
  short-wrote v e = record { long = refl; bytes = λ i. sym (if_false _ _ (both_false _ e)); spared = λ z. refl }

  short_story : length d < longest_body → Story (does p (take· c d))
  short_story l =
      let v = short-owed l in
      subst (λ (o : Outcome). Story (takes p c d (verdict_of o.answer) o.words o.bytes)) (short-taken l)
      (record {
        stands =
            subst (λ (x : List ℕ). Stands p.words x (after a c (length d))) (sym (if_true _ _ (lt-ltb _ _ l)))
            (subst (λ (x : Verdict). Stands p.words p.left (settled a x (reads_from a c))) v s.stands);
        holds =
            holds_from (outcome (Err refused.Short) p.words d) v (short-wrote _ (ap is_taken (sym v))) s.holds.log
            (subst (λ (x : Verdict). length p.messages ≡ (settled a x (reads_from a c)).out) v s.holds.count);
      })

-- ---- every list

pub does_story : (p : Piecing) (x : PieceCall) → FairPiece p x → Story p → Story (does p x)
does_story p (begin· n) fair s =
    let sound = is-sound p.words s.stands.sound in
    record {
      stands = subst (λ (w : List ℕ). Stands w p.left (begins p.account n)) (sym (if_true _ _ sound)) (begun-stands s.stands n);
      holds = record {
        answers = more-told _ p.told (if_true _ _ sound) s.holds.answers;
        writes = s.holds.writes;
        log = s.holds.log;
        count = s.holds.count;
        from_given = s.holds.from_given;
        held-given = s.holds.held-given;
      };
    }
does_story p (take· c d) fair s = ⊎_elim (λ l. short_story p c d s l) (λ l. long_story p c d s l fair) (lt-or_ge (length d) longest_body)

pub new_story : Story new_piecing
new_story = record {
  stands = record {
    long = refl;
    sound = record { expected = omega arith; count = omega arith; total = omega arith; place = omega arith };
    expected = refl;
    kept = empty;
    head = bare;
    size = refl;
    place = refl;
    each = λ f m. absurd (elim m [ ]);
  };
  holds = record {
    answers = λ a m. absurd (elim m [ ]);
    writes = λ u m. absurd (elim m [ ]);
    log = no-message;
    count = refl;
    from_given = λ m i. absurd (elim i [ ]);
    held-given = λ f m. absurd (elim m [ ]);
  };
}

ran_story : (p : Piecing) (cs : List PieceCall) → AllFair p cs → Story p → Story (ran p cs)
ran_story p [] fair s = s
ran_story p (c ∷ cs) fair s = ran_story (does p c) cs fair.1 (does_story p c fair.0 s)

pub every-run : EveryRun
every-run cs fair = (ran_story new_piecing cs fair new_story).holds
