-- The words stand for the account, and what is claimed holds, behind every change of the readings that wait: one told, none left, one dealt with.
-- Assumes nothing.
use Rattle.std.specs.Prelude.{true, ◌≡◌, refl, ℕ, suc, ◌+◌, ◌≤◌, length}
use mathlib.Core.List.Memᴰ.{head as here}
use mathlib.Core.List.Memᴰ.{tail as there}
use mathlib.Core.List.{List, [], ◌∷◌, Memᴰ as Mem}
use Rattle.std.proofs.Math.Option.{Option, none, some}
use Rattle.std.proofs.Common.{sym, ap, subst, ◌∙◌, arith}
use Rattle.datagram.specs.declared.Reading.{Reading}
use Rattle.opening_reply.specs.Opening.{shown_by}
use Rattle.receiving.specs.Within.{Within}
use Rattle.history_theorem.specs.Account.{Shown, nothing}
use Rattle.history_theorem.proofs.Lists.{some_inj, some≢none, mem-by}
use Rattle.history_theorem.specs.Receiver.{Trial, Tried, Receiver}
use Rattle.classify.specs.Classify.{words}
use Rattle.classify_theorem.specs.Account.{Pending, Account, reading_owed, waits}
use Rattle.classify_theorem.specs.Claim.{Told, Dealt, Dealings, leaves_behind, Below, turns_told, one_waits, is_reading, Is, Kept, was-dealt, was-missed, still-waits}
use Rattle.classify_theorem.proofs.Words.{Says, Waits, Closes, Spares, same-close}

-- ---- what holds between words, account and history

-- of a reading that waits: its bytes are the datagram's and lie within it, no question waits, it is the last one told, and it was not dealt with
abbrev pub Lies : Option Pending → List ℕ → Type 0
Lies none d = Unit {0}
Lies (some p) d = (p.shown ≡ shown_by p.reading d) × Within (length d) p.reading

abbrev pub Idle : Option Pending → Shown → Type 0
Idle none w = Unit {0}
Idle (some p) w = w ≡ nothing

abbrev pub Newest : Option Pending → ℕ → List Dealt → Type 0
Newest none n ds = Unit {0}
Newest (some p) n ds = (p.serial ≡ n) × Below p.serial ds

abbrev pub one : Option Pending → ℕ
one none = 0
one (some p) = 1

pub record Stands (w : List ℕ) (a : Account) (y : Receiver) : Type 0 where
  pub long : length w ≡ words
  pub waits : Waits w a.pending
  pub close : Closes w a.close
  pub lies : Lies a.pending y.datagram
  pub idle : Idle a.pending y.account.waits
  pub turns : a.turns + one a.pending ≤ y.account.readings

pub record Story (p : Dealings) (y : Receiver) : Type 0 where
  pub stands : Stands p.words p.account y
  pub newest : Newest p.account.pending p.account.made p.dealt
  pub answers : (t : Told) → Mem t p.told → t.reply ≡ t.owed
  pub right : (x : Dealt) → Mem x p.dealt
      → x.reply ≡ record { verdict = reading_owed x.close x.encryption x.pending.reading x.pending.shown; content = x.pending.shown }
  pub once : Below (suc p.account.made) p.dealt
  pub counted : turns_told p.told + length p.missed + one_waits p.account.pending ≡ p.account.made
  pub none-lost : (d : Tried) → Mem d y.tried → is_reading d.reading ≡ true → Kept p d
  pub from_read : (x : Dealt) → Mem x p.dealt → (d : Tried) × Mem d y.tried × Is d x.pending
  -- what waits was told of a record
  pub waits-read : (x : Pending) → p.account.pending ≡ some x → (d : Tried) × Mem d y.tried × Is d x

-- ---- serial numbers

pub below_more : (n m : ℕ) (ds : List Dealt) → n ≤ m → Below n ds → Below m ds
below_more n m [] h b = tt
below_more n m (x ∷ xs) h b = let l = b.0 in (omega arith, b.1)

-- ---- the history goes on

-- no reading more, and none less
pub record Same (y z : Receiver) : Type 0 where
  pub more : (d : Tried) → Mem d y.tried → Mem d z.tried
  pub only : (d : Tried) → Mem d z.tried → is_reading d.reading ≡ true → Mem d y.tried

pub same_read : {y z : Receiver} → Same y z → {x : Pending} → (d : Tried) × Mem d y.tried × Is d x → (d : Tried) × Mem d z.tried × Is d x
same_read s (d, m, i) = (d, s.more d m, i)

module _ (p : Dealings) (y : Receiver) (s : Story p y) where
  abbrev a : Account
  a = p.account

  -- ---- nothing is told and nothing dealt with

  -- the bytes and the question of a reading that waits stay
  pub record Quiet (z : Receiver) : Type 0 where
    pub same : Same y z
    pub readings : y.account.readings ≤ z.account.readings
    pub bytes : (x : Pending) → a.pending ≡ some x → z.datagram ≡ y.datagram
    pub idle : (x : Pending) → a.pending ≡ some x → z.account.waits ≡ nothing

  quiet-lies : (z : Receiver) (o : Option Pending) → ((x : Pending) → o ≡ some x → z.datagram ≡ y.datagram) → Lies o y.datagram → Lies o z.datagram
  quiet-lies z none f h = tt
  quiet-lies z (some x) f h = subst (λ (d : List ℕ). Lies (some x) d) (sym (f x refl)) h

  quiet-idle : (z : Receiver) (o : Option Pending) → ((x : Pending) → o ≡ some x → z.account.waits ≡ nothing) → Idle o z.account.waits
  quiet-idle z none f = tt
  quiet-idle z (some x) f = f x refl

  pub quiet-stands : (z : Receiver) → Quiet z → Stands p.words a z
  quiet-stands z q =
      let t = s.stands.turns in
      let r = q.readings in
      record {
        long = s.stands.long;
        waits = s.stands.waits;
        close = s.stands.close;
        lies = quiet-lies z a.pending q.bytes s.stands.lies;
        idle = quiet-idle z a.pending q.idle;
        turns = omega arith;
      }

  pub quiet_story : (z : Receiver) → Quiet z → Story p z
  quiet_story z q = record {
    stands = quiet-stands z q;
    newest = s.newest;
    answers = s.answers;
    right = s.right;
    once = s.once;
    counted = s.counted;
    none-lost = λ d m r. s.none-lost d (q.same.only d m r) r;
    from_read = λ x m. same_read q.same (s.from_read x m);
    waits-read = λ x e. same_read q.same (s.waits-read x e);
  }

  -- ---- the reading that waits is left behind

  abbrev behind : List ℕ → Account → Dealings
  behind w b = record { words = w; account = b; told = p.told; dealt = p.dealt; missed = leaves_behind a.pending p.missed }

  missed_more : (o : Option Pending) (x : Pending) → Mem x p.missed → Mem x (leaves_behind o p.missed)
  missed_more none x m = m
  missed_more (some q) x m = there m

  missed-length : (o : Option Pending) → length (leaves_behind o p.missed) ≡ length p.missed + one_waits o
  missed-length none = omega arith
  missed-length (some q) = omega arith

  missed-new : (o : Option Pending) (x : Pending) → o ≡ some x → Mem x (leaves_behind o p.missed)
  missed-new none x e = some≢none (sym e)
  missed-new (some q) x e = here (sym (some_inj e))

  pub kept-behind : (w : List ℕ) (b : Account) (d : Tried) → Kept p d → Kept (behind w b) d
  kept-behind w b d (was-dealt x m i) = was-dealt x m i
  kept-behind w b d (was-missed x m i) = was-missed x (missed_more a.pending x m) i
  kept-behind w b d (still-waits x e i) = was-missed x (missed-new a.pending x e) i

  -- none waits then: turns stay, or begin anew
  pub left_story : (w : List ℕ) (b : Account) (z : Receiver) → Same y z → Spares p.words w → Waits w none → b.pending ≡ none → b.close ≡ a.close
      → b.made ≡ a.made → b.turns ≤ z.account.readings → Story (behind w b) z
  left_story w b z same spares gone none_then close made turns = record {
    stands = record {
      long = spares.long ∙ s.stands.long;
      waits = subst (Waits w) (sym none_then) gone;
      close = subst (Closes w) (sym close) (same-close spares a.close s.stands.close);
      lies = subst (λ (o : Option Pending). Lies o z.datagram) (sym none_then) tt;
      idle = subst (λ (o : Option Pending). Idle o z.account.waits) (sym none_then) tt;
      turns = subst (λ (o : Option Pending). b.turns + one o ≤ z.account.readings) (sym none_then) (omega arith);
    };
    newest = subst (λ (o : Option Pending). Newest o b.made p.dealt) (sym none_then) tt;
    answers = s.answers;
    right = s.right;
    once = subst (λ (n : ℕ). Below (suc n) p.dealt) (sym made) s.once;
    counted = subst (λ (o : Option Pending). turns_told p.told + length (leaves_behind a.pending p.missed) + one_waits o ≡ b.made) (sym none_then) (omega (arith, missed-length a.pending, s.counted, made));
    none-lost = λ d m r. kept-behind w b d (s.none-lost d (same.only d m r) r);
    from_read = λ x m. same_read same (s.from_read x m);
    waits-read = λ x e. some≢none (sym e ∙ none_then);
  }

  -- ---- a reading is told

  module _ (w : List ℕ) (z : Receiver) (r : Reading) (t : Trial) where
    abbrev c : List ℕ
    c = shown_by r z.datagram

    abbrev new : Tried
    new = record { trial = t; reading = r; shown = c }

    pub told_story : Spares p.words w → Says r w → Within (length z.datagram) r → z.account.waits ≡ nothing → z.account.readings ≡ y.account.readings + 1 → z.tried ≡ new ∷ y.tried
        → Story (behind w (waits a r c)) z
    told_story spares says within idle readings tried =
        let l = s.stands.turns in record {
          stands = record {
            long = spares.long ∙ s.stands.long;
            waits = says;
            close = same-close spares a.close s.stands.close;
            lies = (refl, within);
            idle = idle;
            turns = omega arith;
          };
          newest = (refl, s.once);
          answers = s.answers;
          right = s.right;
          counted = omega (arith, missed-length a.pending, s.counted);
          once = below_more (suc a.made) (suc (suc a.made)) p.dealt (omega arith) s.once;
          none-lost = λ d m q.
              mem-by (subst (Mem d) tried m)
              (λ (e : d ≡ new). still-waits _ refl (record { reading = ap (λ (x : Tried). x.reading) e; shown = ap (λ (x : Tried). x.shown) e }))
              (λ o. kept-behind w (waits a r c) d (s.none-lost d o q));
          from_read = λ x m. let f = s.from_read x m in (f.0, older f.0 f.1, f.2);
          waits-read = λ x e. (
            new,
            subst (Mem new) (sym tried) (here refl),
            record {
              reading = ap (λ (v : Pending). v.reading) (some_inj e);
              shown = ap (λ (v : Pending). v.shown) (some_inj e);
            },
          );
        }
      where
        older : (d : Tried) → Mem d y.tried → Mem d z.tried
        older d m = subst (Mem d) (sym tried) (there m)
