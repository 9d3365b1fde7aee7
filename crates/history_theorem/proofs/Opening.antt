-- An opening reply: a yes of the right length marks exactly the number of the question, settles the record, and hands over what it shows.
-- Assumes nothing.
use Rattle.std.specs.Prelude.{ℕ, ◌<◌, ◌≤◌, length, Bool, ◌≡◌, Some, None}
use borrow.Author.Tests.{leb-true, leb-false}
use mathlib.Core.List.{List, ◌∷◌, Memᴰ as Mem}
use Rattle.std.proofs.Math.Option.{Option}
use Rattle.std.proofs.Math.Path.{refl, sym}
use Rattle.std.proofs.Common.{subst, ◌∙◌, arith}
use Rattle.base.specs.Choose.{if_true, by_test}
use Rattle.datagram.specs.Datagram.{counted, end_asked}
use Rattle.datagram.specs.declared.Ask.{Ask}
use Rattle.datagram.specs.declared.Datagram.{Datagram}
use Rattle.datagram.specs.declared.Step.{Step}
use Rattle.std.specs.declared.option.Option as code
use Rattle.incoming.specs.declared.Inner.{Inner}
use Rattle.opening_reply.specs.Opening.{typed, shown_by}
use Rattle.recv_keys.specs.Keeps.{found-epoch}
use Rattle.recv_keys.specs.Keys.{entry_at, find, marked}
use Rattle.recv_keys.specs.Laws.{found-keyed}
use Rattle.recv_keys.specs.declared.RecvKeys.{RecvKeys}
use Rattle.window.proofs.Used.{tells}
use Rattle.window.specs.Window.{verdict}
use Rattle.window.specs.declared.Verdict.TheVariants.{Fresh}
use Rattle.history_theorem.specs.Account.{upd}
use Rattle.history_theorem.specs.Claim.{Real, Shows, There, Ends, RightNonce}
use Rattle.history_theorem.proofs.ReadLaws.{out_by}
use Rattle.history_theorem.specs.Receiver.{Handed, Out, settled, fate_of, handed_by}
use Rattle.history_theorem.proofs.Sound.{FreshAsked, Hands, spend_hands, hand_hands, Moves, SameKeys}
use Rattle.history_theorem.proofs.Table.{Table, keyed-marked, marked-table}

-- ---- what is said of an opened record

pub record Settles (l : RecvKeys) (ivs : ℕ → List ℕ) (b : Datagram) (d : List ℕ) (to : Option ℕ) (end : ℕ) (o : Out) : Type 0 where
  pub moves : Moves b d to end o
  pub fate : fate_of o.reading ≡ settled
  pub asked : FreshAsked l o.state.datagram.question
  pub nonce : RightNonce o.reading ivs o.nonce
  pub real : (good on : Bool) → Real o.reading good on
  pub shows : (rest shown : List ℕ) → Shows o.reading rest shown
  pub stops : (rest : List ℕ) → There rest → Ends o.reading rest b.readings

module _ (l : RecvKeys) (ivs : ℕ → List ℕ) (b : Datagram) (a : Ask) (n : ℕ) (d : List ℕ) (whole : length d ≡ b.size) (to : Option ℕ) (end : ℕ)
    (e : end ≡ end_asked b a) where
  few : b.readings < 16 → b.readings ≤ 15
  few h = omega arith

  pub typed-settles : (v : code.Option Inner) → Settles l ivs b d to end (out_by l (typed b a n v) d)
  unfolding typed counted
  typed-settles None = record {
    moves = record { size = refl; long = refl; goes = (refl, sym e, refl) };
    fate = refl;
    asked = tt;
    nonce = tt;
    real = λ g o. tt;
    shows = λ r s. tt;
    stops = λ r w. w;
  }
  typed-settles (Some held) =
      by_test (λ x. Settles l ivs b d to end (out_by l x d))
      (λ f. record {
        moves = record { size = refl; long = refl; goes = (refl, sym (if_true _ _ f ∙ whole), refl) };
        fate = refl;
        asked = tt;
        nonce = tt;
        real = λ g o. tt;
        shows = λ r s. tt;
        stops = λ r w. (w, leb-true 16 b.readings f);
      })
      (λ f. record {
        moves = record { size = refl; long = refl; goes = (refl, sym e, refl) };
        fate = refl;
        asked = tt;
        nonce = tt;
        real = λ g o. tt;
        shows = λ r s. tt;
        stops = λ r w. (w, few (leb-false 16 b.readings f));
      })

  module _ (used : ℕ → List ℕ) (handed : ℕ → List Handed) (h : Hands used handed) (new : Mem n (used a.epoch) → ⊥) where
    abbrev Handing : Step → Type 0
    Handing x = Hands (upd used a.epoch (n ∷ used a.epoch)) (handed_by x.reading (shown_by x.reading d) handed)

    pub typed-hands : (v : code.Option Inner) → Handing (typed b a n v)
    unfolding typed counted
    typed-hands None = spend_hands h a.epoch n
    typed-hands (Some held) =
        by_test Handing (λ f. spend_hands h a.epoch n) (λ f. hand_hands h a.epoch (record { num = n; type = held.content_type; content = _ }) new)

-- ---- what it does to the table

module _ (k : RecvKeys) (used ivs : ℕ → List ℕ) (tab : Table k used ivs) (e i n : ℕ) (long : length k.entries ≡ 5) (count : k.count ≤ 5)
    (f : find k.entries e k.count ≡ Some i) where
  within : i < k.count
  within = found-keyed k.entries e k.count i f

  pub yes_keys : SameKeys k (marked k i n)
  unfolding marked
  yes_keys = record { keyed = unfold marked in (keyed-marked k used ivs tab i n long count within); highest = refl; encryption = refl; released = refl }

  pub yes_table : Table (marked k i n) (upd used e (n ∷ used e)) ivs
  yes_table =
      subst (λ (x : ℕ). Table (marked k i n) (upd used x (n ∷ used x)) ivs) (found-epoch k.entries e k.count i f)
      (marked-table k used ivs tab i n long count within)

  pub yes_new : verdict (entry_at k i).replay n ≡ Fresh → Mem n (used e) → ⊥
  yes_new fresh m =
      ((tells (tab.agrees i within) n Fresh).0 fresh).0
      (subst (λ (x : ℕ). Mem n (used x)) (sym (found-epoch k.entries e k.count i f)) m)
