-- What a call that reads nothing makes of the words. Assumes nothing.
use Rattle.std.specs.Prelude.{List, ◌≡◌, refl, ℕ}
use Rattle.std.proofs.Common.{sym, ap, subst, ◌∙◌}
use Rattle.datagram.specs.declared.Datagram.{Datagram}
use Rattle.recv_keys.specs.declared.RecvKeys.{RecvKeys}
use Rattle.receiving.specs.Receiving.{kept, made, Answer}
use Rattle.receiving.specs.declared.Kept.{Kept}
use Rattle.receiving.specs.declared.Receiving.{Receiving}
use Rattle.recv_words.specs.Words.{keys_of, datagram_of, is_flat}

-- the state that words stand for
abbrev pub state_of : List ℕ → Receiving
state_of w = record { keys = keys_of w; datagram = datagram_of w }

-- w before the call, v behind it, k what the definition makes of the state
abbrev pub Kept-as : Answer → List ℕ → List ℕ → Kept → Type 0
Kept-as a v w k = (a ≡ k.answer) × (state_of v ≡ k.state) × (is_flat v ≡ is_flat w)

-- refused: the state as it was
pub as_kept : (a : Answer) (w : List ℕ) (k : Kept) → k ≡ kept (state_of w) a → Kept-as a w w k
as_kept a w k e = subst (Kept-as a w w) (sym e) (refl, refl, refl)

pub as_made : (a : Answer) (v w : List ℕ) (k : Kept) (keys : RecvKeys) (b : Datagram) → k ≡ made a keys b → keys_of v ≡ keys → datagram_of v ≡ b → is_flat v ≡ is_flat w → Kept-as a v w k
as_made a v w k keys b e p q f =
    subst (Kept-as a v w) (sym e) (
      refl,
      ap (λ (x : RecvKeys). record { keys = x; datagram = datagram_of v }) p ∙ ap (λ (x : Datagram). record { keys = keys; datagram = x }) q,
      f,
    )

pub kept_by : (a : Answer) (v w : List ℕ) (k j : Kept) → k ≡ j → Kept-as a v w j → Kept-as a v w k
kept_by a v w k j e h = subst (Kept-as a v w) (sym e) h
