-- What pieces laid one after the other leave: numbers used, records saved, the end of the queue, the flight's buffer. Assumes nothing.
use mathlib.Core.List.{List, [], ◌∷◌}
use Rattle.std.specs.Prelude.{◌≡◌, eqb, length, take}
use Rattle.std.proofs.Math.Path.{refl, ap}
use Rattle.std.proofs.Common.{sym, ◌∙◌, ne_eqb}
use Prim.Native.Nat.{ℕ, zero, suc, ◌+◌, ◌*◌, ◌<◌, ◌≤◌}
use native.Mathlib.Omega.{arith}
use Rattle.std.proofs.Math.ListN.{get_or, length-set}
use Rattle.std.proofs.Math.Seq.{get_or-set_same, get_or-set_other}
use Rattle.base.specs.Choose.{choose, test_cases}
use Rattle.base.specs.Parts.{part, splice-here, splice-before}
use Rattle.queue.specs.declared.Tail.{Tail}
use Rattle.queue.specs.Queue.{tail_of, place_of, grown, laid, InRange, tail-laid, laid-range}
use Rattle.send_keys.specs.declared.SendKeys.{SendKeys}
use Rattle.send_keys.specs.Keys.{next_of, used, used-next}
use Rattle.outgoing.specs.Send.{laid_state}
use Rattle.flight.specs.declared.Entry.{Entry}
use Rattle.flight.specs.Flight.{entry_of, saved_with, saved_memory}
use Rattle.messages.specs.Cut.{epoch_of, overhead, total}
use Rattle.messages.specs.Message.{content_of, Laid}
use Rattle.whole_laws.specs.Lay.{lay_one, lay_all, AllPlaced}
use Rattle.whole_laws.proofs.Lay.{len_more, epoch-cases}

-- the end of the queue behind pieces of these sizes
abbrev pub tail_behind : ℕ → ℕ → List ℕ → Tail → Tail
tail_behind mtu over [] t = t
tail_behind mtu over (n ∷ ns) t = tail_behind mtu over ns (grown (place_of mtu t (n + over)) (n + over))

-- ---- what does not depend on places

other-plain : (k : SendKeys) (d : ℕ) → (d ≡ 0 → ⊥) → next_of (used k 0) d ≡ next_of k d
unfolding next_of used choose
other-plain k d ne = rw (ne_eqb d 0 ne)

other-sealed : (k : SendKeys) (d : ℕ) → (d ≡ 2 → ⊥) → next_of (used k 2) d ≡ next_of k d
unfolding next_of used choose
other-sealed k d ne = test_cases (eqb d 0) (λ a. rw a) (λ a. rw (a, ne_eqb d 2 ne))

-- another epoch's next number stays
other-next : (k : SendKeys) (kind d : ℕ) → (d ≡ epoch_of kind → ⊥) → next_of (used k (epoch_of kind)) d ≡ next_of k d
other-next k kind d = epoch-cases kind (λ (e : ℕ). (d ≡ e → ⊥) → next_of (used k e) d ≡ next_of k d) (other-plain k d) (other-sealed k d)

module _ (kind : ℕ) (body : List ℕ) where
  pub lay_next : (at : ℕ) (ns : List ℕ) (l : Laid) → next_of (lay_all kind body at ns l).saved.state.keys (epoch_of kind) ≡ next_of l.saved.state.keys (epoch_of kind) + length ns
  unfolding lay_all lay_one laid_state
  lay_next at [] l = omega arith
  lay_next at (n ∷ ns) l = omega (arith, lay_next (at + n) ns (lay_one kind body at n l), used-next l.saved.state.keys (epoch_of kind))

  pub lay_other : (d : ℕ) → (d ≡ epoch_of kind → ⊥) → (at : ℕ) (ns : List ℕ) (l : Laid) → next_of (lay_all kind body at ns l).saved.state.keys d ≡ next_of l.saved.state.keys d
  unfolding lay_all lay_one laid_state
  lay_other d ne at [] l = refl
  lay_other d ne at (n ∷ ns) l = lay_other d ne (at + n) ns (lay_one kind body at n l) ∙ other-next l.saved.state.keys kind d ne

  pub lay-saved : (at : ℕ) (ns : List ℕ) (l : Laid) → (lay_all kind body at ns l).saved.flight.saved ≡ l.saved.flight.saved + length ns
  unfolding lay_all lay_one saved_with
  lay-saved at [] l = omega arith
  lay-saved at (n ∷ ns) l = omega (arith, lay-saved (at + n) ns (lay_one kind body at n l))

  -- the message's number, the settings and the remembered numbers stay
  pub lay_still : (at : ℕ) (ns : List ℕ) (l : Laid)
      → ((lay_all kind body at ns l).saved.state.message_seq ≡ l.saved.state.message_seq) × ((lay_all kind body at ns l).saved.state.queue.mtu ≡ l.saved.state.queue.mtu)
      × ((lay_all kind body at ns l).saved.state.queue.limit ≡ l.saved.state.queue.limit) × ((lay_all kind body at ns l).saved.flight.numbers ≡ l.saved.flight.numbers)
  unfolding lay_all lay_one laid_state laid saved_with
  lay_still at [] l = (refl, refl, refl, refl)
  lay_still at (n ∷ ns) l = lay_still (at + n) ns (lay_one kind body at n l)

-- ---- what each piece at its place leaves

module _ (kind : ℕ) (body : List ℕ) where
  pub lay_range : (at : ℕ) (ns : List ℕ) (l : Laid) → AllPlaced kind body at ns l → InRange l.saved.state.queue → InRange (lay_all kind body at ns l).saved.state.queue
  unfolding lay_all lay_one laid_state
  lay_range at [] l p r = r
  lay_range at (n ∷ ns) l p r = lay_range (at + n) ns (lay_one kind body at n l) p.1 (laid-range r p.0.fits)

  pub lay_tail : (at : ℕ) (ns : List ℕ) (l : Laid) → AllPlaced kind body at ns l
      → tail_of (lay_all kind body at ns l).saved.state.queue ≡ tail_behind l.saved.state.queue.mtu (overhead (epoch_of kind)) ns (tail_of l.saved.state.queue)
  unfolding lay_all lay_one laid_state laid
  lay_tail at [] l p = refl
  lay_tail at (n ∷ ns) l p =
      lay_tail (at + n) ns (lay_one kind body at n l) p.1
      ∙ ap (tail_behind l.saved.state.queue.mtu (overhead (epoch_of kind)) ns)
      (tail-laid p.0.range p.0.fits p.0.slots
      ∙ ap (λ (x : ℕ). grown (place_of l.saved.state.queue.mtu (tail_of l.saved.state.queue) x) x) (len_more (epoch_of kind) n))

  -- entries saved before stay
  pub lay_older : (d : Entry) (i : ℕ) (at : ℕ) (ns : List ℕ) (l : Laid) → i < l.saved.flight.saved
      → get_or (lay_all kind body at ns l).saved.flight.entries i d ≡ get_or l.saved.flight.entries i d
  unfolding lay_all lay_one saved_with
  lay_older d i at [] l h = refl
  lay_older d i at (n ∷ ns) l h =
      let ne : i ≡ l.saved.flight.saved → ⊥ = λ e. omega arith in
      lay_older d i (at + n) ns (lay_one kind body at n l) (omega arith)
      ∙ get_or-set_other l.saved.flight.entries l.saved.flight.saved i (entry_of 22 (epoch_of kind) (next_of l.saved.state.keys (epoch_of kind)) (12 + n)) d ne

  -- the i-th piece's entry: its number is the i-th from the epoch's next on
  pub lay_entry : (d : Entry) (i : ℕ) (at : ℕ) (ns : List ℕ) (l : Laid) → i < length ns → l.saved.flight.saved + length ns ≤ length l.saved.flight.entries
      → get_or (lay_all kind body at ns l).saved.flight.entries (l.saved.flight.saved + i) d
      ≡ entry_of 22 (epoch_of kind) (next_of l.saved.state.keys (epoch_of kind) + i) (12 + get_or ns i 0)
  unfolding lay_all lay_one laid_state saved_with
  lay_entry d i at [] l h f = absurd (omega arith)
  lay_entry d zero at (n ∷ ns) l h f =
      let e : ℕ = epoch_of kind in
      let next : ℕ = next_of l.saved.state.keys e in
      let here : l.saved.flight.saved + 0 ≡ l.saved.flight.saved = omega arith in
      let first : next ≡ next + 0 = omega arith in
      ap (λ (x : ℕ). get_or (lay_all kind body at (n ∷ ns) l).saved.flight.entries x d) here
      ∙ lay_older d l.saved.flight.saved (at + n) ns (lay_one kind body at n l) (omega arith)
      ∙ get_or-set_same l.saved.flight.entries l.saved.flight.saved (entry_of 22 e next (12 + n)) d (omega arith)
      ∙ ap (λ (x : ℕ). entry_of 22 e x (12 + n)) first
  lay_entry d (suc i) at (n ∷ ns) l h f =
      let e : ℕ = epoch_of kind in
      let here : l.saved.flight.saved + suc i ≡ l.saved.flight.saved + 1 + i = omega arith in
      let number : next_of (used l.saved.state.keys e) e + i ≡ next_of l.saved.state.keys e + suc i = omega (arith, used-next l.saved.state.keys e) in
      ap (λ (x : ℕ). get_or (lay_all kind body at (n ∷ ns) l).saved.flight.entries x d) here
      ∙ lay_entry d i (at + n) ns (lay_one kind body at n l) (omega arith) (simp length-set (omega arith))
      ∙ ap (λ (x : ℕ). entry_of 22 e x (12 + get_or ns i 0)) number

  -- what was saved before stays
  pub lay_before : (a k : ℕ) (at : ℕ) (ns : List ℕ) (l : Laid) → AllPlaced kind body at ns l → a + k ≤ l.saved.flight.saved * l.saved.state.queue.mtu
      → part a k (lay_all kind body at ns l).kept ≡ part a k l.kept
  unfolding lay_all lay_one laid_state laid saved_with saved_memory
  lay_before a k at [] l p h = refl
  lay_before a k at (n ∷ ns) l p h =
      lay_before a k (at + n) ns (lay_one kind body at n l) p.1 (omega arith)
      ∙ splice-before (l.saved.flight.saved * l.saved.state.queue.mtu) (content_of kind l.saved.state.message_seq body at n) l.kept p.0.space a k h

  -- the i-th piece's content stands in its slot
  pub lay_content : (i : ℕ) (at : ℕ) (ns : List ℕ) (l : Laid) → AllPlaced kind body at ns l → i < length ns
      → part ((l.saved.flight.saved + i) * l.saved.state.queue.mtu) (12 + get_or ns i 0) (lay_all kind body at ns l).kept
      ≡ content_of kind l.saved.state.message_seq body (at + total (take i ns)) (get_or ns i 0)
  unfolding lay_all lay_one laid_state laid saved_with saved_memory
  lay_content i at [] l p h = absurd (omega arith)
  lay_content zero at (n ∷ ns) l p h =
      let base : ℕ = l.saved.flight.saved * l.saved.state.queue.mtu in
      let content : List ℕ = content_of kind l.saved.state.message_seq body at n in
      let here : (l.saved.flight.saved + 0) * l.saved.state.queue.mtu ≡ base = omega arith in
      let first : at ≡ at + 0 = omega arith in
      ap (λ (x : ℕ). part x (12 + n) (lay_all kind body at (n ∷ ns) l).kept) here
      ∙ lay_before base (12 + n) (at + n) ns (lay_one kind body at n l) p.1 (omega (arith, p.0.short))
      ∙ ap (λ (x : ℕ). part base x (lay_one kind body at n l).kept) (sym p.0.long) ∙ splice-here base content l.kept p.0.space
      ∙ ap (λ (x : ℕ). content_of kind l.saved.state.message_seq body x n) first
  lay_content (suc i) at (n ∷ ns) l p h =
      let here : (l.saved.flight.saved + suc i) * l.saved.state.queue.mtu ≡ (l.saved.flight.saved + 1 + i) * l.saved.state.queue.mtu = omega arith in
      let offset : at + n + total (take i ns) ≡ at + (n + total (take i ns)) = omega arith in
      ap (λ (x : ℕ). part x (12 + get_or ns i 0) (lay_all kind body at (n ∷ ns) l).kept) here
      ∙ lay_content i (at + n) ns (lay_one kind body at n l) p.1 (omega arith)
      ∙ ap (λ (x : ℕ). content_of kind l.saved.state.message_seq body x (get_or ns i 0)) offset
