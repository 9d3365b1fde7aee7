-- Reading in an epoch with a mask key, as a definition: the reading there was, and where it asks for a mask in such an epoch, the mask reply there was with the mask
-- made of the key. The contracts say just that. Assumes nothing.
use Rattle.std.specs.Prelude.{true, List, ◌≡◌, ℕ, eqb, length, get_or}
use Rattle.std.proofs.Math.Option.{Option, none, some}
use Rattle.std.proofs.Math.Path.{refl, ap}
use Rattle.std.proofs.Common.{subst, ◌∙◌, arith, eq-eqb, ne_eqb}
use Rattle.base.specs.Choose.{choose, if_true, if_false}
use Rattle.datagram.specs.declared.Reading.TheVariants as says
use Rattle.datagram.specs.declared.Reading.{Reading}
use Rattle.receiving.specs.Receiving.{begin_of, read_of, mask_of}
use Rattle.receiving.specs.declared.Read.{Read}
use Rattle.receiving.specs.declared.Receiving.{Receiving}
use Rattle.recv_words.specs.Words.{keys_of, is_flat}
use Rattle.recv_key_steps.specs.Kept.{state_of}
use Rattle.recv_calls.specs.Calls as receive
use Rattle.recv_calls.specs.Flat.{answer_of, flat_reading}
use Rattle.recv_calls.specs.declared.HuskReading.{HuskReading}
use Rattle.mask_keys.specs.Keys.{receive_key, mask_at}
use Rattle.mask_calls.specs.Calls.{asked_key, GoesOn, ReadCall, BeginReadCall}

-- ---- the definition

-- with a key the mask is replied
abbrev pub replied_by : Option (List ℕ) → Read → ℕ → List ℕ → Read × List ℕ
replied_by none x at d = (x, d)
replied_by (some key) x at d = mask_of x.state (receive.masks (get_or (mask_at key d at) 0 0) (get_or (mask_at key d at) 1 0)) d

-- of what was read, by the slots k
abbrev pub under_keys : Reading → Read → List ℕ → List ℕ → Read × List ℕ
under_keys (says.Mask e at) x k d = replied_by (receive_key x.state.keys k e) x at d
under_keys says.Setting x k d = (x, d)
under_keys says.Reply x k d = (x, d)
under_keys says.End x k d = (x, d)
under_keys says.Incomplete x k d = (x, d)
under_keys says.TooMany x k d = (x, d)
under_keys (says.Dropped r) x k d = (x, d)
under_keys (says.Plaintext t n s l) x k d = (x, d)
under_keys (says.Unopened b n s l) x k d = (x, d)
under_keys (says.Opened e n t s l) x k d = (x, d)
under_keys (says.Opening e n s h l) x k d = (x, d)

abbrev pub read_under : Receiving → List ℕ → List ℕ → Read × List ℕ
read_under s k d = under_keys (read_of s d).reading (read_of s d) k d

-- ---- and what the contracts make of it

-- the answer, the state behind it and the bytes are those of the definition
pub record Is (r : HuskReading) (v e : List ℕ) (z : Read × List ℕ) : Type 0 where
  pub answer : r ≡ flat_reading z.0.reading z.0.nonce
  pub state : state_of v ≡ z.0.state
  pub bytes : e ≡ z.1

module _ (x : Read) (a : HuskReading) (u k d : List ℕ) (told : a ≡ flat_reading x.reading x.nonce) (st : state_of u ≡ x.state) (flat : is_flat u ≡ true) (r : HuskReading) (v e : List ℕ) where
  stays : GoesOn none r v a u e d → Is r v e (x, d)
  stays g = record { answer = g.0 ∙ told; state = ap state_of g.1 ∙ st; bytes = g.2 }

  not_mask : (a.kind ≡ 6 → ⊥) → GoesOn (asked_key a u k) r v a u e d → Is r v e (x, d)
  unfolding asked_key
  not_mask ne g = stays (subst (λ (o : Option (List ℕ)). GoesOn o r v a u e d) (if_false _ _ (ne_eqb a.kind 6 ne)) g)

  replied : (o : Option (List ℕ)) (at : ℕ) → a.start ≡ at → GoesOn o r v a u e d → Is r v e (replied_by o x at d)
  replied none at q g = stays g
  replied (some key) at q g =
      let h = subst (λ (n : ℕ). receive.MaskCall r v u (get_or (mask_at key d n) 0 0) (get_or (mask_at key d n) 1 0) e d) q g in
      subst (λ (s : Receiving). Is r v e (mask_of s (receive.masks (get_or (mask_at key d at) 0 0) (get_or (mask_at key d at) 1 0)) d)) st
      (record { answer = h.0.0 ∙ if_true _ _ flat; state = h.0.1 ∙ if_true _ _ flat; bytes = h.1 ∙ if_true _ _ flat })

  asked_in : (e' at : ℕ) → a ≡ flat_reading (says.Mask e' at) x.nonce → asked_key a u k ≡ receive_key x.state.keys k e'
  unfolding asked_key
  asked_in e' at q =
      ap (λ (y : HuskReading). choose (eqb y.kind 6) (receive_key (keys_of u) k y.epoch) none) q ∙ if_true _ _ refl
      ∙ ap (λ (s : Receiving). receive_key s.keys k e') st

  by-reading : (g : Reading) → a ≡ flat_reading g x.nonce → GoesOn (asked_key a u k) r v a u e d → Is r v e (under_keys g x k d)
  by-reading (says.Mask e' at) q m =
      replied (receive_key x.state.keys k e') at (ap (λ (y : HuskReading). y.start) q)
      (subst (λ (o : Option (List ℕ)). GoesOn o r v a u e d) (asked_in e' at q) m)
  by-reading says.Setting q m = not_mask (λ z. omega (arith, ap (λ (y : HuskReading). y.kind) q, z)) m
  by-reading says.Reply q m = not_mask (λ z. omega (arith, ap (λ (y : HuskReading). y.kind) q, z)) m
  by-reading says.End q m = not_mask (λ z. omega (arith, ap (λ (y : HuskReading). y.kind) q, z)) m
  by-reading says.Incomplete q m = not_mask (λ z. omega (arith, ap (λ (y : HuskReading). y.kind) q, z)) m
  by-reading says.TooMany q m = not_mask (λ z. omega (arith, ap (λ (y : HuskReading). y.kind) q, z)) m
  by-reading (says.Dropped w) q m = not_mask (λ z. omega (arith, ap (λ (y : HuskReading). y.kind) q, z)) m
  by-reading (says.Plaintext t n s l) q m = not_mask (λ z. omega (arith, ap (λ (y : HuskReading). y.kind) q, z)) m
  by-reading (says.Unopened b n s l) q m = not_mask (λ z. omega (arith, ap (λ (y : HuskReading). y.kind) q, z)) m
  by-reading (says.Opened w n t s l) q m = not_mask (λ z. omega (arith, ap (λ (y : HuskReading). y.kind) q, z)) m
  by-reading (says.Opening w n s h l) q m = not_mask (λ z. omega (arith, ap (λ (y : HuskReading). y.kind) q, z)) m

-- reading
pub read_is : (r : HuskReading) (v w y x k e d : List ℕ) → is_flat w ≡ true → ReadCall r v w y x k e d → Is r v e (read_under (state_of w) k d)
read_is r v w y x k e d flat c =
    let b = c.read.0 in
    let told = b.0 ∙ if_true _ _ flat in
    by-reading (read_of (state_of w) d) c.asked c.between k d told (b.1 ∙ if_true _ _ flat) (b.2 ∙ flat) r v e (read_of (state_of w) d).reading told c.goes_on

-- a datagram begun and its first record read
pub begin_read-is : (r : HuskReading) (v w y x k e d : List ℕ) → is_flat w ≡ true → answer_of (begin_of (state_of w) (length d)).answer ≡ 0
    → BeginReadCall r v w y x k e d → Is r v e (read_under (begin_of (state_of w) (length d)).state k d)
unfolding receive.first_reading receive.first_state
begin_read-is r v w y x k e d flat done c =
    let b = c.read.0 in
    let s = (begin_of (state_of w) (length d)).state in
    let begun = eq-eqb _ 0 done in
    let told : c.asked ≡ flat_reading (read_of s d).reading (read_of s d).nonce = b.0 ∙ if_true _ _ flat ∙ if_true _ _ begun in
    by-reading (read_of s d) c.asked c.between k d told (b.1 ∙ if_true _ _ flat ∙ if_true _ _ begun) (b.2 ∙ flat) r v e (read_of s d).reading told c.goes_on
