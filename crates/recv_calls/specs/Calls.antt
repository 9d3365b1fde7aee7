-- The calls of the C interface: each is the call of the receive side on the state that the words stand for. Words that stand for none,
-- or a reply neither 0 nor 1, are refused by 12, and the state stays.
use Rattle.std.specs.Prelude.{true, List, [], ◌∷◌, ◌≡◌, ℕ, leb, eqb, length}
use Rattle.answers.specs.declared.HuskTold.{HuskTold}
use Rattle.base.specs.Choose.{choose, both}
use Rattle.datagram.specs.declared.Step.{Step}
use Rattle.receiving.specs.Receiving.{fresh_of, key_of, remove_of, encrypt_of, release_of, begin_of, read_of, mask_of, opened_of}
use Rattle.receiving.specs.declared.Kept.{Kept}
use Rattle.receiving.specs.declared.Read.{Read}
use Rattle.receiving.specs.declared.Receiving.{Receiving}
use Rattle.recv_words.specs.Words.{keys_of, datagram_of, is_flat}
use Rattle.recv_key_steps.specs.Kept.{state_of}
use Rattle.recv_calls.specs.Flat.{answer_of, bare, flat_reading, opening_of}
use Rattle.recv_calls.specs.Removed.{Removes}
use Rattle.recv_calls.specs.declared.HuskReading.{HuskReading}

-- ---- a call that reads nothing: w before it, v behind it, k what the definition makes of the state

abbrev pub Does : ℕ → List ℕ → List ℕ → Kept → Type 0
Does r v w k = (r ≡ choose (is_flat w) (answer_of k.answer) 12) × (state_of v ≡ choose (is_flat w) k.state (state_of w)) × (is_flat v ≡ is_flat w)

-- ---- a call that reads

abbrev pub Reads : HuskReading → List ℕ → List ℕ → Read → Type 0
Reads r v w k =
    (r ≡ choose (is_flat w) (flat_reading k.reading k.nonce) (bare 0 12)) × (state_of v ≡ choose (is_flat w) k.state (state_of w))
    × (is_flat v ≡ is_flat w)

-- a beginning, and behind it the first record read; a refused one is told by its number
unfoldable pub first_reading : Kept → List ℕ → HuskReading
first_reading k d =
    choose (eqb (answer_of k.answer) 0) (flat_reading (read_of k.state d).reading (read_of k.state d).nonce) (bare 0 (answer_of k.answer))

unfoldable pub first_state : Kept → List ℕ → Receiving
first_state k d = choose (eqb (answer_of k.answer) 0) (read_of k.state d).state k.state

abbrev pub Stepped : HuskReading → List ℕ → List ℕ → Step → Type 0
Stepped r v w t =
    (r ≡ flat_reading t.reading t.nonce) × (keys_of v ≡ keys_of w) × (datagram_of v ≡ t.datagram) × (is_flat v ≡ true)

abbrev pub masks : ℕ → ℕ → List ℕ
masks m n = m ∷ n ∷ []

-- the datagram behind a mask
abbrev pub mask_bytes_of : List ℕ → ℕ → ℕ → List ℕ → List ℕ
mask_bytes_of w m n d = choose (is_flat w) (mask_of (state_of w) (masks m n) d).1 d

-- a reply to an opening question is 0 or 1
abbrev pub OpenedAs : HuskReading → List ℕ → List ℕ → ℕ → Read → Type 0
OpenedAs r v w o k =
    (r ≡ choose (both (leb o 1) (is_flat w)) (flat_reading k.reading k.nonce) (bare 0 12))
    × (state_of v ≡ choose (both (leb o 1) (is_flat w)) k.state (state_of w)) × (is_flat v ≡ is_flat w)

-- ---- the contracts of the calls, here and over C: r answered, w before, v behind

abbrev pub FreshCall : ℕ → List ℕ → ℕ → Type 0
FreshCall r v min = (r ≡ answer_of (fresh_of min).answer) × (state_of v ≡ (fresh_of min).state) × (is_flat v ≡ true)

abbrev pub KeyReceiveCall : ℕ → List ℕ → List ℕ → ℕ → List ℕ → Type 0
KeyReceiveCall r v w epoch iv = Does r v w (key_of (state_of w) epoch iv)

abbrev pub RemoveReceiveCall : HuskTold → List ℕ → List ℕ → ℕ → Type 0
RemoveReceiveCall r v w epoch = Removes r v w (remove_of (state_of w) epoch)

abbrev pub EnablePeerEncryptionCall : ℕ → List ℕ → List ℕ → Type 0
EnablePeerEncryptionCall r v w = Does r v w (encrypt_of (state_of w))

abbrev pub ReleaseApplicationDataCall : ℕ → List ℕ → List ℕ → Type 0
ReleaseApplicationDataCall r v w = Does r v w (release_of (state_of w))

abbrev pub BeginCall : ℕ → List ℕ → List ℕ → ℕ → Type 0
BeginCall r v w n = Does r v w (begin_of (state_of w) n)

abbrev pub ReadCall : HuskReading → List ℕ → List ℕ → List ℕ → Type 0
ReadCall r v w d = Reads r v w (read_of (state_of w) d)

abbrev pub BeginReadCall : HuskReading → List ℕ → List ℕ → List ℕ → Type 0
BeginReadCall r v w d =
    (r ≡ choose (is_flat w) (first_reading (begin_of (state_of w) (length d)) d) (bare 0 12))
    × (state_of v ≡ choose (is_flat w) (first_state (begin_of (state_of w) (length d)) d) (state_of w)) × (is_flat v ≡ is_flat w)

-- d the datagram before, e behind
abbrev pub MaskCall : HuskReading → List ℕ → List ℕ → ℕ → ℕ → List ℕ → List ℕ → Type 0
MaskCall r v w m n e d = Reads r v w (mask_of (state_of w) (masks m n) d).0 × (e ≡ mask_bytes_of w m n d)

abbrev pub OpenedCall : HuskReading → List ℕ → List ℕ → ℕ → ℕ → List ℕ → Type 0
OpenedCall r v w o len d = OpenedAs r v w o (opened_of (state_of w) (opening_of o len) d)
