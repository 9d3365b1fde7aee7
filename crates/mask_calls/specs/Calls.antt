-- The calls that mask keys change, here and over C (02, 6): r answered; words w, waiting reading x, mask keys k before, and v, y, j behind; d the datagram or q
-- the queue before, e or p behind. Each is the call there was, with the mask that a key makes in the place of the host's. Assumes nothing.
use Rattle.std.specs.Prelude.{true, List, ◌≡◌, ℕ, ⊤, eqb, length, get_or, replicate, Some, None, Result, Ok, Err}
use Rattle.std.proofs.Math.Option.{Option, none, some}
use Rattle.base.specs.Choose.{choose, either}
use Rattle.answers.specs.declared.HuskTold.{HuskTold}
use Rattle.recv_keys.specs.Keys.{most_epochs, Found}
use Rattle.receiving.specs.Receiving.{key_of}
use Rattle.recv_words.specs.Words.{keys_of, is_flat}
use Rattle.recv_key_steps.specs.Kept.{state_of}
use Rattle.recv_calls.specs.Flat.{answer_of}
use Rattle.recv_calls.specs.Calls as receive
use Rattle.recv_calls.specs.declared.HuskReading.{HuskReading}
use Rattle.classify_calls.specs.Calls as classify
use Rattle.outgoing.specs.State.{keying_state}
use Rattle.sealing.specs.Sealing.{Asked, question_of}
use Rattle.send_keys.specs.Answer.{refusal}
use Rattle.send_words.specs.Words as sendWords
use Rattle.send_calls.specs.Calls as sends
use Rattle.mask_keys.specs.Keys.{key_size, receive_size, send_slots, send_size, has_key, filled, emptied, moved_up, keyed_as, key_in, entry_of, receive_key, send_slot, send_key, mask_at}
use Rattle.mask_calls.specs.declared.MaskedKeyError.{MaskedKeyError}
use Rattle.mask_calls.specs.declared.MaskedKeyError.TheVariants as masked

-- ---- keying and removing

-- behind the others, with no mask key
abbrev pub KeyReceiveCall : ℕ → List ℕ → List ℕ → List ℕ → List ℕ → ℕ → List ℕ → Type 0
KeyReceiveCall r v w j k epoch iv =
    receive.KeyReceiveCall r v w epoch iv × (j ≡ choose (eqb r 0) (emptied most_epochs (keys_of w).count k) k)

-- the number of an answer where a mask key is given, from the numbers of what else refuses; 0 where the epoch is keyed
abbrev pub masked_number : {E : Type 0} → (E → ℕ) → Result ⊤ (MaskedKeyError E) → ℕ
masked_number f (Ok x) = 0
masked_number f (Err (masked.Refused e)) = f e
masked_number f (Err masked.BadMaskKey) = 27

-- what `keyed_as` is for any other length
unfoldable pub length_as : ℕ → ℕ
length_as n = choose (either (eqb n 12) (eqb n 13)) n 27

-- with a mask key: 12, 13, 27, 23. One of another length changes nothing
abbrev pub KeyReceiveMaskedCall : ℕ → List ℕ → List ℕ → List ℕ → List ℕ → ℕ → List ℕ → List ℕ → Type 0
KeyReceiveMaskedCall r v w j k epoch iv key =
    (length key ≡ key_size → receive.KeyReceiveCall r v w epoch iv)
    × ((length key ≡ key_size → ⊥) → (r ≡ choose (is_flat w) (keyed_as (length key) (answer_of (key_of (state_of w) epoch iv).answer)) 12) × (v ≡ w))
    × (j ≡ choose (eqb r 0) (filled most_epochs (keys_of w).count key k) k)

-- the slot of an entry that goes, and those behind it move up
abbrev pub MovesUp : Found → List ℕ → List ℕ → Type 0
MovesUp (Some i) j k = (length j ≡ length k) × ((n : ℕ) → get_or j n 0 ≡ moved_up i k n)
MovesUp None j k = j ≡ k

abbrev pub RemoveReceiveCall : HuskTold → List ℕ → List ℕ → List ℕ → List ℕ → ℕ → Type 0
RemoveReceiveCall r v w j k epoch =
    receive.RemoveReceiveCall r v w epoch × MovesUp (choose (eqb r.refusal 0) (entry_of (keys_of w) epoch) None) j k

-- ---- reading

-- an entry f, if it has a mask key
abbrev pub Held : List ℕ → Found → Found → Type 0
Held k f (Some i) = (f ≡ Some i) × (has_key k i ≡ true)
Held k f None = key_in k f ≡ none

-- the key for the mask that a reading asks for (kind 6), if its epoch has one
unfoldable pub asked_key : HuskReading → List ℕ → List ℕ → Option (List ℕ)
asked_key a u k = choose (eqb a.kind 6) (receive_key (keys_of u) k a.epoch) none

-- "the mask question is then skipped for such epochs": a reading a that left the words u goes on with the mask made of the key; with none it stands
abbrev pub GoesOn : Option (List ℕ) → HuskReading → List ℕ → HuskReading → List ℕ → List ℕ → List ℕ → Type 0
GoesOn none r v a u e d = (r ≡ a) × (v ≡ u) × (e ≡ d)
GoesOn (some key) r v a u e d = let m : List ℕ = mask_at key d a.start in receive.MaskCall r v u (get_or m 0 0) (get_or m 1 0) e d

pub record ReadCall (r : HuskReading) (v w y x k e d : List ℕ) : Type 0 where
  pub asked : HuskReading
  pub between : List ℕ
  pub read : classify.ReadCall asked between w y x d
  pub goes_on : GoesOn (asked_key asked between k) r v asked between e d

pub record BeginReadCall (r : HuskReading) (v w y x k e d : List ℕ) : Type 0 where
  pub asked : HuskReading
  pub between : List ℕ
  pub read : classify.BeginReadCall asked between w y x d
  pub goes_on : GoesOn (asked_key asked between k) r v asked between e d

-- the start: no mask key, whatever stood in the slots
abbrev pub FreshCall : ℕ → List ℕ → List ℕ → List ℕ → ℕ → Type 0
FreshCall r v y j min = classify.FreshCall r v y min × (j ≡ replicate receive_size 0)

-- ---- sending

abbrev pub FreshSendCall : ℕ → List ℕ → List ℕ → ℕ → ℕ → Type 0
FreshSendCall r v j mtu limit = sends.FreshCall r v mtu limit × (j ≡ replicate send_size 0)

abbrev pub KeySendCall : ℕ → List ℕ → List ℕ → List ℕ → List ℕ → ℕ → List ℕ → Type 0
KeySendCall r v w j k epoch iv = sends.KeySendCall r v w epoch iv × (j ≡ choose (eqb r 0) (emptied send_slots (send_slot epoch) k) k)

-- a number of such an answer, where N holds of what else refuses and each of its numbers
abbrev pub IsMaskedNumber : {E : Type 0} → (E → ℕ → Type 0) → Result ⊤ (MaskedKeyError E) → ℕ → Type 0
IsMaskedNumber N (Ok x) n = n ≡ 0
IsMaskedNumber N (Err (masked.Refused e)) n = N e n
IsMaskedNumber N (Err masked.BadMaskKey) n = n ≡ 27

abbrev pub KeySendMaskedCall : ℕ → List ℕ → List ℕ → List ℕ → List ℕ → ℕ → List ℕ → List ℕ → Type 0
KeySendMaskedCall r v w j k epoch iv key =
    (length key ≡ key_size → sends.KeySendCall r v w epoch iv)
    × ((length key ≡ key_size → ⊥)
    → (r ≡ choose (sendWords.is_flat w) (keyed_as (length key) (refusal (keying_state (sendWords.state_of w) epoch iv).answer)) 12) × (v ≡ w))
    × (j ≡ choose (eqb r 0) (filled send_slots (send_slot epoch) key k) k)

-- "a sealing reply brings no mask" in an epoch with a mask key: the mask of the first 16 bytes that the host left in the part, and what the reply brings is not
-- read
abbrev pub mask_or : Option (List ℕ) → List ℕ → ℕ → List ℕ → List ℕ
mask_or none q at m = m
mask_or (some key) q at m = mask_at key q at

abbrev pub mask_by : Asked → List ℕ → List ℕ → List ℕ → List ℕ
mask_by (Ok (Some x)) k q m = mask_or (send_key k x.epoch) q x.start m
mask_by (Ok None) k q m = m
mask_by (Err x) k q m = m

unfoldable pub seal_mask : List ℕ → List ℕ → List ℕ → ℕ → ℕ → List ℕ
seal_mask w k q m n = mask_by (question_of (sendWords.state_of w)) k q (sends.masks m n)

abbrev pub SealedCall : ℕ → List ℕ → List ℕ → List ℕ → ℕ → ℕ → ℕ → List ℕ → List ℕ → Type 0
SealedCall r v w k len m n p q = sends.SealedCall r v w len (get_or (seal_mask w k q m n) 0 0) (get_or (seal_mask w k q m n) 1 0) p q
