-- Mask keys by epoch, and the mask that they spare the host (02, 6; RFC 9147, section 4.2.3). A key lies in a slot of 33 bytes: 1 where it holds a
-- key, and the key's 32. Assumes nothing.
use Rattle.std.specs.Prelude.{Bool, List, ◌∷◌, ℕ, ◌+◌, ◌*◌, ltb, leb, eqb, get_or, replicate, Some, None}
use Rattle.std.proofs.Math.Option.{Option, none, some}
use Rattle.base.specs.Choose.{choose, either}
use Rattle.base.specs.Parts.{part, splice}
use Rattle.chacha.specs.Chacha.{mask_of}
use Rattle.recv_keys.specs.Keys.{most_epochs, find, Found}
use Rattle.recv_keys.specs.declared.RecvKeys.{RecvKeys}

-- ---- slots

-- "key of 32 bytes"
abbrev pub key_size : ℕ
key_size = 32

abbrev pub slot_size : ℕ
slot_size = 33

-- one for each epoch that can be keyed to receive; to send, for epoch 2 and the application epoch
abbrev pub receive_size : ℕ
receive_size = 165

abbrev pub send_slots : ℕ
send_slots = 2

abbrev pub send_size : ℕ
send_size = 66

-- "the sample's first 4 bytes as counter, the next 12 as nonce"
abbrev pub sample_size : ℕ
sample_size = 16

abbrev pub slot_at : ℕ → ℕ
slot_at i = i * slot_size

unfoldable pub has_key : List ℕ → ℕ → Bool
has_key k i = eqb (get_or k (slot_at i) 0) 1

unfoldable pub key_at : List ℕ → ℕ → List ℕ
key_at k i = part (slot_at i + 1) key_size k

-- slot i of n filled or emptied; there is no other
unfoldable pub filled : ℕ → ℕ → List ℕ → List ℕ → List ℕ
filled n i key k = choose (ltb i n) (splice (slot_at i) (1 ∷ key) k) k

unfoldable pub emptied : ℕ → ℕ → List ℕ → List ℕ
emptied n i k = choose (ltb i n) (splice (slot_at i) (replicate slot_size 0) k) k

-- byte n of the slots when slot i goes and those behind it move up: what lies beyond the end is 0
abbrev pub moved_up : ℕ → List ℕ → ℕ → ℕ
moved_up i k n = choose (ltb n (slot_at i)) (get_or k n 0) (get_or k (n + slot_size) 0)

-- ---- keying: 27

-- "27 for a mask key of another length, at keying, after 13": it stands before 23, where a key of 32 bytes would be answered n
unfoldable pub keyed_as : ℕ → ℕ → ℕ
keyed_as size n = choose (eqb size key_size) n (choose (either (eqb n 12) (eqb n 13)) n 27)

-- ---- which key

unfoldable pub key_in : List ℕ → Found → Option (List ℕ)
key_in k (Some i) = choose (has_key k i) (some (key_at k i)) none
key_in k None = none

-- the entry of an epoch that is keyed to receive; a slot stands for each
unfoldable pub entry_of : RecvKeys → ℕ → Found
entry_of r e = choose (leb r.count most_epochs) (find r.entries e r.count) None

unfoldable pub receive_key : RecvKeys → List ℕ → ℕ → Option (List ℕ)
receive_key r k e = key_in k (entry_of r e)

-- epoch 2 has the first slot, the application epoch the second
abbrev pub send_slot : ℕ → ℕ
send_slot e = choose (eqb e 2) 0 1

unfoldable pub send_key : List ℕ → ℕ → Option (List ℕ)
send_key k e = key_in k (Some (send_slot e))

-- ---- the mask

-- of the 16 bytes at a place
abbrev pub mask_at : List ℕ → List ℕ → ℕ → List ℕ
mask_at key d at = mask_of key (part at sample_size d)
