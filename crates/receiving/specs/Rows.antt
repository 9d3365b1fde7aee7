-- Rows and short histories that the definitions compute. Assumes nothing.
use Rattle.std.specs.Prelude.{ℕ, length, replicate, List, [], ◌∷◌, ◌≡◌, refl, Some, None}
use Rattle.base.specs.Bits.{bit}
use Rattle.base.specs.Choose.{choose, both, either}
use Rattle.base.specs.Parts.{splice}
use Rattle.datagram.specs.Datagram.{ask_sound, ask_keyed, opening_sound, question_sound, is_sound, counted}
use Rattle.datagram.specs.declared.Reading.TheVariants.{Opening}
use Rattle.datagram.specs.declared.Reading.{Reading}
use Rattle.dtls_aead.specs.Nonce.{nonce_of}
use Rattle.mask_reply.specs.Mask.{unmasked, rebuilt, judged, masked_at, masked_by, masking, mask_step}
use Rattle.opening_reply.specs.Opening.{cancelled}
use Rattle.record.specs.Record.{header_length, fragment_len, partial_of, parse_ciphertext, is_type, is_version, is_plaintext, parse_plaintext, parsed}
use Rattle.records.specs.Records.{locked_step, sealed_step, step_of, opening_asked, asked_again, asking, read_step}
use Rattle.recv_keys.specs.Keys.{fits, last_fit, find, two, resolve, was_found, is_keyed, app_one, apps, windows_sound, keys_sound, is_full, installed, left_at, left}
use Rattle.sequence.specs.Sequence.{own, below, above, nearest}
use Rattle.window.specs.Used.{expected}
use Rattle.window.specs.Window.{verdict}
use Rattle.receiving.specs.Receiving.{fresh_of, key_of, encrypt_of, release_of, remove_of, removed_by, leaving, begin_of, read_of, mask_of}
use Rattle.receiving.specs.declared.Receiving.{Receiving}

-- epochs keyed one after the other
abbrev keys_from : List ℕ → Receiving → Receiving
keys_from [] s = s
keys_from (e ∷ es) s = keys_from es (key_of s e (replicate 12 0)).state

-- from a fresh state
abbrev keyed : List ℕ → Receiving
keyed es = keys_from es (fresh_of 16).state

-- keys for 3 and 7: bits 3 mean 7, and 3 once 7 is removed; 2 and 6: bits 2 mean 2, after release 6; with no keys none
resolving :
    (resolve (keyed (3 ∷ 7 ∷ [])).keys 3 ≡ Some 1)
    × (resolve (remove_of (keyed (3 ∷ 7 ∷ [])) 7).state.keys 3 ≡ Some 0)
    × (resolve (keyed (2 ∷ 6 ∷ [])).keys 2 ≡ Some 0)
    × (resolve (release_of (keyed (2 ∷ 6 ∷ []))).state.keys 2 ≡ Some 1)
    × (resolve (release_of (keyed (2 ∷ []))).state.keys 2 ≡ Some 0)
    × (resolve (keyed []).keys 2 ≡ None)
unfolding choose both fits last_fit find two resolve was_found is_keyed app_one apps windows_sound keys_sound is_full installed left_at left question_sound is_sound fresh_of key_of release_of remove_of removed_by leaving cancelled
resolving = (refl, refl, refl, refl, refl, refl)

-- what is asked of a lone record in epoch 3, nothing used in it and the mask zeros
abbrev first_asked : List ℕ → Reading
first_asked d =
    (mask_of (read_of (begin_of (encrypt_of (keyed (3 ∷ []))).state (length d)).state d).state (0 ∷ 0 ∷ []) d).0.reading

-- 02, 1: its opening under the number that its bits are, 200 of one byte and 40,000 of two
first-numbers :
    (first_asked (0x23 ∷ 200 ∷ replicate 16 0) ≡ Opening 3 200 0 2 16) × (first_asked (0x2B ∷ 0x9C ∷ 0x40 ∷ replicate 16 0) ≡ Opening 3 40000 0 3 16)
unfolding choose both either splice bit ask_sound ask_keyed opening_sound question_sound is_sound counted nonce_of unmasked rebuilt judged masked_at masked_by masking mask_step fresh_of key_of encrypt_of begin_of header_length fragment_len partial_of parse_ciphertext is_type is_version is_plaintext parse_plaintext parsed locked_step sealed_step step_of opening_asked asked_again asking read_step fits last_fit find two resolve was_found is_keyed app_one apps windows_sound keys_sound is_full installed own below above nearest expected verdict
first-numbers = (refl, refl)
