-- The meaning of a queue, computed: epoch 2 is keyed, a record is sent in plaintext and two to be sealed, the first of them is sealed.
-- Assumes nothing.
use Rattle.std.specs.Prelude.{true, List, [], ◌∷◌, ◌≡◌, refl, ℕ, length, replicate, Err}
use Rattle.std.proofs.Common.{arith}
use Rattle.base.specs.Choose.{choose, both, either}
use Rattle.base.specs.Parts.{splice}
use Rattle.record.specs.Record.{is_type, plaintext_header, unified_header, parsed, parse_ciphertext, parse_plaintext, header_length, fragment_len, partial_of, is_plaintext, is_version}
use Rattle.queue.specs.Queue.{is_setting, is_sound, is_ready, slot_of, last_len, tail_of, place_of, laid, start_of}
use Rattle.queue.specs.Laid.{record_len, record_bytes, trailer_of}
use Rattle.send_keys.specs.Keys.{no_epoch, no_keys, is_usable, is_keyed, next_of, used, sealed_up_to, key_answer, keyed}
use Rattle.outgoing.specs.declared.Sending.{Sending}
use Rattle.outgoing.specs.State.{no_waiting, fresh_sending, is_content_type, is_allowed, keying_state}
use Rattle.outgoing.specs.Send.{waits_behind, laid_state, laid_memory, send_answer, send_state, send_memory}
use Rattle.sealing.specs.Seek.{nth_of, beyond, passed, found_at, step_of, seek_step, seek}
use Rattle.sealing.specs.Sealing.{is_span, is_held, part_start, masked_header, behind_oldest, seal_answer, sealed_state, sealed_memory}
use Rattle.taking.specs.declared.TakeError.TheVariants as take
use Rattle.taking.specs.Take.{take_answer}
use Rattle.waiting_laws.specs.Queued.{Queued, plain, waits, sealed, Holds}
use Rattle.waiting_laws.proofs.Fresh.{fresh_holds}
use Rattle.waiting_laws.proofs.Sends.{after_send, send_holds}
use Rattle.waiting_laws.proofs.Seals.{after_reply, seal_holds}
use Rattle.waiting_laws.proofs.Keying.{keying-holds}

abbrev empty : List ℕ
empty = replicate 576 0

abbrev first : Sending
first = (keying_state (fresh_sending 576 1) 2 (replicate 12 7)).state

-- a record of type t and content x sent in epoch e
abbrev then : ℕ → ℕ → List ℕ → Sending → List ℕ → Sending
then e t x s q = (send_state (send_answer s (length q) e t (length x)) s e (length x)).state

abbrev after : ℕ → ℕ → List ℕ → Sending → List ℕ → List ℕ
after e t x s q = send_memory (send_answer s (length q) e t (length x)) s e t x q

abbrev s₁ : Sending
s₁ = then 0 22 (1 ∷ 2 ∷ 3 ∷ []) first empty

abbrev q₁ : List ℕ
q₁ = after 0 22 (1 ∷ 2 ∷ 3 ∷ []) first empty

abbrev s₂ : Sending
s₂ = then 2 22 (9 ∷ []) s₁ q₁

abbrev q₂ : List ℕ
q₂ = after 2 22 (9 ∷ []) s₁ q₁

abbrev s₃ : Sending
s₃ = then 2 22 (8 ∷ []) s₂ q₂

abbrev q₃ : List ℕ
q₃ = after 2 22 (8 ∷ []) s₂ q₂

-- the host's reply: 18 bytes, and a mask
abbrev mask : List ℕ
mask = 5 ∷ 6 ∷ []

abbrev s₄ : Sending
s₄ = (sealed_state (seal_answer s₃ (length q₃) 18) s₃ q₃).state

abbrev q₄ : List ℕ
q₄ = sealed_memory (seal_answer s₃ (length q₃) 18) s₃ mask q₃

-- what the calls say that the queue means
abbrev meant : List (List Queued)
meant =
    let d₁ : List (List Queued) = after_send (send_answer first (length empty) 0 22 3) first 0 22 (1 ∷ 2 ∷ 3 ∷ []) [] in
    let d₂ : List (List Queued) = after_send (send_answer s₁ (length q₁) 2 22 1) s₁ 2 22 (9 ∷ []) d₁ in
    let d₃ : List (List Queued) = after_send (send_answer s₂ (length q₂) 2 22 1) s₂ 2 22 (8 ∷ []) d₂ in
    after_reply (seal_answer s₃ (length q₃) 18) mask d₃

-- it does
pub means : is_setting 576 1 ≡ true → Holds s₄ q₄ meant
means setting =
    seal_holds s₃ q₃ _ (send_holds s₂ q₂ _ (send_holds s₁ q₁ _ (send_holds first empty _ (keying-holds (fresh_sending 576 1) empty []
    (fresh_holds 576 1 empty setting (omega arith)) 2 (replicate 12 7) (omega arith)) 0 22 (1 ∷ 2 ∷ 3 ∷ [])) 2 22 (9 ∷ [])) 2 22 (8 ∷ [])) 18 mask

-- one datagram: the plaintext record, the one that is sealed, the one that waits; the state names this one, at 16 + 23; it isn't taken yet
pub computed : (is_setting 576 1 ≡ true)
    × (meant ≡ (plain 22 0 (1 ∷ 2 ∷ 3 ∷ []) ∷ sealed 2 22 0 (9 ∷ []) mask (9 ∷ trailer_of 22 2 0) ∷ waits 2 22 1 (8 ∷ []) (8 ∷ trailer_of 22 2 1) ∷ []) ∷ [])
    × (s₃.waiting ≡ record { any = true; slot = 0; start = 16; length = 18; epoch = 2; number = 0 })
    × (s₄.waiting ≡ record { any = true; slot = 0; start = 39; length = 18; epoch = 2; number = 1 }) × (take_answer s₄ (length q₄) 100 ≡ (Err take.Unsealed))
unfolding choose both either fresh_sending no_waiting no_keys no_epoch is_setting is_sound is_ready is_usable is_keyed key_answer keyed keying_state next_of used sealed_up_to is_type is_content_type is_allowed record_len send_answer send_state send_memory laid_state laid_memory waits_behind slot_of last_len tail_of place_of laid start_of splice record_bytes trailer_of plaintext_header unified_header is_span is_held part_start masked_header nth_of beyond passed found_at step_of seek_step seek behind_oldest seal_answer sealed_state sealed_memory take_answer parsed parse_ciphertext parse_plaintext header_length fragment_len partial_of is_plaintext is_version
computed = (refl, refl, refl, refl, refl)
