-- A worked list of calls with mask keys whose premises are met, computed: epoch 2 is keyed to send with a mask key at the post, a record is sent, sealed and taken;
-- at the gateway two mask keys of 31 bytes are refused, epoch 2 is keyed to receive with the post's mask key, and the record is read, with no mask asked, and
-- opened. The calls and words that mask keys do not change are those of crate hosts_theorem's example. Assumes nothing.
use Rattle.std.specs.Prelude.{ℕ, eqb, replicate, List, [], ◌∷◌, ◌++◌, ◌≡◌}
use native.Mathlib.Omega.{arith}
use mathlib.Core.List.Memᴰ.{head as here}
use Rattle.std.proofs.Math.Option.{none, some}
use Rattle.std.proofs.Math.Path.{refl}
use Rattle.base.specs.Choose.{choose}
use Rattle.chacha.specs.Chacha.{plus, rotl, abd, cdb, quarter_round, put_quad, quarter_at, column_round, diagonal_round, word, initial, block_words, bytes_of, block, mask_of}
use Rattle.recv_words.specs.Entries.{fresh_words}
use Rattle.mask_keys.specs.Keys.{receive_size, send_size, has_key, key_at, filled, keyed_as, key_in, entry_of, receive_key, send_key}
use Rattle.mask_calls.specs.Calls.{asked_key, seal_mask}
use Rattle.history_theorem.specs.Claim.{Masks}
use Rattle.history_theorem.proofs.Example.{yes_fair}
use Rattle.history_theorem.specs.Receiver.{Sealed}
use Rattle.ends_theorem.specs.World.{Side, post, gateway}
use Rattle.hosts_theorem.specs.Memory as inner
use Rattle.hosts_theorem.specs.Log.{inward, outward, husk_sending_sealing, host_seals}
use Rattle.hosts_theorem.specs.Claim.{runs}
use Rattle.hosts_theorem.proofs.Example as plain
use Rattle.hosts_theorem.proofs.Example.{iv, v₁, v₂, v₃, v₄, u₁, u₂, u₃, u₄, u₅, cipher, header, alone, seal_asked, mask_asked, open_asked, handed_over, no_reading, one_waits, settings, hosts, begun}
use Rattle.masks_theorem.specs.Hosts.{MaskKeys, KeyedAct, other, husk_receiving_key_masked, husk_receiving_begin_read, husk_sending_key_masked, husk_sending_sealed, key_asked, KeyedHosts, KeyedCall, list_of, AllMade}
use Rattle.masks_theorem.specs.Claim.{NoKeys, Agreed, masks_of, AllFair, Claimed}
use Rattle.masks_theorem.proofs.Theorem.{every_list_with-mask-keys}

-- every definition that the list computes with
opened : Unit {0}
unfolding plain.opened plain.settings plain.hosts has_key key_at filled keyed_as key_in entry_of receive_key send_key asked_key seal_mask key_asked mask_of block block_words bytes_of initial word column_round diagonal_round quarter_at put_quad quarter_round abd cdb plus rotl
opened = tt

-- ---- the calls

-- a mask key, and one of 31 bytes
abbrev mask_key_bytes : List ℕ
mask_key_bytes = 0 ∷ 1 ∷ 2 ∷ 3 ∷ 4 ∷ 5 ∷ 6 ∷ 7 ∷ 8 ∷ 9 ∷ 10 ∷ 11 ∷ 12 ∷ 13 ∷ 14 ∷ 15 ∷ 16 ∷ 17 ∷ 18 ∷ 19 ∷ 20 ∷ 21 ∷ 22 ∷ 23 ∷ 24 ∷ 25 ∷ 26 ∷ 27 ∷ 28 ∷ 29 ∷ 30 ∷ 31 ∷ []

abbrev short_key : List ℕ
short_key = replicate 31 9

-- the record on the wire, with the mask 253, 32 that ChaCha20 makes of the key and of the record's first 16 sealed bytes
abbrev wire : List ℕ
wire = 46 ∷ 253 ∷ 32 ∷ 0 ∷ 18 ∷ cipher

-- the slots: none filled; the first filled
abbrev receiving_slots : List ℕ
receiving_slots = replicate receive_size 0

abbrev receiving_filled : List ℕ
receiving_filled = 1 ∷ (mask_key_bytes ++ replicate 132 0)

abbrev sending_slots : List ℕ
sending_slots = replicate send_size 0

abbrev sending_filled : List ℕ
sending_filled = 1 ∷ (mask_key_bytes ++ replicate 33 0)

abbrev by : Side → KeyedAct → KeyedCall
by s a = record { side = s; act = a }

-- the sealing reply brings 99 and 98, which are not read; the reading goes from the mask question, which the host is not asked, to the opening
talk : List KeyedCall
talk =
    by post (husk_sending_key_masked 0 v₁ sending_filled 2 iv mask_key_bytes)
    ∷ by post (other (outward (inner.husk_sending_send 0 v₂ 2 22 (5 ∷ []) (alone (header ++ plain.inner ++ 0 ∷ 2 ∷ replicate 14 0)))))
    ∷ by post (other (husk_sending_sealing seal_asked))
    ∷ by post (other (host_seals seal_asked cipher))
    ∷ by post (husk_sending_sealed 0 v₃ 18 99 98 (alone wire))
    ∷ by post (other (outward (inner.husk_sending_take (record { kind = 2; refusal = 0; length = 23 }) v₄ (replicate 576 0) (alone wire))))
    ∷ by gateway (husk_receiving_key_masked 13 (fresh_words 16) receiving_slots 1 iv short_key)
    ∷ by gateway (husk_receiving_key_masked 27 (fresh_words 16) receiving_slots 2 iv short_key)
    ∷ by gateway (husk_receiving_key_masked 0 u₁ receiving_filled 2 iv mask_key_bytes)
    ∷ by gateway (other (inward (inner.husk_receiving_enable_encryption 0 u₂) no_reading))
    ∷ by gateway (husk_receiving_begin_read mask_asked u₃ open_asked u₄ no_reading (header ++ cipher) wire)
    ∷ by gateway (other (inward (inner.host_writes open_asked plain.inner) no_reading))
    ∷ by gateway (other (inward (inner.husk_receiving_opened handed_over u₅ 1 2) one_waits))
    ∷ []

no_keys : MaskKeys
no_keys = record { receiving = receiving_slots; sending = sending_slots; received = λ e. none; sent = λ e. none }

first : KeyedHosts
first = record { hosts = hosts; keys = λ s. no_keys }

-- ---- each meets its contract

talk-made : AllMade first talk
unfolding opened talk no_keys first
talk-made = (
  (λ z. (refl, (refl, refl)), λ ne. absurd (ne refl), refl),
  (
    (tt, ((refl, (refl, refl)), refl)),
    (
      (tt, refl),
      (
        (tt, (refl, refl, refl)),
        (
          ((refl, (refl, refl)), refl),
          (
            (tt, ((refl, (refl, refl)), refl)),
            (
              (λ z. absurd (omega arith), λ ne. (refl, refl), refl),
              (
                (λ z. absurd (omega arith), λ ne. (refl, refl), refl),
                (
                  (λ z. (refl, refl, refl), λ ne. absurd (ne refl), refl),
                  (
                    (tt, ((refl, refl, refl), refl)),
                    (
                      (((refl, refl, refl), refl), ((refl, refl, refl), refl)),
                      ((tt, (((u₄, (refl, refl, refl)), refl, omega arith), refl)), ((tt, ((refl, refl, refl), refl)), tt)),
                    ),
                  ),
                ),
              ),
            ),
          ),
        ),
      ),
    ),
  ),
)

-- ---- what is asked of the hosts is met, whatever the masks of other epochs are

-- what the post sends in epoch 2 has a mask key, and nothing else
agreed : Agreed
agreed post e = choose (eqb e 2) (some mask_key_bytes) none
agreed gateway e = none

abbrev sealed_one : Sealed
sealed_one = record { num = 0; type = 22; content = 5 ∷ []; header = header; cipher = cipher; wire = wire }

module _ (masks : Side → Masks) where
  talk-fair : AllFair agreed masks first talk
  unfolding opened talk no_keys first agreed
  talk-fair = (
    (omega arith, λ z. refl),
    (
      ((tt, tt), tt),
      (
        tt,
        (
          ((tt, tt), tt),
          (
            tt,
            (
              ((tt, tt), tt),
              (
                λ z. absurd (omega arith),
                (
                  λ z. absurd (omega arith),
                  (λ z. refl, ((tt, tt), (tt, ((tt, tt), ((λ right. yes_fair (sealed_one ∷ []) sealed_one (here refl) refl _ refl, tt), tt))))),
                ),
              ),
            ),
          ),
        ),
      ),
    ),
  )

  -- ---- so the claim holds of them

  none-given : (s : Side) → NoKeys (first.keys s)
  unfolding no_keys first
  none-given s = record { receiving = refl; sending = refl; received = λ e. refl; sent = λ e. refl }

  talk_claimed : Claimed (masks_of agreed masks) settings first talk
  unfolding first
  talk_claimed = every_list_with-mask-keys settings first begun none-given agreed masks talk talk-made talk-fair

-- the record is handed over, and the datagram is its bytes
talk-hands : let hs = runs hosts (list_of first talk) in
    ((hs gateway).seen.into.into.handed 2 ≡ record { num = 0; type = 22; content = 5 ∷ [] } ∷ []) × ((hs post).seen.out.taken ≡ wire ∷ [])
unfolding opened talk no_keys first
talk-hands = (refl, refl)
