-- What holds of every list of calls of the C library on two hosts that may give an epoch a mask key (02, 6): all that is claimed of calls without mask keys, with
-- nothing asked of the masks of an epoch that has one at both ends.
use Rattle.std.specs.Prelude.{ℕ, ◌<◌, eqb, length, replicate, List, [], ◌∷◌, ◌≡◌}
use Rattle.std.proofs.Math.Option.{Option, none, some}
use Rattle.base.specs.Choose.{choose}
use Rattle.chacha.specs.Chacha.{mask_of}
use Rattle.recv_calls.specs.declared.HuskReading.{HuskReading}
use Rattle.mask_keys.specs.Keys.{receive_size, send_size}
use Rattle.waiting_laws.specs.Calls.{key_send·, sealed·, Short}
use Rattle.history_theorem.specs.Account.{Shown, nothing, a_mask, an_opening, key_owed}
use Rattle.history_theorem.specs.Claim.{Masks, OtherLength}
use Rattle.ends_theorem.specs.Ledger.{owed}
use Rattle.ends_theorem.specs.Sender.{Lent, FairSeal}
use Rattle.ends_theorem.specs.World.{Side, far, Setting}
use Rattle.hosts_theorem.specs.Memory as inner
use Rattle.hosts_theorem.specs.Log.{Host, Act, inward, husk_sending_sealing, husk_flight_status, husk_sending_status, outward, outward_over, host_seals, husk_assembly_begin, husk_assembly_take, husk_receiving_classify, husk_receiving_classify_over}
use Rattle.hosts_theorem.specs.Claim.{Started, deeds_of, FairDeeds, Refines}
use Rattle.masks_theorem.specs.Hosts.{key_length, Given, MaskKeys, KeyedAct, other, husk_receiving_key, husk_receiving_key_masked, husk_receiving_remove, husk_receiving_read, husk_receiving_begin_read, husk_receiving_read_over, husk_sending_key, husk_sending_key_masked, husk_sending_sealed, husk_sending_sealed_over, key_asked, KeyedHosts, KeyedCall, after, list_of, AllMade}

-- ---- the start: slots of zeros, as the starting calls leave them (crate mask_calls, FreshCall and FreshSendCall), and no mask key given

pub record NoKeys (k : MaskKeys) : Type 0 where
  pub receiving : k.receiving ≡ replicate receive_size 0
  pub sending : k.sending ≡ replicate send_size 0
  pub received : (e : ℕ) → k.received e ≡ none
  pub sent : (e : ℕ) → k.sent e ≡ none

-- ---- what is asked of the hosts

-- "whose two ends are given the same mask key for an epoch and direction": the mask key, if any, that the two ends agreed on for what a side sends in an epoch
abbrev pub Agreed : Type 0
Agreed = Side → ℕ → Option (List ℕ)

-- then the sender's mask is ChaCha20's under that key (RFC 9147, section 4.2.3); else it is any that is fixed by direction, epoch and the 16 bytes
abbrev pub mask_in : Option (List ℕ) → (List ℕ → List ℕ) → List ℕ → List ℕ
mask_in none f x = f x
mask_in (some key) f x = mask_of key x

abbrev pub masks_of : Agreed → (Side → Masks) → Side → Masks
masks_of agreed masks s e x = mask_in (agreed s e) (masks s e) x

-- asked only where there is no mask key
abbrev pub Unless : Option (List ℕ) → Type 0 → Type 0
Unless none T = T
Unless (some key) T = Unit {0}

-- the mask key of the epoch in which a mask is asked
abbrev pub key_of_asked : Given → Shown → Option (List ℕ)
key_of_asked f nothing = none
key_of_asked f (a_mask e p) = f e
key_of_asked f (an_opening e n at head body) = none

-- a mask reply answers one
abbrev pub spared_in : Given → Shown → inner.InCall → Option (List ℕ)
spared_in f w (inner.husk_receiving_mask r v m n e) = key_of_asked f w
spared_in f w (inner.husk_receiving_key r v epoch iv) = none
spared_in f w (inner.husk_receiving_remove r v epoch) = none
spared_in f w (inner.husk_receiving_begin_read r v d) = none
spared_in f w (inner.husk_receiving_read r v) = none
spared_in f w (inner.husk_receiving_read_over r v d) = none
spared_in f w (inner.husk_receiving_enable_encryption r v) = none
spared_in f w (inner.husk_receiving_release_application_data r v) = none
spared_in f w (inner.husk_receiving_begin r v d) = none
spared_in f w (inner.husk_receiving_opened r v o len) = none
spared_in f w (inner.husk_receiving_mask_over r v m n e d) = none
spared_in f w (inner.husk_receiving_opened_over r v o len d) = none
spared_in f w (inner.host_writes r p) = none

abbrev pub spared : Given → Shown → Act → Option (List ℕ)
spared f w (inward c y) = spared_in f w c
spared f w (outward c) = none
spared f w (outward_over c q k) = none
spared f w (husk_sending_sealing r) = none
spared f w (husk_flight_status r) = none
spared f w (husk_sending_status r) = none
spared f w (host_seals r bytes) = none
spared f w (husk_assembly_begin r v n) = none
spared f w (husk_assembly_take r v c d e) = none
spared f w (husk_receiving_classify r v y g m) = none
spared f w (husk_receiving_classify_over r v y g m d) = none

-- a sealing reply brings the sender's mask, where the epoch shown has no mask key
abbrev pub FairSealing : Masks → Given → Option Lent → List ℕ → ℕ → List ℕ → Type 0
FairSealing masks f none q len m = Unit {0}
FairSealing masks f (some l) q len m = Unless (f l.epoch) (FairSeal masks (some l) q len m)

-- h the host of the side s with its mask keys k, f the far one: a mask key that is accepted is the agreed one; all else is asked as without mask keys (crate
-- hosts_theorem, AllFair), but for masks
abbrev pub Fair : Agreed → (Side → Masks) → Side → Host → Host → MaskKeys → KeyedAct → Type 0
Fair agreed masks s f h k (other a) = Unless (spared k.received h.seen.into.into.account.waits a) (FairDeeds masks s f.seen h.seen (deeds_of a))
Fair agreed masks s f h k (husk_receiving_key r v j epoch iv) = Unit {0}
Fair agreed masks s f h k (husk_receiving_key_masked r v j epoch iv key) = r ≡ 0 → agreed (far s) epoch ≡ some key
Fair agreed masks s f h k (husk_receiving_remove r v j epoch) = Unit {0}
Fair agreed masks s f h k (husk_receiving_read a u r v y e) = Unit {0}
Fair agreed masks s f h k (husk_receiving_begin_read a u r v y e d) = Unit {0}
Fair agreed masks s f h k (husk_receiving_read_over a u r v y e d) = OtherLength h.seen.into.into d
Fair agreed masks s f h k (husk_sending_key r v j epoch iv) = epoch < 65536
Fair agreed masks s f h k (husk_sending_key_masked r v j epoch iv key) = (epoch < 65536) × (r ≡ 0 → agreed s epoch ≡ some key)
Fair agreed masks s f h k (husk_sending_sealed r v len m n p) =
    FairSealing (masks s) k.sent h.seen.out.lent h.outgoing.queue len (m ∷ n ∷ [])
Fair agreed masks s f h k (husk_sending_sealed_over r v len m n p q c) = Short h.seen.mtu h.seen.limit q c (sealed· len (m ∷ n ∷ []))

-- of every call in the list
abbrev pub AllFair : Agreed → (Side → Masks) → KeyedHosts → List KeyedCall → Type 0
AllFair agreed masks ks [] = Unit {0}
AllFair agreed masks ks (c ∷ cs) =
    Fair agreed (masks_of agreed masks) c.side (ks.hosts (far c.side)) (ks.hosts c.side) (ks.keys c.side) c.act
    × AllFair agreed masks (after ks c) cs

-- ---- what each call is owed besides

-- "27 for a mask key of another length, at keying, after 13": where a key of 32 bytes would be told n
abbrev pub keying_owed : ℕ → ℕ → ℕ
keying_owed size n = choose (eqb size key_length) n (choose (eqb n 13) 13 27)

-- one of another length changes nothing: v the words behind, w before, j and k the slots
abbrev pub Unchanged : List ℕ → List ℕ → List ℕ → List ℕ → List ℕ → Type 0
Unchanged key v w j k = (length key ≡ key_length → ⊥) → (v ≡ w) × (j ≡ k)

-- keying or removing that is refused leaves the slots: r its number, j the slots behind, k before
abbrev pub SlotsStay : ℕ → List ℕ → List ℕ → Type 0
SlotsStay r j k = (r ≡ 0 → ⊥) → j ≡ k

-- with no mask key for what was read, that is the answer, the words are those that it left, and no byte changes; with one the answer, the words and the bytes are
-- those of the mask reply (`refines`)
abbrev pub Stands : Option (List ℕ) → HuskReading → HuskReading → List ℕ → List ℕ → List ℕ → List ℕ → Type 0
Stands none r a v u e d = (r ≡ a) × (v ≡ u) × (e ≡ d)
Stands (some key) r a v u e d = Unit {0}

-- "the mask question is then skipped for such epochs": no mask is asked (kind 6) in an epoch with a mask key
abbrev pub NotAsked : Given → HuskReading → Type 0
NotAsked f r = r.kind ≡ 6 → f r.epoch ≡ none

abbrev pub Owed : Host → MaskKeys → KeyedAct → Type 0
Owed h k (husk_receiving_key_masked r v j epoch iv key) =
    (r ≡ keying_owed (length key) (key_owed h.seen.into.into.account epoch)) × Unchanged key v h.incoming.words j k.receiving
    × SlotsStay r j k.receiving
Owed h k (husk_receiving_read a u r v y e) = Stands (key_asked k.received a) r a v u e h.incoming.datagram × NotAsked k.received r
Owed h k (husk_receiving_begin_read a u r v y e d) = Stands (key_asked k.received a) r a v u e d × NotAsked k.received r
Owed h k (husk_receiving_read_over a u r v y e d) = (r ≡ a) × (v ≡ u) × (e ≡ d)
Owed h k (husk_sending_key_masked r v j epoch iv key) =
    (r ≡ keying_owed (length key) (owed h.seen.ledger (key_send· epoch iv)).number) × Unchanged key v h.outgoing.words j k.sending
    × SlotsStay r j k.sending
-- answered as without mask keys (`refines`)
Owed h k (husk_receiving_key r v j epoch iv) = SlotsStay r j k.receiving
Owed h k (husk_receiving_remove r v j epoch) = SlotsStay r.refusal j k.receiving
Owed h k (husk_sending_key r v j epoch iv) = SlotsStay r j k.sending
Owed h k (other a) = Unit {0}
Owed h k (husk_sending_sealed r v len m n p) = Unit {0}
Owed h k (husk_sending_sealed_over r v len m n p q c) = Unit {0}

abbrev pub AllOwed : KeyedHosts → List KeyedCall → Type 0
AllOwed ks [] = Unit {0}
AllOwed ks (c ∷ cs) = Owed (ks.hosts c.side) (ks.keys c.side) c.act × AllOwed (after ks c) cs

-- ---- what is claimed

-- the calls are calls of crate hosts_theorem in which the masks of an epoch with a mask key are ChaCha20's, by the keys that the hosts gave: all that is claimed
-- there holds of them; and each is answered as owed
pub record Claimed (masks : Side → Masks) (settings : Side → Setting) (ks : KeyedHosts) (cs : List KeyedCall) : Type 0 where
  pub refines : Refines masks settings ks.hosts (list_of ks cs)
  pub owed : AllOwed ks cs

-- every list of calls: for all settings that the starting calls accepted, all memory that they left, all mask keys agreed on, all masks of other epochs, every
-- list of calls each of which met its contract, on either host, in any order, by hosts that answer as asked
abbrev pub EveryListWithMaskKeys : Type 0
EveryListWithMaskKeys =
    (settings : Side → Setting) (ks : KeyedHosts) → ((s : Side) → Started (settings s) (ks.hosts s)) → ((s : Side) → NoKeys (ks.keys s))
    → (agreed : Agreed) (masks : Side → Masks) (cs : List KeyedCall) → AllMade ks cs → AllFair agreed masks ks cs
    → Claimed (masks_of agreed masks) settings ks cs
