-- Two hosts that call the C library and may give an epoch a mask key (02, 6): the calls that mask keys change, and the calls of crate hosts_theorem that each of
-- them is. A call is written down as there: with its arguments, its answer, and what it left in the memory lent to it.
use Rattle.std.specs.Prelude.{ℕ, eqb, length, get_or, List, [], ◌∷◌, ◌++◌}
use Rattle.std.proofs.Math.Option.{Option, none, some}
use Rattle.base.specs.Choose.{choose}
use Rattle.base.specs.Parts.{part}
use Rattle.chacha.specs.Chacha.{mask_of}
use Rattle.answers.specs.declared.HuskTold.{HuskTold}
use Rattle.recv_calls.specs.declared.HuskReading.{HuskReading}
use Rattle.classify_calls.specs.Calls as classify
use Rattle.mask_calls.specs.Calls as masked
use Rattle.mask_calls.specs.Calls.{GoesOn, asked_key}
use Rattle.history_theorem.specs.Account.{upd}
use Rattle.ends_theorem.specs.Sender.{Lent}
use Rattle.ends_theorem.specs.World.{Side, post, gateway}
use Rattle.hosts_theorem.specs.Memory as inner
use Rattle.hosts_theorem.specs.Log as hosts
use Rattle.hosts_theorem.specs.Log.{Host, Act, inward, husk_sending_sealing, husk_flight_status, husk_sending_status, outward, outward_over, host_seals, husk_assembly_begin, husk_assembly_take, husk_receiving_classify, husk_receiving_classify_over}
use Rattle.hosts_theorem.specs.Claim.{Hosts, CCall, runs}

-- ---- the lengths of RFC 9147, section 4.2.3

-- "key of 32 bytes"
abbrev pub key_length : ℕ
key_length = 32

-- "the sample's first 4 bytes as counter, the next 12 as nonce"
abbrev pub sample_length : ℕ
sample_length = 16

-- the mask of the 16 bytes at a place
abbrev pub mask_under : List ℕ → List ℕ → ℕ → List ℕ
mask_under key d at = mask_of key (part at sample_length d)

-- ---- mask keys at a host

-- a mask key, where one is given
abbrev pub Given : Type 0
Given = ℕ → Option (List ℕ)

-- the slots that it lends for mask keys, of each direction; and by its own arguments the mask key that each epoch was keyed with, to receive and to send
pub record MaskKeys : Type 0 where
  pub receiving : List ℕ
  pub sending : List ℕ
  pub received : Given
  pub sent : Given

-- ---- the calls

-- a call that mask keys do not change, and those that they do. r the answer, v the words behind it, j the slots, y the reading that waits. A reading is written
-- down with what was read, a, before a mask was made of a key, and the words u that this left
pub data KeyedAct : Type 0 where
  other : Act → KeyedAct
  husk_receiving_key : (r : ℕ) (v j : List ℕ) (epoch : ℕ) (iv : List ℕ) → KeyedAct
  husk_receiving_key_masked : (r : ℕ) (v j : List ℕ) (epoch : ℕ) (iv key : List ℕ) → KeyedAct
  husk_receiving_remove : (r : HuskTold) (v j : List ℕ) (epoch : ℕ) → KeyedAct
  -- e the bytes of the begun datagram behind it; of a datagram d that arrived; over other bytes d
  husk_receiving_read : (a : HuskReading) (u : List ℕ) (r : HuskReading) (v y e : List ℕ) → KeyedAct
  husk_receiving_begin_read : (a : HuskReading) (u : List ℕ) (r : HuskReading) (v y e d : List ℕ) → KeyedAct
  husk_receiving_read_over : (a : HuskReading) (u : List ℕ) (r : HuskReading) (v y e d : List ℕ) → KeyedAct
  husk_sending_key : (r : ℕ) (v j : List ℕ) (epoch : ℕ) (iv : List ℕ) → KeyedAct
  husk_sending_key_masked : (r : ℕ) (v j : List ℕ) (epoch : ℕ) (iv key : List ℕ) → KeyedAct
  -- p the queue behind it; the same over another queue q, and other memory k for saved contents
  husk_sending_sealed : (r : ℕ) (v : List ℕ) (len m n : ℕ) (p : List ℕ) → KeyedAct
  husk_sending_sealed_over : (r : ℕ) (v : List ℕ) (len m n : ℕ) (p q k : List ℕ) → KeyedAct

-- mask keys do not change it
abbrev pub OtherIn : inner.InCall → Type 0
OtherIn (inner.husk_receiving_key r v epoch iv) = ⊥
OtherIn (inner.husk_receiving_remove r v epoch) = ⊥
OtherIn (inner.husk_receiving_begin_read r v d) = ⊥
OtherIn (inner.husk_receiving_read r v) = ⊥
OtherIn (inner.husk_receiving_read_over r v d) = ⊥
OtherIn (inner.husk_receiving_enable_encryption r v) = Unit {0}
OtherIn (inner.husk_receiving_release_application_data r v) = Unit {0}
OtherIn (inner.husk_receiving_begin r v d) = Unit {0}
OtherIn (inner.husk_receiving_mask r v m n e) = Unit {0}
OtherIn (inner.husk_receiving_opened r v o len) = Unit {0}
OtherIn (inner.husk_receiving_mask_over r v m n e d) = Unit {0}
OtherIn (inner.husk_receiving_opened_over r v o len d) = Unit {0}
OtherIn (inner.host_writes r p) = Unit {0}

abbrev pub OtherOut : inner.OutCall → Type 0
OtherOut (inner.husk_sending_key r v epoch iv) = ⊥
OtherOut (inner.husk_sending_sealed r v len m n p) = ⊥
OtherOut (inner.husk_sending_send r v epoch t c p) = Unit {0}
OtherOut (inner.husk_sending_take r v b c) = Unit {0}
OtherOut (inner.husk_sending_take_in_place r v) = Unit {0}
OtherOut (inner.husk_flight_begin r g) = Unit {0}
OtherOut (inner.husk_flight_send r v g m epoch t c p j) = Unit {0}
OtherOut (inner.husk_flight_message r v g m kind body p j) = Unit {0}
OtherOut (inner.husk_flight_resend r v g m p) = Unit {0}
OtherOut (inner.husk_flight_ack r g m c) = Unit {0}
OtherOut (inner.husk_notes_add r x y z epoch number) = Unit {0}
OtherOut (inner.husk_notes_send r v x y z p) = Unit {0}

abbrev pub Other : Act → Type 0
Other (inward c y) = OtherIn c
Other (outward c) = OtherOut c
Other (outward_over c q k) = OtherOut c
Other (husk_sending_sealing r) = Unit {0}
Other (husk_flight_status r) = Unit {0}
Other (husk_sending_status r) = Unit {0}
Other (host_seals r bytes) = Unit {0}
Other (husk_assembly_begin r v n) = Unit {0}
Other (husk_assembly_take r v c d e) = Unit {0}
Other (husk_receiving_classify r v y g m) = Unit {0}
Other (husk_receiving_classify_over r v y g m d) = Unit {0}

-- it was made: its own contract (crate mask_calls), over the memory of the host and its slots
abbrev pub Made : Host → MaskKeys → KeyedAct → Type 0
Made h k (other a) = Other a × hosts.Made h a
Made h k (husk_receiving_key r v j epoch iv) = masked.KeyReceiveCall r v h.incoming.words j k.receiving epoch iv
Made h k (husk_receiving_key_masked r v j epoch iv key) = masked.KeyReceiveMaskedCall r v h.incoming.words j k.receiving epoch iv key
Made h k (husk_receiving_remove r v j epoch) = masked.RemoveReceiveCall r v h.incoming.words j k.receiving epoch
Made h k (husk_receiving_read a u r v y e) =
    let d = h.incoming.datagram in
    classify.ReadCall a u h.incoming.words y h.pending d × GoesOn (asked_key a u k.receiving) r v a u e d
Made h k (husk_receiving_begin_read a u r v y e d) =
    classify.BeginReadCall a u h.incoming.words y h.pending d × GoesOn (asked_key a u k.receiving) r v a u e d
Made h k (husk_receiving_read_over a u r v y e d) =
    classify.ReadCall a u h.incoming.words y h.pending d × GoesOn (asked_key a u k.receiving) r v a u e d
Made h k (husk_sending_key r v j epoch iv) = masked.KeySendCall r v h.outgoing.words j k.sending epoch iv
Made h k (husk_sending_key_masked r v j epoch iv key) = masked.KeySendMaskedCall r v h.outgoing.words j k.sending epoch iv key
Made h k (husk_sending_sealed r v len m n p) = masked.SealedCall r v h.outgoing.words k.sending len m n p h.outgoing.queue
Made h k (husk_sending_sealed_over r v len m n p q c) = masked.SealedCall r v h.outgoing.words k.sending len m n p q

-- ---- the calls of crate hosts_theorem that each is, by the mask keys that the host gave

-- a reading that asks for a mask, kind 6, in an epoch with a mask key
unfoldable pub key_asked : Given → HuskReading → Option (List ℕ)
key_asked f a = choose (eqb a.kind 6) (f a.epoch) none

-- is that reading, and then the reply with the mask of the 16 bytes that it shows
abbrev pub going_on : Option (List ℕ) → inner.InCall → HuskReading → List ℕ → HuskReading → List ℕ → List ℕ → List ℕ → List Act
going_on none c a d r v y e = inward c y ∷ []
going_on (some key) c a d r v y e =
    let m : List ℕ = mask_under key d a.start in
    inward c y ∷ inward (inner.husk_receiving_mask r v (get_or m 0 0) (get_or m 1 0) e) y ∷ []

-- a sealing reply brings the mask of the first 16 bytes in the part shown, where the epoch shown has a mask key; else the host's
abbrev pub mask_or : Option (List ℕ) → List ℕ → ℕ → List ℕ → List ℕ
mask_or none q at m = m
mask_or (some key) q at m = mask_under key q at

abbrev pub mask_shown : Given → Option Lent → List ℕ → List ℕ → List ℕ
mask_shown f none q m = m
mask_shown f (some l) q m = mask_or (f l.epoch) q l.place m

-- a mask key of another length is refused, and is no call
abbrev pub acts_of : Host → MaskKeys → KeyedAct → List Act
acts_of h k (other a) = a ∷ []
acts_of h k (husk_receiving_key r v j epoch iv) = inward (inner.husk_receiving_key r v epoch iv) h.pending ∷ []
acts_of h k (husk_receiving_key_masked r v j epoch iv key) =
    choose (eqb (length key) key_length) (inward (inner.husk_receiving_key r v epoch iv) h.pending ∷ []) []
acts_of h k (husk_receiving_remove r v j epoch) = inward (inner.husk_receiving_remove r v epoch) h.pending ∷ []
acts_of h k (husk_receiving_read a u r v y e) =
    going_on (key_asked k.received a) (inner.husk_receiving_read a u) a h.incoming.datagram r v y e
acts_of h k (husk_receiving_begin_read a u r v y e d) =
    going_on (key_asked k.received a) (inner.husk_receiving_begin_read a u d) a d r v y e
acts_of h k (husk_receiving_read_over a u r v y e d) = inward (inner.husk_receiving_read_over a u d) y ∷ []
acts_of h k (husk_sending_key r v j epoch iv) = outward (inner.husk_sending_key r v epoch iv) ∷ []
acts_of h k (husk_sending_key_masked r v j epoch iv key) =
    choose (eqb (length key) key_length) (outward (inner.husk_sending_key r v epoch iv) ∷ []) []
acts_of h k (husk_sending_sealed r v len m n p) =
    let x : List ℕ = mask_shown k.sent h.seen.out.lent h.outgoing.queue (m ∷ n ∷ []) in
    outward (inner.husk_sending_sealed r v len (get_or x 0 0) (get_or x 1 0) p) ∷ []
acts_of h k (husk_sending_sealed_over r v len m n p q c) =
    let x : List ℕ = mask_shown k.sent h.seen.out.lent q (m ∷ n ∷ []) in
    outward_over (inner.husk_sending_sealed r v len (get_or x 0 0) (get_or x 1 0) p) q c ∷ []

-- ---- behind a call

-- answered 0, the epoch has this mask key, or none
abbrev pub gives : ℕ → Given → ℕ → Option (List ℕ) → Given
gives r f epoch key = choose (eqb r 0) (upd f epoch key) f

abbrev pub with_receiving : MaskKeys → List ℕ → Given → MaskKeys
with_receiving k j f = record { receiving = j; sending = k.sending; received = f; sent = k.sent }

abbrev pub with_sending : MaskKeys → List ℕ → Given → MaskKeys
with_sending k j f = record { receiving = k.receiving; sending = j; received = k.received; sent = f }

abbrev pub keys_behind : MaskKeys → KeyedAct → MaskKeys
keys_behind k (husk_receiving_key r v j epoch iv) = with_receiving k j (gives r k.received epoch none)
keys_behind k (husk_receiving_key_masked r v j epoch iv key) = with_receiving k j (gives r k.received epoch (some key))
keys_behind k (husk_receiving_remove r v j epoch) = with_receiving k j k.received
keys_behind k (husk_sending_key r v j epoch iv) = with_sending k j (gives r k.sent epoch none)
keys_behind k (husk_sending_key_masked r v j epoch iv key) = with_sending k j (gives r k.sent epoch (some key))
keys_behind k (other a) = k
keys_behind k (husk_receiving_read a u r v y e) = k
keys_behind k (husk_receiving_begin_read a u r v y e d) = k
keys_behind k (husk_receiving_read_over a u r v y e d) = k
keys_behind k (husk_sending_sealed r v len m n p) = k
keys_behind k (husk_sending_sealed_over r v len m n p q c) = k

-- ---- two hosts and a list of calls

pub record KeyedHosts : Type 0 where
  pub hosts : Hosts
  pub keys : Side → MaskKeys

pub record KeyedCall : Type 0 where
  pub side : Side
  pub act : KeyedAct

abbrev pub put_keys : Side → MaskKeys → (Side → MaskKeys) → Side → MaskKeys
put_keys post k f post = k
put_keys post k f gateway = f gateway
put_keys gateway k f post = f post
put_keys gateway k f gateway = k

abbrev pub at : Side → List Act → List CCall
at s [] = []
at s (a ∷ rest) = record { side = s; act = a } ∷ at s rest

-- the calls that one is
abbrev pub calls_of : KeyedHosts → KeyedCall → List CCall
calls_of ks c = at c.side (acts_of (ks.hosts c.side) (ks.keys c.side) c.act)

-- both hosts behind one call, and behind a list of calls
abbrev pub after : KeyedHosts → KeyedCall → KeyedHosts
after ks c = record {
  hosts = runs ks.hosts (calls_of ks c);
  keys = put_keys c.side (keys_behind (ks.keys c.side) c.act) ks.keys;
}

-- the calls that a list of calls is
abbrev pub list_of : KeyedHosts → List KeyedCall → List CCall
list_of ks [] = []
list_of ks (c ∷ cs) = calls_of ks c ++ list_of (after ks c) cs

-- each call meets its contract over the memory as the last call at its host left it
abbrev pub AllMade : KeyedHosts → List KeyedCall → Type 0
AllMade ks [] = Unit {0}
AllMade ks (c ∷ cs) = Made (ks.hosts c.side) (ks.keys c.side) c.act × AllMade (after ks c) cs
