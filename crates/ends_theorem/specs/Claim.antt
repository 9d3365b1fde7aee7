-- What holds after every list of calls on two fresh ends, at each receiving end and in each receive epoch: demand 3.
use Rattle.std.specs.Prelude.{ℕ, ◌+◌, ◌*◌, ◌%◌, ◌≤◌, length, drop, true, ◌≡◌}
use mathlib.Core.List.{List, ◌∷◌, ◌++◌, Memᴰ as Mem}
use Rattle.std.proofs.Math.Option.{some}
use Rattle.base.specs.Bytes.{be, xors}
use Rattle.base.specs.Parts.{part}
use Rattle.send_keys.specs.Keys.{next_of}
use Rattle.history_theorem.specs.Claim.{Masks, Once, as_handed, nonce_for, Due, Received}
use Rattle.history_theorem.specs.Receiver.{Sealed, Tried}
use Rattle.assembly_theorem.specs.Claim.{Assembled}
use Rattle.classify_theorem.specs.Claim.{Classified}
use Rattle.classify_theorem.specs.Rules.{Handled}
use Rattle.assembly_theorem.specs.Rules.{Within}
use Rattle.history_theorem.specs.Account.{sealed_tail}
use Rattle.ends_theorem.specs.Deals.{Deals}
use Rattle.ends_theorem.specs.Flights.{handed_as, Arrived, Apart, Held}
use Rattle.ends_theorem.specs.Ledger.{Kept, items, oldest}
use Rattle.ends_theorem.specs.Sender.{Lent, AskedFor, sealed_header, Taken}
use Rattle.ends_theorem.specs.World.{Side, far, Count, Said, Took, Over, World, Event, run, Setting, fresh-pair, Honest}

-- every next number to send is as it was
abbrev pub SameNumbers : Count → Type 0
SameNumbers c = (e : ℕ) → next_of c.behind e ≡ next_of c.before e

-- a take writes the datagram's bytes at the start of the host's buffer, where one is taken, and no other byte
pub record TookOnly (t : Took) : Type 0 where
  pub long : length t.behind ≡ length t.before
  pub taken : t.reply.number ≡ 0 → drop t.reply.told t.behind ≡ drop t.reply.told t.before
  pub refused : (t.reply.number ≡ 0 → ⊥) → t.behind ≡ t.before

-- a record sealed: its header as 01 gives it, shown unmasked, and on the wire with its two number bytes masked. That the mask is the sender's, and
-- goes on once, shows in what the far end reads (`due-opened`)
pub record Wired (e : ℕ) (r : Sealed) : Type 0 where
  -- "Length: content + 17"
  pub size : length r.cipher ≡ length r.content + sealed_tail
  pub header : r.header ≡ sealed_header e r.num (length r.cipher)
  pub masked : (m : List ℕ) × (r.wire ≡ ((0x2C + e % 4) ∷ xors m 0 (be 2 r.num) ++ be 2 (length r.cipher)) ++ r.cipher)

pub record Holds (w : World) (s : Side) (e : ℕ) : Type 0 where
  -- "no record was handed over twice; each had the number, type and content it was sealed with; none was left out ..; A datagram with no
  -- record accepted by the cipher moved no .. window", against what the far end sealed (crate history, Claim)
  pub received : Received (w (far s)).out.sealed (w s).into e
  -- "moved no record number": no call that reads a datagram moves a next number to send, in any epoch. True by construction: a receiving call is
  -- not given the sending state, as the signatures of the calls show
  pub moved_no_number : (c : Count) → Mem c (w s).counts → SameNumbers c
  -- "A saved record of epoch 2 or above was marked acknowledged only if one of its sendings was handed over", with its type and content: what the
  -- account has as acknowledged, which resends skip (`answers`, `sealed-sent`, `taken-lines`: what they send is the account's)
  pub acked-handed : (k : Kept) → 2 ≤ k.epoch → Mem k (w (far s)).ledger.saved → k.acked ≡ true → Arrived (w s).into.into.handed k
  -- "or of epoch 2 when an ACK empties the flight"
  pub cleared-handed : (k : Kept) → Mem k (w (far s)).cleared → Arrived (w s).into.into.handed k
  -- 02, 2: each call of reassembly was answered as its account says; handshake messages came out whole, once, as 0, 1, 2 and so on, each byte from the
  -- first piece given that has it; the buffer changed by what a taken piece brings anew alone (crate assembly_theorem, Claim)
  pub assembled : Assembled (w s).pieces
  -- each of at most 50 pieces, all of its number, and at most 16,384 bytes (crate assembly_theorem, Rules)
  pub within : Within (w s).pieces
  -- 02, 3: each reading was dealt with at most once, by its account: what it is told, its bytes, what waits, and what the host left behind; a datagram takes
  -- at most 16 turns (crate classify_theorem, Claim)
  pub classified : Classified (w s).dealings (w s).into.into
  -- a record that was due is handed on by its type and content unless its place is beyond the first close; or its own host left it behind; or it waits. One
  -- behind an alert that ended its datagram is not reached, and so not due
  pub handed-on : (d : Tried) → Mem d (w s).into.into.tried → (r : Sealed) → Due d.trial e r → Handled (w s).dealings e r
  -- and what dealing does besides is the contract's, and the account's: an ACK that is owed marks, an alert that is told ends the datagram, and nothing
  -- else does either
  pub deals : Deals (w (far s)) (w s)
  -- the state holds the account's flight, record by record, marked as there: none goes in another way than the account's
  pub flight-held : Held (w (far s)).mtu (w (far s)).out.stores.flight (w (far s)).out.stores.kept 0 (w (far s)).ledger.saved
  pub flight-whole : length (w (far s)).ledger.saved ≡ (w (far s)).out.stores.flight.saved
  -- "Each sending of a saved record is a record of its own": no number is a sending of two saved records in an epoch
  pub own-sendings : Apart (w (far s)).ledger.saved
  -- beside the demand, so that the above is not hollow:
  -- each sending call, refused or not, was answered as the account says: by N exactly if N's condition holds and none before it in 01's order; and
  -- told besides how many records it sent again or newly acknowledged, and whether one was noted or sent
  pub answers : (a : Said) → Mem a (w (far s)).said → a.reply ≡ a.owed
  -- over memory that is too short nothing of it changes either
  pub overs-kept : (o : Over) → Mem o (w (far s)).overs → (o.queue' ≡ o.queue) × (o.kept' ≡ o.kept)
  -- a take changes no byte of the host's buffer beside the datagram's
  pub took-only : (t : Took) → Mem t (w (far s)).took → TookOnly t
  -- what the host wrote into the part lent for sealing lies there as it wrote it, until its reply
  pub given-lies : (l : Lent) → (w (far s)).out.lent ≡ some l → (v : List ℕ) → (w (far s)).given ≡ some v → part l.place l.size (w (far s)).out.stores.queue ≡ v
  -- "it" is one record: no number is sealed twice in an epoch
  pub sealed-once : (r q : Sealed) → Mem r ((w (far s)).out.sealed e) → Mem q ((w (far s)).out.sealed e) → r.num ≡ q.num → r ≡ q
  -- and has its header by its epoch, number and length
  pub sealed-wired : (r : Sealed) → Mem r ((w (far s)).out.sealed e) → Wired e r
  -- what was sealed is what the account has as sent, by the host's own arguments, and no number is sent twice in an epoch
  pub sealed-sent : (r : Sealed) → Mem r ((w (far s)).out.sealed e) → Mem (as_handed r) ((w (far s)).out.books.sent e)
  pub sent-once : Once ((w (far s)).out.books.sent e)
  -- each sending of a saved record, the first and every one by a resend, was sent with the type and content that the host gave when it saved it
  pub saved-sent : (k : Kept) → Mem k (w (far s)).ledger.saved → (n : ℕ) → Mem n k.sendings
      → Mem (handed_as k n) ((w (far s)).out.books.sent k.epoch)
  -- each datagram taken is some whole records, and all of them are the first that the account has as sent, in order: plaintext ones as laid,
  -- sealed ones as sealed and masked
  pub taken-lines : Taken (w (far s)).out.taken (w (far s)).out.books.lines
  -- a sealing is asked exactly while a record waits, for the oldest; the question's nonce is that keying's IV with the number on it
  pub seal-asked : AskedFor (w (far s)).out.lent (oldest (items (w (far s)).ledger.queue))
  pub seal_nonce : (l : Lent) → (w (far s)).out.lent ≡ some l → l.nonce ≡ nonce_for ((w (far s)).out.ivs l.epoch) l.num

-- "MTU 576 to 1,500 and queue 1 to 16 datagrams", a least protected length of "at most 17", and a queue not under its limit times the MTU
pub record Startable (s : Setting) : Type 0 where
  pub low : 576 ≤ s.mtu
  pub high : s.mtu ≤ 1500
  pub some : 1 ≤ s.limit
  pub most : s.limit ≤ 16
  pub min : s.min ≤ 17
  pub room : s.limit * s.mtu ≤ length s.queue

-- what is claimed: for all settings in range, all first contents of the lent buffers, all masks, every list of calls, both ends, every epoch
abbrev pub EveryList : Type 0
EveryList =
    (settings : Side → Setting) → ((s : Side) → Startable (settings s)) → (masks : Side → Masks) (vs : List Event) → Honest masks (fresh-pair settings) vs
    → (s : Side) (e : ℕ) → Holds (run (fresh-pair settings) vs) s e
