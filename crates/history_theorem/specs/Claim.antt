-- Demand 3 at a receiving end: what is asked of the host, and what then holds, against the records that the far end sealed.
-- Quotations are the demand's, or from 01's paragraph e.
use Rattle.opening_reply.specs.Opening.{Opening}
use Rattle.std.specs.Prelude.{ℕ, ◌+◌, ◌-◌, ◌*◌, ◌/◌, ◌%◌, ◌^◌, ◌≤◌, ◌<◌, max, eqb, length, take, drop, get_or, Bool, true, false, ◌↔◌, ◌⊎◌, ◌≡◌, Some, None}
use Rattle.std.specs.Int.Bits.{bit_xor}
use mathlib.Core.List.{List, [], ◌∷◌, ◌++◌, Memᴰ as Mem}
use Rattle.std.proofs.Math.Option.{Option, none, some}
use Rattle.base.specs.Bytes.{be_at}
use Rattle.base.specs.Choose.{choose}
use Rattle.base.specs.Parts.{part}
use Rattle.datagram.specs.declared.Reading.TheVariants as says
use Rattle.datagram.specs.declared.Reading.{Reading}
use Rattle.datagram.specs.declared.Reason.TheVariants as reason
use Rattle.sequence.specs.Laws.{Nearest}
use Rattle.window.specs.Used.{above}
use Rattle.window.specs.declared.Verdict.TheVariants.{Seen}
use Rattle.history_theorem.specs.Account.{plain_head, tag_size, Shown, nothing, a_mask, an_opening, head_size, said_size, record_size}
use Rattle.history_theorem.specs.Receiver.{Sealed, Handed, Trial, Tried, Deed, a_read, a_mask_reply, an_open_reply, Spoken, Lost, Receiver, rest_of, turnedDown, settled, fate_of, Use, unused, uses, accepts, verdict_of, Move, Stray, Told, Inbound, Call, key·, remove·, encrypt·, release·, begin·, read·, mask·, write·, open·, read_over·, mask_over·, open_over·, finish·}

-- ---- what is asked of the host

-- the sender's mask: two bytes, "fixed by direction, epoch and the 16 bytes"; here of the direction that this end receives
abbrev pub Masks : Type 0
Masks = ℕ → List ℕ → List ℕ

-- "the host answered with the sender's mask" of the epoch and the 16 bytes shown; of a one-byte number only the first byte is used, and only
-- that need be right
abbrev pub FairMask : Masks → Shown → List ℕ → ℕ → List ℕ → Type 0
FairMask masks nothing d flags m = Unit {0}
FairMask masks (a_mask e p) d flags m =
    (get_or m 0 0 ≡ get_or (masks e (part p 16 d)) 0 0) × (flags / 8 % 2 ≡ 1 → get_or m 1 0 ≡ get_or (masks e (part p 16 d)) 1 0)
FairMask masks (an_opening e n at head body) d flags m = Unit {0}

-- "opening exactly what the far end sealed in that epoch under that number and header"; "a yes brings what was sealed"
pub record Opens (r : Sealed) (n : ℕ) (head body p : List ℕ) : Type 0 where
  pub number : r.num ≡ n
  pub header : r.header ≡ head
  pub cipher : r.cipher ≡ body
  pub plaintext : p ≡ r.content ++ (r.type ∷ [])

-- what the host says of the plaintext: none, or what now lies at the start of the protected part
abbrev pub plaintext_by : Opening → ℕ → List ℕ → Option (List ℕ)
plaintext_by None at d = none
plaintext_by (Some l) at d = some (part at l d)

-- a yes of another length is refused, and not bound
abbrev pub Answers : Opening → ℕ → Type 0
Answers None n = Unit {0}
Answers (Some l) n = l + tag_size ≡ n

-- epoch, number, header and protected part are those that the question first showed
abbrev pub FairOpen : (ℕ → List Sealed) → Shown → List ℕ → Opening → Type 0
FairOpen sealed nothing d o = Unit {0}
FairOpen sealed (a_mask e p) d o = Unit {0}
FairOpen sealed (an_opening e n at head body) d o =
    Answers o (length body)
    → (p : List ℕ) → (plaintext_by o (at + length head) d ≡ some p) ↔ ((r : Sealed) × Mem r (sealed e) × Opens r n head body p)

-- "Each call gets .. a begun datagram as the last call at its end left them": other bytes are a datagram of another length
abbrev pub OtherLength : Receiver → List ℕ → Type 0
OtherLength y d = length d ≡ length y.datagram → ⊥

-- nothing is asked of any other call, and nothing of what arrives
abbrev pub FairCall : Masks → (ℕ → List Sealed) → Inbound → Call → Type 0
FairCall masks sealed i (key· k iv) = Unit {0}
FairCall masks sealed i (remove· k) = Unit {0}
FairCall masks sealed i encrypt· = Unit {0}
FairCall masks sealed i release· = Unit {0}
FairCall masks sealed i (begin· d) = Unit {0}
FairCall masks sealed i read· = Unit {0}
FairCall masks sealed i (mask· m) = FairMask masks i.into.account.waits i.into.datagram (get_or (rest_of i.into) 0 0) m
FairCall masks sealed i (write· p) = Unit {0}
FairCall masks sealed i (open· p) = FairOpen sealed i.into.account.waits i.into.datagram p
FairCall masks sealed i (read_over· d) = OtherLength i.into d
FairCall masks sealed i (mask_over· m d) = OtherLength i.into d
FairCall masks sealed i (open_over· p d) = OtherLength i.into d
FairCall masks sealed i finish· = Unit {0}

-- ---- what then holds

-- no two with one number
abbrev pub Once : List Handed → Type 0
Once [] = Unit {0}
Once (h ∷ hs) = ((k : Handed) → Mem k hs → k.num ≡ h.num → ⊥) × Once hs

abbrev pub as_handed : Sealed → Handed
as_handed r = record { num = r.num; type = r.type; content = r.content }

-- how many numbers are not too old, the highest used with them: "at most 63 below the highest used"
abbrev pub window_marks : ℕ
window_marks = 64

-- the first number out of reach: "under 32,768 above that highest plus one"; "With no number used, demand 3's reach becomes every number under
-- 65,536" (02, 1), and so it is until that highest plus one is 32,768
abbrev pub reach_of : List ℕ → ℕ
reach_of used = max 65536 (above used + 32768)

-- the record r may not be left out in epoch e, by the moment at which the cut came to it
pub record Due (t : Trial) (e : ℕ) (r : Sealed) : Type 0 where
  -- "the one it was sealed in"
  pub sealed-then : Mem r (t.sealed e)
  -- "undamaged": "as it lay sealed and masked in the far end's queue", in the datagram as it arrived
  pub undamaged : take (length r.wire) t.rest ≡ r.wire
  -- "peer encryption on"
  pub encryption-on : t.encrypted ≡ true
  -- "among 16 readings": "at most 15 readings before"
  pub among_16 : t.count ≤ 15
  -- "whose bits resolved to that epoch"
  pub resolved : t.resolved ≡ some e
  -- "whose number was then unused"
  pub not_used : Mem r.num (t.used e) → ⊥
  -- "at most 63 below the highest used"
  pub not_old : above (t.used e) ≤ r.num + window_marks
  -- "under 32,768 above that highest plus one", or under 65,536
  pub in_reach : r.num < reach_of (t.used e)

-- what the host is told of a record that came late or twice (02, 5): the record r, sealed in epoch e, lies there undamaged, peer encryption on
-- and its bits resolved to e, and its number is brought back: in reach, and near enough below
pub record Known (t : Trial) (e : ℕ) (r : Sealed) : Type 0 where
  pub sealed-then : Mem r (t.sealed e)
  pub undamaged : take (length r.wire) t.rest ≡ r.wire
  pub encryption-on : t.encrypted ≡ true
  pub resolved : t.resolved ≡ some e
  pub in_reach : r.num < reach_of (t.used e)
  -- two number bytes bring back what is under 32,768 below the highest used plus one
  pub near_enough : above (t.used e) < r.num + 32768

-- "already seen": the number was used, and is fewer than the width below the highest used
abbrev pub IsSeen : List ℕ → ℕ → Type 0
IsSeen used n = Mem n used × (above used ≤ n + window_marks)

-- "A number 64 or more below the highest is too old even if it was used"
abbrev pub IsOld : List ℕ → ℕ → Type 0
IsOld used n = n + window_marks < above used

-- 9 is said of the number n exactly if it was seen, 26 exactly if it is too old
abbrev pub Tells : Reading → List ℕ → ℕ → Type 0
Tells r used n = ((r ≡ says.Dropped reason.Seen) ↔ IsSeen used n) × ((r ≡ says.Dropped reason.TooOld) ↔ IsOld used n)

-- neither is said
abbrev pub TellsNeither : Reading → Type 0
TellsNeither r = (r ≡ says.Dropped reason.Seen → ⊥) × (r ≡ says.Dropped reason.TooOld → ⊥)

-- a reading asks for the opening of the number n in epoch e
abbrev pub AsksFor : Reading → ℕ → ℕ → Type 0
AsksFor r e n = (s : ℕ) × (h : ℕ) × (l : ℕ) × (r ≡ says.Opening e n s h l)

-- all that is said of the number n in epoch e: 8 exactly if it is above 2^48 - 1, 9 and 26 as above, and its opening is asked where none of the
-- three is said
pub record Rules (r : Reading) (e : ℕ) (used : List ℕ) (n : ℕ) : Type 0 where
  pub too_high : (r ≡ says.Dropped reason.TooHigh) ↔ (0xFFFF_FFFF_FFFF < n)
  pub late : Tells r used n
  pub fresh : n ≤ 0xFFFF_FFFF_FFFF → (IsSeen used n → ⊥) → (IsOld used n → ⊥) → AsksFor r e n

-- what a mask brings out of the number bytes of a record as it arrived, and how many numbers such bits tell apart: two bytes, or one
abbrev pub bits_under : List ℕ → List ℕ → ℕ
bits_under m rest =
    choose (eqb (get_or rest 0 0 / 8 % 2) 1) (bit_xor (get_or rest 1 0) (get_or m 0 0) * 256 + bit_xor (get_or rest 2 0) (get_or m 1 0))
    (bit_xor (get_or rest 1 0) (get_or m 0 0))

abbrev pub block_in : List ℕ → ℕ
block_in rest = choose (eqb (get_or rest 0 0 / 8 % 2) 1) 65536 256

-- and this of every record that arrives, sealed by anyone, altered or invented: 9 and 26 are said in reply to a mask alone. The mask is asked in
-- the epoch that the record's bits resolved to, and the number is the one nearest to the highest used plus one (02, 1) that ends in the bits
-- which the mask brings out
abbrev pub Judged : Deed → Shown → Option ℕ → List ℕ → (ℕ → List ℕ) → Reading → Type 0
Judged a_read w to rest used r = TellsNeither r
Judged (a_mask_reply m) nothing to rest used r = TellsNeither r
Judged (a_mask_reply m) (a_mask e p) to rest used r =
    (to ≡ some e) × ((n : ℕ) → Nearest (block_in rest) (bits_under m rest) (above (used e)) n → Rules r e (used e) n)
Judged (a_mask_reply m) (an_opening e n at head body) to rest used r = TellsNeither r
Judged (an_open_reply o) w to rest used r = TellsNeither r

-- a reading says opened in epoch e and shows the record h
abbrev pub SaysOpened : Reading → List ℕ → ℕ → Handed → Type 0
SaysOpened (says.Opened k n t s l) shown e h = (k ≡ e) × (record { num = n; type = t; content = shown } ≡ h)
SaysOpened says.Setting shown e h = ⊥
SaysOpened says.Reply shown e h = ⊥
SaysOpened says.End shown e h = ⊥
SaysOpened says.Incomplete shown e h = ⊥
SaysOpened says.TooMany shown e h = ⊥
SaysOpened (says.Dropped r) shown e h = ⊥
SaysOpened (says.Plaintext t n s l) shown e h = ⊥
SaysOpened (says.Unopened b n s l) shown e h = ⊥
SaysOpened (says.Mask k s) shown e h = ⊥
SaysOpened (says.Opening k n s m l) shown e h = ⊥

-- plaintext is said only of a plaintext record in order, unopened only with peer encryption off: nothing else uses up one of the 16 readings
abbrev pub Real : Reading → Bool → Bool → Type 0
Real (says.Plaintext t n s l) good on = good ≡ true
Real (says.Unopened b n s l) good on = on ≡ false
Real says.Setting good on = Unit {0}
Real says.Reply good on = Unit {0}
Real says.End good on = Unit {0}
Real says.Incomplete good on = Unit {0}
Real says.TooMany good on = Unit {0}
Real (says.Dropped r) good on = Unit {0}
Real (says.Opened e n t s l) good on = Unit {0}
Real (says.Mask e s) good on = Unit {0}
Real (says.Opening e n s h l) good on = Unit {0}

-- and each of the two is said where it is due, by the moment at which the cut came to the record, "at most 15 readings before". A plaintext record
-- in order, the bytes of its length all there
pub record PlainDue (t : Trial) : Type 0 where
  pub in_order : t.plain ≡ true
  pub whole : plain_head + be_at 2 t.rest 11 ≤ length t.rest
  pub among_16 : t.count ≤ 15

-- a sealed record without 0x10, header and length within its bytes: "While peer encryption is off, epoch bits 2 and 3 give the reading"
pub record UnopenedDue (t : Trial) : Type 0 where
  pub sealed_form : get_or t.rest 0 0 / 32 ≡ 1
  pub goes_on : get_or t.rest 0 0 / 16 % 2 ≡ 0
  pub header : head_size (get_or t.rest 0 0) ≤ length t.rest
  pub whole : said_size t.rest (get_or t.rest 0 0) ≤ length t.rest
  pub bits : 2 ≤ get_or t.rest 0 0 % 4
  pub encryption_off : t.encrypted ≡ false
  pub among_16 : t.count ≤ 15

-- the datagram is over: nothing is left, or 0x10 ends it
abbrev pub Over : List ℕ → Type 0
Over rest = (length rest ≡ 0) ⊎ ((get_or rest 0 0 / 32 ≡ 1) × (get_or rest 0 0 / 16 % 2 ≡ 1))

-- a header or length beyond its bytes (2), of a sealed record and of any other
abbrev pub Short : List ℕ → Type 0
Short rest =
    ((get_or rest 0 0 / 32 ≡ 1) × ((length rest < head_size (get_or rest 0 0)) ⊎ (length rest < said_size rest (get_or rest 0 0))))
    ⊎ ((get_or rest 0 0 / 32 ≡ 1 → ⊥) × (length rest < plain_head + be_at 2 rest 11))

-- neither: a record is there, its bytes all with it
pub record There (rest : List ℕ) : Type 0 where
  pub goes_on : Over rest → ⊥
  pub all_here : Short rest → ⊥

-- what is left where a reading is said, n readings made before: the end, 2 and everything else exclude each other; 3 is said only after 16
-- readings, plaintext, unopened and opened only before
abbrev pub Ends : Reading → List ℕ → ℕ → Type 0
Ends says.End rest n = Over rest
Ends says.Incomplete rest n = (Over rest → ⊥) × Short rest
Ends says.TooMany rest n = There rest × (16 ≤ n)
Ends (says.Plaintext t m s l) rest n = There rest × (n ≤ 15)
Ends (says.Unopened b m s l) rest n = There rest × (n ≤ 15)
Ends (says.Opened e m t s l) rest n = There rest × (n ≤ 15)
Ends (says.Dropped r) rest n = There rest
Ends (says.Mask e s) rest n = There rest
Ends (says.Opening e m s h l) rest n = There rest
Ends says.Setting rest n = Unit {0}
Ends says.Reply rest n = Unit {0}

abbrev pub SaysPlaintext : Reading → Type 0
SaysPlaintext (says.Plaintext t n s l) = Unit {0}
SaysPlaintext (says.Unopened b n s l) = ⊥
SaysPlaintext says.Setting = ⊥
SaysPlaintext says.Reply = ⊥
SaysPlaintext says.End = ⊥
SaysPlaintext says.Incomplete = ⊥
SaysPlaintext says.TooMany = ⊥
SaysPlaintext (says.Dropped r) = ⊥
SaysPlaintext (says.Opened e n t s l) = ⊥
SaysPlaintext (says.Mask e s) = ⊥
SaysPlaintext (says.Opening e n s h l) = ⊥

abbrev pub SaysUnopened : Reading → Type 0
SaysUnopened (says.Plaintext t n s l) = ⊥
SaysUnopened (says.Unopened b n s l) = Unit {0}
SaysUnopened says.Setting = ⊥
SaysUnopened says.Reply = ⊥
SaysUnopened says.End = ⊥
SaysUnopened says.Incomplete = ⊥
SaysUnopened says.TooMany = ⊥
SaysUnopened (says.Dropped r) = ⊥
SaysUnopened (says.Opened e n t s l) = ⊥
SaysUnopened (says.Mask e s) = ⊥
SaysUnopened (says.Opening e n s h l) = ⊥

-- the number bytes as they lie, two or one
abbrev pub number_bytes : List ℕ → ℕ → ℕ
number_bytes rest flags = choose (eqb (flags / 8 % 2) 1) (be_at 2 rest 1) (get_or rest 1 0)

-- of a record as it arrived, plaintext shows type, number and content, unopened the epoch's bits, the number bytes and the protected part
abbrev pub Shows : Reading → List ℕ → List ℕ → Type 0
Shows (says.Plaintext t n s l) rest shown =
    (t ≡ get_or rest 0 0) × (n ≡ be_at 6 rest 5) × (l ≡ be_at 2 rest 11) × (shown ≡ part plain_head (be_at 2 rest 11) rest)
Shows (says.Unopened b n s l) rest shown =
    (b ≡ get_or rest 0 0 % 4) × (n ≡ number_bytes rest (get_or rest 0 0)) × (l ≡ record_size rest - head_size (get_or rest 0 0))
    × (shown ≡ part (head_size (get_or rest 0 0)) (record_size rest - head_size (get_or rest 0 0)) rest)
Shows says.Setting rest shown = Unit {0}
Shows says.Reply rest shown = Unit {0}
Shows says.End rest shown = Unit {0}
Shows says.Incomplete rest shown = Unit {0}
Shows says.TooMany rest shown = Unit {0}
Shows (says.Dropped r) rest shown = Unit {0}
Shows (says.Opened e n t s l) rest shown = Unit {0}
Shows (says.Mask e s) rest shown = Unit {0}
Shows (says.Opening e n s h l) rest shown = Unit {0}

abbrev pub Refused : Reading → Type 0
Refused r = fate_of r ≡ turnedDown

-- a read with no question waiting is not refused, and with one waiting shows that one again; a mask reply to a mask question is not refused
-- and asks no mask again; no, or a yes of the right length, to an opening question settles the record; every other reply is told 15
abbrev pub Proper : Deed → Shown → Reading → Type 0
Proper a_read nothing r = Refused r → ⊥
Proper a_read (a_mask e p) r = r ≡ says.Mask e p
Proper a_read (an_opening e n at head body) r = r ≡ says.Opening e n at (length head) (length body)
Proper (a_mask_reply m) nothing r = r ≡ says.Reply
Proper (a_mask_reply m) (a_mask e p) r = (Refused r → ⊥) × ((k s : ℕ) → r ≡ says.Mask k s → ⊥)
Proper (a_mask_reply m) (an_opening e n at head body) r = r ≡ says.Reply
Proper (an_open_reply o) nothing r = r ≡ says.Reply
Proper (an_open_reply o) (a_mask e p) r = r ≡ says.Reply
Proper (an_open_reply None) (an_opening e n at head body) r = fate_of r ≡ settled
Proper (an_open_reply (Some l)) (an_opening e n at head body) r =
    (l + tag_size ≡ length body → fate_of r ≡ settled) × ((l + tag_size ≡ length body → ⊥) → r ≡ says.Reply)

-- byte i of a nonce behind the fourth: the IV's XOR the number's, of which k bytes follow
abbrev pub nonce_byte : List ℕ → ℕ → ℕ → ℕ → ℕ
nonce_byte iv n i k = bit_xor (get_or iv i 0) (n / 256 ^ k % 256)

-- "the IV with the 8-byte number XORed onto its last eight"
abbrev pub nonce_for : List ℕ → ℕ → List ℕ
nonce_for iv n =
    take 4 iv
    ++ (nonce_byte iv n 4 7 ∷ nonce_byte iv n 5 6 ∷ nonce_byte iv n 6 5 ∷ nonce_byte iv n 7 4 ∷ nonce_byte iv n 8 3 ∷ nonce_byte iv n 9 2 ∷ nonce_byte iv n 10 1 ∷ nonce_byte iv n 11 0 ∷ [])

-- an opening question names the nonce of its number under the IV of the epoch's keying
abbrev pub RightNonce : Reading → (ℕ → List ℕ) → List ℕ → Type 0
RightNonce (says.Opening e n s h l) ivs nonce = nonce ≡ nonce_for (ivs e) n
RightNonce says.Setting ivs nonce = Unit {0}
RightNonce says.Reply ivs nonce = Unit {0}
RightNonce says.End ivs nonce = Unit {0}
RightNonce says.Incomplete ivs nonce = Unit {0}
RightNonce says.TooMany ivs nonce = Unit {0}
RightNonce (says.Dropped r) ivs nonce = Unit {0}
RightNonce (says.Plaintext t n s l) ivs nonce = Unit {0}
RightNonce (says.Unopened b n s l) ivs nonce = Unit {0}
RightNonce (says.Mask e s) ivs nonce = Unit {0}
RightNonce (says.Opened e n t s l) ivs nonce = Unit {0}

-- the bytes that a reading call may change: a mask reply to a mask question those of the number, one, or two where the record's first byte says so
abbrev pub NumberByte : Deed → Shown → ℕ → ℕ → ℕ → Type 0
NumberByte (a_mask_reply m) (a_mask e p) place flags j = (place < j) × (j ≤ place + 1 + flags / 8 % 2)
NumberByte (a_mask_reply m) nothing place flags j = ⊥
NumberByte (a_mask_reply m) (an_opening e n at head body) place flags j = ⊥
NumberByte a_read w place flags j = ⊥
NumberByte (an_open_reply o) w place flags j = ⊥

-- every other byte stays
pub record Spares (c : Spoken) : Type 0 where
  pub long : length c.left ≡ length c.lent
  pub bytes : (j : ℕ) → (NumberByte c.deed c.waited c.place (get_or c.rest 0 0) j → ⊥) → get_or c.left j 0 ≡ get_or c.lent j 0

-- "every window verdict as it was"
abbrev pub SameVerdicts : Move → Type 0
SameVerdicts m = (e n : ℕ) → verdict_of m.behind e n ≡ verdict_of m.before e n

-- a call that uses a number moves the verdicts of its epoch alone, and that number is seen
abbrev pub Moved : Move → Use → Type 0
Moved m unused = SameVerdicts m
Moved m (uses e n) =
    ((k : ℕ) → (k ≡ e → ⊥) → (j : ℕ) → verdict_of m.behind k j ≡ verdict_of m.before k j) × (verdict_of m.behind e n ≡ some Seen)

-- 15, and nothing changes
pub record Turned (t : Stray) : Type 0 where
  pub answer : t.reading ≡ says.Reply
  pub state : t.behind ≡ t.before
  pub bytes : t.left ≡ t.lent

-- what holds at an end in the receive epoch e, the far end having sealed these records
pub record Received (sealed : ℕ → List Sealed) (i : Inbound) (e : ℕ) : Type 0 where
  -- "no record was handed over twice"
  pub once : Once (i.into.handed e)
  -- "each had the number, type and content it was sealed with"
  pub as_sealed : (h : Handed) → Mem h (i.into.handed e) → (r : Sealed) × Mem r (sealed e) × (h ≡ as_handed r)
  -- "none was left out that .. reached .., all its questions answered": it was handed over, and the very reading that was due said so
  pub none-left-out : (d : Tried) → Mem d i.into.tried → (r : Sealed) → Due d.trial e r → Mem (as_handed r) (i.into.handed e)
  pub due-opened : (d : Tried) → Mem d i.into.tried → (r : Sealed) → Due d.trial e r → SaysOpened d.reading d.shown e (as_handed r)
  -- "whether a record was too late or already seen" (02, 5): of a record whose number is brought back, and of whatever else arrives by the number
  -- that its bits stand for
  pub late-told : (d : Tried) → Mem d i.into.tried → (r : Sealed) → Known d.trial e r → Tells d.reading (d.trial.used e) r.num
  pub judged : (c : Spoken) → Mem c i.into.spoken → Judged c.deed c.waited c.resolved c.rest c.used c.reading
  -- "A datagram with no record accepted by the cipher moved no .. window": "the calls that read the datagram leave .. every window verdict"
  pub moved_nothing : (k : ℕ) → ((m : Move) → Mem m i.moves → m.datagram ≡ k → accepts m.spends ≡ false)
      → (m : Move) → Mem m i.moves → m.datagram ≡ k → SameVerdicts m
  -- beside the demand, so that the above is not hollow:
  -- each such call alone moves no verdict unless it accepts, and then only its own epoch's
  pub each_call : (m : Move) → Mem m i.moves → Moved m m.spends
  -- every reading that counts is one
  pub real-readings : (d : Tried) → Mem d i.into.tried → Real d.reading d.trial.plain d.trial.encrypted
  -- a read tells the end where the datagram is over, and 2 where a record is cut short, and nowhere else; 3 only after 16 readings
  pub ends-right : (d : Tried) → Mem d i.into.tried → Ends d.reading d.trial.rest d.trial.count
  -- a record of which plaintext or unopened is due is said to be that, by the very read that came to it: no question is asked of it
  pub plain-read : (d : Tried) → Mem d i.into.tried → PlainDue d.trial → SaysPlaintext d.reading
  pub unopened-read : (d : Tried) → Mem d i.into.tried → UnopenedDue d.trial → SaysUnopened d.reading
  pub read-at-once : (t : Trial) → i.into.trial ≡ some t → (PlainDue t → ⊥) × (UnopenedDue t → ⊥)
  -- and a plaintext or unopened reading shows what arrived
  pub shows-arrived : (d : Tried) → Mem d i.into.tried → Shows d.reading d.trial.rest d.shown
  -- a proper call is never refused, so "all its questions answered" is up to the host; a question is asked once and then answered
  pub answered : (c : Spoken) → Mem c i.into.spoken → Proper c.deed c.waited c.reading
  pub nonces : (c : Spoken) → Mem c i.into.spoken → RightNonce c.reading c.ivs c.nonce
  -- a reading call changes no byte of the datagram but the number of the record that it unmasks; so what lies behind the cut lies as it arrived
  pub spared : (c : Spoken) → Mem c i.into.spoken → Spares c
  pub as_arrived : i.into.account.waits ≡ nothing → drop i.into.account.place i.into.datagram ≡ rest_of i.into
  -- a record loses its question only by the removal of the epoch that it resolved to (or by a new datagram). By itself this is true by
  -- construction, for only `loses` writes that log; the work is done by `answered`: a question ends by its reply, a new datagram or that removal,
  -- else the read that comes next would not show it again
  pub lost-removed : (l : Lost) → Mem l i.into.lost → l.trial.resolved ≡ some l.epoch
  -- a call over bytes of another length is refused and changes nothing
  pub others-turned : (t : Stray) → Mem t i.strays → Turned t
  -- keying, removing, peer encryption, release and beginning are told the number that they are owed by the account: 13, 23, 6, 1 or none, and
  -- never 12
  pub told-right : (a : Told) → Mem a i.told → a.answer ≡ a.owed
