-- Readings dealt with at one end: what happens at each call, what the host sees and enters, and what holds of it.
use Rattle.std.specs.Prelude.{Bool, true, false, ◌≡◌, ℕ, suc, ◌+◌, ◌≤◌, ◌<◌, eqb, length}
use mathlib.Core.List.{List, [], ◌∷◌, Memᴰ as Mem}
use Rattle.std.proofs.Math.Option.{Option, none, some}
use Rattle.base.specs.Choose.{choose}
use Rattle.datagram.specs.declared.Reading.TheVariants as says
use Rattle.datagram.specs.declared.Reading.{Reading}
use Rattle.opening_reply.specs.Opening.{shown_by}
use Rattle.receiving.specs.Receiving.{answer_number, begin_of}
use Rattle.classify.specs.Classify as program
use Rattle.classify.specs.declared.Class.{Class}
use Rattle.classify.specs.declared.Class.TheVariants as class
use Rattle.history_theorem.specs.Receiver.{Tried, Receiver, Inbound, Call, key·, remove·, encrypt·, release·, begin·, read·, mask·, write·, open·, read_over·, mask_over·, open_over·, finish·, Out, read_out, open_out, begin_owed}
use Rattle.classify_theorem.specs.Account.{Pending, Place, Account, new_account, Verdict, turned, noneWaits, beyond, unprotected, ignored, marks, closes, tells, handshake, application_data, other, unopened, reading_owed, Reply, bare, owed, hears, begins, deals}

-- ---- what the host enters

-- what a call told, and what the account owes it
pub record Told : Type 0 where
  pub reply : Reply
  pub owed : Reply

-- a reading dealt with, the close and peer encryption by then, and what was told
pub record Dealt : Type 0 where
  pub pending : Pending
  pub close : Option Place
  pub encryption : Bool
  pub reply : Reply

-- one end's dealings: the words, the account, and lists with the newest first: what was told, what was dealt with, and the readings left behind by a
-- host that read on or began anew without dealing with them
pub record Dealings : Type 0 where
  pub words : List ℕ
  pub account : Account
  pub told : List Told
  pub dealt : List Dealt
  pub missed : List Pending

abbrev pub new_dealings : Dealings
new_dealings = record { words = program.fresh; account = new_account; told = []; dealt = []; missed = [] }

-- ---- the calls that read

abbrev pub leaves_behind : Option Pending → List Pending → List Pending
leaves_behind none ps = ps
leaves_behind (some p) ps = p ∷ ps

-- a refused call leaves none behind
abbrev pub missed_by : Reading → Option Pending → List Pending → List Pending
missed_by says.Setting o ps = ps
missed_by says.Reply o ps = ps
missed_by says.End o ps = leaves_behind o ps
missed_by says.Incomplete o ps = leaves_behind o ps
missed_by says.TooMany o ps = leaves_behind o ps
missed_by (says.Dropped r) o ps = leaves_behind o ps
missed_by (says.Plaintext t n s l) o ps = leaves_behind o ps
missed_by (says.Unopened b n s l) o ps = leaves_behind o ps
missed_by (says.Opened e n t s l) o ps = leaves_behind o ps
missed_by (says.Mask e s) o ps = leaves_behind o ps
missed_by (says.Opening e n s h l) o ps = leaves_behind o ps

-- a read or an opening reply: what it told, and the bytes which that shows
abbrev pub notes : Dealings → Out → Dealings
notes p o = record {
  words = program.noted o.reading p.words;
  account = hears p.account o.reading (shown_by o.reading o.datagram);
  told = p.told;
  dealt = p.dealt;
  missed = missed_by o.reading p.account.pending p.missed;
}

-- a datagram begun: done, as the program has it, and as the account has it
abbrev pub starts : Dealings → Bool → Bool → Dealings
starts p done owes = record {
  words = choose done (program.cleared p.words) p.words;
  account = choose owes (begins p.account) p.account;
  told = p.told;
  dealt = p.dealt;
  missed = choose owes (leaves_behind p.account.pending p.missed) p.missed;
}

-- over bytes of another length: nothing happens, by the account
abbrev pub strays : Dealings → Out → Dealings
strays p o = record { words = program.noted o.reading p.words; account = p.account; told = p.told; dealt = p.dealt; missed = p.missed }

-- what a receiving call makes of the dealings; a reply with a mask makes no reading, and is not given these words
abbrev pub listens : Inbound → Call → Dealings → Dealings
listens i (key· k iv) p = p
listens i (remove· k) p = p
listens i encrypt· p = p
listens i release· p = p
listens i (begin· d) p =
    starts p (eqb (answer_number (begin_of i.into.state (length d)).answer) 0) (eqb (begin_owed d) 0)
listens i read· p = notes p (read_out i.into.state i.into.datagram)
listens i (mask· m) p = p
listens i (write· b) p = p
listens i (open· o) p = notes p (open_out i.into.state o i.into.datagram)
listens i (read_over· d) p = strays p (read_out i.into.state d)
listens i (mask_over· m d) p = p
listens i (open_over· o d) p = strays p (open_out i.into.state o d)
listens i finish· p = p

-- ---- dealing with a reading

abbrev pub verdict_of : Class → Verdict
verdict_of class.Setting = turned 12
verdict_of class.Reply = turned 15
verdict_of class.Nothing = noneWaits
verdict_of class.Beyond = beyond
verdict_of class.Unprotected = unprotected
verdict_of class.Ignored = ignored
verdict_of class.Ack = marks
verdict_of class.Close = closes
verdict_of (class.Alert x) = tells x
verdict_of class.Handshake = handshake
verdict_of class.ApplicationData = application_data
verdict_of class.Other = other
verdict_of class.Unopened = unopened

-- the bytes of the datagram that the answer shows
abbrev pub reply_of : Class → List ℕ → Reply
reply_of class.Setting c = bare (turned 12)
reply_of class.Reply c = bare (turned 15)
reply_of class.Nothing c = bare noneWaits
reply_of class.Beyond c = record { verdict = beyond; content = c }
reply_of class.Unprotected c = record { verdict = unprotected; content = c }
reply_of class.Ignored c = record { verdict = ignored; content = c }
reply_of class.Ack c = record { verdict = marks; content = c }
reply_of class.Close c = record { verdict = closes; content = c }
reply_of (class.Alert x) c = record { verdict = tells x; content = c }
reply_of class.Handshake c = record { verdict = handshake; content = c }
reply_of class.ApplicationData c = record { verdict = application_data; content = c }
reply_of class.Other c = record { verdict = other; content = c }
reply_of class.Unopened c = record { verdict = unopened; content = c }

-- by the definition that the contract of the call cites
abbrev pub class_at : Dealings → Receiver → Class
class_at p y = program.classified p.words y.state y.datagram

abbrev pub enters_as : Account → Bool → Reply → Option Pending → List Dealt → List Dealt
enters_as a encryption r none ds = ds
enters_as a encryption r (some x) ds = record { pending = x; close = a.close; encryption = encryption; reply = r } ∷ ds

abbrev pub classifies : Dealings → Receiver → Dealings
classifies p y =
    let r = reply_of (class_at p y) (program.content_of p.words y.datagram) in
    record {
      words = program.words_after (class_at p y) p.words;
      account = deals p.account y.account.encryption;
      told = record { reply = r; owed = owed p.account y.account.encryption } ∷ p.told;
      dealt = enters_as p.account y.account.encryption r p.account.pending p.dealt;
      missed = p.missed;
    }

-- over bytes d of another length
abbrev pub classifies_over : Dealings → Receiver → List ℕ → Dealings
classifies_over p y d =
    let k = program.classified p.words y.state d in
    record {
      words = program.words_after k p.words;
      account = p.account;
      told = record { reply = reply_of k (program.content_of p.words d); owed = bare (turned 15) } ∷ p.told;
      dealt = p.dealt;
      missed = p.missed;
    }

-- ---- what is claimed

-- dealt with one after the other, each reading once: the newest first, each of a higher serial number than those before it
abbrev pub Below : ℕ → List Dealt → Type 0
Below n [] = Unit {0}
Below n (x ∷ xs) = (x.pending.serial < n) × Below x.pending.serial xs

-- what a call told, counted: a reading dealt with, or none
abbrev pub turn_by : Verdict → ℕ
turn_by (turned n) = 0
turn_by noneWaits = 0
turn_by beyond = 1
turn_by unprotected = 1
turn_by ignored = 1
turn_by marks = 1
turn_by closes = 1
turn_by (tells x) = 1
turn_by handshake = 1
turn_by application_data = 1
turn_by other = 1
turn_by unopened = 1

abbrev pub turns_told : List Told → ℕ
turns_told [] = 0
turns_told (t ∷ ts) = turn_by t.reply.verdict + turns_told ts

abbrev pub one_waits : Option Pending → ℕ
one_waits none = 0
one_waits (some p) = 1

-- a reading: plaintext, unopened or opened
abbrev pub is_reading : Reading → Bool
is_reading (says.Plaintext t n s l) = true
is_reading (says.Unopened b n s l) = true
is_reading (says.Opened e n t s l) = true
is_reading says.Setting = false
is_reading says.Reply = false
is_reading says.End = false
is_reading says.Incomplete = false
is_reading says.TooMany = false
is_reading (says.Dropped r) = false
is_reading (says.Mask e s) = false
is_reading (says.Opening e n s h l) = false

-- what waits or was dealt with is what was said of a record in the end
pub record Is (d : Tried) (p : Pending) : Type 0 where
  pub reading : d.reading ≡ p.reading
  pub shown : d.shown ≡ p.shown

-- a record's reading was dealt with; or the host left it behind; or it waits
pub data Kept (p : Dealings) (d : Tried) : Type 0 where
  was-dealt : (x : Dealt) → Mem x p.dealt → Is d x.pending → Kept p d
  was-missed : (x : Pending) → Mem x p.missed → Is d x → Kept p d
  still-waits : (x : Pending) → p.account.pending ≡ some x → Is d x → Kept p d

pub record Classified (p : Dealings) (y : Receiver) : Type 0 where
  -- each call was answered as the account says: 12 never, 15 over another length, and everything else exactly if
  pub answers : (t : Told) → Mem t p.told → t.reply ≡ t.owed
  -- a reading dealt with was told what it is owed, by the close and the encryption at that time, with its own bytes
  pub right : (x : Dealt) → Mem x p.dealt
      → x.reply ≡ record { verdict = reading_owed x.close x.encryption x.pending.reading x.pending.shown; content = x.pending.shown }
  -- "Each reading is dealt with once": no two have one serial number, and each was told before
  pub once : Below (suc p.account.made) p.dealt
  -- by the answers themselves: the calls that told of a reading are as many as the readings told, but for those left behind and the one that waits. `once`,
  -- `turns` and `sixteen` are of the account's own lists; that the program deals with no reading twice is this, and `answers`
  pub counted : turns_told p.told + length p.missed + one_waits p.account.pending ≡ p.account.made
  -- "so a datagram takes at most 16 turns": no more than readings
  pub turns : p.account.turns ≤ y.account.readings
  pub sixteen : p.account.turns ≤ 16
  -- no reading gets lost: every one made was dealt with, left behind by the host, or waits
  pub none-lost : (d : Tried) → Mem d y.tried → is_reading d.reading ≡ true → Kept p d
  -- and nothing else was dealt with
  pub from_read : (x : Dealt) → Mem x p.dealt → (d : Tried) × Mem d y.tried × Is d x.pending
