-- A sending end and its history: state, queue and flight as the last call left them, and what the claim speaks of, written from the host's
-- arguments, the records that the claim's own account has as sent, the bytes and the answers and questions that the host sees.
use Rattle.std.specs.Prelude.{ℕ, ◌+◌, ◌-◌, ◌<◌, ◌%◌, eqb, length, take, get_or, List, [], ◌∷◌, ◌++◌, ◌≡◌, Some, None, Ok, Err}
use Rattle.std.proofs.Math.Option.{Option, none, some}
use Rattle.base.specs.Bytes.{be}
use Rattle.base.specs.Choose.{choose, both}
use Rattle.base.specs.Parts.{part}
use Rattle.outgoing.specs.declared.Sent.{Sent as SentState}
use Rattle.outgoing.specs.declared.Sending.{Sending}
use Rattle.outgoing.specs.State.{keying_state}
use Rattle.sealing.specs.Sealing.{SealAnswer, Asked, question_of, seal_answer, is_sealed}
use Rattle.taking.specs.declared.TakeError.TheVariants as took
use Rattle.taking.specs.Take.{TakeAnswer, take_answer, take_buffer}
use Rattle.waiting_laws.specs.Calls.{Stores, SendCall, key_send·, send·, save·, message·, begin_flight·, resend·, note·, send_ack·, ack·, fill·, sealed·, take·, stored, fresh, lending}
use Rattle.history_theorem.specs.Account.{sealed_head, sealed_tail, upd}
use Rattle.history_theorem.specs.Claim.{Masks}
use Rattle.history_theorem.specs.Receiver.{Sealed, Handed}
use Rattle.send_keys.specs.Answer.{is_done}
use Rattle.ends_theorem.specs.Ledger.{Sent, Item}

-- ---- what the history holds

-- a record laid in the queue, in the order of laying: finished with its bytes, or still to be sealed under its epoch and number
pub data Line : Type 0 where
  done : List ℕ → Line
  due : ℕ → ℕ → Line

-- what was sent: by epoch, each record's number, type and content as the host gave them, the last first; and the records in order
pub record Books : Type 0 where
  pub sent : ℕ → List Handed
  pub lines : List Line

-- the sealing question that the host is shown: epoch, number, nonce, unmasked header, the place and length of the part lent, and the part's
-- bytes as they lay when it was first shown: content, type and room for the tag
pub record Lent : Type 0 where
  pub epoch : ℕ
  pub num : ℕ
  pub nonce : List ℕ
  pub header : List ℕ
  pub place : ℕ
  pub size : ℕ
  pub bytes : List ℕ

pub record Sender : Type 0 where
  pub stores : Stores
  pub books : Books
  -- the IV that each epoch was keyed with to send
  pub ivs : ℕ → List ℕ
  pub lent : Option Lent
  -- by epoch the records sealed, the last first; the datagrams taken, in order
  pub sealed : ℕ → List Sealed
  pub taken : List (List ℕ)

-- ---- the question shown

-- the bytes first shown stay with a question that is shown again
abbrev pub first_bytes : Option Lent → ℕ → ℕ → List ℕ → List ℕ
first_bytes none e n b = b
first_bytes (some l) e n b = choose (both (eqb l.epoch e) (eqb l.num n)) l.bytes b

abbrev pub lent_by : Asked → Option Lent → List ℕ → Option Lent
lent_by (Ok (Some x)) old q =
    some (record { epoch = x.epoch; num = x.number; nonce = x.nonce; header = x.header; place = x.start; size = x.length; bytes = first_bytes old x.epoch x.number (part x.start x.length q) })
lent_by (Ok None) old q = none
lent_by (Err x) old q = none

unfoldable pub lends : Sending → List ℕ → Option Lent → Option Lent
lends s q old = lent_by (question_of s) old q

-- the question is shown exactly while a record waits to be sealed, and names the oldest: "Sealings are asked oldest first and never cancelled"; the part
-- lent is the record behind its header
abbrev pub AskedFor : Option Lent → Option Item → Type 0
AskedFor none none = Unit {0}
AskedFor none (some i) = ⊥
AskedFor (some l) none = ⊥
AskedFor (some l) (some i) = (l.epoch ≡ i.epoch) × (l.num ≡ i.num) × (l.size + sealed_head ≡ i.size)

-- ---- what was sent

-- "Plaintext header, 13 bytes: type .., version (.. written FE FD), epoch (2 bytes, must be 0), number (6), length (2)", and the content
abbrev pub plain_bytes : ℕ → ℕ → List ℕ → List ℕ
plain_bytes t n x = (t ∷ 0xFE ∷ 0xFD ∷ 0 ∷ 0 ∷ be 6 n ++ be 2 (length x)) ++ x

-- "Sealed flags: 0x2C plus the epoch's low two bits", a number of 2 bytes, and the length
abbrev pub sealed_header : ℕ → ℕ → ℕ → List ℕ
sealed_header e n len = (0x2C + e % 4) ∷ be 2 n ++ be 2 len

-- a plaintext record is finished when it is laid
abbrev pub line_of : ℕ → ℕ → ℕ → List ℕ → Line
line_of e t n x = choose (eqb e 0) (done (plain_bytes t n x)) (due e n)

-- a record sent, in the books
abbrev pub enters : Sent → Books → Books
enters r b = record {
  sent = upd b.sent r.epoch (record { num = r.num; type = r.type; content = r.content } ∷ b.sent r.epoch);
  lines = b.lines ++ (line_of r.epoch r.type r.num r.content ∷ []);
}

abbrev pub enters_all : List Sent → Books → Books
enters_all [] b = b
enters_all (r ∷ rs) b = enters_all rs (enters r b)

-- ---- what was sealed

-- the first record still to be sealed under an epoch and number is finished
abbrev pub finish : ℕ → ℕ → List ℕ → List Line → List Line
finish e n b [] = []
finish e n b (done c ∷ ls) = done c ∷ finish e n b ls
finish e n b (due k m ∷ ls) = choose (both (eqb k e) (eqb m n)) (done b ∷ ls) (due k m ∷ finish e n b ls)

-- number and header as the question showed them; type and content as they lay when it was first shown; what the host left in the part; and
-- the record's bytes in the queue behind the reply
abbrev pub sealed_as : Lent → List ℕ → List ℕ → Sealed
sealed_as l before behind = record {
  num = l.num;
  type = get_or l.bytes (l.size - sealed_tail) 0;
  content = take (l.size - sealed_tail) l.bytes;
  header = l.header;
  cipher = part l.place l.size before;
  wire = part (l.place - sealed_head) (sealed_head + l.size) behind;
}

-- the bytes of the records that are finished, up to the first that is not
abbrev pub finished : List Line → List ℕ
finished [] = []
finished (done b ∷ ls) = b ++ finished ls
finished (due e n ∷ ls) = []

-- all finished
abbrev pub AllDone : List Line → Type 0
AllDone [] = Unit {0}
AllDone (done b ∷ ls) = AllDone ls
AllDone (due e n ∷ ls) = ⊥

-- records in groups, one group for each datagram: the records one behind the other, and each datagram's bytes
abbrev pub joined : List (List Line) → List Line
joined [] = []
joined (g ∷ gs) = g ++ joined gs

abbrev pub datagrams : List (List Line) → List (List ℕ)
datagrams [] = []
datagrams (g ∷ gs) = finished g ∷ datagrams gs

-- the datagrams taken are the records sent, in order, in whole groups of finished ones
pub record Taken (taken : List (List ℕ)) (sent : List Line) : Type 0 where
  pub groups : List (List Line)
  pub rest : List Line
  pub lines : sent ≡ joined groups ++ rest
  pub whole : AllDone (joined groups)
  pub bytes : taken ≡ datagrams groups

-- ---- the calls

-- a sender behind a call: the question is the one that the new state shows
abbrev pub turns : Sender → Stores → Books → (ℕ → List ℕ) → (ℕ → List Sealed) → List (List ℕ) → Sender
turns x w b ivs sealed taken = record {
  stores = w;
  books = b;
  ivs = ivs;
  lent = lends w.state w.queue x.lent;
  sealed = sealed;
  taken = taken;
}

abbrev pub keyed_by : SentState → ℕ → List ℕ → (ℕ → List ℕ) → ℕ → List ℕ
keyed_by r e iv f = choose (is_done r.answer) (upd f e iv) f

-- an accepted reply seals what the question showed
abbrev pub sealed_by : SealAnswer → Option Lent → List ℕ → List ℕ → (ℕ → List Sealed) → ℕ → List Sealed
sealed_by a none before behind f = f
sealed_by a (some l) before behind f = choose (is_sealed a) (upd f l.epoch (sealed_as l before behind ∷ f l.epoch)) f

abbrev pub finished_by : SealAnswer → Option Lent → List ℕ → List ℕ → Books → Books
finished_by a none before behind b = b
finished_by a (some l) before behind b =
    choose (is_sealed a) (record { sent = b.sent; lines = finish l.epoch l.num (sealed_as l before behind).wire b.lines }) b

-- a datagram taken is what then stands at the start of the host's buffer
abbrev pub taken_by : TakeAnswer → List ℕ → List (List ℕ) → List (List ℕ)
taken_by (Ok (Some n)) buffer ts = ts ++ (part 0 n buffer ∷ [])
taken_by (Err took.OutOfRange) buffer ts = ts
taken_by (Ok None) buffer ts = ts
taken_by (Err took.Unsealed) buffer ts = ts
taken_by (Err (took.Short n)) buffer ts = ts

-- the history behind a call that leaves these books before it seals
abbrev pub sends_with : Sender → Books → SendCall → Sender
sends_with x b (key_send· e iv) = turns x (stored x.stores (key_send· e iv)) b (keyed_by (keying_state x.stores.state e iv) e iv x.ivs) x.sealed x.taken
sends_with x b (send· e t c) = turns x (stored x.stores (send· e t c)) b x.ivs x.sealed x.taken
sends_with x b (save· e t c) = turns x (stored x.stores (save· e t c)) b x.ivs x.sealed x.taken
sends_with x b (message· kind body) = turns x (stored x.stores (message· kind body)) b x.ivs x.sealed x.taken
sends_with x b begin_flight· = turns x (stored x.stores begin_flight·) b x.ivs x.sealed x.taken
sends_with x b resend· = turns x (stored x.stores resend·) b x.ivs x.sealed x.taken
sends_with x b (note· e n) = turns x (stored x.stores (note· e n)) b x.ivs x.sealed x.taken
sends_with x b send_ack· = turns x (stored x.stores send_ack·) b x.ivs x.sealed x.taken
sends_with x b (ack· d) = turns x (stored x.stores (ack· d)) b x.ivs x.sealed x.taken
sends_with x b (fill· v) = turns x (stored x.stores (fill· v)) b x.ivs x.sealed x.taken
sends_with x b (sealed· n m) =
    let w = x.stores in
    let a = seal_answer w.state (length w.queue) n in
    let behind = stored w (sealed· n m) in
    turns x behind (finished_by a x.lent w.queue behind.queue b) x.ivs (sealed_by a x.lent w.queue behind.queue x.sealed) x.taken
sends_with x b (take· buffer) =
    let w = x.stores in
    let a = take_answer w.state (length w.queue) (length buffer) in
    turns x (stored w (take· buffer)) b x.ivs x.sealed (taken_by a (take_buffer a w.state w.queue buffer) x.taken)

-- the history behind a call that sent these records
abbrev pub sends : Sender → List Sent → SendCall → Sender
sends x rs c = sends_with x (enters_all rs x.books) c

-- the call is made over it; this end's own memory stays
abbrev pub sends_over : Sender → SendCall → List ℕ → List ℕ → Sender
sends_over x c q k =
    turns x (lending (stored (lending x.stores q k) c) x.stores.queue x.stores.kept) x.books x.ivs x.sealed x.taken

-- ---- what is asked of the host that seals

-- "the host answered with the sender's mask" of the epoch shown and the first 16 bytes that it left in the part, in a reply of the right length
abbrev pub FairSeal : Masks → Option Lent → List ℕ → ℕ → List ℕ → Type 0
FairSeal masks none q k m = Unit {0}
FairSeal masks (some l) q k m =
    k ≡ l.size
    → (get_or m 0 0 ≡ get_or (masks l.epoch (part l.place 16 q)) 0 0) × (get_or m 1 0 ≡ get_or (masks l.epoch (part l.place 16 q)) 1 0)

-- an epoch is one of 16 bits; nothing is asked of any other call
abbrev pub FairSend : Masks → Sender → SendCall → Type 0
FairSend masks x (key_send· e iv) = e < 65536
FairSend masks x (send· e t c) = Unit {0}
FairSend masks x (save· e t c) = Unit {0}
FairSend masks x (message· kind body) = Unit {0}
FairSend masks x begin_flight· = Unit {0}
FairSend masks x resend· = Unit {0}
FairSend masks x (note· e n) = Unit {0}
FairSend masks x send_ack· = Unit {0}
FairSend masks x (ack· d) = Unit {0}
FairSend masks x (fill· v) = Unit {0}
FairSend masks x (sealed· k m) = FairSeal masks x.lent x.stores.queue k m
FairSend masks x (take· buffer) = Unit {0}

-- ---- a fresh end: nothing keyed, queued, saved or asked; the lent buffers have any bytes

abbrev pub new_sender : ℕ → ℕ → List ℕ → List ℕ → Sender
new_sender mtu limit queue kept = record {
  stores = fresh mtu limit queue kept;
  books = record { sent = λ e. []; lines = [] };
  ivs = λ e. [];
  lent = none;
  sealed = λ e. [];
  taken = [];
}
