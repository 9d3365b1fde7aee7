-- Every sending call does what the account says, and its history is the program's own. Assumes nothing.
use Rattle.std.specs.Prelude.{ℕ, List, ◌≡◌, refl}
use Rattle.std.proofs.Math.Option.{Option, none, some}
use Rattle.std.proofs.Common.{ap}
use Rattle.base.specs.Choose.{by_test}
use Rattle.waiting_laws.specs.Calls.{SendCall, key_send·, send·, save·, message·, begin_flight·, resend·, note·, send_ack·, ack·, fill·, sealed·, take·, stored}
use Rattle.history_theorem.specs.Claim.{Masks}
use Rattle.ends_theorem.proofs.Books.{books_by, sends_by}
use Rattle.ends_theorem.specs.Ledger.{Sent, Ledger}
use Rattle.ends_theorem.proofs.Marking.{ack-does, begin_does}
use Rattle.ends_theorem.proofs.Matches.{Matches, Does}
use Rattle.ends_theorem.proofs.Posting.{message-does}
use Rattle.ends_theorem.proofs.Resending.{resend_does}
use Rattle.ends_theorem.specs.Sender.{Books, enters_all, Lent, Sender, finished_by, sends_with, sends, FairSend}
use Rattle.ends_theorem.proofs.Settling.{key_does, fill_does, sealed-does, take-does}
use Rattle.sealing.specs.Sealing.{SealAnswer}
use Rattle.ends_theorem.proofs.Single.{send_does, save_does, note_does, send_ack_does}

pub every-does : (m : Masks) (x : Sender) (l : Ledger) (c : SendCall) → Matches x.stores l → FairSend m x c → Does x.stores l c
every-does m x l (key_send· e iv) i h = key_does x.stores l i e iv h
every-does m x l (send· e t c) i h = send_does x.stores l i e t c
every-does m x l (save· e t c) i h = save_does x.stores l i e t c
every-does m x l (message· kind body) i h = message-does x.stores l i kind body
every-does m x l begin_flight· i h = begin_does x.stores l i
every-does m x l resend· i h = resend_does x.stores l i
every-does m x l (note· e n) i h = note_does x.stores l i e n
every-does m x l send_ack· i h = send_ack_does x.stores l i
every-does m x l (ack· d) i h = ack-does x.stores l i d
every-does m x l (fill· v) i h = fill_does x.stores l i v
every-does m x l (sealed· n k) i h = sealed-does x.stores l i n k
every-does m x l (take· b) i h = take-does x.stores l i b

-- ---- the history by the account's records is the program's

pub sends-same : (x : Sender) (rs : List Sent) (c : SendCall) → books_by x.stores c x.books ≡ enters_all rs x.books → sends_by x c ≡ sends x rs c
sends-same x rs c p = ap (λ (b : Books). sends_with x b c) p

-- sealing finishes lines and sends nothing
finished-sent : (a : SealAnswer) (o : Option Lent) (p q : List ℕ) (b : Books) → (finished_by a o p q b).sent ≡ b.sent
finished-sent a none p q b = refl
finished-sent a (some l) p q b = by_test (λ (c : Books). c.sent ≡ b.sent) (λ z. refl) (λ z. refl)

sends_parts : (x : Sender) (rs : List Sent) (c : SendCall) → ((sends x rs c).stores ≡ stored x.stores c) × ((sends x rs c).books.sent ≡ (enters_all rs x.books).sent)
sends_parts x rs (key_send· e iv) = (refl, refl)
sends_parts x rs (send· e t c) = (refl, refl)
sends_parts x rs (save· e t c) = (refl, refl)
sends_parts x rs (message· kind body) = (refl, refl)
sends_parts x rs begin_flight· = (refl, refl)
sends_parts x rs resend· = (refl, refl)
sends_parts x rs (note· e n) = (refl, refl)
sends_parts x rs send_ack· = (refl, refl)
sends_parts x rs (ack· d) = (refl, refl)
sends_parts x rs (fill· v) = (refl, refl)
sends_parts x rs (sealed· n m) = (refl, finished-sent _ x.lent _ _ _)
sends_parts x rs (take· b) = (refl, refl)

pub sends-stores : (x : Sender) (rs : List Sent) (c : SendCall) → (sends x rs c).stores ≡ stored x.stores c
sends-stores x rs c = (sends_parts x rs c).0

pub sends-sent : (x : Sender) (rs : List Sent) (c : SendCall) → (sends x rs c).books.sent ≡ (enters_all rs x.books).sent
sends-sent x rs c = (sends_parts x rs c).1
