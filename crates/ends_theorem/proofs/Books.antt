-- The program's own steps through the books: each record under the number that was next, one after the other. For the proof alone: that these are
-- the records of the claim's account is shown call by call.
use Rattle.std.specs.Prelude.{ℕ, zero, suc, ◌+◌, ◌-◌, eqb, length, List}
use Rattle.base.specs.Choose.{choose}
use Rattle.send_keys.specs.Keys.{next_of}
use Rattle.outgoing.specs.declared.Sending.{Sending}
use Rattle.outgoing.specs.Send.{send_answer}
use Rattle.flight.specs.Flight.{entry_at}
use Rattle.flight.specs.Save.{save_answer}
use Rattle.messages.specs.Cut.{epoch_of}
use Rattle.messages.specs.Message.{content_of, Laid, size_now, piece_of, beginning, message_answer}
use Rattle.acks.specs.Acks.{ack_epoch, ack_content, ack_len, ack_answer}
use Rattle.resend.specs.Resend.{Laying as Again, content_at, again_answer, again_after}
use Rattle.resend.specs.Tests.{closed_state, resend_answer}
use Rattle.waiting_laws.specs.Calls.{Stores, SendCall, key_send·, send·, save·, message·, begin_flight·, resend·, note·, send_ack·, ack·, fill·, sealed·, take·}
use Rattle.send_keys.specs.Answer.{SendAnswer, is_done}
use Rattle.ends_theorem.specs.Sender.{Books, Sender, enters, sends_with}

-- a record sent: under the number that was next in its epoch, with the type and content that the host gave
abbrev pub written : Sending → ℕ → ℕ → List ℕ → Books → Books
written s e t x b = enters (record { epoch = e; num = next_of s.keys e; type = t; content = x }) b

unfoldable pub lays : SendAnswer → Sending → ℕ → ℕ → List ℕ → Books → Books
lays a s e t x b = choose (is_done a) (written s e t x b) b

-- the pieces of a message, one after the other: type 22, a header of 12 bytes and a part of the host's body
abbrev pub piece_size : ℕ → List ℕ → ℕ → Laid → ℕ
piece_size kind body at l = size_now kind l.saved.state (length body - at)

abbrev pub piece : ℕ → List ℕ → ℕ → Laid → Laid
piece kind body at l = piece_of kind body at (piece_size kind body at l) l.saved.state l.saved.flight l.queue l.kept

abbrev pub piece_books : ℕ → List ℕ → ℕ → Laid → Books → Books
piece_books kind body at l b =
    lays (save_answer l.saved.state l.saved.flight (length l.queue) (length l.kept) (epoch_of kind) 22 (12 + piece_size kind body at l))
    l.saved.state (epoch_of kind) 22 (content_of kind l.saved.state.message_seq body at (piece_size kind body at l)) b

unfoldable pub lays_all : ℕ → ℕ → List ℕ → ℕ → Laid → Books → Books
lays_all zero kind body at l b = b
lays_all (suc k) kind body at l b =
    choose (eqb (length body - (at + piece_size kind body at l)) 0) (piece_books kind body at l b)
    (lays_all k kind body (at + piece_size kind body at l) (piece kind body at l) (piece_books kind body at l b))

unfoldable pub message_books : SendAnswer → Stores → ℕ → List ℕ → Books → Books
message_books a w kind body b = choose (is_done a) (lays_all 13 kind body 0 (beginning w.state w.flight w.queue w.kept) b) b

-- the records of a flight sent again, one after the other: those not acknowledged, each with its epoch, type and the content that was saved
unfoldable pub again_books : List ℕ → Again → ℕ → Books → Books
again_books kept l zero b = b
again_books kept l (suc n) b =
    let r = again_after kept l n in
    choose (entry_at r.flight n).marked (again_books kept l n b)
    (lays (again_answer kept n r) r.state (entry_at r.flight n).epoch (entry_at r.flight n).content_type (content_at kept n r) (again_books kept l n b))

abbrev pub closing : Stores → Again
closing w = record { state = closed_state w.state; flight = w.flight; queue = w.queue }

unfoldable pub resend_books : SendAnswer → Stores → Books → Books
resend_books a w b = choose (is_done a) (again_books w.kept (closing w) w.flight.saved b) b

-- an ACK: a record of type 26 that names the records noted, if there are any
unfoldable pub ack_books : Stores → Books → Books
ack_books w b =
    let k = ack_epoch w.state.keys in
    choose (is_done (ack_answer w.state w.notes (length w.queue)))
    (choose (eqb w.notes.count 0) b
    (lays (send_answer w.state (length w.queue) k 26 (ack_len w.notes)) w.state k 26 (ack_content w.notes) b)) b

-- what a call that lays records adds to the books, by the program's own steps
abbrev pub books_by : Stores → SendCall → Books → Books
books_by w (key_send· e iv) b = b
books_by w (send· e t x) b = lays (send_answer w.state (length w.queue) e t (length x)) w.state e t x b
books_by w (save· e t x) b = lays (save_answer w.state w.flight (length w.queue) (length w.kept) e t (length x)) w.state e t x b
books_by w (message· kind body) b =
    message_books (message_answer w.state w.flight (length w.queue) (length w.kept) kind (length body)) w kind body b
books_by w begin_flight· b = b
books_by w resend· b = resend_books (resend_answer w.state w.flight (length w.queue) (length w.kept)) w b
books_by w (note· e n) b = b
books_by w send_ack· b = ack_books w b
books_by w (ack· d) b = b
books_by w (fill· v) b = b
books_by w (sealed· n m) b = b
books_by w (take· buffer) b = b

-- the history behind a call, so
abbrev pub sends_by : Sender → SendCall → Sender
sends_by x c = sends_with x (books_by x.stores c x.books) c
