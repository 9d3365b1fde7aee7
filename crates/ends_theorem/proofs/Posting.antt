-- A handshake message does what the account says: its dry run finds what the account would have then, and an accepted one leaves and sends that.
-- Assumes nothing.
use Prim.Native.Nat.{ℕ, zero, suc, ◌+◌, ◌-◌, ◌≤◌, min}
use Rattle.std.proofs.Common.{eqb-true, eq-eqb, ne_eqb, length-append, ◌∙◌, arith}
use Rattle.std.proofs.lemmas.Bool.{eqb-false}
use Rattle.std.specs.Prelude.{eqb, leb, true, ◌≡◌}
use Rattle.std.proofs.Math.Dec.{ltb}
use Rattle.std.proofs.Math.ListN.{length}
use mathlib.Core.List.{List, [], ◌∷◌}
use Rattle.std.proofs.Math.Path.{refl, sym, ap, subst}
use Rattle.base.specs.Choose.{choose, if_true, if_false, test_cases}
use Rattle.handshake.specs.Header.{header_bytes}
use Rattle.queue.specs.declared.Tail.{Tail}
use Rattle.queue.specs.Laid.{record_len}
use Rattle.queue.specs.Queue.{tail_of, place_of, grown}
use Rattle.send_keys.specs.Keys.{next_of}
use Rattle.outgoing.specs.declared.Sending.{Sending}
use Rattle.outgoing.specs.Send.{laid_state, laid_memory}
use Rattle.flight.specs.Flight.{saved_with, saved_memory}
use Rattle.flight.specs.Save.{save_answer, save_safe}
use Rattle.messages.specs.declared.Cut.{Cut}
use Rattle.messages.specs.Cut as cut
use Rattle.messages.specs.Cut.{epoch_of, size_in, cut_next}
use Rattle.outgoing.specs.State.{numbered}
use Rattle.messages.specs.Message.{content_of, Laid, send_all, first_cut, beginning, sent_all, message_answer, message_state, message_queue, message_kept, length-content, all_more, all-last}
use Rattle.acks.specs.declared.Notes.{Notes}
use Rattle.waiting_laws.specs.Calls.{Stores, message·, only}
use Rattle.waiting_laws.proofs.Pieces.{numbered-holds}
use Rattle.waiting_laws.proofs.Sends as sends
use Rattle.whole_laws.specs.Lay.{lay_one, Able}
use Rattle.whole_laws.proofs.Lay.{len_more, usable, ends, piece-done, piece-laid, rest-next, able-on}
use Rattle.whole_laws.proofs.Leaves.{tail_behind}
use Rattle.whole_laws.proofs.Whole.{done-able, reach-is}
use Rattle.history_theorem.proofs.Lists.{upd_same, by_both}
use Rattle.send_keys.specs.Answer.{SendAnswer, is_done, refusal}
use Rattle.ends_theorem.proofs.Books as books
use Rattle.ends_theorem.proofs.Books.{piece_books, lays_all, message_books}
use Rattle.ends_theorem.proofs.Cuts.{next, behind, size-rest, content-long, pieces-last, pieces_more}
use Rattle.ends_theorem.proofs.Laws.{enters-append, Told, done-by}
use Rattle.ends_theorem.specs.Ledger as ledger
use Rattle.ends_theorem.specs.Ledger.{
  Ledger,
  Going,
  with_messages,
  saves,
  saves_on,
  queue_number,
  flight_number,
  epoch_for,
  overhead,
  piece_size,
  piece_content,
  pieces,
  posted,
  message_number,
}
use Rattle.ends_theorem.proofs.Matches.{TailIs, Matches, Does}
use Rattle.ends_theorem.proofs.Matching.{keyed-is, ready-is, kept-is, tail-is, tail-lays, saved-matches, wholly}
use Rattle.ends_theorem.proofs.Rules.{posted-limit}
use Rattle.ends_theorem.specs.Sender.{Books, enters, enters_all}

-- ---- the dry run

-- program and account cut alike where they see the same end of the queue: 12 bytes of handshake header make 25 and 34 of 13 and 22
size_is : (t : Tail) (l : Ledger) → TailIs t l → (e rest : ℕ) → cut.piece_size l.mtu (cut.overhead e) t.used rest ≡ piece_size l (overhead e) rest
unfolding cut.piece_size piece_size record_len
size_is t l i e rest =
    ap (λ (u : ℕ). choose (ltb (u + overhead e) l.mtu) (min rest (l.mtu - u - overhead e)) (min rest (l.mtu - overhead e))) i.used

-- the account behind pieces of these sizes: the queue's end as the dry run sees it, and a record more for each
record Foreseen (mtu e : ℕ) (ns : List ℕ) (t : Tail) (a b : Ledger) : Type 0 where
  tail : TailIs (tail_behind mtu (cut.overhead e) ns t) b
  saved : length b.saved ≡ length a.saved + length ns
  next : b.next e ≡ a.next e + length ns

-- by one piece
one-foreseen : (e n : ℕ) (t : Tail) (l : Ledger) (x : List ℕ) → length x ≡ 12 + n → TailIs t l → Foreseen l.mtu e (n ∷ []) t l (saves l e 22 x)
unfolding saves ledger.lays
one-foreseen e n t l x h i =
    let r : Tail = grown (place_of l.mtu t (n + cut.overhead e)) (n + cut.overhead e) in
    let long : record_len e (length x) ≡ n + cut.overhead e = ap (record_len e) h ∙ len_more e n in
    let on : TailIs r (ledger.lays l e (length x)) =
    subst (λ (k : ℕ). TailIs (grown (place_of l.mtu t k) k) (ledger.lays l e (length x))) long (tail-lays t l i e (length x)) in
    record {
      tail = record { used = on.used; joinable = on.joinable; count = on.count };
      saved = length-append l.saved _;
      next = upd_same l.next e (l.next e + 1);
    }

-- by at most k
foresees : (k kind number : ℕ) (body : List ℕ) (at : ℕ) (g : Going) (c : Cut) → at ≤ length body → c.rest ≡ length body - at → TailIs c.tail g.ledger
    → Foreseen g.ledger.mtu (epoch_for kind) (cut.pieces k g.ledger.mtu (cut.overhead (epoch_for kind)) c) c.tail g.ledger
    (pieces k kind number body at g).ledger
unfolding cut.pieces pieces cut_next saves_on saves ledger.lays
foresees zero kind number body at g c h r i = record { tail = i; saved = omega arith; next = omega arith }
foresees (suc k) kind number body at g c h r i =
    let e : ℕ = epoch_for kind in
    let mtu : ℕ = g.ledger.mtu in
    let n : ℕ = next kind number body at g in
    let m : ℕ = size_in mtu (cut.overhead e) c in
    let size : m ≡ n = ap (cut.piece_size mtu (cut.overhead e) c.tail.used) r ∙ size_is c.tail g.ledger i e (length body - at) in
    let end : at + n ≤ length body = omega (arith, size-rest g.ledger (overhead e) (length body - at)) in
    let rest : length body - (at + n) ≡ c.rest - m = omega arith in
    let one : Foreseen mtu e (m ∷ []) c.tail g.ledger (behind kind number body at g).ledger =
    one-foreseen e m c.tail g.ledger (piece_content kind number body at n) (content-long kind number body at n end ∙ ap (λ (x : ℕ). 12 + x) (sym size)) i in
    by_both (λ (ns : List ℕ) (v : Going). Foreseen mtu e (m ∷ ns) c.tail g.ledger v.ledger) (ap (λ (x : ℕ). eqb x 0) rest) (λ z. one)
    (λ z.
    let on = foresees k kind number body (at + n) (behind kind number body at g) (cut_next mtu (cut.overhead e) c) end (sym rest) one.tail in
    record { tail = on.tail; saved = omega (arith, one.saved, on.saved); next = omega (arith, one.next, on.next) })

-- ---- the answer

module _ (w : Stores) (l : Ledger) (i : Matches w l) (kind : ℕ) (body : List ℕ) where
  abbrev answer : SendAnswer
  answer = message_answer w.state w.flight (length w.queue) (length w.kept) kind (length body)

  abbrev sizes : List ℕ
  sizes = cut.pieces 13 w.state.queue.mtu (cut.overhead (epoch_for kind)) (first_cut w.state (length body))

  foreseen : Foreseen w.state.queue.mtu (epoch_for kind) sizes (tail_of w.state.queue) l (posted l kind body).ledger
  unfolding posted
  foreseen =
      subst (λ (m : ℕ). Foreseen m (epoch_for kind) (cut.pieces 13 m (cut.overhead (epoch_for kind)) (first_cut w.state (length body))) (tail_of w.state.queue) l (posted l kind body).ledger)
      (sym i.mtu)
      (foresees 13 kind l.messages body 0 (record { ledger = l; sent = [] }) (first_cut w.state (length body)) (omega arith) (omega arith) (tail-is w l i))

  -- each test of the program is the account's, in the same order
  number_is : refusal answer ≡ message_number l kind body
  unfolding message_answer message_number flight_number queue_number epoch_of
  number_is =
      let e : ℕ = epoch_for kind in
      let f = foreseen in
      let b : Ledger = (posted l kind body).ledger in
      let full : length b.saved ≡ w.flight.saved + length sizes = f.saved ∙ ap (λ (x : ℕ). x + length sizes) i.flight.count in
      let reach : length b.queue ≡ cut.plan_reach 13 w.state.queue.mtu (cut.overhead e) (first_cut w.state (length body)) =
      sym (reach-is 12 w.state.queue.mtu (cut.overhead e) (first_cut w.state (length body)) ∙ f.tail.count) in
      let limit : b.limit ≡ w.state.queue.limit = posted-limit l kind body ∙ sym i.limit in
      let spent : b.next e ≡ next_of w.state.keys e + length sizes = f.next ∙ ap (λ (x : ℕ). x + length sizes) (sym (i.keys.next e (usable w.state.keys kind))) in
      ap refusal (if_true _ _ (ready-is w l i))
      ∙ by_both Told (sym (kept-is w l i))
      (λ r. by_both Told refl (λ z. refl)
      (λ z. by_both Told (sym (keyed-is i.keys e))
      (λ k. by_both Told (ap (leb 65535) (sym i.messages)) (λ m. refl)
      (λ m. by_both Told (ap (ltb 12) full) (λ x. refl)
      (λ x. by_both Told (λ j. ltb (limit j) (reach j)) (λ y. refl)
      (λ y. by_both Told (ap (ltb 281474976710655) spent) (λ v. refl) (λ v. refl)))))
      (λ k. refl)))
      (λ r. refl)

-- ---- the pieces of an accepted one

-- the end while the pieces are laid
abbrev stores_of : Laid → Notes → Stores
stores_of l n = record { state = l.saved.state; queue = l.queue; flight = l.saved.flight; kept = l.kept; notes = n }

-- pieces laid, and the books with them, against the account's going on from books b
record Follows (number : ℕ) (notes : Notes) (b : Books) (l : Laid) (c : Books) (g : Going) : Type 0 where
  matches : Matches (stores_of l notes) g.ledger
  seq : l.saved.state.message_seq ≡ number
  books : c ≡ enters_all g.sent b

module _ (kind : ℕ) (body : List ℕ) (number : ℕ) (notes : Notes) (b : Books) where
  module _ (k at : ℕ) (l : Laid) (c : Books) (g : Going) (a : Able (suc k) kind body at l) (f : Follows number notes b l c g) where
    abbrev n : ℕ
    n = books.piece_size kind body at l

    abbrev content : List ℕ
    content = content_of kind l.saved.state.message_seq body at n

    size_same : n ≡ next kind number body at g
    unfolding tail_of epoch_of
    size_same =
        ap (λ (m : ℕ). cut.piece_size m (cut.overhead (epoch_for kind)) (tail_of l.saved.state.queue).used (length body - at)) f.matches.mtu
        ∙ size_is (tail_of l.saved.state.queue) g.ledger (tail-is (stores_of l notes) g.ledger f.matches) (epoch_for kind) (length body - at)

    content-same : content ≡ piece_content kind number body at (next kind number body at g)
    unfolding content_of header_bytes
    content-same = λ j. piece_content kind (f.seq j) body at (size_same j)

    long : length content ≡ 12 + n
    long = length-content kind l.saved.state.message_seq body at n (ends k kind body at l a)

    done : is_done (save_answer l.saved.state l.saved.flight (length l.queue) (length l.kept) (epoch_of kind) 22 (12 + n)) ≡ true
    done = ap is_done (piece-done k kind body at l a)

    -- a piece laid is the account's next record
    one_follows : Follows number notes b (lay_one kind body at n l) (piece_books kind body at l c) (behind kind number body at g)
    unfolding lay_one laid_state saves_on books.lays epoch_of
    one_follows =
        let s : Sending = l.saved.state in
        let e : ℕ = epoch_for kind in
        let sent = sends.saved s l.saved.flight (length l.queue) (length l.kept) e 22 (12 + n) done in
        let keeps = (save_safe s l.saved.flight (length l.queue) (length l.kept) e 22 (12 + n) done).keeps in
        let num : next_of s.keys e ≡ g.ledger.next e = f.matches.keys.next e sent.usable in
        let same = saved-matches (stores_of l notes) g.ledger f.matches e 22 content (rw long sent) (rw long keeps) in
        record {
          matches = subst (λ (x : List ℕ). Matches (stores_of (lay_one kind body at n l) notes) (saves g.ledger e 22 x)) content-same
              (subst (λ (k : ℕ). Matches (record {
                state = laid_state s e k;
                queue = laid_memory s e 22 content l.queue;
                flight = saved_with l.saved.flight 22 e (next_of s.keys e) k;
                kept = saved_memory l.saved.flight s.queue.mtu content l.kept;
                notes = notes;
              }) (saves g.ledger e 22 content)) long same);
          seq = f.seq;
          books = if_true _ _ done ∙ (λ j. enters (record { epoch = e; num = num j; type = 22; content = content-same j }) (f.books j)) ∙ sym (enters-append g.sent _ b);
        }

    books-last : length body - (at + n) ≡ 0 → lays_all (suc k) kind body at l c ≡ piece_books kind body at l c
    unfolding lays_all
    books-last z = if_true _ _ (eq-eqb _ _ z)

    books-more : (length body - (at + n) ≡ 0 → ⊥) → lays_all (suc k) kind body at l c ≡ lays_all k kind body (at + n) (books.piece kind body at l) (piece_books kind body at l c)
    unfolding lays_all
    books-more z = if_false _ _ (ne_eqb _ _ z)

    able-more : (length body - (at + n) ≡ 0 → ⊥) → Able k kind body (at + n) (lay_one kind body at n l)
    able-more z = able-on k kind body at l a (λ x. z (sym (rest-next k kind body at l a) ∙ x))

    -- and those behind it; apart from the recursion, whose clause would be dear to check with this in it
    with_first : ((length body - (at + n) ≡ 0 → ⊥) → Follows number notes b (send_all k kind body (at + n) (lay_one kind body at n l))
        (lays_all k kind body (at + n) (lay_one kind body at n l) (piece_books kind body at l c)) (pieces k kind number body (at + n) (behind kind number body at g)))
        → Follows number notes b (send_all (suc k) kind body at l) (lays_all (suc k) kind body at l c) (pieces (suc k) kind number body at g)
    with_first on =
        let laid : ◌≡◌ {A = Laid} (books.piece kind body at l) (lay_one kind body at n l) = piece-laid k kind body at l a in
        test_cases (eqb (length body - (at + n)) 0)
        (λ z.
        let y : length body - (at + n) ≡ 0 = eqb-true _ _ z in
        rw (all-last kind body at l k y, laid, books-last y, pieces-last kind number body at g k (ap (λ (x : ℕ). length body - (at + x)) (sym size_same) ∙ y)) one_follows)
        (λ z.
        let y : length body - (at + n) ≡ 0 → ⊥ = eqb-false _ _ z in
        rw (all_more kind body at l k y, books-more y, laid, pieces_more kind number body at g k (λ x. y (ap (λ (x : ℕ). length body - (at + x)) size_same ∙ x)))
        (subst (λ (x : ℕ). Follows number notes b (send_all k kind body (at + n) (lay_one kind body at n l))
        (lays_all k kind body (at + n) (lay_one kind body at n l) (piece_books kind body at l c)) (pieces k kind number body (at + x) (behind kind number body at g))) size_same (on y)))

  all_follow : (k at : ℕ) (l : Laid) (c : Books) (g : Going) → Able k kind body at l → Follows number notes b l c g
      → Follows number notes b (send_all k kind body at l) (lays_all k kind body at l c) (pieces k kind number body at g)
  all_follow zero at l c g a f = unfold send_all lays_all pieces in f
  all_follow (suc k) at l c g a f =
      let m : ℕ = n k at l c g a f in
      with_first k at l c g a f
      (λ z. all_follow k (at + m) (lay_one kind body at m l) (piece_books kind body at l c) (behind kind number body at g) (able-more k at l c g a f z) (one_follows k at l c g a f))

-- ---- the call

-- with another message number
abbrev stores_at : Stores → ℕ → Stores
stores_at w n = record { state = numbered w.state n; queue = w.queue; flight = w.flight; kept = w.kept; notes = w.notes }

-- how many messages were accepted is no part of the rest
numbered-matches : (w : Stores) (l : Ledger) (m n : ℕ) → m ≡ n → Matches w l → Matches (stores_at w m) (with_messages l n)
numbered-matches w l m n same i =
    let k = i.keys in
    record {
      ds = i.ds;
      holds = numbered-holds w.state w.queue i.ds m i.holds;
      queue = i.queue;
      closed = i.closed;
      mtu = i.mtu;
      limit = i.limit;
      room = i.room;
      keys = record { two = k.two; application = k.application; next = k.next; most = k.most };
      messages = same;
      flight = i.flight;
      noted = i.noted;
    }

-- refused or accepted as the account says, and an accepted one leaves and sends what the account has then
pub message-does : (w : Stores) (l : Ledger) → Matches w l → (kind : ℕ) (body : List ℕ) → Does w l (message· kind body)
unfolding posted message_state message_queue message_kept message_books choose
message-does w l i kind body =
    let a : SendAnswer = answer w l i kind body in
    let number : refusal a ≡ message_number l kind body = number_is w l i kind body in
    let from : Laid = beginning w.state w.flight w.queue w.kept in
    let sent : Stores = stores_of (sent_all w.state w.flight w.queue w.kept kind body) w.notes in
    let follows : is_done a ≡ true → (b : Books) → Follows l.messages w.notes b (send_all 13 kind body 0 from) (lays_all 13 kind body 0 from b) (posted l kind body) =
    λ d b. all_follow kind body l.messages w.notes b 13 0 from b (record { ledger = l; sent = [] })
    (done-able w.state w.flight w.queue w.kept kind body i.holds.table d) (record { matches = i; seq = i.messages; books = refl }) in
    wholly w l i (message· kind body) (is_done a) (ap only number) (done-by a number)
    (λ d.
    rw d
    (numbered-matches sent (posted l kind body).ledger (w.state.message_seq + 1) (l.messages + 1) (ap (λ (n : ℕ). n + 1) i.messages)
    (follows d (record { sent = λ e. []; lines = [] })).matches))
    (λ d. rw d) (λ d b. rw d (follows d b).books) (λ d b. rw d)
