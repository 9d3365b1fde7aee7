-- Sending a handshake message (01, refusals 12, 14, 17, 21, 18, 19, 20), wholly or not at all. Assumes nothing.
use Rattle.std.specs.Prelude.{true, List, ◌++◌, ◌≡◌, refl, ℕ, zero, suc, ◌+◌, ◌-◌, ◌<◌, ◌≤◌, ltb, leb, eqb, length, Ok, Err}
use Rattle.std.proofs.lemmas.Bool.{false≢true}
use Rattle.std.proofs.Common.{sym, ap, ◌∙◌, arith, length-append, length-take, length-drop, ltb-false, leb-true, leb-false, eq-eqb, ne_eqb}
use Rattle.outgoing.specs.State.{numbered}
use Rattle.base.specs.Choose.{choose, by_test, both_left, if_true, if_false}
use Rattle.base.specs.Parts.{part}
use Rattle.handshake.specs.Header.{header_bytes, length-header}
use Rattle.queue.specs.Queue.{is_ready, last_len, InRange, ready}
use Rattle.send_keys.specs.Keys.{is_keyed, next_of}
use Rattle.outgoing.specs.declared.Sending.{Sending}
use Rattle.send_keys.specs.declared.SendError.TheVariants.{OutOfRange, BadRecord, KeysAbsent, MessagesSpent, FlightFull, QueueFull, NumbersSpent}
use Rattle.flight.specs.declared.Flight.{Flight}
use Rattle.flight.specs.declared.Saved.{Saved}
use Rattle.flight.specs.Flight.{counted, is_kept}
use Rattle.flight.specs.Save.{save_state, save_queue, save_kept, save_range}
use Rattle.send_keys.specs.Answer.{SendAnswer, is_done}
use Rattle.messages.specs.declared.Cut.{Cut}
use Rattle.messages.specs.Cut.{epoch_of, overhead, piece_size, cut_behind, plan_count, plan_reach}

-- "each piece's header carries the message's type, total, number, its offset and length"; then the piece of the body
unfoldable pub content_of : ℕ → ℕ → List ℕ → ℕ → ℕ → List ℕ
content_of kind seq body at n =
    header_bytes (record { msg_type = kind; length = length body; message_seq = seq; fragment_offset = at; fragment_length = n })
    ++ part at n body

-- state and flight, queue, and the flight's buffer
pub record Laid : Type 0 where
  pub saved : Saved
  pub queue : List ℕ
  pub kept : List ℕ

-- a piece is a saved record of type 22
unfoldable pub piece_of : ℕ → List ℕ → ℕ → ℕ → Sending → Flight → List ℕ → List ℕ → Laid
piece_of kind body at n s f q m = record {
  saved = save_state s f (length q) (length m) (epoch_of kind) 22 (12 + n);
  queue = save_queue s f (length m) (epoch_of kind) 22 (content_of kind s.message_seq body at n) q;
  kept = save_kept s f (length q) (epoch_of kind) 22 (content_of kind s.message_seq body at n) m;
}

-- the size of the next piece, by the queue as it is
abbrev pub size_now : ℕ → Sending → ℕ → ℕ
size_now kind s rest = piece_size s.queue.mtu (overhead (epoch_of kind)) (last_len s.queue) rest

-- at most k pieces from an offset on, one after the other; an empty body gives one
unfoldable pub send_all : ℕ → ℕ → List ℕ → ℕ → Laid → Laid
send_all zero kind body at l = l
send_all (suc k) kind body at l =
    choose (eqb (length body - (at + size_now kind l.saved.state (length body - at))) 0)
    (piece_of kind body at (size_now kind l.saved.state (length body - at)) l.saved.state l.saved.flight l.queue l.kept)
    (send_all k kind body (at + size_now kind l.saved.state (length body - at))
    (piece_of kind body at (size_now kind l.saved.state (length body - at)) l.saved.state l.saved.flight l.queue l.kept))

-- where the cutting begins
abbrev pub first_cut : Sending → ℕ → Cut
first_cut s n = cut_behind s.queue n

abbrev pub count_of : Sending → ℕ → ℕ → ℕ
count_of s kind n = plan_count 13 s.queue.mtu (overhead (epoch_of kind)) (first_cut s n)

abbrev pub reach_of : Sending → ℕ → ℕ → ℕ
reach_of s kind n = plan_reach 13 s.queue.mtu (overhead (epoch_of kind)) (first_cut s n)

-- 18, 19, 20 over what the dry run found
abbrev pub plan_answer : ℕ → ℕ → ℕ → ℕ → ℕ → SendAnswer
plan_answer saved limit next count reach =
    choose (ltb 12 (saved + count)) (Err FlightFull)
    (choose (ltb limit reach) (Err QueueFull)
    (choose (ltb 281474976710655 (next + count)) (Err NumbersSpent) (Ok tt)))

-- each number over the whole message before the next: 12, 14, 17, 21, 18, 19, 20. A thirteenth piece is one too many, so thirteen are
-- enough to see
unfoldable pub message_answer : Sending → Flight → ℕ → ℕ → ℕ → ℕ → SendAnswer
message_answer s f room kept kind n =
    choose (is_ready s.queue room)
    (choose (is_kept f s.queue.mtu kept)
    (choose (ltb 16384 n) (Err BadRecord)
    (choose (is_keyed s.keys (epoch_of kind))
    (choose (leb 65535 s.message_seq) (Err MessagesSpent)
    (plan_answer f.saved s.queue.limit (next_of s.keys (epoch_of kind)) (count_of s kind n) (reach_of s kind n)))
    (Err KeysAbsent)))
    (Err OutOfRange))
    (Err OutOfRange)

abbrev pub beginning : Sending → Flight → List ℕ → List ℕ → Laid
beginning s f q m = record { saved = record { answer = Ok tt; state = s; flight = f }; queue = q; kept = m }

abbrev pub sent_all : Sending → Flight → List ℕ → List ℕ → ℕ → List ℕ → Laid
sent_all s f q m kind body = send_all 13 kind body 0 (beginning s f q m)

unfoldable pub message_state : SendAnswer → Sending → Flight → List ℕ → List ℕ → ℕ → List ℕ → Saved
message_state a s f q m kind body =
    choose (is_done a)
    (record { answer = a; state = numbered (sent_all s f q m kind body).saved.state (s.message_seq + 1); flight = (sent_all s f q m kind body).saved.flight })
    (record { answer = a; state = s; flight = f })

unfoldable pub message_queue : SendAnswer → Sending → Flight → List ℕ → List ℕ → ℕ → List ℕ → List ℕ
message_queue a s f q m kind body = choose (is_done a) (sent_all s f q m kind body).queue q

unfoldable pub message_kept : SendAnswer → Sending → Flight → List ℕ → List ℕ → ℕ → List ℕ → List ℕ
message_kept a s f q m kind body = choose (is_done a) (sent_all s f q m kind body).kept m

pub length-content : (kind seq : ℕ) (body : List ℕ) (at n : ℕ) → at + n ≤ length body → length (content_of kind seq body at n) ≡ 12 + n
unfolding content_of
length-content kind seq body at n h = simp (length-append, length-header, length-take, length-drop) (omega arith)

pub laid_same : {a b : Laid} → a.saved ≡ b.saved → a.queue ≡ b.queue → a.kept ≡ b.kept → a ≡ b
laid_same p q r = λ i. record { saved = p i; queue = q i; kept = r i }

-- ---- answers, queue and buffer ask of the flight only how many are saved

pub message-counted : (s : Sending) (f : Flight) (room kept kind n : ℕ) → message_answer s (counted f.saved) room kept kind n ≡ message_answer s f room kept kind n
unfolding message_answer is_kept
message-counted s f room kept kind n = refl

-- ---- the pieces one after the other

module _ (kind : ℕ) (body : List ℕ) (at : ℕ) (l : Laid) where
  abbrev pub size : ℕ
  size = size_now kind l.saved.state (length body - at)

  abbrev pub after : Laid
  after = piece_of kind body at size l.saved.state l.saved.flight l.queue l.kept

  pub all_more : (k : ℕ) → (length body - (at + size) ≡ 0 → ⊥) → send_all (suc k) kind body at l ≡ send_all k kind body (at + size) after
  unfolding send_all
  all_more k e = if_false _ _ (ne_eqb _ _ e)

  pub all-last : (k : ℕ) → length body - (at + size) ≡ 0 → send_all (suc k) kind body at l ≡ after
  unfolding send_all
  all-last k e = if_true _ _ (eq-eqb _ _ e)

pub all_none : {k : ℕ} (kind : ℕ) (body : List ℕ) (at : ℕ) (l : Laid) → k ≡ 0 → send_all k kind body at l ≡ l
unfolding send_all
all_none kind body at l e = ap (λ (k : ℕ). send_all k kind body at l) e

-- what is left gives the whole
pub record Going (kind : ℕ) (body : List ℕ) (from : Laid) (n at : ℕ) (l : Laid) : Type 0 where
  pub turns : n ≤ 13
  pub inside : at ≤ length body
  pub range : InRange l.saved.state.queue
  pub same : send_all (13 - n) kind body at l ≡ send_all 13 kind body 0 from
  pub queue : length l.queue ≡ length from.queue
  pub kept : length l.kept ≡ length from.kept

pub piece-range : (kind : ℕ) (body : List ℕ) (at n : ℕ) (s : Sending) (f : Flight) (q m : List ℕ) → InRange s.queue → InRange (piece_of kind body at n s f q m).saved.state.queue
unfolding piece_of
piece-range kind body at n s f q m r = save_range s f (length q) (length m) (epoch_of kind) 22 (12 + n) r

module _ {kind : ℕ} {body : List ℕ} {from : Laid} {n at : ℕ} {l : Laid} (g : Going kind body from n at l) where
  pub going_end : 13 ≤ n → l ≡ send_all 13 kind body 0 from
  going_end h = let z : 13 - n ≡ 0 = omega arith in sym (all_none kind body at l z) ∙ g.same

  module _ (h : n < 13) {size : ℕ} (es : size ≡ size_now kind l.saved.state (length body - at)) {d : Laid}
      (e : d ≡ piece_of kind body at size l.saved.state l.saved.flight l.queue l.kept) (lq : length d.queue ≡ length l.queue) (lk : length d.kept ≡ length l.kept) where
    turn : 13 - n ≡ suc (13 - (n + 1))
    turn = omega arith

    same_after : d ≡ after kind body at l
    same_after = e ∙ ap (λ (k : ℕ). piece_of kind body at k l.saved.state l.saved.flight l.queue l.kept) es

    pub going_last : length body - (at + size) ≡ 0 → d ≡ send_all 13 kind body 0 from
    going_last z =
        same_after ∙ sym (ap (λ (k : ℕ). send_all k kind body at l) turn ∙ all-last kind body at l (13 - (n + 1)) (ap (λ (k : ℕ). length body - (at + k)) (sym es) ∙ z)) ∙ g.same

    pub going_more : (length body - (at + size) ≡ 0 → ⊥) → at + size ≤ length body → Going kind body from (n + 1) (at + size) d
    going_more z i =
        record {
          turns = omega arith;
          inside = i;
          range = rw e (piece-range kind body at size l.saved.state l.saved.flight l.queue l.kept g.range);
          same = rw (same_after, es) (sym (ap (λ (k : ℕ). send_all k kind body at l) turn
              ∙ all_more kind body at l (13 - (n + 1)) (λ y. z (ap (λ (k : ℕ). length body - (at + k)) es ∙ y))) ∙ g.same);
          queue = lq ∙ g.queue;
          kept = lk ∙ g.kept;
        }

-- ---- what the tests tell

pub record Safe (s : Sending) (n : ℕ) : Type 0 where
  pub range : InRange s.queue
  pub short : n ≤ 16384
  pub seq : s.message_seq < 65535

pub message_safe : (s : Sending) (f : Flight) (room kept kind n : ℕ) → is_done (message_answer s f room kept kind n) ≡ true → Safe s n
unfolding message_answer
message_safe s f room kept kind n =
    by_test (λ (a : SendAnswer). is_done a ≡ true → Safe s n)
    (λ r. by_test (λ (a : SendAnswer). is_done a ≡ true → Safe s n)
    (λ h. by_test (λ (a : SendAnswer). is_done a ≡ true → Safe s n)
    (λ l z. absurd (false≢true z))
    (λ l. by_test (λ (a : SendAnswer). is_done a ≡ true → Safe s n)
    (λ k. by_test (λ (a : SendAnswer). is_done a ≡ true → Safe s n)
    (λ q z. absurd (false≢true z))
    (λ q z. record { range = (ready r).range; short = ltb-false 16384 n l; seq = leb-false 65535 s.message_seq q }))
    (λ k z. absurd (false≢true z))))
    (λ h z. absurd (false≢true z)))
    (λ r z. absurd (false≢true z))

pub kept-few : (f : Flight) (mtu room : ℕ) → is_kept f mtu room ≡ true → f.saved ≤ 12
unfolding is_kept
kept-few f mtu room e = leb-true f.saved 12 (both_left _ _ e)
