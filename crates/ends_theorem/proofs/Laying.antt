-- Records laid in the queue: what waits was sent, under a number that was neither sent nor sealed before; the lines are the queue's records.
-- Through one send, and through a message piece by piece. Assumes nothing.
use Prim.Native.Nat.{ℕ, zero, suc, ◌+◌, ◌-◌, ◌<◌, ◌≤◌}
use Rattle.std.specs.Prelude.{eqb, true, ◌≡◌, refl}
use Rattle.std.proofs.Math.ListN.{length}
use mathlib.Core.List.Memᴰ.{append_cases as mem-append}
use mathlib.Core.List.Memᴰ.{eq_of_singleton as mem-single}
use mathlib.Core.List.Memᴰ.{head as here}
use mathlib.Core.List.{List, [], ◌∷◌, ◌++◌, append_assoc, Memᴰ as Mem}
use Rattle.std.proofs.Common.{⊎_elim, ◌∙◌, arith}
use Rattle.std.proofs.Math.Path.{sym, ap, subst}
use Rattle.base.specs.Choose.{choose, if_true, if_false, by_test, test_cases}
use Rattle.record.specs.Record.{plaintext_header}
use Rattle.queue.specs.Laid.{bytes-plaintext, trailer_of}
use Rattle.queue.specs.Queue.{last_len}
use Rattle.send_keys.specs.declared.SendKeys.{SendKeys}
use Rattle.send_keys.specs.Keys.{next_of}
use Rattle.outgoing.specs.declared.Sending.{Sending}
use Rattle.outgoing.specs.Send.{laid_state, laid_memory, send_answer, send_state, send_memory}
use Rattle.flight.specs.declared.Flight.{Flight}
use Rattle.flight.specs.declared.Saved.{Saved}
use Rattle.flight.specs.Save.{save_answer, save_state, save_queue}
use Rattle.messages.specs.Cut.{epoch_of, overhead, size-rest}
use Rattle.outgoing.specs.State.{numbered}
use Rattle.messages.specs.Message.{content_of, Laid, piece_of, send_all, beginning, message_state, message_queue, length-content}
use Rattle.waiting_laws.specs.Calls.{Stores}
use Rattle.waiting_laws.proofs.Pieces.{all_sent, numbered-holds, after_message}
use Rattle.waiting_laws.specs.Queued.{Queued, plain, waits, sealed, bytes_of, flat, Holds}
use Rattle.waiting_laws.proofs.Sends.{Sent, sent, saved, record_of, sent_to, laid-holds, after_send, sent-last}
use Rattle.history_theorem.specs.Claim.{as_handed}
use Rattle.history_theorem.proofs.Lists.{upd_same}
use Rattle.history_theorem.specs.Receiver.{Sealed, Handed}
use Rattle.send_keys.specs.Answer.{SendAnswer, is_done}
use Rattle.ends_theorem.proofs.Books.{written, lays, piece_size, piece, piece_books, lays_all, message_books}
use Rattle.ends_theorem.proofs.Laws.{upd-grows, by_three, by-four}
use Rattle.ends_theorem.proofs.Numbers.{Numbers, sent-numbers, Ivs, used-ivs}
use Rattle.ends_theorem.specs.Sender.{Line, done, due, Books, plain_bytes, line_of}

-- the header of a plaintext record is the claim's
plain-is : (t n : ℕ) (x : List ℕ) → plaintext_header t n (length x) ++ x ≡ plain_bytes t n x
unfolding plaintext_header
plain-is t n x = refl

-- the lines of the queue's records
abbrev pub line_in : Queued → Line
line_in (plain t n x) = done (bytes_of (plain t n x))
line_in (waits e t n x p) = due e n
line_in (sealed e t n x m p) = done (bytes_of (sealed e t n x m p))

abbrev pub lines_in : List Queued → List Line
lines_in [] = []
lines_in (r ∷ rs) = line_in r ∷ lines_in rs

pub lines-append : (rs us : List Queued) → lines_in (rs ++ us) ≡ lines_in rs ++ lines_in us
lines-append [] us = refl
lines-append (r ∷ rs) us = ap (λ (l : List Line). line_in r ∷ l) (lines-append rs us)

abbrev pub handed_as : ℕ → ℕ → List ℕ → Handed
handed_as n t x = record { num = n; type = t; content = x }

pub record Laying (log : ℕ → List Sealed) (gone : List Line) (ivs : ℕ → List ℕ) (s : Sending) (q : List ℕ) (ds : List (List Queued)) (b : Books) : Type 0 where
  pub holds : Holds s q ds
  pub numbers : Numbers s.keys b.sent
  pub waiting-sent : (e t n : ℕ) (x p : List ℕ) → Mem (waits e t n x p) (flat ds) → Mem (handed_as n t x) (b.sent e)
  pub sealed-sent : (e : ℕ) (r : Sealed) → Mem r (log e) → Mem (as_handed r) (b.sent e)
  pub apart : (e t n : ℕ) (x p : List ℕ) → Mem (waits e t n x p) (flat ds) → (r : Sealed) → Mem r (log e) → r.num ≡ n → ⊥
  pub lines : b.lines ≡ gone ++ lines_in (flat ds)
  pub same-ivs : Ivs s.keys ivs

-- another state with the same keys
pub alike-lays : {log : ℕ → List Sealed} {gone : List Line} {ivs : ℕ → List ℕ} {s u : Sending} {q : List ℕ} {ds : List (List Queued)} {b : Books} → Laying log gone ivs s q ds b
    → Holds u q ds → u.keys ≡ s.keys → Laying log gone ivs u q ds b
alike-lays {ivs = ivs} {b = b} i h same = record {
  holds = h;
  numbers = subst (λ (k : SendKeys). Numbers k b.sent) (sym same) i.numbers;
  waiting-sent = i.waiting-sent;
  sealed-sent = i.sealed-sent;
  apart = i.apart;
  lines = i.lines;
  same-ivs = subst (λ (k : SendKeys). Ivs k ivs) (sym same) i.same-ivs;
}

-- ---- one record more

module _ {log : ℕ → List Sealed} {gone : List Line} {ivs : ℕ → List ℕ} {s : Sending} {q : List ℕ} {ds : List (List Queued)} {b : Books} (i : Laying log gone ivs s q ds b)
    (e t : ℕ) (x : List ℕ) (c : Sent s (length q) e t (length x)) where
  abbrev n : ℕ
  n = next_of s.keys e

  grows : (k : ℕ) (h : Handed) → Mem h (b.sent k) → Mem h ((written s e t x b).sent k)
  grows = upd-grows b.sent e (handed_as n t x)

  -- one that waits is an earlier one, or this one
  one_of : {C : Type 0} (e' t' n' : ℕ) (x' p' : List ℕ) → Mem (waits e' t' n' x' p') (flat (sent_to s e t x ds)) → (Mem (waits e' t' n' x' p') (flat ds) → C)
      → (waits e' t' n' x' p' ≡ waits e t n x (x ++ trailer_of t e n) → C) → C
  one_of {C} e' t' n' x' p' m old new =
      ⊎_elim old
      (λ o. let p : waits e' t' n' x' p' ≡ record_of s e t x = mem-single o in
      by_test (λ (r : Queued). waits e' t' n' x' p' ≡ r → C) (λ z g. absurd (let w : ◌≡◌ {A = ℕ} 0 1 = cc in omega arith)) (λ z g. new g) p)
      (mem-append (flat ds) (subst (Mem (waits e' t' n' x' p')) (sent-last s e t x ds) m))

  line_same : lines_in (record_of s e t x ∷ []) ≡ line_of e t n x ∷ []
  line_same =
      test_cases (eqb e 0)
      (λ z. ap (λ (r : Queued). line_in r ∷ []) (if_true _ _ z) ∙ ap (λ (l : List ℕ). done l ∷ []) (bytes-plaintext refl t n x ∙ plain-is t n x) ∙ ap (λ (l : Line). l ∷ []) (sym (if_true _ _ z)))
      (λ z. ap (λ (r : Queued). line_in r ∷ []) (if_false _ _ z) ∙ ap (λ (l : Line). l ∷ []) (sym (if_false _ _ z)))

  laid_on : Laying log gone ivs (laid_state s e (length x)) (laid_memory s e t x q) (sent_to s e t x ds) (written s e t x b)
  laid_on = record {
    holds = laid-holds s q ds i.holds e t x c;
    numbers = unfold laid_state in (sent-numbers s.keys b.sent i.numbers e c.usable c.keyed (handed_as n t x) refl);
    waiting-sent = λ e' t' n' x' p' m.
        one_of e' t' n' x' p' m (λ o. grows e' (handed_as n' t' x') (i.waiting-sent e' t' n' x' p' o))
        (λ g.
        let a : e' ≡ e = cc in
        let u : handed_as n' t' x' ≡ handed_as n t x = same g in
        subst (λ (v : ℕ). Mem (handed_as n' t' x') ((written s e t x b).sent v)) (sym a)
        (subst (λ (l : List Handed). Mem (handed_as n' t' x') l) (sym (upd_same b.sent e (handed_as n t x ∷ b.sent e))) (here u)));
    sealed-sent = λ k r m. grows k (as_handed r) (i.sealed-sent k r m);
    apart = λ e' t' n' x' p' m r o z.
        one_of e' t' n' x' p' m (λ w. i.apart e' t' n' x' p' w r o z)
        (λ g.
        let a : e' ≡ e = cc in
        let u : n' ≡ n = cc in
        let l : r.num < n = i.numbers.below e (as_handed r) (i.sealed-sent e r (subst (λ (v : ℕ). Mem r (log v)) a o)) c.usable in
        omega arith);
    same-ivs = unfold laid_state in (used-ivs s.keys e ivs i.same-ivs);
    lines = ap (λ (l : List Line). l ++ (line_of e t n x ∷ [])) i.lines ∙ append_assoc gone (lines_in (flat ds)) (line_of e t n x ∷ [])
        ∙ ap (λ (l : List Line). gone ++ l)
        (ap (λ (l : List Line). lines_in (flat ds) ++ l) (sym line_same) ∙ sym (lines-append (flat ds) (record_of s e t x ∷ [])) ∙ ap lines_in (sym (sent-last s e t x ds)));
  }
    where
      same : {e' t' n' : ℕ} {x' p' : List ℕ} → waits e' t' n' x' p' ≡ waits e t n x (x ++ trailer_of t e n) → handed_as n' t' x' ≡ handed_as n t x
      same g = cc

-- wholly or not at all
module _ {log : ℕ → List Sealed} {gone : List Line} {ivs : ℕ → List ℕ} {s : Sending} {q : List ℕ} {ds : List (List Queued)} {b : Books} (i : Laying log gone ivs s q ds b)
    (e t : ℕ) (x : List ℕ) where
  lays-on : (a : SendAnswer) → (is_done a ≡ true → Sent s (length q) e t (length x))
      → Laying log gone ivs (choose (is_done a) (laid_state s e (length x)) s) (choose (is_done a) (laid_memory s e t x q) q) (after_send a s e t x ds) (lays a s e t x b)
  unfolding lays
  lays-on a f = by-four (Laying log gone ivs) (is_done a) (λ d. laid_on i e t x (f d)) (λ d. i)

  pub send_lays : let a = send_answer s (length q) e t (length x) in
      Laying log gone ivs (send_state a s e (length x)).state (send_memory a s e t x q) (after_send a s e t x ds) (lays a s e t x b)
  unfolding send_state send_memory
  send_lays = lays-on (send_answer s (length q) e t (length x)) (sent s (length q) e t (length x))

  pub save_lays : (f : Flight) (room : ℕ) → let a = save_answer s f (length q) room e t (length x) in
      Laying log gone ivs (save_state s f (length q) room e t (length x)).state (save_queue s f room e t x q) (after_send a s e t x ds) (lays a s e t x b)
  unfolding save_state save_queue
  save_lays f room = lays-on (save_answer s f (length q) room e t (length x)) (saved s f (length q) room e t (length x))

-- ---- a message, piece by piece

module _ (log : ℕ → List Sealed) (gone : List Line) (ivs : ℕ → List ℕ) where
  piece-lays : (kind : ℕ) (body : List ℕ) (at : ℕ) (l : Laid) (ds : List (List Queued)) (b : Books) → at + piece_size kind body at l ≤ length body
      → Laying log gone ivs l.saved.state l.queue ds b
      → let s = l.saved.state in
      let x = content_of kind s.message_seq body at (piece_size kind body at l) in
      Laying log gone ivs (piece kind body at l).saved.state (piece kind body at l).queue
      (after_send (save_answer s l.saved.flight (length l.queue) (length l.kept) (epoch_of kind) 22 (12 + piece_size kind body at l)) s (epoch_of kind) 22 x ds)
      (piece_books kind body at l b)
  unfolding piece_of
  piece-lays kind body at l ds b low i =
      let s : Sending = l.saved.state in
      let f : Flight = l.saved.flight in
      let x : List ℕ = content_of kind s.message_seq body at (piece_size kind body at l) in
      let e : ℕ = epoch_of kind in
      subst (λ (k : ℕ). Laying log gone ivs (save_state s f (length l.queue) (length l.kept) e 22 k).state (save_queue s f (length l.kept) e 22 x l.queue)
      (after_send (save_answer s f (length l.queue) (length l.kept) e 22 k) s e 22 x ds) (lays (save_answer s f (length l.queue) (length l.kept) e 22 k) s e 22 x b))
      (length-content kind s.message_seq body at (piece_size kind body at l) low) (save_lays i e 22 x f (length l.kept))

  all-lays : (k kind : ℕ) (body : List ℕ) (at : ℕ) (l : Laid) (ds : List (List Queued)) (b : Books) → at ≤ length body
      → Laying log gone ivs l.saved.state l.queue ds b
      → Laying log gone ivs (send_all k kind body at l).saved.state (send_all k kind body at l).queue (all_sent k kind body at l ds) (lays_all k kind body at l b)
  unfolding send_all all_sent lays_all
  all-lays zero kind body at l ds b h i = i
  all-lays (suc k) kind body at l ds b h i =
      let m : ℕ = piece_size kind body at l in
      let low : at + m ≤ length body = omega (arith, size-rest l.saved.state.queue.mtu (overhead (epoch_of kind)) (last_len l.saved.state.queue) (length body - at)) in
      let p : Laid = piece kind body at l in
      let us : List (List Queued) =
      after_send (save_answer l.saved.state l.saved.flight (length l.queue) (length l.kept) (epoch_of kind) 22 (12 + m)) l.saved.state (epoch_of kind) 22
      (content_of kind l.saved.state.message_seq body at m) ds in
      let c : Books = piece_books kind body at l b in
      let one = piece-lays kind body at l ds b low i in
      by_three (λ (v : Laid) (vs : List (List Queued)) (d : Books). Laying log gone ivs v.saved.state v.queue vs d) (eqb (length body - (at + m)) 0)
      (λ z. one) (λ z. all-lays k kind body (at + m) p us c low one)

  pub message-lays : (a : SendAnswer) (w : Stores) (kind : ℕ) (body : List ℕ) (ds : List (List Queued)) (b : Books) → Laying log gone ivs w.state w.queue ds b
      → Laying log gone ivs (message_state a w.state w.flight w.queue w.kept kind body).state (message_queue a w.state w.flight w.queue w.kept kind body)
      (after_message a w.state w.flight w.queue w.kept kind body ds) (message_books a w kind body b)
  unfolding message_state message_queue message_books
  message-lays a w kind body ds b i =
      let l : Laid = send_all 13 kind body 0 (beginning w.state w.flight w.queue w.kept) in
      let us : List (List Queued) = all_sent 13 kind body 0 (beginning w.state w.flight w.queue w.kept) ds in
      let c : Books = lays_all 13 kind body 0 (beginning w.state w.flight w.queue w.kept) b in
      by-four (λ (r : Saved) (m : List ℕ) (vs : List (List Queued)) (d : Books). Laying log gone ivs r.state m vs d) (is_done a)
      {a = record { answer = a; state = numbered l.saved.state (w.state.message_seq + 1); flight = l.saved.flight }}
      {a' = record { answer = a; state = w.state; flight = w.flight }} {b = l.queue} {b' = w.queue} {c = us} {c' = ds} {d = c} {d' = b}
      (λ z.
      let all = all-lays 13 kind body 0 (beginning w.state w.flight w.queue w.kept) ds b (omega arith) i in
      alike-lays all (numbered-holds l.saved.state l.queue us (w.state.message_seq + 1) all.holds) refl)
      (λ z. i)
