-- The sending half through each of its calls: what waits, what was sent, sealed and taken. Assumes nothing.
use Prim.Native.Nat.{ℕ, ◌+◌, ◌*◌, ◌<◌, ◌≤◌}
use Rattle.std.proofs.Common.{eq-eqb, ne_eqb, true≢false, sym, subst, ◌∙◌, arith}
use Rattle.std.specs.Prelude.{length, take, get_or, true, false, ◌⊎◌, ◌≡◌, Some, None, Ok, Err}
use Rattle.std.proofs.lemmas.Bool.{false≢true}
use mathlib.Core.List.Memᴰ.{append_right as mem-right}
use mathlib.Core.List.Memᴰ.{head as here}
use mathlib.Core.List.Memᴰ.{tail as there}
use mathlib.Core.List.{List, [], ◌∷◌, ◌++◌, append_assoc, append-nil, Memᴰ as Mem}
use Rattle.std.proofs.Math.Logic.{⊎_elim}
use Rattle.std.proofs.Math.Option.{Option, none, some}
use Rattle.std.proofs.Math.Path.{refl, ap}
use Rattle.base.specs.Choose.{if_true, if_false, by_test, test_cases, eq-or_ne}
use Rattle.base.specs.Parts.{part, part-first, splice, splice-here}
use Rattle.dtls_aead.specs.Nonce.{nonce_of}
use Rattle.queue.specs.Queue.{is_setting, is_sound}
use Rattle.send_keys.specs.Answer.{SendAnswer}
use Rattle.send_keys.specs.declared.SendKeys.{SendKeys}
use Rattle.send_keys.specs.Keys.{next_of, next-handshake, iv_of, key_answer, no_epoch, no_keys}
use Rattle.outgoing.specs.declared.Sending.{Sending}
use Rattle.outgoing.specs.State.{fresh_sending, keying_state}
use Rattle.sealing.specs.Laws.{refused-state, refused-memory}
use Rattle.sealing.specs.Sealing.{SealAnswer, part_start, masked_header, seal_answer, is_sealed, sealed_memory}
use Rattle.taking.specs.declared.TakeError.TheVariants as took
use Rattle.taking.specs.Laws.{kept-state}
use Rattle.taking.specs.Laws.{taken-length}
use Rattle.taking.specs.Take.{TakeAnswer, front_len, take_answer, is_taken, take_state, take_buffer, takes}
use Rattle.messages.specs.Message.{message_answer}
use Rattle.resend.specs.Tests.{resend_answer}
use Rattle.waiting_laws.specs.Calls.{Stores, SendCall, key_send·, send·, save·, message·, begin_flight·, resend·, note·, send_ack·, ack·, fill·, sealed·, take·, stored}
use Rattle.waiting_laws.proofs.Effects.{Waited, oldest-first}
use Rattle.waiting_laws.proofs.Facts.{each-lies, waits-between, waits-under}
use Rattle.waiting_laws.proofs.First.{put_with, first_in, flat-first}
use Rattle.waiting_laws.proofs.Fresh.{fresh_holds}
use Rattle.waiting_laws.proofs.Keying.{keying-holds}
use Rattle.waiting_laws.proofs.Oldest.{waiting-cases, first-of, names-first, fill_holds}
use Rattle.waiting_laws.specs.Queued.{Queued, plain, waits, sealed, bytes_of, bytes, flat, waiting_of, waits_in, sealed_of, Holds}
use Rattle.waiting_laws.proofs.Runs.{after, call_effect}
use Rattle.waiting_laws.proofs.Seals.{after_reply}
use Rattle.waiting_laws.specs.Takes.{after_taken}
use Rattle.waiting_laws.proofs.Takes.{front-size, take-told, taken-settled, take-holds, take-bytes}
use Rattle.history_theorem.specs.Account.{upd}
use Rattle.history_theorem.specs.Claim.{Masks, nonce_for}
use Rattle.history_theorem.proofs.Cut.{nonce-own}
use Rattle.history_theorem.proofs.Direction.{Shaped}
use Rattle.history_theorem.specs.Half.{Shape}
use Rattle.history_theorem.proofs.Lists.{by_both, upd-by, some_inj, some≢none, mem-by}
use Rattle.history_theorem.specs.Receiver.{Sealed}
use Rattle.record.specs.Record.{sealed_tail}
use Rattle.ends_theorem.proofs.Asked.{lent_for, LentIs, first-mem, part-is, lends-is, shows-after}
use Rattle.ends_theorem.proofs.Books.{sends_by}
use Rattle.ends_theorem.proofs.Laws.{upd-grows}
use Rattle.ends_theorem.proofs.Laying.{line_in, lines_in, lines-append, Laying, send_lays, save_lays, message-lays}
use Rattle.ends_theorem.proofs.Numbers.{Numbers, new-epoch, keyed-numbers, Ivs, keyed-ivs}
use Rattle.ends_theorem.proofs.Replies.{logged, sealed_tests, sealed-is, shape_is, not_sealed, reply-lays}
use Rattle.ends_theorem.proofs.Resends.{resend_lays, ack-lays}
use Rattle.ends_theorem.specs.Sender.{Line, done, due, Books, Lent, lends, finished, AllDone, joined, datagrams, Taken, Sender, sealed_as, finish, FairSeal, FairSend, turns, keyed_by, sealed_by, finished_by, taken_by, new_sender}

-- no number is sealed twice in an epoch
abbrev pub SealedOnce : (ℕ → List Sealed) → Type 0
SealedOnce log = (e : ℕ) (r q : Sealed) → Mem r (log e) → Mem q (log e) → r.num ≡ q.num → r ≡ q

pub record Sends (masks : Masks) (x : Sender) : Type 0 where
  -- what the queue's memory means, and the lines of the datagrams taken
  pub ds : List (List Queued)
  pub gone : List Line
  pub over : AllDone gone
  pub laying : Laying x.sealed gone x.ivs x.stores.state x.stores.queue ds x.books
  pub lent : LentIs x.stores.state x.lent (waiting_of (flat ds))
  pub once : SealedOnce x.sealed
  pub shaped : Shaped masks x.sealed
  -- the lines gone, in groups: one for each datagram taken
  pub groups : List (List Line)
  pub parted : joined groups ≡ gone
  pub taken : x.taken ≡ datagrams groups

-- ---- lines

all_done : (gone ls : List Line) → AllDone gone → AllDone ls → AllDone (gone ++ ls)
all_done [] ls a b = b
all_done (done c ∷ gone) ls a b = all_done gone ls a b
all_done (due e n ∷ gone) ls a b = absurd a

settled_lines : (d : List Queued) → waits_in d ≡ false → AllDone (lines_in d) × (finished (lines_in d) ≡ bytes d)
settled_lines [] h = (tt, refl)
settled_lines (plain t n x ∷ d) h = let r = settled_lines d h in (r.0, ap (λ (l : List ℕ). bytes_of (plain t n x) ++ l) r.1)
settled_lines (waits e t n x p ∷ d) h = absurd (true≢false h)
settled_lines (sealed e t n x m p ∷ d) h = let r = settled_lines d h in (r.0, ap (λ (l : List ℕ). bytes_of (sealed e t n x m p) ++ l) r.1)

joined-more : (gs : List (List Line)) (g : List Line) → joined (gs ++ (g ∷ [])) ≡ joined gs ++ g
joined-more [] g = append-nil g
joined-more (h ∷ gs) g = ap (λ (l : List Line). h ++ l) (joined-more gs g) ∙ sym (append_assoc h (joined gs) g)

datagrams-more : (gs : List (List Line)) (g : List Line) → datagrams (gs ++ (g ∷ [])) ≡ datagrams gs ++ (finished g ∷ [])
datagrams-more [] g = refl
datagrams-more (h ∷ gs) g = ap (λ (l : List (List ℕ)). finished h ∷ l) (datagrams-more gs g)

-- ---- what is taken

untaken : (a : TakeAnswer) (buffer : List ℕ) (ts : List (List ℕ)) → is_taken a ≡ false → taken_by a buffer ts ≡ ts
untaken (Ok (Some n)) buffer ts f = absurd (true≢false f)
untaken (Err took.OutOfRange) buffer ts f = refl
untaken (Ok None) buffer ts f = refl
untaken (Err took.Unsealed) buffer ts f = refl
untaken (Err (took.Short n)) buffer ts f = refl

untaken-ds : (a : TakeAnswer) (ds : List (List Queued)) → is_taken a ≡ false → after_taken a ds ≡ ds
untaken-ds a [] f = refl
untaken-ds a (d ∷ ds) f = if_false _ _ f

-- ---- the log

more-once : (log : ℕ → List Sealed) → SealedOnce log → (e : ℕ) (new : Sealed) → ((r : Sealed) → Mem r (log e) → r.num ≡ new.num → ⊥)
    → SealedOnce (upd log e (new ∷ log e))
more-once log one e new none_yet k r q =
    upd-by log e (new ∷ log e) (λ k l. Mem r l → Mem q l → r.num ≡ q.num → r ≡ q) k
    (λ same m o z.
    mem-by m
    (λ (u : r ≡ new). mem-by o (λ (v : q ≡ new). u ∙ sym v) (λ o'. absurd (none_yet q o' (sym z ∙ ap (λ (a : Sealed). a.num) u))))
    (λ m'. mem-by o (λ (v : q ≡ new). absurd (none_yet r m' (z ∙ ap (λ (a : Sealed). a.num) v))) (λ o'. one e r q m' o' z)))
    (λ other m o z. one k r q m o z)

more-shaped : (masks : Masks) (log : ℕ → List Sealed) → Shaped masks log → (e : ℕ) (new : Sealed) → Shape masks e new → Shaped masks (upd log e (new ∷ log e))
more-shaped masks log s e new shape k r =
    upd-by log e (new ∷ log e) (λ k l. Mem r l → Shape masks k r) k
    (λ same m. subst (λ (v : ℕ). Shape masks v r) (sym same) (mem-by m (λ (u : r ≡ new). subst (Shape masks e) (sym u) shape) (λ m'. s e r m'))) (λ other m. s k r m)

-- a refused reply logs nothing
log-same : (a : SealAnswer) (o : Option Lent) (before behind : List ℕ) (f : ℕ → List Sealed) → is_sealed a ≡ false → sealed_by a o before behind f ≡ f
log-same a none before behind f d = refl
log-same a (some l) before behind f d = if_false _ _ d

books-same : (a : SealAnswer) (o : Option Lent) (before behind : List ℕ) (b : Books) → is_sealed a ≡ false → finished_by a o before behind b ≡ b
books-same a none before behind b d = refl
books-same a (some l) before behind b d = if_false _ _ d

-- ---- the host's bytes in the part of the first that waits

put-was : {C : Type 0} (v : List ℕ) (e t n : ℕ) (c p : List ℕ) (rs : List Queued) → Mem (waits e t n c p) (first_in (put_with v) rs)
    → ((p' : List ℕ) → Mem (waits e t n c p') rs → C) → C
put-was v e t n c p [] m f = f p m
put-was v e t n c p (plain a b d ∷ rs) m f =
    mem-by m (λ (q : waits e t n c p ≡ plain a b d). f p (here q)) (λ o. put-was v e t n c p rs o (λ p' o'. f p' (there o')))
put-was v e t n c p (waits a b d g h ∷ rs) m f =
    mem-by m
    (λ (q : waits e t n c p ≡ waits a b d g v).
    let i : e ≡ a = cc in
    let j : t ≡ b = cc in
    let k : n ≡ d = cc in
    let l : c ≡ g = cc in
    f h (here (rw (i, j, k, l))))
    (λ o. f p (there o))
put-was v e t n c p (sealed a b d g h k ∷ rs) m f =
    mem-by m (λ (q : waits e t n c p ≡ sealed a b d g h k). f p (here q)) (λ o. put-was v e t n c p rs o (λ p' o'. f p' (there o')))

put-lines : (v : List ℕ) (rs : List Queued) → lines_in (first_in (put_with v) rs) ≡ lines_in rs
put-lines v [] = refl
put-lines v (plain a b d ∷ rs) = ap (λ (l : List Line). line_in (plain a b d) ∷ l) (put-lines v rs)
put-lines v (waits a b d g h ∷ rs) = refl
put-lines v (sealed a b d g h k ∷ rs) = ap (λ (l : List Line). line_in (sealed a b d g h k) ∷ l) (put-lines v rs)

-- ---- a call that seals and takes nothing

module _ (masks : Masks) (x : Sender) (i : Sends masks x) where
  abbrev w : Stores
  w = x.stores

  -- the question behind a call that does one of the five things
  shown-then : (s : Sending) (q : List ℕ) (us : List (List Queued)) → Holds s q us → Waited (flat i.ds) (flat us)
      → LentIs s (lends s q x.lent) (waiting_of (flat us))
  shown-then s q us h v =
      lends-is s q us h x.lent (shows-after x.stores.state x.stores.queue i.ds us i.laying.holds x.lent i.lent v)

  simple : (v : Stores) (us : List (List Queued)) (b : Books) (ivs : ℕ → List ℕ) → Laying x.sealed i.gone ivs v.state v.queue us b
      → Waited (flat i.ds) (flat us) → Sends masks (turns x v b ivs x.sealed x.taken)
  simple v us b ivs l wt = record {
    ds = us;
    gone = i.gone;
    over = i.over;
    laying = l;
    lent = shown-then v.state v.queue us l.holds wt;
    once = i.once;
    shaped = i.shaped;
    groups = i.groups;
    parted = i.parted;
    taken = i.taken;
  }

  effect : (c : SendCall) → Waited (flat i.ds) (flat (after x.stores c i.ds))
  effect c = oldest-first _ _ (call_effect x.stores c i.ds i.laying.holds)

  send_keeps : (e t : ℕ) (c : List ℕ) → Sends masks (sends_by x (send· e t c))
  send_keeps e t c = simple _ _ _ x.ivs (send_lays i.laying e t c) (effect (send· e t c))

  save_keeps : (e t : ℕ) (c : List ℕ) → Sends masks (sends_by x (save· e t c))
  save_keeps e t c = simple _ _ _ x.ivs (save_lays i.laying e t c x.stores.flight (length x.stores.kept)) (effect (save· e t c))

  message-keeps : (kind : ℕ) (body : List ℕ) → Sends masks (sends_by x (message· kind body))
  message-keeps kind body =
      simple _ _ _ x.ivs
      (message-lays x.sealed i.gone x.ivs
      (message_answer w.state w.flight (length w.queue) (length w.kept) kind (length body)) w kind body i.ds x.books i.laying)
      (effect (message· kind body))

  begin_keeps : Sends masks (sends_by x begin_flight·)
  begin_keeps = simple _ i.ds _ x.ivs i.laying (effect begin_flight·)

  resend_keeps : Sends masks (sends_by x resend·)
  resend_keeps =
      simple _ _ _ x.ivs
      (resend_lays x.sealed i.gone x.ivs
      (resend_answer w.state w.flight (length w.queue) (length w.kept)) w i.ds x.books i.laying) (effect resend·)

  send_ack_keeps : Sends masks (sends_by x send_ack·)
  send_ack_keeps = simple _ _ _ x.ivs (ack-lays x.sealed i.gone x.ivs w i.ds x.books i.laying) (effect send_ack·)

  note_keeps : (e n : ℕ) → Sends masks (sends_by x (note· e n))
  note_keeps e n = simple _ i.ds _ x.ivs i.laying (effect (note· e n))

  ack-keeps : (d : List ℕ) → Sends masks (sends_by x (ack· d))
  ack-keeps d = simple _ i.ds _ x.ivs i.laying (effect (ack· d))

  -- stores as they were
  pub turned : (v : Stores) → v ≡ x.stores → Sends masks (turns x v x.books x.ivs x.sealed x.taken)
  turned v is =
      subst (λ (v : Stores). Sends masks (turns x v x.books x.ivs x.sealed x.taken)) (sym is)
      (simple x.stores i.ds x.books x.ivs i.laying (effect begin_flight·))

  -- ---- the host's bytes

  fill_lays : (v : List ℕ) → Laying x.sealed i.gone x.ivs w.state (stored w (fill· v)).queue (after w (fill· v) i.ds) x.books
  fill_lays v = record {
    holds = fill_holds w.state w.queue i.ds i.laying.holds v;
    numbers = i.laying.numbers;
    waiting-sent = λ e t n c p m. waited-before v e t n c p m (λ p' o. i.laying.waiting-sent e t n c p' o);
    sealed-sent = i.laying.sealed-sent;
    apart = λ e t n c p m. waited-before v e t n c p m (λ p' o. i.laying.apart e t n c p' o);
    lines = i.laying.lines ∙ ap (λ (l : List Line). i.gone ++ l) (sym (lines_then v));
    same-ivs = i.laying.same-ivs;
  }
    where
      waited-before : {C : Type 0} (v : List ℕ) (e t n : ℕ) (c p : List ℕ) → Mem (waits e t n c p) (flat (after w (fill· v) i.ds))
          → ((p' : List ℕ) → Mem (waits e t n c p') (flat i.ds) → C) → C
      waited-before {C} v e t n c p m f =
          by_test (λ (us : List (List Queued)). Mem (waits e t n c p) (flat us) → C)
          (λ z o. put-was v e t n c p (flat i.ds) (subst (Mem (waits e t n c p)) (flat-first (put_with v) i.ds) o) f) (λ z o. f p o) m

      lines_then : (v : List ℕ) → lines_in (flat (after w (fill· v) i.ds)) ≡ lines_in (flat i.ds)
      lines_then v =
          by_test (λ (us : List (List Queued)). lines_in (flat us) ≡ lines_in (flat i.ds))
          (λ z. ap lines_in (flat-first (put_with v) i.ds) ∙ put-lines v (flat i.ds)) (λ z. refl)

  fill_keeps : (v : List ℕ) → Sends masks (sends_by x (fill· v))
  fill_keeps v = simple _ _ _ x.ivs (fill_lays v) (effect (fill· v))

  -- ---- keying

  key_keeps : (e : ℕ) (iv : List ℕ) → e < 65536 → Sends masks (sends_by x (key_send· e iv))
  key_keeps e iv small =
      simple _ i.ds _ _ (record {
        holds = keying-holds w.state w.queue i.ds i.laying.holds e iv small;
        numbers = key_numbers;
        waiting-sent = i.laying.waiting-sent;
        sealed-sent = i.laying.sealed-sent;
        apart = i.laying.apart;
        lines = i.laying.lines;
        same-ivs = key_ivs;
      }) (effect (key_send· e iv))
    where
      a : SendAnswer
      a = key_answer w.state.keys (is_sound w.state.queue) e

      key_numbers : Numbers (keying_state w.state e iv).state.keys x.books.sent
      key_numbers = unfold keying_state in
          (by_test (λ (s : Sending). Numbers s.keys x.books.sent)
          (λ t. keyed-numbers w.state.keys x.books.sent i.laying.numbers e iv (new-epoch w.state.keys (is_sound w.state.queue) e t))
          (λ t. i.laying.numbers))

      key_ivs : Ivs (keying_state w.state e iv).state.keys (keyed_by (keying_state w.state e iv) e iv x.ivs)
      key_ivs = unfold keying_state in
          (by_both (λ (s : Sending) (f : ℕ → List ℕ). Ivs s.keys f) refl
          (λ t. keyed-ivs w.state.keys e iv x.ivs (new-epoch w.state.keys (is_sound w.state.queue) e t) i.laying.same-ivs)
          (λ t. i.laying.same-ivs))

  -- ---- a sealing reply

  sealing : (k : ℕ) (m : List ℕ) (b : Books) (log : ℕ → List Sealed)
      → Laying log i.gone x.ivs (stored w (sealed· k m)).state (stored w (sealed· k m)).queue (after_reply (seal_answer w.state (length w.queue) k) m i.ds) b
      → SealedOnce log → Shaped masks log → Sends masks (turns x (stored w (sealed· k m)) b x.ivs log x.taken)
  sealing k m b log l one shapes = record {
    ds = _;
    gone = i.gone;
    over = i.over;
    laying = l;
    lent = shown-then _ _ _ l.holds (effect (sealed· k m));
    once = one;
    shaped = shapes;
    groups = i.groups;
    parted = i.parted;
    taken = i.taken;
  }

  refused-reply : (k : ℕ) (m : List ℕ) → is_sealed (seal_answer w.state (length w.queue) k) ≡ false → Sends masks (sends_by x (sealed· k m))
  refused-reply k m f =
      let a : SealAnswer = seal_answer w.state (length w.queue) k in
      subst (λ (b : Books). Sends masks (turns x (stored w (sealed· k m)) b x.ivs (sealed_by a x.lent w.queue (sealed_memory a w.state m w.queue) x.sealed) x.taken))
      (sym (books-same a x.lent w.queue (sealed_memory a w.state m w.queue) x.books f))
      (subst (λ (log : ℕ → List Sealed). Sends masks (turns x (stored w (sealed· k m)) x.books x.ivs log x.taken))
      (sym (log-same a x.lent w.queue (sealed_memory a w.state m w.queue) x.sealed f))
      (sealing k m x.books x.sealed
      (subst (λ (s : Sending). Laying x.sealed i.gone x.ivs s (sealed_memory a w.state m w.queue) (after_reply a m i.ds) x.books)
      (sym (refused-state a f w.state w.queue))
      (subst (λ (q : List ℕ). Laying x.sealed i.gone x.ivs w.state q (after_reply a m i.ds) x.books) (sym (refused-memory a f w.state w.queue m))
      (subst (λ (us : List (List Queued)). Laying x.sealed i.gone x.ivs w.state w.queue us x.books) (sym (if_false _ _ f)) i.laying)))
      i.once i.shaped))

  module _ (k : ℕ) (m : List ℕ) (d : is_sealed (seal_answer w.state (length w.queue) k) ≡ true) (fair : FairSeal masks x.lent w.queue k m)
      (e t n : ℕ) (c p : List ℕ) (us : List Queued) (y : waiting_of (flat i.ds) ≡ waits e t n c p ∷ us) where
    abbrev answer : SealAnswer
    answer = seal_answer w.state (length w.queue) k

    abbrev behind : List ℕ
    behind = sealed_memory (seal_answer w.state (length w.queue) k) w.state m w.queue

    shown : x.lent ≡ some (lent_for w.state e t n c)
    shown = subst (LentIs w.state x.lent) y i.lent

    is : sealed_as (lent_for w.state e t n c) w.queue behind ≡ logged e t n c m p
    is = sealed-is w.state w.queue i.ds i.laying.holds k m d e t n c p us y

    log-then : sealed_by answer x.lent w.queue behind x.sealed ≡ upd x.sealed e (logged e t n c m p ∷ x.sealed e)
    log-then =
        ap (λ (o : Option Lent). sealed_by answer o w.queue behind x.sealed) shown ∙ if_true _ _ d ∙ ap (λ (r : Sealed). upd x.sealed e (r ∷ x.sealed e)) is

    books-then : finished_by answer x.lent w.queue behind x.books
        ≡ record { sent = x.books.sent; lines = finish e n (masked_header e n (length c + sealed_tail) m ++ p) x.books.lines }
    books-then =
        ap (λ (o : Option Lent). finished_by answer o w.queue behind x.books) shown ∙ if_true _ _ d
        ∙ ap (λ (r : Sealed). record { sent = x.books.sent; lines = finish e n r.wire x.books.lines }) is

    -- the sender's mask
    right-length : k ≡ length c + sealed_tail
    right-length = (sealed_tests w.state w.queue i.ds i.laying.holds k d).1 ∙ (names-first w.state w.queue i.ds i.laying.holds e t n c p us y).size

    mine : (get_or m 0 0 ≡ get_or (masks e (part (part_start w.state) 16 w.queue)) 0 0) × (get_or m 1 0 ≡ get_or (masks e (part (part_start w.state) 16 w.queue)) 1 0)
    mine = subst (λ (o : Option Lent). FairSeal masks o w.queue k m) shown fair right-length

    sample : part (part_start w.state) 16 w.queue ≡ take 16 p
    sample =
        sym (part-first (part_start w.state) 16 (length c + sealed_tail) w.queue (omega arith))
        ∙ ap (take 16) (part-is w.state w.queue i.ds i.laying.holds e t n c p us y)

    shape : Shape masks e (logged e t n c m p)
    shape =
        shape_is w.state w.queue i.ds i.laying.holds k m d e t n c p us y masks
        (mine.0 ∙ ap (λ (l : List ℕ). get_or (masks e l) 0 0) sample) (mine.1 ∙ ap (λ (l : List ℕ). get_or (masks e l) 1 0) sample)

    accepted-reply : Sends masks (sends_by x (sealed· k m))
    accepted-reply =
        subst (λ (b : Books). Sends masks (turns x (stored w (sealed· k m)) b x.ivs (sealed_by answer x.lent w.queue behind x.sealed) x.taken)) (sym books-then)
        (subst (λ (log : ℕ → List Sealed). Sends masks (turns x (stored w (sealed· k m))
        (record { sent = x.books.sent; lines = finish e n (masked_header e n (length c + sealed_tail) m ++ p) x.books.lines }) x.ivs log x.taken)) (sym log-then)
        (sealing k m _ _
        (reply-lays x.sealed i.gone x.ivs i.over w.state w.queue i.ds x.books i.laying k m d e t n c p us y)
        (more-once x.sealed i.once e (logged e t n c m p)
        (λ r o z. not_sealed x.sealed i.gone x.ivs i.over w.state w.queue i.ds x.books i.laying k m d e t n c p us y r o z))
        (more-shaped masks x.sealed i.shaped e (logged e t n c m p) shape)))

  reply-keeps : (k : ℕ) (m : List ℕ) → FairSeal masks x.lent w.queue k m → Sends masks (sends_by x (sealed· k m))
  reply-keeps k m fair =
      test_cases (is_sealed (seal_answer w.state (length w.queue) k))
      (λ d.
      let f = first-of (flat i.ds) (sealed_tests w.state w.queue i.ds i.laying.holds k d).0 in
      accepted-reply k m d fair f.epoch f.kind f.number f.content f.part f.others f.is)
      (λ d. refused-reply k m d)

  -- ---- taking a datagram

  same-take : (buffer : List ℕ) → is_taken (take_answer w.state (length w.queue) (length buffer)) ≡ false → Sends masks (sends_by x (take· buffer))
  same-take buffer f =
      let a : TakeAnswer = take_answer w.state (length w.queue) (length buffer) in
      subst (λ (ts : List (List ℕ)). Sends masks (turns x (stored w (take· buffer)) x.books x.ivs x.sealed ts))
      (sym (untaken a (take_buffer a w.state w.queue buffer) x.taken f))
      (simple (stored w (take· buffer)) (after_taken a i.ds) x.books x.ivs
      (subst (λ (s : Sending). Laying x.sealed i.gone x.ivs s w.queue (after_taken a i.ds) x.books) (sym (kept-state a f w.state))
      (subst (λ (us : List (List Queued)). Laying x.sealed i.gone x.ivs w.state w.queue us x.books) (sym (untaken-ds a i.ds f)) i.laying))
      (effect (take· buffer)))

  module _ (buffer : List ℕ) (d : List Queued) (us : List (List Queued)) (is : i.ds ≡ d ∷ us)
      (t : is_taken (take_answer w.state (length w.queue) (length buffer)) ≡ true) where
    abbrev given : TakeAnswer
    given = take_answer w.state (length w.queue) (length buffer)

    holds_then : Holds w.state w.queue (d ∷ us)
    holds_then = subst (Holds w.state w.queue) is i.laying.holds

    settled : waits_in d ≡ false
    settled = taken-settled w.state w.queue d us holds_then (length buffer) t

    after_is : after_taken given i.ds ≡ us
    after_is = ap (after_taken given) is ∙ if_true _ _ t

    -- what the host finds in its buffer
    found : part 0 (front_len w.state) (take_buffer given w.state w.queue buffer) ≡ bytes d
    found =
        let size = front-size w.state w.queue d us holds_then in
        let room = (takes w.state (length w.queue) (length buffer) t).fits in
        ap (part 0 (front_len w.state)) (take-bytes w.state w.queue buffer d us holds_then t) ∙ ap (λ (n : ℕ). part 0 n (splice 0 (bytes d) buffer)) size
        ∙ splice-here 0 (bytes d) buffer (omega arith)

    taken_then : taken_by given (take_buffer given w.state w.queue buffer) x.taken ≡ x.taken ++ (bytes d ∷ [])
    taken_then =
        ap (λ (a : TakeAnswer). taken_by a (take_buffer given w.state w.queue buffer) x.taken) (taken-length w.state (length w.queue) (length buffer) t)
        ∙ ap (λ (b : List ℕ). x.taken ++ (b ∷ [])) found

    abbrev gone' : List Line
    gone' = i.gone ++ lines_in d

    lays-then : Laying x.sealed gone' x.ivs (stored w (take· buffer)).state w.queue us x.books
    lays-then = record {
      holds = subst (Holds (stored w (take· buffer)).state w.queue) after_is
          (take-holds w.state w.queue i.ds i.laying.holds (length buffer));
      numbers = keys-same (λ (k : SendKeys). Numbers k x.books.sent) i.laying.numbers;
      waiting-sent = λ e k n c p m. i.laying.waiting-sent e k n c p (earlier (waits e k n c p) m);
      sealed-sent = i.laying.sealed-sent;
      apart = λ e k n c p m. i.laying.apart e k n c p (earlier (waits e k n c p) m);
      lines = i.laying.lines ∙ ap (λ (l : List (List Queued)). i.gone ++ lines_in (flat l)) is ∙ ap (λ (l : List Line). i.gone ++ l) (lines-append d (flat us))
          ∙ sym (append_assoc i.gone (lines_in d) (lines_in (flat us)));
      same-ivs = keys-same (λ (k : SendKeys). Ivs k x.ivs) i.laying.same-ivs;
    }
      where
        earlier : (r : Queued) → Mem r (flat us) → Mem r (flat i.ds)
        earlier r m = subst (λ (l : List (List Queued)). Mem r (flat l)) (sym is) (mem-right d m)

        keys-same : (P : SendKeys → Type 0) → P w.state.keys → P (stored w (take· buffer)).state.keys
        keys-same P h = unfold take_state in (by_test (λ (s : Sending). P s.keys) (λ z. h) (λ z. h))

    taken-keeps : Sends masks (sends_by x (take· buffer))
    taken-keeps =
        subst (λ (ts : List (List ℕ)). Sends masks (turns x (stored w (take· buffer)) x.books x.ivs x.sealed ts)) (sym taken_then) (record {
          ds = us;
          gone = gone';
          over = all_done i.gone (lines_in d) i.over (settled_lines d settled).0;
          laying = lays-then;
          lent = shown-then _ _ us lays-then.holds
              (subst (λ (l : List (List Queued)). Waited (flat i.ds) (flat l)) after_is (effect (take· buffer)));
          once = i.once;
          shaped = i.shaped;
          groups = i.groups ++ (lines_in d ∷ []);
          parted = joined-more i.groups (lines_in d) ∙ ap (λ (l : List Line). l ++ lines_in d) i.parted;
          taken = ap (λ (l : List (List ℕ)). l ++ (bytes d ∷ [])) i.taken ∙ ap (λ (b : List ℕ). datagrams i.groups ++ (b ∷ [])) (sym (settled_lines d settled).1)
              ∙ sym (datagrams-more i.groups (lines_in d));
        })

  take_by : (buffer : List ℕ) (ds : List (List Queued)) → i.ds ≡ ds → is_taken (take_answer w.state (length w.queue) (length buffer)) ≡ true
      → Sends masks (sends_by x (take· buffer))
  take_by buffer [] is t =
      absurd (false≢true
      (sym (ap is_taken (take-told w.state w.queue [] (subst (Holds w.state w.queue) is i.laying.holds) (length buffer))) ∙ t))
  take_by buffer (d ∷ us) is t = taken-keeps buffer d us is t

  take-keeps : (buffer : List ℕ) → Sends masks (sends_by x (take· buffer))
  take-keeps buffer =
      test_cases (is_taken (take_answer w.state (length w.queue) (length buffer))) (λ t. take_by buffer i.ds refl t) (λ t. same-take buffer t)

-- ---- all calls

pub sends_keep : (masks : Masks) (x : Sender) (c : SendCall) → Sends masks x → FairSend masks x c → Sends masks (sends_by x c)
sends_keep masks x (key_send· e iv) i h = key_keeps masks x i e iv h
sends_keep masks x (send· e t c) i h = send_keeps masks x i e t c
sends_keep masks x (save· e t c) i h = save_keeps masks x i e t c
sends_keep masks x (message· kind body) i h = message-keeps masks x i kind body
sends_keep masks x begin_flight· i h = begin_keeps masks x i
sends_keep masks x resend· i h = resend_keeps masks x i
sends_keep masks x (note· e n) i h = note_keeps masks x i e n
sends_keep masks x send_ack· i h = send_ack_keeps masks x i
sends_keep masks x (ack· d) i h = ack-keeps masks x i d
sends_keep masks x (fill· v) i h = fill_keeps masks x i v
sends_keep masks x (sealed· k m) i h = reply-keeps masks x i k m h
sends_keep masks x (take· buffer) i h = take-keeps masks x i buffer

-- what was sealed stays so
sealed-more : (a : SealAnswer) (o : Option Lent) (before behind : List ℕ) (f : ℕ → List Sealed) (e : ℕ) (r : Sealed) → Mem r (f e) → Mem r (sealed_by a o before behind f e)
sealed-more a none u v f e r m = m
sealed-more a (some l) u v f e r m =
    by_test (λ (g : ℕ → List Sealed). Mem r (g e)) (λ d. upd-grows f l.epoch (sealed_as l u v) e r m) (λ d. m)

pub sealed-grows : (x : Sender) (c : SendCall) (e : ℕ) (r : Sealed) → Mem r (x.sealed e) → Mem r ((sends_by x c).sealed e)
sealed-grows x (key_send· k iv) e r m = m
sealed-grows x (send· k t c) e r m = m
sealed-grows x (save· k t c) e r m = m
sealed-grows x (message· kind body) e r m = m
sealed-grows x begin_flight· e r m = m
sealed-grows x resend· e r m = m
sealed-grows x (note· k n) e r m = m
sealed-grows x send_ack· e r m = m
sealed-grows x (ack· d) e r m = m
sealed-grows x (fill· v) e r m = m
sealed-grows x (sealed· k n) e r m = sealed-more _ x.lent _ _ x.sealed e r m
sealed-grows x (take· buffer) e r m = m

-- ---- a fresh end

pub new-sends : (masks : Masks) (mtu limit : ℕ) (queue kept : List ℕ) → is_setting mtu limit ≡ true → limit * mtu ≤ length queue
    → Sends masks (new_sender mtu limit queue kept)
new-sends masks mtu limit queue kept s room = record {
  ds = [];
  gone = [];
  over = tt;
  laying = record {
    holds = fresh_holds mtu limit queue s room;
    numbers = record { once = λ e. tt; below = λ e h m. elim m [ ]; early = λ e h m. elim m [ ] };
    waiting-sent = λ e t n c p m. elim m [ ];
    sealed-sent = λ e r m. elim m [ ];
    apart = λ e t n c p m. elim m [ ];
    lines = refl;
    same-ivs = unfold fresh_sending no_keys no_epoch in (record { handshake = λ z. absurd (omega arith); application = λ z. absurd (omega arith) });
  };
  lent = refl;
  once = λ e r q m. elim m [ ];
  shaped = λ e r m. elim m [ ];
  groups = [];
  parted = refl;
  taken = refl;
}

-- ---- the nonce of the question shown

module _ (masks : Masks) (x : Sender) (i : Sends masks x) where
  -- what waits is under an epoch that is keyed, with its IV
  iv-is : (e t n : ℕ) (c p : List ℕ) → Mem (waits e t n c p) (flat i.ds) → iv_of x.stores.state.keys e ≡ x.ivs e
  unfolding iv_of
  iv-is e t n c p m =
      let s : Sending = x.stores.state in
      let k : SendKeys = s.keys in
      let h = i.laying.holds in
      let a = h.keys in
      let between = waits-between s x.stores.queue i.ds h e t n c p m in
      ⊎_elim
      (λ (z : e ≡ 2).
      let two : k.handshake.epoch ≡ 2 =
      ⊎_elim (λ u. u)
      (λ u.
      let none_left = a.unkeyed u in
      let lo : sealed_of k e ≡ k.handshake.sealed = if_true _ _ (eq-eqb e 2 z) in
      let hi : next_of k e ≡ k.handshake.next = next-handshake k (λ y. omega arith) z in
      absurd (omega arith)) (eq-or_ne k.handshake.epoch 2) in
      if_true _ _ (eq-eqb e 2 z) ∙ i.laying.same-ivs.handshake two ∙ ap x.ivs (sym z))
      (λ (z : e ≡ k.application.epoch).
      ⊎_elim
      (λ (y : k.application.epoch ≡ 0).
      absurd (let some = (each-lies s x.stores.queue i.ds h (waits e t n c p) m).stands.sound.some in omega arith))
      (λ (y : 3 ≤ k.application.epoch).
      if_false _ _ (ne_eqb e 2 (λ v. omega arith)) ∙ i.laying.same-ivs.application y ∙ ap x.ivs (sym z)) a.epoch)
      (waits-under s x.stores.queue i.ds h e t n c p m)

  pub nonce-is : (l : Lent) → x.lent ≡ some l → l.nonce ≡ nonce_for (x.ivs l.epoch) l.num
  nonce-is l z =
      waiting-cases (flat i.ds) (waiting_of (flat i.ds)) refl
      (λ y. some≢none (sym z ∙ subst (LentIs x.stores.state x.lent) y i.lent))
      (λ e t n c p us y v.
      let same : lent_for x.stores.state e t n c ≡ l = some_inj (sym (subst (LentIs x.stores.state x.lent) v i.lent) ∙ z) in
      subst (λ (r : Lent). r.nonce ≡ nonce_for (x.ivs r.epoch) r.num) same
      (ap (λ (w : List ℕ). nonce_of w n) (iv-is e t n c p (first-mem (flat i.ds) us y))
      ∙ nonce-own (x.ivs e) n))

  -- the question shown is of epoch 2 or of the application epoch
  pub lent-under : (l : Lent) → x.lent ≡ some l → (l.epoch ≡ 2) ⊎ (l.epoch ≡ x.stores.state.keys.application.epoch)
  lent-under l z =
      waiting-cases (flat i.ds) (waiting_of (flat i.ds)) refl
      (λ y. some≢none (sym z ∙ subst (LentIs x.stores.state x.lent) y i.lent))
      (λ e t n c p us y v.
      let same : lent_for x.stores.state e t n c ≡ l = some_inj (sym (subst (LentIs x.stores.state x.lent) v i.lent) ∙ z) in
      subst (λ (r : Lent). (r.epoch ≡ 2) ⊎ (r.epoch ≡ x.stores.state.keys.application.epoch)) same
      (waits-under x.stores.state x.stores.queue i.ds i.laying.holds e t n c p (first-mem (flat i.ds) us y)))

-- ---- what was taken

pub taken_is : (masks : Masks) (x : Sender) → Sends masks x → Taken x.taken x.books.lines
taken_is masks x i = record {
  groups = i.groups;
  rest = lines_in (flat i.ds);
  lines = i.laying.lines ∙ ap (λ (l : List Line). l ++ lines_in (flat i.ds)) (sym i.parted);
  whole = subst AllDone (sym i.parted) i.over;
  bytes = i.taken;
}
