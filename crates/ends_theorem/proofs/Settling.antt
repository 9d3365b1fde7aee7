-- Keying, the host's bytes, a sealing reply, taking, and a fresh end: each does what the account says. Assumes nothing.
use Rattle.std.specs.Prelude.{ℕ, ◌+◌, ◌-◌, ◌*◌, ◌<◌, ◌≤◌, eqb, leb, ltb, length, Bool, true, false, List, [], ◌∷◌, ◌≡◌, refl, Ok, Err}
use Rattle.std.proofs.Common.{eqb-true, lt-ltb, true≢false, ⊎_elim, sym, ap, ◌∙◌, arith}
use Rattle.std.proofs.lemmas.Bool.{false≢true}
use Rattle.std.proofs.Math.Option.{Option, none, some}
use Rattle.base.specs.Choose.{choose, both, either, if_true, if_false, by_test, test_cases}
use Rattle.queue.specs.Queue.{is_setting, is_sound}
use Rattle.send_keys.specs.declared.SendError.TheVariants as key
use Rattle.send_keys.specs.declared.SendKeys.{SendKeys}
use Rattle.send_keys.specs.Keys as keys
use Rattle.send_keys.specs.Keys.{is_usable, next_of, sealed_up_to, key_answer, no_epoch, no_keys}
use Rattle.outgoing.specs.declared.Sending.{Sending}
use Rattle.outgoing.specs.State.{keying_state, fresh_sending}
use Rattle.sealing.specs.declared.SealError.TheVariants as seal
use Rattle.sealing.specs.Sealing as sealing
use Rattle.sealing.specs.Sealing.{SealAnswer, seal_answer, is_sealed, sealed_state, sealed_memory}
use Rattle.taking.specs.Take.{TakeAnswer, is_taken, take_answer, take_state}
use Rattle.flight.specs.Flight.{fresh_flight}
use Rattle.acks.specs.Acks.{fresh_notes, pairs_of}
use Rattle.waiting_laws.specs.Answers as answers
use Rattle.waiting_laws.specs.Calls.{Stores, SendCall, key_send·, fill·, sealed·, take·, stored, Reply, only}
use Rattle.waiting_laws.proofs.First.{seal_with, put_with, first_in, first_of}
use Rattle.waiting_laws.proofs.Fresh.{fresh_holds}
use Rattle.waiting_laws.proofs.Keying.{keying-told, keying-holds}
use Rattle.waiting_laws.proofs.Oldest.{first-of, names-first, fill_holds}
use Rattle.waiting_laws.specs.Queued.{Queued, plain, waits, sealed, bytes, flat, waiting_of, numbers_of, waits_in, Holds}
use Rattle.waiting_laws.proofs.Seals.{seal_holds, seal_told}
use Rattle.waiting_laws.specs.Takes.{take_told, after_taken}
use Rattle.waiting_laws.proofs.Takes.{take-told, take-holds}
use Rattle.history_theorem.specs.Account.{sealed_head, sealed_over, upd}
use Rattle.history_theorem.proofs.Lists.{upd_same, upd_other, by_both}
use Rattle.send_keys.specs.Answer.{SendAnswer, is_done, refusal, done-number}
use Rattle.ends_theorem.specs.Ledger.{
  Item,
  Ledger,
  new_ledger,
  with_queue,
  total,
  any_waits,
  waits_under,
  items,
  oldest,
  settles_in,
  settles,
  behind_front,
  is_old,
  key_number,
  keyed,
  seal_reply,
  take_reply,
  gives,
  after,
  sent_by,
}
use Rattle.ends_theorem.proofs.Matches.{item_of, items_in, items_of, KeysAre, Matches, Does}
use Rattle.ends_theorem.proofs.Matching.{items-flat, total-is, wholly}
use Rattle.ends_theorem.proofs.Numbers.{NewEpoch, new-epoch, keyed-next}
use Rattle.ends_theorem.specs.Sender.{Books, new_sender, enters_all}

-- ---- the queue in the account

-- which wait
any_in : (rs : List Queued) → any_waits (items_in rs) ≡ waits_in rs
unfolding either
any_in [] = refl
any_in (plain t n x ∷ rs) = any_in rs
any_in (waits e t n x p ∷ rs) = refl
any_in (sealed e t n x m p ∷ rs) = any_in rs

under_in : (k : ℕ) (rs : List Queued) → ltb 0 (length (numbers_of k rs)) ≡ waits_under k (items_in rs)
unfolding either both choose
under_in k [] = refl
under_in k (plain t n x ∷ rs) = under_in k rs
under_in k (waits e t n x p ∷ rs) =
    test_cases (eqb e k)
    (λ z. rw z (lt-ltb 0 (length (n ∷ numbers_of k rs)) (omega arith))) (λ z. rw z (under_in k rs))
under_in k (sealed e t n x m p ∷ rs) = under_in k rs

pub oldest-none : (rs : List Queued) → waits_in rs ≡ false → oldest (items_in rs) ≡ none
unfolding choose
oldest-none [] h = refl
oldest-none (plain t n x ∷ rs) h = oldest-none rs h
oldest-none (waits e t n x p ∷ rs) h = absurd (true≢false h)
oldest-none (sealed e t n x m p ∷ rs) h = oldest-none rs h

pub oldest-some : (rs : List Queued) (r : Queued) (us : List Queued) → waiting_of rs ≡ r ∷ us → oldest (items_in rs) ≡ some (item_of r)
unfolding choose
oldest-some [] r us h = absurd (let z : ◌≡◌ {A = ℕ} 0 1 = cc in omega arith)
oldest-some (plain t n x ∷ rs) r us h = oldest-some rs r us h
oldest-some (waits e t n x p ∷ rs) r us h = let same : waits e t n x p ≡ r = cc in ap (λ (q : Queued). some (item_of q)) same
oldest-some (sealed e t n x m p ∷ rs) r us h = oldest-some rs r us h

-- the oldest sealed
settles-in : (m : List ℕ) (rs : List Queued) → items_in (first_in (seal_with m) rs) ≡ settles_in (items_in rs)
unfolding choose
settles-in m [] = refl
settles-in m (plain t n x ∷ rs) = ap (λ (is : List Item). item_of (plain t n x) ∷ is) (settles-in m rs)
settles-in m (waits e t n x p ∷ rs) = refl
settles-in m (sealed e t n x o p ∷ rs) = ap (λ (is : List Item). item_of (sealed e t n x o p) ∷ is) (settles-in m rs)

settles_of : (m : List ℕ) (ds : List (List Queued)) → items_of (first_of (seal_with m) ds) ≡ settles (items_of ds)
settles_of m [] = refl
settles_of m (d ∷ ds) =
    by_test (λ (us : List (List Queued)). items_of us ≡ settles (items_of (d ∷ ds)))
    (λ z. ap (λ (is : List Item). is ∷ items_of ds) (settles-in m d) ∙ sym (if_true _ _ (any_in d ∙ z)))
    (λ z. ap (λ (js : List (List Item)). items_in d ∷ js) (settles_of m ds) ∙ sym (if_false _ _ (any_in d ∙ z)))

-- other bytes in its part change no item
put_in : (v : List ℕ) (rs : List Queued) → items_in (first_in (put_with v) rs) ≡ items_in rs
put_in v [] = refl
put_in v (plain t n x ∷ rs) = ap (λ (is : List Item). item_of (plain t n x) ∷ is) (put_in v rs)
put_in v (waits e t n x p ∷ rs) = refl
put_in v (sealed e t n x m p ∷ rs) = ap (λ (is : List Item). item_of (sealed e t n x m p) ∷ is) (put_in v rs)

put_of : (v : List ℕ) (ds : List (List Queued)) → items_of (first_of (put_with v) ds) ≡ items_of ds
put_of v [] = refl
put_of v (d ∷ ds) =
    by_test (λ (us : List (List Queued)). items_of us ≡ items_of (d ∷ ds)) (λ z. ap (λ (is : List Item). is ∷ items_of ds) (put_in v d))
    (λ z. ap (λ (js : List (List Item)). items_in d ∷ js) (put_of v ds))

-- ---- calls that send nothing

-- a choice carried through a function
through : {A B : Type 0} (f : A → B) (t : Bool) (x y : A) → f (choose t x y) ≡ choose t (f x) (f y)
through f t x y = by_both (λ a b. f a ≡ b) refl (λ z. refl) (λ z. refl)

sends-nothing : (l : Ledger) (c : SendCall) → gives l c ≡ [] → (b : Books) → b ≡ enters_all (sent_by l c) b
unfolding sent_by
sends-nothing l c h b = by_test (λ rs. b ≡ enters_all rs b) (λ z. sym (ap (λ rs. enters_all rs b) h)) (λ z. refl)

-- of a state, what the account sees besides the queue's datagrams
record Steady (s u : Sending) : Type 0 where
  mtu : u.queue.mtu ≡ s.queue.mtu
  limit : u.queue.limit ≡ s.queue.limit
  closed : u.queue.closed ≡ s.queue.closed
  keys : (l : Ledger) → KeysAre s.keys l → KeysAre u.keys l
  messages : u.message_seq ≡ s.message_seq

steady : (s : Sending) → Steady s s
steady s = record { mtu = refl; limit = refl; closed = refl; keys = λ l i. i; messages = refl }

-- other datagrams, and all else as it was
requeued : (w : Stores) (l : Ledger) → Matches w l → (s : Sending) (mem : List ℕ) (ds : List (List Queued)) → Holds s mem ds → Steady w.state s
    → (queue : List (List Item)) → items_of ds ≡ queue
    → Matches (record { state = s; queue = mem; flight = w.flight; kept = w.kept; notes = w.notes }) (with_queue l l.next queue l.closed)
requeued w l i s mem ds h same queue is =
    let k = same.keys l i.keys in
    record {
      ds = ds;
      holds = h;
      queue = is;
      closed = same.closed ∙ i.closed;
      mtu = same.mtu ∙ i.mtu;
      limit = same.limit ∙ i.limit;
      room = i.room;
      keys = record { two = k.two; application = k.application; next = k.next; most = k.most };
      messages = same.messages ∙ i.messages;
      flight = i.flight;
      noted = i.noted;
    }

-- ---- the host's bytes

pub fill_does : (w : Stores) (l : Ledger) → Matches w l → (v : List ℕ) → Does w l (fill· v)
unfolding after
fill_does w l i v =
    let here : Matches (stored w (fill· v)) l =
    requeued w l i w.state _ _ (fill_holds w.state w.queue i.ds i.holds v) (steady w.state) l.queue
    (by_test (λ (us : List (List Queued)). items_of us ≡ l.queue) (λ z. put_of v i.ds ∙ i.queue) (λ z. i.queue)) in
    record { reply = refl; leaves = by_test (Matches _) (λ z. here) (λ z. here); books = sends-nothing l (fill· v) refl }

-- ---- a sealing reply

sealed-keys : (k : SendKeys) (e n : ℕ) (l : Ledger) → KeysAre k l → KeysAre (sealed_up_to k e n) l
unfolding sealed_up_to is_usable next_of
sealed-keys k e n l i =
    by_test (λ j. KeysAre j l) (λ z. record { two = i.two; application = i.application; next = i.next; most = i.most })
    (λ z. record { two = i.two; application = i.application; next = i.next; most = i.most })

sealed-steady : (a : SealAnswer) (s : Sending) (q : List ℕ) → Steady s (sealed_state a s q).state
unfolding sealed_state
sealed-steady a s q =
    by_test (Steady s) (λ z. record { mtu = refl; limit = refl; closed = refl; keys = sealed-keys s.keys _ _; messages = refl }) (λ z. steady s)

-- only a reply that is done is answered 0
seal_zero : (a : SealAnswer) → eqb (sealing.refusal a) 0 ≡ is_sealed a
seal_zero (Ok u) = refl
seal_zero (Err seal.OutOfRange) = refl
seal_zero (Err seal.NoQuestion) = refl

-- 15 but for as many bytes as the oldest that waits has behind its header
seal_number : (s : Sending) (mem : List ℕ) (ds : List (List Queued)) → Holds s mem ds → (n : ℕ)
    → sealing.refusal (seal_answer s (length mem) n) ≡ seal_reply (oldest (items_in (flat ds))) n
seal_number s mem ds h n =
    ap sealing.refusal (seal_told s mem ds h n)
    ∙ test_cases (waits_in (flat ds))
    (λ z.
    let f = first-of (flat ds) z in
    let size : s.waiting.length ≡ length f.content + sealed_over - sealed_head = (names-first s mem ds h _ _ _ _ _ _ f.is).size ∙ omega arith in
    ap sealing.refusal (if_true _ _ z)
    ∙ ap (λ (k : ℕ). sealing.refusal (choose (eqb n k) (Ok tt) (Err seal.NoQuestion))) size
    ∙ through sealing.refusal (eqb n (length f.content + sealed_over - sealed_head)) _ _
    ∙ sym (ap (λ (o : Option Item). seal_reply o n) (oldest-some (flat ds) _ _ f.is)))
    (λ z. ap sealing.refusal (if_false _ _ z) ∙ sym (ap (λ (o : Option Item). seal_reply o n) (oldest-none (flat ds) z)))

pub sealed-does : (w : Stores) (l : Ledger) → Matches w l → (n : ℕ) (m : List ℕ) → Does w l (sealed· n m)
unfolding sealed_state sealed_memory choose
sealed-does w l i n m =
    let s : Sending = w.state in
    let a : SealAnswer = seal_answer s (length w.queue) n in
    let told : sealing.refusal a ≡ seal_reply (oldest (items l.queue)) n =
    seal_number s w.queue i.ds i.holds n ∙ ap (λ (is : List Item). seal_reply (oldest is) n) (sym (items-flat i.ds) ∙ ap items i.queue) in
    wholly w l i (sealed· n m) (is_sealed a) (ap only told) (ap (λ (k : ℕ). eqb k 0) (sym told) ∙ seal_zero a)
    (λ d.
    requeued w l i _ _ _ (seal_holds s w.queue i.ds i.holds n m) (sealed-steady a s w.queue) (settles l.queue)
    (ap items_of (if_true _ _ d) ∙ settles_of m i.ds ∙ ap settles i.queue))
    (λ d. rw d) (λ d b. refl) (λ d b. refl)

-- ---- taking

take-steady : (a : TakeAnswer) (s : Sending) → Steady s (take_state a s).state
unfolding take_state
take-steady a s = by_test (Steady s) (λ z. record { mtu = refl; limit = refl; closed = refl; keys = λ l i. i; messages = refl }) (λ z. steady s)

-- none; 23; 16; the front's length
take-reply : (s : Sending) (mem : List ℕ) (ds : List (List Queued)) → Holds s mem ds → (have : ℕ)
    → answers.take_reply (take_told ds have) ≡ take_reply (items_of ds) have
take-reply s mem [] h have = refl
take-reply s mem (d ∷ ds) h have =
    let long : length (bytes d) ≡ total (items_in d) = sym (total-is mem _ 0 d h.rows.0.lies) in
    let waiting : waits_in d ≡ any_waits (items_in d) = sym (any_in d) in
    let n : ℕ = length (bytes d) in
    through answers.take_reply (waits_in d) _ _
    ∙ ap (choose (waits_in d) (only 23)) (through answers.take_reply (ltb have n) _ _ ∙ sym (through (λ (k : ℕ). record { number = k; told = n }) (ltb have n) 16 0))
    ∙ λ j. choose (waiting j) (only 23) (record { number = choose (ltb have (long j)) 16 0; told = long j })

-- the front is gone exactly if it was handed out
taken-items : (ds : List (List Queued)) (have : ℕ) → eqb (answers.take_reply (take_told ds have)).number 0 ≡ true
    → items_of (after_taken (take_told ds have) ds) ≡ behind_front (items_of ds)
taken-items [] have = λ z. refl
taken-items (d ∷ ds) have =
    let P : TakeAnswer → Type 0 = λ a. eqb (answers.take_reply a).number 0 ≡ true → items_of (choose (is_taken a) ds (d ∷ ds)) ≡ items_of ds in
    by_test P (λ y z. absurd (false≢true z)) (λ y. by_test P (λ x z. absurd (false≢true z)) (λ x z. ap items_of (if_true _ _ refl)))

left-items : (ds : List (List Queued)) (have : ℕ) → eqb (answers.take_reply (take_told ds have)).number 0 ≡ false
    → items_of (after_taken (take_told ds have) ds) ≡ items_of ds
left-items [] have = λ z. refl
left-items (d ∷ ds) have =
    let P : TakeAnswer → Type 0 = λ a. eqb (answers.take_reply a).number 0 ≡ false → items_of (choose (is_taken a) ds (d ∷ ds)) ≡ items_of (d ∷ ds) in
    by_test P (λ y z. ap items_of (if_false _ _ refl)) (λ y. by_test P (λ x z. ap items_of (if_false _ _ refl)) (λ x z. absurd (true≢false z)))

pub take-does : (w : Stores) (l : Ledger) → Matches w l → (buffer : List ℕ) → Does w l (take· buffer)
unfolding after
take-does w l i buffer =
    let s : Sending = w.state in
    let have : ℕ = length buffer in
    let a : TakeAnswer = take_answer s (length w.queue) have in
    let is : a ≡ take_told i.ds have = take-told s w.queue i.ds i.holds have in
    let told : answers.take_reply (take_told i.ds have) ≡ take_reply l.queue have =
    take-reply s w.queue i.ds i.holds have ∙ ap (λ (js : List (List Item)). take_reply js have) i.queue in
    let zero : eqb (answers.take_reply (take_told i.ds have)).number 0 ≡ eqb (take_reply l.queue have).number 0 = ap (λ (r : Reply). eqb r.number 0) told in
    let there = requeued w l i _ _ _ (take-holds s w.queue i.ds i.holds have) (take-steady a s) in
    let then : items_of (after_taken a i.ds) ≡ items_of (after_taken (take_told i.ds have) i.ds) = ap (λ (b : TakeAnswer). items_of (after_taken b i.ds)) is in
    record {
      reply = ap answers.take_reply is ∙ told;
      leaves =
          by_test (Matches _) (λ z. there (behind_front l.queue) (then ∙ taken-items i.ds have (zero ∙ z) ∙ ap behind_front i.queue))
          (λ z. there l.queue (then ∙ left-items i.ds have (zero ∙ z) ∙ i.queue));
      books = sends-nothing l (take· buffer) refl;
    }

-- ---- keying

-- epoch 2 is keyed, now or before
two-epoch : (old new : Bool) (h e : ℕ) → h ≡ choose old 2 0 → (new ≡ true → e ≡ 2) → choose new e h ≡ choose (either old new) 2 0
unfolding choose either
two-epoch true true h e p q = q refl
two-epoch false true h e p q = q refl
two-epoch true false h e p q = p
two-epoch false false h e p q = p

keyed-keys : (k : SendKeys) (l : Ledger) (e : ℕ) (iv : List ℕ) → NewEpoch k e → KeysAre k l → KeysAre (keys.keyed k e iv) (keyed l e)
unfolding keyed keys.keyed
keyed-keys k l e iv new i = record {
  two = through (λ (j : SendKeys). j.handshake.epoch) (eqb e 2) _ _ ∙ two-epoch l.two (eqb e 2) k.handshake.epoch e i.two (λ z. eqb-true e 2 z);
  application = through (λ (j : SendKeys). j.application.epoch) (eqb e 2) _ _ ∙ ap (λ (a : ℕ). choose (eqb e 2) a e) i.application;
  next = λ x u.
      ⊎_elim (λ y. y.1 ∙ sym (ap (upd l.next e 0) y.0 ∙ upd_same l.next e 0))
      (λ y. y.2 ∙ i.next x y.1 ∙ sym (upd_other l.next e 0 x y.0)) (keyed-next k e iv new x u);
  most = λ x u. ⊎_elim (λ y. omega (arith, y.1)) (λ y. omega (arith, y.2, i.most x y.1)) (keyed-next k e iv new x u);
}

key-tests : (a b c d : Bool)
    → refusal (choose a (Err key.BadEpoch) (choose b (Err key.BadEpoch) (choose c (Err key.BadEpoch) (choose d (Err key.SealingWaits) (Ok tt)))))
    ≡ choose (either a (either b c)) 13 (choose d 23 0)
unfolding choose either
key-tests true b c d = refl
key-tests false true c d = refl
key-tests false false true d = refl
key-tests false false false true = refl
key-tests false false false false = refl

key-number : (w : Stores) (l : Ledger) → Matches w l → (e : ℕ) → refusal (key_answer w.state.keys (is_sound w.state.queue) e) ≡ key_number l e
unfolding key_number is_old
key-number w l i e =
    let k : SendKeys = w.state.keys in
    let under : ltb 0 (length (numbers_of k.application.epoch (flat i.ds))) ≡ waits_under l.application (items l.queue) =
    under_in k.application.epoch (flat i.ds) ∙ (λ j. waits_under (i.keys.application j) ((sym (items-flat i.ds) ∙ ap items i.queue) j)) in
    ap refusal (keying-told w.state w.queue i.ds i.holds e)
    ∙ key-tests (ltb e 2) (leb e k.handshake.epoch) (leb e k.application.epoch) (ltb 0 (length (numbers_of k.application.epoch (flat i.ds))))
    ∙ λ j. choose (either (ltb e 2) (either (leb e (i.keys.two j)) (leb e (i.keys.application j)))) 13 (choose (under j) 23 0)

pub key_does : (w : Stores) (l : Ledger) → Matches w l → (e : ℕ) (iv : List ℕ) → e < 65536 → Does w l (key_send· e iv)
unfolding keying_state keyed choose
key_does w l i e iv small =
    let k : SendKeys = w.state.keys in
    let a : SendAnswer = key_answer k (is_sound w.state.queue) e in
    let told : refusal a ≡ key_number l e = key-number w l i e in
    wholly w l i (key_send· e iv) (is_done a) (ap only told) (ap (λ (n : ℕ). eqb n 0) (sym told) ∙ done-number a)
    (λ d.
    rw d (record {
      ds = i.ds;
      holds = rw d at (keying-holds w.state w.queue i.ds i.holds e iv small);
      queue = i.queue;
      closed = i.closed;
      mtu = i.mtu;
      limit = i.limit;
      room = i.room;
      keys = keyed-keys k l e iv (new-epoch k _ e d) i.keys;
      messages = i.messages;
      flight = i.flight;
      noted = i.noted;
    }))
    (λ d. rw d) (λ d b. refl) (λ d b. refl)

-- ---- a fresh end

pub new-matches : (mtu limit : ℕ) (queue kept : List ℕ) → is_setting mtu limit ≡ true → limit * mtu ≤ length queue
    → Matches (new_sender mtu limit queue kept).stores (new_ledger mtu limit (length kept))
unfolding fresh_sending no_keys no_epoch next_of fresh_flight fresh_notes pairs_of
new-matches mtu limit queue kept h room = record {
  ds = [];
  holds = fresh_holds mtu limit queue h room;
  queue = refl;
  closed = refl;
  mtu = refl;
  limit = refl;
  room = refl;
  keys = record {
    two = sym (if_false _ _ refl);
    application = refl;
    next = λ e u. none e;
    most = λ e u. omega (arith, none e);
  };
  messages = refl;
  flight = record { each = tt; count = refl; most = omega arith; long = refl; table = refl };
  noted = record { count = refl; most = omega arith; epochs = refl; numbers = refl; pairs = refl };
}
  where
    none : (e : ℕ) → next_of no_keys e ≡ 0
    none e = unfold next_of no_keys no_epoch in (by_test (λ (n : ℕ). n ≡ 0) (λ z. refl) (λ z. by_test (λ (n : ℕ). n ≡ 0) (λ y. refl) (λ y. refl)))
