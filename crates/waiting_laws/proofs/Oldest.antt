-- The state names the first record that waits: its epoch, number, length and place; and the question shows it. Assumes nothing.
use Rattle.std.specs.Prelude.{Some, Bool, true, eqb, None, Ok}
use Rattle.std.proofs.Math.Bool.{false}
use Rattle.std.proofs.lemmas.Bool.{false≢true}
use mathlib.Core.List.{List, [], ◌∷◌, ◌++◌}
use Rattle.std.proofs.Math.Path.{◌≡◌, refl, sym, ap}
use Rattle.std.proofs.Common.{subst, ◌∙◌, length-append}
use Prim.Native.Nat.{ℕ, ◌+◌, ◌-◌, ◌*◌}
use native.Mathlib.Omega.{arith}
use Rattle.std.proofs.Math.ListN.{length}
use Rattle.base.specs.Choose.{choose, test_cases, if_true, if_false, both_true, both_false}
use Rattle.base.specs.Parts.{part, splice}
use Rattle.record.specs.Record.{sealed_head, sealed_tail, unified_header}
use Rattle.dtls_aead.specs.Nonce.{nonce_of}
use Rattle.queue.specs.declared.Queue.{Queue}
use Rattle.queue.specs.Queue.{slot_of}
use Rattle.queue.specs.Laid.{length_unified}
use Rattle.send_keys.specs.Keys.{iv_of}
use Rattle.outgoing.specs.declared.Waiting.{Waiting}
use Rattle.outgoing.specs.declared.Sending.{Sending}
use Rattle.outgoing.specs.State.{no_waiting}
use Rattle.sealing.specs.Sealing.{Asked, is_asked, is_put, part_start, question_of, part_of, put_memory}
use Rattle.waiting_laws.specs.Calls.{written_in}
use Rattle.waiting_laws.specs.Queued.{Queued, plain, waits, sealed, bytes_of, flat, waiting_of, waits_in, Stands, Lies, Rows, oldest_in, oldest_of, Holds}
use Rattle.waiting_laws.proofs.Ring.{part_left, part_right}
use Rattle.waiting_laws.proofs.Lists.{none_in}
use Rattle.waiting_laws.proofs.First.{seal_with, put_with, first_in}
use Rattle.waiting_laws.proofs.Seals.{any_same, held-again, ready_always, question-told, after_put, put_holds}

-- ---- those that wait

-- something waits exactly if the list of those that wait is not empty
pub none-waiting : (rs : List Queued) → waits_in rs ≡ false → waiting_of rs ≡ []
none-waiting [] h = refl
none-waiting (plain t n x ∷ rs) h = none-waiting rs h
none-waiting (waits e t n x p ∷ rs) h = absurd (false≢true (sym h))
none-waiting (sealed e t n x m p ∷ rs) h = none-waiting rs h

pub waiting-some : (rs : List Queued) (r : Queued) (us : List Queued) → waiting_of rs ≡ r ∷ us → waits_in rs ≡ true
waiting-some [] r us h = absurd (let z : ◌≡◌ {A = ℕ} 0 1 = cc in omega arith)
waiting-some (plain t n x ∷ rs) r us h = waiting-some rs r us h
waiting-some (waits e t n x p ∷ rs) r us h = refl
waiting-some (sealed e t n x m p ∷ rs) r us h = waiting-some rs r us h

-- the first of them, with those behind it
pub record First (rs : List Queued) : Type 0 where
  pub epoch : ℕ
  pub kind : ℕ
  pub number : ℕ
  pub content : List ℕ
  pub part : List ℕ
  pub others : List Queued
  pub is : waiting_of rs ≡ waits epoch kind number content part ∷ others

pub first-of : (rs : List Queued) → waits_in rs ≡ true → First rs
first-of [] h = absurd (false≢true h)
first-of (plain t n x ∷ rs) h =
    let f = first-of rs h in
    record { epoch = f.epoch; kind = f.kind; number = f.number; content = f.content; part = f.part; others = f.others; is = f.is }
first-of (waits e t n x p ∷ rs) h = record { epoch = e; kind = t; number = n; content = x; part = p; others = waiting_of rs; is = refl }
first-of (sealed e t n x m p ∷ rs) h =
    let f = first-of rs h in
    record { epoch = f.epoch; kind = f.kind; number = f.number; content = f.content; part = f.part; others = f.others; is = f.is }

-- a list of those that wait begins with one that waits
pub waiting-cases : {C : Type 0} (rs : List Queued) (ws : List Queued) → waiting_of rs ≡ ws → (ws ≡ [] → C)
    → ((e t n : ℕ) (x p : List ℕ) (us : List Queued) → waiting_of rs ≡ waits e t n x p ∷ us → ws ≡ waits e t n x p ∷ us → C) → C
waiting-cases rs ws q f g =
    test_cases (waits_in rs)
    (λ t. let h = first-of rs t in g h.epoch h.kind h.number h.content h.part h.others h.is (sym q ∙ h.is))
    (λ t. f (sym q ∙ none-waiting rs t))

-- sealed, it is none of them any more; the others are the same, in the same order
pub waiting-sealed : (m : List ℕ) (rs : List Queued) (r : Queued) (us : List Queued) → waiting_of rs ≡ r ∷ us → waiting_of (first_in (seal_with m) rs) ≡ us
waiting-sealed m [] r us h = absurd (let z : ◌≡◌ {A = ℕ} 0 1 = cc in omega arith)
waiting-sealed m (plain t n x ∷ rs) r us h = waiting-sealed m rs r us h
waiting-sealed m (waits e t n x p ∷ rs) r us h = cc
waiting-sealed m (sealed e t n x o p ∷ rs) r us h = waiting-sealed m rs r us h

-- with other bytes in its part it waits as before
pub waiting-put : (v : List ℕ) (rs : List Queued) (r : Queued) (us : List Queued) → waiting_of rs ≡ r ∷ us → waiting_of (first_in (put_with v) rs) ≡ put_with v r ∷ us
waiting-put v [] r us h = absurd (let z : ◌≡◌ {A = ℕ} 0 1 = cc in omega arith)
waiting-put v (plain t n x ∷ rs) r us h = waiting-put v rs r us h
waiting-put v (waits e t n x p ∷ rs) r us h =
    let a : waits e t n x p ≡ r = cc in
    let b : waiting_of rs ≡ us = cc in
    ap (λ (u : Queued). put_with v u ∷ waiting_of rs) a ∙ ap (λ (l : List Queued). put_with v r ∷ l) b
waiting-put v (sealed e t n x m p ∷ rs) r us h = waiting-put v rs r us h

-- ---- what the state says of the first

pub record Names (mem : List ℕ) (mtu : ℕ) (w : Waiting) (e t n : ℕ) (x p : List ℕ) : Type 0 where
  pub any : w.any ≡ true
  pub epoch : w.epoch ≡ e
  pub number : w.number ≡ n
  pub size : w.length ≡ length x + sealed_tail
  pub stands : Stands mem (w.slot * mtu + w.start) (waits e t n x p)

module _ (mem : List ℕ) (mtu e t n : ℕ) (x p : List ℕ) (us : List Queued) where
  names-in : (slot at : ℕ) (rs zs : List Queued) (w : Waiting) → Lies mem (slot * mtu) at rs → waits_in rs ≡ true → waiting_of (rs ++ zs) ≡ waits e t n x p ∷ us
      → Names mem mtu (oldest_in slot at rs w) e t n x p
  names-in slot at [] zs w l h y = absurd (false≢true h)
  names-in slot at (plain t' n' x' ∷ rs) zs w l h y = names-in slot (at + length (bytes_of (plain t' n' x'))) rs zs w l.1 h y
  names-in slot at (waits e' t' n' x' p' ∷ rs) zs w l h y =
      let r : waits e' t' n' x' p' ≡ waits e t n x p = cc in
      let i : e' ≡ e = cc in
      let j : n' ≡ n = cc in
      let k : x' ≡ x = cc in
      record { any = refl; epoch = i; number = j; size = ap (λ (u : List ℕ). length u + sealed_tail) k; stands = subst (Stands mem (slot * mtu + at)) r l.0 }
  names-in slot at (sealed e' t' n' x' m' p' ∷ rs) zs w l h y = names-in slot (at + length (bytes_of (sealed e' t' n' x' m' p'))) rs zs w l.1 h y

pub waiting-later : (rs us : List Queued) → waits_in rs ≡ false → waiting_of (rs ++ us) ≡ waiting_of us
waiting-later [] us h = refl
waiting-later (plain t n x ∷ rs) us h = waiting-later rs us h
waiting-later (waits e t n x p ∷ rs) us h = absurd (false≢true (sym h))
waiting-later (sealed e t n x m p ∷ rs) us h = waiting-later rs us h

names_of : (q : Queue) (mem : List ℕ) (e t n : ℕ) (x p : List ℕ) (us : List Queued) (i : ℕ) (ds : List (List Queued)) (w : Waiting) → Rows q mem i ds
    → waiting_of (flat ds) ≡ waits e t n x p ∷ us → Names mem q.mtu (oldest_of q.first q.limit i ds w) e t n x p
names_of q mem e t n x p us i [] w r y = absurd (let z : ◌≡◌ {A = ℕ} 0 1 = cc in omega arith)
names_of q mem e t n x p us i (d ∷ ds) w r y =
    let slot : ℕ = slot_of q.first q.limit i in
    let later : Waiting = oldest_of q.first q.limit (i + 1) ds w in
    test_cases (waits_in d) (λ a. names-in mem q.mtu e t n x p us slot 0 d (flat ds) later r.0.lies a y)
    (λ a.
    subst (λ (v : Waiting). Names mem q.mtu v e t n x p) (sym (none_in slot 0 d later a))
    (names_of q mem e t n x p us (i + 1) ds w r.1 (sym (waiting-later d (flat ds) a) ∙ y)))

module _ (s : Sending) (mem : List ℕ) (ds : List (List Queued)) (h : Holds s mem ds) where
  pub names-first : (e t n : ℕ) (x p : List ℕ) (us : List Queued) → waiting_of (flat ds) ≡ waits e t n x p ∷ us → Names mem s.queue.mtu s.waiting e t n x p
  names-first e t n x p us y =
      subst (λ (v : Waiting). Names mem s.queue.mtu v e t n x p) (sym h.oldest) (names_of s.queue mem e t n x p us 0 ds no_waiting h.rows y)

  -- the question shows exactly the first: epoch, number, nonce, header; the part lent is its part; its header lies in front of that
  pub question-shows : (e t n : ℕ) (x p : List ℕ) (us : List Queued) → waiting_of (flat ds) ≡ waits e t n x p ∷ us
      → question_of s ≡ Ok (Some (record {
        epoch = e;
        number = n;
        start = part_start s;
        length = length x + sealed_tail;
        nonce = nonce_of (iv_of s.keys e) n;
        header = unified_header e n (length x + sealed_tail);
      }))
  question-shows e t n x p us y =
      let f = names-first e t n x p us y in
      question-told s mem ds h ∙ if_true _ _ (waiting-some (flat ds) (waits e t n x p) us y)
      ∙ λ i. Ok (Some (record {
        epoch = f.epoch i;
        number = f.number i;
        start = part_start s;
        length = f.size i;
        nonce = nonce_of (iv_of s.keys (f.epoch i)) (f.number i);
        header = unified_header (f.epoch i) (f.number i) (f.size i);
      }))

  pub question-none : waiting_of (flat ds) ≡ [] → question_of s ≡ Ok None
  question-none y =
      test_cases (waits_in (flat ds))
      (λ a. let f = first-of (flat ds) a in absurd (let g = f.is in let z : ◌≡◌ {A = ℕ} 0 1 = cc in omega arith))
      (λ a. question-told s mem ds h ∙ if_false _ _ a)

  pub part-shows : (e t n : ℕ) (x p : List ℕ) (us : List Queued) → waiting_of (flat ds) ≡ waits e t n x p ∷ us
      → (part_of s mem ≡ p) × (part (part_start s - sealed_head) sealed_head mem ≡ unified_header e n (length x + sealed_tail))
  unfolding part_of is_asked part_start
  part-shows e t n x p us y =
      let f = names-first e t n x p us y in
      let base : ℕ = s.waiting.slot * s.queue.mtu + s.waiting.start in
      let u : List ℕ = unified_header e n (length x + sealed_tail) in
      let five : length u ≡ sealed_head = length_unified e n (length x + sealed_tail) in
      let whole : part base (sealed_head + length p) mem ≡ u ++ p = ap (λ (k : ℕ). part base k mem) (sym (length-append u p ∙ ap (λ (k : ℕ). k + length p) five)) ∙ f.stands.here in
      let size : s.waiting.length ≡ length p = f.size ∙ sym f.stands.sound.part in
      let place : base + sealed_head - sealed_head ≡ base = omega arith in (
        if_true _ _ (both_true (ready_always s mem ds h) ∙ both_true (held-again s mem ds h) ∙ f.any)
            ∙ ap (λ (k : ℕ). part (base + sealed_head) k mem) size ∙ part_right base sealed_head (length p) mem u p five whole,
        ap (λ (k : ℕ). part k sealed_head mem) place ∙ part_left base sealed_head (length p) mem u p five whole,
      )

  -- when the host's writing is taken
  pub not_put : waiting_of (flat ds) ≡ [] → (v : List ℕ) → is_put s (length v) (length mem) ≡ false
  unfolding is_put is_asked
  not_put z v =
      let none-waits : s.waiting.any ≡ false = any_same s mem ds h ∙ test_cases (waits_in (flat ds)) (λ y. let f = first-of (flat ds) y in let g = f.is in absurd (let w : ◌≡◌ {A = ℕ} 0 1 = cc in omega arith)) (λ y. y) in
      both_false _ (both_true (ready_always s mem ds h) ∙ both_true (held-again s mem ds h) ∙ none-waits)

  pub put_test : (e t n : ℕ) (x p : List ℕ) (us : List Queued) → waiting_of (flat ds) ≡ waits e t n x p ∷ us → (v : List ℕ) → is_put s (length v) (length mem) ≡ eqb (length v) (length x + sealed_tail)
  unfolding is_put is_asked
  put_test e t n x p us y v =
      let f = names-first e t n x p us y in
      both_true (both_true (ready_always s mem ds h) ∙ both_true (held-again s mem ds h) ∙ f.any) ∙ ap (eqb (length v)) f.size

  -- what the host writes where the question shows it is written into the oldest's part
  written_is : (v : List ℕ) → written_in (question_of s) v mem ≡ put_memory s v mem
  unfolding put_memory
  written_is v =
      waiting-cases (flat ds) (waiting_of (flat ds)) refl
      (λ z. ap (λ (r : Asked). written_in r v mem) (question-none z) ∙ sym (if_false _ _ (not_put z v)))
      (λ e t n x p us y z.
      ap (λ (r : Asked). written_in r v mem) (question-shows e t n x p us y)
      ∙ ap (λ (b : Bool). choose b (splice (part_start s) v mem) mem) (sym (put_test e t n x p us y v)))

  pub fill_holds : (v : List ℕ) → Holds s (written_in (question_of s) v mem) (after_put (is_put s (length v) (length mem)) v ds)
  fill_holds v = subst (λ (q : List ℕ). Holds s q (after_put (is_put s (length v) (length mem)) v ds)) (sym (written_is v)) (put_holds s mem ds h v)
