-- What one send and one reply do to those that wait: a send adds its record behind them, with the next number of its epoch; an accepted reply
-- answers the first, whose bytes are then masked header and part. Assumes nothing.
use Rattle.std.specs.Prelude.{true, ◌≡◌, ℕ, ◌+◌, ◌-◌, ◌*◌, eqb, length}
use mathlib.Core.List.Memᴰ.{head as here}
use mathlib.Core.List.Memᴰ.{tail as there}
use mathlib.Core.List.{List, [], ◌∷◌, ◌++◌, Memᴰ as Mem}
use Rattle.std.proofs.Common.{sym, ap, subst, ◌∙◌, ⊎_elim, arith, eq-eqb, eqb-true}
use Rattle.std.proofs.lemmas.Bool.{eqb-false}
use Rattle.base.specs.Choose.{choose, by_test, test_cases, if_true, if_false}
use Rattle.base.specs.Parts.{part, splice}
use Rattle.queue.specs.Laid.{trailer_of}
use Rattle.send_keys.specs.declared.SendKeys.{SendKeys}
use Rattle.send_keys.specs.Keys.{next_of, sealed_up_to}
use Rattle.outgoing.specs.declared.Sending.{Sending}
use Rattle.sealing.specs.Sealing.{part_start, masked_header, seal_answer, is_sealed, sealed_state, sealed_memory}
use Rattle.record.specs.Record.{sealed_head, sealed_tail}
use Rattle.waiting_laws.specs.Queued.{Queued, plain, waits, sealed, bytes_of, flat, waiting_of, numbers_of, sealed_of, Runs, Under, Agrees, Holds}
use Rattle.waiting_laws.proofs.Lists.{waiting-append, length-sealed}
use Rattle.waiting_laws.proofs.First.{seal_with, first_in, first_of, flat-first}
use Rattle.waiting_laws.proofs.Sends.{sent_to, sent-last}
use Rattle.waiting_laws.proofs.Seals.{after_reply, seal_writes, sealed_tests}
use Rattle.waiting_laws.proofs.Oldest.{names-first, waiting-sealed}

-- ---- a send

-- those that wait, and behind them the record, if it is to be sealed, with its epoch's next number
pub send_waits : (s : Sending) (e t : ℕ) (x : List ℕ) (ds : List (List Queued))
    → waiting_of (flat (sent_to s e t x ds)) ≡ waiting_of (flat ds) ++ choose (eqb e 0) [] (waits e t (next_of s.keys e) x (x ++ trailer_of t e (next_of s.keys e)) ∷ [])
send_waits s e t x ds =
    ap waiting_of (sent-last s e t x ds) ∙ waiting-append (flat ds) (_ ∷ [])
    ∙ ap (λ (l : List Queued). waiting_of (flat ds) ++ l)
    (test_cases (eqb e 0) (λ z. ap (λ (u : Queued). waiting_of (u ∷ [])) (if_true _ _ z) ∙ sym (if_true _ _ z)) (λ z. ap (λ (u : Queued). waiting_of (u ∷ [])) (if_false _ _ z) ∙ sym (if_false _ _ z)))

-- ---- a reply

first-number : (j lo hi e t n : ℕ) (x p : List ℕ) (us rs : List Queued) → e ≡ j → waiting_of rs ≡ waits e t n x p ∷ us → Runs lo hi (numbers_of j rs) → n ≡ lo
first-number j lo hi e t n x p us [] h y r = absurd (let z : ◌≡◌ {A = ℕ} 0 1 = cc in omega arith)
first-number j lo hi e t n x p us (plain t' n' x' ∷ rs) h y r = first-number j lo hi e t n x p us rs h y r
first-number j lo hi e t n x p us (waits e' t' n' x' p' ∷ rs) h y r =
    let a : e' ≡ e = cc in
    let b : n ≡ n' = cc in
    let f : Runs lo hi (n' ∷ numbers_of j rs) = subst (Runs lo hi) (if_true _ _ (eq-eqb e' j (a ∙ h))) r in
    b ∙ f.0
first-number j lo hi e t n x p us (sealed e' t' n' x' m' p' ∷ rs) h y r = first-number j lo hi e t n x p us rs h y r

first_under : (k e t n : ℕ) (x p : List ℕ) (us rs : List Queued) → waiting_of rs ≡ waits e t n x p ∷ us → Under k rs → (e ≡ 2 → ⊥) → e ≡ k
first_under k e t n x p us [] y u ne = absurd (let z : ◌≡◌ {A = ℕ} 0 1 = cc in omega arith)
first_under k e t n x p us (plain t' n' x' ∷ rs) y u ne = first_under k e t n x p us rs y u ne
first_under k e t n x p us (waits e' t' n' x' p' ∷ rs) y u ne =
    let a : e ≡ e' = cc in
    ⊎_elim (λ (z : e' ≡ 2). absurd (ne (a ∙ z))) (λ (z : e' ≡ k). a ∙ z) u.0
first_under k e t n x p us (sealed e' t' n' x' m' p' ∷ rs) y u ne = first_under k e t n x p us rs y u ne

-- an epoch's numbers are sealed in order without gaps: the first that waits has the first number not sealed yet
pub in_sequence : (k : SendKeys) (rs : List Queued) → Agrees k rs → (e t n : ℕ) (x p : List ℕ) (us : List Queued) → waiting_of rs ≡ waits e t n x p ∷ us → n ≡ sealed_of k e
in_sequence k rs a e t n x p us y =
    by_test (λ (i : ℕ). n ≡ i) (λ z. first-number 2 k.handshake.sealed k.handshake.next e t n x p us rs (eqb-true e 2 z) y a.handshake)
    (λ z.
    first-number k.application.epoch k.application.sealed k.application.next e t n x p us rs (first_under k.application.epoch e t n x p us rs y a.under (eqb-false e 2 z)) y
    a.application)

sealed-among : (m : List ℕ) (e t n : ℕ) (x p : List ℕ) (us rs : List Queued) → waiting_of rs ≡ waits e t n x p ∷ us → Mem (sealed e t n x m p) (first_in (seal_with m) rs)
sealed-among m e t n x p us [] y = absurd (let z : ◌≡◌ {A = ℕ} 0 1 = cc in omega arith)
sealed-among m e t n x p us (plain t' n' x' ∷ rs) y = there (sealed-among m e t n x p us rs y)
sealed-among m e t n x p us (waits e' t' n' x' p' ∷ rs) y =
    let a : waits e t n x p ≡ waits e' t' n' x' p' = cc in
    here (ap (seal_with m) a)
sealed-among m e t n x p us (sealed e' t' n' x' m' p' ∷ rs) y = there (sealed-among m e t n x p us rs y)

pub record Answered (s : Sending) (mem m : List ℕ) (k : ℕ) (ds : List (List Queued)) (e t n : ℕ) (x p : List ℕ) (us : List Queued) : Type 0 where
  -- as many bytes as were asked for
  pub size : k ≡ length x + sealed_tail
  -- the others wait on, in order
  pub others : waiting_of (flat (after_reply (seal_answer s (length mem) k) m ds)) ≡ us
  pub among : Mem (sealed e t n x m p) (flat (after_reply (seal_answer s (length mem) k) m ds))
  -- its bytes in the queue: the header with the mask on its number, and the part as the host left it
  pub wire : part (part_start s - sealed_head) (sealed_head + (length x + sealed_tail)) (sealed_memory (seal_answer s (length mem) k) s m mem) ≡ masked_header e n (length x + sealed_tail) m ++ p
  -- its number is the first not sealed yet, and the next one is then
  pub number : n ≡ sealed_of s.keys e
  pub next : sealed_of (sealed_state (seal_answer s (length mem) k) s mem).state.keys e ≡ n + 1

-- an accepted reply answers the first that waits
pub reply-answers : (s : Sending) (mem m : List ℕ) (k : ℕ) (ds : List (List Queued)) → Holds s mem ds → is_sealed (seal_answer s (length mem) k) ≡ true
    → (e t n : ℕ) (x p : List ℕ) (us : List Queued) → waiting_of (flat ds) ≡ waits e t n x p ∷ us → Answered s mem m k ds e t n x p us
unfolding sealed_memory sealed_state part_start sealed_up_to
reply-answers s mem m k ds h d e t n x p us y =
    let f = names-first s mem ds h e t n x p us y in
    let q = sealed_tests s (length mem) k d in
    let base : ℕ = s.waiting.slot * s.queue.mtu + s.waiting.start in
    let header : List ℕ = masked_header s.waiting.epoch s.waiting.number s.waiting.length m in
    let w = (seal_writes s mem ds h f.any m).here e t n x p f.epoch f.number f.size f.stands in
    let place : base + sealed_head - sealed_head ≡ base = omega arith in
    let len : sealed_head + (length x + sealed_tail) ≡ length (bytes_of (sealed e t n x m p)) = omega (arith, length-sealed e t n x m p f.stands.sound.part) in
    record {
      size = q.1 ∙ f.size;
      others = ap (λ (l : List (List Queued)). waiting_of (flat l)) (if_true _ _ d) ∙ ap waiting_of (flat-first (seal_with m) ds) ∙ waiting-sealed m (flat ds) (waits e t n x p) us y;
      among = subst (λ (l : List (List Queued)). Mem (sealed e t n x m p) (flat l)) (sym (if_true (first_of (seal_with m) ds) ds d))
          (subst (Mem (sealed e t n x m p)) (sym (flat-first (seal_with m) ds)) (sealed-among m e t n x p us (flat ds) y));
      wire = ap (part (base + sealed_head - sealed_head) (sealed_head + (length x + sealed_tail))) (if_true (splice (base + sealed_head - sealed_head) header mem) mem d)
          ∙ ap (λ (i : ℕ). part i (sealed_head + (length x + sealed_tail)) (splice i header mem)) place ∙ ap (λ (i : ℕ). part base i (splice base header mem)) len ∙ w.stands.here;
      number = in_sequence s.keys (flat ds) h.keys e t n x p us y;
      next = ap (λ (u : Sending). sealed_of u.keys e) (if_true _ _ d)
          ∙ ap (λ (i : ℕ). sealed_of (sealed_up_to s.keys i s.waiting.number) e) f.epoch
          ∙ test_cases (eqb e 2)
          (λ z. ap (λ (u : SendKeys). sealed_of u e) (if_true _ _ z) ∙ if_true _ _ z ∙ ap (λ (i : ℕ). i + 1) f.number)
          (λ z. ap (λ (u : SendKeys). sealed_of u e) (if_false _ _ z) ∙ if_false _ _ z ∙ ap (λ (i : ℕ). i + 1) f.number);
    }
