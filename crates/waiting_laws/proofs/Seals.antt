-- The sealing question, the host's bytes in the part that is lent, and the reply (01: "Sealings are asked oldest first and never
-- cancelled"): the first record that waits becomes sealed, the others stay as they are. Assumes nothing.
use Rattle.std.specs.Prelude.{Bool, ◌≡◌, refl, eqb, None, Ok, Err}
use Rattle.std.proofs.Math.Bool.{true}
use Rattle.std.proofs.lemmas.Bool.{false≢true}
use mathlib.Core.List.{List}
use Rattle.std.proofs.Common.{sym, subst, ◌∙◌, mul-le-mul_right, length-append}
use Rattle.std.proofs.Math.Path.{ap}
use Prim.Native.Nat.{ℕ, ◌+◌, ◌-◌, ◌*◌, ◌<◌, ◌≤◌}
use native.Mathlib.Omega.{arith}
use Rattle.std.proofs.Math.ListN.{length}
use borrow.Author.Tests.{eqb-true, lt-ltb, le-leb}
use Rattle.base.specs.Choose.{choose, by_test, test_cases, if_true, if_false, both_left, both_right, both_true}
use Rattle.base.specs.Parts.{part, splice, splice-here}
use Rattle.record.specs.Record.{sealed_head, sealed_tail, unified_header}
use Rattle.queue.specs.Queue.{is_ready, ready-again, sound-again, slot_lt}
use Rattle.queue.specs.Laid.{length_unified}
use Rattle.send_keys.specs.declared.SendKeys.{SendKeys}
use Rattle.send_keys.specs.Keys.{sealed_up_to}
use Rattle.outgoing.specs.declared.Waiting.{Waiting}
use Rattle.outgoing.specs.declared.Sending.{Sending}
use Rattle.outgoing.specs.State.{no_waiting}
use Rattle.sealing.specs.declared.SealError.TheVariants as reply
use Rattle.sealing.specs.Seek.{seek}
use Rattle.sealing.specs.Sealing.{SealAnswer, is_span, is_held, is_asked, is_put, part_start, asked, question_of, put_memory, masked_header, behind_oldest, seal_answer, is_sealed, after_sealing, sealed_state, sealed_memory, length-masked}
use Rattle.waiting_laws.specs.Queued.{Queued, flat, waits_in, InOrder, oldest_in, oldest_of, Agrees, Holds}
use Rattle.waiting_laws.proofs.Ring.{Outside, splice-outside, part_join, part_left, part_right}
use Rattle.waiting_laws.proofs.Lists.{length-waits, length-sealed, any-waits}
use Rattle.waiting_laws.proofs.First.{seal_with, put_with, first_in, first_of, length-of, flat-first, Same, oldest-flat, order-sealed, order-put, oldest-put}
use Rattle.waiting_laws.proofs.Seeks.{steps_enough, seek_exact}
use Rattle.waiting_laws.proofs.Changes.{Found, Writes, oldest-found, first_rows}
use Rattle.waiting_laws.proofs.Numbers.{sealed-agrees, put-agrees}

module _ (s : Sending) (mem : List ℕ) (ds : List (List Queued)) (h : Holds s mem ds) where
  pub any_same : s.waiting.any ≡ waits_in (flat ds)
  any_same = ap (λ (w : Waiting). w.any) h.oldest ∙ any-waits s.queue.first s.queue.limit 0 ds

  few : length ds ≤ s.queue.limit
  few = omega (arith, h.count, h.range.count)

  -- the first byte of the oldest that waits
  abbrev base : ℕ
  base = s.waiting.slot * s.queue.mtu + s.waiting.start

  -- ---- the oldest lies in the queue

  module _ (any : s.waiting.any ≡ true) where
    some : waits_in (flat ds) ≡ true
    some = sym any_same ∙ any

    pub found : Found s.queue 0 (0 + length ds) s.waiting
    found = subst (Found s.queue 0 (0 + length ds)) (sym h.oldest) (oldest-found s.queue mem 0 ds no_waiting h.rows some)

    in_ring : s.waiting.slot < s.queue.limit
    in_ring =
        subst (λ (k : ℕ). k < s.queue.limit) (sym found.within.slot)
        (slot_lt s.queue.first s.queue.limit found.datagram h.range.first (omega (arith, found.high, few)))

    lies-inside : base + (sealed_head + s.waiting.length) ≤ length mem
    lies-inside = omega (arith, mul-le-mul_right s.queue.mtu in_ring, found.within.inside, h.room)

    span : is_span s.waiting s.queue.mtu s.queue.limit ≡ true
    unfolding is_span
    span =
        let v = found.within in
        both_true (lt-ltb _ _ in_ring) ∙ both_true (le-leb _ _ v.long) ∙ both_true (le-leb s.waiting.start s.queue.mtu (omega (arith, v.inside)))
        ∙ both_true (le-leb s.waiting.length s.queue.mtu (omega (arith, v.inside)))
        ∙ both_true (le-leb (s.waiting.start + sealed_head + s.waiting.length) s.queue.mtu (omega (arith, v.inside))) ∙ lt-ltb _ _ v.number

  -- so no call that looks at it is refused by 12
  pub held-again : is_held s ≡ true
  unfolding is_held
  held-again = by_test (λ (b : Bool). b ≡ true) (λ a. span a) (λ a. refl)

  pub ready_always : is_ready s.queue (length mem) ≡ true
  ready_always = ready-again (record { range = h.range; space = h.room })

  -- ---- the host's bytes

  module _ (any : s.waiting.any ≡ true) (v : List ℕ) (size : length v ≡ s.waiting.length) where
    put-writes : Writes (put_with v) s.queue.mtu (base + sealed_head) (length v) mem (splice (base + sealed_head) v mem) s.waiting
    put-writes =
        let fits : base + sealed_head + length v ≤ length mem = omega (arith, lies-inside any) in
        let out : Outside (base + sealed_head) (length v) mem (splice (base + sealed_head) v mem) = splice-outside (base + sealed_head) v mem fits in
        record {
          outside = out;
          low = omega arith;
          high = omega arith;
          here = λ e t k x p ee ek el st.
              let u : List ℕ = unified_header e k (length x + sealed_tail) in
              let five : length u ≡ sealed_head = length_unified e k (length x + sealed_tail) in
              let head : part base sealed_head mem ≡ u = part_left base sealed_head (length p) mem u p five (ap (λ (n : ℕ). part base n mem) (sym (length-append u p ∙ ap (λ (n : ℕ). n + length p) five)) ∙ st.here) in
              let long : length v ≡ length x + sealed_tail = size ∙ el in
              record {
                size = length-waits e t k x v long ∙ sym (length-waits e t k x p st.sound.part);
                stands = record {
                  sound = record {
                    some = st.sound.some;
                    epoch = st.sound.epoch;
                    kind = st.sound.kind;
                    number = st.sound.number;
                    short = st.sound.short;
                    part = long;
                  };
                  here = ap (λ (n : ℕ). part base n (splice (base + sealed_head) v mem)) (length-append u v ∙ ap (λ (n : ℕ). n + length v) five)
                      ∙ part_join base sealed_head (length v) (splice (base + sealed_head) v mem) u v (out.before base sealed_head (omega arith) ∙ head) (splice-here (base + sealed_head) v mem fits);
                };
              };
        }

    -- whatever the host writes there, the others stay as they are
    pub put_in_holds : Holds s (splice (base + sealed_head) v mem) (first_of (put_with v) ds)
    put_in_holds =
        let w = put-writes in
        record {
          range = h.range;
          room = subst (λ (k : ℕ). s.queue.limit * s.queue.mtu ≤ k) (sym w.outside.length) h.room;
          table = h.table;
          count = length-of (put_with v) ds ∙ h.count;
          rows = first_rows (put_with v) s.queue h.range (base + sealed_head) (length v) mem (splice (base + sealed_head) v mem) 0 ds no_waiting (omega (arith, few))
              (subst (Writes (put_with v) s.queue.mtu (base + sealed_head) (length v) mem (splice (base + sealed_head) v mem)) h.oldest w) (some any) h.rows;
          order = subst InOrder (sym (flat-first (put_with v) ds)) (order-put v (flat ds) h.order);
          oldest = h.oldest ∙ sym (oldest-put v s.queue.first s.queue.limit 0 ds no_waiting);
          keys = subst (Agrees s.keys) (sym (flat-first (put_with v) ds)) (put-agrees s.keys (flat ds) v h.keys);
        }

  -- ---- the reply

  module _ (any : s.waiting.any ≡ true) (m : List ℕ) where
    abbrev header : List ℕ
    header = masked_header s.waiting.epoch s.waiting.number s.waiting.length m

    pub seal_writes : Writes (seal_with m) s.queue.mtu base (length header) mem (splice base header mem) s.waiting
    seal_writes =
        let five : length header ≡ sealed_head = length-masked s.waiting.epoch s.waiting.number s.waiting.length m in
        let fits : base + length header ≤ length mem = omega (arith, lies-inside any) in
        let out : Outside base (length header) mem (splice base header mem) = splice-outside base header mem fits in
        record {
          outside = out;
          low = omega arith;
          high = omega arith;
          here = λ e t k x p ee ek el st.
              let u : List ℕ = unified_header e k (length x + sealed_tail) in
              let ulen : length u ≡ sealed_head = length_unified e k (length x + sealed_tail) in
              let rest : part (base + sealed_head) (length p) mem ≡ p = part_right base sealed_head (length p) mem u p ulen (ap (λ (n : ℕ). part base n mem) (sym (length-append u p ∙ ap (λ (n : ℕ). n + length p) ulen)) ∙ st.here) in
              let same : header ≡ masked_header e k (length x + sealed_tail) m = rw (ee, ek, el) in
              let head : part base sealed_head (splice base header mem) ≡ masked_header e k (length x + sealed_tail) m = ap (λ (n : ℕ). part base n (splice base header mem)) (sym five) ∙ splice-here base header mem fits ∙ same in
              record {
                size = length-sealed e t k x m p st.sound.part ∙ sym (length-waits e t k x p st.sound.part);
                stands = record {
                  sound = st.sound;
                  here = ap (λ (n : ℕ). part base n (splice base header mem)) (length-append (masked_header e k (length x + sealed_tail) m) p ∙ ap (λ (n : ℕ). n + length p) (length-masked e k (length x + sealed_tail) m))
                      ∙ part_join base sealed_head (length p) (splice base header mem) (masked_header e k (length x + sealed_tail) m) p head (out.after (base + sealed_head) (length p) (omega arith) ∙ rest);
                };
              };
        }

    -- the next one that waits is the oldest then
    pub next-waits : seek 1999 s.queue mem (behind_oldest s) ≡ oldest_of s.queue.first s.queue.limit 0 (first_of (seal_with m) ds) no_waiting
    unfolding behind_oldest
    next-waits =
        rw h.oldest
        (seek_exact s.queue mem h.range 0 1999 ds m (omega (arith, h.count)) h.rows h.order (some any) (steps_enough s.queue mem h.range 0 ds few h.rows))

    -- the first that waits is sealed, its part as it lies; the others stay as they are
    pub seal_in_holds : Holds (after_sealing s mem) (splice base header mem) (first_of (seal_with m) ds)
    seal_in_holds =
        let w = seal_writes in
        let f : Same s.waiting (oldest_in 0 0 (flat ds) no_waiting) = subst (λ (u : Waiting). Same u (oldest_in 0 0 (flat ds) no_waiting)) (sym h.oldest) (oldest-flat s.queue.first s.queue.limit 0 ds no_waiting) in
        record {
          range = h.range;
          room = subst (λ (k : ℕ). s.queue.limit * s.queue.mtu ≤ k) (sym w.outside.length) h.room;
          table = h.table;
          count = length-of (seal_with m) ds ∙ h.count;
          rows = first_rows (seal_with m) s.queue h.range base (length header) mem (splice base header mem) 0 ds no_waiting (omega (arith, few))
              (subst (Writes (seal_with m) s.queue.mtu base (length header) mem (splice base header mem)) h.oldest w) (some any) h.rows;
          order = subst InOrder (sym (flat-first (seal_with m) ds)) (order-sealed m (flat ds) h.order);
          oldest = next-waits;
          keys = subst (Agrees (sealed_up_to s.keys s.waiting.epoch s.waiting.number)) (sym (flat-first (seal_with m) ds))
              (subst (λ (u : SendKeys). Agrees u (first_in (seal_with m) (flat ds)))
              (ap (λ (e : ℕ). sealed_up_to s.keys e (oldest_in 0 0 (flat ds) no_waiting).number) (sym f.epoch) ∙ ap (sealed_up_to s.keys s.waiting.epoch) (sym f.number))
              (sealed-agrees s.keys (flat ds) h.keys m no_waiting (some any)));
        }

-- ---- the calls

-- what the queue means behind the host's bytes, and behind a reply
abbrev pub after_put : Bool → List ℕ → List (List Queued) → List (List Queued)
after_put b v ds = choose b (first_of (put_with v) ds) ds

abbrev pub after_reply : SealAnswer → List ℕ → List (List Queued) → List (List Queued)
after_reply a m ds = choose (is_sealed a) (first_of (seal_with m) ds) ds

-- 15 is for no question or the wrong length, and 12 never comes
pub sealed_tests : (s : Sending) (room n : ℕ) → is_sealed (seal_answer s room n) ≡ true → (s.waiting.any ≡ true) × (n ≡ s.waiting.length)
unfolding seal_answer
sealed_tests s room n =
    let P : SealAnswer → Type 0 = λ a. is_sealed a ≡ true → (s.waiting.any ≡ true) × (n ≡ s.waiting.length) in
    by_test P (λ r. by_test P (λ i. by_test P (λ y. by_test P (λ l z. (y, eqb-true n s.waiting.length l)) (λ l z. absurd (false≢true z)))
    (λ y z. absurd (false≢true z)))
    (λ i z. absurd (false≢true z)))
    (λ r z. absurd (false≢true z))

module _ (s : Sending) (mem : List ℕ) (ds : List (List Queued)) (h : Holds s mem ds) where
  pub put_holds : (v : List ℕ) → Holds s (put_memory s v mem) (after_put (is_put s (length v) (length mem)) v ds)
  unfolding put_memory part_start is_put is_asked
  put_holds v =
      test_cases (is_put s (length v) (length mem))
      (λ b.
      let size : length v ≡ s.waiting.length = eqb-true (length v) s.waiting.length (both_right (is_asked s (length mem)) _ b) in
      let asks : is_asked s (length mem) ≡ true = both_left (is_asked s (length mem)) _ b in
      let any : s.waiting.any ≡ true = both_right (is_held s) _ (both_right (is_ready s.queue (length mem)) _ asks) in
      rw (if_true (splice (s.waiting.slot * s.queue.mtu + s.waiting.start + sealed_head) v mem) mem b, if_true (first_of (put_with v) ds) ds b) (put_in_holds s mem ds h any v size))
      (λ b.
      rw (if_false (splice (s.waiting.slot * s.queue.mtu + s.waiting.start + sealed_head) v mem) mem b, if_false (first_of (put_with v) ds) ds b) h)

  pub seal_holds : (n : ℕ) (m : List ℕ) → Holds (sealed_state (seal_answer s (length mem) n) s mem).state
      (sealed_memory (seal_answer s (length mem) n) s m mem) (after_reply (seal_answer s (length mem) n) m ds)
  unfolding sealed_state sealed_memory part_start
  seal_holds n m =
      let a : SealAnswer = seal_answer s (length mem) n in
      let header : List ℕ = masked_header s.waiting.epoch s.waiting.number s.waiting.length m in
      let place : s.waiting.slot * s.queue.mtu + s.waiting.start + sealed_head - sealed_head ≡ s.waiting.slot * s.queue.mtu + s.waiting.start = omega arith in
      test_cases (is_sealed a)
      (λ b.
      let any : s.waiting.any ≡ true = (sealed_tests s (length mem) n b).0 in
      rw (if_true (after_sealing s mem) s b, if_true (splice (s.waiting.slot * s.queue.mtu + s.waiting.start + sealed_head - sealed_head) header mem) mem b, if_true (first_of (seal_with m) ds) ds b)
      (rw place (seal_in_holds s mem ds h any m)))
      (λ b.
      rw (if_false (after_sealing s mem) s b, if_false (splice (s.waiting.slot * s.queue.mtu + s.waiting.start + sealed_head - sealed_head) header mem) mem b, if_false (first_of (seal_with m) ds) ds b) h)

  pub seal_told : (n : ℕ) → seal_answer s (length mem) n ≡ choose (waits_in (flat ds)) (choose (eqb n s.waiting.length) (Ok tt) (Err reply.NoQuestion)) (Err reply.NoQuestion)
  unfolding seal_answer
  seal_told n =
      if_true _ _ (ready_always s mem ds h) ∙ if_true _ _ (held-again s mem ds h)
      ∙ ap (λ (b : Bool). choose b (choose (eqb n s.waiting.length) (Ok tt) (Err reply.NoQuestion)) (Err reply.NoQuestion)) (any_same s mem ds h)

  pub question-told : question_of s ≡ choose (waits_in (flat ds)) (asked s) (Ok None)
  unfolding question_of
  question-told =
      if_true _ _ (sound-again h.range) ∙ if_true _ _ (held-again s mem ds h)
      ∙ ap (λ (b : Bool). choose b (asked s) (Ok None)) (any_same s mem ds h)
