-- Nothing is queued behind the oldest record that waits: then the search finds none. Assumes nothing.
use Rattle.std.specs.Prelude.{Bool, true, List, ◌≡◌, ℕ, suc, ◌+◌, ◌-◌, ◌<◌, leb, get_or}
use Rattle.std.proofs.Common.{ap, ◌∙◌, arith, lt-ltb, le-ltb, leb-true, leb-false}
use Rattle.base.specs.Choose.{by_test, both, both_left, both_right, test_cases, if_true, if_false}
use Rattle.queue.specs.declared.Queue.{Queue}
use Rattle.queue.specs.Queue.{slot_of}
use Rattle.outgoing.specs.declared.Sending.{Sending}
use Rattle.outgoing.specs.State.{no_waiting}
use Rattle.sealing.specs.declared.Search.{Search}
use Rattle.sealing.specs.Seek.{nth_of, beyond, seek_step, step_in, seek, seek-done, seek-on}
use Rattle.sealing.specs.Sealing.{behind_oldest, Held}

-- its datagram is the last, and ends where it ends
unfoldable pub is_last : Sending → Bool
is_last s = both (leb s.queue.count ((behind_oldest s).datagram + 1)) (leb (get_or s.queue.lengths s.waiting.slot 0) (behind_oldest s).offset)

pub behind-lt : {s : Sending} → Held s → (behind_oldest s).datagram < 16
unfolding behind_oldest nth_of
behind-lt {s} h =
    by_test (λ (k : ℕ). k < 16) (λ t. omega (arith, h.slot, h.range.limit))
    (λ t. omega (arith, leb-false s.queue.first s.waiting.slot t, h.range.limit, h.range.first))

-- the slot of the datagram that lies in a slot
slot-nth : (first limit slot : ℕ) → first < limit → slot < limit → slot_of first limit (nth_of first limit slot) ≡ slot
unfolding slot_of nth_of
slot-nth first limit slot f s =
    test_cases (leb first slot)
    (λ h.
    let l = leb-true first slot h in
    let m : first + (slot - first) ≡ slot = omega arith in
    let e : first + nth_of first limit slot ≡ slot = ap (λ (k : ℕ). first + k) (if_true _ _ h) ∙ m in
    if_true _ _ (lt-ltb (first + nth_of first limit slot) limit (omega arith)) ∙ e)
    (λ h.
    let l = leb-false first slot h in
    let m : first + (slot + limit - first) ≡ slot + limit = omega arith in
    let e : first + nth_of first limit slot ≡ slot + limit = ap (λ (k : ℕ). first + k) (if_false _ _ h) ∙ m in
    let r : first + nth_of first limit slot - limit ≡ slot = omega arith in
    if_false _ _ (le-ltb (first + nth_of first limit slot) limit (omega arith)) ∙ r)

-- past the last datagram the search is over
over : (q : Queue) (d : List ℕ) (c : Search) (k : ℕ) → leb q.count c.datagram ≡ true → seek (suc k) q d c ≡ no_waiting
unfolding seek_step
over q d c k e = seek-done q d c k (if_true _ _ e)

pub last_none : (s : Sending) (d : List ℕ) → Held s → is_last s ≡ true → seek 1999 s.queue d (behind_oldest s) ≡ no_waiting
unfolding is_last behind_oldest seek_step beyond
last_none s d held h =
    let q = s.queue in
    let c = behind_oldest s in
    let slot = slot-nth q.first q.limit s.waiting.slot held.range.first held.slot in
    test_cases (leb q.count c.datagram) (λ t. over q d c 1998 t)
    (λ t.
    let e : seek_step q d c ≡ beyond c = if_false _ _ t ∙ ap (λ (k : ℕ). step_in q d k c) slot ∙ if_true _ _ (both_right _ _ h) in
    seek-on q d c 1998 e ∙ over q d (record { datagram = c.datagram + 1; offset = 0 }) 1997 (both_left _ _ h))
