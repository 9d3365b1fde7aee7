-- A flight sent again (01, "Flights acknowledged or sent again"), wholly or not at all. Assumes nothing.
use Rattle.std.specs.Prelude.{true, false, List, ◌≡◌, ℕ, ◌+◌, ◌<◌, length}
use Rattle.std.proofs.Common.{sym, ap, ◌∙◌, add-one, ltb-true}
use Rattle.std.proofs.lemmas.List.{set-get_or}
use Rattle.base.specs.Choose.{choose, if_false, by_test, test_cases, both_right}
use Rattle.queue.specs.Queue.{InRange}
use Rattle.send_keys.specs.Keys.{next_of}
use Rattle.outgoing.specs.declared.Sending.{Sending}
use Rattle.outgoing.proofs.Laws.{send_range}
use Rattle.flight.specs.declared.Entry.{Entry}
use Rattle.flight.specs.declared.SavedRecords.{SavedRecords}
use Rattle.flight.specs.Flight.{no_entry, entry_at, whole}
use Rattle.send_keys.specs.Answer.{SendAnswer, is_done}
use Rattle.resend.specs.Tests.{remembers}
use Rattle.resend.specs.Resend.{can_remember, renewed, renewed_if, new_entry, new_table, sent_entry, sent_table, with_entry, Laying, laying, content_at, sent_again, again_answer, again_at, again_after}

-- ---- laws

-- a record renewed, by entry and table
pub renewed_parts : (g : SavedRecords) (n : List ℕ) (i number : ℕ)
    → whole (with_entry g i (new_entry (entry_at (whole g n) i) number)) (new_table (entry_at (whole g n) i) i n) ≡ renewed (whole g n) i number
unfolding new_entry new_table renewed choose
renewed_parts g n i number = test_cases (can_remember (entry_at (whole g n) i)) (λ t. rw t) (λ t. rw t)

pub sent_parts : (a : SendAnswer) (g : SavedRecords) (n : List ℕ) (i number : ℕ)
    → whole (with_entry g i (sent_entry a (entry_at (whole g n) i) number)) (sent_table a (entry_at (whole g n) i) i n) ≡ renewed_if a (whole g n) i number
unfolding sent_entry sent_table renewed_if choose
sent_parts a g n i number =
    test_cases (is_done a) (λ t. rw t (renewed_parts g n i number))
    (λ t. rw t (ap (λ (l : List Entry). record { entries = l; saved = g.saved; numbers = n }) (set-get_or g.entries i no_entry)))

pub again-next : (kept : List ℕ) (l : Laying) (n : ℕ) → again_after kept l (n + 1) ≡ again_at kept n (again_after kept l n)
unfolding again_after
again-next kept l n = rw add-one

-- sending again keeps the ranges
pub again-range : (kept : List ℕ) (i : ℕ) (l : Laying) → InRange l.state.queue → InRange (again_at kept i l).state.queue
unfolding again_at sent_again
again-range kept i l r =
    by_test (λ (x : Laying). InRange x.state.queue) (λ m. r)
    (λ m. send_range l.state (length l.queue) (entry_at l.flight i).epoch (entry_at l.flight i).content_type (length (content_at kept i l)) r)

pub laying-same : {a b : Laying} → a.state ≡ b.state → a.flight ≡ b.flight → a.queue ≡ b.queue → a ≡ b
laying-same p q r = λ i. record { state = p i; flight = q i; queue = r i }

-- a saved record that is not acknowledged, sent: state, entry, table and queue
pub sent-again : (kept : List ℕ) (i : ℕ) (s : Sending) (g : SavedRecords) (n q : List ℕ) {t : Sending} {e : Entry} {m p : List ℕ}
    → let l : Laying = laying s g n q in
    let a : SendAnswer = again_answer kept i l in
    let o : Entry = entry_at (whole g n) i in
    o.marked ≡ false → t ≡ (sent_again a kept i l).state → e ≡ sent_entry a o (next_of s.keys o.epoch) → m ≡ sent_table a o i n
    → p ≡ (sent_again a kept i l).queue → laying t (with_entry g i e) m p ≡ again_at kept i l
unfolding again_at sent_again
sent-again kept i s g n q o x y z w =
    laying-same x (both-same y z ∙ sent_parts (again_answer kept i (laying s g n q)) g n i (next_of s.keys (entry_at (whole g n) i).epoch)) w ∙ sym (if_false (laying s g n q) _ o)
  where
    both-same : {e v : Entry} {m p : List ℕ} → e ≡ v → m ≡ p → whole (with_entry g i e) m ≡ whole (with_entry g i v) p
    both-same a b = λ j. whole (with_entry g i (a j)) (b j)

pub can-few : (e : Entry) → can_remember e ≡ true → e.remembered < 32
unfolding can_remember
can-few e h = ltb-true e.remembered 32 (both_right (remembers e) _ h)
