-- A flight sent again (01, "Flights acknowledged or sent again"), wholly or not at all. Assumes nothing.
use Rattle.std.specs.Prelude.{Bool, List, ℕ, zero, suc, ◌+◌, ◌*◌, ltb, length, set}
use Rattle.base.specs.Choose.{choose, both}
use Rattle.base.specs.Parts.{part}
use Rattle.send_keys.specs.Keys.{next_of}
use Rattle.outgoing.specs.declared.Sending.{Sending}
use Rattle.outgoing.specs.Send.{send_answer, send_state, send_memory}
use Rattle.flight.specs.declared.Entry.{Entry}
use Rattle.flight.specs.declared.Flight.{Flight}
use Rattle.flight.specs.declared.SavedRecords.{SavedRecords}
use Rattle.flight.specs.Flight.{entry_at, whole}
use Rattle.send_keys.specs.Answer.{SendAnswer, is_done}
use Rattle.flight.specs.declared.Saved.{Saved}
use Rattle.resend.specs.Tests.{remembers, closed_state}

-- a new present number, and so many remembered
unfoldable pub with_number : Entry → ℕ → ℕ → Entry
with_number e number n = record { content_type = e.content_type; epoch = e.epoch; number = number; length = e.length; marked = e.marked; remembered = n }

-- its present number is to be remembered, and a cell is free for it
unfoldable pub can_remember : Entry → Bool
can_remember e = both (remembers e) (ltb e.remembered 32)

-- the old number goes into the i-th record's next cell of the table; 22 was found before where there is none
unfoldable pub renewed : Flight → ℕ → ℕ → Flight
renewed f i number =
    choose (can_remember (entry_at f i))
    (record {
      entries = set f.entries i (with_number (entry_at f i) number ((entry_at f i).remembered + 1));
      saved = f.saved;
      numbers = set f.numbers (i * 32 + (entry_at f i).remembered) (entry_at f i).number;
    })
    (record { entries = set f.entries i (with_number (entry_at f i) number (entry_at f i).remembered); saved = f.saved; numbers = f.numbers })

unfoldable pub renewed_if : SendAnswer → Flight → ℕ → ℕ → Flight
renewed_if a f i number = choose (is_done a) (renewed f i number) f

-- the entry and the table of a record under its new number
unfoldable pub new_entry : Entry → ℕ → Entry
new_entry e number = choose (can_remember e) (with_number e number (e.remembered + 1)) (with_number e number e.remembered)

unfoldable pub new_table : Entry → ℕ → List ℕ → List ℕ
new_table e i numbers = choose (can_remember e) (set numbers (i * 32 + e.remembered) e.number) numbers

unfoldable pub sent_entry : SendAnswer → Entry → ℕ → Entry
sent_entry a e number = choose (is_done a) (new_entry e number) e

unfoldable pub sent_table : SendAnswer → Entry → ℕ → List ℕ → List ℕ
sent_table a e i numbers = choose (is_done a) (new_table e i numbers) numbers

-- saved records with another i-th
abbrev pub with_entry : SavedRecords → ℕ → Entry → SavedRecords
with_entry g i e = record { entries = set g.entries i e; saved = g.saved }

-- state, flight and queue while records are sent again
pub record Laying : Type 0 where
  pub state : Sending
  pub flight : Flight
  pub queue : List ℕ

abbrev pub laying : Sending → SavedRecords → List ℕ → List ℕ → Laying
laying s g numbers q = record { state = s; flight = whole g numbers; queue = q }

-- the content of the i-th saved record, at the start of its slot of MTU bytes
abbrev pub content_at : List ℕ → ℕ → Laying → List ℕ
content_at kept i l = part (i * l.state.queue.mtu) (entry_at l.flight i).length kept

-- a record with the saved one's epoch, type and content, sent as any other
unfoldable pub sent_again : SendAnswer → List ℕ → ℕ → Laying → Laying
sent_again a kept i l = record {
  state = (send_state a l.state (entry_at l.flight i).epoch (length (content_at kept i l))).state;
  flight = renewed_if a l.flight i (next_of l.state.keys (entry_at l.flight i).epoch);
  queue = send_memory a l.state (entry_at l.flight i).epoch (entry_at l.flight i).content_type (content_at kept i l) l.queue;
}

abbrev pub again_answer : List ℕ → ℕ → Laying → SendAnswer
again_answer kept i l = send_answer l.state (length l.queue) (entry_at l.flight i).epoch (entry_at l.flight i).content_type (length (content_at kept i l))

-- "skips acknowledged records, and sends the rest under new numbers"
unfoldable pub again_at : List ℕ → ℕ → Laying → Laying
again_at kept i l = choose (entry_at l.flight i).marked l (sent_again (again_answer kept i l) kept i l)

-- the first n saved records
unfoldable pub again_after : List ℕ → Laying → ℕ → Laying
again_after kept l zero = l
again_after kept l (suc n) = again_at kept n (again_after kept l n)

abbrev pub all_again : Sending → Flight → List ℕ → List ℕ → Laying
all_again s f kept q = again_after kept (record { state = closed_state s; flight = f; queue = q }) f.saved

-- wholly or not at all
unfoldable pub resend_state : SendAnswer → Sending → Flight → List ℕ → List ℕ → Saved
resend_state a s f kept q =
    choose (is_done a) (record { answer = a; state = (all_again s f kept q).state; flight = (all_again s f kept q).flight })
    (record { answer = a; state = s; flight = f })

unfoldable pub resend_queue : SendAnswer → Sending → Flight → List ℕ → List ℕ → List ℕ
resend_queue a s f kept q = choose (is_done a) (all_again s f kept q).queue q
