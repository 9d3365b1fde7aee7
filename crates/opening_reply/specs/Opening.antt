-- The reply to an opening question (01, "Readings of an arriving datagram", refusals 10, 11 and 15), and the removal of a question's epoch.
use Rattle.std.specs.Prelude.{ℕ, ◌+◌, ◌-◌, eqb, length, true, false, List, Some, None, Option}
use Rattle.base.specs.Choose.{choose}
use Rattle.base.specs.Parts.{part}
use Rattle.datagram.specs.Datagram.{is_sound, told, moved, passed, counted, end_asked}
use Rattle.datagram.specs.declared.Ask.{Ask}
use Rattle.datagram.specs.declared.Datagram.{Datagram}
use Rattle.datagram.specs.declared.Question.TheVariants as question
use Rattle.datagram.specs.declared.Question.{Question}
use Rattle.datagram.specs.declared.Reading.TheVariants as says
use Rattle.datagram.specs.declared.Reading.{Reading}
use Rattle.datagram.specs.declared.Reason.TheVariants as reason
use Rattle.datagram.specs.declared.Step.{Step}
use Rattle.incoming.specs.Inner.{inner_of}
use Rattle.incoming.specs.declared.Inner.{Inner}
use Rattle.recv_keys.specs.Keys.{find, marked, Found}
use Rattle.recv_keys.specs.declared.RecvKeys.{RecvKeys}
use Rattle.record.specs.Record.{tag_size}
use Rattle.opening_reply.specs.declared.Cancelled.{Cancelled}
use Rattle.opening_reply.specs.declared.Marked.{Marked}

-- ---- the opening

abbrev pub still : RecvKeys → Step → Marked
still k t = record { step = t; keys = k }

-- 11, or the content type and the content before it
unfoldable pub typed : Datagram → Ask → ℕ → Option Inner → Step
typed b a n None = passed b (end_asked b a) reason.NoContentType
typed b a n (Some i) = counted b (end_asked b a) (says.Opened a.epoch n i.content_type (b.at + a.header_len) i.length)

-- no: 10; yes, with the plaintext 16 bytes shorter at the start of the protected part: the number is marked; another length: 15
-- what a reply to an opening question says: nothing, or so many bytes of plaintext at the start of the protected part
abbrev pub Opening : Type 0
Opening = Option ℕ

unfoldable pub opened_at : ℕ → Opening → RecvKeys → Datagram → Ask → ℕ → List ℕ → Marked
opened_at i None k b a n d = still k (passed b (end_asked b a) reason.NotOpened)
opened_at i (Some len) k b a n d =
    choose (eqb len (a.length - tag_size)) (still (marked k i n) (typed b a n (inner_of (part (b.at + a.header_len) len d))))
    (still k (told b says.Reply))

unfoldable pub opened_by : Found → Opening → RecvKeys → Datagram → Ask → ℕ → List ℕ → Marked
opened_by None o k b a n d = still k (told b says.Setting)
opened_by (Some i) o k b a n d = opened_at i o k b a n d

unfoldable pub openings : Question → Opening → RecvKeys → Datagram → List ℕ → Marked
openings question.Nothing o k b d = still k (told b says.Reply)
openings (question.Mask a) o k b d = still k (told b says.Reply)
openings (question.Opening a n) o k b d = opened_by (find k.entries a.epoch k.count) o k b a n d

-- 12, then 15: another length, or no opening question
unfoldable pub opened_step : RecvKeys → Datagram → Opening → List ℕ → Marked
opened_step k b o d =
    choose (is_sound k b) (choose (eqb (length d) b.size) (openings b.question o k b d) (still k (told b says.Reply)))
    (still k (told b says.Setting))

-- ---- the epoch of a question removed: its record drops by 6 and the cut goes on behind it

unfoldable pub cancelled_ask : Ask → Datagram → ℕ → Cancelled
cancelled_ask a b epoch =
    choose (eqb a.epoch epoch) (record { dropped = true; datagram = moved b (end_asked b a) b.readings }) (record { dropped = false; datagram = b })

unfoldable pub cancelled : Question → Datagram → ℕ → Cancelled
cancelled question.Nothing b epoch = record { dropped = false; datagram = b }
cancelled (question.Mask a) b epoch = cancelled_ask a b epoch
cancelled (question.Opening a n) b epoch = cancelled_ask a b epoch

-- ---- the part of the datagram that a reading shows

abbrev pub start_of : Reading → ℕ
start_of says.Setting = 0
start_of says.Reply = 0
start_of says.End = 0
start_of says.Incomplete = 0
start_of says.TooMany = 0
start_of (says.Dropped r) = 0
start_of (says.Plaintext t n s l) = s
start_of (says.Unopened b n s l) = s
start_of (says.Opened e n t s l) = s
start_of (says.Mask e s) = s
start_of (says.Opening e n s h l) = s

abbrev pub length_of : Reading → ℕ
length_of says.Setting = 0
length_of says.Reply = 0
length_of says.End = 0
length_of says.Incomplete = 0
length_of says.TooMany = 0
length_of (says.Dropped r) = 0
length_of (says.Plaintext t n s l) = l
length_of (says.Unopened b n s l) = l
length_of (says.Opened e n t s l) = l
length_of (says.Mask e s) = 16
length_of (says.Opening e n s h l) = h

abbrev pub shown_by : Reading → List ℕ → List ℕ
shown_by r d = part (start_of r) (length_of r) d
