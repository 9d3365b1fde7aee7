-- The reply to a mask question (01, "Readings of an arriving datagram", refusals 8, 9 and 15; 02, 5, refusals 9 and 26; RFC 9147, sections 4.2.2, 4.2.3 and 4.5.1).
use Rattle.std.specs.Prelude.{ℕ, ◌+◌, ltb, eqb, length, get_or, drop, Bool, true, false, List, [], ◌∷◌, Some, None}
use Rattle.base.specs.Bytes.{xors}
use Rattle.base.specs.Choose.{choose}
use Rattle.base.specs.Parts.{splice}
use Rattle.datagram.specs.Datagram.{is_sound, told, passed, end_asked}
use Rattle.datagram.specs.declared.Ask.{Ask}
use Rattle.datagram.specs.declared.Datagram.{Datagram}
use Rattle.datagram.specs.declared.Question.TheVariants as question
use Rattle.datagram.specs.declared.Question.{Question}
use Rattle.datagram.specs.declared.Reading.TheVariants as says
use Rattle.datagram.specs.declared.Reason.TheVariants as reason
use Rattle.datagram.specs.declared.Step.{Step}
use Rattle.record.specs.Record.{partial_of}
use Rattle.records.specs.Records.{opening_asked}
use Rattle.recv_keys.specs.Keys.{entry_at, find, Found}
use Rattle.window.specs.Used.{expected}
use Rattle.recv_keys.specs.declared.RecvEpochEntry.{RecvEpochEntry}
use Rattle.recv_keys.specs.declared.RecvKeys.{RecvKeys}
use Rattle.sequence.specs.Sequence.{block_of, nearest}
use Rattle.window.specs.Window.{verdict}
use Rattle.window.specs.declared.ReplayWindow.{ReplayWindow}
use Rattle.window.specs.declared.Verdict.TheVariants as number
use Rattle.window.specs.declared.Verdict.{Verdict}

-- ---- the mask

-- a one-byte number takes the first of its two bytes
abbrev pub mask_bytes : Bool → List ℕ → List ℕ
mask_bytes true m = get_or m 0 0 ∷ get_or m 1 0 ∷ []
mask_bytes false m = get_or m 0 0 ∷ []

-- XORed onto the number bytes of the record at a place, nothing else
unfoldable pub unmasked : List ℕ → ℕ → Bool → List ℕ → List ℕ
unmasked d at s m = splice (at + 1) (xors d (at + 1) (mask_bytes s m)) d

-- the number that the unmasked bytes stand for
unfoldable pub rebuilt : ReplayWindow → ℕ → Bool → ℕ
rebuilt w p s = nearest (block_of s) p (expected w)

-- by the window's verdict: the opening question; "9 now means seen and 26 means too old, in the same place"
abbrev pub ruled : Verdict → RecvEpochEntry → Datagram → Ask → ℕ → Step
ruled number.Fresh e b a n = opening_asked e b a n
ruled number.Seen e b a n = passed b (end_asked b a) reason.Seen
ruled number.TooOld e b a n = passed b (end_asked b a) reason.TooOld

-- 8, then that verdict
unfoldable pub judged : RecvEpochEntry → Datagram → Ask → ℕ → Step
judged e b a n =
    choose (ltb 0xFFFF_FFFF_FFFF n) (passed b (end_asked b a) reason.TooHigh)
    (ruled (verdict e.replay n) e b a n)

unfoldable pub masked_at : RecvEpochEntry → Datagram → Ask → List ℕ → List ℕ → Step × List ℕ
masked_at e b a m d = (
  judged e b a (rebuilt e.replay (partial_of (drop b.at (unmasked d b.at a.s_flag m)) a.s_flag) a.s_flag),
  unmasked d b.at a.s_flag m,
)

-- under the epoch that was resolved before the question
unfoldable pub masked_by : Found → RecvKeys → Datagram → Ask → List ℕ → List ℕ → Step × List ℕ
masked_by None k b a m d = (told b says.Setting, d)
masked_by (Some i) k b a m d = masked_at (entry_at k i) b a m d

unfoldable pub masking : Question → RecvKeys → Datagram → List ℕ → List ℕ → Step × List ℕ
masking question.Nothing k b m d = (told b says.Reply, d)
masking (question.Mask a) k b m d = masked_by (find k.entries a.epoch k.count) k b a m d
masking (question.Opening a n) k b m d = (told b says.Reply, d)

-- 12, then 15: another length, or no mask question
unfoldable pub mask_step : RecvKeys → Datagram → List ℕ → List ℕ → Step × List ℕ
mask_step k b m d =
    choose (is_sound k b) (choose (eqb (length d) b.size) (masking b.question k b m d) (told b says.Reply, d)) (told b says.Setting, d)
