-- The cut of an arriving datagram (01, "Readings of an arriving datagram"; RFC 9147, sections 4 and 4.5.2).
use Rattle.std.specs.Prelude.{ℕ, ◌+◌, ltb, eqb, length, drop, List, Some, None}
use Rattle.base.specs.Choose.{choose}
use Rattle.datagram.specs.declared.Ask.{Ask}
use Rattle.datagram.specs.declared.Datagram.{Datagram}
use Rattle.datagram.specs.declared.Question.TheVariants as question
use Rattle.datagram.specs.declared.Question.{Question}
use Rattle.datagram.specs.declared.Reading.TheVariants as says
use Rattle.datagram.specs.declared.Reason.TheVariants as reason
use Rattle.datagram.specs.declared.Step.{Step}
use Rattle.dtls_aead.specs.Nonce.{nonce_of}
use Rattle.record.specs.Record.{plain_head, tag_size, parsed}
use Rattle.record.specs.declared.Ciphertext.{Ciphertext}
use Rattle.record.specs.declared.Parsed.TheVariants as parse
use Rattle.record.specs.declared.Parsed.{Parsed}
use Rattle.recv_keys.specs.Keys.{entry_at, find, resolve, Found}
use Rattle.recv_keys.specs.declared.RecvEpochEntry.{RecvEpochEntry}
use Rattle.recv_keys.specs.declared.RecvKeys.{RecvKeys}
use Rattle.datagram.specs.Datagram.{counted, ended, is_sound, passed, questioned, told}

-- ---- a sealed record

abbrev pub end_of : Datagram → Ciphertext → ℕ
end_of b c = b.at + c.header_len + c.length

abbrev pub ask_of : ℕ → Ciphertext → Ask
ask_of epoch c = record { epoch = epoch; s_flag = c.s_flag; header_len = c.header_len; length = c.length }

-- the mask question shows the epoch and the 16 bytes after the header
abbrev pub mask_asked : Datagram → ℕ → Ciphertext → Step
mask_asked b epoch c = told (questioned b (question.Mask (ask_of epoch c))) (says.Mask epoch (b.at + c.header_len))

-- the peer encrypts: 6, then 7, then the question
unfoldable pub locked_step : Found → RecvKeys → Datagram → Ciphertext → Step
locked_step None k b c = passed b (end_of b c) reason.NoKeys
locked_step (Some i) k b c =
    choose (ltb c.length tag_size) (passed b (end_of b c) reason.TooShort)
    (choose (ltb c.length k.min_protected) (passed b (end_of b c) reason.TooShort) (mask_asked b (entry_at k i).epoch c))

-- before that bits 0 and 1 drop, 5, and bits 2 and 3 are a reading
unfoldable pub sealed_step : RecvKeys → Datagram → Ciphertext → Step
sealed_step k b c =
    choose k.peer_encryption (locked_step (resolve k c.epoch_bits) k b c)
    (choose (ltb c.epoch_bits 2) (passed b (end_of b c) reason.EarlyBits)
    (counted b (end_of b c) (says.Unopened c.epoch_bits c.sequence_number (b.at + c.header_len) c.length)))

-- ---- one record, by what begins the rest of the datagram

unfoldable pub step_of : Parsed → RecvKeys → Datagram → Step
step_of parse.End k b = ended b says.End
step_of parse.Incomplete k b = ended b says.Incomplete
step_of (parse.Invalid n) k b = passed b (b.at + plain_head + n) reason.Invalid
step_of (parse.Plaintext p) k b =
    counted b (b.at + plain_head + p.length) (says.Plaintext p.content_type p.sequence_number (b.at + plain_head) p.length)
step_of (parse.Ciphertext c) k b = sealed_step k b c

-- ---- read

-- the opening question names epoch, number, nonce and header
unfoldable pub opening_asked : RecvEpochEntry → Datagram → Ask → ℕ → Step
opening_asked e b a n = record {
  reading = says.Opening a.epoch n b.at a.header_len a.length;
  nonce = nonce_of e.iv n;
  datagram = questioned b (question.Opening a n);
}

unfoldable pub asked_again : Found → RecvKeys → Datagram → Ask → ℕ → Step
asked_again None k b a n = told b says.Setting
asked_again (Some i) k b a n = opening_asked (entry_at k i) b a n

-- a question that waits is asked again
unfoldable pub asking : Question → RecvKeys → Datagram → List ℕ → Step
asking question.Nothing k b d = step_of (parsed (drop b.at d)) k b
asking (question.Mask a) k b d = told b (says.Mask a.epoch (b.at + a.header_len))
asking (question.Opening a n) k b d = asked_again (find k.entries a.epoch k.count) k b a n

-- 12, then 15 for a datagram of another length
unfoldable pub read_step : RecvKeys → Datagram → List ℕ → Step
read_step k b d =
    choose (is_sound k b) (choose (eqb (length d) b.size) (asking b.question k b d) (told b says.Reply)) (told b says.Setting)
