-- The flat structs of the C interface, and what they stand for.
use Rattle.std.specs.Prelude.{Option, Some, None, true, false, ℕ}
use Rattle.window.specs.declared.ReplayWindow.{ReplayWindow}
use Rattle.window.specs.declared.Verdict.TheVariants as number
use Rattle.window.specs.declared.Verdict.{Verdict}
use Rattle.record.specs.declared.Ciphertext.{Ciphertext}
use Rattle.record.specs.declared.Parsed.{Parsed}
use Rattle.record.specs.declared.Plaintext.{Plaintext}
use Rattle.record.specs.Record.{plain_head}
use Rattle.record.specs.declared.Parsed.TheVariants as parse
use Rattle.handshake.specs.declared.Header.{Header}
use Rattle.incoming.specs.declared.Inner.{Inner}
use Rattle.leaves.specs.declared.LeavesWindow.{LeavesWindow}
use Rattle.leaves.specs.declared.LeavesParsed.{LeavesParsed}
use Rattle.leaves.specs.declared.LeavesHeader.{LeavesHeader}
use Rattle.leaves.specs.declared.LeavesInner.{LeavesInner}

abbrev pub window_of : LeavesWindow → ReplayWindow
window_of w = record { max_seq = w.max_seq; window = w.window }

abbrev pub flat_window : ReplayWindow → LeavesWindow
flat_window w = record { max_seq = w.max_seq; window = w.window }

abbrev pub verdict_number : Verdict → ℕ
verdict_number number.Fresh = 0
verdict_number number.Seen = 1
verdict_number number.TooOld = 2

-- a kind that has only a header and a length
abbrev pub bare : ℕ → ℕ → ℕ → LeavesParsed
bare kind head len = record {
  kind = kind;
  content_type = 0;
  epoch_bits = 0;
  s_flag = false;
  sequence_number = 0;
  header_len = head;
  length = len;
}

abbrev pub flat_plaintext : Plaintext → LeavesParsed
flat_plaintext p = record {
  kind = 3;
  content_type = p.content_type;
  epoch_bits = 0;
  s_flag = false;
  sequence_number = p.sequence_number;
  header_len = plain_head;
  length = p.length;
}

abbrev pub flat_ciphertext : Ciphertext → LeavesParsed
flat_ciphertext c = record {
  kind = 4;
  content_type = 0;
  epoch_bits = c.epoch_bits;
  s_flag = c.s_flag;
  sequence_number = c.sequence_number;
  header_len = c.header_len;
  length = c.length;
}

abbrev pub flat_parsed : Parsed → LeavesParsed
flat_parsed parse.End = bare 0 0 0
flat_parsed parse.Incomplete = bare 1 0 0
flat_parsed (parse.Invalid n) = bare 2 plain_head n
flat_parsed (parse.Plaintext p) = flat_plaintext p
flat_parsed (parse.Ciphertext c) = flat_ciphertext c

abbrev pub flat_header : Option Header → LeavesHeader
flat_header None = record { found = false; msg_type = 0; length = 0; message_seq = 0; fragment_offset = 0; fragment_length = 0 }
flat_header (Some h) = record {
  found = true;
  msg_type = h.msg_type;
  length = h.length;
  message_seq = h.message_seq;
  fragment_offset = h.fragment_offset;
  fragment_length = h.fragment_length;
}

abbrev pub flat_inner : Option Inner → LeavesInner
flat_inner None = record { found = false; content_type = 0; length = 0 }
flat_inner (Some i) = record { found = true; content_type = i.content_type; length = i.length }
