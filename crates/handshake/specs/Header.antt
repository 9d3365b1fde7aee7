-- The 12-byte handshake header (RFC 9147, section 5.2): written, read, and read back. Assumes nothing.
use Rattle.std.specs.Prelude.{Option, Some, None, List, [], ◌∷◌, ◌++◌, ◌≡◌, refl, ℕ, ◌%◌, ◌^◌, ltb, length, get_or}
use Rattle.base.specs.Bytes.{be, be_at}
use Rattle.base.proofs.Bytes.{be_at-be}
use Rattle.base.specs.Choose.{choose}
use Rattle.handshake.specs.declared.Header.{Header}

-- type, length of the message in 3 bytes, its number in 2, offset of the piece in 3, length of the piece in 3
unfoldable pub header_bytes : Header → List ℕ
header_bytes h = h.msg_type ∷ be 3 h.length ++ be 2 h.message_seq ++ be 3 h.fragment_offset ++ be 3 h.fragment_length

-- the header at the front of d
unfoldable pub header_at : List ℕ → Header
header_at d = record {
  msg_type = get_or d 0 0;
  length = be_at 3 d 1;
  message_seq = be_at 2 d 4;
  fragment_offset = be_at 3 d 6;
  fragment_length = be_at 3 d 9;
}

unfoldable pub parse_header : List ℕ → Option Header
parse_header d = choose (ltb (length d) 12) None (Some (header_at d))

pub length-header : (h : Header) → length (header_bytes h) ≡ 12
unfolding header_bytes
length-header h = refl

-- reading back gives type and number, and the three lengths as far as 3 bytes hold them
pub header-back : (h : Header) (r : List ℕ) → header_at (header_bytes h ++ r) ≡ record {
  msg_type = h.msg_type;
  length = h.length % 2 ^ 24;
  message_seq = h.message_seq % 2 ^ 16;
  fragment_offset = h.fragment_offset % 2 ^ 24;
  fragment_length = h.fragment_length % 2 ^ 24;
}
unfolding header_at header_bytes
header-back h r = λ i. record {
  msg_type = h.msg_type;
  length = be_at-be 3 h.length [] i;
  message_seq = be_at-be 2 h.message_seq [] i;
  fragment_offset = be_at-be 3 h.fragment_offset [] i;
  fragment_length = be_at-be 3 h.fragment_length [] i;
}
