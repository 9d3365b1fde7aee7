-- The two record headers (RFC 9147, section 4) and the cut of a datagram (01, "Readings of an arriving datagram").
use Rattle.std.specs.Prelude.{Bool, List, ◌∷◌, ◌++◌, ℕ, ◌+◌, ◌-◌, ◌*◌, ◌/◌, ◌%◌, ltb, eqb, length, get_or, drop}
use Rattle.base.specs.Bytes.{be, be_at}
use Rattle.base.specs.Choose.{choose, both, either}
use Rattle.base.specs.Parts.{part}
use Rattle.record.specs.declared.Plaintext.{Plaintext}
use Rattle.record.specs.declared.Ciphertext.{Ciphertext}
use Rattle.record.specs.declared.Parsed.{Parsed}
use Rattle.record.specs.declared.Parsed.TheVariants as variant

-- ---- how long they are

-- a plaintext record's header; a sealed record's, with two number bytes and a length, as it is written
abbrev pub plain_head : ℕ
plain_head = 13

abbrev pub sealed_head : ℕ
sealed_head = 5

-- "Tag length is 16"; behind its content a sealed record has the content type and the tag
abbrev pub tag_size : ℕ
tag_size = 16

abbrev pub sealed_tail : ℕ
sealed_tail = 1 + tag_size

-- what it has beside its content
abbrev pub sealed_over : ℕ
sealed_over = sealed_head + sealed_tail

-- ---- a sealed record's unified header: flags 001CSLEE

-- 0x20 to 0x3F begins a sealed record
abbrev pub is_ciphertext : ℕ → Bool
is_ciphertext flags = eqb (flags / 32) 1

-- 0x10, a connection ID; 0x08, a second number byte; 0x04, a length
abbrev pub c_flag_of : ℕ → Bool
c_flag_of flags = eqb (flags / 16 % 2) 1

abbrev pub s_flag_of : ℕ → Bool
s_flag_of flags = eqb (flags / 8 % 2) 1

abbrev pub l_flag_of : ℕ → Bool
l_flag_of flags = eqb (flags / 4 % 2) 1

-- flags and a number byte, a second number byte, a length of two bytes
unfoldable pub header_length : ℕ → ℕ
header_length flags = 2 + flags / 8 % 2 + flags / 4 % 2 * 2

-- the length field, the header's last two bytes; without one the record runs to the end
unfoldable pub fragment_len : List ℕ → ℕ → ℕ
fragment_len d flags = choose (l_flag_of flags) (be_at 2 d (header_length flags - 2)) (length d - header_length flags)

-- the number bytes as they lie, two or one
unfoldable pub partial_of : List ℕ → Bool → ℕ
partial_of d s = choose s (be_at 2 d 1) (get_or d 1 0)

abbrev pub ciphertext_of : List ℕ → ℕ → Ciphertext
ciphertext_of d flags = record {
  epoch_bits = flags % 4;
  s_flag = s_flag_of flags;
  sequence_number = partial_of d (s_flag_of flags);
  header_len = header_length flags;
  length = fragment_len d flags;
}

unfoldable pub parse_ciphertext : List ℕ → ℕ → Parsed
parse_ciphertext d flags =
    choose (ltb (length d) (header_length flags)) variant.Incomplete
    (choose (ltb (length d - header_length flags) (fragment_len d flags)) variant.Incomplete (variant.Ciphertext (ciphertext_of d flags)))

-- ---- a plaintext record's header of 13 bytes

-- alert, handshake, ACK
unfoldable pub is_type : ℕ → Bool
is_type t = either (eqb t 21) (either (eqb t 22) (eqb t 26))

-- 0xFEFF or 0xFEFD
unfoldable pub is_version : ℕ → ℕ → Bool
is_version a b = both (eqb a 0xFE) (either (eqb b 0xFF) (eqb b 0xFD))

-- type, version, and epoch 0
unfoldable pub is_plaintext : List ℕ → Bool
is_plaintext d = both (is_type (get_or d 0 0)) (both (is_version (get_or d 1 0) (get_or d 2 0)) (eqb (be_at 2 d 3) 0))

-- six bytes
abbrev pub number_of : List ℕ → ℕ
number_of d = be_at 6 d 5

abbrev pub plaintext_of : List ℕ → Plaintext
plaintext_of d = record { content_type = get_or d 0 0; sequence_number = number_of d; length = be_at 2 d 11 }

unfoldable pub parse_plaintext : List ℕ → Parsed
parse_plaintext d =
    choose (ltb (length d) plain_head) variant.Incomplete
    (choose (ltb (length d - plain_head) (be_at 2 d 11)) variant.Incomplete
    (choose (is_plaintext d) (variant.Plaintext (plaintext_of d)) (variant.Invalid (be_at 2 d 11))))

-- ---- what begins the rest of a datagram

unfoldable pub parsed : List ℕ → Parsed
parsed d =
    choose (eqb (length d) 0) variant.End
    (choose (is_ciphertext (get_or d 0 0)) (choose (c_flag_of (get_or d 0 0)) variant.End (parse_ciphertext d (get_or d 0 0))) (parse_plaintext d))

-- where its content begins, and how long that is
abbrev pub head_of : Parsed → ℕ
head_of variant.End = 0
head_of variant.Incomplete = 0
head_of (variant.Invalid n) = plain_head
head_of (variant.Plaintext p) = plain_head
head_of (variant.Ciphertext c) = c.header_len

abbrev pub size_of : Parsed → ℕ
size_of variant.End = 0
size_of variant.Incomplete = 0
size_of (variant.Invalid n) = n
size_of (variant.Plaintext p) = p.length
size_of (variant.Ciphertext c) = c.length

-- the content, and what follows the record
abbrev pub content_of : List ℕ → Parsed → List ℕ
content_of d p = part (head_of p) (size_of p) d

abbrev pub rest_of : List ℕ → Parsed → List ℕ
rest_of d p = drop (size_of p) (drop (head_of p) d)

-- ---- headers written

-- type, FE FD, epoch 0, number in 6 bytes, length in 2
unfoldable pub plaintext_header : ℕ → ℕ → ℕ → List ℕ
plaintext_header t n len = t ∷ 0xFE ∷ 0xFD ∷ 0 ∷ 0 ∷ be 6 n ++ be 2 len

-- 0x2C plus the low two bits of the epoch, the low 16 bits of the number, length in 2
unfoldable pub unified_header : ℕ → ℕ → ℕ → List ℕ
unified_header e n len = (0x2C + e % 4) ∷ be 2 n ++ be 2 len
