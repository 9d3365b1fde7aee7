-- A piece taken: the order of the tests, the answer, and the words and the buffer behind it (02, 2 and 7). Assumes nothing.
use Rattle.std.specs.Prelude.{Result, Ok, Err, Option, Some, None, Bool, List, ℕ, ◌+◌, ◌-◌, ◌%◌, leb, ltb, eqb, length, set, drop, replicate}
use Rattle.base.specs.Choose.{choose, both, either}
use Rattle.base.specs.Parts.{part, splice}
use Rattle.handshake.specs.declared.Header.{Header}
use Rattle.handshake.specs.Header.{parse_header}
use Rattle.assembly.specs.declared.Piece.{Piece}
use Rattle.assembly.specs.declared.PieceError.{PieceError}
use Rattle.assembly.specs.declared.Piece.TheVariants as piece
use Rattle.assembly.specs.declared.PieceError.TheVariants as refused
use Rattle.assembly.specs.Spans.{most-pieces, most_bytes, last-number, header-length, words, expected-at, count_at, type_at, total-at, size-at, place_at, offset_at, length_at, expected_of, count_of, type_of, total_of, size_of, place_of, is_whole, is_same, all_shared}

-- what a call leaves: its answer, the words, the buffer
pub record Outcome : Type 0 where
  pub answer : Result Piece PieceError
  pub words : List ℕ
  pub bytes : List ℕ

abbrev pub outcome : Result Piece PieceError → List ℕ → List ℕ → Outcome
outcome a w d = record { answer = a; words = w; bytes = d }

-- every word that has a range is in it; else a call answers 12. Of the type the low byte counts, and spans are only compared
unfoldable pub is_sound : List ℕ → Bool
is_sound w = both (leb (expected_of w) last-number) (both (leb (count_of w) most-pieces) (both (leb (total_of w) most_bytes) (leb (place_of w) (size_of w))))

-- ---- words written

-- "Number 0 is expected first": nothing is held, no record is begun
abbrev pub fresh : List ℕ
fresh = replicate words 0

-- a record of n bytes is begun
abbrev pub begun : List ℕ → ℕ → List ℕ
begun w n = set (set w size-at n) place_at 0

-- the place reached
abbrev pub moved : List ℕ → ℕ → List ℕ
moved w next = set w place_at next

-- "a refusal other than 16 ends the record", "with the earlier pieces kept"
abbrev pub ended : List ℕ → List ℕ
ended w = set w place_at (size_of w)

-- "Type and total are those of the first piece held"
abbrev pub headed : List ℕ → Header → List ℕ
headed w h = choose (eqb (count_of w) 0) (set (set w type_at h.msg_type) total-at h.length) w

-- one piece more is held
abbrev pub spanned : List ℕ → ℕ → Header → List ℕ
spanned w n h = set (set (set w (offset_at n) h.fragment_offset) (length_at n) h.fragment_length) count_at (n + 1)

unfoldable pub held : List ℕ → Header → ℕ → List ℕ
held w h next = moved (spanned (headed w h) (count_of w) h) next

-- "then one more after each message": the next number is expected, nothing is held
abbrev pub handed : List ℕ → List ℕ
handed w = set (set w expected-at (expected_of w + 1)) count_at 0

-- ---- a piece taken

-- the piece at a place of a record, measured against the record: none where its header or its body runs past it
abbrev pub measured : ℕ → Option Header → Option Header
measured n None = None
measured n (Some h) = choose (ltb n (header-length + h.fragment_length)) None (Some h)

unfoldable pub piece_at : List ℕ → ℕ → Option Header
piece_at c at = measured (length c - at) (parse_header (drop at c))

-- its body
abbrev pub body_at : List ℕ → ℕ → Header → List ℕ
body_at c at h = part (at + header-length) h.fragment_length c

-- the place behind it
abbrev pub next_at : ℕ → Header → ℕ
next_at at h = at + header-length + h.fragment_length

-- 24, of a piece of the number expected: that number is the last, its total is over 16,384, or it runs past its own total or that of the first piece
-- held; none of these
unfoldable pub is_fit : List ℕ → Header → Bool
is_fit w h =
    both (ltb (expected_of w) last-number)
    (both (leb h.length most_bytes)
    (both (leb (h.fragment_offset + h.fragment_length) h.length)
    (either (eqb (count_of w) 0) (leb (h.fragment_offset + h.fragment_length) (total_of w)))))

-- "handed over once when every byte is covered, an empty body by its one piece"; else the piece is held
unfoldable pub finished : List ℕ → List ℕ → Outcome
finished w d =
    choose (is_whole w) (outcome (Ok (piece.Message (type_of w % 256) (expected_of w % 65536) (total_of w))) (handed w) d) (outcome (Ok piece.Held) w d)

-- 28: "Every piece must have the held type and total"; none is held, or it has
unfoldable pub is_alike : List ℕ → Header → Bool
is_alike w h = either (eqb (count_of w) 0) (both (eqb (type_of w % 256) (h.msg_type % 256)) (eqb (total_of w) h.length))

-- and "shared bytes must be equal": b its body, d the buffer
unfoldable pub is_agreed : List ℕ → Header → List ℕ → List ℕ → Bool
is_agreed w h b d = both (is_alike w h) (all_shared w (count_of w) h.fragment_offset b d (length b))

-- a piece of the number expected, with its body: 24, 28, the same as one held, "then 25 for a fifty-first different piece"; else the body is put at its
-- place
unfoldable pub offered : List ℕ → Header → List ℕ → ℕ → List ℕ → Outcome
offered w h b next d =
    choose (is_fit w h)
    (choose (is_agreed w h b d)
    (choose (is_same w (count_of w) h.fragment_offset h.fragment_length) (outcome (Ok piece.Same) (moved w next) d)
    (choose (ltb (count_of w) most-pieces) (finished (held w h next) (splice h.fragment_offset b d)) (outcome (Err refused.TooMany) (ended w) d)))
    (outcome (Err refused.Disagrees) (ended w) d))
    (outcome (Err refused.Malformed) (ended w) d)

-- what stands at the place reached: 24 where it runs past the record; "Pieces of other messages change nothing and are only measured against the
-- record"
unfoldable pub read_at : List ℕ → List ℕ → List ℕ → Option Header → Outcome
read_at w c d None = outcome (Err refused.Malformed) (ended w) d
read_at w c d (Some h) =
    choose (eqb h.message_seq (expected_of w)) (offered w h (body_at c (place_of w) h) (next_at (place_of w) h) d)
    (outcome (Ok (piece.Passed h.message_seq)) (moved w (next_at (place_of w) h)) d)

-- the next piece of the record begun, whose content is c: 16, "tested first", then 12, 15, and the record's end
unfoldable pub taken : List ℕ → List ℕ → List ℕ → Outcome
taken w c d =
    choose (ltb (length d) most_bytes) (outcome (Err refused.Short) w d)
    (choose (is_sound w)
    (choose (eqb (length c) (size_of w))
    (choose (ltb (place_of w) (length c)) (read_at w c d (piece_at c (place_of w))) (outcome (Ok piece.End) w d))
    (outcome (Err refused.Reply) w d))
    (outcome (Err refused.Setting) w d))
