-- Rows of pieces of the number expected, by the sentences of 02, 2 and 7: answer and buffer of each, computed. Assumes nothing.
use Rattle.std.specs.Prelude.{Result, Ok, Err, true, false, List, [], ◌∷◌, ◌≡◌, refl, ℕ, set}
use Rattle.base.specs.Choose.{choose, both, either}
use Rattle.base.specs.Every.{every}
use Rattle.base.specs.Parts.{splice}
use Rattle.handshake.specs.declared.Header.{Header}
use Rattle.assembly.specs.declared.Piece.{Piece}
use Rattle.assembly.specs.declared.PieceError.{PieceError}
use Rattle.assembly.specs.declared.Piece.TheVariants as piece
use Rattle.assembly.specs.declared.PieceError.TheVariants as refused
use Rattle.assembly.specs.Spans.{last-number, expected-at, count_at, type_at, total-at, size-at, place_at, within, covered, all_covered, is_whole, is_same, is_shared, all_shared}
use Rattle.assembly.specs.Assembly.{is_sound, fresh, held, is_fit, is_alike, is_agreed, finished, offered}

-- a piece of message 0: its type, total, offset and length
abbrev piece· : ℕ → ℕ → ℕ → ℕ → Header
piece· t total o l = record { msg_type = t; length = total; message_seq = 0; fragment_offset = o; fragment_length = l }

-- a buffer of four bytes
abbrev room : List ℕ
room = 0 ∷ 0 ∷ 0 ∷ 0 ∷ []

-- a piece on words w and buffer d: answer and buffer
pub record Row (w : List ℕ) (h : Header) (b d : List ℕ) (a : Result Piece PieceError) (e : List ℕ) : Type 0 where
  pub answer : (offered w h b 0 d).answer ≡ a
  pub bytes : (offered w h b 0 d).bytes ≡ e

-- the words behind the first three bytes of four, of type 11
abbrev three : List ℕ
three = (offered fresh (piece· 11 4 0 3) (1 ∷ 2 ∷ 3 ∷ []) 0 room).words

-- held; then "handed over once when every byte is covered", "Type and total are those of the first piece held", the shared bytes the same
first : Row fresh (piece· 11 4 0 3) (1 ∷ 2 ∷ 3 ∷ []) room (Ok piece.Held) (1 ∷ 2 ∷ 3 ∷ 0 ∷ [])
unfolding choose both either every splice within covered all_covered is_whole is_same is_shared all_shared is_fit is_alike is_agreed held finished offered
first = record { answer = refl; bytes = refl }

overlap : Row three (piece· 11 4 1 3) (2 ∷ 3 ∷ 9 ∷ []) (1 ∷ 2 ∷ 3 ∷ 0 ∷ []) (Ok (piece.Message 11 0 4)) (1 ∷ 2 ∷ 3 ∷ 9 ∷ [])
unfolding choose both either every splice within covered all_covered is_whole is_same is_shared all_shared is_fit is_alike is_agreed held finished offered
overlap = record { answer = refl; bytes = refl }

-- "the same exactly when message number, type, total length, offset, length and every byte agree"; a piece of another length is not
same : Row three (piece· 11 4 0 3) (1 ∷ 2 ∷ 3 ∷ []) (1 ∷ 2 ∷ 3 ∷ 0 ∷ []) (Ok piece.Same) (1 ∷ 2 ∷ 3 ∷ 0 ∷ [])
unfolding choose both either every splice within covered all_covered is_whole is_same is_shared all_shared is_fit is_alike is_agreed held finished offered
same = record { answer = refl; bytes = refl }

longer : Row three (piece· 11 4 0 4) (1 ∷ 2 ∷ 3 ∷ 4 ∷ []) (1 ∷ 2 ∷ 3 ∷ 0 ∷ []) (Ok (piece.Message 11 0 4)) (1 ∷ 2 ∷ 3 ∷ 4 ∷ [])
unfolding choose both either every splice within covered all_covered is_whole is_same is_shared all_shared is_fit is_alike is_agreed held finished offered
longer = record { answer = refl; bytes = refl }

-- a piece that only touches shares no byte, whatever it brings
touching : Row three (piece· 11 4 3 1) (9 ∷ []) (1 ∷ 2 ∷ 3 ∷ 0 ∷ []) (Ok (piece.Message 11 0 4)) (1 ∷ 2 ∷ 3 ∷ 9 ∷ [])
unfolding choose both either every splice within covered all_covered is_whole is_same is_shared all_shared is_fit is_alike is_agreed held finished offered
touching = record { answer = refl; bytes = refl }

-- 28: another first, last or only shared byte, another type, another total within the held one, also of an empty piece
changed : Row three (piece· 11 4 0 3) (9 ∷ 2 ∷ 3 ∷ []) (1 ∷ 2 ∷ 3 ∷ 0 ∷ []) (Err refused.Disagrees) (1 ∷ 2 ∷ 3 ∷ 0 ∷ [])
unfolding choose both either every splice within covered all_covered is_whole is_same is_shared all_shared is_fit is_alike is_agreed held finished offered
changed = record { answer = refl; bytes = refl }

changed-last : Row three (piece· 11 4 0 3) (1 ∷ 2 ∷ 9 ∷ []) (1 ∷ 2 ∷ 3 ∷ 0 ∷ []) (Err refused.Disagrees) (1 ∷ 2 ∷ 3 ∷ 0 ∷ [])
unfolding choose both either every splice within covered all_covered is_whole is_same is_shared all_shared is_fit is_alike is_agreed held finished offered
changed-last = record { answer = refl; bytes = refl }

changed_shared : Row three (piece· 11 4 2 2) (9 ∷ 4 ∷ []) (1 ∷ 2 ∷ 3 ∷ 0 ∷ []) (Err refused.Disagrees) (1 ∷ 2 ∷ 3 ∷ 0 ∷ [])
unfolding choose both either every splice within covered all_covered is_whole is_same is_shared all_shared is_fit is_alike is_agreed held finished offered
changed_shared = record { answer = refl; bytes = refl }

other-type : Row three (piece· 20 4 0 3) (1 ∷ 2 ∷ 3 ∷ []) (1 ∷ 2 ∷ 3 ∷ 0 ∷ []) (Err refused.Disagrees) (1 ∷ 2 ∷ 3 ∷ 0 ∷ [])
unfolding choose both either every splice within covered all_covered is_whole is_same is_shared all_shared is_fit is_alike is_agreed held finished offered
other-type = record { answer = refl; bytes = refl }

other-total : Row three (piece· 11 5 3 1) (4 ∷ []) (1 ∷ 2 ∷ 3 ∷ 0 ∷ []) (Err refused.Disagrees) (1 ∷ 2 ∷ 3 ∷ 0 ∷ [])
unfolding choose both either every splice within covered all_covered is_whole is_same is_shared all_shared is_fit is_alike is_agreed held finished offered
other-total = record { answer = refl; bytes = refl }

empty_of_other-type : Row three (piece· 20 4 4 0) [] (1 ∷ 2 ∷ 3 ∷ 0 ∷ []) (Err refused.Disagrees) (1 ∷ 2 ∷ 3 ∷ 0 ∷ [])
unfolding choose both either every splice within covered all_covered is_whole is_same is_shared all_shared is_fit is_alike is_agreed held finished offered
empty_of_other-type = record { answer = refl; bytes = refl }

-- "an empty body by its one piece"; an empty piece of another body is held
empty : Row fresh (piece· 14 0 0 0) [] room (Ok (piece.Message 14 0 0)) room
unfolding choose both either every splice within covered all_covered is_whole is_same is_shared all_shared is_fit is_alike is_agreed held finished offered
empty = record { answer = refl; bytes = refl }

nothing : Row fresh (piece· 11 4 4 0) [] room (Ok piece.Held) room
unfolding choose both either every splice within covered all_covered is_whole is_same is_shared all_shared is_fit is_alike is_agreed held finished offered
nothing = record { answer = refl; bytes = refl }

-- 24: "past its own total, the held total", "a total over 16,384, or 65,535 as the expected number", "before sameness" and before 28
past-own : Row fresh (piece· 11 3 1 3) (9 ∷ 9 ∷ 9 ∷ []) room (Err refused.Malformed) room
unfolding choose both is_fit offered
past-own = record { answer = refl; bytes = refl }

past-held : Row three (piece· 11 5 3 2) (4 ∷ 5 ∷ []) (1 ∷ 2 ∷ 3 ∷ 0 ∷ []) (Err refused.Malformed) (1 ∷ 2 ∷ 3 ∷ 0 ∷ [])
unfolding choose both either every splice within covered all_covered is_whole is_same is_shared all_shared is_fit is_alike is_agreed held finished offered
past-held = record { answer = refl; bytes = refl }

too_long : Row fresh (piece· 11 16385 0 1) (1 ∷ []) room (Err refused.Malformed) room
unfolding choose both is_fit offered
too_long = record { answer = refl; bytes = refl }

spent : Row (set fresh expected-at last-number) (piece· 11 1 0 1) (1 ∷ []) room (Err refused.Malformed) room
unfolding choose both is_fit offered
spent = record { answer = refl; bytes = refl }

same_too_long : Row three (piece· 11 16385 0 3) (1 ∷ 2 ∷ 3 ∷ []) (1 ∷ 2 ∷ 3 ∷ 0 ∷ []) (Err refused.Malformed) (1 ∷ 2 ∷ 3 ∷ 0 ∷ [])
unfolding choose both either every splice within covered all_covered is_whole is_same is_shared all_shared is_fit is_alike is_agreed held finished offered
same_too_long = record { answer = refl; bytes = refl }

-- 25: "a fifty-first different piece", though it would be the last that is missing; the same is none, and 28 comes "before 25"
abbrev fifty : List ℕ
fifty = set (set (set fresh count_at 50) type_at 11) total-at 1

one_too_many : Row fifty (piece· 11 1 0 1) (1 ∷ []) room (Err refused.TooMany) room
unfolding choose both either every within covered is_same is_shared all_shared is_fit is_alike is_agreed offered
one_too_many = record { answer = refl; bytes = refl }

disagrees_with-fifty : Row fifty (piece· 20 1 0 1) (1 ∷ []) room (Err refused.Disagrees) room
unfolding choose both either every within covered is_same is_shared all_shared is_fit is_alike is_agreed offered
disagrees_with-fifty = record { answer = refl; bytes = refl }

same_of_fifty : Row fifty (piece· 11 1 0 0) [] room (Ok piece.Same) room
unfolding choose both either every within covered is_same is_shared all_shared is_fit is_alike is_agreed offered
same_of_fifty = record { answer = refl; bytes = refl }

-- 12: the last value of each word that is in its range, and the first that is not
ranges : (is_sound (set fresh expected-at 65535) ≡ true) × (is_sound (set fresh expected-at 65536) ≡ false)
    × (is_sound (set fresh count_at 50) ≡ true) × (is_sound (set fresh count_at 51) ≡ false)
    × (is_sound (set fresh total-at 16384) ≡ true) × (is_sound (set fresh total-at 16385) ≡ false)
    × (is_sound (set (set fresh size-at 1) place_at 1) ≡ true) × (is_sound (set (set fresh size-at 1) place_at 2) ≡ false)
unfolding both is_sound
ranges = (refl, refl, refl, refl, refl, refl, refl, refl)
