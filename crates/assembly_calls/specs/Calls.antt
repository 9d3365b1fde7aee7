-- What each call of reassembly leaves, here and over C: r answered, w the words before and v behind, c the record's content, d the buffer before and
-- e behind. Assumes nothing.
use Rattle.std.specs.Prelude.{⊤, Result, Ok, Err, List, ◌≡◌, ℕ}
use Rattle.base.specs.Choose.{choose}
use Rattle.assembly.specs.declared.Piece.{Piece}
use Rattle.assembly.specs.declared.PieceError.{PieceError}
use Rattle.assembly.specs.declared.Piece.TheVariants as piece
use Rattle.assembly.specs.declared.PieceError.TheVariants as refused
use Rattle.assembly.specs.Numbers.{piece_number}
use Rattle.assembly.specs.Spans.{most_bytes}
use Rattle.assembly.specs.Assembly.{is_sound, fresh, begun, taken}
use Rattle.assembly_calls.specs.declared.HuskPiece.{HuskPiece}

-- ---- answers: the kind, 01's and 02's number of the refusal, and what a message is

abbrev pub told : ℕ → ℕ → ℕ → ℕ → HuskPiece
told k r m n = record { kind = k; refusal = r; msg_type = 0; number = m; length = n }

abbrev pub flat_piece : Result Piece PieceError → HuskPiece
flat_piece (Err refused.Short) = told 0 16 0 most_bytes
flat_piece (Err refused.Setting) = told 0 12 0 0
flat_piece (Err refused.Reply) = told 0 15 0 0
flat_piece (Ok piece.End) = told 1 0 0 0
flat_piece (Err refused.Malformed) = told 0 24 0 0
flat_piece (Err refused.Disagrees) = told 0 28 0 0
flat_piece (Err refused.TooMany) = told 0 25 0 0
flat_piece (Ok (piece.Passed n)) = told 2 0 n 0
flat_piece (Ok piece.Same) = told 3 0 0 0
flat_piece (Ok piece.Held) = told 4 0 0 0
flat_piece (Ok (piece.Message t n l)) = record { kind = 5; refusal = 0; msg_type = t; number = n; length = l }

-- the number alone; 0 where it is done
abbrev pub number_of : Result ⊤ PieceError → ℕ
number_of (Ok x) = 0
number_of (Err e) = piece_number e

-- ---- the contracts of the calls

abbrev pub FreshCall : List ℕ → Type 0
FreshCall v = v ≡ fresh

abbrev pub BeginCall : ℕ → List ℕ → List ℕ → ℕ → Type 0
BeginCall r v w n = (r ≡ choose (is_sound w) 0 12) × (v ≡ choose (is_sound w) (begun w n) w)

abbrev pub TakeCall : HuskPiece → List ℕ → List ℕ → List ℕ → List ℕ → List ℕ → Type 0
TakeCall r v w c e d = (r ≡ flat_piece (taken w c d).answer) × (v ≡ (taken w c d).words) × (e ≡ (taken w c d).bytes)
