-- 01's and 02's number of each refusal. Assumes nothing.
use Rattle.std.specs.Prelude.{ℕ}
use Rattle.assembly.specs.declared.PieceError.{PieceError}
use Rattle.assembly.specs.declared.PieceError.TheVariants.{Short, Setting, Reply, Malformed, Disagrees, TooMany}

abbrev pub piece_number : PieceError → ℕ
piece_number Short = 16
piece_number Setting = 12
piece_number Reply = 15
piece_number Malformed = 24
piece_number Disagrees = 28
piece_number TooMany = 25
