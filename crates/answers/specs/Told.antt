-- What a call tells beside its refusal. Assumes nothing.
use Rattle.std.specs.Prelude.{ℕ}
use Rattle.answers.specs.declared.HuskTold.{HuskTold}

abbrev pub tells : ℕ → ℕ → HuskTold
tells n told = record { refusal = n; told = told }
