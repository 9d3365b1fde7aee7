-- Taking the front datagram (01, refusals 12, 23, 16): 23 exactly if one of its records waits; what is handed out is its records' bytes, and
-- the queue then means the datagrams behind it. Assumes nothing.
use Rattle.std.specs.Prelude.{List, [], ◌∷◌, ℕ, ltb, length, Some, None, Ok, Err}
use Rattle.base.specs.Choose.{choose}
use Rattle.taking.specs.declared.TakeError.TheVariants as take
use Rattle.taking.specs.Take.{TakeAnswer, is_taken}
use Rattle.waiting_laws.specs.Queued.{Queued, bytes, waits_in}

-- ---- the call

-- what taking answers, of the datagrams: none; 23; 16; the front's length
abbrev pub take_told : List (List Queued) → ℕ → TakeAnswer
take_told [] have = Ok None
take_told (d ∷ ds) have =
    choose (waits_in d) (Err take.Unsealed) (choose (ltb have (length (bytes d))) (Err (take.Short (length (bytes d)))) (Ok (Some (length (bytes d)))))

-- what the queue means behind it
abbrev pub after_taken : TakeAnswer → List (List Queued) → List (List Queued)
after_taken a [] = []
after_taken a (d ∷ ds) = choose (is_taken a) ds (d ∷ ds)
