-- Histories worked out: the request's, and one for each thing that tempts; lists of what is told have the last line first. Computed by the checker.
-- Assumes nothing.
use Rattle.std.specs.Prelude.{List, [], ◌∷◌, ◌++◌, ◌≡◌, refl, ℕ}
use Rattle.base.specs.Bytes.{be}
use Rattle.base.specs.Choose.{choose, both, either}
use Rattle.decimal.specs.Decimal.{digits, places_up_to, places_of, decimal}
use Rattle.sequence.specs.Sequence.{own, below, above, nearest}
use Rattle.reasons.specs.declared.Reason.TheVariants.{Short, Record, Epoch, Old, Seen, Cipher, Taken}
use Rattle.reasons.specs.Met.{has, meet, met}
use Rattle.reasons.specs.Reasons.{records, ends_well, is_well_formed, is_formed, kept_at, taken_in, number_in, reason_in, told_in, only, tell, told_to, told_at, shown, line_of, lines_to, printed}

-- a record: epoch, bits, reply, partial number, and the two bytes that have to be zero
entry : ℕ → ℕ → ℕ → ℕ → ℕ → ℕ → List ℕ
entry epoch bits reply partial y z = be 2 epoch ++ (bits ∷ reply ∷ be 2 partial ++ (y ∷ z ∷ []))

-- the request's example, byte by byte: "0 5 taken", "1 5 seen", "2 6 cipher"
example_input : List ℕ
example_input = 0 ∷ 3 ∷ 16 ∷ 1 ∷ 0 ∷ 5 ∷ 0 ∷ 0 ∷ 0 ∷ 3 ∷ 16 ∷ 1 ∷ 0 ∷ 5 ∷ 0 ∷ 0 ∷ 0 ∷ 3 ∷ 16 ∷ 0 ∷ 0 ∷ 6 ∷ 0 ∷ 0 ∷ []

example : printed example_input ≡ 48 ∷ 32 ∷ 53 ∷ 32 ∷ 116 ∷ 97 ∷ 107 ∷ 101 ∷ 110 ∷ 10 ∷ 49 ∷ 32 ∷ 53 ∷ 32 ∷ 115 ∷ 101 ∷ 101 ∷ 110 ∷ 10 ∷ 50 ∷ 32 ∷ 54 ∷ 32 ∷ 99 ∷ 105 ∷ 112 ∷ 104 ∷ 101 ∷ 114 ∷ 10 ∷ []
unfolding printed lines_to line_of shown decimal places_of places_up_to digits records told_to told_at tell told_in number_in reason_in taken_in kept_at is_formed is_well_formed ends_well met meet has choose both either nearest own below above entry example_input
example = refl

-- after 100 the number 36 is old, even if it was taken, and 37 is not; 37 is then seen, whatever the cipher says
window_input : List ℕ
window_input = entry 3 16 1 36 0 0 ++ (entry 3 16 1 100 0 0 ++ (entry 3 16 0 36 0 0 ++ (entry 3 16 1 37 0 0 ++ (entry 3 16 0 37 0 0))))

window : told_to window_input (records window_input) ≡ record { epoch = 3; number = 37; reason = Seen }
    ∷ (record { epoch = 3; number = 37; reason = Taken }
    ∷ (record { epoch = 3; number = 36; reason = Old }
    ∷ (record { epoch = 3; number = 100; reason = Taken }
    ∷ (record { epoch = 3; number = 36; reason = Taken } ∷ []))))
unfolding records told_to told_at tell told_in number_in reason_in taken_in kept_at is_formed is_well_formed ends_well met meet has choose both either nearest own below above entry window_input
window = refl

-- a malformed record starts no epoch, one that the cipher refuses does; a fifth epoch replaces none, any value is an epoch, and one that
-- comes back has what was taken in it
fifth_input : List ℕ
fifth_input = entry 9 7 1 0 0 0 ++ (entry 0 16 0 1 0 0 ++ (entry 1 16 1 1 0 0 ++ (entry 2 16 1 1 0 0 ++ (entry 65535 16 1 1 0 0 ++ (entry 9 16 1 1 0 0 ++ (entry 0 16 1 1 0 0 ++ (entry 1 16 1 1 0 0)))))))

fifth : told_to fifth_input (records fifth_input) ≡ record { epoch = 1; number = 1; reason = Seen }
    ∷ (record { epoch = 0; number = 1; reason = Taken }
    ∷ (only Epoch
    ∷ (record { epoch = 65535; number = 1; reason = Taken }
    ∷ (record { epoch = 2; number = 1; reason = Taken }
    ∷ (record { epoch = 1; number = 1; reason = Taken }
    ∷ (record { epoch = 0; number = 1; reason = Cipher }
    ∷ (only Record ∷ [])))))))
unfolding records told_to told_at tell told_in number_in reason_in taken_in kept_at is_formed is_well_formed ends_well met meet has choose both either nearest own below above entry fifth_input
fifth = refl

-- the first number is its bits, also 200 of eight (02, 1); the next is the nearest, and at a tie the one in its own block: 388, not 132
numbers_input : List ℕ
numbers_input = entry 3 8 1 200 0 0 ++ (entry 3 8 1 3 0 0 ++ (entry 3 8 1 132 0 0 ++ (entry 4 16 1 65535 0 0 ++ (entry 4 16 1 2 0 0))))

numbers : told_to numbers_input (records numbers_input) ≡ record { epoch = 4; number = 65538; reason = Taken }
    ∷ (record { epoch = 4; number = 65535; reason = Taken }
    ∷ (record { epoch = 3; number = 388; reason = Taken }
    ∷ (record { epoch = 3; number = 259; reason = Taken }
    ∷ (record { epoch = 3; number = 200; reason = Taken } ∷ []))))
unfolding records told_to told_at tell told_in number_in reason_in taken_in kept_at is_formed is_well_formed ends_well met meet has choose both either nearest own below above entry numbers_input
numbers = refl

-- each way to be malformed, and a record cut short, which is short whatever its bytes are; under eight bits the first byte of the number is zero
malformed_input : List ℕ
malformed_input = entry 3 8 1 256 0 0 ++ (entry 3 16 2 0 0 0 ++ (entry 3 9 1 0 0 0 ++ (entry 3 16 1 0 1 0 ++ (entry 3 16 1 0 0 1 ++ (0 ∷ 3 ∷ 9 ∷ [])))))

malformed : told_to malformed_input (records malformed_input) ≡ only Short
    ∷ (only Record
    ∷ (only Record
    ∷ (only Record
    ∷ (only Record
    ∷ (only Record ∷ [])))))
unfolding records told_to told_at tell told_in number_in reason_in taken_in kept_at is_formed is_well_formed ends_well met meet has choose both either nearest own below above entry malformed_input
malformed = refl
