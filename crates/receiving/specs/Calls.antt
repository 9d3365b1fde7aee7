-- The calls of the receive side as one type: what each makes of the state and answers.
use Rattle.opening_reply.specs.Opening.{Opening}
use Rattle.std.specs.Prelude.{ℕ, Bool, true, false, List, [], ◌∷◌, Some, None, Ok, Err}
use Rattle.datagram.specs.Datagram.{reading_number}
use Rattle.datagram.specs.Keeps.{refused}
use Rattle.receiving.specs.Receiving.{answer_number, key_of, remove_of, encrypt_of, release_of, begin_of, read_of, mask_of, opened_of, Answer}
use Rattle.receiving.specs.declared.Done.TheVariants as done
use Rattle.receiving.specs.declared.Refusal.TheVariants as refusal
use Rattle.receiving.specs.declared.Kept.{Kept}
use Rattle.receiving.specs.declared.Read.{Read}
use Rattle.receiving.specs.declared.Receiving.{Receiving}

pub data Call : Type 0 where
  keying : ℕ → List ℕ → Call
  removing : ℕ → Call
  encrypting : Call
  releasing : Call
  beginning : ℕ → Call
  reading : List ℕ → Call
  masking : List ℕ → List ℕ → Call
  opening : Opening → List ℕ → Call

-- what a call leaves: the state, 01's number of what it answers, and whether that refuses it: 1, 12, 13, 15 and 23
pub record Outcome : Type 0 where
  pub state : Receiving
  pub number : ℕ
  pub refused : Bool

abbrev pub answer_refused : Answer → Bool
answer_refused (Ok d) = false
answer_refused (Err r) = true

abbrev told : Kept → Outcome
told k = record { state = k.state; number = answer_number k.answer; refused = answer_refused k.answer }

abbrev said : Read → Outcome
said r = record { state = r.state; number = reading_number r.reading; refused = refused r.reading }

abbrev pub after : Call → Receiving → Outcome
after (keying e iv) s = told (key_of s e iv)
after (removing e) s = told (remove_of s e)
after encrypting s = told (encrypt_of s)
after releasing s = told (release_of s)
after (beginning n) s = told (begin_of s n)
after (reading d) s = said (read_of s d)
after (masking m d) s = said (mask_of s m d).0
after (opening o d) s = said (opened_of s o d)

-- calls that move no window: all but keying, removing, and a yes
abbrev pub quiet : Call → Bool
quiet (keying e iv) = false
quiet (removing e) = false
quiet encrypting = true
quiet releasing = true
quiet (beginning n) = true
quiet (reading d) = true
quiet (masking m d) = true
quiet (opening None d) = true
quiet (opening (Some n) d) = false

-- the state behind a list of calls, the first first
abbrev pub run : List Call → Receiving → Receiving
run [] s = s
run (c ∷ cs) s = run cs (after c s).state
