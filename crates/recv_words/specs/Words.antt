-- The receive side's state in words that the host keeps: which word is which, and what they stand for. Five words each hold the epochs,
-- the highest numbers of their windows, the marks, and at the end the first four and the other eight bytes of their IVs.
use Rattle.std.specs.Prelude.{Bool, List, [], ◌∷◌, ℕ, ◌+◌, ◌%◌, leb, eqb, get_or, set}
use Rattle.base.specs.Choose.{choose, both}
use Rattle.datagram.specs.declared.Ask.{Ask}
use Rattle.datagram.specs.declared.Datagram.{Datagram}
use Rattle.datagram.specs.declared.Question.TheVariants as question
use Rattle.datagram.specs.declared.Question.{Question}
use Rattle.recv_keys.specs.declared.RecvEpochEntry.{RecvEpochEntry}
use Rattle.recv_keys.specs.declared.RecvKeys.{RecvKeys}
use Rattle.window.specs.declared.ReplayWindow.{ReplayWindow}
use Rattle.words.specs.Fields.{bit_of}
use Rattle.words.specs.Packed.{iv_of, put_iv}

-- ---- which word is which

abbrev pub words : ℕ
words = 39

abbrev pub number_at : ℕ → ℕ
number_at i = 5 + i

abbrev pub bits_at : ℕ → ℕ
bits_at i = 10 + i

-- how many epochs are keyed
abbrev pub count_at : ℕ
count_at = 15

-- the highest ever keyed
abbrev pub highest-at : ℕ
highest-at = 16

-- peer encryption
abbrev pub encrypted-at : ℕ
encrypted-at = 17

-- application data released
abbrev pub released-at : ℕ
released-at = 18

-- the least length of a protected part
abbrev pub least_at : ℕ
least_at = 19

-- the begun datagram's length
abbrev pub size-at : ℕ
size-at = 20

-- the cursor
abbrev pub cursor_at : ℕ
cursor_at = 21

-- the readings made
abbrev pub readings-at : ℕ
readings-at = 22

-- the question that waits: 0 none, 1 mask, 2 opening
abbrev pub question-at : ℕ
question-at = 23

-- its epoch
abbrev pub ask-epoch-at : ℕ
ask-epoch-at = 24

-- whether its number has two bytes
abbrev pub ask-flag-at : ℕ
ask-flag-at = 25

-- how long its header is
abbrev pub ask-header-at : ℕ
ask-header-at = 26

-- and its protected part
abbrev pub ask-length-at : ℕ
ask-length-at = 27

-- its number
abbrev pub ask-number-at : ℕ
ask-number-at = 28

-- the first four bytes of an IV, and the other eight
abbrev pub iv-front-at : ℕ → ℕ
iv-front-at i = 29 + i

abbrev pub iv-back-at : ℕ → ℕ
iv-back-at i = 34 + i

-- ---- the keys

abbrev pub iv_at : List ℕ → ℕ → List ℕ
iv_at w i = iv_of (get_or w (iv-front-at i) 0) (get_or w (iv-back-at i) 0)

abbrev pub window_at : List ℕ → ℕ → ReplayWindow
window_at w i = record { max_seq = get_or w (number_at i) 0; window = get_or w (bits_at i) 0 }

abbrev pub entry_at : List ℕ → ℕ → RecvEpochEntry
entry_at w i = record { epoch = get_or w i 0 % 65536; iv = iv_at w i; replay = window_at w i }

unfoldable pub entries_of : List ℕ → List RecvEpochEntry
entries_of w = entry_at w 0 ∷ entry_at w 1 ∷ entry_at w 2 ∷ entry_at w 3 ∷ entry_at w 4 ∷ []

abbrev pub keys_of : List ℕ → RecvKeys
keys_of w = record {
  entries = entries_of w;
  count = get_or w count_at 0;
  highest = get_or w highest-at 0 % 65536;
  peer_encryption = eqb (get_or w encrypted-at 0) 1;
  released = eqb (get_or w released-at 0) 1;
  min_protected = get_or w least_at 0;
}

-- ---- the begun datagram

abbrev pub ask_of : List ℕ → Ask
ask_of w = record { epoch = get_or w ask-epoch-at 0 % 65536; s_flag = eqb (get_or w ask-flag-at 0) 1; header_len = get_or w ask-header-at 0; length = get_or w ask-length-at 0 }

-- the number of an opening question
abbrev pub ask_number : List ℕ → ℕ
ask_number w = get_or w ask-number-at 0

unfoldable pub question_of : List ℕ → Question
question_of w =
    choose (eqb (get_or w question-at 0) 1) (question.Mask (ask_of w))
    (choose (eqb (get_or w question-at 0) 2) (question.Opening (ask_of w) (ask_number w)) question.Nothing)

abbrev pub datagram_of : List ℕ → Datagram
datagram_of w = record { size = get_or w size-at 0; at = get_or w cursor_at 0; readings = get_or w readings-at 0; question = question_of w }

-- ---- flags are 0 or 1, and a question is of a kind that there is; else a call answers 12

unfoldable pub is_flat : List ℕ → Bool
is_flat w = both (leb (get_or w encrypted-at 0) 1) (both (leb (get_or w released-at 0) 1) (both (leb (get_or w question-at 0) 2) (leb (get_or w ask-flag-at 0) 1)))

-- ---- words written

-- the words that are no entry's
abbrev pub rest_of : List ℕ → List ℕ
rest_of w =
    get_or w count_at 0 ∷ get_or w highest-at 0 ∷ get_or w encrypted-at 0 ∷ get_or w released-at 0 ∷ get_or w least_at 0 ∷ get_or w size-at 0 ∷ get_or w cursor_at 0 ∷ get_or w readings-at 0 ∷ get_or w question-at 0 ∷ get_or w ask-epoch-at 0 ∷ get_or w ask-flag-at 0 ∷ get_or w ask-header-at 0 ∷ get_or w ask-length-at 0 ∷ get_or w ask-number-at 0 ∷ []

abbrev pub put_ask : ℕ → Ask → ℕ → List ℕ → List ℕ
put_ask kind a n w =
    set (set (set (set (set (set w question-at kind) ask-epoch-at a.epoch) ask-flag-at (bit_of a.s_flag)) ask-header-at a.header_len) ask-length-at a.length) ask-number-at n

-- without a question only its kind is written
abbrev pub put_question : Question → List ℕ → List ℕ
put_question question.Nothing w = set w question-at 0
put_question (question.Mask a) w = put_ask 1 a 0 w
put_question (question.Opening a n) w = put_ask 2 a n w

abbrev pub put_datagram : Datagram → List ℕ → List ℕ
put_datagram b w = put_question b.question (set (set (set w size-at b.size) cursor_at b.at) readings-at b.readings)

abbrev pub put_window : ℕ → ReplayWindow → List ℕ → List ℕ
put_window i v w = set (set w (number_at i) v.max_seq) (bits_at i) v.window

abbrev pub put_entry : ℕ → RecvEpochEntry → List ℕ → List ℕ
put_entry i e w = put_iv (iv-front-at i) (iv-back-at i) e.iv (put_window i e.replay (set w i e.epoch))
