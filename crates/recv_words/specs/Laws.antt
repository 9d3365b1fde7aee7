-- What is written reads back, and leaves the rest of the state. Assumes nothing.
use Rattle.std.specs.Prelude.{Bool, true, List, ◌≡◌, refl, ℕ, zero, suc, ◌≤◌, ◌<◌, ◌%◌, leb, eqb, length, get_or, set}
use Rattle.std.proofs.Common.{sym, ap, subst, ◌∙◌, arith, length-set}
use Rattle.base.specs.Choose.{choose, both, both_left, both_right, both_true}
use Rattle.datagram.specs.Datagram.{moved, questioned, end_asked}
use Rattle.datagram.specs.declared.Ask.{Ask}
use Rattle.datagram.specs.declared.Datagram.{Datagram}
use Rattle.datagram.specs.declared.Question.TheVariants as question
use Rattle.datagram.specs.declared.Question.{Question}
use Rattle.recv_keys.specs.Keys.{no_entry, marked}
use Rattle.recv_keys.specs.declared.RecvEpochEntry.{RecvEpochEntry}
use Rattle.window.specs.Window.{marking}
use Rattle.window.specs.declared.ReplayWindow.{ReplayWindow}
use Rattle.words.specs.Fields.{first_of, by-words, bit_of, bit-back, low_bit}
use Rattle.recv_words.specs.Words.{words, encrypted-at, released-at, ask-flag-at, ask-number-at, size-at, cursor_at, readings-at, question-at, window_at, entry_at, entries_of, keys_of, ask_of, ask_number, question_of, datagram_of, is_flat, put_question, put_datagram, put_window}

-- the entry at i
pub entry-at : (w : List ℕ) (i : ℕ) → i < 5 → get_or (entries_of w) i no_entry ≡ entry_at w i
unfolding entries_of
entry-at w zero h = refl
entry-at w (suc zero) h = refl
entry-at w (suc (suc zero)) h = refl
entry-at w (suc (suc (suc zero))) h = refl
entry-at w (suc (suc (suc (suc zero)))) h = refl
entry-at w (suc (suc (suc (suc (suc i))))) h = absurd (omega arith)

-- an epoch in a question has 16 bits
abbrev pub LowQuestion : Question → Type 0
LowQuestion question.Nothing = Unit {0}
LowQuestion (question.Mask a) = a.epoch ≤ 65535
LowQuestion (question.Opening a n) = a.epoch ≤ 65535

abbrev pub Low : Datagram → Type 0
Low b = LowQuestion b.question

-- ---- the datagram written

ask-back : (x : Ask) → x.epoch ≤ 65535 → record { epoch = x.epoch % 65536; s_flag = eqb (bit_of x.s_flag) 1; header_len = x.header_len; length = x.length } ≡ x
ask-back x l =
    let e : x.epoch % 65536 ≡ x.epoch = omega arith in
    ap (λ (y : ℕ). record { epoch = y; s_flag = eqb (bit_of x.s_flag) 1; header_len = x.header_len; length = x.length }) e
    ∙ ap (λ (y : Bool). record { epoch = x.epoch; s_flag = y; header_len = x.header_len; length = x.length }) (bit-back x.s_flag)

-- the question after the datagram's three numbers
abbrev put : Question → ℕ → ℕ → ℕ → List ℕ → List ℕ
put q s a r w = put_question q (set (set (set w size-at s) cursor_at a) readings-at r)

keys-put : (q : Question) (s a r : ℕ) (w : List ℕ) → length w ≡ words → keys_of (put q s a r w) ≡ keys_of w
unfolding first_of entries_of
keys-put question.Nothing s a r w h = by-words words (λ (v : List ℕ). keys_of (put question.Nothing s a r v) ≡ keys_of v) w h refl
keys-put (question.Mask x) s a r w h = by-words words (λ (v : List ℕ). keys_of (put (question.Mask x) s a r v) ≡ keys_of v) w h refl
keys-put (question.Opening x n) s a r w h = by-words words (λ (v : List ℕ). keys_of (put (question.Opening x n) s a r v) ≡ keys_of v) w h refl

keys-put-datagram : (b : Datagram) (w : List ℕ) → length w ≡ words → keys_of (put_datagram b w) ≡ keys_of w
keys-put-datagram b w h = keys-put b.question b.size b.at b.readings w h

-- the words of a datagram read back
question-put : (q : Question) (s a r : ℕ) (w : List ℕ) → length w ≡ words → LowQuestion q → question_of (put q s a r w) ≡ q
unfolding first_of question_of choose
question-put question.Nothing s a r w h l = by-words words (λ (v : List ℕ). question_of (put question.Nothing s a r v) ≡ question.Nothing) w h refl
question-put (question.Mask x) s a r w h l =
    by-words words (λ (v : List ℕ). question_of (put (question.Mask x) s a r v) ≡ question.Mask x) w h (ap question.Mask (ask-back x l))
question-put (question.Opening x n) s a r w h l =
    by-words words (λ (v : List ℕ). question_of (put (question.Opening x n) s a r v) ≡ question.Opening x n) w h
    (ap (λ (y : Ask). question.Opening y n) (ask-back x l))

rest_put : (q : Question) (s a r : ℕ) (w : List ℕ) → length w ≡ words → (get_or (put q s a r w) size-at 0 ≡ s) × (get_or (put q s a r w) cursor_at 0 ≡ a) × (get_or (put q s a r w) readings-at 0 ≡ r)
unfolding first_of
rest_put question.Nothing s a r w h =
    by-words words (λ (v : List ℕ). (get_or (put question.Nothing s a r v) size-at 0 ≡ s) × (get_or (put question.Nothing s a r v) cursor_at 0 ≡ a) × (get_or (put question.Nothing s a r v) readings-at 0 ≡ r)) w h (refl, refl, refl)
rest_put (question.Mask x) s a r w h =
    by-words words (λ (v : List ℕ). (get_or (put (question.Mask x) s a r v) size-at 0 ≡ s) × (get_or (put (question.Mask x) s a r v) cursor_at 0 ≡ a) × (get_or (put (question.Mask x) s a r v) readings-at 0 ≡ r)) w h (refl, refl, refl)
rest_put (question.Opening x n) s a r w h =
    by-words words (λ (v : List ℕ). (get_or (put (question.Opening x n) s a r v) size-at 0 ≡ s) × (get_or (put (question.Opening x n) s a r v) cursor_at 0 ≡ a) × (get_or (put (question.Opening x n) s a r v) readings-at 0 ≡ r)) w h (refl, refl, refl)

datagram-put : (b : Datagram) (w : List ℕ) → length w ≡ words → Low b → datagram_of (put_datagram b w) ≡ b
datagram-put b w h l =
    let e = rest_put b.question b.size b.at b.readings w h in
    rw (e.0, e.1, e.2, question-put b.question b.size b.at b.readings w h l)

-- flags and kinds stay in range
flat-rest : (w : List ℕ) → is_flat w ≡ true → (leb (get_or w encrypted-at 0) 1 ≡ true) × (leb (get_or w released-at 0) 1 ≡ true) × (leb (get_or w ask-flag-at 0) 1 ≡ true)
unfolding is_flat
flat-rest w h = let t = both_right _ _ h in (both_left _ _ h, both_left _ _ t, both_right _ _ (both_right _ _ t))

flat-by : {a b c d : Bool} → a ≡ true → b ≡ true → c ≡ true → d ≡ true → both a (both b (both c d)) ≡ true
flat-by p q r s = both_true p ∙ both_true q ∙ both_true r ∙ s

flat_of : (q : Question) (s a r : ℕ) (w : List ℕ) → length w ≡ words → is_flat w ≡ true → is_flat (put q s a r w) ≡ true
unfolding first_of is_flat
flat_of question.Nothing s a r w h =
    by-words words (λ (v : List ℕ). is_flat v ≡ true → is_flat (put question.Nothing s a r v) ≡ true) w h
    (λ f. let t = flat-rest (first_of words w) f in flat-by t.0 t.1 refl t.2)
flat_of (question.Mask x) s a r w h =
    by-words words (λ (v : List ℕ). is_flat v ≡ true → is_flat (put (question.Mask x) s a r v) ≡ true) w h
    (λ f. let t = flat-rest (first_of words w) f in flat-by t.0 t.1 refl (low_bit x.s_flag))
flat_of (question.Opening x n) s a r w h =
    by-words words (λ (v : List ℕ). is_flat v ≡ true → is_flat (put (question.Opening x n) s a r v) ≡ true) w h
    (λ f. let t = flat-rest (first_of words w) f in flat-by t.0 t.1 refl (low_bit x.s_flag))

flat-put : (b : Datagram) (w : List ℕ) → length w ≡ words → is_flat w ≡ true → is_flat (put_datagram b w) ≡ true
flat-put b w h f = flat_of b.question b.size b.at b.readings w h f

-- ---- a window written

pub length-window : (i : ℕ) (v : ReplayWindow) (w : List ℕ) → length (put_window i v w) ≡ length w
length-window i v w = simp length-set

-- a number marked in the window of the entry at i, and nothing else written
pub record Marks (i n : ℕ) (w v : List ℕ) : Type 0 where
  pub keys : keys_of v ≡ marked (keys_of w) i n
  pub datagram : datagram_of v ≡ datagram_of w
  pub ask : ask_of v ≡ ask_of w
  pub number : ask_number v ≡ ask_number w
  pub flat : is_flat v ≡ is_flat w

abbrev MarksPut : ℕ → ℕ → List ℕ → Type 0
MarksPut i n w = Marks i n w (put_window i (marking (window_at w i) n) w)

mark-put : (i n : ℕ) (w : List ℕ) → i < 5 → length w ≡ words → MarksPut i n w
unfolding first_of entries_of marked question_of is_flat
mark-put zero n w l h = by-words words (MarksPut 0 n) w h (record { keys = refl; datagram = refl; ask = refl; number = refl; flat = refl })
mark-put (suc zero) n w l h = by-words words (MarksPut 1 n) w h (record { keys = refl; datagram = refl; ask = refl; number = refl; flat = refl })
mark-put (suc (suc zero)) n w l h = by-words words (MarksPut 2 n) w h (record { keys = refl; datagram = refl; ask = refl; number = refl; flat = refl })
mark-put (suc (suc (suc zero))) n w l h = by-words words (MarksPut 3 n) w h (record { keys = refl; datagram = refl; ask = refl; number = refl; flat = refl })
mark-put (suc (suc (suc (suc zero)))) n w l h = by-words words (MarksPut 4 n) w h (record { keys = refl; datagram = refl; ask = refl; number = refl; flat = refl })
mark-put (suc (suc (suc (suc (suc i))))) n w l h = absurd (omega arith)

pub marks-at : (i n : ℕ) (w : List ℕ) (u v : ReplayWindow) → i < 5 → length w ≡ words → u ≡ (get_or (entries_of w) i no_entry).replay → v ≡ marking u n
    → Marks i n w (put_window i v w)
marks-at i n w u v l h p q =
    subst (λ (x : ReplayWindow). Marks i n w (put_window i x w))
    (sym (q ∙ ap (λ (y : ReplayWindow). marking y n) (p ∙ ap (λ (e : RecvEpochEntry). e.replay) (entry-at w i l)))) (mark-put i n w l h)

-- ---- of the datagram only the words that change are written

-- the datagram b in place of w's, and the rest of the state
pub record Lies (b : Datagram) (w v : List ℕ) : Type 0 where
  pub keys : keys_of v ≡ keys_of w
  pub datagram : datagram_of v ≡ b
  pub flat : is_flat w ≡ true → is_flat v ≡ true

abbrev MovedPut : ℕ → ℕ → List ℕ → Type 0
MovedPut at r w = Lies (moved (datagram_of w) at r) w (set (set (set w cursor_at at) readings-at r) question-at 0)

pub move_put : (at r : ℕ) (w : List ℕ) → length w ≡ words → MovedPut at r w
unfolding first_of entries_of question_of choose is_flat
move_put at r w h =
    by-words words (MovedPut at r) w h
    (record {
      keys = refl;
      datagram = refl;
      flat = λ f. let t = flat-rest (first_of words w) f in flat-by t.0 t.1 refl t.2;
    })

-- the cursor behind the record of the question
abbrev pub skipped : List ℕ → Datagram
skipped w = moved (datagram_of w) (end_asked (datagram_of w) (ask_of w)) (datagram_of w).readings

-- the opening asked for, of the record of the question
abbrev pub opening : List ℕ → ℕ → Datagram
opening w n = questioned (datagram_of w) (question.Opening (ask_of w) n)

abbrev OpeningPut : ℕ → List ℕ → Type 0
OpeningPut n w = Lies (opening w n) w (set (set w question-at 2) ask-number-at n)

pub opening-put : (n : ℕ) (w : List ℕ) → length w ≡ words → OpeningPut n w
unfolding first_of entries_of question_of choose is_flat
opening-put n w h =
    by-words words (OpeningPut n) w h
    (record {
      keys = refl;
      datagram = refl;
      flat = λ f. let t = flat-rest (first_of words w) f in flat-by t.0 t.1 refl t.2;
    })

-- ---- the datagram written, all told

pub record Put (b : Datagram) (w v : List ℕ) : Type 0 where
  pub is : v ≡ put_datagram b w
  pub low : Low b

module _ {b : Datagram} {w v : List ℕ} (p : Put b w v) (h : length w ≡ words) where
  pub put-keys : keys_of v ≡ keys_of w
  put-keys = ap keys_of p.is ∙ keys-put-datagram b w h

  pub put-datagram : datagram_of v ≡ b
  put-datagram = ap datagram_of p.is ∙ datagram-put b w h p.low

  pub put-flat : is_flat w ≡ true → is_flat v ≡ true
  put-flat f = ap is_flat p.is ∙ flat-put b w h f
