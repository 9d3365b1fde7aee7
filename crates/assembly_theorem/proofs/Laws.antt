-- What a call does, by cases, and its laws: what is not taken changes neither the buffer nor a word but the place reached; a byte that is covered
-- stays; a message is handed over exactly when every byte of it is covered. Assumes nothing.
use Rattle.std.specs.Prelude.{Result, Ok, Err, Bool, true, false, List, ◌≡◌, ℕ, ◌+◌, ◌-◌, ◌%◌, ◌≤◌, ◌<◌, leb, length, drop}
use Rattle.std.proofs.lemmas.Bool.{false≢true}
use Rattle.std.proofs.Common.{⊎_elim, sym, ◌∙◌, get_or-set_other}
use Rattle.std.proofs.Math.Path.{refl, ap}
use native.Mathlib.Omega.{arith}
use borrow.Author.Tests.{ltb-false, leb-true, eqb-true, eq-eqb, le-leb, le-ltb}
use Rattle.std.proofs.Math.ListN.{get_or}
use Rattle.base.specs.Choose.{choose, by_test, by_less, if_true, if_false, test_cases, eq-or_ne, both_true, both_left, both_right}
use Rattle.base.specs.Every.{each-every, every-each}
use Rattle.base.specs.Parts.{length_part, splice, length-splice, splice_at}
use Rattle.handshake.specs.declared.Header.{Header}
use Rattle.std.specs.Prelude as parsed
use Rattle.handshake.specs.Header.{parse_header}
use Rattle.assembly.specs.declared.Piece.{Piece}
use Rattle.assembly.specs.declared.PieceError.{PieceError}
use Rattle.assembly.specs.declared.Piece.TheVariants as piece
use Rattle.assembly.specs.declared.PieceError.TheVariants as refused
use Rattle.assembly.specs.Spans.{most-pieces, most_bytes, last-number, header-length, words, place_at, expected_of, count_of, type_of, total_of, size_of, place_of, within, covered, is_whole, is_same, is_shared, all_shared}
use Rattle.assembly.proofs.Covering.{within_from, within_to, is_within, all-each}
use Rattle.assembly.specs.Assembly.{Outcome, outcome, is_sound, moved, ended, held, measured, piece_at, body_at, next_at, is_fit, is_alike, is_agreed, finished, offered, read_at, taken}
use Rattle.assembly.proofs.Assembly.{fit-total, fit-end}
use Rattle.assembly.proofs.Words.{first-total, later-total}
use Rattle.history_theorem.proofs.Lists.{splice-other}
use Rattle.assembly_theorem.specs.Claim.{verdict_of, is_taken}

-- ---- a call by cases

-- what holds of a piece that is held
pub record Keeps (w c d : List ℕ) (h : Header) : Type 0 where
  pub room : most_bytes ≤ length d
  pub sound : is_sound w ≡ true
  pub record_length : length c ≡ size_of w
  pub read : piece_at c (place_of w) ≡ parsed.Some h
  pub number : h.message_seq ≡ expected_of w
  pub fit : is_fit w h ≡ true
  pub agreed : is_agreed w h (body_at c (place_of w) h) d ≡ true
  pub other : is_same w (count_of w) h.fragment_offset h.fragment_length ≡ false
  pub few : count_of w < most-pieces

-- the words and the buffer behind it
abbrev pub words_held : List ℕ → Header → List ℕ
words_held w h = held w h (next_at (place_of w) h)

abbrev pub bytes_held : List ℕ → List ℕ → List ℕ → Header → List ℕ
bytes_held w c d h = splice h.fragment_offset (body_at c (place_of w) h) d

-- an answer that takes nothing, with the words as they were or at another place of the record; or a piece held
module _ (w c d : List ℕ) (P : Outcome → Type 0) (unchanged : (a : Result Piece PieceError) → is_taken (verdict_of a) ≡ false → P (outcome a w d))
    (placed : (a : Result Piece PieceError) (next : ℕ) → is_taken (verdict_of a) ≡ false → P (outcome a (moved w next) d))
    (kept : (h : Header) → Keeps w c d h → P (finished (words_held w h) (bytes_held w c d h))) where
  module _ (room : most_bytes ≤ length d) (sound : is_sound w ≡ true) (n : length c ≡ size_of w) where
    by-offered : (h : Header) → piece_at c (place_of w) ≡ parsed.Some h → h.message_seq ≡ expected_of w
        → P (offered w h (body_at c (place_of w) h) (next_at (place_of w) h) d)
    unfolding offered
    by-offered h r e =
        by_test P
        (λ fit. by_test P
        (λ agreed. by_test P (λ s. placed (Ok piece.Same) (next_at (place_of w) h) refl)
        (λ o. by_less P (count_of w) most-pieces
        (λ few. kept h (record { room = room; sound = sound; record_length = n; read = r; number = e; fit = fit; agreed = agreed; other = o; few = few }))
        (λ m. placed (Err refused.TooMany) (size_of w) refl)))
        (λ t. placed (Err refused.Disagrees) (size_of w) refl))
        (λ f. placed (Err refused.Malformed) (size_of w) refl)

    by_read : (p : parsed.Option Header) → piece_at c (place_of w) ≡ p → P (read_at w c d p)
    unfolding read_at
    by_read parsed.None r = placed (Err refused.Malformed) (size_of w) refl
    by_read (parsed.Some h) r = by_test P (λ e. by-offered h r (eqb-true _ _ e)) (λ e. placed (Ok (piece.Passed h.message_seq)) (next_at (place_of w) h) refl)

  pub by-taken : P (taken w c d)
  unfolding taken
  by-taken =
      by_less P (length d) most_bytes (λ l. unchanged (Err refused.Short) refl)
      (λ room. by_test P
      (λ sound. by_test P
      (λ n. by_test P (λ l. by_read room sound (eqb-true _ _ n) (piece_at c (place_of w)) refl) (λ l. unchanged (Ok piece.End) refl))
      (λ n. unchanged (Err refused.Reply) refl))
      (λ s. unchanged (Err refused.Setting) refl))

-- ---- ranges

pub record Sound (w : List ℕ) : Type 0 where
  pub expected : expected_of w ≤ last-number
  pub count : count_of w ≤ most-pieces
  pub total : total_of w ≤ most_bytes
  pub place : place_of w ≤ size_of w

pub is-sound : (w : List ℕ) → Sound w → is_sound w ≡ true
unfolding is_sound
is-sound w s = both_true (le-leb _ _ s.expected) ∙ both_true (le-leb _ _ s.count) ∙ both_true (le-leb _ _ s.total) ∙ le-leb _ _ s.place

-- a piece that was read lies in its record
measured-inside : (n : ℕ) (p : parsed.Option Header) (h : Header) → measured n p ≡ parsed.Some h → header-length + h.fragment_length ≤ n
measured-inside n parsed.None h = λ e. let z : ◌≡◌ {A = ℕ} 0 1 = cc in absurd (omega arith)
measured-inside n (parsed.Some g) h =
    by_test (λ (q : parsed.Option Header). q ≡ parsed.Some h → header-length + h.fragment_length ≤ n)
    (λ t e. let z : ◌≡◌ {A = ℕ} 0 1 = cc in absurd (omega arith))
    (λ t e. let z : g.fragment_length ≡ h.fragment_length = cc in omega (arith, ltb-false n (header-length + g.fragment_length) t))

pub piece_inside : (c : List ℕ) (at : ℕ) (h : Header) → piece_at c at ≡ parsed.Some h → at + header-length + h.fragment_length ≤ length c
unfolding piece_at
piece_inside c at h e = omega (arith, measured-inside (length c - at) (parse_header (drop at c)) h e)

-- ---- what a body writes

module _ (w : List ℕ) (n o : ℕ) (b d : List ℕ) (m : ℕ) where
  pub shared_each : all_shared w n o b d m ≡ true → (j : ℕ) → j < m → covered w n (o + j) ≡ true → get_or b j 0 ≡ get_or d (o + j) 0
  unfolding all_shared is_shared
  shared_each e j h t = eqb-true _ _ (sym (if_true _ _ t) ∙ every-each (is_shared w n o b d) m e j h)

  pub each_shared : ((j : ℕ) → j < m → covered w n (o + j) ≡ true → get_or b j 0 ≡ get_or d (o + j) 0) → all_shared w n o b d m ≡ true
  unfolding all_shared is_shared
  each_shared f = each-every (is_shared w n o b d) m (λ j h. by_test (λ (t : Bool). t ≡ true) (λ t. eq-eqb _ _ (f j h t)) (λ t. refl))

-- a piece that was read and that 24 spares, over a buffer that is long enough
module _ (w c d : List ℕ) (h : Header) (room : most_bytes ≤ length d) (read : piece_at c (place_of w) ≡ parsed.Some h) (fit : is_fit w h ≡ true) where
  abbrev b : List ℕ
  b = body_at c (place_of w) h

  abbrev o : ℕ
  o = h.fragment_offset

  body-size : length b ≡ h.fragment_length
  body-size = length_part (place_of w + header-length) h.fragment_length c (piece_inside c (place_of w) h read)

  body-fits : o + length b ≤ length d
  body-fits = let e = body-size in let p = fit-total w h fit in let q = fit-end w h fit in omega arith

  pub length-put : length (bytes_held w c d h) ≡ length d
  length-put = length-splice o b d body-fits

  -- a byte of the body, and one beyond it
  pub put-here : (i : ℕ) → within o h.fragment_length i ≡ true → get_or (bytes_held w c d h) i 0 ≡ get_or b (i - o) 0
  put-here i e =
      let p = within_from o h.fragment_length i e in
      let q = within_to o h.fragment_length i e in
      let l = body-size in
      let k : i ≡ o + (i - o) = omega arith in
      ap (λ (j : ℕ). get_or (bytes_held w c d h) j 0) k ∙ splice_at o b d body-fits (i - o) (omega arith)

  pub put-beside : (i : ℕ) → within o h.fragment_length i ≡ false → get_or (bytes_held w c d h) i 0 ≡ get_or d i 0
  put-beside i e =
      let l = body-size in
      splice-other o b d body-fits i (λ p q. false≢true (sym e ∙ is_within o h.fragment_length i p (omega arith)))

  -- a byte that is covered stays: where the body has it, too, it is the same
  pub put-covered : is_agreed w h b d ≡ true → (i : ℕ) → covered w (count_of w) i ≡ true → get_or (bytes_held w c d h) i 0 ≡ get_or d i 0
  unfolding is_agreed
  put-covered e i t =
      test_cases (within o h.fragment_length i)
      (λ u. let p = within_from o h.fragment_length i u in
      let q = within_to o h.fragment_length i u in
      let l = body-size in
      let k : o + (i - o) ≡ i = omega arith in
      put-here i u
      ∙ shared_each w (count_of w) o b d (length b) (both_right (is_alike w h) _ e) (i - o) (omega arith) (ap (covered w (count_of w)) k ∙ t)
      ∙ ap (λ (j : ℕ). get_or d j 0) k)
      (λ u. put-beside i u)

-- ---- the laws

-- finished leaves the buffer, and takes
pub finished-bytes : (w d : List ℕ) → (finished w d).bytes ≡ d
unfolding finished
finished-bytes w d = by_test (λ (o : Outcome). o.bytes ≡ d) (λ e. refl) (λ e. refl)

finished-takes : (v x : List ℕ) → is_taken (verdict_of (finished v x).answer) ≡ true
unfolding finished
finished-takes v x = by_test (λ (o : Outcome). is_taken (verdict_of o.answer) ≡ true) (λ e. refl) (λ e. refl)

-- a call never changes a byte that is covered
pub covered-stays : (w c d : List ℕ) (i : ℕ) → covered w (count_of w) i ≡ true → get_or (taken w c d).bytes i 0 ≡ get_or d i 0
covered-stays w c d i e =
    by-taken w c d (λ (o : Outcome). get_or o.bytes i 0 ≡ get_or d i 0) (λ a u. refl) (λ a n u. refl)
    (λ h k. ap (λ (l : List ℕ). get_or l i 0) (finished-bytes (words_held w h) (bytes_held w c d h))
    ∙ put-covered w c d h k.room k.read k.fit k.agreed i e)

-- nor is the buffer's length changed
pub length-stays : (w c d : List ℕ) → length (taken w c d).bytes ≡ length d
length-stays w c d =
    by-taken w c d (λ (o : Outcome). length o.bytes ≡ length d) (λ a u. refl) (λ a n u. refl)
    (λ h k. ap length (finished-bytes (words_held w h) (bytes_held w c d h)) ∙ length-put w c d h k.room k.read k.fit)

-- "change nothing": what is not taken, refused or the same or another message's, changes neither the buffer nor a word but the place reached
pub record Aside (w d : List ℕ) (o : Outcome) : Type 0 where
  pub bytes : o.bytes ≡ d
  pub words : (j : ℕ) → (j ≡ place_at → ⊥) → get_or o.words j 0 ≡ get_or w j 0

pub not_taken : (w c d : List ℕ) → is_taken (verdict_of (taken w c d).answer) ≡ false → Aside w d (taken w c d)
not_taken w c d =
    by-taken w c d (λ (o : Outcome). is_taken (verdict_of o.answer) ≡ false → Aside w d o) (λ a u f. record { bytes = refl; words = λ j n. refl })
    (λ a next u f. record { bytes = refl; words = λ j n. get_or-set_other w place_at j next 0 n })
    (λ h k f. absurd (false≢true (sym f ∙ finished-takes (words_held w h) (bytes_held w c d h))))

-- a piece of the number expected that 24 spares
module _ (w : List ℕ) (h : Header) (b : List ℕ) (next : ℕ) (d : List ℕ) (fit : is_fit w h ≡ true) where
  -- 28 exactly if type, total or a shared byte differs: the record is over, the buffer and what is held are as they were, also with 50 held
  pub disagreed : is_agreed w h b d ≡ false → offered w h b next d ≡ outcome (Err refused.Disagrees) (ended w) d
  unfolding offered
  disagreed e = if_true _ _ fit ∙ if_false _ _ e

  module _ (agreed : is_agreed w h b d ≡ true) where
    -- the same piece again changes nothing but the place reached, also with 50 held
    pub same-again : is_same w (count_of w) h.fragment_offset h.fragment_length ≡ true → offered w h b next d ≡ outcome (Ok piece.Same) (moved w next) d
    unfolding offered
    same-again s = if_true _ _ fit ∙ if_true _ _ agreed ∙ if_true _ _ s

    -- a fifty-first different piece is refused, also if it were the last that is missing
    pub one_too_many : is_same w (count_of w) h.fragment_offset h.fragment_length ≡ false → most-pieces ≤ count_of w
        → offered w h b next d ≡ outcome (Err refused.TooMany) (ended w) d
    unfolding offered
    one_too_many s l = if_true _ _ fit ∙ if_true _ _ agreed ∙ if_false _ _ s ∙ if_false _ _ (le-ltb _ _ l)

-- a piece that is held hands the message over exactly when every byte is then covered
pub handed-whole : (w d : List ℕ) → verdict_of (finished w d).answer ≡ choose (is_whole w) (verdict_of (Ok (piece.Message (type_of w % 256) (expected_of w % 65536) (total_of w)))) (verdict_of (Ok piece.Held))
unfolding finished
handed-whole w d =
    test_cases (is_whole w) (λ e. ap (λ (o : Outcome). verdict_of o.answer) (if_true _ _ e) ∙ sym (if_true _ _ e))
    (λ e. ap (λ (o : Outcome). verdict_of o.answer) (if_false _ _ e) ∙ sym (if_false _ _ e))

pub whole_each : (v : List ℕ) → is_whole v ≡ true → (i : ℕ) → i < total_of v → covered v (count_of v) i ≡ true
unfolding is_whole
whole_each v e = all-each v (count_of v) (total_of v) e

-- ---- whatever stands in the words

-- the length that an answer tells of a message
abbrev pub told_length : Result Piece PieceError → ℕ
told_length (Err refused.Short) = 0
told_length (Err refused.Setting) = 0
told_length (Err refused.Reply) = 0
told_length (Ok piece.End) = 0
told_length (Err refused.Malformed) = 0
told_length (Err refused.Disagrees) = 0
told_length (Err refused.TooMany) = 0
told_length (Ok (piece.Passed n)) = 0
told_length (Ok piece.Same) = 0
told_length (Ok piece.Held) = 0
told_length (Ok (piece.Message t n l)) = l

untaken-length : (a : Result Piece PieceError) (m : ℕ) → is_taken (verdict_of a) ≡ false → told_length a ≤ m
untaken-length (Err refused.Short) m e = omega arith
untaken-length (Err refused.Setting) m e = omega arith
untaken-length (Err refused.Reply) m e = omega arith
untaken-length (Ok piece.End) m e = omega arith
untaken-length (Err refused.Malformed) m e = omega arith
untaken-length (Err refused.Disagrees) m e = omega arith
untaken-length (Err refused.TooMany) m e = omega arith
untaken-length (Ok (piece.Passed n)) m e = omega arith
untaken-length (Ok piece.Same) m e = omega arith
untaken-length (Ok piece.Held) m e = omega arith
untaken-length (Ok (piece.Message t n l)) m e = absurd (false≢true (sym e))

sound-total : (w : List ℕ) → is_sound w ≡ true → total_of w ≤ most_bytes
unfolding is_sound
sound-total w e = leb-true _ _ (both_left _ _ (both_right (leb (count_of w) most-pieces) _ (both_right (leb (expected_of w) last-number) _ e)))

pub held-total : (w : List ℕ) (h : Header) (next : ℕ) → length w ≡ words → count_of w < most-pieces → is_fit w h ≡ true → total_of w ≤ most_bytes → total_of (held w h next) ≤ most_bytes
held-total w h next long few fit low =
    ⊎_elim (λ z. let p = fit-total w h fit in let e = first-total w h next long few z in omega arith)
    (λ z. let e = later-total w h next long few z in omega arith) (eq-or_ne (count_of w) 0)

-- a message lies within the buffer, also by words that no call made
pub message-inside : (w c d : List ℕ) → length w ≡ words → told_length (taken w c d).answer ≤ length d
unfolding finished
message-inside w c d long =
    by-taken w c d (λ (o : Outcome). told_length o.answer ≤ length d) (λ a u. untaken-length a (length d) u) (λ a next u. untaken-length a (length d) u)
    (λ h k. by_test (λ (o : Outcome). told_length o.answer ≤ length d)
    (λ t. let l = held-total w h (next_at (place_of w) h) long k.few k.fit (sound-total w k.sound) in omega (arith, k.room)) (λ t. omega arith))
