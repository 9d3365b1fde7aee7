-- The words stand for the account, call after call: each answer is the one owed, and the buffer is written as the claim says. Assumes nothing.
use Rattle.std.specs.Prelude.{Ok, Err, Bool, ◌≡◌, leb, ltb, eqb, set, take, drop}
use Rattle.std.proofs.Math.Bool.{true, false}
use Rattle.std.proofs.lemmas.Bool.{false≢true}
use mathlib.Core.List.{List, [], ◌∷◌, Memᴰ as Mem}
use Rattle.std.proofs.Common.{◌∙◌, mod-eq_of_lt, get_or-set_same, get_or-set_other, get_or-take, length-take-le}
use Rattle.std.proofs.Math.Option.{Option, none, some}
use Rattle.std.proofs.Math.Path.{refl, sym, ap, subst}
use Prim.Native.Nat.{ℕ, suc, ◌+◌, ◌-◌, ◌%◌, ◌≤◌, ◌<◌}
use Rattle.std.proofs.Math.Numerals.{add-one}
use native.Mathlib.Omega.{arith}
use borrow.Author.Tests.{ltb-true, eqb-true, le-leb, le-ltb, leb-true, eq-eqb, ne_eqb}
use Rattle.std.proofs.Math.ListN.{length, get_or, length-set}
use Rattle.base.specs.Choose.{choose, both, either, if_true, if_false, test_cases, both_left, both_right, both_true, both_false, either_true, either-false}
use Rattle.base.specs.Parts.{length_part}
use Rattle.handshake.specs.declared.Header.{Header}
use Rattle.std.specs.Prelude as parsed
use Rattle.assembly.specs.declared.Piece.TheVariants as piece
use Rattle.assembly.specs.declared.PieceError.TheVariants as refused
use Rattle.assembly.specs.Spans.{most_bytes, most-pieces, last-number, words, expected-at, count_at, type_at, total-at, size-at, place_at, offset_at, length_at, expected_of, count_of, type_of, total_of, size_of, place_of, within, covered, is_whole, is_same, all_shared}
use Rattle.assembly.specs.Assembly.{Outcome, outcome, begun, moved, ended, handed, piece_at, body_at, next_at, is_fit, is_alike, is_agreed, finished, offered, read_at, taken}
use Rattle.assembly.proofs.Assembly.{fit-number, fit-end}
use Rattle.assembly.proofs.Words.{held-expected, held-size, held_place, length-held, held-count, held_start, held-span, last-start, last-span, first-type, first-total, later-type, later-total}
use Rattle.history_theorem.proofs.Lists.{by_both, mem-by}
use Rattle.assembly_theorem.specs.Account as account
use Rattle.assembly_theorem.specs.Account.{head_bytes, Fragment, fragment_in, end_of, has, byte_in, covers, covers_all, byte_of, oldest, is_among, shares_all, Account, Verdict, turned, over, other, same, whole, taken_as, judged, read_as, owed, passes, ends, holds, hands, settled, or_none, reads_from}
use Rattle.assembly_theorem.proofs.Agreement.{alike, Same, among, is-among, has_from, has_to, is-has, covers_one, one_covers, byte-first, shares_each, each_shares}
use Rattle.assembly_theorem.specs.Claim.{verdict_of, logged, is_taken, WroteOnly, Out, Right, Log, more}
use Rattle.assembly_theorem.proofs.Laws.{Sound, is-sound, held-total, words_held, bytes_held, piece_inside, shared_each, each_shared, length-put, put-here, put-beside, put-covered, whole_each}
use Rattle.assembly_theorem.proofs.ReadLaws.{fragment_of, as_fragment, reads_same, within_has, Kept, empty, next, kept-covers, kept-all, kept-count, kept-found, kept-has, kept-still}

-- ---- the words stand for the account

-- type and total are those of the first piece
pub data Headed (w : List ℕ) : List Fragment → Type 0 where
  bare : Headed w []
  by : {f : Fragment} {fs : List Fragment} → type_of w % 256 ≡ (oldest f fs).kind → total_of w ≡ (oldest f fs).total → Headed w (f ∷ fs)

-- a piece taken of message k: it has that number, the words' type and total, and the buffer has its bytes
pub record Held (w d : List ℕ) (k : ℕ) (f : Fragment) : Type 0 where
  pub number : f.number ≡ k
  pub kind : f.kind ≡ type_of w % 256
  pub total : f.total ≡ total_of w
  pub inside : end_of f ≤ total_of w
  pub bytes : (i : ℕ) → has f i ≡ true → get_or d i 0 ≡ byte_in f i

pub record Stands (w d : List ℕ) (a : Account) : Type 0 where
  pub long : length w ≡ words
  pub sound : Sound w
  pub expected : expected_of w ≡ a.out
  pub kept : Kept w (count_of w) a.pieces
  pub head : Headed w a.pieces
  pub size : size_of w ≡ a.size
  pub place : place_of w ≡ a.place
  pub each : (f : Fragment) → Mem f a.pieces → Held w d a.out f

headed-still : {w v : List ℕ} {fs : List Fragment} → type_of v ≡ type_of w → total_of v ≡ total_of w → Headed w fs → Headed v fs
headed-still e f bare = bare
headed-still e f (by a b) = by (ap (λ (n : ℕ). n % 256) e ∙ a) (f ∙ b)

-- a piece is held as before by words and bytes that have changed elsewhere
module _ {w v d x : List ℕ} {k : ℕ} {f : Fragment} where
  pub held-still : type_of v ≡ type_of w → total_of v ≡ total_of w → ((i : ℕ) → has f i ≡ true → get_or x i 0 ≡ get_or d i 0) → Held w d k f → Held v x k f
  held-still e t stay p = record {
    number = p.number;
    kind = p.kind ∙ ap (λ (n : ℕ). n % 256) (sym e);
    total = p.total ∙ sym t;
    inside = subst (λ (n : ℕ). end_of f ≤ n) (sym t) p.inside;
    bytes = λ i h. stay i h ∙ p.bytes i h;
  }

-- words of which only those of the record have changed
module _ {w v d : List ℕ} {a : Account} (s : Stands w d a) (l : length v ≡ length w) (f : (j : ℕ) → (j ≡ size-at → ⊥) → (j ≡ place_at → ⊥) → get_or v j 0 ≡ get_or w j 0) where
  pub aside : (z p : ℕ) → size_of v ≡ z → place_of v ≡ p → p ≤ z → Stands v d (record { out = a.out; pieces = a.pieces; size = z; place = p })
  aside z p ez ep h = record {
    long = l ∙ s.long;
    sound = record {
      expected = rw (f expected-at (λ e. omega arith) (λ e. omega arith)) s.sound.expected;
      count = rw (f count_at (λ e. omega arith) (λ e. omega arith)) s.sound.count;
      total = rw (f total-at (λ e. omega arith) (λ e. omega arith)) s.sound.total;
      place = rw (ez, ep) h;
    };
    expected = f expected-at (λ e. omega arith) (λ e. omega arith) ∙ s.expected;
    kept =
        rw (f count_at (λ e. omega arith) (λ e. omega arith))
        (kept-still (λ k h. f (offset_at k) (λ e. omega arith) (λ e. omega arith)) (λ k h. f (length_at k) (λ e. omega arith) (λ e. omega arith)) s.kept);
    head = headed-still (f type_at (λ e. omega arith) (λ e. omega arith)) (f total-at (λ e. omega arith) (λ e. omega arith)) s.head;
    size = ez;
    place = ep;
    each = λ g m.
        held-still (f type_at (λ e. omega arith) (λ e. omega arith)) (f total-at (λ e. omega arith) (λ e. omega arith)) (λ i h. refl) (s.each g m);
  }

-- a record begun, and another place of it
pub begun-stands : {w d : List ℕ} {a : Account} → Stands w d a → (n : ℕ) → Stands (begun w n) d (account.begins a n)
begun-stands {w} s n =
    let l = length-set w size-at n in
    aside s (length-set (set w size-at n) place_at 0 ∙ l)
    (λ j e f. get_or-set_other (set w size-at n) place_at j 0 0 f ∙ get_or-set_other w size-at j n 0 e) n 0
    (get_or-set_other (set w size-at n) place_at size-at 0 0 (λ e. omega arith) ∙ get_or-set_same w size-at n 0 (omega (arith, s.long)))
    (get_or-set_same (set w size-at n) place_at 0 0 (omega (arith, s.long))) (omega arith)

moved-stands : {w d : List ℕ} {a : Account} → Stands w d a → (p q : ℕ) → p ≡ q → p ≤ size_of w
    → Stands (moved w p) d (record { out = a.out; pieces = a.pieces; size = a.size; place = q })
moved-stands {w} {d} {a} s p q e h =
    let z = s.size in
    aside s (length-set w place_at p) (λ j x y. get_or-set_other w place_at j p 0 y) a.size q
    (get_or-set_other w place_at size-at p 0 (λ x. omega arith) ∙ s.size) (get_or-set_same w place_at p 0 (omega (arith, s.long)) ∙ e) (omega arith)

-- ---- one call over a buffer that is long enough

-- what a call leaves, and what the account makes of it: f the piece read, ms the messages out
pub record Step (a : Account) (d : List ℕ) (ms : List Out) (f : Fragment) (o : Outcome) (v : Verdict) : Type 0 where
  pub reply : verdict_of o.answer ≡ v
  pub stands : Stands o.words o.bytes (settled a v f)
  pub wrote : WroteOnly (record { piece = f; earlier = a.pieces; verdict = v; before = d; behind = o.bytes })
  pub log : Log (logged (verdict_of o.answer) f a.pieces o.bytes ms)
  pub count : length (logged (verdict_of o.answer) f a.pieces o.bytes ms) ≡ (settled a v f).out

-- what is not taken writes nothing
spared : (f : Fragment) (fs : List Fragment) (v : Verdict) (d : List ℕ) → is_taken v ≡ false
    → WroteOnly (record { piece = f; earlier = fs; verdict = v; before = d; behind = d })
spared f fs v d e = record { long = refl; bytes = λ i. sym (if_false _ _ (both_false _ e)); spared = λ z. refl }

module _ {w d : List ℕ} {a : Account} {ms : List Out} (s : Stands w d a) (log : Log ms) (out : length ms ≡ a.out) where
  module _ (f : Fragment) where
    abbrev P : Outcome → Verdict → Type 0
    P = Step a d ms f

    unchanged-end : P (outcome (Ok piece.End) w d) over
    unchanged-end = record { reply = refl; stands = s; wrote = spared f a.pieces over d refl; log = log; count = out }

    unchanged-reply : P (outcome (Err refused.Reply) w d) (turned 15)
    unchanged-reply = record { reply = refl; stands = s; wrote = spared f a.pieces (turned 15) d refl; log = log; count = out }

    -- 24, 28 and 25
    ended-stands : Stands (ended w) d (ends a)
    ended-stands = moved-stands s (size_of w) a.size s.size (omega arith)

    is-malformed : P (outcome (Err refused.Malformed) (ended w) d) (account.ended 24)
    is-malformed = record { reply = refl; stands = ended-stands; wrote = spared f a.pieces (account.ended 24) d refl; log = log; count = out }

    is-other : P (outcome (Err refused.Disagrees) (ended w) d) (account.ended 28)
    is-other = record { reply = refl; stands = ended-stands; wrote = spared f a.pieces (account.ended 28) d refl; log = log; count = out }

    is_too_many : P (outcome (Err refused.TooMany) (ended w) d) (account.ended 25)
    is_too_many = record { reply = refl; stands = ended-stands; wrote = spared f a.pieces (account.ended 25) d refl; log = log; count = out }

  -- a piece that was read
  module _ (c : List ℕ) (room : most_bytes ≤ length d) (n : length c ≡ size_of w) (h : Header) (read : piece_at c (place_of w) ≡ parsed.Some h) where
    abbrev b : List ℕ
    b = body_at c (place_of w) h

    f : Fragment
    f = fragment_of c (place_of w) h

    abbrev Q : Outcome → Verdict → Type 0
    Q = Step a d ms f

    body-length : length b ≡ h.fragment_length
    body-length = length_part (place_of w + head_bytes) h.fragment_length c (piece_inside c (place_of w) h read)

    next-is : next_at (place_of w) h ≡ a.place + head_bytes + length b
    next-is = let p = s.place in let l = body-length in omega arith

    next_fits : next_at (place_of w) h ≤ size_of w
    next_fits = let i = piece_inside c (place_of w) h read in omega arith

    passed-stands : Stands (moved w (next_at (place_of w) h)) d (passes a f)
    unfolding f
    passed-stands = moved-stands s (next_at (place_of w) h) (a.place + head_bytes + length b) next-is next_fits

    is-passed : Q (outcome (Ok (piece.Passed h.message_seq)) (moved w (next_at (place_of w) h)) d) (other h.message_seq)
    is-passed = record { reply = refl; stands = passed-stands; wrote = spared f a.pieces (other h.message_seq) d refl; log = log; count = out }

    is-again : Q (outcome (Ok piece.Same) (moved w (next_at (place_of w) h)) d) same
    is-again = record { reply = refl; stands = passed-stands; wrote = spared f a.pieces same d refl; log = log; count = out }

    -- ---- and taken

    module _ (number : h.message_seq ≡ expected_of w) (fit : is_fit w h ≡ true) (agreed : is_agreed w h b d ≡ true) (few : count_of w < most-pieces) where
      abbrev fs : List Fragment
      fs = a.pieces

      v : List ℕ
      v = words_held w h

      x : List ℕ
      x = bytes_held w c d h

      abbrev at : ℕ
      at = next_at (place_of w) h

      kept_more : Kept v (count_of v) (f ∷ fs)
      unfolding v f
      kept_more =
          rw (held-count w h at s.long few, add-one)
          (next (last-start w h at s.long few) (last-span w h at s.long few ∙ sym body-length)
          (kept-still (λ j l. held_start w h at j l (omega (arith, few))) (λ j l. held-span w h at j l few) s.kept))

      brought : (i : ℕ) → has f i ≡ true → get_or x i 0 ≡ get_or b (i - h.fragment_offset) 0
      unfolding x f
      brought i g =
          put-here w c d h room read fit i
          (ap (λ (m : ℕ). within h.fragment_offset m i) (sym body-length) ∙ within_has (fragment_of c (place_of w) h) i ∙ g)

      stayed : (i : ℕ) → covers fs i ≡ true → get_or x i 0 ≡ get_or d i 0
      unfolding x
      stayed i e = put-covered w c d h room read fit agreed i (kept-covers s.kept i ∙ e)

      besides : (i : ℕ) → has f i ≡ false → get_or x i 0 ≡ get_or d i 0
      unfolding x f
      besides i e =
          put-beside w c d h room read fit i
          (ap (λ (m : ℕ). within h.fragment_offset m i) (sym body-length) ∙ within_has (fragment_of c (place_of w) h) i ∙ e)

      length-x : length x ≡ length d
      unfolding x
      length-x = length-put w c d h room read fit

      wrote-more : (r : Verdict) → is_taken r ≡ true → WroteOnly (record { piece = f; earlier = fs; verdict = r; before = d; behind = x })
      unfolding f
      wrote-more r e = record {
        long = length-x;
        bytes = λ i. test_cases (has f i)
            (λ t. test_cases (covers fs i) (λ u. stayed i u ∙ sym (if_false _ _ (both_true e ∙ both_true t ∙ if_true _ _ u)))
            (λ u. brought i t ∙ sym (if_true _ _ (both_true e ∙ both_true t ∙ if_false _ _ u))))
            (λ t. besides i t ∙ sym (if_false _ _ (both_true e ∙ both_false _ t)));
        spared = λ z. absurd (false≢true (sym z ∙ e));
      }

      expected-still : expected_of v ≡ a.out
      unfolding v
      expected-still = held-expected w h at ∙ s.expected

      long-still : length v ≡ words
      unfolding v
      long-still = length-held w h at ∙ s.long

      size-still : size_of v ≡ a.size
      unfolding v
      size-still = held-size w h at ∙ s.size

      place-next : place_of v ≡ a.place + head_bytes + length b
      unfolding v
      place-next = held_place w h at s.long few ∙ next-is

      head_from : (gs : List Fragment) → count_of w ≡ length gs → Headed w gs → Headed v (f ∷ gs)
      unfolding v f oldest
      head_from [] e bare = by (ap (λ (m : ℕ). m % 256) (first-type w h at s.long few e)) (first-total w h at s.long few e)
      head_from (g ∷ gs) e (by p q) =
          by (ap (λ (m : ℕ). m % 256) (later-type w h at s.long few (λ z. omega arith)) ∙ p) (later-total w h at s.long few (λ z. omega arith) ∙ q)

      head_more : Headed v (f ∷ fs)
      head_more = head_from fs (kept-count s.kept) s.head

      -- the piece has the words' type and total: they are its own, or 28 has compared them
      alike-head : (gs : List Fragment) → count_of w ≡ length gs → (h.msg_type % 256 ≡ type_of v % 256) × (h.length ≡ total_of v)
      unfolding v is_agreed is_alike
      alike-head [] e = (ap (λ (m : ℕ). m % 256) (sym (first-type w h at s.long few e)), sym (first-total w h at s.long few e))
      alike-head (g ∷ gs) e =
          let z : (count_of w ≡ 0 → ⊥) = λ y. omega arith in
          let k = sym (either-false (ne_eqb (count_of w) 0 z)) ∙ both_left _ _ agreed in (
            sym (eqb-true _ _ (both_left _ _ k)) ∙ ap (λ (m : ℕ). m % 256) (sym (later-type w h at s.long few z)),
            sym (eqb-true _ _ (both_right (eqb (type_of w % 256) (h.msg_type % 256)) _ k)) ∙ sym (later-total w h at s.long few z),
          )

      held_new : Held v x a.out f
      unfolding f
      held_new =
          let k = alike-head fs (kept-count s.kept) in
          let p = fit-end w h fit in
          let l = body-length in
          record { number = number ∙ s.expected; kind = k.0; total = k.1; inside = omega (arith, k.1); bytes = λ i g. brought i g }

      held-old : (gs : List Fragment) → count_of w ≡ length gs → (g : Fragment) → Mem g gs → Mem g fs → Held v x a.out g
      unfolding v
      held-old [] e g m i = absurd (elim m [ ])
      held-old (y ∷ ys) e g m i =
          let z : (count_of w ≡ 0 → ⊥) = λ q. omega arith in
          held-still (later-type w h at s.long few z) (later-total w h at s.long few z) (λ j t. stayed j (one_covers fs g j i t)) (s.each g i)

      each_more : (g : Fragment) → Mem g (f ∷ fs) → Held v x a.out g
      each_more g m = mem-by m (λ (p : g ≡ f). subst (Held v x a.out) (sym p) held_new) (λ i. held-old fs (kept-count s.kept) g i i)

      bytes-more : (i : ℕ) → covers (f ∷ fs) i ≡ true → get_or x i 0 ≡ byte_of (f ∷ fs) i
      bytes-more i e = byte-first (f ∷ fs) i (get_or x i 0) (λ g m t. (each_more g m).bytes i t) e

      total-low : total_of v ≤ most_bytes
      unfolding v
      total-low = held-total w h at s.long few fit s.sound.total

      sound-still : Sound v
      unfolding v
      sound-still =
          let m = held-count w h at s.long few in
          let e = held-expected w h at in
          let z = held-size w h at in
          let p = held_place w h at s.long few in
          let i = next_fits in
          record { expected = omega (arith, s.sound.expected); count = omega (arith, few); total = total-low; place = omega arith }

      held-stands : Stands v x (holds a f)
      unfolding f
      held-stands = record {
        long = long-still;
        sound = sound-still;
        expected = expected-still;
        kept = kept_more;
        head = head_more;
        size = size-still;
        place = place-next;
        each = each_more;
      }

      is_held : Q (outcome (Ok piece.Held) v x) account.held
      is_held = record { reply = refl; stands = held-stands; wrote = wrote-more account.held refl; log = log; count = out }

      -- ---- and the message whole

      abbrev handed_words : List ℕ
      handed_words = handed v

      handed-other : (j : ℕ) → (j ≡ expected-at → ⊥) → (j ≡ count_at → ⊥) → get_or handed_words j 0 ≡ get_or v j 0
      handed-other j p q = get_or-set_other (set v expected-at (expected_of v + 1)) count_at j 0 0 q ∙ get_or-set_other v expected-at j (expected_of v + 1) 0 p

      count_none : count_of handed_words ≡ 0
      count_none =
          let l = long-still in
          let e = length-set v expected-at (expected_of v + 1) in
          get_or-set_same (set v expected-at (expected_of v + 1)) count_at 0 0 (omega arith)

      expected-next : expected_of handed_words ≡ expected_of v + 1
      expected-next =
          let l = long-still in
          get_or-set_other (set v expected-at (expected_of v + 1)) count_at expected-at 0 0 (λ e. omega arith) ∙ get_or-set_same v expected-at (expected_of v + 1) 0 (omega arith)

      number-low : expected_of v < last-number
      unfolding v
      number-low = let e = held-expected w h at in let p = fit-number w h fit in omega arith

      handed-stands : Stands handed_words x (hands a f)
      unfolding f
      handed-stands =
          let t = sound-still in
          record {
            long = length-set (set v expected-at (expected_of v + 1)) count_at 0 ∙ length-set v expected-at (expected_of v + 1) ∙ long-still;
            sound = record {
              expected = let e = expected-next in let l = number-low in omega arith;
              count = let e = count_none in omega arith;
              total = rw (handed-other total-at (λ e. omega arith) (λ e. omega arith)) t.total;
              place = rw (handed-other place_at (λ e. omega arith) (λ e. omega arith), handed-other size-at (λ e. omega arith) (λ e. omega arith)) t.place;
            };
            expected = expected-next ∙ add-one (expected_of v) ∙ ap suc expected-still;
            kept = rw count_none empty;
            head = bare;
            size = handed-other size-at (λ e. omega arith) (λ e. omega arith) ∙ size-still;
            place = handed-other place_at (λ e. omega arith) (λ e. omega arith) ∙ place-next;
            each = λ g m. absurd (elim m [ ]);
          }

      body-total : length (take (total_of v) x) ≡ total_of v
      body-total = let p = total-low in let q = length-x in length-take-le (total_of v) x (omega arith)

      number_is : expected_of v % 65536 ≡ a.out
      number_is = let l = number-low in mod-eq_of_lt (omega arith) ∙ expected-still

      right_from : Headed v (f ∷ fs) → is_whole v ≡ true
          → Right (record { kind = type_of v % 256; number = expected_of v % 65536; body = take (total_of v) x; last = f; earlier = fs })
      right_from (by p q) e = record {
        kind = p;
        total = body-total ∙ q;
        whole = λ i l. sym (kept-covers kept_more i) ∙ whole_each v e i (rw body-total at l);
        byte = λ i l. get_or-take (total_of v) x i 0 (rw body-total at l) ∙ bytes-more i (sym (kept-covers kept_more i) ∙ whole_each v e i (rw body-total at l));
        each = λ g m.
            let k = each_more g m in
            record { kind = k.kind; total = k.total ∙ sym body-total; byte = λ i t. get_or-take (total_of v) x i 0 (omega (arith, has_to g i t, k.inside)) ∙ k.bytes i t };
      }

      verdict_from : Headed v (f ∷ fs) → whole (type_of v % 256) (expected_of v % 65536) (total_of v) ≡ whole (oldest f fs).kind a.out (oldest f fs).total
      verdict_from (by p q) = rw (p, q, number_is)

      is-message : is_whole v ≡ true
          → Q (outcome (Ok (piece.Message (type_of v % 256) (expected_of v % 65536) (total_of v))) handed_words x) (whole (oldest f fs).kind a.out (oldest f fs).total)
      is-message e = record {
        reply = verdict_from head_more;
        stands = handed-stands;
        wrote = wrote-more (whole (oldest f fs).kind a.out (oldest f fs).total) refl;
        log = more (number_is ∙ sym out) (right_from head_more e) log;
        count = ap suc out;
      }

      total_from : Headed v (f ∷ fs) → total_of v ≡ (oldest f fs).total
      total_from (by p q) = q

      whole_same : is_whole v ≡ covers_all (f ∷ fs) (oldest f fs).total
      unfolding is_whole
      whole_same = kept-all kept_more (total_of v) ∙ ap (covers_all (f ∷ fs)) (total_from head_more)

      taken_step : Q (finished (words_held w h) (bytes_held w c d h)) (taken_as a f)
      unfolding finished taken_as v x
      taken_step = by_both Q (sym whole_same) is-message (λ e. is_held)

    -- ---- the tests agree

    fit-total-same : (gs : List Fragment) → count_of w ≡ length gs → Headed w gs → (e : ℕ) → e ≤ h.length → either (eqb (count_of w) 0) (leb e (total_of w)) ≡ leb e (oldest f gs).total
    unfolding f oldest
    fit-total-same [] z bare e l = either_true _ (eq-eqb (count_of w) 0 z) ∙ sym (le-leb e h.length l)
    fit-total-same (g ∷ gs) z (by p q) e l = either-false (ne_eqb (count_of w) 0 (λ y. omega arith)) ∙ ap (leb e) q

    abbrev E : ℕ
    E = h.fragment_offset + h.fragment_length

    abbrev T : ℕ
    T = (oldest f a.pieces).total

    ends_same : both (leb E h.length) (either (eqb (count_of w) 0) (leb E (total_of w))) ≡ both (leb E h.length) (leb E T)
    ends_same =
        test_cases (leb E h.length)
        (λ t. both_true t ∙ fit-total-same a.pieces (kept-count s.kept) s.head E (leb-true _ _ t) ∙ sym (both_true t))
        (λ t. both_false _ t ∙ sym (both_false _ t))

    fit_same : is_fit w h ≡ account.is_fit a f
    unfolding is_fit account.is_fit f
    fit_same =
        ap (λ (t : Bool). both (ltb (expected_of w) last-number) (both (leb h.length most_bytes) t)) ends_same
        ∙ ap (λ (m : ℕ). both (ltb m last-number) (both (leb h.length most_bytes) (both (leb E h.length) (leb E T)))) s.expected
        ∙ ap (λ (m : ℕ). both (ltb a.out last-number) (both (leb h.length most_bytes) (both (leb (h.fragment_offset + m) h.length) (leb (h.fragment_offset + m) T)))) (sym body-length)

    -- 28: the type and total held, and a byte that one of the pieces has is the buffer's
    alike_from : (gs : List Fragment) → count_of w ≡ length gs → Headed w gs → is_alike w h ≡ both (eqb (oldest f gs).kind f.kind) (eqb (oldest f gs).total f.total)
    unfolding is_alike f oldest
    alike_from [] z bare = either_true _ (eq-eqb (count_of w) 0 z) ∙ sym (both_true (eq-eqb (h.msg_type % 256) _ refl) ∙ eq-eqb h.length _ refl)
    alike_from (g ∷ gs) z (by p q) =
        either-false (ne_eqb (count_of w) 0 (λ y. omega arith)) ∙ ap (λ (k : ℕ). both (eqb k (h.msg_type % 256)) (eqb (total_of w) h.length)) p
        ∙ ap (λ (t : ℕ). both (eqb (oldest g gs).kind (h.msg_type % 256)) (eqb t h.length)) q

    abbrev o : ℕ
    o = h.fragment_offset

    -- a byte of the piece by its place in the body
    placed : (i : ℕ) → has f i ≡ true → (o + (i - o) ≡ i) × (i - o < length b)
    unfolding f
    placed i e = let p = has_from f i e in let q = has_to f i e in (omega arith, omega arith)

    in_body : (j : ℕ) → j < length b → (has f (o + j) ≡ true) × (byte_in f (o + j) ≡ get_or b j 0)
    unfolding f
    in_body j l = let e : o + j - o ≡ j = omega arith in (is-has f (o + j) (omega arith) (omega arith), ap (λ (k : ℕ). get_or b k 0) e)

    own-byte : (i : ℕ) → byte_in f i ≡ get_or b (i - o) 0
    unfolding f
    own-byte i = refl

    shared_same : all_shared w (count_of w) o b d (length b) ≡ shares_all f a.pieces
    shared_same =
        alike (all_shared w (count_of w) o b d (length b)) (shares_all f a.pieces)
        (λ e. each_shares f a.pieces
        (λ g m i p q. let k = placed i p in
        let t : covered w (count_of w) (o + (i - o)) ≡ true = kept-covers s.kept (o + (i - o)) ∙ ap (covers a.pieces) k.0 ∙ one_covers a.pieces g i m q in
        own-byte i ∙ shared_each w (count_of w) o b d (length b) e (i - o) k.1 t ∙ ap (λ (n : ℕ). get_or d n 0) k.0 ∙ (s.each g m).bytes i q))
        (λ e. each_shared w (count_of w) o b d (length b)
        (λ j l t. let k = in_body j l in
        let g = covers_one a.pieces (o + j) (sym (kept-covers s.kept (o + j)) ∙ t) in
        sym k.1 ∙ shares_each f a.pieces e g.0 g.1 (o + j) k.0 g.2 ∙ sym ((s.each g.0 g.1).bytes (o + j) g.2)))

    both_assoc : (x y z : Bool) → both (both x y) z ≡ both x (both y z)
    unfolding both
    both_assoc true y z = refl
    both_assoc false y z = refl

    agreed-same : is_agreed w h b d ≡ account.is_agreed a f
    unfolding is_agreed account.is_agreed
    agreed-same =
        ap (λ (t : Bool). both t (all_shared w (count_of w) o b d (length b))) (alike_from a.pieces (kept-count s.kept) s.head)
        ∙ ap (both (both (eqb (oldest f a.pieces).kind f.kind) (eqb (oldest f a.pieces).total f.total))) shared_same
        ∙ both_assoc (eqb (oldest f a.pieces).kind f.kind) (eqb (oldest f a.pieces).total f.total) (shares_all f a.pieces)

    -- the same: with these compared, a span held is one whole piece
    held-head : (gs : List Fragment) → Headed w gs → (g : Fragment) → Mem g gs → (type_of w % 256 ≡ (oldest f gs).kind) × (total_of w ≡ (oldest f gs).total)
    unfolding oldest
    held-head [] bare g m = absurd (elim m [ ])
    held-head (y ∷ ys) (by p q) g m = (p, q)

    module _ (number : h.message_seq ≡ expected_of w) (agreed : account.is_agreed a f ≡ true) where
      all-shared : shares_all f a.pieces ≡ true
      unfolding account.is_agreed
      all-shared =
          both_right (eqb (oldest f a.pieces).total f.total) _ (both_right (eqb (oldest f a.pieces).kind f.kind) _ agreed)

      whole-same_as : (g : Fragment) → Mem g a.pieces → g.offset ≡ f.offset → length g.body ≡ length f.body → Same f g
      unfolding account.is_agreed f
      whole-same_as g m eo el =
          let k = s.each g m in
          let q = held-head a.pieces s.head g m in
          let t = eqb-true _ _ (both_left _ _ agreed) in
          let u = eqb-true _ _ (both_left _ _ (both_right (eqb (oldest f a.pieces).kind f.kind) _ agreed)) in
          record {
            number = k.number ∙ sym s.expected ∙ sym number;
            kind = k.kind ∙ q.0 ∙ t;
            total = k.total ∙ q.1 ∙ u;
            offset = eo;
            size = el;
            byte = λ j l.
                let i = o + j in
                let n : i - g.offset ≡ j = omega arith in
                let z = in_body j l in
                ap (λ (y : ℕ). get_or g.body y 0) (sym n) ∙ sym (shares_each f a.pieces all-shared g m i z.0 (is-has g i (omega arith) (omega arith))) ∙ z.1;
          }

      same-same : is_same w (count_of w) o h.fragment_length ≡ is_among f a.pieces
      unfolding f
      same-same =
          alike (is_same w (count_of w) o h.fragment_length) (is_among f a.pieces)
          (λ e. let g = kept-found s.kept o h.fragment_length e in
          is-among f a.pieces (g.0, g.1, whole-same_as g.0 g.1 g.2 (g.3 ∙ sym body-length)))
          (λ e. let g = among f a.pieces e in
          ap (λ (n : ℕ). is_same w (count_of w) n h.fragment_length) (sym g.2.offset)
          ∙ ap (is_same w (count_of w) g.0.offset) (sym body-length ∙ sym g.2.size) ∙ kept-has s.kept g.0 g.1)

    few-same : ltb (count_of w) most-pieces ≡ ltb (length a.pieces) most-pieces
    few-same = ap (λ (m : ℕ). ltb m most-pieces) (kept-count s.kept)

    judged-step : h.message_seq ≡ expected_of w → Q (offered w h b (next_at (place_of w) h) d) (judged a f)
    unfolding offered judged
    judged-step number =
        by_both Q (sym fit_same)
        (λ fit. by_both Q (sym agreed-same)
        (λ agreed. by_both Q (sym (same-same number (sym agreed-same ∙ agreed))) (λ e. is-again)
        (λ e. by_both Q (sym few-same) (λ l. taken_step number fit agreed (ltb-true _ _ l)) (λ l. is_too_many f)))
        (λ e. is-other f))
        (λ e. is-malformed f)

    offered-step : Q (read_at w c d (parsed.Some h)) (read_as a (some f))
    unfolding read_at read_as f
    offered-step = by_both Q (ap (eqb h.message_seq) (sym s.expected)) (λ e. judged-step (eqb-true _ _ e)) (λ e. is-passed)

  -- ---- the call

  module _ (c : List ℕ) (room : most_bytes ≤ length d) where
    abbrev read : parsed.Option Header
    read = piece_at c (place_of w)

    read_step : length c ≡ size_of w → (p : parsed.Option Header) → read ≡ p → Step a d ms (or_none (as_fragment c (place_of w) p)) (read_at w c d p) (read_as a (as_fragment c (place_of w) p))
    unfolding read_at read_as f
    read_step n parsed.None e = is-malformed (or_none none)
    read_step n (parsed.Some h) e = offered-step c room n h e

    -- the account's verdict of what stands at the place reached, with 16 passed and before it
    abbrev begun_owed : Option Fragment → Verdict
    begun_owed q = choose (eqb (length c) a.size) (choose (ltb a.place (length c)) (read_as a q) over) (turned 15)

    abbrev owed_of : Option Fragment → Verdict
    owed_of q = choose (ltb (length d) most_bytes) (turned 16) (begun_owed q)

    found : as_fragment c (place_of w) read ≡ fragment_in (drop a.place c)
    found = sym (reads_same c (place_of w)) ∙ ap (λ (n : ℕ). fragment_in (drop n c)) s.place

    begun-step : let g = or_none (as_fragment c (place_of w) read) in
        Step a d ms g
        (choose (eqb (length c) (size_of w)) (choose (ltb (place_of w) (length c)) (read_at w c d read) (outcome (Ok piece.End) w d)) (outcome (Err refused.Reply) w d))
        (begun_owed (as_fragment c (place_of w) read))
    begun-step =
        let g = or_none (as_fragment c (place_of w) read) in
        by_both (Step a d ms g) (ap (eqb (length c)) (sym s.size))
        (λ n. by_both (Step a d ms g) (ap (λ (m : ℕ). ltb m (length c)) (sym s.place)) (λ l. read_step (eqb-true _ _ n) read refl) (λ l. unchanged-end g))
        (λ n. unchanged-reply g)

    tested-step : Step a d ms (or_none (as_fragment c (place_of w) read)) (taken w c d) (owed_of (as_fragment c (place_of w) read))
    unfolding taken
    tested-step =
        let g = or_none (as_fragment c (place_of w) read) in
        by_both (Step a d ms g) refl (λ l. absurd (false≢true (sym (le-ltb _ _ room) ∙ l)))
        (λ l. subst (λ (o : Outcome). Step a d ms g o (begun_owed (as_fragment c (place_of w) read))) (sym (if_true _ _ (is-sound w s.sound))) begun-step)

    pub long-step : Step a d ms (reads_from a c) (taken w c d) (owed a c (length d))
    unfolding owed
    long-step = subst (λ (q : Option Fragment). Step a d ms (or_none q) (taken w c d) (owed_of q)) found tested-step
