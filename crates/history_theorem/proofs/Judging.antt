-- 9 and 26 are said in reply to a mask alone, by the number that it brings out of the record, whatever arrived. Assumes nothing.
use Rattle.std.specs.Prelude.{ℕ, ◌+◌, ◌*◌, ◌/◌, ◌%◌, ◌^◌, ◌<◌, ◌≤◌, eqb, length, get_or, drop, Bool, true, false, ◌||◌, List, ◌↔◌, Some, None, Option}
use Rattle.std.specs.Int.Bits.{bit_xor}
use Rattle.std.proofs.Common.{get_or-drop, sym, subst, ◌∙◌, arith}
use Rattle.std.proofs.lemmas.Bool.{false≢true}
use Rattle.std.proofs.Math.Path.{◌≡◌, refl, ap}
use Rattle.base.specs.Choose.{if_true, if_false, by_test, by_less}
use Rattle.datagram.specs.Datagram.{reading_number, passed, counted, end_asked}
use Rattle.datagram.specs.declared.Ask.{Ask}
use Rattle.datagram.specs.declared.Datagram.{Datagram}
use Rattle.datagram.specs.declared.Reading.TheVariants as says
use Rattle.datagram.specs.declared.Reading.{Reading}
use Rattle.datagram.specs.declared.Reason.TheVariants as reason
use Rattle.datagram.specs.declared.Step.{Step}
use Rattle.incoming.specs.declared.Inner.{Inner}
use Rattle.mask_reply.specs.Mask.{unmasked, rebuilt, ruled, judged}
use Rattle.mask_reply.proofs.Undamaged.{two-under, one-under}
use Rattle.opening_reply.specs.Opening.{typed}
use Rattle.record.specs.Record.{partial_of}
use Rattle.record.specs.declared.Ciphertext.{Ciphertext}
use Rattle.record.specs.declared.Parsed.TheVariants as parse
use Rattle.record.specs.declared.Parsed.{Parsed}
use Rattle.records.specs.Records.{locked_step, sealed_step, step_of, opening_asked}
use Rattle.recv_keys.specs.Keys.{resolve, Found}
use Rattle.recv_keys.specs.declared.RecvEpochEntry.{RecvEpochEntry}
use Rattle.recv_keys.specs.declared.RecvKeys.{RecvKeys}
use Rattle.sequence.proofs.Laws.{only-nearest}
use Rattle.sequence.specs.Laws.{Nearest}
use Rattle.sequence.specs.Sequence.{block_of, nearest}
use Rattle.window.specs.Used.{Agrees, expected}
use Rattle.window.proofs.Used.{used-below, tells}
use Rattle.window.specs.Window.{verdict}
use Rattle.window.specs.declared.ReplayWindow.{ReplayWindow}
use Rattle.window.specs.declared.Verdict.TheVariants as number
use Rattle.window.specs.declared.Verdict.{Verdict}
use Rattle.history_theorem.specs.Claim.{Rules, TellsNeither, bits_under, block_in}

-- ---- readings of which the window says nothing

-- its number of a refusal is k
abbrev is_told : ℕ → Reading → Bool
is_told k r = eqb (reading_number r) k

-- 9 or 26
abbrev pub is_ruled : Reading → Bool
is_ruled r = is_told 9 r || is_told 26 r

pub neither : (r : Reading) → is_ruled r ≡ false → TellsNeither r
neither r f = (λ e. false≢true (sym f ∙ ap is_ruled e), λ e. false≢true (sym f ∙ ap is_ruled e))

abbrev Unruled : Step → Type 0
Unruled t = is_ruled t.reading ≡ false

module _ (k : RecvKeys) (b : Datagram) where
  counted_unruled : (next : ℕ) (x : Reading) → is_ruled x ≡ false → Unruled (counted b next x)
  unfolding counted
  counted_unruled next x e = by_test Unruled (λ f. refl) (λ f. e)

  locked_unruled : (f : Found) (c : Ciphertext) → Unruled (locked_step f k b c)
  unfolding locked_step
  locked_unruled None c = refl
  locked_unruled (Some i) c = by_test Unruled (λ f. refl) (λ f. by_test Unruled (λ g. refl) (λ g. refl))

  -- a read
  pub read_unruled : (p : Parsed) → Unruled (step_of p k b)
  unfolding step_of sealed_step
  read_unruled parse.End = refl
  read_unruled parse.Incomplete = refl
  read_unruled (parse.Invalid n) = refl
  read_unruled (parse.Plaintext p) = counted_unruled _ _ refl
  read_unruled (parse.Ciphertext c) =
      by_test Unruled (λ f. locked_unruled (resolve k c.epoch_bits) c) (λ f. by_test Unruled (λ g. refl) (λ g. counted_unruled _ _ refl))

  -- a yes to an opening question
  pub typed_unruled : (a : Ask) (n : ℕ) (v : Option Inner) → Unruled (typed b a n v)
  unfolding typed
  typed_unruled a n None = refl
  typed_unruled a n (Some held) = counted_unruled _ _ refl

-- ---- a number judged

module _ (e : RecvEpochEntry) (b : Datagram) (a : Ask) (n : ℕ) (used : List ℕ) (agrees : Agrees e.replay used)
    (low : e.replay.max_seq ≤ 0xFFFF_FFFF_FFFF) where
  abbrev Told : Step → Type 0
  Told t = Rules t.reading a.epoch used n

  -- above 2^48 - 1 it was not used, and is not too old
  high-told : 0xFFFF_FFFF_FFFF < n → Told (passed b (end_asked b a) reason.TooHigh)
  high-told h =
      let z = neither (says.Dropped reason.TooHigh) refl in
      let top = agrees.highest in
      record {
        too_high = (λ p. h, λ p. refl);
        late = (
          (λ p. absurd (z.0 p), λ s. absurd (omega (arith, used-below used s.0))),
          (λ p. absurd (z.1 p), λ s. absurd (omega arith)),
        );
        fresh = λ small s o. absurd (omega arith);
      }

  -- else it is ruled on, and 8 is not said
  not_high : (r : Reading) → is_told 8 r ≡ false → n ≤ 0xFFFF_FFFF_FFFF → (r ≡ says.Dropped reason.TooHigh) ↔ (0xFFFF_FFFF_FFFF < n)
  not_high r f h = (λ p. absurd (false≢true (sym f ∙ ap (is_told 8) p)), λ l. absurd (omega arith))

  ruled-told : (v : Verdict) → verdict e.replay n ≡ v → n ≤ 0xFFFF_FFFF_FFFF → Told (ruled v e b a n)
  ruled-told number.Fresh q h =
      let t = (tells agrees n number.Fresh).0 q in
      let z = neither (opening_asked e b a n).reading (unfold opening_asked in refl) in
      record {
        too_high = not_high _ (unfold opening_asked in refl) h;
        late = (
          (λ p. absurd (z.0 p), λ s. absurd (t.0 s.0)),
          (λ p. absurd (z.1 p), λ s. absurd (omega (arith, t.1))),
        );
        fresh = λ small s o. unfold opening_asked in (b.at, a.header_len, a.length, refl);
      }
  ruled-told number.Seen q h =
      let t = (tells agrees n number.Seen).0 q in
      record {
        too_high = not_high _ refl h;
        late = (
          (λ p. t, λ s. refl),
          (λ p. let z : ◌≡◌ {A = ℕ} 0 1 = cc in absurd (omega arith), λ s. absurd (omega (arith, t.1))),
        );
        fresh = λ small s o. absurd (s t);
      }
  ruled-told number.TooOld q h =
      let t = (tells agrees n number.TooOld).0 q in
      record {
        too_high = not_high _ refl h;
        late = (
          (λ p. let z : ◌≡◌ {A = ℕ} 0 1 = cc in absurd (omega arith), λ s. absurd (omega (arith, s.1))),
          (λ p. t, λ s. refl),
        );
        fresh = λ small s o. absurd (o t);
      }

  pub judged-told : Told (judged e b a n)
  unfolding judged
  judged-told = by_less Told _ _ high-told (λ h. ruled-told _ refl h)

-- ---- the number that the bits stand for

module _ (d m rest : List ℕ) (at up n : ℕ) (room : at + 2 < length d) (lies : rest ≡ drop at d) where
  byte : (i : ℕ) → get_or rest i 0 ≡ get_or d (at + i) 0
  byte i = ap (λ (l : List ℕ). get_or l i 0) lies ∙ get_or-drop at d i 0

  stands : (s : Bool) → s ≡ eqb (get_or rest 0 0 / 8 % 2) 1 → Nearest (block_in rest) (bits_under m rest) up n
      → Nearest (block_of s) (partial_of (drop at (unmasked d at s m)) s) up n
  stands true f =
      subst (λ (x : ℕ). Nearest x (bits_under m rest) up n → Nearest 65536 (partial_of (drop at (unmasked d at true m)) true) up n) (sym (if_true _ _ (sym f)))
      (subst (λ (x : ℕ). Nearest 65536 x up n → Nearest 65536 (partial_of (drop at (unmasked d at true m)) true) up n)
      (two-under d m at room ∙ ap (λ (x : ℕ). bit_xor x (get_or m 0 0) * 256 + bit_xor (get_or d (at + 2) 0) (get_or m 1 0)) (sym (byte 1))
      ∙ ap (λ (x : ℕ). bit_xor (get_or rest 1 0) (get_or m 0 0) * 256 + bit_xor x (get_or m 1 0)) (sym (byte 2)) ∙ sym (if_true _ _ (sym f)))
      (λ near. near))
  stands false f =
      subst (λ (x : ℕ). Nearest x (bits_under m rest) up n → Nearest 256 (partial_of (drop at (unmasked d at false m)) false) up n) (sym (if_false _ _ (sym f)))
      (subst (λ (x : ℕ). Nearest 256 x up n → Nearest 256 (partial_of (drop at (unmasked d at false m)) false) up n)
      (one-under d m at (omega arith) ∙ ap (λ (x : ℕ). bit_xor x (get_or m 0 0)) (sym (byte 1)) ∙ sym (if_false _ _ (sym f)))
      (λ near. near))

  -- it is the one rebuilt
  pub stands_for : (w : ReplayWindow) (s : Bool) → s ≡ eqb (get_or rest 0 0 / 8 % 2) 1 → expected w ≡ up → up < 2 ^ 64
      → Nearest (block_in rest) (bits_under m rest) up n → n ≡ rebuilt w (partial_of (drop at (unmasked d at s m)) s) s
  unfolding rebuilt
  stands_for w s f e small near =
      only-nearest s _ up n small (stands s f near) ∙ ap (λ (x : ℕ). nearest (block_of s) (partial_of (drop at (unmasked d at s m)) s) x) (sym e)
