-- What a call reads and offers. Assumes nothing.
use Rattle.std.specs.Prelude.{Option, Some, None, true, ◌≡◌, ℕ, ◌+◌, ◌-◌, ◌≤◌, leb, length, drop}
use mathlib.Core.List.{List}
use Rattle.std.proofs.Math.Path.{sym, ap}
use Rattle.std.proofs.Common.{◌∙◌, length-drop}
use native.Mathlib.Omega.{arith}
use borrow.Author.Tests.{leb-true}
use Rattle.base.specs.Choose.{both_left, both_right}
use Rattle.base.specs.Parts.{part, length_part}
use Rattle.handshake.specs.declared.Header.{Header}
use Rattle.handshake.specs.Header.{parse_header}
use Rattle.assembly.specs.Spans.{most-pieces, most_bytes, last-number, header-length, expected_of, count_of, place_of}
use Rattle.assembly.specs.Assembly.{is_sound, measured, piece_at, next_at}
use Rattle.assembly_steps.specs.Parts.{Measured, Offers}

-- ---- a piece read

pub piece_is : (c : List ℕ) (at : ℕ) {r : List ℕ} {p q : Option Header} → r ≡ drop at c → p ≡ parse_header r → p ≡ q → measured (length r) q ≡ piece_at c at
unfolding piece_at
piece_is c at {r} e f g =
    ap (measured (length r)) (sym g ∙ f) ∙ ap (λ (l : List ℕ). measured (length l) (parse_header l)) e
    ∙ ap (λ (n : ℕ). measured n (parse_header (drop at c))) (length-drop at c)

pub cut-measured : (c : List ℕ) (at : ℕ) → Measured None c at
cut-measured c at = record { inside = λ h e. let z : ◌≡◌ {A = ℕ} 0 1 = cc in absurd (omega arith) }

pub read-measured : (c : List ℕ) (at : ℕ) (h : Header) → at + header-length + h.fragment_length ≤ length c → Measured (Some h) c at
read-measured c at h l = record { inside = λ x e. let z : h.fragment_length ≡ x.fragment_length = cc in omega arith }

-- ---- the call's tests passed

module _ (w c d : List ℕ) (room : most_bytes ≤ length d) (sound : is_sound w ≡ true) where
  count-ok : count_of w ≤ most-pieces
  unfolding is_sound
  count-ok = leb-true _ _ (both_left _ _ (both_right (leb (expected_of w) last-number) _ sound))

  pub offers : (h : Header) {b : List ℕ} → next_at (place_of w) h ≤ length c → b ≡ part (place_of w + header-length) (next_at (place_of w) h - (place_of w + header-length)) c → Offers w h b d
  offers h l e =
      record {
        count = count-ok;
        body = ap length e ∙ length_part (place_of w + header-length) (next_at (place_of w) h - (place_of w + header-length)) c (omega arith) ∙ omega arith;
        room = room;
      }
