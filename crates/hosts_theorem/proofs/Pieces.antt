-- A call of reassembly at a host: what it enters in its log is the claim's event, and the answer is the one owed. Assumes nothing.
use Rattle.std.specs.Prelude.{Result, Ok, Err, ℕ, length, List, ◌≡◌, refl}
use Rattle.std.proofs.Common.{eqb-true, sym, ap, ◌∙◌, arith}
use Rattle.base.specs.Choose.{choose, by_test, if_true, if_false, test_cases}
use Rattle.assembly.specs.Assembly.{is_sound, begun, taken}
use Rattle.assembly.specs.declared.Piece.{Piece}
use Rattle.assembly.specs.declared.PieceError.{PieceError}
use Rattle.assembly.specs.declared.Piece.TheVariants as piece
use Rattle.assembly.specs.declared.PieceError.TheVariants as refused
use Rattle.assembly_calls.specs.Calls.{flat_piece, BeginCall, TakeCall}
use Rattle.assembly_calls.specs.declared.HuskPiece.{HuskPiece}
use Rattle.assembly_theorem.specs.Account as account
use Rattle.assembly_theorem.specs.Account.{Verdict, owed}
use Rattle.assembly_theorem.specs.Claim.{Piecing, verdict_of, starts, takes, does, begin·, take·}
use Rattle.hosts_theorem.specs.Log.{verdict_in, verdict_of_begin, piece_told}

-- ---- answers

-- what the header's numbers tell is the verdict, and told by the claim's table they are the answer
told-in : (p : Result Piece PieceError) → verdict_in (flat_piece p) ≡ verdict_of p
unfolding verdict_in choose
told-in (Err refused.Short) = refl
told-in (Err refused.Setting) = refl
told-in (Err refused.Reply) = refl
told-in (Ok piece.End) = refl
told-in (Err refused.Malformed) = refl
told-in (Err refused.Disagrees) = refl
told-in (Err refused.TooMany) = refl
told-in (Ok (piece.Passed n)) = refl
told-in (Ok piece.Same) = refl
told-in (Ok piece.Held) = refl
told-in (Ok (piece.Message t n l)) = refl

told_back : (p : Result Piece PieceError) → flat_piece p ≡ piece_told (verdict_of p)
unfolding choose
told_back (Err refused.Short) = refl
told_back (Err refused.Setting) = refl
told_back (Err refused.Reply) = refl
told_back (Ok piece.End) = refl
told_back (Err refused.Malformed) = refl
told_back (Err refused.Disagrees) = refl
told_back (Err refused.TooMany) = refl
told_back (Ok (piece.Passed n)) = refl
told_back (Ok piece.Same) = refl
told_back (Ok piece.Held) = refl
told_back (Ok (piece.Message t n l)) = refl

-- 0 is begun and 12 refused
begin_in : (w : List ℕ) → verdict_of_begin (choose (is_sound w) 0 12) ≡ choose (is_sound w) account.begun (account.turned 12)
begin_in w =
    test_cases (is_sound w) (λ t. ap verdict_of_begin (if_true _ _ t) ∙ if_true _ _ refl ∙ sym (if_true _ _ t))
    (λ t. ap verdict_of_begin (if_false _ _ t) ∙ if_false _ _ refl ∙ sym (if_false _ _ t))

-- the verdict in the log is the one owed: so is the answer
pub begin-owed : (r : ℕ) → verdict_of_begin r ≡ account.begun → r ≡ 0
begin-owed r =
    by_test (λ (v : Verdict). v ≡ account.begun → r ≡ 0) (λ t e. eqb-true r 0 t) (λ t e. let z : ◌≡◌ {A = ℕ} 0 1 = cc in absurd (omega arith))

-- ---- a call

module _ (w : List ℕ) (p : Piecing) (s : w ≡ p.words) where
  pub begin_square : (r : ℕ) (v : List ℕ) (n : ℕ) → BeginCall r v w n → starts p n (verdict_of_begin r) v ≡ does p (begin· n)
  begin_square r v n m =
      (λ i. starts p n (verdict_of_begin (m.0 i)) (m.1 i)) ∙ ap (λ (x : Verdict). starts p n x (choose (is_sound w) (begun w n) w)) (begin_in w)
      ∙ ap (λ (x : List ℕ). starts p n (choose (is_sound x) account.begun (account.turned 12)) (choose (is_sound x) (begun x n) x)) s

  pub take-square : (r : HuskPiece) (v c d e : List ℕ) → TakeCall r v w c e d → takes p c d (verdict_in r) v e ≡ does p (take· c d)
  take-square r v c d e m =
      (λ i. takes p c d (verdict_in (m.0 i)) (m.1 i) (m.2 i))
      ∙ ap (λ (x : Verdict). takes p c d x (taken w c d).words (taken w c d).bytes) (told-in (taken w c d).answer)
      ∙ ap (λ (x : List ℕ). takes p c d (verdict_of (taken x c d).answer) (taken x c d).words (taken x c d).bytes) s

  -- the verdict in the log is the one owed: so is the answer, in every field
  pub take-owed : (r : HuskPiece) (v c d e : List ℕ) → TakeCall r v w c e d → verdict_in r ≡ owed p.account c (length d) → r ≡ piece_told (owed p.account c (length d))
  take-owed r v c d e m k =
      m.0 ∙ told_back (taken w c d).answer ∙ ap piece_told (sym (told-in (taken w c d).answer) ∙ ap verdict_in (sym m.0) ∙ k)
