-- `dtls_aead::nonce_xor` meets its contract: eight stores over the end of the IV. Assumes nothing.
use Rattle.std.proofs.Common.{◌≡◌, sym, ap, ◌∙◌, refl, arith, add-one, List, [], ◌∷◌, length, get_or, set, take, ℕ, zero, suc, ◌+◌, ◌<◌, rules}
use Rattle.std.proofs.lemmas.List.Edits.{sets}
use Rattle.std.specs.Int.Bits.{bit_xor}
use Rattle.base.specs.Bytes.{xors}
use Rattle.base.proofs.Bytes.{high_first-be}
use Rattle.base.specs.Parts.{filled-end}
use Rattle.dtls_aead.specs.Nonce.{nonce_of}
use Rattle.dtls_aead.proofs.nonce_xor.Goals as goal

-- one byte more
next : (d e v : List ℕ) (i k : ℕ) → k < length v → set (sets e i (xors d i (take k v))) (i + k) (bit_xor (get_or d (i + k) 0) (get_or v k 0)) ≡ sets e i (xors d i (take (suc k) v))
next d e [] i k h = absurd (omega arith)
next d e (b ∷ v) i zero h = let here : i + 0 ≡ i = omega arith in rw here refl
next d e (b ∷ v) i (suc k) h =
    let here : i + suc k ≡ suc i + k = omega arith in
    rw (here, add-one) (next d (set e i (bit_xor (get_or d i 0) b)) v (suc i) k (omega arith))

pub loop-k-init : goal.loop-k-init
loop-k-init c = refl

pub loop-k-preserved : goal.loop-k-preserved
loop-k-preserved c =
    let number = c.to_be_bytes-number.result in
    ap (λ l. set l (4 + c.loop-k.k) (bit_xor (get_or c.args.iv (4 + c.loop-k.k) 0) (get_or number c.loop-k.k 0))) c.loop-k.invariant
    ∙ next c.args.iv c.args.iv number 4 c.loop-k.k (omega (arith, ap length c.to_be_bytes-number.ensures))
    ∙ ap (λ k. sets c.args.iv 4 (xors c.args.iv 4 (take k number))) (sym (add-one c.loop-k.k))

pub returns : goal.returns
unfolding nonce_of
returns c =
    let eight : c.loop-k.k ≡ 8 = omega arith in
    c.loop-k.invariant ∙ rw (eight, c.to_be_bytes-number.ensures ∙ high_first-be 8 c.args.seq) (filled-end c.args.iv _ 4 (search rules))
