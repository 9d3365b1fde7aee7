-- The nonce of a record (RFC 8446, section 5.3; 01: "the IV with the 8-byte number XORed onto its last eight") and its laws.
-- Assumes nothing.
use Rattle.std.specs.Prelude.{List, ◌++◌, ◌≡◌, ℕ, ◌^◌, ◌<◌, length, take, drop}
use Rattle.std.proofs.Common.{sym, ap, ◌∙◌, arith, length-append, length-take, drop_at, length-take-le}
use Rattle.base.specs.Bytes.{be, xors, length-be, length-xors, xors_injective}
use Rattle.base.proofs.Bytes.{be_injective}

unfoldable pub nonce_of : List ℕ → ℕ → List ℕ
nonce_of iv n = take 4 iv ++ xors iv 4 (be 8 n)

pub length-nonce : (iv : List ℕ) (n : ℕ) → length iv ≡ 12 → length (nonce_of iv n) ≡ 12
unfolding nonce_of
length-nonce iv n h = simp (length-append, length-take, length-xors, length-be) (omega arith)

-- under one IV two numbers never share a nonce
pub nonce-once : (iv : List ℕ) (m n : ℕ) → length iv ≡ 12 → m < 2 ^ 64 → n < 2 ^ 64 → nonce_of iv m ≡ nonce_of iv n → m ≡ n
unfolding nonce_of
nonce-once iv m n h hm hn e =
    let front : length (take 4 iv) ≡ 4 = length-take-le 4 iv (omega arith) in
    let same : xors iv 4 (be 8 m) ≡ xors iv 4 (be 8 n) =
    sym (drop_at (take 4 iv) (xors iv 4 (be 8 m)) 4 front) ∙ ap (drop 4) e ∙ drop_at (take 4 iv) (xors iv 4 (be 8 n)) 4 front in
    be_injective 8 m n (omega arith) (omega arith)
    (xors_injective iv 4 (be 8 m) (be 8 n) (length-be 8 m ∙ sym (length-be 8 n)) same)
