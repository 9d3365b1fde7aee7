-- The nonce from the two words of an IV: a number put onto a word is put onto each of its bytes. Assumes nothing.
use Rattle.std.specs.Prelude.{List, ◌++◌, ◌≡◌, ℕ, ◌/◌, ◌%◌, ◌^◌, length, replicate}
use Rattle.std.proofs.Common.{append-nil, ap, ◌∙◌, take_at, drop_at}
use borrow.Rule.Slice.PartMut.{put_mid}
use Rattle.std.specs.Int.Bits.{bit_xor}
use Rattle.std.proofs.lemmas.Nat.{xor_shr, xor_mod}
use Rattle.base.specs.Bytes.{be}
use Rattle.dtls_aead.specs.Nonce.{nonce_of}
use Rattle.words.specs.Packed.{iv_of}

-- four bytes, and eight written behind them
pub two-joined : (u v : List ℕ) → length u ≡ 4 → put_mid 4 8 (u ++ replicate 8 0) v ≡ u ++ v
two-joined u v h = rw (take_at u (replicate 8 0) 4 h, drop_at u (replicate 8 0) 4 h, append-nil v)

xor_byte : (a b k : ℕ) → bit_xor a b / 2 ^ k % 256 ≡ bit_xor (a / 2 ^ k % 256) (b / 2 ^ k % 256)
xor_byte a b k = ap (λ (x : ℕ). x % 256) (xor_shr a b k) ∙ xor_mod (a / 2 ^ k) (b / 2 ^ k) 8

pub nonce-words : (front back n : ℕ) → be 4 front ++ be 8 (bit_xor back n) ≡ nonce_of (iv_of front back) n
unfolding nonce_of iv_of
nonce-words front back n =
    rw (xor_byte back n 56, xor_byte back n 48, xor_byte back n 40, xor_byte back n 32, xor_byte back n 24, xor_byte back n 16, xor_byte back n 8, xor_byte back n 0)
