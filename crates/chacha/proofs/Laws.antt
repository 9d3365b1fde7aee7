-- What the proofs cite of the block function, and the vectors of RFC 8439 that are computed here. Assumes nothing.
use Rattle.std.specs.Prelude.{◌≡◌, ℕ, zero, suc, ◌+◌, ◌/◌, ◌%◌, ◌<◌, ◌≤◌, List, [], ◌∷◌, length, slice_index, slice_index_or, refl}
use Rattle.std.proofs.Common.{ap, ◌∙◌, add_assoc, add-zero, zero-add, one-add, arith}
use Rattle.std.proofs.Math.ListN.{get_or-eq_default}
use Rattle.base.specs.Parts.{part, part_at}
use Rattle.chacha.specs.Chacha.{plus, rotl, abd, cdb, quarter_round, word, initial, column_round, diagonal_round, quarter_at, put_quad, double_rounds, added, bytes_of, block_words, block, mask_of, sample_words}

-- a word of a part is a word of the whole
pub word-part : (a n : ℕ) (d : List ℕ) (i : ℕ) → i + 4 ≤ n → word (part a n d) i ≡ word d (a + i)
unfolding word
word-part a n d i h =
    rw (part_at a n d i (omega arith), part_at a n d (i + 1) (omega arith), part_at a n d (i + 2) (omega arith), part_at a n d (i + 3) (omega arith))
    (rw (add_assoc a i 1, add_assoc a i 2, add_assoc a i 3))

-- the words of the nonce in a sample
pub nonce_0 : (s : List ℕ) → word (part 4 12 s) 0 ≡ word s 4
nonce_0 s = word-part 4 12 s 0 (omega arith)

pub nonce_4 : (s : List ℕ) → word (part 4 12 s) 4 ≡ word s 8
nonce_4 s = word-part 4 12 s 4 (omega arith)

pub nonce_8 : (s : List ℕ) → word (part 4 12 s) 8 ≡ word s 12
nonce_8 s = word-part 4 12 s 8 (omega arith)

-- a word of a sum of states
pub added-at : (n i : ℕ) (s t : List ℕ) (k : ℕ) → k < n → slice_index (added n i s t) k ≡ plus (slice_index s (i + k)) (slice_index t (i + k))
added-at zero i s t k h = absurd (omega arith)
added-at (suc n) i s t zero h = rw (add-zero i)
added-at (suc n) i s t (suc k) h = rw (added-at n (i + 1) s t k (omega arith), add_assoc i 1 k, one-add k)

-- a word of a block
pub block_at : (key : List ℕ) (counter : ℕ) (nonce : List ℕ) (k : ℕ) → k < 16
    → slice_index (block_words key counter nonce) k ≡ plus (slice_index (initial key counter nonce) k) (slice_index (double_rounds 10 (initial key counter nonce)) k)
unfolding block_words
block_at key counter nonce k h = added-at 16 0 (initial key counter nonce) (double_rounds 10 (initial key counter nonce)) k h ∙ rw (zero-add k)

-- a block has sixteen words, and none behind them
pub block-beyond : (key : List ℕ) (counter : ℕ) (nonce : List ℕ) (k : ℕ) → 16 ≤ k → slice_index (block_words key counter nonce) k ≡ 0
unfolding block_words
block-beyond key counter nonce k h = get_or-eq_default (block_words key counter nonce) 0 h

-- the mask is of the block's first word
pub mask_word : (key sample : List ℕ) → let x : ℕ = slice_index_or (sample_words key sample) 0 0 in mask_of key sample ≡ x % 256 ∷ x / 256 % 256 ∷ []
unfolding mask_of block block_words bytes_of
mask_word key sample = refl

-- a mask has two bytes
pub length-mask : (key sample : List ℕ) → length (mask_of key sample) ≡ 2
length-mask key sample = ap length (mask_word key sample)

-- samples with the same bytes have the same mask; a byte beyond a sample's end counts as 0
module _ (key s t : List ℕ) (same : (i : ℕ) → slice_index s i ≡ slice_index t i) where
  word_same : (i : ℕ) → word s i ≡ word t i
  unfolding word
  word_same i = rw (same i, same (i + 1), same (i + 2), same (i + 3))

  initial-same : initial key (word s 0) (part 4 12 s) ≡ initial key (word t 0) (part 4 12 t)
  unfolding initial
  initial-same = rw (nonce_0 s, nonce_4 s, nonce_8 s, nonce_0 t, nonce_4 t, nonce_8 t, word_same 0, word_same 4, word_same 8, word_same 12)

  pub mask-same : mask_of key s ≡ mask_of key t
  unfolding mask_of block block_words
  mask-same = rw initial-same

-- a block has 64 bytes
pub length-block : (key : List ℕ) (counter : ℕ) (nonce : List ℕ) → length (block key counter nonce) ≡ 64
unfolding block block_words bytes_of
length-block key counter nonce = refl

-- 2.1.1: the quarter round
pub vector_quarter : quarter_round 0x1111_1111 0x0102_0304 0x9B8D_6F43 0x0123_4567
    ≡ record { a = 0xEA2A_92F4; b = 0xCB1C_F8CE; c = 0x4581_472E; d = 0x5881_C4BB }
unfolding quarter_round abd cdb plus rotl
vector_quarter = refl

-- 2.3.2: the block function with counter 1
abbrev key_2_3_2 : List ℕ
key_2_3_2 =
    0x00 ∷ 0x01 ∷ 0x02 ∷ 0x03 ∷ 0x04 ∷ 0x05 ∷ 0x06 ∷ 0x07 ∷ 0x08 ∷ 0x09 ∷ 0x0A ∷ 0x0B ∷ 0x0C ∷ 0x0D ∷ 0x0E ∷ 0x0F
    ∷ 0x10 ∷ 0x11 ∷ 0x12 ∷ 0x13 ∷ 0x14 ∷ 0x15 ∷ 0x16 ∷ 0x17 ∷ 0x18 ∷ 0x19 ∷ 0x1A ∷ 0x1B ∷ 0x1C ∷ 0x1D ∷ 0x1E ∷ 0x1F ∷ []

abbrev nonce_2_3_2 : List ℕ
nonce_2_3_2 = 0x00 ∷ 0x00 ∷ 0x00 ∷ 0x09 ∷ 0x00 ∷ 0x00 ∷ 0x00 ∷ 0x4A ∷ 0x00 ∷ 0x00 ∷ 0x00 ∷ 0x00 ∷ []

pub vector_block : block key_2_3_2 1 nonce_2_3_2
    ≡ 0x10 ∷ 0xF1 ∷ 0xE7 ∷ 0xE4 ∷ 0xD1 ∷ 0x3B ∷ 0x59 ∷ 0x15 ∷ 0x50 ∷ 0x0F ∷ 0xDD ∷ 0x1F ∷ 0xA3 ∷ 0x20 ∷ 0x71 ∷ 0xC4
    ∷ 0xC7 ∷ 0xD1 ∷ 0xF4 ∷ 0xC7 ∷ 0x33 ∷ 0xC0 ∷ 0x68 ∷ 0x03 ∷ 0x04 ∷ 0x22 ∷ 0xAA ∷ 0x9A ∷ 0xC3 ∷ 0xD4 ∷ 0x6C ∷ 0x4E
    ∷ 0xD2 ∷ 0x82 ∷ 0x64 ∷ 0x46 ∷ 0x07 ∷ 0x9F ∷ 0xAA ∷ 0x09 ∷ 0x14 ∷ 0xC2 ∷ 0xD7 ∷ 0x05 ∷ 0xD9 ∷ 0x8B ∷ 0x02 ∷ 0xA2
    ∷ 0xB5 ∷ 0x12 ∷ 0x9C ∷ 0xD1 ∷ 0xDE ∷ 0x16 ∷ 0x4E ∷ 0xB9 ∷ 0xCB ∷ 0xD0 ∷ 0x83 ∷ 0xE8 ∷ 0xA2 ∷ 0x50 ∷ 0x3C ∷ 0x4E ∷ []
unfolding block block_words bytes_of initial word column_round diagonal_round quarter_at put_quad quarter_round abd cdb plus rotl
vector_block = refl

-- and the mask of the sample that begins with that counter and goes on with that nonce
pub vector_mask : mask_of key_2_3_2 (0x01 ∷ 0x00 ∷ 0x00 ∷ 0x00 ∷ nonce_2_3_2) ≡ 0x10 ∷ 0xF1 ∷ []
unfolding mask_of block block_words bytes_of initial word column_round diagonal_round quarter_at put_quad quarter_round abd cdb plus rotl
vector_mask = refl
