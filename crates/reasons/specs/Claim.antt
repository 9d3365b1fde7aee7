-- Each line's reason is the first test that truly failed (02, 8). What each test is stands here in terms of the input and of the lines before:
-- no window, no list that the program keeps. Assumes nothing.
use Prim.{Unit}
use Rattle.std.specs.Prelude.{◌⊎◌, ◌↔◌, ◌≡◌, ℕ, ◌+◌, ◌-◌, ◌*◌, ◌<◌, ◌≤◌, eqb, length, get_or}
use mathlib.Core.List.{List, Memᴰ as Mem}
use Rattle.sequence.specs.Sequence.{block_of}
use Rattle.sequence.specs.Laws.{Nearest}
use Rattle.reasons.specs.declared.Reason.{Reason}
use Rattle.reasons.specs.declared.Reason.TheVariants.{Short, Record, Epoch, Old, Seen, Cipher, Taken}
use Rattle.reasons.specs.Met.{Distinct}
use Rattle.reasons.specs.Reasons.{record_size, record_at, records, bits_of, reply_of, partial_of, epoch_at, taken_in, number_in, told_to, told_at}

-- ---- the request's numbers, as it has them

-- "At most 65,536 records are read"
abbrev pub records_read : ℕ
records_read = 65536

-- "four are kept"
abbrev pub epochs_kept : ℕ
epochs_kept = 4

-- "64 or more below the highest" (02, 5), which the program keeps (02, 14)
abbrev pub old_below : ℕ
old_below = 64

-- ---- the tests

-- "bits (1, value 8 or 16), cipher reply (1, value 0 or 1), partial number (2), two zero bytes. Under 8 bits the partial's first byte is zero."
pub record WellFormed (r : List ℕ) : Type 0 where
  pub bits : (bits_of r ≡ 8) ⊎ (bits_of r ≡ 16)
  pub reply : (reply_of r ≡ 0) ⊎ (reply_of r ≡ 1)
  pub first : bits_of r ≡ 8 → get_or r 4 0 ≡ 0
  pub zeros : (get_or r 6 0 ≡ 0) × (get_or r 7 0 ≡ 0)

-- record i is whole and well-formed
pub record Formed (d : List ℕ) (i : ℕ) : Type 0 where
  pub whole : i * record_size + record_size ≤ length d
  pub formed : WellFormed (record_at d i)

-- record k, well-formed, is of epoch x, and up to it none is of the epoch of record i
pub record Sooner (d : List ℕ) (i x k : ℕ) : Type 0 where
  pub before : k < i
  pub formed : Formed d k
  pub epoch : epoch_at d k ≡ x
  pub none : (m : ℕ) → m ≤ k → Formed d m → epoch_at d m ≡ epoch_at d i → ⊥

-- four different epochs were met before that of record i was, and before record i
pub record Fifth (d : List ℕ) (i : ℕ) : Type 0 where
  pub epochs : List ℕ
  pub four : length epochs ≡ epochs_kept
  pub different : Distinct epochs
  pub each : (x : ℕ) → Mem x epochs → (k : ℕ) × Sooner d i x k

-- record j was taken before record i, in its epoch, as number n
pub record TakenBefore (d : List ℕ) (i n j : ℕ) : Type 0 where
  pub before : j < i
  pub epoch : epoch_at d j ≡ epoch_at d i
  pub taken : (told_at d j).reason ≡ Taken
  pub number : (told_at d j).number ≡ n

-- the number that record i stands for
abbrev pub number_at : List ℕ → ℕ → ℕ
number_at d i = number_in (taken_in (epoch_at d i) (told_to d i)) (record_at d i)

-- record i fails a test; "taken" is none
abbrev pub Fails : List ℕ → ℕ → Reason → Type 0
Fails d i Short = length d < i * record_size + record_size
Fails d i Record = WellFormed (record_at d i) → ⊥
Fails d i Epoch = Fifth d i
Fails d i Old = (n : ℕ) × (j : ℕ) × TakenBefore d i n j × (number_at d i + old_below ≤ n)
Fails d i Seen = (j : ℕ) × TakenBefore d i (number_at d i) j
Fails d i Cipher = reply_of (record_at d i) ≡ 0
Fails d i Taken = Unit {0}

-- "they are tested in the order short, record, epoch, old or seen, cipher"
abbrev pub rank : Reason → ℕ
rank Short = 0
rank Record = 1
rank Epoch = 2
rank Old = 3
rank Seen = 4
rank Cipher = 5
rank Taken = 6

-- the first test that record i fails
pub record First (d : List ℕ) (i : ℕ) (why : Reason) : Type 0 where
  pub fails : Fails d i why
  pub passes : (q : Reason) → rank q < rank why → Fails d i q → ⊥

-- ---- the order

module _ (d : List ℕ) (i : ℕ) where
  -- ---- the number

  -- e is one more than the highest number taken before in the epoch of record i, or 0 if none was
  pub record Expected (e : ℕ) : Type 0 where
    pub above-all : (n j : ℕ) → TakenBefore d i n j → n < e
    pub highest : 0 < e → (j : ℕ) × TakenBefore d i (e - 1) j

  -- record i stands for the number nearest to that (02, 1), as `Nearest` says it
  pub record Numbered : Type 0 where
    pub expected : ℕ
    pub is-expected : Expected expected
    pub nearest_to : Nearest (block_of (eqb (bits_of (record_at d i)) 16)) (partial_of (record_at d i)) expected (number_at d i)

-- ---- the claim

-- of every line of every input
pub record Explained (d : List ℕ) (i : ℕ) : Type 0 where
  -- "At most 65,536 records are read", and each that has a byte
  pub line : (i < records d) ↔ ((i < records_read) × (i * record_size < length d))
  -- "The reason is proved to be the first test that truly failed"
  pub reason : (why : Reason) → ((told_at d i).reason ≡ why) ↔ First d i why
  pub number : i < records_read → Numbered d i
  pub told : rank Old ≤ rank (told_at d i).reason → (told_at d i).number ≡ number_at d i
