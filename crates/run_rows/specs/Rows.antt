-- The worked rows of 01, as 02 changes them: every one that is marked there, the two on settings and an empty body, and 02's own, as one table,
-- and the one fact that all of them hold of the definitions. Assumes nothing.
use Rattle.std.specs.Prelude.{Bool, true, false, ◌&&◌, not, List, [], ◌∷◌, ◌≡◌, refl, ℕ, ◌+◌, eqb, take}
use Rattle.base.specs.Bits.{bit}
use Rattle.base.specs.Choose.{choose, both, either}
use Rattle.record.specs.Record.{unified_header}
use Rattle.queue.specs.declared.Queue.{Queue}
use Rattle.queue.specs.Queue.{is_setting, slot_of, last_len, tail_of, place_of, grown, laid}
use Rattle.queue.specs.Laid.{record_len}
use Rattle.outgoing.specs.State.{fresh_sending}
use Rattle.messages.specs.Cut.{epoch_of, overhead, piece_size, cut_behind, cut_next, pieces}
use Rattle.sequence.specs.Sequence.{block_of, own, below, above, nearest}
use Rattle.window.specs.declared.ReplayWindow.{ReplayWindow}
use Rattle.window.specs.declared.Verdict.TheVariants.{Fresh, Seen, TooOld}
use Rattle.window.specs.declared.Verdict.{Verdict}
use Rattle.window.specs.Window.{unmarked, verdict, marking}

pub data Row : Type 0 where
  -- whether 16 bits were received (else 8), e, the bits; the number rebuilt
  rebuilt : Bool → ℕ → ℕ → ℕ → Row
  -- the numbers marked in a new window, one asked; the verdict on it
  window : List ℕ → ℕ → Verdict → Row
  -- a sealed record's epoch, number, length of content, type and tag; the bytes of its header
  header : ℕ → ℕ → ℕ → List ℕ → Row
  -- a handshake type; the overhead of its pieces
  over : ℕ → ℕ → Row
  -- MTU, type, the bodies sent before into an empty queue of 16 datagrams, the length of the next; its pieces
  cut : ℕ → ℕ → List ℕ → ℕ → List ℕ → Row
  -- MTU, type, the bodies sent into such a queue; the lengths of its datagrams
  queued : ℕ → ℕ → List ℕ → List ℕ → Row
  -- MTU, datagrams; whether both are in range
  setting : ℕ → ℕ → Bool → Row

-- a ClientHello goes in epoch 0, a Certificate in epoch 2
abbrev client_hello : ℕ
client_hello = 1

abbrev certificate : ℕ
certificate = 11

pub table : List Row
table =
    -- "* 16 bits, e 65,540, bits 65,535: 65,535. * e 65,530, bits 3: 65,539"
    rebuilt true 65540 65535 65535
    ∷ rebuilt true 65530 3 65539
    -- 02, 1: "at e = 0 the received bits are 40,000"
    ∷ rebuilt true 0 40000 40000
    -- "* 8 bits, e 266, bits 138: 394. * e 200, bits 72: 72. * e 0, bits 128: 128"; 02, 1: "Row "e 0, bits 200" now gives 200"
    ∷ rebuilt false 266 138 394
    ∷ rebuilt false 200 72 72
    ∷ rebuilt false 0 128 128
    ∷ rebuilt false 0 200 200
    -- "* New window: 0 fresh; * marked, not fresh. * After 100: 37 fresh, * 36 not. * After 5 then 68: 5 not fresh"; 02, 5: "Row "36 after 100" is
    -- too old; "5 after 5 then 68" is seen", and 64 or more below "too old even if it was used"
    ∷ window [] 0 Fresh
    ∷ window (0 ∷ []) 0 Seen
    ∷ window (100 ∷ []) 37 Fresh
    ∷ window (100 ∷ []) 36 TooOld
    ∷ window (5 ∷ 68 ∷ []) 5 Seen
    ∷ window (5 ∷ 69 ∷ []) 5 TooOld
    -- "* MTU 576, empty queue, epoch 2, body 1,000: pieces 542 and 458, datagrams 576 and 492. First record begins 0x2E, length 0x023B"
    ∷ over certificate 34
    ∷ cut 576 certificate [] 1000 (542 ∷ 458 ∷ [])
    ∷ queued 576 certificate (1000 ∷ []) (576 ∷ 492 ∷ [])
    ∷ header 2 0 (12 + 542 + 17) (0x2E ∷ 0 ∷ 0 ∷ 0x02 ∷ 0x3B ∷ [])
    -- "* Then body 100: pieces 50 and 50"
    ∷ cut 576 certificate (1000 ∷ []) 100 (50 ∷ 50 ∷ [])
    ∷ queued 576 certificate (1000 ∷ 100 ∷ []) (576 ∷ 576 ∷ 84 ∷ [])
    -- "Empty body in epoch 0: 25 bytes. MTU 575: 12"
    ∷ over client_hello 25
    ∷ cut 576 client_hello [] 0 (0 ∷ [])
    ∷ queued 576 client_hello (0 ∷ []) (25 ∷ [])
    ∷ setting 575 1 false
    ∷ setting 576 1 true
    ∷ []

pub same : Bool → Bool → Bool
same true b = b
same false b = not b

pub same-verdict : Verdict → Verdict → Bool
same-verdict Fresh Fresh = true
same-verdict Fresh Seen = false
same-verdict Fresh TooOld = false
same-verdict Seen Fresh = false
same-verdict Seen Seen = true
same-verdict Seen TooOld = false
same-verdict TooOld Fresh = false
same-verdict TooOld Seen = false
same-verdict TooOld TooOld = true

pub same_list : List ℕ → List ℕ → Bool
same_list [] [] = true
same_list [] (b ∷ l) = false
same_list (a ∷ k) [] = false
same_list (a ∷ k) (b ∷ l) = eqb a b && same_list k l

pub marked : List ℕ → ReplayWindow → ReplayWindow
marked [] w = w
marked (n ∷ ns) w = marked ns (marking w n)

-- the pieces of a body of n bytes, cut by the queue as it is
pub cut_at : ℕ → Queue → ℕ → List ℕ
cut_at kind q n = pieces 13 q.mtu (overhead (epoch_of kind)) (cut_behind q n)

-- the queue behind their records
pub laid_all : ℕ → List ℕ → Queue → Queue
laid_all kind [] q = q
laid_all kind (n ∷ ns) q =
    laid_all kind ns (laid q (place_of q.mtu (tail_of q) (overhead (epoch_of kind) + n)) (overhead (epoch_of kind) + n))

-- and behind bodies sent one after the other
pub sent : ℕ → List ℕ → Queue → Queue
sent kind [] q = q
sent kind (n ∷ ns) q = sent kind ns (laid_all kind (cut_at kind q n) q)

pub behind : ℕ → ℕ → List ℕ → Queue
behind mtu kind ns = sent kind ns (fresh_sending mtu 16).queue

pub right : Row → Bool
right (rebuilt s e p n) = eqb (nearest (block_of s) p e) n
right (window ns n v) = same-verdict (verdict (marked ns unmarked) n) v
right (header e n len bytes) = same_list (unified_header e n len) bytes
right (over kind n) = eqb (overhead (epoch_of kind)) n
right (cut mtu kind before n sizes) = same_list (cut_at kind (behind mtu kind before) n) sizes
right (queued mtu kind bodies sizes) = same_list (take (behind mtu kind bodies).count (behind mtu kind bodies).lengths) sizes
right (setting mtu limit t) = same (is_setting mtu limit) t

pub all_right : List Row → Bool
all_right [] = true
all_right (r ∷ rs) = right r && all_right rs

pub rows_hold : all_right table ≡ true
unfolding table all_right right same same-verdict same_list marked cut_at laid_all sent behind choose both either unified_header bit own below above nearest verdict marking is_setting slot_of last_len tail_of place_of grown laid record_len fresh_sending epoch_of piece_size cut_next pieces
rows_hold = refl
