-- The sending side's state in words that the host keeps: which word is which, and what they stand for.
use Rattle.std.specs.Prelude.{Bool, List, [], ◌∷◌, ℕ, zero, suc, ◌+◌, ◌%◌, leb, eqb, get_or, set}
use Rattle.base.specs.Choose.{both}
use Rattle.queue.specs.declared.Queue.{Queue}
use Rattle.send_keys.specs.declared.SendEpoch.{SendEpoch}
use Rattle.outgoing.specs.declared.Waiting.{Waiting}
use Rattle.outgoing.specs.declared.Sending.{Sending}
use Rattle.words.specs.Fields.{bit_of}
use Rattle.words.specs.Packed.{iv_of, put_iv}

-- ---- which word is which

abbrev pub words : ℕ
words = 39

-- the MTU
abbrev pub mtu-at : ℕ
mtu-at = 0

-- the queue's limit
abbrev pub limit-at : ℕ
limit-at = 1

-- the ring's first slot
abbrev pub first-at : ℕ
first-at = 2

-- how many datagrams wait
abbrev pub count_at : ℕ
count_at = 3

-- whether the last is closed
abbrev pub closed_at : ℕ
closed_at = 4

-- whether a sealing waits
abbrev pub sealing-at : ℕ
sealing-at = 5

-- its slot
abbrev pub sealing-slot-at : ℕ
sealing-slot-at = 6

-- where it starts there
abbrev pub sealing-start-at : ℕ
sealing-start-at = 7

-- the length of what is to be sealed
abbrev pub sealing-length-at : ℕ
sealing-length-at = 8

-- its epoch
abbrev pub sealing-epoch-at : ℕ
sealing-epoch-at = 9

-- its number
abbrev pub sealing-number-at : ℕ
sealing-number-at = 10

-- the next plaintext number
abbrev pub plaintext-next-at : ℕ
plaintext-next-at = 11

-- three words of epoch 2 and three of the application epoch: the epoch once keyed, its next number, and the number from which on its
-- records may wait
abbrev pub next_of : ℕ → ℕ
next_of b = b + 1

abbrev pub sealed-of : ℕ → ℕ
sealed-of b = b + 2

abbrev pub handshake-at : ℕ
handshake-at = 12

abbrev pub handshake-next-at : ℕ
handshake-next-at = next_of handshake-at

abbrev pub handshake-sealed-at : ℕ
handshake-sealed-at = sealed-of handshake-at

abbrev pub application-at : ℕ
application-at = 15

abbrev pub application-next-at : ℕ
application-next-at = next_of application-at

abbrev pub application-sealed-at : ℕ
application-sealed-at = sealed-of application-at

-- the next message number
abbrev pub message-at : ℕ
message-at = 18

-- the length of the datagram in each of 16 slots
abbrev pub length_at : ℕ → ℕ
length_at i = 19 + i

-- two words of each epoch's IV: the first four bytes, and the other eight
abbrev pub back_of : ℕ → ℕ
back_of a = a + 1

abbrev pub handshake-iv-at : ℕ
handshake-iv-at = 35

abbrev pub application-iv-at : ℕ
application-iv-at = 37

-- ---- what they stand for

-- n values of 16 bits, from the word i on
unfoldable pub lows_from : ℕ → ℕ → List ℕ → List ℕ
lows_from zero i w = []
lows_from (suc n) i w = (get_or w i 0 % 65536) ∷ lows_from n (suc i) w

abbrev pub lengths_of : List ℕ → List ℕ
lengths_of w = lows_from 16 (length_at 0) w

abbrev pub queue_of : List ℕ → Queue
queue_of w = record {
  mtu = get_or w mtu-at 0;
  limit = get_or w limit-at 0;
  first = get_or w first-at 0;
  count = get_or w count_at 0;
  closed = eqb (get_or w closed_at 0) 1;
  lengths = lengths_of w;
}

abbrev pub waiting_of : List ℕ → Waiting
waiting_of w = record {
  any = eqb (get_or w sealing-at 0) 1;
  slot = get_or w sealing-slot-at 0;
  start = get_or w sealing-start-at 0;
  length = get_or w sealing-length-at 0;
  epoch = get_or w sealing-epoch-at 0 % 65536;
  number = get_or w sealing-number-at 0;
}

abbrev pub epoch_from : List ℕ → ℕ → ℕ → SendEpoch
epoch_from w b at = record { epoch = get_or w b 0 % 65536; iv = iv_of (get_or w at 0) (get_or w (back_of at) 0); next = get_or w (next_of b) 0; sealed = get_or w (sealed-of b) 0 }

abbrev pub state_of : List ℕ → Sending
state_of w = record {
  queue = queue_of w;
  waiting = waiting_of w;
  keys = record {
    plaintext_next = get_or w plaintext-next-at 0;
    handshake = epoch_from w handshake-at handshake-iv-at;
    application = epoch_from w application-at application-iv-at;
  };
  message_seq = get_or w message-at 0 % 65536;
}

-- flags are 0 or 1; else a call answers 12
unfoldable pub is_flat : List ℕ → Bool
is_flat w = both (leb (get_or w closed_at 0) 1) (leb (get_or w sealing-at 0) 1)

-- ---- words written

abbrev pub put_waiting : Waiting → List ℕ → List ℕ
put_waiting x w =
    set (set (set (set (set (set w sealing-at (bit_of x.any)) sealing-slot-at x.slot) sealing-start-at x.start) sealing-length-at x.length) sealing-epoch-at x.epoch) sealing-number-at x.number

abbrev pub put_epoch : ℕ → ℕ → SendEpoch → List ℕ → List ℕ
put_epoch b at e w = put_iv at (back_of at) e.iv (set (set (set w b e.epoch) (next_of b) e.next) (sealed-of b) e.sealed)
