-- The next record that waits for its sealing: found by reading the queue behind the last one that was sealed. Sealings are asked oldest
-- first and records are only appended, so every sealed record from there on waits, its epoch and number in its tag's place. Assumes nothing.
use Rattle.std.specs.Prelude.{true, List, ◌≡◌, ℕ, zero, suc, ◌+◌, ◌-◌, ◌*◌, leb, eqb, get_or}
use Rattle.std.proofs.Math.Path.{ap}
use Rattle.base.specs.Bytes.{be_at}
use Rattle.std.specs.declared.ops.ControlFlow.{ControlFlow}
use Rattle.std.specs.declared.ops.ControlFlow.TheVariants.{Continue, Break}
use Rattle.base.specs.Choose.{choose, both}
use Rattle.base.specs.Parts.{part}
use Rattle.record.specs.declared.Parsed.{Parsed}
use Rattle.record.specs.declared.Parsed.TheVariants as read
use Rattle.record.specs.declared.Ciphertext.{Ciphertext}
use Rattle.record.specs.Record.{plain_head, sealed_head, sealed_tail, parsed}
use Rattle.queue.specs.declared.Queue.{Queue}
use Rattle.queue.specs.Queue.{slot_of}
use Rattle.outgoing.specs.declared.Waiting.{Waiting}
use Rattle.outgoing.specs.State.{no_waiting}
use Rattle.sealing.specs.declared.Search.{Search}

-- the datagram, counted from the front, that lies in a slot
unfoldable pub nth_of : ℕ → ℕ → ℕ → ℕ
nth_of first limit slot = choose (leb first slot) (slot - first) (slot + limit - first)

-- a step ends the search with what it found, or leaves it at a place
abbrev pub Step : Type 0
Step = ControlFlow Waiting Search

-- on to the next datagram
unfoldable pub beyond : Search → Step
beyond c = Continue (record { datagram = c.datagram + 1; offset = 0 })

-- past a record in plaintext with a content of n bytes
unfoldable pub passed : Search → ℕ → Step
passed c n = Continue (record { datagram = c.datagram; offset = c.offset + (plain_head + n) })

-- a sealed record as it is laid: a header of 5 bytes, a content type and a tag at least; epoch and number are the tag's first 8 bytes
unfoldable pub found_at : List ℕ → Ciphertext → ℕ → Search → Step
found_at d r slot c =
    choose (both (eqb r.header_len sealed_head) (leb sealed_tail r.length))
    (Break (record {
      any = true;
      slot = slot;
      start = c.offset;
      length = r.length;
      epoch = be_at 2 d (r.length - 11);
      number = be_at 6 d (r.length - 9);
    }))
    (beyond c)

-- what lies at the search's place decides: a record in plaintext is passed, a sealed one waits, all else ends its datagram
unfoldable pub step_of : Parsed → List ℕ → ℕ → Search → Step
step_of (read.Plaintext r) d slot c = passed c r.length
step_of (read.Invalid n) d slot c = passed c n
step_of (read.Ciphertext r) d slot c = found_at d r slot c
step_of read.End d slot c = beyond c
step_of read.Incomplete d slot c = beyond c

-- the rest of a slot's datagram from an offset on
abbrev pub record_at : Queue → List ℕ → ℕ → ℕ → List ℕ
record_at q d slot offset = part (slot * q.mtu + offset) (get_or q.lengths slot 0 - offset) d

abbrev pub step_in : Queue → List ℕ → ℕ → Search → Step
step_in q d slot c = choose (leb (get_or q.lengths slot 0) c.offset) (beyond c) (step_of (parsed (record_at q d slot c.offset)) (record_at q d slot c.offset) slot c)

unfoldable pub seek_step : Queue → List ℕ → Search → Step
seek_step q d c =
    choose (leb q.count c.datagram) (Break no_waiting)
    (step_in q d (slot_of q.first q.limit c.datagram) c)

-- what a step found, or what is found from the place that it leaves the search at
abbrev pub found_from : Step → (Search → Waiting) → Waiting
found_from (Break x) later = x
found_from (Continue c) later = later c

-- at most k steps
unfoldable pub seek : ℕ → Queue → List ℕ → Search → Waiting
seek zero q d c = no_waiting
seek (suc k) q d c = found_from (seek_step q d c) (seek k q d)

-- ---- laws

module _ (q : Queue) (d : List ℕ) (c : Search) where
  pub seek-done : (k : ℕ) {x : Waiting} → seek_step q d c ≡ Break x → seek (suc k) q d c ≡ x
  unfolding seek
  seek-done k e = ap (λ (s : Step). found_from s (seek k q d)) e

  pub seek-on : (k : ℕ) {b : Search} → seek_step q d c ≡ Continue b → seek (suc k) q d c ≡ seek k q d b
  unfolding seek
  seek-on k e = ap (λ (s : Step). found_from s (seek k q d)) e

  pub seek-none : {k : ℕ} → k ≡ 0 → seek k q d c ≡ no_waiting
  unfolding seek
  seek-none e = ap (λ (k : ℕ). seek k q d c) e
