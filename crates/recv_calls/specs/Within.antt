-- Whatever stands in the words, the bytes that an answer names lie within the datagram that was lent. Assumes nothing.
use Rattle.std.specs.Prelude.{ℕ, ◌+◌, ◌≤◌, length, List, ◌≡◌}
use Rattle.std.proofs.Common.{sym, subst, arith}
use Rattle.base.specs.Choose.{by_test}
use Rattle.datagram.specs.declared.Reading.TheVariants as says
use Rattle.datagram.specs.declared.Reading.{Reading}
use Rattle.receiving.specs.Receiving.{begin_of, read_of, mask_of, opened_of}
use Rattle.receiving.specs.Within.{Within, read-within, mask-within, opened-within}
use Rattle.receiving.specs.declared.Kept.{Kept}
use Rattle.recv_key_steps.specs.Kept.{state_of}
use Rattle.recv_calls.specs.Calls.{first_reading, masks, ReadCall, BeginReadCall, MaskCall, OpenedCall}
use Rattle.recv_calls.specs.Flat.{flat_reading, opening_of}
use Rattle.recv_calls.specs.declared.HuskReading.{HuskReading}

abbrev pub Inside : List ℕ → HuskReading → Type 0
Inside d r = r.start + r.header_len + r.length ≤ length d

flat-inside : (d : List ℕ) (g : Reading) (v : List ℕ) → Within (length d) g → Inside d (flat_reading g v)
flat-inside d says.Setting v h = omega arith
flat-inside d says.Reply v h = omega arith
flat-inside d says.End v h = omega arith
flat-inside d says.Incomplete v h = omega arith
flat-inside d says.TooMany v h = omega arith
flat-inside d (says.Dropped r) v h = omega arith
flat-inside d (says.Plaintext t n s l) v h = omega arith
flat-inside d (says.Unopened b n s l) v h = omega arith
flat-inside d (says.Opened e n t s l) v h = omega arith
flat-inside d (says.Mask e s) v h = omega arith
flat-inside d (says.Opening e n s g l) v h = omega arith

-- a call that told this: a reading within, or a bare refusal
tells : (d : List ℕ) {r x : HuskReading} → r ≡ x → Inside d x → Inside d r
tells d e h = subst (Inside d) (sym e) h

-- r answered, w before, v behind, as in the contracts
pub read-inside : (r : HuskReading) (v w d : List ℕ) → ReadCall r v w d → Inside d r
read-inside r v w d c =
    let k = read_of (state_of w) d in
    tells d c.0 (by_test (Inside d) (λ t. flat-inside d k.reading k.nonce (read-within (state_of w) d)) (λ t. omega arith))

first-inside : (k : Kept) (d : List ℕ) → Inside d (first_reading k d)
unfolding first_reading
first-inside k d =
    let f = read_of k.state d in
    by_test (Inside d) (λ t. flat-inside d f.reading f.nonce (read-within k.state d)) (λ t. omega arith)

pub begin_read-inside : (r : HuskReading) (v w d : List ℕ) → BeginReadCall r v w d → Inside d r
begin_read-inside r v w d c =
    tells d c.0 (by_test (Inside d) (λ t. first-inside (begin_of (state_of w) (length d)) d) (λ t. omega arith))

pub mask-inside : (r : HuskReading) (v w : List ℕ) (m n : ℕ) (e d : List ℕ) → MaskCall r v w m n e d → Inside d r
mask-inside r v w m n e d c =
    let k = (mask_of (state_of w) (masks m n) d).0 in
    tells d c.0.0 (by_test (Inside d) (λ t. flat-inside d k.reading k.nonce (mask-within (state_of w) (masks m n) d)) (λ t. omega arith))

pub opened_inside : (r : HuskReading) (v w : List ℕ) (o len : ℕ) (d : List ℕ) → OpenedCall r v w o len d → Inside d r
opened_inside r v w o len d c =
    let k = opened_of (state_of w) (opening_of o len) d in
    tells d c.0 (by_test (Inside d) (λ t. flat-inside d k.reading k.nonce (opened-within (state_of w) (opening_of o len) d)) (λ t. omega arith))
